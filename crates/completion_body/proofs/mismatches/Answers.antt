-- What an edition has or lacks is no more than it is.
use native.Mathlib.Omega.{arith}
use Prim.Native.Nat.{ℕ}
use mathlib.Core.Path.{ap}
use Rattle.numbers.specs.Sum.{gate}
use Rattle.layouts.specs.Since.{has}
use Rattle.completion_body.specs.Forms.{gate-few}
use Rattle.completion_body.proofs.mismatches.Goals as goal

pub overflow_add-result : goal.overflow_add-result
overflow_add-result c = let e : _ = c.args.edition in omega (arith, c.bits_since.ensures, gate-few (has 2 e) c.bars-each.result, c.bars-each.ensures.1)

pub returns : goal.returns
returns c = let e : _ = c.args.edition in omega (arith, c.bits_since.ensures, ap (λ (w : ℕ). gate (has 2 e) w) c.bars-each.ensures.0, c.bars-each.ensures.0)
