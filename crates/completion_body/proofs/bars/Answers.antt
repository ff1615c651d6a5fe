-- What an edition has or lacks is no more than it is.
use native.Mathlib.Omega.{arith}
use Rattle.layouts.specs.Since.{has}
use Rattle.completion_body.specs.Forms.{gate-few}
use Rattle.completion_body.proofs.bars.Goals as goal

pub overflow_add-result : goal.overflow_add-result
overflow_add-result c = omega (arith, c.bits_since.ensures, gate-few (has 5 c.args.edition) 1)

pub returns : goal.returns
returns c = omega (arith, c.bits_since.ensures, gate-few (has 5 c.args.edition) 1)
