-- What an edition has or lacks is no wider than it is.
use native.Mathlib.Omega.{arith}
use Rattle.completion_size.specs.Size.{bars-few}
use Rattle.completion_size.proofs.bars_bits.Goals as goal

pub overflow_add-result : goal.overflow_add-result
overflow_add-result c = omega (arith, c.bits_since.ensures, bars-few c.args.edition)

pub returns : goal.returns
returns c = omega (arith, c.bits_since.ensures, bars-few c.args.edition)
