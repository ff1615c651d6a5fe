-- No edition has wider counts.
use native.Mathlib.Omega.{arith}
use Rattle.completion_size.specs.Size.{counts-few}
use Rattle.completion_size.proofs.front_bits.Goals as goal

pub overflow_add-result-2 : goal.overflow_add-result-2
overflow_add-result-2 c = omega (arith, c.device_bits.ensures, counts-few c.args.edition)

pub overflow_add-result-3 : goal.overflow_add-result-3
overflow_add-result-3 c = omega (arith, c.interval_bits.ensures, c.device_bits.ensures, counts-few c.args.edition)

pub overflow_add-result-4 : goal.overflow_add-result-4
overflow_add-result-4 c = omega (arith, c.interval_bits.ensures, c.device_bits.ensures, counts-few c.args.edition)

pub returns : goal.returns
returns c = omega (arith, c.interval_bits.ensures, c.device_bits.ensures, counts-few c.args.edition)
