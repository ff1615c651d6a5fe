use native.Mathlib.Omega.{arith}
use Rattle.message_ends.proofs.Steps.{reach-fits, tail-fill, tail-surplus, tail_none}
use Rattle.message_ends.proofs.tail.Goals as goal

pub overflow_add-bytes : goal.overflow_add-bytes
overflow_add-bytes c = let h = reach-fits c.args.s.now in record { fits = omega arith }

pub overflow_mul-end : goal.overflow_mul-end
overflow_mul-end c = let h = reach-fits c.args.s.now in record { fits = omega arith }

pub first_one-fill-requires : goal.first_one-fill-requires
first_one-fill-requires c = let h = reach-fits c.args.s.now in omega arith

pub returns-in_default : goal.returns-in_default
returns-in_default c = search tail-fill

pub returns-then-bytes-s : goal.returns-then-bytes-s
returns-then-bytes-s c = search tail-surplus

pub returns : goal.returns
returns c = search tail_none
