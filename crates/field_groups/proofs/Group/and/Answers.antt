-- The shift loses no bit, for the group and the field together are fewer than 64.
use native.Mathlib.Omega.{arith}
use Rattle.field_groups.proofs.Joins.{join-fits, joins}
use Rattle.field_groups.proofs.Group.and.Goals as goal

pub overflow_add-result-2 : goal.overflow_add-result-2
overflow_add-result-2 c = let s = c in record { fits = join-fits s.args.self s.args.width s.args.value (omega arith) s.requires.1 (omega arith) }

pub returns : goal.returns
returns c = let s = c in joins s.args.self s.args.width s.args.value (omega arith) s.requires.1 (omega arith)
