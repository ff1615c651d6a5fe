-- Eight bytes from the field's first on that are within the reach hold all of it; the rest is told by `edge`.
use native.Mathlib.Omega.{arith}
use Rattle.bits.proofs.Laws.{read_as, reaches}
use Rattle.bits.proofs.Cursor.field.Goals as goal

pub overflow_add-past : goal.overflow_add-past
overflow_add-past c = let R = reaches c.args.s.now in omega arith

pub bits_at-requires : goal.bits_at-requires
bits_at-requires c = let R = reaches c.args.s.now in omega arith

pub returns-then-width-le56 : goal.returns-then-width-le56
returns-then-width-le56 c = read_as _ _ _ c.bits_at.ensures (omega arith)
