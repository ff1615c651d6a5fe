-- The word has the three, and where they fit, they are what reading gives.
use native.Mathlib.Omega.{arith}
use Rattle.bits.proofs.Laws.{reaches}
use Rattle.cell_groups.proofs.Steps.{limits-found}
use Rattle.cell_groups.proofs.limits_word.Goals as goal

pub bits_at-word-requires : goal.bits_at-word-requires
bits_at-word-requires c = omega (arith, reaches c.args.s.now)

pub overflow_add-past : goal.overflow_add-past
overflow_add-past c =
    let k = c in
    omega (arith, k.requires, reaches k.args.s.now)

pub returns : goal.returns
returns c =
    let b = c in
    let k = b.before in
    limits-found k.args.s.now k.args.p k.requires b.bits_at-word.ensures c.field_in-status.ensures c.field_in-pmin.ensures c.field_in-pmax.ensures (c.limits_fit.ensures c.if-not-limits_fit.false)
