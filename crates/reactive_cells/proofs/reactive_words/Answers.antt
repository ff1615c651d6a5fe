-- Each word has two figures, and where all fit, they are what reading gives.
use native.Mathlib.Omega.{arith}
use Rattle.bits.proofs.Laws.{reaches}
use Rattle.reactive_cells.proofs.Reactive.{reactive-found}
use Rattle.reactive_cells.proofs.reactive_words.Goals as goal

pub bits_at-limits-requires : goal.bits_at-limits-requires
bits_at-limits-requires c = omega (arith, reaches c.args.s.now)

pub overflow_add-p : goal.overflow_add-p
overflow_add-p c = omega (arith, reaches c.args.s.now)

pub bits_at-prices-requires : goal.bits_at-prices-requires
bits_at-prices-requires c = omega (arith, reaches c.args.s.now)

pub overflow_add-past : goal.overflow_add-past
overflow_add-past c =
    let k = c in
    omega (arith, k.requires, reaches k.args.s.now)

pub returns : goal.returns
returns c =
    let f = c in
    let o = f.before in
    let b = o.before in
    let k = b.before in
    reactive-found k.args.s.now k.args.p k.requires b.bits_at-limits.ensures o.bits_at-prices.ensures o.offset_in-qmin.ensures f.offset_in-qmax.ensures
    f.field_in-qru.ensures c.field_in-qrd.ensures (c.reactive_fits.ensures c.if-not-reactive_fits.false)
