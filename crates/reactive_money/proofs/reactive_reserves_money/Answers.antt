-- Nothing where nothing is held, else both at their prices, spent at once.
use mathlib.Core.Path.{refl, ap}
use native.Mathlib.Omega.{arith}
use native.Mathlib.Nat.{mul-le-mul}
use Rattle.row_places.specs.declared.Reactive.{Reactive}
use Rattle.reactive_money.specs.Charges.{held-minutes, in-settings, in_cells, amounts-small, none-entered, two-rate, held-entered}
use Rattle.reactive_money.proofs.reactive_reserves_money.Goals as goal

pub reactive_at-x-requires : goal.reactive_at-x-requires
reactive_at-x-requires c = in-settings c.requires.1

pub plus-held-requires : goal.plus-held-requires
plus-held-requires c =
    let h : _ = amounts-small c.requires.1 in
    omega (arith, h.qru, h.qrd, ap (λ (x : Reactive). x.qru.0) c.reactive_at-x.ensures, ap (λ (x : Reactive). x.qrd.0) c.reactive_at-x.ensures)

pub returns-then-held-eq0 : goal.returns-then-held-eq0
returns-then-held-eq0 c =
    let a : _ = c.args in
    none-entered a.cells.now a.settings.now a.k a.minutes a.l c.reactive_at-x.ensures c.plus-held.ensures c.if-held-eq0.true

pub reactive_cell_at-prices-requires : goal.reactive_cell_at-prices-requires
reactive_cell_at-prices-requires c = in_cells c.requires.1

pub plus-requires : goal.plus-requires
plus-requires c =
    omega (arith, (two-rate c.requires.1 c.reactive_cell_at-prices.ensures c.reactive_at-x.ensures c.at-up.ensures c.at-down.ensures refl).1)

pub over-requires : goal.over-requires
over-requires c =
    let w : _ = c.requires.1 in (
      omega (arith, (two-rate w c.reactive_cell_at-prices.ensures c.reactive_at-x.ensures c.at-up.ensures c.at-down.ensures c.plus.ensures).1),
      omega (arith, held-minutes w),
    )

pub spend-requires : goal.spend-requires
spend-requires c =
    let w : _ = c.requires.1 in
    let z : _ = two-rate w c.reactive_cell_at-prices.ensures c.reactive_at-x.ensures c.at-up.ensures c.at-down.ensures c.plus.ensures in
    omega (arith, c.requires.0.debit, c.over.ensures, mul-le-mul (held-minutes w) z.1)

pub returns : goal.returns
returns c =
    let a : _ = c.args in
    let w : _ = c.requires.1 in
    held-entered a.cells.now a.settings.now a.k a.minutes c.spend.ensures c.over.ensures (held-minutes w)
    (two-rate w c.reactive_cell_at-prices.ensures c.reactive_at-x.ensures c.at-up.ensures c.at-down.ensures c.plus.ensures)
