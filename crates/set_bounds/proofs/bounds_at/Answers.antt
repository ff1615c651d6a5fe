-- How far it may rise and fall, and the cell, are the case's.
use mathlib.Core.Path.{◌≡◌, sym, ◌∙◌, subst}
use Prim.Native.Nat.{ℕ, ◌*◌, ◌≤◌}
use native.Mathlib.Omega.{arith}
use lib.ListN.{get_or}
use Rattle.set_bounds.specs.Bounds.{Small, low_of, high_of, up_at, down_at, small, half-small, rise-small, lowest-is, highest-is}
use Rattle.set_bounds.proofs.bounds_at.Goals as goal

pub overflow_mul-minutes : goal.overflow_mul-minutes
overflow_mul-minutes c = let a : _ = c.args in omega (arith, half-small c.requires.0 a.i c.requires.2 a.t c.requires.1)

pub bounds_of-requires : goal.bounds_of-requires
bounds_of-requires c = let a : _ = c.args in (
  subst (λ (r : ℕ). r ≤ 36000000) (sym c.product-rise.ensures)
      (rise-small c.requires.0 a.i c.requires.2 a.t c.requires.1),
  subst Small (sym c.cell_at-c.ensures) (small c.requires.0 a.i c.requires.2 a.t c.requires.1),
)

pub returns : goal.returns
returns c =
    let a : _ = c.args in let minutes : ℕ = 2 * get_or a.halves.now a.t 0 in
    let fall : c.product-fall.result ≡ minutes * down_at a.devices.now a.i = c.product-fall.ensures in
    let rise : c.product-rise.result ≡ minutes * up_at a.devices.now a.i = c.product-rise.ensures in
    let cell : _ = c.cell_at-c.ensures in (
      c.bounds_of.ensures.0 ∙ (λ j. low_of (fall j) (cell j) a.earlier) ∙ lowest-is c.requires.0 a.i c.requires.2 a.t c.requires.1 a.earlier,
      c.bounds_of.ensures.1 ∙ (λ j. high_of (rise j) (cell j) a.earlier) ∙ highest-is c.requires.0 a.i c.requires.2 a.t c.requires.1 a.earlier,
    )
