use mathlib.Core.Path.{◌≡◌, sym, subst}
use Prim.Native.Nat.{ℕ, suc, ◌-◌}
use native.Mathlib.Omega.{arith}
use lib.ListN.{drop}
use Rattle.records.specs.Views.{system_in}
use Rattle.set_limits.specs.Limits.{Limited, limited-none, limited-next, place_in}
use Rattle.set_limits.proofs.limits_of.Goals as goal

pub loop-k-init : goal.loop-k-init
loop-k-init c = let a : _ = c.args in
    limited-none (system_in a.halves.now a.zones.now a.minima.now a.devices.now a.cells.now) a.t a.sets.now a.powers.now c.requires.2.many

pub loop-k-preserved : goal.loop-k-preserved
loop-k-preserved c =
    let h : _ = c.loop-k in let l : _ = c.loop-k-test.true in
    let p : _ = c.requires in let k : _ = place_in p.2 (h.k - 1) (omega (arith, l)) in
    let a : _ = c.args in let e : suc (h.k - 1) ≡ h.k = omega (arith, l) in
    let q : _ = system_in a.halves.now a.zones.now a.minima.now a.devices.now a.cells.now in
    limited-next q a.t a.sets.now a.powers.now (h.k - 1) h.lo h.hi c.bounds_at-b.result.lo c.bounds_at-b.result.hi (omega (arith, l)) p.2.many k.2
    c.bounds_at-b.ensures.0 c.bounds_at-b.ensures.1 (subst (λ (n : ℕ). Limited q a.t (drop n a.sets.now) (drop n a.powers.now) h.lo h.hi) (sym e) h.invariant)
