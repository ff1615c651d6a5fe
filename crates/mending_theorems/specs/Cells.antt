-- When a replaced power mends a plan: every test that it does not move holds, and it lies in the span of its interval and device.
use Rattle.std.specs.Prelude.{◌≡◌, ℕ, suc, ◌+◌, ◌<◌, T, length}
use Rattle.model.specs.Case.{System, Plan}
use Rattle.model.specs.Forced.{intervals, devices, device, setting, psu, psd, power, previous}
use Rattle.model.specs.Breaches.{cell_tests, link_test, window_test}
use Rattle.mending_theorems.specs.Held.{Held, fixed_tests, ramp_tests, power_tests}

-- every test holds that the online power of interval t and device i does not move
pub record Rest (q : System) (p : Plan) (t i : ℕ) : Type 0 where
  pub elsewhere : (s j : ℕ) → s < intervals q → j < devices q → ((s ≡ t) × (j ≡ i) → ⊥) → ((s ≡ suc t) × (j ≡ i) → ⊥) → Held (cell_tests q p s j)
  pub here : Held (fixed_tests q p t i)
  pub next : suc t < intervals q → Held (fixed_tests q p (suc t) i) × Held (power_tests q p (suc t) i (setting q p (suc t) i).online (power q p (suc t) i))
  pub links : (s : ℕ) → s < intervals q → T (link_test q p s)
  pub windows : (j w : ℕ) → j < devices q → w < length (device q j).start_windows → T (window_test q p j w)

-- the moved tests of interval t and device i at an online power v
pub record Moved (q : System) (p : Plan) (t i v : ℕ) : Type 0 where
  pub ramps : Held (ramp_tests q p t i (v + psu q p t i + psd q p t i) (previous q p t i))
  pub powers : Held (power_tests q p t i v (v + psu q p t i + psd q p t i))
  pub after : suc t < intervals q → Held (ramp_tests q p (suc t) i (power q p (suc t) i) (v + psu q p t i + psd q p t i))

-- ---- the moved tests are the bounds
module _ (q : System) (p : Plan) (t i v : ℕ) where
  abbrev pub w : ℕ
  w = v + psu q p t i + psd q p t i
