-- A listed breach, by the tests: at least one of its interval and device fails, or its link's, or its window's.
use Rattle.std.specs.Prelude.{◌≡◌, ℕ, suc, ◌<◌, T, length}
use Rattle.model.specs.declared.Breach.{Breach}
use Rattle.model.specs.Case.{System, Plan}
use Rattle.model.specs.Forced.{intervals, devices, device}
use Rattle.model.specs.Breaches.{cell_tests, link_test, window_test}
use Rattle.mending_theorems.specs.Held.{Held}

module _ (q : System) (p : Plan) where
  pub data Where (b : Breach) : Type 0 where
    in_cell : (t i : ℕ) → t < intervals q → i < devices q → (Held (cell_tests q p t i) → ⊥) → b.interval ≡ suc t → b.device ≡ suc i → Where b
    in-link : (t : ℕ) → t < intervals q → (T (link_test q p t) → ⊥) → b.interval ≡ suc t → b.device ≡ 0 → Where b
    in_window : (i w : ℕ) → i < devices q → w < length (device q i).start_windows → (T (window_test q p i w) → ⊥) → b.interval ≡ 0 → Where b
