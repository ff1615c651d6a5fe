-- All intervals of a device: each fits, and in each every test holds.
use Rattle.std.specs.Prelude.{◌≡◌, List, [], ℕ, ◌+◌, ◌≤◌, ◌<◌, length}
use Rattle.std.proofs.Common.{arith}
use Rattle.std.proofs.Math.Decide.{dec_le}
use Rattle.model.specs.Breaches.{failing}
use Rattle.cell_bounds.specs.declared.Bounds.{Bounds}
use Rattle.moments.specs.Moments.{tests_at, Fits}

module _ (d : Bounds) (power0 : ℕ) (halves : List ℕ) (cells settings : List (List ℕ)) (starts powers : List ℕ) where
  pub record AllFit : Type 0 where
    pub at : (t : ℕ) → t < length halves → Fits d power0 halves cells settings starts powers t

  -- in the intervals below n
  pub record HeldTo (n : ℕ) : Type 0 where
    pub at : (t : ℕ) → t < n → failing (tests_at d power0 halves cells settings starts powers t) ≡ []

  pub held_none : HeldTo 0
  held_none = record { at = λ t h. absurd (omega arith) }

  pub held_next : {n : ℕ} → HeldTo n → failing (tests_at d power0 halves cells settings starts powers n) ≡ [] → HeldTo (n + 1)
  held_next {n} h e = record { at = λ t l. go t l (dec_le n t) }
    where
      go : (t : ℕ) → t < n + 1 → Dec (n ≤ t) → failing (tests_at d power0 halves cells settings starts powers t) ≡ []
      go t l (yes x) = let z : t ≡ n = omega arith in rw z e
      go t l (no x) = h.at t (omega arith)
