-- The answer from the first breach: only the power of its interval and device, or of the interval before, can mend the plan, and of each of the two only the nearest in its span
-- need be tried.
use Rattle.std.specs.Prelude.{◌≡◌, ◌⊎◌, ltb, length, get_or}
use Rattle.std.proofs.Math.Option.{Option}
use mathlib.Core.List.{List, [], ◌∷◌}
use Prim.Native.Nat.{ℕ, zero, suc, ◌-◌, ◌<◌}
use Rattle.bits.specs.Pick.{pick}
use Rattle.numbers.specs.Base.{range, gather}
use Rattle.model.specs.declared.Breach.{Breach}
use Rattle.model.specs.Case.{System, Plan}
use Rattle.model.specs.Forced.{intervals, devices, setting}
use Rattle.mending.specs.Mending.{Change, mends, change, those, nearest}
use Rattle.spans.specs.Spans.{span_of, clamped}
use Rattle.spans.specs.declared.Span.{Span}
use Rattle.mending_theorems.specs.Bounds.{bounds}

-- a plan of the case's counts
pub record Shaped (q : System) (p : Plan) : Type 0 where
  pub intervals : length p.settings ≡ intervals q
  pub devices : (t : ℕ) → t < length p.settings → length (get_or p.settings t []) ≡ devices q

-- ---- what is tried
module _ (most : ℕ) (q : System) (p : Plan) where
  -- the powers of an interval and device that the moved rules leave
  unfoldable pub span_at : ℕ → ℕ → Span
  span_at t i = span_of most (bounds q p t i)

  -- the old power, held within them
  unfoldable pub attempt : ℕ → ℕ → Change
  attempt t i = record { interval = t; device = i; power = clamped (span_at t i) (setting q p t i).online }

  -- where there are any
  unfoldable pub attempts : ℕ → ℕ → List Change
  attempts t i = pick (ltb (span_at t i).from (span_at t i).until) (attempt t i ∷ []) []

  -- of the breach's interval and the one before; none for a breach of a link or a window
  unfoldable pub tries_at : ℕ → ℕ → List Change
  tries_at zero d = []
  tries_at (suc t) zero = []
  tries_at (suc t) (suc i) = gather (λ s. attempts s i) (range (t - 1) (suc t - (t - 1)))

  -- the answer, from the first breach
  unfoldable pub mended_from : Breach → Option Change
  mended_from b = nearest (change q p) (those (mends q p) (tries_at b.interval b.device))

-- ---- one interval and device
module _ (most : ℕ) (q : System) (p : Plan) (s : Shaped q p) where
  -- ---- the first breach

  -- a change that mends is of a breach's device, in its interval or the one before
  pub record Near (b : Breach) (c : Change) : Type 0 where
    pub t : ℕ
    pub placed : b.interval ≡ suc t
    pub in_case : t < intervals q
    pub device : b.device ≡ suc c.device
    pub interval : (t ≡ c.interval) ⊎ (t ≡ suc c.interval)
