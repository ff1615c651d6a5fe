-- Figures by place: their sum, and whether bounds allow a target, as `Dispatch.can_meet` has it.
use Rattle.std.specs.Prelude.{◌≡◌, Bool, true, false, ◌&&◌, List, ◌∷◌, ℕ, ◌+◌, ◌*◌, ◌≤◌, ◌<◌, leb, length}
use Rattle.std.proofs.Math.Path.{refl, ap}
use Rattle.std.proofs.Common.{sym, ◌∙◌, arith}
use borrow.Author.Tests.{le-leb, lt-leb}
use Rattle.std.proofs.Math.Decide.{dec_lt}
use Rattle.std.proofs.Math.Dec.{T, leb→le}
use Rattle.std.proofs.Math.ListN.{get_or, get_or-eq_default}
use Rattle.numbers.specs.Base.{range, up_to, every}
use Rattle.numbers.specs.Gather.{from, from_all, from_next, from_end}
use Rattle.numbers.specs.Sum.{sumℕ}
use Rattle.numbers.specs.Every.{every-out, up_to-all}
use Rattle.model.specs.Editions.{most_devices}
use Rattle.dispatching.specs.Dispatch.{places}

-- powers of a device: so no sum of 64 wraps
pub record Small (l : List ℕ) : Type 0 where
  pub each : (i : ℕ) → get_or l i 0 ≤ 100000

unfoldable pub total_of : List ℕ → ℕ
total_of l = sumℕ (λ i. get_or l i 0) places

unfoldable pub ordered_by : List ℕ → List ℕ → Bool
ordered_by lo hi = every (λ i. leb (get_or lo i 0) (get_or hi i 0)) places

unfoldable pub meetable : List ℕ → List ℕ → ℕ → Bool
meetable lo hi target = ordered_by lo hi && leb (total_of lo) target && leb target (total_of hi)

-- ---- place by place

pub total-none : (l : List ℕ) → sumℕ (λ i. get_or l i 0) (up_to 0) ≡ 0
unfolding range
total-none l = refl

abbrev pub in_order_at : List ℕ → List ℕ → ℕ → Bool
in_order_at lo hi i = leb (get_or lo i 0) (get_or hi i 0)

module _ (lo hi : List ℕ) where
  pub ordered-all : ordered_by lo hi ≡ every (in_order_at lo hi) (from 0 64)
  unfolding ordered_by
  ordered-all = ap (every (in_order_at lo hi)) (sym (from_all 64))

  pub ordered-next : (i : ℕ) → i < 64 → get_or lo i 0 ≤ get_or hi i 0 → every (in_order_at lo hi) (from i 64) ≡ every (in_order_at lo hi) (from (i + 1) 64)
  unfolding every
  ordered-next i l h = rw (from_next i 64 l) (ap (λ (b : Bool). b && every (in_order_at lo hi) (from (i + 1) 64)) (le-leb (get_or lo i 0) (get_or hi i 0) h))

  pub ordered-stop : (i : ℕ) → i < 64 → get_or hi i 0 < get_or lo i 0 → every (in_order_at lo hi) (from i 64) ≡ false
  unfolding every
  ordered-stop i l h = rw (from_next i 64 l) (ap (λ (b : Bool). b && every (in_order_at lo hi) (from (i + 1) 64)) (lt-leb (get_or lo i 0) (get_or hi i 0) h))

  pub ordered_end : every (in_order_at lo hi) (from 64 64) ≡ true
  unfolding every
  ordered_end = rw (from_end 64 64 (omega arith)) refl

  -- bounds in order are small where the upper ones are
  pub small-below : length lo ≡ 64 → ordered_by lo hi ≡ true → Small hi → Small lo
  unfolding ordered_by
  small-below n e s = record { each = λ i. go i (dec_lt i 64) }
    where
      in-order : (i : ℕ) → i < 64 → get_or lo i 0 ≤ get_or hi i 0
      in-order i l = leb→le (get_or lo i 0) (get_or hi i 0) (up_to-all (λ i. T (in_order_at lo hi i)) 64 (every-out (in_order_at lo hi) places (rw e tt)) i l)

      go : (i : ℕ) → Dec (i < 64) → get_or lo i 0 ≤ 100000
      go i (yes l) = omega (arith, in-order i l, s.each i)
      go i (no l) = omega (arith, get_or-eq_default lo 0 {n = i} (omega arith))

  -- what the tests in turn say
  pub meets-off : (target : ℕ) → ordered_by lo hi ≡ false → false ≡ meetable lo hi target
  unfolding meetable
  meets-off target e = rw e refl

  pub meets-low : (target : ℕ) → ordered_by lo hi ≡ true → target < total_of lo → false ≡ meetable lo hi target
  unfolding meetable
  meets-low target e l = rw (e, lt-leb (total_of lo) target l) refl

  pub meets_on : (target : ℕ) → ordered_by lo hi ≡ true → total_of lo ≤ target → leb target (total_of hi) ≡ meetable lo hi target
  unfolding meetable
  meets_on target e l = rw (e, le-leb (total_of lo) target l) refl
