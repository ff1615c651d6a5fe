-- The run over arrays is the dispatch of `optimum`: set s stands at place s - 1, and every place is a set, named or not.
use Rattle.std.specs.Prelude.{◌≡◌, length, get_or}
use mathlib.Core.List.{List}
use Prim.Native.Nat.{ℕ}
use Rattle.numbers.specs.Base.{up_to}
use Rattle.optimum.specs.Answer.{power, total, answer}
use Rattle.offers.specs.declared.Offer.{Offer}
use Rattle.raising.specs.declared.Rise.{Rise}
use Rattle.raising.specs.Raising.{place}

-- ---- arrays as functions
abbrev pub at : List ℕ → ℕ → ℕ
at l i = get_or l i 0

abbrev pub cap : Offer → ℕ
cap o = o.cap

abbrev pub floor : Offer → ℕ
floor o = o.floor

module _ (lo hi : List ℕ) where
  abbrev pub Power : (ℕ → ℕ) → ℕ → ℕ
  Power = power place cap floor (at lo) (at hi) (up_to 64)

  abbrev pub Total : (ℕ → ℕ) → ℕ
  Total = total place cap floor (at lo) (at hi) (up_to 64)

  abbrev pub Answer : (ℕ → ℕ) → List Offer → ℕ → ℕ → ℕ
  Answer = answer place cap floor (at lo) (at hi) (up_to 64)

  -- a state whose powers are those of its heights
  pub record Level (r : Rise) : Type 0 where
    pub tall : length r.heights ≡ 64
    pub long : length r.powers ≡ 64
    pub powers : (i : ℕ) → at r.powers i ≡ Power (at r.heights) i
    pub total : r.total ≡ Total (at r.heights)
