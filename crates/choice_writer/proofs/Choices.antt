-- The bits of a choice's groups are the layout's.
use mathlib.Core.Path.{◌≡◌}
use mathlib.Core.List.{List, [], ◌∷◌, ◌++◌, append_assoc, append-nil}
use Prim.Native.Nat.{ℕ, ◌^◌, ◌<◌}
use native.Mathlib.Omega.{arith}
use Rattle.numbers.specs.Base.{gather}
use Rattle.layouts.specs.Layout.{bits_of, nat, ◌then◌, list, held}
use Rattle.model.specs.Messages as M
use Rattle.model.specs.ByEdition.{device_choice}
use Rattle.theorems.specs.Back.{FitsDevice}
use Rattle.kilowatts.specs.declared.Kw.{Kw}
use Rattle.field_groups.specs.Fields.{choice_in, block_at}

-- a device's four blocks
pub record Blocks (l : List Kw) : Type 0 where
  pub first : block_at l 0 < 2 ^ 17
  pub second : block_at l 1 < 2 ^ 17
  pub third : block_at l 2 < 2 ^ 17
  pub fourth : block_at l 3 < 2 ^ 17

pub blocks-below : (a b s : ℕ) (l : List Kw) → FitsDevice (choice_in a b s l) → Blocks l
blocks-below a b s [] f = absurd (omega (arith, f.four))
blocks-below a b s (p ∷ []) f = absurd (omega (arith, f.four))
blocks-below a b s (p ∷ q ∷ []) f = absurd (omega (arith, f.four))
blocks-below a b s (p ∷ q ∷ r ∷ []) f = absurd (omega (arith, f.four))
blocks-below a b s (p ∷ q ∷ r ∷ t ∷ l) f = let h = f.blocks in record { first = omega arith; second = omega arith; third = omega arith; fourth = omega arith }

abbrev power : List Kw → ℕ → List ℕ
power l k = bits_of 17 (block_at l k)

pub choice-is : (a b s : ℕ) (l : List Kw) → FitsDevice (choice_in a b s l)
    → bits_of 1 a ++ (bits_of 1 b ++ (bits_of 3 s ++ (power l 0 ++ power l 1))) ++ (power l 2 ++ power l 3) ≡ device_choice.write (choice_in a b s l)
unfolding M.device_choice held ◌then◌ nat list gather
choice-is a b s [] f = absurd (omega (arith, f.four))
choice-is a b s (p ∷ []) f = absurd (omega (arith, f.four))
choice-is a b s (p ∷ q ∷ []) f = absurd (omega (arith, f.four))
choice-is a b s (p ∷ q ∷ r ∷ []) f = absurd (omega (arith, f.four))
choice-is a b s (p ∷ q ∷ r ∷ t ∷ []) f = simp (append_assoc, append-nil)
choice-is a b s (p ∷ q ∷ r ∷ t ∷ u ∷ l) f = absurd (omega (arith, f.four))
