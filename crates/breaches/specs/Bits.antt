-- The first breach of a word: a loop from its lowest bit.
use Rattle.std.specs.Prelude.{◌≡◌, List, [], ◌∷◌, map}
use Rattle.std.proofs.Math.Path.{refl}
use Rattle.std.proofs.Common.{sym, ◌∙◌}
use Rattle.std.proofs.Math.Bool.{true, false}
use Prim.Native.Nat.{ℕ, suc, ◌+◌, ◌-◌, ◌/◌, ◌%◌, ◌≤◌, ◌<◌}
use native.Mathlib.Omega.{arith}
use borrow.Author.Tests.{eq-eqb, ne_eqb}
use Rattle.std.proofs.Math.Dec.{eqb}
use Rattle.model.specs.Rules.{cell_breach}
use Rattle.model.specs.Breaches.{unless}
use Rattle.cell_bounds.specs.Word.{bits_from, numbers_in}
use Rattle.breaches.specs.First.{first}
use Rattle.model.specs.declared.Breach.{Breach}
use Rattle.std.specs.Prelude.{Option, Some, None}

unfoldable pub first_of : ℕ → ℕ → List ℕ → Option Breach
first_of t i ns = first (map (cell_breach t i) ns)

module _ (t i word : ℕ) where
  -- the bits from number k on give what all give
  pub record BitsLeft (k rest : ℕ) : Type 0 where
    pub same : first_of t i (bits_from k (32 - k) rest) ≡ first_of t i (numbers_in word)

  pub bits-start : BitsLeft 0 word
  unfolding numbers_in
  bits-start = record { same = refl }

  module _ {k rest : ℕ} (h : k < 32) (left : BitsLeft k rest) where
    one_more : 32 - k ≡ suc (32 - (k + 1))
    one_more = omega arith

    pub bits-found : rest % 2 ≡ 1 → Some (cell_breach t i k) ≡ first_of t i (numbers_in word)
    unfolding first_of first bits_from
    bits-found e = let z : eqb (rest % 2) 0 ≡ false = ne_eqb (rest % 2) 0 (λ x. omega arith) in (rw (one_more, z) refl) ∙ left.same

    pub bits-next : (rest % 2 ≡ 1 → ⊥) → BitsLeft (k + 1) (rest / 2)
    unfolding bits_from
    bits-next n =
        let z : eqb (rest % 2) 0 ≡ true = eq-eqb (rest % 2) 0 (omega arith) in
        let s : suc k ≡ k + 1 = omega arith in
        record { same = rw (one_more, z, s) at left.same }

  pub bits-done : {k rest : ℕ} → 32 ≤ k → BitsLeft k rest → None ≡ first_of t i (numbers_in word)
  unfolding first_of first bits_from
  bits-done {k} h left = let z : 32 - k ≡ 0 = omega arith in (rw z at left.same)
