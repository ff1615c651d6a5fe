-- The first i elements of one list over another.
use Rattle.std.specs.Prelude.{◌≡◌, ℕ, suc, ◌+◌, ◌≤◌, ◌<◌, length, get_or}
use Rattle.std.proofs.Math.Path.{refl, sym, ap}
use Rattle.std.proofs.Common.{◌∙◌, arith, add-one, length-take-le, take-suc, drop-cons}
use mathlib.Core.List.{List, [], ◌∷◌, ◌++◌, append_assoc}
use Rattle.std.proofs.Math.ListN.{take, drop, set, length-append, length-take, length-drop}
use Rattle.std.proofs.Math.Seq.{set_at, take_at}

unfoldable pub copied : {A : Type 0} → ℕ → List A → List A → List A
copied i src dst = take i src ++ drop i dst

module _ {A : Type 0} where
  pub copied_none : (src dst : List A) → copied 0 src dst ≡ dst
  unfolding copied
  copied_none src dst = refl

  pub copied-length : (i : ℕ) (src dst : List A) → i ≤ length src → i ≤ length dst → length (copied i src dst) ≡ length dst
  unfolding copied
  copied-length i src dst hs hd = omega (arith, length-append (take i src) (drop i dst), length-take i src, length-drop i dst)

  pub copied_next : (i : ℕ) (src dst : List A) (d : A) → i < length src → i < length dst → set (copied i src dst) i (get_or src i d) ≡ copied (i + 1) src dst
  unfolding copied
  copied_next i src dst d hs hd =
      ap (λ (l : List A). set (take i src ++ l) i (get_or src i d)) (drop-cons dst i d hd)
      ∙ set_at (take i src) (get_or dst i d) (drop (suc i) dst) (get_or src i d) i (length-take-le i src (omega arith))
      ∙ sym (append_assoc (take i src) (get_or src i d ∷ []) (drop (suc i) dst))
      ∙ ap (λ (l : List A). l ++ drop (suc i) dst) (sym (take-suc src i d hs))
      ∙ ap (λ (k : ℕ). take k src ++ drop k dst) (sym (add-one i))

  pub copied_take : (i : ℕ) (src dst : List A) → i ≤ length src → take i (copied i src dst) ≡ take i src
  unfolding copied
  copied_take i src dst h = take_at (take i src) (drop i dst) i (length-take-le i src h)
