-- A list each of whose elements can be written and reads back: what reading gives of it, and that the elements can be written in any order.
use Rattle.std.specs.Prelude.{◌≡◌, refl, length}
use Rattle.std.proofs.Common.{◌∙◌, ap, arith}
use Rattle.std.proofs.Math.Path.{subst}
use mathlib.Core.List.{List, [], ◌∷◌, map}
use Prim.Native.Nat.{ℕ, zero, suc, ◌*◌, ◌<◌}
use Rattle.std.proofs.Math.ListN.{get_or}
use Rattle.numbers.specs.Base.{gather}
use Rattle.numbers.specs.Rows.{rows_at, rows-map, rows_same}
use Rattle.layouts.specs.declared.Place.{Place}
use Rattle.layouts.specs.Layout.{Layout, ◌then◌, repeated, list}
use Rattle.model.specs.Messages as M
use Rattle.writing.specs.Again.{Fit, Reads, Ends, stops, goes, Good, Again}
use Rattle.writing.proofs.Again.{more-reads, then-reads, list-again, fit-nil, fit-cons, fit-more, fit-held}
use Rattle.writing.proofs.Cases.{pairs-apart}
use Rattle.renumbering.specs.Permute.{Renumbering}
use Rattle.renumbering.specs.Renumbered.{rearranged}
use Rattle.renumbering.proofs.Renumbered.{rearranged-long}
use Rattle.renumbered_messages.specs.Each.{Each}

-- ---- reading
module _ {A : Type 0} (d : A) {m k : Layout A} {P Q : A → Type 0} {R : A → Type 1} {i : ℕ} (u : Reads m P R) (z : Again m k Q i) where
  more : (n : ℕ) → Reads (m then (λ a. list n m)) (λ x. P x.0 × (length x.1 ≡ n)) (λ x. R x.0 × Each R d x.1) → Reads (list (suc n) m) (λ xs. length xs ≡ suc n) (Each R d)
  unfolding list repeated gather ◌then◌
  more n w = record { ends = λ s p h. go s p (w.ends s p h) }
    where
      each : (a : A) (xs : List A) → R a × Each R d xs → Each R d (a ∷ xs)
      each a xs r zero l = r.0
      each a xs r (suc j) l = r.1 j (omega arith)

      go : (s : List ℕ) (p : Place)
          → Ends (Good (m then (λ a. list n m)) (λ x. P x.0 × (length x.1 ≡ n)) (λ x. R x.0 × Each R d x.1) s p) (λ X bad next. (m then (λ a. list n m)).read {X = X} s p bad next)
          → Ends (Good (list (suc n) m) (λ xs. length xs ≡ suc n) (Each R d) s p) (λ X bad next. (list (suc n) m).read {X = X} s p bad next)
      go s p (stops f e) = stops f (λ X bad next. e X bad (λ x q. next (x.0 ∷ x.1) q))
      go s p (goes x q g e) = goes (x.0 ∷ x.1) q
          (record { holds = ap suc g.holds.1; wrote = g.wrote; clear = g.clear; sure = λ c. each x.0 x.1 (g.sure c) })
          (λ X bad next. e X bad (λ x q. next (x.0 ∷ x.1) q))

  pub list-reads : (n : ℕ) → Reads (list n m) (λ xs. length xs ≡ n) (Each R d)
  list-reads zero = more-reads _ _ _ _ _ (list-again 0 0 (omega arith) z) (λ xs e. e) (λ xs e r j l. absurd (omega arith))
  list-reads (suc n) = more n (then-reads m (λ a. list n m) P (λ a xs. length xs ≡ n) R (λ a. Each R d) u (λ a ok. list-reads n))

-- ---- writing
pub fit-each : {A : Type 0} (d : A) {l : Layout A} {i : ℕ} (xs : List A) → Each (Fit l i) d xs → Fit (list (length xs) l) (length xs * i) xs
fit-each d {l} [] r = fit-more (omega arith) (fit-nil l)
fit-each d (x ∷ xs) r = fit-more (omega arith) (fit-cons (length xs) (r 0 (omega arith)) (fit-each d xs (λ k h. r (suc k) (omega arith))))

module _ {A : Type 0} {n : ℕ} (r : Renumbering n) (d : A) where
  pub each-rearranged : (R : A → Type 1) (xs : List A) → length xs ≡ n → Each R d xs → Each R d (rearranged r d xs)
  unfolding rearranged
  each-rearranged R xs e w j h =
      let l : j < n = omega (arith, rearranged-long r d xs) in
      rw (rows_at (λ j. get_or xs (r.back j) d) d n j l) (w (r.back j) (omega (arith, r.back_below j l)))

-- ---- two lists in step
pub pairs-long : {A B : Type 0} (xs : List A) (ys : List B) → length ys ≡ length xs → length (M.pairs xs ys) ≡ length xs
unfolding M.pairs
pairs-long [] ys e = refl
pairs-long (x ∷ xs) [] e = absurd (omega arith)
pairs-long (x ∷ xs) (y ∷ ys) e = ap suc (pairs-long xs ys (omega arith))

pub pairs_first : {A B : Type 0} (a : A) (b : B) (xs : List A) (ys : List B) → length ys ≡ length xs → (k : ℕ) → (get_or (M.pairs xs ys) k (a, b)).0 ≡ get_or xs k a
unfolding M.pairs
pairs_first a b [] ys e k = refl
pairs_first a b (x ∷ xs) [] e k = absurd (omega arith)
pairs_first a b (x ∷ xs) (y ∷ ys) e zero = refl
pairs_first a b (x ∷ xs) (y ∷ ys) e (suc k) = pairs_first a b xs ys (omega arith) k

pub pairs-second : {A B : Type 0} (a : A) (b : B) (xs : List A) (ys : List B) → length ys ≡ length xs → (k : ℕ) → (get_or (M.pairs xs ys) k (a, b)).1 ≡ get_or ys k b
unfolding M.pairs
pairs-second a b [] [] e k = refl
pairs-second a b [] (y ∷ ys) e k = absurd (omega arith)
pairs-second a b (x ∷ xs) [] e k = absurd (omega arith)
pairs-second a b (x ∷ xs) (y ∷ ys) e zero = refl
pairs-second a b (x ∷ xs) (y ∷ ys) e (suc k) = pairs-second a b xs ys (omega arith) k

module _ {A B : Type 0} {n : ℕ} (r : Renumbering n) (a : A) (b : B) (xs : List A) (ys : List B) (e : length ys ≡ length xs) where
  firsts-rearranged : map (λ x. x.0) (rearranged r (a, b) (M.pairs xs ys)) ≡ rearranged r a xs
  unfolding rearranged
  firsts-rearranged = rows-map (λ x. x.0) (λ j. get_or (M.pairs xs ys) (r.back j) (a, b)) n ∙ rows_same n (λ k l. pairs_first a b xs ys e (r.back k))

  seconds-rearranged : map (λ x. x.1) (rearranged r (a, b) (M.pairs xs ys)) ≡ rearranged r b ys
  unfolding rearranged
  seconds-rearranged = rows-map (λ x. x.1) (λ j. get_or (M.pairs xs ys) (r.back j) (a, b)) n ∙ rows_same n (λ k l. pairs-second a b xs ys e (r.back k))

  -- both lists rearranged alike can be written
  pub fit-rearranged : {l : Layout (A × B)} {i : ℕ} → length xs ≡ n → Each (Fit l i) (a, b) (M.pairs xs ys) → Fit (M.apart (list n l)) (n * i) (rearranged r a xs, rearranged r b ys)
  unfolding M.apart
  fit-rearranged {l} {i} h w =
      subst (Fit (M.apart (list n l)) (n * i)) (λ k. (firsts-rearranged k, seconds-rearranged k)) (fit-held _ _ {a = zs} (ap (list n l).write (pairs-apart zs)) fits)
    where
      zs : List (A × B)
      zs = rearranged r (a, b) (M.pairs xs ys)

      fits : Fit (list n l) (n * i) zs
      fits = subst (λ (k : ℕ). Fit (list k l) (k * i) zs) (rearranged-long r (a, b) (M.pairs xs ys))
          (fit-each (a, b) zs (each-rearranged r (a, b) (Fit l i) (M.pairs xs ys) (pairs-long xs ys e ∙ h) w))
