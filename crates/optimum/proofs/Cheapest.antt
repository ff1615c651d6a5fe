-- Powers that have the most in the first offers, however many are counted, cost least, and are the greatest when read in the order of merit.
use Rattle.std.specs.Prelude.{◌≡◌, refl, List, [], ◌∷◌, ◌++◌, ℕ, ◌+◌, ◌-◌, ◌≤◌, ℤ, pos, ◌+ℤ◌, ◌*ℤ◌, ◌≤ℤ◌}
use Rattle.std.proofs.Common.{sym, ◌∙◌, ap, append_assoc, arith}
use Rattle.numbers.specs.Z.{at, nat, ◌⊕◌, by≤, of≤, of≡}
use Rattle.numbers.specs.Laws as L
use Rattle.numbers.specs.Sum.{sumℕ, sumℕ-append, sumℕ-cong, All}
use Rattle.optimum.specs.Cheapest.{Rising, cost}

module _ {A : Type 0} (price : A → ℤ) where
  -- with d in hand from offers ahead, which cost at most q each
  ahead-by : (x y : A → ℕ) (js : List A) (d : ℕ) (q : ℤ) → (Rising price) q js → ((ks ls : List A) → ks ++ ls ≡ js → sumℕ y ks ≤ d + sumℕ x ks) → sumℕ y js ≡ d + sumℕ x js
      → ((cost price) x js +ℤ q *ℤ pos d) ≤ℤ (cost price) y js
  ahead-by x y [] d q r h t = let z : d ≡ 0 = omega arith in rw z (L.≤-of-≡ (ap (λ (c : ℤ). pos 0 +ℤ c) (L.mul-zero q)))
  ahead-by x y (j ∷ js) d q r h t =
      by≤ (at (pj *ℤ pos (x j)) ⊕ at ((cost price) x js) ⊕ at (q *ℤ pos d)) (at (pj *ℤ pos (y j)) ⊕ at ((cost price) y js)) (omega (
        arith,
        of≤ (at ((cost price) x js) ⊕ at (pj *ℤ pos d')) (at ((cost price) y js)) (ahead-by x y js d' pj r.1 rest (omega (arith, now, t))),
        of≡ (at (pj *ℤ pos d) ⊕ at (pj *ℤ pos (x j))) (at (pj *ℤ pos d') ⊕ at (pj *ℤ pos (y j))) moved,
        of≤ (at (q *ℤ pos d)) (at (pj *ℤ pos d)) dearer,
      ))
    where
      pj : ℤ
      pj = price j

      now : y j ≤ d + x j
      now = omega (arith, h (j ∷ []) js refl)

      d' : ℕ
      d' = d + x j - y j

      sum_is : d + x j ≡ d' + y j
      sum_is = omega (arith, now)

      moved : pj *ℤ pos d +ℤ pj *ℤ pos (x j) ≡ pj *ℤ pos d' +ℤ pj *ℤ pos (y j)
      moved = sym (L.mul-add pj (pos d) (pos (x j))) ∙ ap (λ (n : ℕ). pj *ℤ pos n) sum_is ∙ L.mul-add pj (pos d') (pos (y j))

      dearer : (q *ℤ pos d) ≤ℤ (pj *ℤ pos d)
      dearer = by≤ (at (q *ℤ pos d)) (at (pj *ℤ pos d)) (omega (
        arith,
        of≤ (at (q *ℤ pos d) ⊕ at (pj *ℤ pos 0)) (at (q *ℤ pos 0) ⊕ at (pj *ℤ pos d)) (L.exchange q pj (pos 0) (pos d) r.0 (L.pos-nonneg d)),
        of≡ (at (pj *ℤ pos 0)) (nat 0) (L.mul-zero pj),
        of≡ (at (q *ℤ pos 0)) (nat 0) (L.mul-zero q),
      ))

      rest : (ks ls : List A) → ks ++ ls ≡ js → sumℕ y ks ≤ d' + sumℕ x ks
      rest ks ls e = omega (arith, now, h (j ∷ ks) ls (ap (λ (l : List A). j ∷ l) e))

  -- whoever has the most in the first offers, however many are counted, costs least
  pub least-cost : (x y : A → ℕ) (js : List A) (q : ℤ) → (Rising price) q js → ((ks ls : List A) → ks ++ ls ≡ js → sumℕ y ks ≤ sumℕ x ks) → sumℕ y js ≡ sumℕ x js
      → (cost price) x js ≤ℤ (cost price) y js
  least-cost x y js q r h t =
      by≤ (at ((cost price) x js)) (at ((cost price) y js)) (omega (
        arith,
        of≤ (at ((cost price) x js) ⊕ at (q *ℤ pos 0)) (at ((cost price) y js)) (ahead-by x y js 0 q r (λ ks ls e. omega (arith, h ks ls e)) (omega (arith, t))),
        of≡ (at (q *ℤ pos 0)) (nat 0) (L.mul-zero q),
      ))

-- and is the greatest in their order: where both agree on the offers ahead of one, it has no less of that one
pub greatest : {A : Type 0} (x y : A → ℕ) (js : List A) → ((ks ls : List A) → ks ++ ls ≡ js → sumℕ y ks ≤ sumℕ x ks)
    → (ks : List A) (j : A) (ls : List A) → ks ++ j ∷ ls ≡ js → All (λ k. y k ≡ x k) ks → y j ≤ x j
greatest x y js h ks j ls e same =
    omega (arith, h (ks ++ j ∷ []) ls (append_assoc ks (j ∷ []) ls ∙ e), sumℕ-append x ks (j ∷ []), sumℕ-append y ks (j ∷ []), sumℕ-cong y x ks same)
