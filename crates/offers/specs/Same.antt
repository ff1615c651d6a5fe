-- Whether two lists have the same offers at the same places.
use Rattle.std.specs.Prelude.{◌≡◌, Bool, true, false, not, List, [], ◌∷◌, ℕ, suc, ◌+◌, ◌≤◌, ◌<◌, T, eqb, ℤ, length, get_or, ◌≤ℤ◌}
use Rattle.std.proofs.Math.Path.{refl}
use Rattle.std.proofs.Common.{sym, ◌∙◌, ap, eqb→eq}
use Rattle.std.proofs.Math.Numerals.{add-one}
use Rattle.std.proofs.Math.Dec.{eqb_refl}
use Rattle.std.proofs.Math.Seq.{slice, slice-cons, slice_empty}
use Rattle.std.specs.Int.Signed.{lt_z, lt_z_no, lt_z_yes}
use Rattle.numbers.specs.Laws as L
use Rattle.offers.specs.declared.Offer.{Offer}
use Rattle.offers.specs.Merit.{no-offer, pick}

abbrev pub both : Bool → Bool → Bool
both a b = pick a b false

abbrev pub neither : Bool → Bool → Bool
neither a b = pick a false (not b)

-- neither price is below the other
abbrev pub even : ℤ → ℤ → Bool
even p q = neither (lt_z p q) (lt_z q p)

unfoldable pub same_offer : Offer → Offer → Bool
same_offer a b = both (both (eqb a.set b.set) (eqb a.block b.block)) (both (both (eqb a.cap b.cap) (eqb a.floor b.floor)) (even a.price b.price))

unfoldable pub same_offers : List Offer → List Offer → Bool
same_offers [] [] = true
same_offers [] (y ∷ ys) = false
same_offers (x ∷ xs) [] = false
same_offers (x ∷ xs) (y ∷ ys) = both (same_offer x y) (same_offers xs ys)

-- ---- the test holds of equal lists and of no others

both_out : (a b : Bool) → T (both a b) → T a × T b
both_out true b t = (tt, t)
both_out false b t = absurd t

both-in : {a b : Bool} → a ≡ true → b ≡ true → both a b ≡ true
both-in e f = λ i. both (e i) (f i)

even-out : (p q : ℤ) → T (even p q) → p ≡ q
even-out p q t = go (lt_z p q) (lt_z q p) refl refl t
  where
    go : (a b : Bool) → lt_z p q ≡ a → lt_z q p ≡ b → T (pick a false (not b)) → p ≡ q
    go true b e f u = absurd u
    go false true e f u = absurd u
    go false false e f u = L.≤-antisym (lt_z_no (rw f tt)) (lt_z_no (rw e tt))

even-refl : (p : ℤ) → even p p ≡ true
even-refl p = go (lt_z p p) refl
  where
    go : (a : Bool) → lt_z p p ≡ a → pick a false (not a) ≡ true
    go true e = absurd (L.<-not-≤ (lt_z_yes (rw e tt)) (L.≤-refl p))
    go false e = refl

pub same-offer : (a b : Offer) → T (same_offer a b) → a ≡ b
unfolding same_offer
same-offer a b t =
    let halves : _ = both_out (both (eqb a.set b.set) (eqb a.block b.block)) (both (both (eqb a.cap b.cap) (eqb a.floor b.floor)) (even a.price b.price)) t in
    let rest : _ = both_out (both (eqb a.cap b.cap) (eqb a.floor b.floor)) (even a.price b.price) halves.1 in
    let numbers : _ = both_out (eqb a.set b.set) (eqb a.block b.block) halves.0 in
    let powers : _ = both_out (eqb a.cap b.cap) (eqb a.floor b.floor) rest.0 in
    together (eqb→eq a.set b.set numbers.0) (eqb→eq a.block b.block numbers.1) (eqb→eq a.cap b.cap powers.0) (eqb→eq a.floor b.floor powers.1)
    (even-out a.price b.price rest.1)
  where
    together : a.set ≡ b.set → a.block ≡ b.block → a.cap ≡ b.cap → a.floor ≡ b.floor → a.price ≡ b.price → a ≡ b
    together s n c f p = λ i. record { set = s i; block = n i; cap = c i; floor = f i; price = p i }

true_of : (b : Bool) → T b → b ≡ true
true_of true t = refl
true_of false t = absurd t

pub offer-same : (a : Offer) → same_offer a a ≡ true
unfolding same_offer
offer-same a = both-in (both-in (eq a.set) (eq a.block)) (both-in (both-in (eq a.cap) (eq a.floor)) (even-refl a.price))
  where
    eq : (n : ℕ) → eqb n n ≡ true
    eq n = true_of (eqb n n) (eqb_refl n)

pub same-offers : (xs ys : List Offer) → T (same_offers xs ys) → xs ≡ ys
unfolding same_offers
same-offers [] [] t = refl
same-offers [] (y ∷ ys) t = absurd t
same-offers (x ∷ xs) [] t = absurd t
same-offers (x ∷ xs) (y ∷ ys) t = let h : _ = both_out (same_offer x y) (same_offers xs ys) t in let e : x ≡ y = same-offer x y h.0 in let f : xs ≡ ys = same-offers xs ys h.1 in λ i. e i ∷ f i

pub offers-same : (xs : List Offer) → same_offers xs xs ≡ true
unfolding same_offers
offers-same [] = refl
offers-same (x ∷ xs) = both-in (offer-same x) (offers-same xs)

-- ---- place by place
module _ (n : ℕ) (xs ys : List Offer) where
  pub same_none : same_offers (slice n n xs) (slice n n ys) ≡ true
  unfolding same_offers
  same_none = rw (slice_empty n xs, slice_empty n ys) refl

  pub same_next : (k : ℕ) → k < n → n ≤ length xs → n ≤ length ys
      → same_offers (slice k n xs) (slice k n ys) ≡ both (same_offer (get_or xs k no-offer) (get_or ys k no-offer)) (same_offers (slice (k + 1) n xs) (slice (k + 1) n ys))
  unfolding same_offers
  same_next k l h g = rw (slice-cons k n xs no-offer l h, slice-cons k n ys no-offer l g, add-one k) refl
