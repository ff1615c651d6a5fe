-- Arrays of figures by place: the floors of a list of offers, and powers written in the order named.
use Rattle.std.specs.Prelude.{◌≡◌, refl, Bool, true, false, List, [], ◌∷◌, ◌++◌, map, ℕ, zero, suc, ◌+◌, ◌-◌, ◌*◌, ◌≤◌, ◌<◌, eqb, length, get_or, set, take, replicate}
use Rattle.std.proofs.Common.{sym, ◌∙◌, ap, subst, arith, add-one, eq-eqb, ne_eqb, length-append, length-set, take-suc, get_or-set_same, get_or-set_other, ext_get_or}
use Rattle.std.proofs.Math.Decide.{ℕ_discrete, dec_lt}
use Rattle.std.proofs.lemmas.List.{length-replicate, length-map, get_or-replicate}
use Rattle.std.proofs.Math.ListN.{get_or-eq_default}
use Rattle.numbers.specs.Sum.{gate, All}
use Rattle.numbers.specs.Every.{all-at}
use Rattle.offers.specs.declared.Offer.{Offer}
use Rattle.offers.specs.Merit.{no-offer}
use Rattle.optimum.specs.Levels.{of}
use Rattle.optimum.proofs.Levels.{of-append}
use Rattle.raising.specs.Raising.{place, Sane}

-- the first n offers are of sets that there are, with floors and caps in range
pub record SaneTo (n : ℕ) (all : List Offer) : Type 0 where
  pub few : n ≤ 256
  pub sane : (k : ℕ) → k < n → Sane (get_or all k no-offer)

-- the floors of a list of offers, by place
pub record Floors (os : List Offer) (l : List ℕ) : Type 0 where
  pub long : length l ≡ 64
  pub each : (i : ℕ) → get_or l i 0 ≡ of place (λ o. o.floor) i os
  pub small : (i : ℕ) → get_or l i 0 ≤ length os * 100000

-- sets of places that there are, and a power lent for each
pub record Named (sets powers : List ℕ) : Type 0 where
  pub places : All (λ s. (1 ≤ s) × (s ≤ 64)) sets
  pub many : length powers ≡ length sets

-- ---- offer by offer

abbrev blank : List ℕ
blank = replicate 64 0

zeros : (i : ℕ) → get_or blank i 0 ≡ 0
zeros i = go (dec_lt i 64)
  where
    go : Dec (i < 64) → get_or blank i 0 ≡ 0
    go (yes l) = get_or-replicate 64 i 0 0 l
    go (no l) = get_or-eq_default blank 0 {n = i} (omega (arith, length-replicate {A = ℕ} 64 0))

pub floors-none : Floors [] (replicate 64 0)
unfolding of
floors-none = record { long = length-replicate {A = ℕ} 64 0; each = zeros; small = λ i. omega (arith, zeros i) }

at_set : (l : List ℕ) (s v i : ℕ) → s < length l → get_or (set l s (get_or l s 0 + v)) i 0 ≡ get_or l i 0 + gate (eqb s i) v
at_set l s v i h = go (ℕ_discrete s i)
  where
    go : Dec (s ≡ i) → get_or (set l s (get_or l s 0 + v)) i 0 ≡ get_or l i 0 + gate (eqb s i) v
    go (yes e) = rw (eq-eqb s i e) (subst (λ (j : ℕ). get_or (set l s (get_or l s 0 + v)) j 0 ≡ get_or l j 0 + v) e (get_or-set_same l s (get_or l s 0 + v) 0 h))
    go (no d) = rw (ne_eqb s i d) (get_or-set_other l s i (get_or l s 0 + v) 0 (λ e. d (sym e)) ∙ omega arith)

gate-le : (b : Bool) (n m : ℕ) → n ≤ m → gate b n ≤ m
gate-le true n m h = h
gate-le false n m h = omega arith

pub floors-next : (os : List Offer) (l : List ℕ) (o : Offer) → Sane o → Floors os l → Floors (os ++ o ∷ []) (set l (place o) (get_or l (place o) 0 + o.floor))
unfolding of
floors-next os l o sane f =
    let inside : place o < length l = omega (arith, sane.from_one, sane.to_last, f.long) in record {
      long = length-set l (place o) (get_or l (place o) 0 + o.floor) ∙ f.long;
      each = λ i. at_set l (place o) o.floor i inside ∙ omega (arith, f.each i, of-append place (λ o. o.floor) i os (o ∷ []));
      small = λ i. omega (arith, at_set l (place o) o.floor i inside, f.small i, gate-le (eqb (place o) i) o.floor 100000 (omega (arith, sane.floors, sane.caps)), length-append os (o ∷ []));
    }

-- with offer k of an array
pub floors-more : (all : List Offer) (k : ℕ) (l : List ℕ) → k < length all → Sane (get_or all k no-offer) → Floors (take k all) l
    → Floors (take (k + 1) all) (set l (place (get_or all k no-offer)) (get_or l (place (get_or all k no-offer)) 0 + (get_or all k no-offer).floor))
floors-more all k l h sane f =
    subst (λ (os : List Offer). Floors os (set l (place (get_or all k no-offer)) (get_or l (place (get_or all k no-offer)) 0 + (get_or all k no-offer).floor)))
    (sym (take-suc all k no-offer h) ∙ ap (λ (m : ℕ). take m all) (sym (add-one k))) (floors-next (take k all) l (get_or all k no-offer) sane f)

-- ---- set by set

-- the powers of the first j sets are written
pub record Written (figures sets : List ℕ) (j : ℕ) (powers : List ℕ) : Type 0 where
  pub many : length powers ≡ length sets
  pub each : (i : ℕ) → i < j → get_or powers i 0 ≡ get_or figures (get_or sets i 0 - 1) 0

pub written_none : (figures sets powers : List ℕ) → length powers ≡ length sets → Written figures sets 0 powers
written_none figures sets powers n = record { many = n; each = λ i l. absurd (omega arith) }

pub written_next : (figures sets powers : List ℕ) (j : ℕ) → j < length sets → Written figures sets j powers → Written figures sets (j + 1) (set powers j (get_or figures (get_or sets j 0 - 1) 0))
written_next figures sets powers j h w = record {
  many = length-set powers j (get_or figures (get_or sets j 0 - 1) 0) ∙ w.many;
  each = λ i l. go i l (ℕ_discrete i j);
}
  where
    go : (i : ℕ) → i < j + 1 → Dec (i ≡ j) → get_or (set powers j (get_or figures (get_or sets j 0 - 1) 0)) i 0 ≡ get_or figures (get_or sets i 0 - 1) 0
    go i l (yes e) = subst (λ (k : ℕ). get_or (set powers j (get_or figures (get_or sets j 0 - 1) 0)) k 0 ≡ get_or figures (get_or sets k 0 - 1) 0) (sym e) (get_or-set_same powers j _ 0 (omega (arith, w.many)))
    go i l (no d) = get_or-set_other powers j i _ 0 d ∙ w.each i (omega (arith, d))

pub written_all : (figures sets powers : List ℕ) → Written figures sets (length sets) powers → powers ≡ map (λ s. get_or figures (s - 1) 0) sets
written_all figures sets powers w = ext_get_or 0 powers (map f sets) (w.many ∙ sym (length-map sets f)) (λ i l. w.each i (omega (arith, w.many)) ∙ sym (at_map sets i (omega (arith, w.many))))
  where
    f : ℕ → ℕ
    f s = get_or figures (s - 1) 0

    at_map : (l : List ℕ) (i : ℕ) → i < length l → get_or (map f l) i 0 ≡ f (get_or l i 0)
    at_map [] i h = absurd (omega arith)
    at_map (x ∷ l) zero h = refl
    at_map (x ∷ l) (suc i) h = at_map l i (omega arith)
