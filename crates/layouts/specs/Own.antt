-- What was read writes its own bits: the converse of `Trip`, each law proved once.
use Rattle.std.specs.Prelude.{◌≡◌, refl, Bool, true, false, leb, length, get_or, ℤ, nat_abs}
use Rattle.std.proofs.Common.{sym, ◌∙◌, ap, arith, length-append, get_or-append-add, leb-true, le-leb}
use mathlib.Core.List.{List, [], ◌∷◌, ◌++◌}
use Prim.Native.Nat.{ℕ, zero, suc, ◌+◌, ◌-◌, ◌*◌, ◌/◌, ◌%◌, ◌^◌, ◌≤◌, ◌<◌}
use Rattle.std.proofs.Math.Decide.{dec_le}
use Rattle.std.proofs.Math.ListN.{get_or-append}
use Rattle.std.proofs.lemmas.Bool.{lt-leb}
use Rattle.bits.specs.Bits.{bit_at, field_at, reach, read_field}
use Rattle.bits.specs.Pick.{pick}
use Rattle.bits.specs.Twos.{from_twos, to_twos}
use Rattle.bits.specs.declared.Field.TheVariants.{Value, Cut}
use Rattle.bits.proofs.Laws.{bit-lt, field_lt}
use Rattle.numbers.specs.Base.{gather}
use Rattle.numbers.specs.Sum.{All}
use Rattle.layouts.specs.declared.Fault.{Fault}
use Rattle.layouts.specs.declared.Fault.TheVariants as F
use Rattle.layouts.specs.declared.Place.{Place}
use Rattle.layouts.specs.Layout.{Layout, Field, bits_of, raw, advanced, nat, int, ◌then◌, ◌▸◌, repeated, list, such, noted, held, counted}
use Rattle.layouts.specs.Since.{nothing, present, Where}
use Rattle.layouts.specs.Trip.{Has, length-bits}

-- the message has these bits from `at` on, and q is the place behind them
pub record Wrote (s : List ℕ) (at : ℕ) (bs : List ℕ) (q : Place) : Type 0 where
  pub has : Has s at bs
  pub ends : q.at ≡ at + length bs

-- reading stops with a fault, or goes on with a value and a place of which P holds
pub data Run {A : Type 0} (P : A → Place → Type 0) (run : (X : Type 0) → (Fault → X) → (A → Place → X) → X) : Type 1 where
  stops : (f : Fault) → ((X : Type 0) (bad : Fault → X) (next : A → Place → X) → run X bad next ≡ bad f) → Run P run
  goes : (a : A) (q : Place) → P a q → ((X : Type 0) (bad : Fault → X) (next : A → Place → X) → run X bad next ≡ next a q) → Run P run

-- reading l at p: what it goes on with is within P and stands in the message as it would be written
abbrev pub Reads : {A : Type 0} → Layout A → (A → Type 0) → List ℕ → Place → Type 1
Reads l P s p = Run (λ a q. P a × Wrote s p.at (l.write a) q) (λ X bad next. l.read {X = X} s p bad next)

pub record Own {A : Type 0} (l : Layout A) (P : A → Type 0) : Type 1 where
  pub own : (s : List ℕ) (p : Place) → p.at ≤ 8 * reach s → Reads l P s p

-- ---- bits one behind the other

has-none : (s : List ℕ) (at : ℕ) → at ≤ 8 * reach s → Has s at []
has-none s at h = record { bits = λ k l. absurd (omega arith); room = omega arith }

has_both : (s : List ℕ) (at : ℕ) (xs ys : List ℕ) → Has s at xs → Has s (at + length xs) ys → Has s at (xs ++ ys)
has_both s at xs ys h i = record {
  bits = λ k l. elim (dec_le (suc k) (length xs)) [
    | yes m ↦ h.bits k m ∙ sym (get_or-append xs ys 0 k m)
    | no m ↦
        let d : ℕ = k - length xs in
        let e : k ≡ length xs + d = omega arith in
        let t : at + k ≡ at + length xs + d = omega arith in
        rw t (i.bits d (let n = length-append xs ys in omega arith)) ∙ sym (ap (λ (j : ℕ). get_or (xs ++ ys) j 0) e ∙ get_or-append-add xs ys d 0)
  ];
  room = let n = length-append xs ys in let r = i.room in omega arith;
}

wrote_none : (s : List ℕ) (p : Place) → p.at ≤ 8 * reach s → Wrote s p.at [] p
wrote_none s p h = record { has = has-none s p.at h; ends = omega arith }

wrote-both : (s : List ℕ) (at : ℕ) (xs ys : List ℕ) (q r : Place) → Wrote s at xs q → Wrote s q.at ys r → Wrote s at (xs ++ ys) r
wrote-both s at xs ys q r t u =
    let n = length-append xs ys in
    let e = t.ends in
    let g = u.ends in
    record { has = has_both s at xs ys t.has (rw e at u.has); ends = omega arith }

inside : {s bs : List ℕ} {at : ℕ} {q : Place} → Wrote s at bs q → q.at ≤ 8 * reach s
inside t = let r = t.has.room in let n = t.ends in omega arith

-- ---- a figure that came with an edition

pub nothing-own : {A : Type 0} (neutral : A) → Own (nothing neutral) (λ x. x ≡ neutral)
unfolding nothing
nothing-own neutral = record { own = λ s p h. goes neutral p (refl, wrote_none s p h) (λ X bad next. refl) }

pub present-own : {A : Type 0} (b : Bool) (neutral : A) {l : Layout A} {P : A → Type 0} → Own l P → Own (present b neutral l) (Where b neutral P)
unfolding present
present-own true neutral u = u
present-own false neutral u = nothing-own neutral

-- ---- fields

field-bits : (s : List ℕ) (at w k : ℕ) → k < w → bit_at s (at + k) ≡ get_or (bits_of w (field_at s at w)) k 0
unfolding bits_of field_at
field-bits s at zero k h = absurd (omega arith)
field-bits s at (suc w) k h =
    let b = bit-lt s (at + w) in
    let v : ℕ = field_at s at w in
    let bs : List ℕ = bits_of w v in
    let u : (field_at s at w * 2 + bit_at s (at + w)) / 2 ≡ field_at s at w = omega arith in
    let t : (field_at s at w * 2 + bit_at s (at + w)) % 2 ≡ bit_at s (at + w) = omega arith in
    let n : length (bits_of w (field_at s at w)) ≡ w = length-bits w (field_at s at w) in
    rw (u, t) (elim (dec_le (suc k) w) [
      | yes m ↦ field-bits s at w k m ∙ sym (get_or-append bs (bit_at s (at + w) ∷ []) 0 k (omega arith))
      | no m ↦
          let e : k ≡ length (bits_of w (field_at s at w)) + 0 = omega arith in
          let j : k ≡ w = omega arith in
          ap (λ (j : ℕ). bit_at s (at + j)) j ∙ sym (ap (λ (j : ℕ). get_or (bs ++ (bit_at s (at + w) ∷ [])) j 0) e ∙ get_or-append-add bs (bit_at s (at + w) ∷ []) 0 0)
    ])

-- a field that was read
module _ (s : List ℕ) (p : Place) (w : ℕ) (h : leb (p.at + w) (8 * reach s) ≡ true) where
  field-wrote : Wrote s p.at (bits_of w (field_at s p.at w)) (advanced p (p.at + w))
  field-wrote =
      let n = length-bits w (field_at s p.at w) in
      let r = leb-true (p.at + w) (8 * reach s) h in
      record { has = record { bits = λ k l. field-bits s p.at w k (omega arith); room = omega arith }; ends = omega arith }

pub nat-own : (f : Field) → Own (nat f) (λ v. (f.low ≤ v) × (v ≤ f.high))
unfolding nat read_field
nat-own f = record { own = λ s p h. go s p (leb (p.at + f.width) (8 * reach s)) refl }
  where
    Good : List ℕ → Place → ℕ → Place → Type 0
    Good s p a q = ((f.low ≤ a) × (a ≤ f.high)) × Wrote s p.at (bits_of f.width a) q

    tests : (s : List ℕ) (p : Place) (v : ℕ) (x y : Bool) → leb f.low v ≡ x → leb v f.high ≡ y → Wrote s p.at (bits_of f.width v) (advanced p (p.at + f.width))
        → Run (Good s p) (λ X bad next. pick x (pick y (next v (advanced p (p.at + f.width))) (bad (f.wrong p.at))) (bad (f.wrong p.at)))
    tests s p v true true e g t = goes v _ ((leb-true f.low v e, leb-true v f.high g), t) (λ X bad next. refl)
    tests s p v true false e g t = stops (f.wrong p.at) (λ X bad next. refl)
    tests s p v false y e g t = stops (f.wrong p.at) (λ X bad next. refl)

    go : (s : List ℕ) (p : Place) (b : Bool) → leb (p.at + f.width) (8 * reach s) ≡ b
        → Run (Good s p) (λ X bad next. raw {X = X} (pick b (Value (field_at s p.at f.width) (record { at = p.at + f.width })) (Cut p.at)) p bad
        (λ v after. pick (leb f.low v) (pick (leb v f.high) (next v after) (bad (f.wrong p.at))) (bad (f.wrong p.at))))
    go s p true e = tests s p (field_at s p.at f.width) _ _ refl refl (field-wrote s p f.width e)
    go s p false e = stops (F.Cut p.at) (λ X bad next. refl)

twos-again : (w v : ℕ) → v < 2 ^ w → to_twos w (from_twos w v) ≡ v
unfolding to_twos from_twos
twos-again w v h = elim (dec_le (suc (2 * v)) (2 ^ w)) [
  | yes l ↦ rw (le-leb (suc (2 * v)) (2 ^ w) l) refl
  | no l ↦ rw (lt-leb (suc (2 * v)) (2 ^ w) (omega arith)) (omega arith)
]

pub int-own : (w most : ℕ) → Own (int w most) (λ z. nat_abs z ≤ most)
unfolding int read_field
int-own w most = record { own = λ s p h. go s p (leb (p.at + w) (8 * reach s)) refl }
  where
    Good : List ℕ → Place → ℤ → Place → Type 0
    Good s p a q = (nat_abs a ≤ most) × Wrote s p.at (bits_of w (to_twos w a)) q

    test : (s : List ℕ) (p : Place) (z : ℤ) (x : Bool) → leb (nat_abs z) most ≡ x → Wrote s p.at (bits_of w (to_twos w z)) (advanced p (p.at + w))
        → Run (Good s p) (λ X bad next. pick {A = X} x (next z (advanced p (p.at + w))) (bad (F.OutOfRange p.at)))
    test s p z true e t = goes z _ (leb-true (nat_abs z) most e, t) (λ X bad next. refl)
    test s p z false e t = stops (F.OutOfRange p.at) (λ X bad next. refl)

    go : (s : List ℕ) (p : Place) (b : Bool) → leb (p.at + w) (8 * reach s) ≡ b
        → Run (Good s p) (λ X bad next. raw {X = X} (pick b (Value (field_at s p.at w) (record { at = p.at + w })) (Cut p.at)) p bad
        (λ v after. pick (leb (nat_abs (from_twos w v)) most) (next (from_twos w v) after) (bad (F.OutOfRange p.at))))
    go s p true e = test s p (from_twos w (field_at s p.at w)) _ refl (rw (twos-again w (field_at s p.at w) (field_lt s p.at w)) (field-wrote s p w e))
    go s p false e = stops (F.Cut p.at) (λ X bad next. refl)

-- ---- layouts of layouts

pub own-more : {A : Type 0} {l : Layout A} (P Q : A → Type 0) → Own l P → ((a : A) → P a → Q a) → Own l Q
own-more {l = l} P Q u f = record { own = λ s p h. go s p (u.own s p h) }
  where
    go : (s : List ℕ) (p : Place) → Reads l P s p → Reads l Q s p
    go s p (stops x e) = stops x e
    go s p (goes a q (k, t) e) = goes a q (f a k, t) e

-- what is held must give back what was read
pub held-own : {A B : Type 0} (to : A → B) (from : B → A) {l : Layout A} (P : A → Type 0) (Q : B → Type 0)
    → Own l P → ((a : A) → P a → Q (to a) × (from (to a) ≡ a)) → Own (held to from l) Q
unfolding held
held-own {A} {B} to from {l} P Q u f = record { own = λ s p h. go s p (u.own s p h) }
  where
    go : (s : List ℕ) (p : Place) → Reads l P s p → Run (λ b q. Q b × Wrote s p.at (l.write (from b)) q) (λ X bad next. l.read {X = X} s p bad (λ a p. next (to a) p))
    go s p (stops x e) = stops x (λ X bad next. e X bad _)
    go s p (goes a q (k, t) e) = goes (to a) q ((f a k).0, rw (f a k).1 t) (λ X bad next. e X bad _)

-- a contradiction is noted at the same place
pub such-own : {A : Type 0} (ok : A → Bool) {l : Layout A} {P : A → Type 0} → Own l P → Own (such ok l) P
unfolding such
such-own {A} ok {l} {P} u = record { own = λ s p h. go s p (u.own s p h) }
  where
    same : (s : List ℕ) (at b : ℕ) (bs : List ℕ) (t : Bool) (q : Place) → Wrote s at bs q → Wrote s at bs (noted t b q)
    same s at b bs true q w = w
    same s at b bs false q w = record { has = w.has; ends = w.ends }

    go : (s : List ℕ) (p : Place) → Reads l P s p → Run (λ a q. P a × Wrote s p.at (l.write a) q) (λ X bad next. l.read {X = X} s p bad (λ a after. next a (noted (ok a) p.at after)))
    go s p (stops x e) = stops x (λ X bad next. e X bad _)
    go s p (goes a q (k, t) e) = goes a (noted (ok a) p.at q) (k, same s p.at p.at (l.write a) (ok a) q t) (λ X bad next. e X bad _)

module _ {A B : Type 0} {l : Layout A} (m : A → Layout B) (P : A → Type 0) (Q : A → B → Type 0) (u : Own l P) (v : (a : A) → P a → Own (m a) (Q a)) where
  abbrev Both : List ℕ → Place → Type 1
  Both s p = Run (λ (x : A × B) r. (P x.0 × Q x.0 x.1) × Wrote s p.at (l.write x.0 ++ (m x.0).write x.1) r)
      (λ X bad next. l.read {X = X} s p bad (λ a p. (m a).read s p bad (λ b p. next (a, b) p)))

  second : (s : List ℕ) (p : Place) (a : A) (q : Place) → P a → Wrote s p.at (l.write a) q
      → ((X : Type 0) (bad : Fault → X) (next : A → Place → X) → l.read s p bad next ≡ next a q) → Reads (m a) (Q a) s q → Both s p
  second s p a q k t e (stops f g) = stops f (λ X bad next. e X bad _ ∙ g X bad _)
  second s p a q k t e (goes b r (j, w) g) = goes (a, b) r ((k, j), wrote-both s p.at (l.write a) ((m a).write b) q r t w) (λ X bad next. e X bad _ ∙ g X bad _)

  first : (s : List ℕ) (p : Place) → Reads l P s p → Both s p
  first s p (stops f e) = stops f (λ X bad next. e X bad _)
  first s p (goes a q (k, t) e) = second s p a q k t e ((v a k).own s q (inside t))

  pub then-own : Own (l then m) (λ x. P x.0 × Q x.0 x.1)
  unfolding ◌then◌
  then-own = record { own = λ s p h. first s p (u.own s p h) }

pub pair-own : {A B : Type 0} {l : Layout A} {m : Layout B} {P : A → Type 0} {Q : B → Type 0} → Own l P → Own m Q → Own (l ▸ m) (λ x. P x.0 × Q x.1)
pair-own {m = m} {P = P} {Q = Q} u v = then-own (λ a. m) P (λ a. Q) u (λ a ok. v)

module _ {A : Type 0} {l : Layout A} {P : A → Type 0} (u : Own l P) (s : List ℕ) where
  abbrev Some : ℕ → Place → Type 1
  Some n p = Run (λ xs q. ((length xs ≡ n) × All P xs) × Wrote s p.at (gather l.write xs) q) (λ X bad next. repeated {X = X} l s n p bad next)

  abbrev More : ℕ → Place → Type 1
  More n p = Run (λ xs q. ((length xs ≡ suc n) × All P xs) × Wrote s p.at (gather l.write xs) q)
      (λ X bad next. l.read {X = X} s p bad (λ a p. repeated l s n p bad (λ r p. next (a ∷ r) p)))

  others : (n : ℕ) (p : Place) (a : A) (q : Place) → P a → Wrote s p.at (l.write a) q
      → ((X : Type 0) (bad : Fault → X) (next : A → Place → X) → l.read s p bad next ≡ next a q) → Some n q → More n p
  unfolding gather
  others n p a q k t e (stops f g) = stops f (λ X bad next. e X bad _ ∙ g X bad _)
  others n p a q k t e (goes xs r (j, w) g) =
      goes (a ∷ xs) r ((ap suc j.0, (k, j.1)), wrote-both s p.at (l.write a) (gather l.write xs) q r t w) (λ X bad next. e X bad _ ∙ g X bad _)

  one : (n : ℕ) (p : Place) → Reads l P s p → ((q : Place) → q.at ≤ 8 * reach s → Some n q) → More n p
  one n p (stops f e) ih = stops f (λ X bad next. e X bad _)
  one n p (goes a q (k, t) e) ih = others n p a q k t e (ih q (inside t))

  repeated-own : (n : ℕ) (p : Place) → p.at ≤ 8 * reach s → Some n p
  unfolding repeated gather
  repeated-own zero p h = goes [] p ((refl, tt), wrote_none s p h) (λ X bad next. refl)
  repeated-own (suc n) p h = one n p (u.own s p h) (repeated-own n)

pub list-own : {A : Type 0} (n : ℕ) {l : Layout A} {P : A → Type 0} → Own l P → Own (list n l) (λ xs. (length xs ≡ n) × All P xs)
unfolding list
list-own n u = record { own = λ s p h. repeated-own u s n p h }

pub counted-own : {A : Type 0} (f : Field) {l : Layout A} {P : A → Type 0} → Own l P → Own (counted f l) (λ xs. (length xs ≤ f.high) × All P xs)
unfolding counted
counted-own f {l} {P} u = held-own _ _ _ _ (then-own (λ n. list n l) _ (λ n xs. (length xs ≡ n) × All P xs) (nat-own f) (λ n ok. list-own n u))
    (λ v ok. let e : length v.1 ≡ v.0 = ok.1.0 in ((omega arith, ok.1.1), ap (λ (n : ℕ). (n, v.1)) e))
