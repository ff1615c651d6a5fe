-- What was read by one layout can be written by another and reads back there: the laws that an older message written anew needs, each proved once.
use Rattle.std.specs.Prelude.{◌≡◌, refl, Bool, true, false, T, length, get_or, ℤ, pos, negsuc, nat_abs}
use Rattle.std.proofs.Common.{sym, ◌∙◌, arith, mul-le-mul, get_or-append-add}
use Rattle.std.proofs.Math.Path.{ap}
use mathlib.Core.List.{List, [], ◌∷◌, ◌++◌}
use Prim.Native.Nat.{ℕ, zero, suc, ◌+◌, ◌-◌, ◌*◌, ◌^◌, ◌≤◌, ◌<◌}
use Rattle.std.proofs.Math.Decide.{dec_le}
use Rattle.std.proofs.Math.ListN.{length-append, get_or-append}
use Rattle.bits.specs.Bits.{reach}
use Rattle.bits.specs.Twos.{to_twos}
use Rattle.numbers.specs.Base.{gather}
use Rattle.numbers.specs.Sum.{All}
use Rattle.layouts.specs.declared.Fault.{Fault}
use Rattle.layouts.specs.declared.Clash.{Clash}
use Rattle.layouts.specs.declared.Clash.TheVariants.{Clear, At}
use Rattle.layouts.specs.declared.Place.{Place}
use Rattle.layouts.specs.Layout.{Layout, Field, Whole, passes, fails, bytes, or_else, noted, begin, advanced, nat, int, ◌then◌, ◌▸◌, repeated, list, such, held}
use Rattle.layouts.specs.Layout.{counted, any, settle, tail_fault, read_whole}
use Rattle.layouts.specs.Since.{nothing, present, nothing-law, Where}
use Rattle.layouts.specs.Trip.{Has, Fits, length-bits, nat-law, int-law, then-law, such-law, weaken, whole_back}
use Rattle.layouts.specs.Own as O
use Rattle.layouts.specs.Own.{Own, Wrote, nat-own, int-own}
use Rattle.layouts.specs.OwnBytes.{whole-own}
use Rattle.layouts.specs.Sure as S
use Rattle.layouts.specs.Sure.{Sure, nat-sure, int-sure}
use Rattle.writing.specs.Again.{Again, Ends, Fit, Good, None, Reads, goes, stops}

module _ {A B : Type 0} {l : Layout A} (m : A → Layout B) {j k : ℕ} {a : A} {b : B} where
  pub fit_then : Fit l j a → Fit (m a) k b → Fit (l then m) (j + k) (a, b)
  unfolding ◌then◌
  fit_then u v = record {
    back = weaken _ _ _ (then-law l m (λ x. x ≡ a) (λ x y. y ≡ b) u.back (λ x e. rw e v.back)) (λ x e. (ap (λ y. y.0) e, ap (λ y. y.1) e));
    size = omega (arith, length-append (l.write a) ((m a).write b), u.size, v.size);
  }

-- held as another value that writes the same
pub fit-held : {A B : Type 0} (to : A → B) (from : B → A) {l : Layout A} {n : ℕ} {a : A} → l.write (from (to a)) ≡ l.write a → Fit l n a → Fit (held to from l) n (to a)
unfolding held
fit-held to from {l} {n} {a} w u = record {
  back = record {
    back = λ x e s p bad next h.
        let k : l.write (from x) ≡ l.write a = rw e w in
        u.back.back a refl s p bad (λ y q. next (to y) q) (rw k at h) ∙ rw (e, w) refl;
    bits = λ x e. rw (e, w) (u.back.bits a refl);
  };
  size = rw w u.size;
}

pub fit-such : {A : Type 0} (ok : A → Bool) {l : Layout A} {n : ℕ} {a : A} → T (ok a) → Fit l n a → Fit (such ok l) n a
unfolding such
fit-such ok {l} {n} {a} t u = record { back = weaken _ _ _ (such-law ok l (λ x. x ≡ a) u.back) (λ x e. (e, rw e t)); size = u.size }

pub fit-nothing : {A : Type 0} (neutral : A) → Fit (nothing neutral) 0 neutral
unfolding nothing
fit-nothing neutral = record { back = nothing-law neutral; size = omega arith }

pub fit-nil : {A : Type 0} (l : Layout A) → Fit (list 0 l) 0 []
unfolding list repeated gather
fit-nil l = record {
  back = record { back = λ x e s p bad next h. rw e (ap (λ (n : ℕ). next [] (advanced p n)) (omega arith)); bits = λ x e. rw e tt };
  size = omega arith;
}

pub fit-cons : {A : Type 0} {l : Layout A} (n : ℕ) {j k : ℕ} {a : A} {xs : List A} → Fit l j a → Fit (list n l) k xs → Fit (list (suc n) l) (j + k) (a ∷ xs)
unfolding list repeated gather ◌then◌
fit-cons {l = l} n {a = a} {xs = xs} u v =
    let w = fit_then (λ x. list n l) u v in
    record {
      back = record {
        back = λ x e s p bad next h. rw e (w.back.back (a, xs) refl s p bad (λ y q. next (y.0 ∷ y.1) q) (rw e at h));
        bits = λ x e. rw e (w.back.bits (a, xs) refl);
      };
      size = w.size;
    }

pub fit-more : {A : Type 0} {l : Layout A} {j k : ℕ} {a : A} → j ≤ k → Fit l j a → Fit l k a
fit-more h u = record { back = u.back; size = omega (arith, u.size) }

pub fit-nat : (f : Field) (v : ℕ) → f.high < 2 ^ f.width → f.low ≤ v → v ≤ f.high → Fit (nat f) f.width v
unfolding nat
fit-nat f v h i j = record { back = weaken _ _ _ (nat-law f h) (λ x e. (omega arith, omega arith)); size = omega (arith, length-bits f.width v) }

pub fit_int : (w most : ℕ) (z : ℤ) → 2 * most < 2 ^ w → nat_abs z ≤ most → Fit (int w most) w z
unfolding int
fit_int w most z h i = record { back = weaken _ _ _ (int-law w most) (λ x e. rw e (fits z i, i)); size = omega (arith, length-bits w (to_twos w z)) }
  where
    fits : (z : ℤ) → nat_abs z ≤ most → Fits w z
    fits (pos v) i = omega arith
    fits (negsuc v) i = omega arith

pub fit-any : (w v : ℕ) → 0 < 2 ^ w → v ≤ 2 ^ w - 1 → Fit (any w) w v
fit-any w v h i = fit-nat (record { width = w; low = 0; high = 2 ^ w - 1; wrong = _ }) v (omega arith) (omega arith) i

pub fit-pair : {A B : Type 0} {l : Layout A} {m : Layout B} {j k : ℕ} {a : A} {b : B} → Fit l j a → Fit m k b → Fit (l ▸ m) (j + k) (a, b)
fit-pair {m = m} u v = fit_then (λ a. m) u v

-- n of them, at most `most`
pub fit-list : {A : Type 0} (n most : ℕ) {l : Layout A} {P : A → Type 0} {i : ℕ} → ((a : A) → P a → Fit l i a) → n ≤ most → (xs : List A) → length xs ≡ n → All P xs → Fit (list n l) (most * i) xs
fit-list {A} n most {l} {P} {i} f h xs e k = let one : i ≤ i = omega arith in let m : n * i ≤ most * i = mul-le-mul h one in fit-more m (rw (sym e) (go xs k))
  where
    go : (xs : List A) → All P xs → Fit (list (length xs) l) (length xs * i) xs
    go [] k = fit-more (omega arith) (fit-nil l)
    go (x ∷ xs) k = fit-more (omega arith) (fit-cons (length xs) (f x k.0) (go xs k.1))

-- what an edition has or lacks
pub fit-present : {A : Type 0} (b : Bool) (neutral : A) {l : Layout A} {P : A → Type 0} {i : ℕ} → ((a : A) → P a → Fit l i a) → (a : A) → Where b neutral P a → Fit (present b neutral l) i a
unfolding present
fit-present true neutral f a k = f a k
fit-present false neutral f a k = rw k (fit-more (omega arith) (fit-nothing neutral))

-- ---- bits one behind the other (as in `Own`, where they are not public)
has-none : (s : List ℕ) (at : ℕ) → at ≤ 8 * reach s → Has s at []
has-none s at h = record { bits = λ k l. absurd (omega arith); room = omega arith }

has_both : (s : List ℕ) (at : ℕ) (xs ys : List ℕ) → Has s at xs → Has s (at + length xs) ys → Has s at (xs ++ ys)
has_both s at xs ys h i = record {
  bits = λ k l. elim (dec_le (suc k) (length xs)) [
    | yes m ↦ h.bits k m ∙ sym (get_or-append xs ys 0 k m)
    | no m ↦
        let d : ℕ = k - length xs in
        let e : k ≡ length xs + d = omega arith in
        let t : at + k ≡ at + length xs + d = omega arith in
        rw t (i.bits d (let n = length-append xs ys in omega arith)) ∙ sym (ap (λ (j : ℕ). get_or (xs ++ ys) j 0) e ∙ get_or-append-add xs ys d 0)
  ];
  room = let n = length-append xs ys in let r = i.room in omega arith;
}

wrote_none : (s : List ℕ) (p : Place) → p.at ≤ 8 * reach s → Wrote s p.at [] p
wrote_none s p h = record { has = has-none s p.at h; ends = omega arith }

wrote-both : (s : List ℕ) (at : ℕ) (xs ys : List ℕ) (q r : Place) → Wrote s at xs q → Wrote s q.at ys r → Wrote s at (xs ++ ys) r
wrote-both s at xs ys q r t u =
    let n = length-append xs ys in
    let e = t.ends in
    let g = u.ends in
    record { has = has_both s at xs ys t.has (rw e at u.has); ends = omega arith }

inside : {s bs : List ℕ} {at : ℕ} {q : Place} → Wrote s at bs q → q.at ≤ 8 * reach s
inside t = let r = t.has.room in let n = t.ends in omega arith

-- a layout of which both laws of reading are known
pub both-reads : {A : Type 0} (l : Layout A) (P Q : A → Type 0) (R : A → Type 1) → Own l P → Sure l Q → ((a : A) → Q a → R a) → Reads l P R
both-reads {A} l P Q R u v f = record { ends = λ s p h. go s p (u.own s p h) (v.ends s p) }
  where
    same : (s : List ℕ) (p : Place) (a : A) (q : Place) (b : A) (r : Place)
        → ((X : Type 0) (bad : Fault → X) (next : A → Place → X) → l.read {X = X} s p bad next ≡ next a q)
        → ((X : Type 0) (bad : Fault → X) (next : A → Place → X) → l.read {X = X} s p bad next ≡ next b r)
        → ◌≡◌ {A = A × Place} (b, r) (a, q)
    same s p a q b r e g = sym (g (A × Place) (λ f. (a, q)) (λ x y. (x, y))) ∙ e (A × Place) (λ f. (a, q)) (λ x y. (x, y))

    go : (s : List ℕ) (p : Place) → O.Reads l P s p → S.Ends Q p (λ X bad next. l.read {X = X} s p bad next) → Ends (Good l P R s p) (λ X bad next. l.read {X = X} s p bad next)
    go s p (O.stops x e) w = stops x e
    go s p (O.goes a q (k, t) e) (S.stops x g) = absurd (let z : ◌≡◌ {A = ℕ} 0 1 = sym (g ℕ (λ f. 0) (λ x y. 1)) ∙ e ℕ (λ f. 0) (λ x y. 1) in omega arith)
    go s p (O.goes a q (k, t) e) (S.goes b r j g) =
        let w = same s p a q b r e g in
        let x : b ≡ a = ap (λ y. y.0) w in
        let y : r ≡ q = ap (λ y. y.1) w in
        goes a q (record { holds = k; wrote = t; clear = λ c. (j (rw y c)).1; sure = λ c. rw (sym x) (f b (j (rw y c)).0) }) e

pub more-reads : {A : Type 0} (l : Layout A) (P Q : A → Type 0) (R S : A → Type 1) → Reads l P R → ((a : A) → P a → Q a) → ((a : A) → P a → R a → S a) → Reads l Q S
more-reads l P Q R S u f g = record { ends = λ s p h. go s p (u.ends s p h) }
  where
    go : (s : List ℕ) (p : Place) → Ends (Good l P R s p) (λ X bad next. l.read {X = X} s p bad next) → Ends (Good l Q S s p) (λ X bad next. l.read {X = X} s p bad next)
    go s p (stops x e) = stops x e
    go s p (goes a q k e) = goes a q (record { holds = f a k.holds; wrote = k.wrote; clear = k.clear; sure = λ c. g a k.holds (k.sure c) }) e

module _ {A B : Type 0} (l : Layout A) (m : A → Layout B) (P : A → Type 0) (Q : A → B → Type 0) (R : A → Type 1) (S : A → B → Type 1)
    (u : Reads l P R) (v : (a : A) → P a → Reads (m a) (Q a) (S a)) where
  abbrev Both : List ℕ → Place → (A × B) → Place → Type 1
  Both s p = Good (l then m) (λ (x : A × B). P x.0 × Q x.0 x.1) (λ (x : A × B). R x.0 × S x.0 x.1) s p

  second : (s : List ℕ) (p : Place) (a : A) (q : Place) → Good l P R s p a q
      → ((X : Type 0) (bad : Fault → X) (next : A → Place → X) → l.read s p bad next ≡ next a q)
      → Ends (Good (m a) (Q a) (S a) s q) (λ X bad next. (m a).read {X = X} s q bad next)
      → Ends (Both s p) (λ X bad next. l.read {X = X} s p bad (λ a p. (m a).read s p bad (λ b p. next (a, b) p)))
  unfolding ◌then◌
  second s p a q k e (stops f g) = stops f (λ X bad next. e X bad _ ∙ g X bad _)
  second s p a q k e (goes b r j g) = goes (a, b) r
      (record {
        holds = (k.holds, j.holds);
        wrote = wrote-both s p.at (l.write a) ((m a).write b) q r k.wrote j.wrote;
        clear = λ c. k.clear (j.clear c);
        sure = λ c. (k.sure (j.clear c), j.sure c);
      })
      (λ X bad next. e X bad _ ∙ g X bad _)

  first : (s : List ℕ) (p : Place) → Ends (Good l P R s p) (λ X bad next. l.read {X = X} s p bad next)
      → Ends (Both s p) (λ X bad next. l.read {X = X} s p bad (λ a p. (m a).read s p bad (λ b p. next (a, b) p)))
  first s p (stops f e) = stops f (λ X bad next. e X bad _)
  first s p (goes a q k e) = second s p a q k e ((v a k.holds).ends s q (inside k.wrote))

  pub then-reads : Reads (l then m) (λ x. P x.0 × Q x.0 x.1) (λ x. R x.0 × S x.0 x.1)
  unfolding ◌then◌
  then-reads = record { ends = λ s p h. first s p (u.ends s p h) }

pub held_reads : {A B : Type 0} (to : A → B) (from : B → A) (l : Layout A) (P : A → Type 0) (Q : B → Type 0) (R : A → Type 1) (S : B → Type 1) → Reads l P R
    → ((a : A) → P a → Q (to a)) → ((a : A) → P a → l.write (from (to a)) ≡ l.write a) → ((a : A) → P a → R a → S (to a)) → Reads (held to from l) Q S
unfolding held
held_reads {A} {B} to from l P Q R S u f w g = record { ends = λ s p h. go s p (u.ends s p h) }
  where
    go : (s : List ℕ) (p : Place) → Ends (Good l P R s p) (λ X bad next. l.read {X = X} s p bad next)
        → Ends (Good (held to from l) Q S s p) (λ X bad next. l.read {X = X} s p bad (λ a p. next (to a) p))
    go s p (stops x e) = stops x (λ X bad next. e X bad _)
    go s p (goes a q k e) = goes (to a) q
        (record { holds = f a k.holds; wrote = rw (w a k.holds) k.wrote; clear = k.clear; sure = λ c. g a k.holds (k.sure c) })
        (λ X bad next. e X bad _)

-- a test that was made held
pub such-reads : {A : Type 0} (ok : A → Bool) (l : Layout A) (P : A → Type 0) (R : A → Type 1) → Reads l P R → Reads (such ok l) P (λ a. R a × T (ok a))
unfolding such
such-reads {A} ok l P R u = record { ends = λ s p h. go s p (u.ends s p h) }
  where
    same : (s : List ℕ) (at b : ℕ) (bs : List ℕ) (t : Bool) (q : Place) → Wrote s at bs q → Wrote s at bs (noted t b q)
    same s at b bs true q w = w
    same s at b bs false q w = record { has = w.has; ends = w.ends }

    clear : (b : Bool) (n : ℕ) (q : Place) → (noted b n q).clash ≡ Clear → T b × (q.clash ≡ Clear)
    clear true n q e = (tt, e)
    clear false n q e = absurd (dirty q.clash e)
      where
        dirty : (c : Clash) → or_else c (At n) ≡ Clear → ⊥
        dirty Clear e = let z : ◌≡◌ {A = ℕ} 0 1 = cc in omega arith
        dirty (At b) e = let z : ◌≡◌ {A = ℕ} 0 1 = cc in omega arith

    go : (s : List ℕ) (p : Place) → Ends (Good l P R s p) (λ X bad next. l.read {X = X} s p bad next)
        → Ends (Good (such ok l) P (λ a. R a × T (ok a)) s p) (λ X bad next. l.read {X = X} s p bad (λ a after. next a (noted (ok a) p.at after)))
    go s p (stops x e) = stops x (λ X bad next. e X bad _)
    go s p (goes a q k e) = goes a (noted (ok a) p.at q)
        (record {
          holds = k.holds;
          wrote = same s p.at p.at (l.write a) (ok a) q k.wrote;
          clear = λ c. k.clear (clear (ok a) p.at q c).1;
          sure = λ c. let d = clear (ok a) p.at q c in (k.sure d.1, d.0);
        })
        (λ X bad next. e X bad _)

pub pair_reads : {A B : Type 0} (l : Layout A) (m : Layout B) (P : A → Type 0) (Q : B → Type 0) (R : A → Type 1) (S : B → Type 1) → Reads l P R → Reads m Q S
    → Reads (l ▸ m) (λ x. P x.0 × Q x.1) (λ x. R x.0 × S x.1)
pair_reads l m P Q R S u v = then-reads l (λ a. m) P (λ a. Q) R (λ a. S) u (λ a ok. v)

pub nat-reads : (f : Field) → Reads (nat f) (λ v. (f.low ≤ v) × (v ≤ f.high)) None
nat-reads f = both-reads (nat f) _ _ None (nat-own f) (nat-sure f) (λ v k. tt)

-- a field that holds one value
pub only-reads : (w v : ℕ) (wrong : ℕ → Fault) → Reads (nat (record { width = w; low = v; high = v; wrong = wrong })) (λ x. x ≡ v) None
only-reads w v wrong = more-reads _ _ _ _ _ (nat-reads (record { width = w; low = v; high = v; wrong = wrong })) (λ x ok. omega arith) (λ x ok r. r)

pub only-fits : (w v : ℕ) (wrong : ℕ → Fault) → v < 2 ^ w → Fit (nat (record { width = w; low = v; high = v; wrong = wrong })) w v
only-fits w v wrong h = fit-nat (record { width = w; low = v; high = v; wrong = wrong }) v h (omega arith) (omega arith)

-- ---- read by one layout, written by another
pub nat-again : (f g : Field) → g.low ≤ f.low → f.high ≤ g.high → g.high < 2 ^ g.width → Again (nat f) (nat g) (λ v. (f.low ≤ v) × (v ≤ f.high)) g.width
nat-again f g h i j = both-reads (nat f) _ _ _ (nat-own f) (nat-sure f) (λ v k. fit-nat g v j (omega arith) (omega arith))

-- a field that does not depend on the edition
pub same-again : (f : Field) → f.high < 2 ^ f.width → Again (nat f) (nat f) (λ v. (f.low ≤ v) × (v ≤ f.high)) f.width
same-again f h = nat-again f f (omega arith) (omega arith) h

pub int-again : (w most : ℕ) → 2 * most < 2 ^ w → Again (int w most) (int w most) (λ z. nat_abs z ≤ most) w
int-again w most h = both-reads (int w most) _ _ _ (int-own w most) (int-sure w most) (λ z k. fit_int w most z h k)

module _ {A B : Type 0} {l k : Layout A} (m n : A → Layout B) {P : A → Type 0} (Q : A → B → Type 0) {i j : ℕ} where
  pub then-again : Again l k P i → ((a : A) → P a → Again (m a) (n a) (Q a) j) → Again (l then m) (k then n) (λ x. P x.0 × Q x.0 x.1) (i + j)
  then-again u v = more-reads _ _ _ _ _ (then-reads l m P Q (Fit k i) (λ a. Fit (n a) j) u v) (λ x ok. ok) (λ x ok r. fit_then n r.0 r.1)

pub pair-again : {A B : Type 0} {l k : Layout A} {m n : Layout B} {P : A → Type 0} {Q : B → Type 0} {i j : ℕ} → Again l k P i → Again m n Q j
    → Again (l ▸ m) (k ▸ n) (λ x. P x.0 × Q x.1) (i + j)
pair-again {m = m} {n = n} {Q = Q} u v = then-again (λ a. m) (λ a. n) (λ a. Q) u (λ a ok. v)

-- what is held need only write the same as what was read
module _ {A B : Type 0} (to : A → B) (from : B → A) {m n : Layout A} {P : A → Type 0} (Q : B → Type 0) {i : ℕ} where
  pub loose-again : Again m n P i → ((a : A) → P a → Q (to a)) → ((a : A) → P a → m.write (from (to a)) ≡ m.write a) → ((a : A) → P a → n.write (from (to a)) ≡ n.write a)
      → Again (held to from m) (held to from n) Q i
  loose-again u f v w = held_reads to from m P Q (Fit n i) _ u f v (λ a ok r. fit-held to from (w a ok) r)

  pub held-again : Again m n P i → ((a : A) → P a → Q (to a) × (from (to a) ≡ a)) → Again (held to from m) (held to from n) Q i
  held-again u f = loose-again u (λ a ok. (f a ok).0) (λ a ok. ap m.write (f a ok).1) (λ a ok. ap n.write (f a ok).1)

pub such-again : {A : Type 0} (ok : A → Bool) {m n : Layout A} {P : A → Type 0} {i : ℕ} → Again m n P i → Again (such ok m) (such ok n) P i
such-again ok {m} {n} {P} {i} u = more-reads _ _ _ _ _ (such-reads ok m P (Fit n i) u) (λ a k. k) (λ a k r. fit-such ok r.1 r.0)

-- what an edition lacks and a later one has, or both lack
pub present-again : {A : Type 0} (b c : Bool) (neutral : A) {m n : Layout A} {P : A → Type 0} {i : ℕ} → (b ≡ true → c ≡ true) → P neutral → Fit n i neutral → Again m n P i
    → Again (present b neutral m) (present c neutral n) P i
unfolding present nothing
present-again true true neutral h k f u = u
present-again true false neutral h k f u = absurd (let t = h refl in let z : ◌≡◌ {A = ℕ} 0 1 = cc in omega arith)
present-again {A} false c neutral {m} {n} {P} {i} h k f u = record { ends = λ s p l. none s p l c }
  where
    none : (s : List ℕ) (p : Place) → p.at ≤ 8 * reach s → (c : Bool)
        → Ends (Good (present false neutral m) P (Fit (present c neutral n) i) s p) (λ X bad next. (present false neutral m).read {X = X} s p bad next)
    none s p l true = goes neutral p (record { holds = k; wrote = wrote_none s p l; clear = λ e. e; sure = λ e. f }) (λ X bad next. refl)
    none s p l false = goes neutral p (record { holds = k; wrote = wrote_none s p l; clear = λ e. e; sure = λ e. fit-more (omega arith) (fit-nothing neutral) }) (λ X bad next. refl)

-- n of them, at most `most`
module _ {A : Type 0} {m k : Layout A} {P : A → Type 0} {i : ℕ} (u : Again m k P i) (s : List ℕ) where
  abbrev Some : ℕ → Place → List A → Place → Type 1
  Some n p = Good (list n m) (λ xs. length xs ≡ n) (Fit (list n k) (n * i)) s p

  others : (n : ℕ) (p : Place) (a : A) (q : Place) → Good m P (Fit k i) s p a q
      → ((X : Type 0) (bad : Fault → X) (next : A → Place → X) → m.read s p bad next ≡ next a q)
      → Ends (Some n q) (λ X bad next. repeated {X = X} m s n q bad next)
      → Ends (Some (suc n) p) (λ X bad next. m.read {X = X} s p bad (λ a p. repeated m s n p bad (λ r p. next (a ∷ r) p)))
  unfolding list gather
  others n p a q x e (stops f g) = stops f (λ X bad next. e X bad _ ∙ g X bad _)
  others n p a q x e (goes xs r j g) = goes (a ∷ xs) r
      (record {
        holds = ap suc j.holds;
        wrote = wrote-both s p.at (m.write a) (gather m.write xs) q r x.wrote j.wrote;
        clear = λ c. x.clear (j.clear c);
        sure = λ c. fit-more (omega arith) (fit-cons n (x.sure (j.clear c)) (j.sure c));
      })
      (λ X bad next. e X bad _ ∙ g X bad _)

  one : (n : ℕ) (p : Place) → Ends (Good m P (Fit k i) s p) (λ X bad next. m.read {X = X} s p bad next)
      → ((q : Place) → q.at ≤ 8 * reach s → Ends (Some n q) (λ X bad next. repeated {X = X} m s n q bad next))
      → Ends (Some (suc n) p) (λ X bad next. m.read {X = X} s p bad (λ a p. repeated m s n p bad (λ r p. next (a ∷ r) p)))
  one n p (stops f e) ih = stops f (λ X bad next. e X bad _)
  one n p (goes a q x e) ih = others n p a q x e (ih q (inside x.wrote))

  repeated-again : (n : ℕ) (p : Place) → p.at ≤ 8 * reach s → Ends (Some n p) (λ X bad next. repeated {X = X} m s n p bad next)
  unfolding repeated gather list
  repeated-again zero p h = goes [] p (record { holds = refl; wrote = wrote_none s p h; clear = λ c. c; sure = λ c. fit-more (omega arith) (fit-nil k) }) (λ X bad next. refl)
  repeated-again (suc n) p h = one n p (u.ends s p h) (repeated-again n)

pub list-again : {A : Type 0} (n most : ℕ) {m k : Layout A} {P : A → Type 0} {i : ℕ} → n ≤ most → Again m k P i → Again (list n m) (list n k) (λ xs. length xs ≡ n) (most * i)
unfolding list
list-again n most {m} {k} {P} {i} h u = record { ends = λ s p l. widen s p (repeated-again u s n p l) }
  where
    widen : (s : List ℕ) (p : Place) → Ends (Good (list n m) (λ xs. length xs ≡ n) (Fit (list n k) (n * i)) s p) (λ X bad next. repeated {X = X} m s n p bad next)
        → Ends (Good (list n m) (λ xs. length xs ≡ n) (Fit (list n k) (most * i)) s p) (λ X bad next. repeated {X = X} m s n p bad next)
    widen s p (stops f e) = stops f e
    widen s p (goes a q x e) = goes a q
        (record { holds = x.holds; wrote = x.wrote; clear = x.clear; sure = λ c. fit-more (mul-le-mul h (omega arith)) (x.sure c) }) e

-- a count and that many
pub counted-again : {A : Type 0} (f : Field) {m n : Layout A} {P : A → Type 0} {i : ℕ} → f.high < 2 ^ f.width → Again m n P i
    → Again (counted f m) (counted f n) (λ xs. length xs ≤ f.high) (f.width + f.high * i)
unfolding counted
counted-again f {m} {n} h u = held-again _ _ _
    (then-again (λ k. list k m) (λ k. list k n) (λ k xs. length xs ≡ k) (same-again f h) (λ k ok. list-again k f.high ok.1 u))
    (λ v ok. let e : length v.1 ≡ v.0 = ok.1 in (omega arith, ap (λ (k : ℕ). (k, v.1)) e))

-- ---- whole messages
pub reads-own : {A : Type 0} (l : Layout A) (P : A → Type 0) (R : A → Type 1) → Reads l P R → Own l P
reads-own l P R u = record { own = λ s p h. go s p (u.ends s p h) }
  where
    go : (s : List ℕ) (p : Place) → Ends (Good l P R s p) (λ X bad next. l.read {X = X} s p bad next) → O.Reads l P s p
    go s p (stops f e) = O.stops f e
    go s p (goes a q k e) = O.goes a q (k.holds, k.wrote) e

-- a message that passes reading is its content's own bytes
pub own-bytes : {A : Type 0} (l : Layout A) (P : A → Type 0) (R : A → Type 1) → Reads l P R → (s : List ℕ) → All (λ x. x < 256) s → (a : A) → read_whole l s ≡ passes a
    → bytes (l.write a) ≡ s
own-bytes l P R u s small a h = whole-own l P (reads-own l P R u) s small a h

-- and R holds of its content
pub whole-reads : {A : Type 0} (l : Layout A) (P : A → Type 0) (R : A → Type 1) → Reads l P R → (s : List ℕ) (a : A) → read_whole l s ≡ passes a → R a
unfolding read_whole settle
whole-reads {A} l P R u s a h = go (u.ends s begin (omega arith))
  where
    settled : (x : A) (f c : Clash) → (c ≡ Clear → R x) → settle x f c ≡ passes a → R a
    settled x (At b) c k e = absurd (let z : ◌≡◌ {A = ℕ} 0 1 = cc in omega arith)
    settled x Clear (At b) k e = absurd (let z : ◌≡◌ {A = ℕ} 0 1 = cc in omega arith)
    settled x Clear Clear k e = let t : x ≡ a = cc in rw (sym t) (k refl)

    go : Ends (Good l P R s begin) (λ X bad next. l.read {X = X} s begin bad next) → R a
    go (stops f e) = absurd (let t = sym (e (Whole A) fails (λ a p. settle a (tail_fault s p.at) p.clash)) ∙ h in let z : ◌≡◌ {A = ℕ} 0 1 = cc in omega arith)
    go (goes x q k e) = settled x (tail_fault s q.at) q.clash k.sure (sym (e (Whole A) fails (λ a p. settle a (tail_fault s p.at) p.clash)) ∙ h)

-- what fits reads back from its bytes
pub fit-whole : {A : Type 0} (l : Layout A) (n : ℕ) (a : A) → n + 8 < 2 ^ 63 → Fit l n a → read_whole l (bytes (l.write a)) ≡ passes a
fit-whole l n a h u = whole_back l (λ x. x ≡ a) u.back a refl (omega (arith, u.size))
