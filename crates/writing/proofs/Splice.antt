-- How a message is written anew without being taken apart: most bits are copied as they stand, and what an older edition lacks is put in between. A splice says which bits
-- are kept and which are added; what it gives of a message that a layout reads is what the newer layout writes.
use Rattle.std.specs.Prelude.{◌≡◌, Bool, length, get_or}
use Rattle.std.proofs.Math.Path.{refl, sym, ap, ap₂}
use Rattle.std.proofs.Common.{◌∙◌, arith, length-append, get_or-append-add, ext_get_or}
use Rattle.std.proofs.Math.Bool.{true, false}
use mathlib.Core.List.{List, [], ◌∷◌, ◌++◌, append_assoc, append-nil}
use Prim.Native.Nat.{ℕ, zero, suc, ◌+◌, ◌-◌, ◌*◌, ◌/◌, ◌%◌, ◌≤◌, ◌<◌}
use Rattle.std.proofs.Math.Decide.{dec_le}
use Rattle.std.proofs.Math.Dec.{leb}
use Rattle.std.proofs.Math.ListN.{get_or-append}
use borrow.Author.Tests.{leb-true}
use Rattle.bits.specs.Bits.{bit_at, field_at, reach, read_field}
use Rattle.bits.specs.Pick.{pick}
use Rattle.bits.specs.declared.Field.TheVariants.{Value, Cut}
use Rattle.bits.proofs.Laws.{bit-lt}
use Rattle.numbers.specs.Base.{gather}
use Rattle.layouts.specs.declared.Fault.{Fault}
use Rattle.layouts.specs.declared.Fault.TheVariants as F
use Rattle.layouts.specs.declared.Place.{Place}
use Rattle.layouts.specs.declared.Clash.{Clash}
use Rattle.layouts.specs.declared.Clash.TheVariants.{Clear, At}
use Rattle.layouts.specs.Layout.{Layout, Field, Whole, passes, fails, settle, tail_fault, read_whole, bits_of, raw, advanced, noted, begin, nat, int, ◌then◌, ◌▸◌, repeated, list, such, held, counted}
use Rattle.layouts.specs.Since.{nothing, present}
use Rattle.layouts.specs.Trip.{Has, length-bits}
use Rattle.layouts.specs.Own.{Own, Wrote, Run, stops, goes}
use Rattle.writing.specs.Splice.{Adds, Anew, Behind, Splice, Told, Wide, add, along, by, farther, keep, none, past, skip, spliced, times, ◌⨾◌}

-- a place never falls back
farther-up : (g : ℕ → ℕ) → ((at : ℕ) → at ≤ g at) → (n at : ℕ) → at ≤ farther g n at
unfolding farther
farther-up g h zero at = omega arith
farther-up g h (suc n) at = omega (arith, farther-up g h n at, h (farther g n at))

pub past_up : (t : Splice) (s : List ℕ) (at : ℕ) → at ≤ past t s at
unfolding past
past_up none s at = omega arith
past_up (keep w) s at = omega arith
past_up (skip w) s at = omega arith
past_up (add w v) s at = omega arith
past_up (by v w f) s at = omega (arith, past_up (f (field_at s at v)) s (at + v))
past_up (t ⨾ u) s at = omega (arith, past_up t s at, past_up u s (past t s at))
past_up (times n t) s at = farther-up (past t s) (λ a. past_up t s a) n at

-- ---- the bits that a message has
field-bits : (s : List ℕ) (at w k : ℕ) → k < w → bit_at s (at + k) ≡ get_or (bits_of w (field_at s at w)) k 0
unfolding bits_of field_at
field-bits s at zero k h = absurd (omega arith)
field-bits s at (suc w) k h =
    let b = bit-lt s (at + w) in
    let v : ℕ = field_at s at w in
    let bs : List ℕ = bits_of w v in
    let u : (field_at s at w * 2 + bit_at s (at + w)) / 2 ≡ field_at s at w = omega arith in
    let t : (field_at s at w * 2 + bit_at s (at + w)) % 2 ≡ bit_at s (at + w) = omega arith in
    let n : length (bits_of w (field_at s at w)) ≡ w = length-bits w (field_at s at w) in
    rw (u, t) (elim (dec_le (suc k) w) [
      | yes m ↦ field-bits s at w k m ∙ sym (get_or-append bs (bit_at s (at + w) ∷ []) 0 k (omega arith))
      | no m ↦
          let e : k ≡ length (bits_of w (field_at s at w)) + 0 = omega arith in
          let j : k ≡ w = omega arith in
          ap (λ (j : ℕ). bit_at s (at + j)) j ∙ sym (ap (λ (j : ℕ). get_or (bs ++ (bit_at s (at + w) ∷ [])) j 0) e ∙ get_or-append-add bs (bit_at s (at + w) ∷ []) 0 0)
    ])

-- the w bits at a place are those that stand there
pub kept-is : (s : List ℕ) (at w : ℕ) (xs : List ℕ) → length xs ≡ w → Has s at xs → bits_of w (field_at s at w) ≡ xs
kept-is s at w xs e h = ext_get_or 0 _ _ (length-bits w (field_at s at w) ∙ sym e) (λ k l. sym (field-bits s at w k (omega (arith, length-bits w (field_at s at w)))) ∙ h.bits k
    (omega (arith, length-bits w (field_at s at w))))

pub keep-anew : {A : Type 0} {l : Layout A} {P : A → Type 0} {w : ℕ} → Own l P → Wide l w → Anew l l (keep w) P
unfolding past spliced
keep-anew {A} {l} {P} {w} u v = record { anew = λ s p h. go s p (u.own s p h) }
  where
    go : (s : List ℕ) (p : Place) → Run (λ a q. P a × Wrote s p.at (l.write a) q) (λ X bad next. l.read {X = X} s p bad next)
        → Run (Told l (keep w) P s p) (λ X bad next. l.read {X = X} s p bad next)
    go s p (stops f e) = stops f e
    go s p (goes a q (k, t) e) = goes a q
        (record { holds = k; ends = omega (arith, t.ends, v.wide a); inside = omega (arith, t.has.room, t.ends); is = kept-is s p.at w (l.write a) (v.wide a) t.has }) e

-- left out: written as nothing
pub skip-anew : {A : Type 0} {l : Layout A} {P : A → Type 0} {w : ℕ} (some : A) → Own l P → Wide l w → Anew l (nothing some) (skip w) P
unfolding past spliced nothing
skip-anew {A} {l} {P} {w} some u v = record { anew = λ s p h. go s p (u.own s p h) }
  where
    go : (s : List ℕ) (p : Place) → Run (λ a q. P a × Wrote s p.at (l.write a) q) (λ X bad next. l.read {X = X} s p bad next)
        → Run (Told (nothing some) (skip w) P s p) (λ X bad next. l.read {X = X} s p bad next)
    go s p (stops f e) = stops f e
    go s p (goes a q (k, t) e) = goes a q (record { holds = k; ends = omega (arith, t.ends, v.wide a); inside = omega (arith, t.has.room, t.ends); is = refl }) e

-- another number in its place
pub instead-anew : {A : Type 0} {l : Layout A} {P : A → Type 0} {w : ℕ} (n : Layout A) (u v : ℕ) → Own l P → Wide l w → ((a : A) → bits_of u v ≡ n.write a) → Anew l n (skip w ⨾ add u v) P
unfolding past spliced
instead-anew {A} {l} {P} {w} n u v x y f = record { anew = λ s p h. go s p (x.own s p h) }
  where
    go : (s : List ℕ) (p : Place) → Run (λ a q. P a × Wrote s p.at (l.write a) q) (λ X bad next. l.read {X = X} s p bad next)
        → Run (Told n (skip w ⨾ add u v) P s p) (λ X bad next. l.read {X = X} s p bad next)
    go s p (stops g e) = stops g e
    go s p (goes a q (k, t) e) = goes a q (record { holds = k; ends = omega (arith, t.ends, y.wide a); inside = omega (arith, t.has.room, t.ends); is = f a }) e

pub more-anew : {A : Type 0} {m n : Layout A} {t : Splice} {P Q : A → Type 0} → Anew m n t P → ((a : A) → P a → Q a) → Anew m n t Q
more-anew {A} {m} {n} {t} {P} {Q} u f = record { anew = λ s p h. go s p (u.anew s p h) }
  where
    go : (s : List ℕ) (p : Place) → Run (Told n t P s p) (λ X bad next. m.read {X = X} s p bad next) → Run (Told n t Q s p) (λ X bad next. m.read {X = X} s p bad next)
    go s p (stops x e) = stops x e
    go s p (goes a q k e) = goes a q (record { holds = f a k.holds; ends = k.ends; inside = k.inside; is = k.is }) e

module _ {A B : Type 0} {l k : Layout A} (m n : A → Layout B) {t u : Splice} {P : A → Type 0} (Q : A → B → Type 0) (x : Anew l k t P) (y : (a : A) → P a → Anew (m a) (n a) u (Q a)) where
  abbrev Both : List ℕ → Place → (A × B) → Place → Type 0
  Both s p = Told (k then n) (t ⨾ u) (λ (v : A × B). P v.0 × Q v.0 v.1) s p

  second : (s : List ℕ) (p : Place) (a : A) (q : Place) → Told k t P s p a q
      → ((X : Type 0) (bad : Fault → X) (next : A → Place → X) → l.read s p bad next ≡ next a q)
      → Run (Told (n a) u (Q a) s q) (λ X bad next. (m a).read {X = X} s q bad next)
      → Run (Both s p) (λ X bad next. l.read {X = X} s p bad (λ a p. (m a).read s p bad (λ b p. next (a, b) p)))
  unfolding ◌then◌ past spliced
  second s p a q i e (stops f g) = stops f (λ X bad next. e X bad _ ∙ g X bad _)
  second s p a q i e (goes b r j g) = goes (a, b) r
      (record { holds = (i.holds, j.holds); ends = j.ends ∙ ap (past u s) i.ends; inside = j.inside; is = ap₂ (λ (v w : List ℕ). v ++ w) i.is (ap (spliced u s) (sym i.ends) ∙ j.is) })
      (λ X bad next. e X bad _ ∙ g X bad _)

  first : (s : List ℕ) (p : Place) → Run (Told k t P s p) (λ X bad next. l.read {X = X} s p bad next)
      → Run (Both s p) (λ X bad next. l.read {X = X} s p bad (λ a p. (m a).read s p bad (λ b p. next (a, b) p)))
  first s p (stops f e) = stops f (λ X bad next. e X bad _)
  first s p (goes a q i e) = second s p a q i e ((y a i.holds).anew s q i.inside)

  pub then-anew : Anew (l then m) (k then n) (t ⨾ u) (λ v. P v.0 × Q v.0 v.1)
  unfolding ◌then◌
  then-anew = record { anew = λ s p h. first s p (x.anew s p h) }

pub pair-anew : {A B : Type 0} {l k : Layout A} {m n : Layout B} {t u : Splice} {P : A → Type 0} {Q : B → Type 0} → Anew l k t P → Anew m n u Q
    → Anew (l ▸ m) (k ▸ n) (t ⨾ u) (λ x. P x.0 × Q x.1)
pair-anew {m = m} {n = n} {Q = Q} x y = then-anew (λ a. m) (λ a. n) (λ a. Q) x (λ a ok. y)

decided : {B : Type 0} (f g : Field) (m n : ℕ → Layout B) (u : ℕ → Splice) (Q : ℕ → B → Type 0) (s : List ℕ) (p : Place) (v : ℕ) (b : B) (q : Place)
    → v ≡ field_at s p.at f.width → (f.low ≤ v) × (v ≤ f.high) → Told (n v) (u v) (Q v) s (advanced p (p.at + f.width)) b q
    → Told (nat g then n) (by f.width g.width u) (λ (x : ℕ × B). ((f.low ≤ x.0) × (x.0 ≤ f.high)) × Q x.0 x.1) s p (v, b) q
unfolding ◌then◌ past spliced nat
decided f g m n u Q s p v b q h k j = record {
  holds = (k, j.holds);
  ends = rw (← h) j.ends;
  inside = j.inside;
  is = rw (← h) (ap (λ (w : List ℕ). bits_of g.width v ++ w) j.is);
}

-- a field whose value decides what follows: the value read is the field's bits, and what follows is read behind it
module _ {B : Type 0} (f : Field) (m n : ℕ → Layout B) (u : ℕ → Splice) (Q : ℕ → B → Type 0) (y : (v : ℕ) → f.low ≤ v → v ≤ f.high → Anew (m v) (n v) (u v) (Q v)) where
  behind : (s : List ℕ) (p : Place) (v : ℕ) → v ≡ field_at s p.at f.width → (f.low ≤ v) × (v ≤ f.high)
      → Run (Told (n v) (u v) (Q v) s (advanced p (p.at + f.width))) (λ X bad next. (m v).read {X = X} s (advanced p (p.at + f.width)) bad next)
      → Run ((Behind f m n u Q y) s p) (λ X bad next. (m v).read {X = X} s (advanced p (p.at + f.width)) bad (λ b p'. next (v, b) p'))
  behind s p v h k (stops x e) = stops x (λ X bad next. e X bad _)
  behind s p v h k (goes b q j e) = goes (v, b) q (record { value = h; range = k; told = j }) (λ X bad next. e X bad _)

  pub by-run : (s : List ℕ) (p : Place) → Run ((Behind f m n u Q y) s p) (λ X bad next. (nat f then m).read {X = X} s p bad next)
  unfolding ◌then◌ nat read_field
  by-run s p = go (leb (p.at + f.width) (8 * reach s)) refl
    where
      tests : (x z : Bool) → leb f.low (field_at s p.at f.width) ≡ x → leb (field_at s p.at f.width) f.high ≡ z → p.at + f.width ≤ 8 * reach s
          → Run ((Behind f m n u Q y) s p) (λ X bad next. pick {A = X} x (pick z ((m (field_at s p.at f.width)).read s (advanced p (p.at + f.width)) bad (λ b p'. next (field_at s p.at f.width, b) p'))
          (bad (f.wrong p.at))) (bad (f.wrong p.at)))
      tests true true i j h =
          let a = leb-true f.low (field_at s p.at f.width) i in
          let b = leb-true (field_at s p.at f.width) f.high j in
          behind s p (field_at s p.at f.width) refl (a, b) ((y (field_at s p.at f.width) a b).anew s (advanced p (p.at + f.width)) h)
      tests true false i j h = stops (f.wrong p.at) (λ X bad next. refl)
      tests false z i j h = stops (f.wrong p.at) (λ X bad next. refl)

      go : (b : Bool) → leb (p.at + f.width) (8 * reach s) ≡ b
          → Run ((Behind f m n u Q y) s p) (λ X bad next. raw {X = X} (pick b (Value (field_at s p.at f.width) (record { at = p.at + f.width })) (Cut p.at)) p bad
          (λ v after. pick (leb f.low v) (pick (leb v f.high) ((m v).read s after bad (λ b p'. next (v, b) p')) (bad (f.wrong p.at))) (bad (f.wrong p.at))))
      go true e = tests (leb f.low (field_at s p.at f.width)) (leb (field_at s p.at f.width) f.high) refl refl (leb-true _ _ e)
      go false e = stops (F.Cut p.at) (λ X bad next. refl)

  -- written in another width
  pub by-anew : (g : Field) → Anew (nat f then m) (nat g then n) (by f.width g.width u) (λ v. ((f.low ≤ v.0) × (v.0 ≤ f.high)) × Q v.0 v.1)
  by-anew g = record { anew = λ s p h. go s p (by-run s p) }
    where
      told : (s : List ℕ) (p : Place) (v : ℕ) (b : B) (q : Place) → v ≡ field_at s p.at f.width → (f.low ≤ v) × (v ≤ f.high) → Told (n v) (u v) (Q v) s (advanced p (p.at + f.width)) b q
          → Told (nat g then n) (by f.width g.width u) (λ (x : ℕ × B). ((f.low ≤ x.0) × (x.0 ≤ f.high)) × Q x.0 x.1) s p (v, b) q
      told s p v b q h k j = decided f g m n u Q s p v b q h k j

      go : (s : List ℕ) (p : Place) → Run ((Behind f m n u Q y) s p) (λ X bad next. (nat f then m).read {X = X} s p bad next)
          → Run (Told (nat g then n) (by f.width g.width u) (λ (v : ℕ × B). ((f.low ≤ v.0) × (v.0 ≤ f.high)) × Q v.0 v.1) s p) (λ X bad next. (nat f then m).read {X = X} s p bad next)
      go s p (stops x e) = stops x e
      go s p (goes x q k e) = goes x q (told s p x.0 x.1 q k.value k.range k.told) e

-- what is held need only be written as it was read
module _ {A B : Type 0} (to : A → B) (from : B → A) {m n : Layout A} {t : Splice} {P : A → Type 0} (Q : B → Type 0) where
  pub loose-anew : Anew m n t P → ((a : A) → P a → Q (to a)) → ((a : A) → P a → n.write (from (to a)) ≡ n.write a) → Anew (held to from m) (held to from n) t Q
  unfolding held
  loose-anew u f w = record { anew = λ s p h. go s p (u.anew s p h) }
    where
      go : (s : List ℕ) (p : Place) → Run (Told n t P s p) (λ X bad next. m.read {X = X} s p bad next)
          → Run (Told (held to from n) t Q s p) (λ X bad next. m.read {X = X} s p bad (λ a p. next (to a) p))
      go s p (stops x e) = stops x (λ X bad next. e X bad _)
      go s p (goes a q k e) = goes (to a) q (record { holds = f a k.holds; ends = k.ends; inside = k.inside; is = k.is ∙ sym (w a k.holds) }) (λ X bad next. e X bad _)

  pub held-anew : Anew m n t P → ((a : A) → P a → Q (to a) × (from (to a) ≡ a)) → Anew (held to from m) (held to from n) t Q
  held-anew u f = loose-anew u (λ a ok. (f a ok).0) (λ a ok. ap n.write (f a ok).1)

pub such-anew : {A : Type 0} (ok : A → Bool) {m n : Layout A} {t : Splice} {P : A → Type 0} → Anew m n t P → Anew (such ok m) (such ok n) t P
unfolding such
such-anew {A} ok {m} {n} {t} {P} u = record { anew = λ s p h. go s p (u.anew s p h) }
  where
    same : (s : List ℕ) (p : Place) (a : A) (b : Bool) (c : ℕ) (q : Place) → Told n t P s p a q → Told (such ok n) t P s p a (noted b c q)
    same s p a true c q k = record { holds = k.holds; ends = k.ends; inside = k.inside; is = k.is }
    same s p a false c q k = record { holds = k.holds; ends = k.ends; inside = k.inside; is = k.is }

    go : (s : List ℕ) (p : Place) → Run (Told n t P s p) (λ X bad next. m.read {X = X} s p bad next)
        → Run (Told (such ok n) t P s p) (λ X bad next. m.read {X = X} s p bad (λ a after. next a (noted (ok a) p.at after)))
    go s p (stops x e) = stops x (λ X bad next. e X bad _)
    go s p (goes a q k e) = goes a (noted (ok a) p.at q) (same s p a (ok a) p.at q k) (λ X bad next. e X bad _)

pub add-adds : (w v : ℕ) → Adds (add w v) (bits_of w v)
unfolding past spliced
add-adds w v = record { stays = λ s at. refl; is = λ s at. refl }

pub both-add : {t u : Splice} {xs ys : List ℕ} → Adds t xs → Adds u ys → Adds (t ⨾ u) (xs ++ ys)
unfolding past spliced
both-add {t} {u} h k = record { stays = λ s at. k.stays s (past t s at) ∙ h.stays s at; is = λ s at. ap₂ (λ (a b : List ℕ). a ++ b) (h.is s at) (k.is s (past t s at)) }

-- what an edition lacks is added, its neutral value; what it has is copied
pub present-anew : {A : Type 0} (b : Bool) (neutral : A) {m n : Layout A} {t u : Splice} {P : A → Type 0} → P neutral → Adds u (n.write neutral) → Anew m n t P
    → Anew (present b neutral m) n (pick b t u) P
unfolding present nothing
present-anew true neutral k x y = y
present-anew false neutral k x y = record { anew = λ s p h. goes neutral p (record { holds = k; ends = sym (x.stays s p.at); inside = h; is = x.is s p.at }) (λ X bad next. refl) }

-- n of them
pub along-next : (f : ℕ → List ℕ) (g : ℕ → ℕ) (n at : ℕ) → (farther g (suc n) at ≡ farther g n (g at)) × (along f g (suc n) at ≡ f at ++ along f g n (g at))
unfolding farther along
along-next f g zero at = (refl, sym (append-nil (f at)))
along-next f g (suc n) at =
    let h = along-next f g n at in
    (ap g h.0, ap₂ (λ (a b : List ℕ). a ++ b) h.1 (ap f h.0) ∙ append_assoc (f at) (along f g n (g at)) (f (farther g n (g at))))

module _ {A : Type 0} {m k : Layout A} {t : Splice} {P : A → Type 0} (u : Anew m k t P) (s : List ℕ) where
  abbrev Some : ℕ → Place → List A → Place → Type 0
  Some n p = Told (list n k) (times n t) (λ xs. length xs ≡ n) s p

  others : (n : ℕ) (p : Place) (a : A) (q : Place) → Told k t P s p a q
      → ((X : Type 0) (bad : Fault → X) (next : A → Place → X) → m.read s p bad next ≡ next a q)
      → Run (Some n q) (λ X bad next. repeated {X = X} m s n q bad next)
      → Run (Some (suc n) p) (λ X bad next. m.read {X = X} s p bad (λ a p. repeated m s n p bad (λ r p. next (a ∷ r) p)))
  unfolding list gather past spliced
  others n p a q x e (stops f g) = stops f (λ X bad next. e X bad _ ∙ g X bad _)
  others n p a q x e (goes xs r j g) =
      let h = along-next (spliced t s) (past t s) n p.at in
      goes (a ∷ xs) r
      (record {
        holds = ap suc j.holds;
        ends = j.ends ∙ ap (farther (past t s) n) x.ends ∙ sym h.0;
        inside = j.inside;
        is = h.1 ∙ ap₂ (λ (v w : List ℕ). v ++ w) x.is (ap (along (spliced t s) (past t s) n) (sym x.ends) ∙ j.is);
      })
      (λ X bad next. e X bad _ ∙ g X bad _)

  one : (n : ℕ) (p : Place) → Run (Told k t P s p) (λ X bad next. m.read {X = X} s p bad next)
      → ((q : Place) → q.at ≤ 8 * reach s → Run (Some n q) (λ X bad next. repeated {X = X} m s n q bad next))
      → Run (Some (suc n) p) (λ X bad next. m.read {X = X} s p bad (λ a p. repeated m s n p bad (λ r p. next (a ∷ r) p)))
  one n p (stops f e) ih = stops f (λ X bad next. e X bad _)
  one n p (goes a q x e) ih = others n p a q x e (ih q x.inside)

  repeated-anew : (n : ℕ) (p : Place) → p.at ≤ 8 * reach s → Run (Some n p) (λ X bad next. repeated {X = X} m s n p bad next)
  unfolding repeated gather list past spliced farther along
  repeated-anew zero p h = goes [] p (record { holds = refl; ends = refl; inside = h; is = refl }) (λ X bad next. refl)
  repeated-anew (suc n) p h = one n p (u.anew s p h) (repeated-anew n)

pub list-anew : {A : Type 0} (n : ℕ) {m k : Layout A} {t : Splice} {P : A → Type 0} → Anew m k t P → Anew (list n m) (list n k) (times n t) (λ xs. length xs ≡ n)
unfolding list
list-anew n u = record { anew = λ s p h. repeated-anew u s n p h }

-- a count and that many
pub counted-anew : {A : Type 0} (f : Field) {m n : Layout A} {t : Splice} {P : A → Type 0} → Anew m n t P
    → Anew (counted f m) (counted f n) (by f.width f.width (λ k. times k t)) (λ xs. length xs ≤ f.high)
unfolding counted
counted-anew f {m} {n} u = held-anew _ _ _
    (by-anew f (λ k. list k m) (λ k. list k n) (λ k. times k _) (λ k xs. length xs ≡ k) (λ k low high. list-anew k u) f)
    (λ v ok. let e : length v.1 ≡ v.0 = ok.1 in (omega arith, ap (λ (k : ℕ). (k, v.1)) e))

-- ---- widths
pub nat-wide : (f : Field) → Wide (nat f) f.width
unfolding nat
nat-wide f = record { wide = λ a. length-bits f.width a }

pub int-wide : (w most : ℕ) → Wide (int w most) w
unfolding int
int-wide w most = record { wide = λ z. length-bits w _ }

pub held-wide : {A B : Type 0} (to : A → B) (from : B → A) {l : Layout A} {w : ℕ} → Wide l w → Wide (held to from l) w
unfolding held
held-wide to from u = record { wide = λ b. u.wide (from b) }

pub such-wide : {A : Type 0} (ok : A → Bool) {l : Layout A} {w : ℕ} → Wide l w → Wide (such ok l) w
unfolding such
such-wide ok u = record { wide = u.wide }

pub then-wide : {A B : Type 0} {l : Layout A} (m : A → Layout B) {v w : ℕ} → Wide l v → ((a : A) → Wide (m a) w) → Wide (l then m) (v + w)
unfolding ◌then◌
then-wide {l = l} m x y = record { wide = λ v. omega (arith, length-append (l.write v.0) ((m v.0).write v.1), x.wide v.0, (y v.0).wide v.1) }

pub pair-wide : {A B : Type 0} {l : Layout A} {m : Layout B} {v w : ℕ} → Wide l v → Wide m w → Wide (l ▸ m) (v + w)
pair-wide {m = m} x y = then-wide (λ a. m) x (λ a. y)

-- ---- fields alone
alone : (f g : Field) (s : List ℕ) (p : Place) → f.low ≤ field_at s p.at f.width → field_at s p.at f.width ≤ f.high → p.at + f.width ≤ 8 * reach s
    → Told (nat g) (by f.width g.width (λ v. none)) (λ v. (f.low ≤ v) × (v ≤ f.high)) s p (field_at s p.at f.width) (advanced p (p.at + f.width))
unfolding past spliced nat
alone f g s p i j h = record { holds = (i, j); ends = refl; inside = h; is = append-nil _ }

-- a field in another width
pub wide-anew : (f g : Field) → Anew (nat f) (nat g) (by f.width g.width (λ v. none)) (λ v. (f.low ≤ v) × (v ≤ f.high))
unfolding nat read_field
wide-anew f g = record { anew = λ s p h. go s p (leb (p.at + f.width) (8 * reach s)) refl }
  where
    tests : (s : List ℕ) (p : Place) (x z : Bool) → leb f.low (field_at s p.at f.width) ≡ x → leb (field_at s p.at f.width) f.high ≡ z → p.at + f.width ≤ 8 * reach s
        → Run (Told (nat g) (by f.width g.width (λ v. none)) (λ v. (f.low ≤ v) × (v ≤ f.high)) s p) (λ X bad next. pick {A = X} x (pick z (next (field_at s p.at
        f.width) (advanced p (p.at + f.width)))
        (bad (f.wrong p.at))) (bad (f.wrong p.at)))
    tests s p true true i j h = goes (field_at s p.at f.width) _ (alone f g s p (leb-true _ _ i) (leb-true _ _ j) h) (λ X bad next. refl)
    tests s p true false i j h = stops (f.wrong p.at) (λ X bad next. refl)
    tests s p false z i j h = stops (f.wrong p.at) (λ X bad next. refl)

    go : (s : List ℕ) (p : Place) (b : Bool) → leb (p.at + f.width) (8 * reach s) ≡ b
        → Run (Told (nat g) (by f.width g.width (λ v. none)) (λ v. (f.low ≤ v) × (v ≤ f.high)) s p)
        (λ X bad next. raw {X = X} (pick b (Value (field_at s p.at f.width) (record { at = p.at + f.width })) (Cut p.at)) p bad
        (λ v after. pick (leb f.low v) (pick (leb v f.high) (next v after) (bad (f.wrong p.at))) (bad (f.wrong p.at))))
    go s p true e = tests s p (leb f.low (field_at s p.at f.width)) (leb (field_at s p.at f.width) f.high) refl refl (leb-true _ _ e)
    go s p false e = stops (F.Cut p.at) (λ X bad next. refl)

-- what both editions have or lack
pub same-present : {A : Type 0} (b : Bool) (neutral : A) {m n : Layout A} {t : Splice} {P : A → Type 0} → P neutral → Anew m n t P → Anew (present b neutral m) (present b neutral n) (pick b t none) P
unfolding present nothing past spliced
same-present true neutral k y = y
same-present false neutral k y = record { anew = λ s p h. goes neutral p (record { holds = k; ends = refl; inside = h; is = refl }) (λ X bad next. refl) }

-- read and written alike
pub alike-anew : {A : Type 0} {m n : Layout A} (l k : Layout A) {t : Splice} {P : A → Type 0} → Anew m n t P
    → ((X : Type 0) (s : List ℕ) (p : Place) (bad : Fault → X) (next : A → Place → X) → l.read s p bad next ≡ m.read s p bad next) → ((a : A) → P a → n.write a ≡ k.write a) → Anew l k t P
alike-anew {A} {m} {n} l k {t} {P} u f g = record { anew = λ s p h. go s p (u.anew s p h) }
  where
    go : (s : List ℕ) (p : Place) → Run (Told n t P s p) (λ X bad next. m.read {X = X} s p bad next) → Run (Told k t P s p) (λ X bad next. l.read {X = X} s p bad next)
    go s p (stops x e) = stops x (λ X bad next. f X s p bad next ∙ e X bad next)
    go s p (goes a q j e) = goes a q (record { holds = j.holds; ends = j.ends; inside = j.inside; is = j.is ∙ g a j.holds }) (λ X bad next. f X s p bad next ∙ e X bad next)

-- ---- a whole message
pub told_at : {A : Type 0} {n : Layout A} {t : Splice} {P : A → Type 0} {s : List ℕ} {p q r : Place} {a : A} → p.at ≡ q.at → Told n t P s p a r → Told n t P s q a r
told_at {t = t} {s = s} e k = record { holds = k.holds; ends = k.ends ∙ ap (past t s) e; inside = k.inside; is = ap (spliced t s) (sym e) ∙ k.is }

pub whole_run : {A : Type 0} (l : Layout A) (G : A → Place → Type 0) (s : List ℕ) → Run G (λ X bad next. l.read {X = X} s begin bad next) → (a : A) → read_whole l s ≡ passes a → (q : Place) × G a q
unfolding read_whole settle
whole_run {A} l G s u a h = go u
  where
    settled : (x : A) (q : Place) (f c : Clash) → G x q → settle x f c ≡ passes a → (q : Place) × G a q
    settled x q (At b) c k e = absurd (let z : ◌≡◌ {A = ℕ} 0 1 = cc in omega arith)
    settled x q Clear (At b) k e = absurd (let z : ◌≡◌ {A = ℕ} 0 1 = cc in omega arith)
    settled x q Clear Clear k e = let t : x ≡ a = cc in (q, rw (sym t) k)

    go : Run G (λ X bad next. l.read {X = X} s begin bad next) → (q : Place) × G a q
    go (stops f e) = absurd (let t = sym (e (Whole A) fails (λ a p. settle a (tail_fault s p.at) p.clash)) ∙ h in let z : ◌≡◌ {A = ℕ} 0 1 = cc in omega arith)
    go (goes x q k e) = settled x q (tail_fault s q.at) q.clash k (sym (e (Whole A) fails (λ a p. settle a (tail_fault s p.at) p.clash)) ∙ h)
