-- One layout reads and writes as another, its values held by a function: how a message of an older edition is read by the newest layout.
use Rattle.std.specs.Prelude.{◌≡◌, Bool, leb}
use Rattle.std.proofs.Math.Path.{refl, ap, fun_ext}
use Rattle.std.proofs.Common.{sym, ◌∙◌, arith}
use Rattle.std.proofs.Math.Bool.{true, false}
use mathlib.Core.List.{List, ◌∷◌, ◌++◌, map, map-id, append-nil}
use Prim.Native.Nat.{ℕ, zero, suc, ◌+◌, ◌*◌, ◌≤◌, ◌<◌}
use borrow.Author.Tests.{le-leb}
use Rattle.std.proofs.Math.ListN.{length, length-map}
use Rattle.bits.specs.Bits.{field_at, reach, read_field}
use Rattle.bits.specs.Pick.{pick}
use Rattle.bits.specs.declared.Field.TheVariants.{Value, Cut}
use Rattle.layouts.specs.declared.Fault.{Fault}
use Rattle.layouts.specs.declared.Place.{Place}
use Rattle.layouts.specs.declared.Clash.{Clash}
use Rattle.layouts.specs.declared.Clash.TheVariants.{Clear, At}
use Rattle.numbers.specs.Base.{gather}
use Rattle.numbers.specs.Sum.{all}
use Rattle.numbers.specs.Gather.{gather-map, gather_cong}
use Rattle.layouts.specs.Layout.{Layout, Field, Whole, passes, fails, raw, advanced, nat, counted, ◌then◌, ◌▸◌, repeated, list, such, noted, held, read_whole, settle, tail_fault, begin}
use Rattle.layouts.specs.Since.{nothing, present, since, has-not}
use Rattle.layouts.specs.Checked.{Checked, Outcome, stops, goes}

abbrev pub map_whole : {A B : Type 0} → (A → B) → Whole A → Whole B
map_whole f (passes a) = passes (f a)
map_whole f (fails x) = fails x

-- l reads what m reads, and writes of f a what m writes of a
pub record As {A B : Type 0} (l : Layout B) (f : A → B) (m : Layout A) : Type 1 where
  pub reads : {X : Type 0} (s : List ℕ) (p : Place) (bad : Fault → X) (next : B → Place → X) → l.read s p bad next ≡ m.read s p bad (λ a q. next (f a) q)
  pub writes : (a : A) → l.write (f a) ≡ m.write a

pub as_same : {A : Type 0} (l : Layout A) → As l (λ a. a) l
as_same l = record { reads = λ s p bad next. refl; writes = λ a. refl }

pub as-trans : {A B C : Type 0} {l : Layout C} {g : B → C} {m : Layout B} {f : A → B} {n : Layout A} → As l g m → As m f n → As l (λ a. g (f a)) n
as-trans {f = f} u v = record { reads = λ s p bad next. u.reads s p bad next ∙ v.reads s p bad _; writes = λ a. u.writes (f a) ∙ v.writes a }

-- goes on alike behind the same layout
pub ahead : {A X : Type 0} (m : Layout A) (s : List ℕ) (p : Place) (bad : Fault → X) {next other : A → Place → X}
    → ((a : A) (q : Place) → next a q ≡ other a q) → m.read s p bad next ≡ m.read s p bad other
ahead {A} {X} m s p bad e = ap (λ (h : A → Place → X). m.read s p bad h) (fun_ext (λ a. fun_ext (λ q. e a q)))

-- one behind the other; the second may depend on what the first holds
pub as-then : {A B C D : Type 0} {l : Layout B} {f : A → B} {m : Layout A} (k : B → Layout D) {g : C → D} {n : A → Layout C}
    → As l f m → ((a : A) → As (k (f a)) g (n a)) → As (l then k) (λ (x : A × C). (f x.0, g x.1)) (m then n)
unfolding ◌then◌
as-then {m = m} k u v = record {
  reads = λ s p bad next. u.reads s p bad _ ∙ ahead m s p bad (λ a q. (v a).reads s q bad _);
  writes = λ x. rw (u.writes x.0, (v x.0).writes x.1) refl;
}

pub as-pair : {A B C D : Type 0} {l : Layout B} {f : A → B} {m : Layout A} {k : Layout D} {g : C → D} {n : Layout C}
    → As l f m → As k g n → As (l ▸ k) (λ (x : A × C). (f x.0, g x.1)) (m ▸ n)
as-pair {k = k} u v = as-then (λ a. k) u (λ a. v)

-- what a layout always holds may be taken for read
pub always : {A X : Type 0} (l : Layout A) (v : A) → Checked l (λ a. a ≡ v) → (s : List ℕ) (p : Place) (bad : Fault → X) (next : A → Place → X)
    → l.read s p bad next ≡ l.read s p bad (λ _ q. next v q)
always {A} {X} l v u s p bad next = go (u.outcome s p)
  where
    go : Outcome (λ a. a ≡ v) (λ X bad next. l.read {X = X} s p bad next) → l.read s p bad next ≡ l.read s p bad (λ _ q. next v q)
    go (stops x e) = e X bad next ∙ sym (e X bad _)
    go (goes a q k e) = e X bad next ∙ ap (λ (b : A). next b q) k ∙ sym (e X bad _)

-- a field that holds v is read as if it could hold nothing else
abbrev pub only : Field → ℕ → Field
only f v = record { width = f.width; low = v; high = v; wrong = f.wrong }

module _ {X : Type 0} (f : Field) (s : List ℕ) (p : Place) (bad : Fault → X) (next : ℕ → Place → X) where
  pub holding : (v : ℕ) → f.low ≤ v → v ≤ f.high → field_at s p.at f.width ≡ v → (nat f).read s p bad next ≡ (nat (only f v)).read s p bad (λ _ q. next v q)
  unfolding nat read_field
  holding v h k e = go (leb (p.at + f.width) (8 * reach s))
    where
      go : (b : Bool)
          → raw (pick b (Value (field_at s p.at f.width) (record { at = p.at + f.width })) (Cut p.at)) p bad
          (λ v after. pick (leb f.low v) (pick (leb v f.high) (next v after) (bad (f.wrong p.at))) (bad (f.wrong p.at)))
          ≡ raw (pick b (Value (field_at s p.at f.width) (record { at = p.at + f.width })) (Cut p.at)) p bad
          (λ x after. pick (leb v x) (pick (leb x v) (next v after) (bad (f.wrong p.at))) (bad (f.wrong p.at)))
      go true = rw (e, le-leb f.low v h, le-leb v f.high k, le-leb v v (omega arith)) refl
      go false = refl

  -- and leads to the place behind its width
  pub leads : (nat f).read s p bad next ≡ (nat f).read s p bad (λ v _. next v (advanced p (p.at + f.width)))
  unfolding nat read_field
  leads = go (leb (p.at + f.width) (8 * reach s))
    where
      go : (b : Bool)
          → raw (pick b (Value (field_at s p.at f.width) (record { at = p.at + f.width })) (Cut p.at)) p bad
          (λ v after. pick (leb f.low v) (pick (leb v f.high) (next v after) (bad (f.wrong p.at))) (bad (f.wrong p.at)))
          ≡ raw (pick b (Value (field_at s p.at f.width) (record { at = p.at + f.width })) (Cut p.at)) p bad
          (λ v after. pick (leb f.low v) (pick (leb v f.high) (next v (advanced p (p.at + f.width))) (bad (f.wrong p.at))) (bad (f.wrong p.at)))
      go true = refl
      go false = refl

-- a whole message that is read as another's
pub whole-as : {A B : Type 0} (l : Layout B) (f : A → B) (m : Layout A) (P : A → Type 0) → Checked m P → (s : List ℕ)
    → ((next : B → Place → Whole B) → l.read s begin fails next ≡ m.read s begin fails (λ a q. next (f a) q)) → read_whole l s ≡ map_whole f (read_whole m s)
unfolding read_whole settle
whole-as {A} {B} l f m P v s u = u _ ∙ go (v.outcome s begin)
  where
    settled : (a : A) (t c : Clash) → settle (f a) t c ≡ map_whole f (settle a t c)
    settled a (At b) c = refl
    settled a Clear (At b) = refl
    settled a Clear Clear = refl

    go : Outcome P (λ X bad next. m.read {X = X} s begin bad next)
        → m.read s begin fails (λ a q. settle (f a) (tail_fault s q.at) q.clash) ≡ map_whole f (m.read s begin fails (λ a q. settle a (tail_fault s q.at) q.clash))
    go (stops x e) = e (Whole B) fails _ ∙ sym (ap (map_whole f) (e (Whole A) fails _))
    go (goes a q k e) = e (Whole B) fails _ ∙ settled a (tail_fault s q.at) q.clash ∙ sym (ap (map_whole f) (e (Whole A) fails _))

module _ {A B : Type 0} {l : Layout B} {f : A → B} {m : Layout A} (u : As l f m) where
  -- behind a field of one value, on which the newer side goes by
  pub as-always : {C : Type 0} (c : Layout C) (v : C) (k : C → Layout B) → Checked c (λ a. a ≡ v) → k v ≡ l → As (c then k) (λ a. (v, f a)) (held (λ x. x.1) (λ a. (v, a)) (c ▸ m))
  unfolding ◌then◌ held
  as-always c v k w e = record {
    reads = λ s p bad next. always c v w s p bad _ ∙ ahead c s p bad (λ _ q. rw e (u.reads s q bad _));
    writes = λ a. rw (e, u.writes a) refl;
  }

  repeated-as : (n : ℕ) {X : Type 0} (s : List ℕ) (p : Place) (bad : Fault → X) (next : List B → Place → X)
      → repeated l s n p bad next ≡ repeated m s n p bad (λ xs q. next (map f xs) q)
  unfolding repeated
  repeated-as zero s p bad next = refl
  repeated-as (suc n) s p bad next = u.reads s p bad _ ∙ ahead m s p bad (λ a q. repeated-as n s q bad (λ r z. next (f a ∷ r) z))

  gather-as : (xs : List A) → gather l.write (map f xs) ≡ gather m.write xs
  gather-as xs = gather-map l.write f xs ∙ gather_cong _ m.write xs (all u.writes xs)

  pub as-list : (n : ℕ) → As (list n l) (map f) (list n m)
  unfolding list
  as-list n = record { reads = λ s p bad next. repeated-as n s p bad next; writes = gather-as }

  -- by another function that gives the same
  pub as-alike : (g : A → B) → ((a : A) → f a ≡ g a) → As l g m
  as-alike g e = record {
    reads = λ s p bad next. u.reads s p bad next ∙ ahead m s p bad (λ a q. ap (λ b. next b q) (e a));
    writes = λ a. ap l.write (sym (e a)) ∙ u.writes a;
  }

  -- with the same test of what they hold
  pub as-such : (ok : B → Bool) (test : A → Bool) → ((a : A) → ok (f a) ≡ test a) → As (such ok l) f (such test m)
  unfolding such
  as-such ok test e = record {
    reads = λ s p bad next. u.reads s p bad _ ∙ ahead m s p bad (λ a q. ap (λ (b : Bool). next (f a) (noted b p.at q)) (e a));
    writes = u.writes;
  }

  -- held as another type on the newer side alone; on both
  pub as-into : {D : Type 0} (to : B → D) (from : D → B) (g : A → D) → ((a : A) → to (f a) ≡ g a) → ((a : A) → from (g a) ≡ f a) → As (held to from l) g m
  unfolding held
  as-into to from g e h = record {
    reads = λ s p bad next. u.reads s p bad _ ∙ ahead m s p bad (λ a q. ap (λ d. next d q) (e a));
    writes = λ a. ap l.write (h a) ∙ u.writes a;
  }

  pub as-held : {C D : Type 0} (to : B → D) (from : D → B) (back : A → C) (forth : C → A) (g : C → D)
      → ((a : A) → to (f a) ≡ g (back a)) → ((c : C) → from (g c) ≡ f (forth c)) → As (held to from l) g (held back forth m)
  unfolding held
  as-held to from back forth g e h = record {
    reads = λ s p bad next. u.reads s p bad _ ∙ ahead m s p bad (λ a q. ap (λ d. next d q) (e a));
    writes = λ c. ap l.write (h c) ∙ u.writes (forth c);
  }

  -- a count and that many
  pub as-counted : (c : Field) → As (counted c l) (map f) (counted c m)
  unfolding counted held ◌then◌ list
  as-counted c = record {
    reads = λ s p bad next. ahead (nat c) s p bad (λ n q. (as-list n).reads s q bad _);
    writes = λ xs.
        let n : length (map f xs) ≡ length xs = simp length-map in
        ap (λ (n : ℕ). (nat c).write n ++ gather l.write (map f xs)) n ∙ ap (λ (t : List ℕ). (nat c).write (length xs) ++ t) (gather-as xs);
  }

  -- behind it a figure that came with a later edition
  pub as-nothing : {C : Type 0} (b : C) → As (l ▸ nothing b) (λ a. (f a, b)) m
  unfolding ◌then◌ nothing
  as-nothing b = record { reads = λ s p bad next. u.reads s p bad _; writes = λ a. append-nil (l.write (f a)) ∙ u.writes a }

  -- the law of an addition: whatever came with edition k, an edition below it reads and writes as if it were not there
  pub as-since : {C : Type 0} (k e : ℕ) (b : C) (m₀ : Layout C) → e < k → As (l ▸ since e k b m₀) (λ a. (f a, b)) m
  unfolding present
  as-since k e b m₀ h = rw (has-not k e h) (as-nothing b)

  -- what is known of the newer side's values is known of the older's
  pub as-checked : (P : B → Type 0) (Q : A → Type 0) (g : B → A) → ((a : A) → g (f a) ≡ a) → ((b : B) → P b → Q (g b)) → Checked l P → Checked m Q
  as-checked P Q g back h v = record { outcome = λ s p. go s p (v.outcome s p) }
    where
      same : {X : Type 0} (s : List ℕ) (p : Place) (bad : Fault → X) (next : A → Place → X) → m.read s p bad next ≡ l.read s p bad (λ b q. next (g b) q)
      same s p bad next = sym (u.reads s p bad (λ b q. next (g b) q) ∙ ahead m s p bad (λ a q. ap (λ x. next x q) (back a)))

      go : (s : List ℕ) (p : Place) → Outcome P (λ X bad next. l.read {X = X} s p bad next) → Outcome Q (λ X bad next. m.read {X = X} s p bad next)
      go s p (stops x e) = stops x (λ X bad next. same s p bad next ∙ e X bad _)
      go s p (goes b q k e) = goes (g b) q (h b k) (λ X bad next. same s p bad next ∙ e X bad _)

  -- a whole message
  pub as-whole : (P : A → Type 0) → Checked m P → (s : List ℕ) → read_whole l s ≡ map_whole f (read_whole m s)
  as-whole P v s = whole-as l f m P v s (λ next. u.reads s begin fails next)

-- where both sides hold the same content
module _ {A : Type 0} {l m : Layout A} (u : As l (λ a. a) m) where
  pub as-each : (n : ℕ) → As (list n l) (λ xs. xs) (list n m)
  as-each n = as-alike (as-list u n) _ map-id

  pub as_some : (c : Field) → As (counted c l) (λ xs. xs) (counted c m)
  as_some c = as-alike (as-counted u c) _ map-id
