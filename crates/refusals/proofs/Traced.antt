-- The fields that a layout visits, with the laws of reading, each proved once: a refusal is of the last field visited, a value stands behind the last,
-- and a message broken off is read as the whole one up to the first field that is not whole.
use Rattle.std.specs.Prelude.{◌≡◌, refl, Bool, true, false, List, [], ◌∷◌, ◌++◌, ℕ, zero, suc, ◌+◌, ◌*◌, ◌/◌, ◌≤◌, ◌<◌, leb, length, ℤ, nat_abs}
use Rattle.std.proofs.Common.{sym, ◌∙◌, ap, subst, arith, length-append, leb-true, leb-false, le-leb}
use Rattle.std.proofs.Math.Decide.{dec_le}
use Rattle.std.proofs.Math.ListN.{get_or-append}
use Rattle.std.proofs.lemmas.Bool.{lt-leb}
use Rattle.bits.specs.Bits.{bit_at, field_at, reach, read_field}
use Rattle.bits.specs.Pick.{pick}
use Rattle.bits.specs.Twos.{from_twos}
use Rattle.bits.specs.declared.Field.TheVariants.{Value, Cut}
use Rattle.layouts.specs.declared.Fault.{Fault}
use Rattle.layouts.specs.declared.Fault.TheVariants as F
use Rattle.layouts.specs.declared.Clash.{Clash}
use Rattle.layouts.specs.declared.Clash.TheVariants.{At}
use Rattle.layouts.specs.declared.Place.{Place}
use Rattle.layouts.specs.Layout.{Layout, or_else, raw, advanced, nat, int, ◌then◌, ◌▸◌, repeated, list, such, noted, held, counted, count_of}
use Rattle.layouts.specs.Since.{nothing, present}
use Rattle.refusals.specs.Names.{Name}
use Rattle.refusals.specs.Visited.{Sort, count, other, fault_of, between, sized, Within, Part, Why, cut, outside, end_of, AllGood, first_beyond, first_clash, RefusedAt}
use Rattle.refusals.specs.Visited.{end-append, good-append, clash-append, first-of-three, first-of-none, refused-later, unless, unless-append}

-- ---- what a reading tells

-- it went on to the place q: every field visited is whole and in its range, q is behind the last, and its contradiction is the one that stood before, else the first of theirs
pub record Passed (s : List ℕ) (p : Place) (t : List Part) (q : Place) : Type 0 where
  pub good : AllGood s p.at t
  pub ends : q.at ≡ end_of p.at t
  pub clash : q.clash ≡ or_else p.clash (first_clash p.at t)

-- it stops at the last field visited, or goes on
pub data Walk {A : Type 0} (s : List ℕ) (p : Place) (t : List Part) (run : (X : Type 0) → (Fault → X) → (A → Place → X) → X) : Type 1 where
  stops : (x : Fault) → RefusedAt s p.at t x → ((X : Type 0) (bad : Fault → X) (next : A → Place → X) → run X bad next ≡ bad x) → Walk s p t run
  goes : (a : A) (q : Place) → Passed s p t q → ((X : Type 0) (bad : Fault → X) (next : A → Place → X) → run X bad next ≡ next a q) → Walk s p t run

pub record Traced {A : Type 0} (l : Layout A) : Type 1 where
  -- the fields visited in a message from a place on
  pub fields : List ℕ → Place → List Part
  pub walk : (s : List ℕ) (p : Place) → Walk s p (fields s p) (λ X bad next. l.read {X = X} s p bad next)
  -- c, which c ++ e begins with, is read as c ++ e, or cut at the first field that does not end within c
  pub broken : {X : Type 0} (c e : List ℕ) (p : Place) (bad : Fault → X) (next : A → Place → X)
      → l.read c p bad next ≡ unless (first_beyond (8 * reach c) p.at (fields (c ++ e) p)) bad (l.read (c ++ e) p bad next)

walk-as : {A : Type 0} {s : List ℕ} {p : Place} {t u : List Part} {run : (X : Type 0) → (Fault → X) → (A → Place → X) → X} → t ≡ u → Walk s p u run → Walk s p t run
walk-as {s = s} {p = p} {run = run} e w = subst (λ (z : List Part). Walk s p z run) (sym e) w

-- ---- fields

pub bit-same : (c e : List ℕ) (i : ℕ) → i < 8 * length c → bit_at (c ++ e) i ≡ bit_at c i
unfolding bit_at
bit-same c e i h = let g = get_or-append c e 0 (i / 8) (omega arith) in rw g refl

field-same : (c e : List ℕ) (at w : ℕ) → at + w ≤ 8 * length c → field_at (c ++ e) at w ≡ field_at c at w
unfolding field_at
field-same c e at zero h = refl
field-same c e at (suc w) h = rw (field-same c e at w (omega arith), bit-same c e (at + w) (omega arith)) refl

reach-more : (c e : List ℕ) → reach c ≤ reach (c ++ e)
unfolding reach
reach-more c e = let n = length-append c e in omega arith

pub reach-length : (c : List ℕ) → reach c ≤ length c
unfolding reach
reach-length c = omega arith

-- whatever is done with what is read
pub raw-broken : {X : Type 0} (c e : List ℕ) (p : Place) (f : Part) (bad : Fault → X) (next : ℕ → Place → X)
    → raw (read_field c p.at f.width) p bad next ≡ unless (first_beyond (8 * reach c) p.at (f ∷ [])) bad (raw (read_field (c ++ e) p.at f.width) p bad next)
unfolding read_field
raw-broken c e p f bad next = elim (dec_le (p.at + f.width) (8 * reach c)) [
  | yes h ↦
      let m = reach-more c e in
      let n = reach-length c in
      rw (le-leb (p.at + f.width) (8 * reach c) h, le-leb (p.at + f.width) (8 * reach (c ++ e)) (omega arith), field-same c e p.at f.width (omega arith)) refl
  | no h ↦ rw (lt-leb (p.at + f.width) (8 * reach c) (omega arith)) refl
]

-- one field that is whole and in its range, cut, or whole and out of it
module _ (s : List ℕ) (p : Place) (f : Part) where
  one-good : f.contradicts ≡ false → p.at + f.width ≤ 8 * reach s → Within f.range f.width (field_at s p.at f.width) → Passed s p (f ∷ []) (advanced p (p.at + f.width))
  one-good c h k = record { good = (record { whole = h; within = k }, tt); ends = refl; clash = rw c (sym (first-of-none p.clash)) }

  one-refused : (x : Fault) → Why s p.at f x → RefusedAt s p.at (f ∷ []) x
  one-refused x y = record { before = []; field = f; visited = refl; good = tt; why = y }

-- a field of whole numbers
abbrev pub number_part : Name → Sort → ℕ → ℕ → ℕ → Part
number_part n k w low high = record { name = n; sort = k; contradicts = false; width = w; range = between low high }

pub nat-walk : (n : Name) (k : Sort) (w low high : ℕ) (s : List ℕ) (p : Place)
    → Walk s p (number_part n k w low high ∷ []) (λ X bad next. (nat (record { width = w; low = low; high = high; wrong = fault_of k })).read {X = X} s p bad next)
unfolding nat read_field
nat-walk n k w low high s p = go (leb (p.at + w) (8 * reach s)) refl
  where
    v : ℕ
    v = field_at s p.at w

    f : Part
    f = number_part n k w low high

    refuses : p.at + w ≤ 8 * reach s → ¬ Within (between low high) w v → RefusedAt s p.at (f ∷ []) (fault_of k p.at)
    refuses h o = one-refused s p f (fault_of k p.at) (outside (h, o) refl)

    tests : p.at + w ≤ 8 * reach s → (x y : Bool) → leb low v ≡ x → leb v high ≡ y
        → Walk s p (f ∷ []) (λ X bad next. pick x (pick y (next v (advanced p (p.at + w))) (bad (fault_of k p.at))) (bad (fault_of k p.at)))
    tests h true true d e = goes v _ (one-good s p f refl h (leb-true low v d, leb-true v high e)) (λ X bad next. refl)
    tests h true false d e = stops (fault_of k p.at) (refuses h (λ o. let l = leb-false v high e in absurd (omega arith))) (λ X bad next. refl)
    tests h false y d e = stops (fault_of k p.at) (refuses h (λ o. let l = leb-false low v d in absurd (omega arith))) (λ X bad next. refl)

    go : (b : Bool) → leb (p.at + w) (8 * reach s) ≡ b
        → Walk s p (f ∷ []) (λ X bad next. raw {X = X} (pick b (Value v (record { at = p.at + w })) (Cut p.at)) p bad
        (λ v after. pick (leb low v) (pick (leb v high) (next v after) (bad (fault_of k p.at))) (bad (fault_of k p.at))))
    go true e = tests (leb-true (p.at + w) (8 * reach s) e) _ _ refl refl
    go false e = stops (F.Cut p.at) (one-refused s p f (F.Cut p.at) (cut (leb-false (p.at + w) (8 * reach s) e) refl)) (λ X bad next. refl)

unfoldable pub nat-traced : (n : Name) (k : Sort) (w low high : ℕ) → Traced (nat (record { width = w; low = low; high = high; wrong = fault_of k }))
unfolding nat
nat-traced n k w low high = record {
  fields = λ s p. number_part n k w low high ∷ [];
  walk = nat-walk n k w low high;
  broken = λ c e p bad next. raw-broken c e p (number_part n k w low high) bad _;
}

-- one in two's complement
abbrev pub signed_part : Name → ℕ → ℕ → Part
signed_part n w most = record { name = n; sort = other; contradicts = false; width = w; range = sized most }

pub int-walk : (n : Name) (w most : ℕ) (s : List ℕ) (p : Place) → Walk s p (signed_part n w most ∷ []) (λ X bad next. (int w most).read {X = X} s p bad next)
unfolding int read_field
int-walk n w most s p = go (leb (p.at + w) (8 * reach s)) refl
  where
    z : ℤ
    z = from_twos w (field_at s p.at w)

    f : Part
    f = signed_part n w most

    test : p.at + w ≤ 8 * reach s → (x : Bool) → leb (nat_abs z) most ≡ x
        → Walk s p (f ∷ []) (λ X bad next. pick {A = X} x (next z (advanced p (p.at + w))) (bad (F.OutOfRange p.at)))
    test h true e = goes z _ (one-good s p f refl h (leb-true (nat_abs z) most e)) (λ X bad next. refl)
    test h false e = stops (F.OutOfRange p.at) (one-refused s p f (F.OutOfRange p.at) (outside (h, λ o. let l = leb-false (nat_abs z) most e in absurd (omega arith)) refl)) (λ X bad next. refl)

    go : (b : Bool) → leb (p.at + w) (8 * reach s) ≡ b
        → Walk s p (f ∷ []) (λ X bad next. raw {X = X} (pick b (Value (field_at s p.at w) (record { at = p.at + w })) (Cut p.at)) p bad
        (λ v after. pick (leb (nat_abs (from_twos w v)) most) (next (from_twos w v) after) (bad (F.OutOfRange p.at))))
    go true e = test (leb-true (p.at + w) (8 * reach s) e) _ refl
    go false e = stops (F.Cut p.at) (one-refused s p f (F.Cut p.at) (cut (leb-false (p.at + w) (8 * reach s) e) refl)) (λ X bad next. refl)

unfoldable pub int-traced : (n : Name) (w most : ℕ) → Traced (int w most)
unfolding int
int-traced n w most = record {
  fields = λ s p. signed_part n w most ∷ [];
  walk = int-walk n w most;
  broken = λ c e p bad next. raw-broken c e p (signed_part n w most) bad _;
}

-- ---- what an edition lacks

passed_none : (s : List ℕ) (p : Place) → Passed s p [] p
passed_none s p = record { good = tt; ends = refl; clash = sym (first-of-none p.clash) }

pub nothing-walk : {A : Type 0} (neutral : A) (s : List ℕ) (p : Place) → Walk s p [] (λ X bad next. (nothing neutral).read {X = X} s p bad next)
unfolding nothing
nothing-walk neutral s p = goes neutral p (passed_none s p) (λ X bad next. refl)

unfoldable pub nothing-traced : {A : Type 0} (neutral : A) → Traced (nothing neutral)
unfolding nothing
nothing-traced neutral = record { fields = λ s p. []; walk = nothing-walk neutral; broken = λ c e p bad next. refl }

unfoldable pub present-traced : {A : Type 0} (b : Bool) (neutral : A) {l : Layout A} → Traced l → Traced (present b neutral l)
unfolding present
present-traced true neutral u = u
present-traced false neutral u = nothing-traced neutral

-- ---- held as another type

pub map-walk : {A B : Type 0} (to : A → B) {s : List ℕ} {p : Place} {t : List Part} (run : (X : Type 0) → (Fault → X) → (A → Place → X) → X)
    → Walk s p t run → Walk s p t (λ X bad next. run X bad (λ a q. next (to a) q))
map-walk to run (stops x r e) = stops x r (λ X bad next. e X bad _)
map-walk to run (goes a q g e) = goes (to a) q g (λ X bad next. e X bad _)

unfoldable pub held-traced : {A B : Type 0} (to : A → B) (from : B → A) {l : Layout A} → Traced l → Traced (held to from l)
unfolding held
held-traced to from {l} u = record {
  fields = u.fields;
  walk = λ s p. map-walk to (λ X bad next. l.read {X = X} s p bad next) (u.walk s p);
  broken = λ c e p bad next. u.broken c e p bad _;
}

-- ---- one behind the other

passed-both : (s : List ℕ) (p q r : Place) (t u : List Part) → Passed s p t q → Passed s q u r → Passed s p (t ++ u) r
passed-both s p q r t u g h = record {
  good = good-append s p.at t u g.good (subst (λ (n : ℕ). AllGood s n u) g.ends h.good);
  ends = h.ends ∙ ap (λ (n : ℕ). end_of n u) g.ends ∙ sym (end-append p.at t u);
  clash =
      h.clash
      ∙ ap (λ (c : Clash). or_else c (first_clash q.at u)) g.clash
      ∙ ap (λ (n : ℕ). or_else (or_else p.clash (first_clash p.at t)) (first_clash n u)) g.ends
      ∙ first-of-three p.clash (first_clash p.at t) (first_clash (end_of p.at t) u)
      ∙ ap (or_else p.clash) (sym (clash-append p.at t u));
}

module _ {A B : Type 0} {l : Layout A} (m : A → Layout B) (u : Traced l) (v : (a : A) → Traced (m a)) where
  -- those of the first, and behind them, where it goes on, those of the second
  abbrev pub then_fields : List ℕ → Place → List Part
  then_fields s p = l.read s p (λ x. u.fields s p) (λ a q. u.fields s p ++ (v a).fields s q)

  pub then-walk : (s : List ℕ) (p : Place) → Walk {A = A × B} s p (then_fields s p) (λ X bad next. l.read {X = X} s p bad (λ a q. (m a).read s q bad (λ b r. next (a, b) r)))
  then-walk s p = first (u.walk s p)
    where
      Both : Type 1
      Both = Walk {A = A × B} s p (then_fields s p) (λ X bad next. l.read {X = X} s p bad (λ a q. (m a).read s q bad (λ b r. next (a, b) r)))

      second : (a : A) (q : Place) → Passed s p (u.fields s p) q → ((X : Type 0) (bad : Fault → X) (next : A → Place → X) → l.read s p bad next ≡ next a q)
          → Walk s q ((v a).fields s q) (λ X bad next. (m a).read {X = X} s q bad next) → Both
      second a q g e (stops x r h) = walk-as (e (List Part) _ _)
          (stops x (refused-later s p.at (u.fields s p) ((v a).fields s q) x g.good (subst (λ (n : ℕ). RefusedAt s n ((v a).fields s q) x) g.ends r)) (λ X bad next. e X bad _ ∙ h X bad _))
      second a q g e (goes b r h k) = walk-as (e (List Part) _ _) (goes (a, b) r (passed-both s p q r (u.fields s p) ((v a).fields s q) g h) (λ X bad next. e X bad _ ∙ k X bad _))

      first : Walk s p (u.fields s p) (λ X bad next. l.read {X = X} s p bad next) → Both
      first (stops x r e) = walk-as (e (List Part) _ _) (stops x r (λ X bad next. e X bad _))
      first (goes a q g e) = second a q g e ((v a).walk s q)

  pub then-broken : {X : Type 0} (c e : List ℕ) (p : Place) (bad : Fault → X) (next : A × B → Place → X)
      → l.read c p bad (λ a q. (m a).read c q bad (λ b r. next (a, b) r))
      ≡ unless (first_beyond (8 * reach c) p.at (then_fields (c ++ e) p)) bad (l.read (c ++ e) p bad (λ a q. (m a).read (c ++ e) q bad (λ b r. next (a, b) r)))
  then-broken {X} c e p bad next = u.broken c e p bad _ ∙ go (u.walk s p)
    where
      s : List ℕ
      s = c ++ e

      n : ℕ
      n = 8 * reach c

      t : List Part
      t = u.fields s p

      -- the second in c, and in c ++ e; and the fields of both
      short : A → Place → X
      short a q = (m a).read c q bad (λ b r. next (a, b) r)

      long : A → Place → X
      long a q = (m a).read s q bad (λ b r. next (a, b) r)

      parts : A → Place → List Part
      parts a q = t ++ (v a).fields s q

      go : Walk s p t (λ X bad next. l.read {X = X} s p bad next)
          → unless (first_beyond n p.at t) bad (l.read s p bad short) ≡ unless (first_beyond n p.at (then_fields s p)) bad (l.read s p bad long)
      go (stops x r h) =
          ap (λ (y : X). unless (first_beyond n p.at t) bad y) (h X bad short ∙ sym (h X bad long))
          ∙ sym (ap (λ (z : List Part). unless (first_beyond n p.at z) bad (l.read s p bad long)) (h (List Part) (λ x. t) parts))
      go (goes a q g h) =
          let w : List Part = (v a).fields s q in
          let y : X = long a q in
          ap (λ (y : X). unless (first_beyond n p.at t) bad y) (h X bad short ∙ (v a).broken c e q bad (λ b r. next (a, b) r))
          ∙ ap (λ (k : ℕ). unless (first_beyond n p.at t) bad (unless (first_beyond n k w) bad y)) g.ends
          ∙ unless-append n p.at t w bad y
          ∙ ap (λ (y : X). unless (first_beyond n p.at (t ++ w)) bad y) (sym (h X bad long))
          ∙ sym (ap (λ (z : List Part). unless (first_beyond n p.at z) bad (l.read s p bad long)) (h (List Part) (λ x. t) parts))

  unfoldable pub then-traced : Traced (l then m)
  unfolding ◌then◌
  then-traced = record { fields = then_fields; walk = then-walk; broken = λ c e p bad next. then-broken c e p bad next }

unfoldable pub pair-traced : {A B : Type 0} {l : Layout A} {m : Layout B} → Traced l → Traced m → Traced (l ▸ m)
pair-traced {m = m} u v = then-traced (λ a. m) u (λ a. v)

-- ---- n of them, with the names of the i-th, the next and so on

pub none_walk : {A : Type 0} (l : Layout A) (s : List ℕ) (p : Place) → Walk s p [] (λ X bad next. (list zero l).read {X = X} s p bad next)
unfolding list repeated
none_walk l s p = goes [] p (passed_none s p) (λ X bad next. refl)

unfoldable pub list-traced : {A : Type 0} (n i : ℕ) {l : Layout A} → (ℕ → Traced l) → Traced (list n l)
unfolding list repeated
list-traced zero i {l} u = record { fields = λ s p. []; walk = none_walk l; broken = λ c e p bad next. refl }
list-traced {A} (suc n) i {l} u = record {
  fields = then_fields (λ a. list n l) (u i) (λ a. list-traced n (suc i) u);
  walk = λ s p. map-walk (λ (x : A × List A). x.0 ∷ x.1) (λ X bad next. l.read {X = X} s p bad (λ a q. (list n l).read s q bad (λ b r. next (a, b) r)))
      (then-walk (λ a. list n l) (u i) (λ a. list-traced n (suc i) u) s p);
  broken = λ c e p bad next. then-broken (λ a. list n l) (u i) (λ a. list-traced n (suc i) u) c e p bad (λ x r. next (x.0 ∷ x.1) r);
}

-- a count and that many
unfoldable pub counted-traced : {A : Type 0} (n : Name) (w low high : ℕ) {l : Layout A} → (ℕ → Traced l) → Traced (counted (count_of w low high) l)
unfolding counted
counted-traced n w low high {l} u = held-traced _ _ (then-traced (λ k. list k l) (nat-traced n count w low high) (λ k. list-traced k 0 u))

-- ---- one field tested against what was read before: where it contradicts that, it is noted at its first bit

-- the first of the fields contradicts, or not
abbrev pub marked : Bool → List Part → List Part
marked true t = t
marked false [] = []
marked false (f ∷ t) = record { name = f.name; sort = f.sort; contradicts = true; width = f.width; range = f.range } ∷ t

-- one field, which contradicts nothing by itself
abbrev pub Single : List Part → Type 0
Single [] = ⊥
Single (f ∷ []) = f.contradicts ≡ false
Single (f ∷ g ∷ t) = ⊥

beyond-marked : (ok : Bool) (n at : ℕ) (t : List Part) → first_beyond n at (marked ok t) ≡ first_beyond n at t
beyond-marked true n at t = refl
beyond-marked false n at [] = refl
beyond-marked false n at (f ∷ t) = refl

passed-noted : (s : List ℕ) (p q : Place) (t : List Part) (ok : Bool) → Single t → Passed s p t q → Passed s p (marked ok t) (noted ok p.at q)
passed-noted s p q t true k g = g
passed-noted s p q [] false k g = absurd k
passed-noted s p q (f ∷ []) false k g = record {
  good = (record { whole = g.good.0.whole; within = g.good.0.within }, tt);
  ends = g.ends;
  clash = ap (λ (c : Clash). or_else c (At p.at)) (rw k at g.clash ∙ first-of-none p.clash);
}
passed-noted s p q (f ∷ h ∷ t) false k g = absurd k

module _ {A : Type 0} (ok : A → Bool) {l : Layout A} (u : Traced l) where
  abbrev pub such_fields : List ℕ → Place → List Part
  such_fields s p = l.read s p (λ x. u.fields s p) (λ a q. marked (ok a) (u.fields s p))

  pub such-walk : ((s : List ℕ) (p : Place) → Single (u.fields s p))
      → (s : List ℕ) (p : Place) → Walk s p (such_fields s p) (λ X bad next. l.read {X = X} s p bad (λ a q. next a (noted (ok a) p.at q)))
  such-walk single s p = go (u.walk s p)
    where
      go : Walk s p (u.fields s p) (λ X bad next. l.read {X = X} s p bad next) → Walk s p (such_fields s p) (λ X bad next. l.read {X = X} s p bad (λ a q. next a (noted (ok a) p.at q)))
      go (stops x r e) = walk-as (e (List Part) _ _) (stops x r (λ X bad next. e X bad _))
      go (goes a q g e) = walk-as (e (List Part) _ _) (goes a (noted (ok a) p.at q) (passed-noted s p q (u.fields s p) (ok a) (single s p) g) (λ X bad next. e X bad _))

  -- a mark moves no field
  such-beyond : (n : ℕ) (s : List ℕ) (p : Place) → first_beyond n p.at (such_fields s p) ≡ first_beyond n p.at (u.fields s p)
  such-beyond n s p = go (u.walk s p)
    where
      go : Walk s p (u.fields s p) (λ X bad next. l.read {X = X} s p bad next) → first_beyond n p.at (such_fields s p) ≡ first_beyond n p.at (u.fields s p)
      go (stops x r e) = ap (λ (t : List Part). first_beyond n p.at t) (e (List Part) _ _)
      go (goes a q g e) = ap (λ (t : List Part). first_beyond n p.at t) (e (List Part) _ _) ∙ beyond-marked (ok a) n p.at (u.fields s p)

  pub such-broken : {X : Type 0} (c e : List ℕ) (p : Place) (bad : Fault → X) (next : A → Place → X)
      → l.read c p bad next ≡ unless (first_beyond (8 * reach c) p.at (such_fields (c ++ e) p)) bad (l.read (c ++ e) p bad next)
  such-broken c e p bad next = u.broken c e p bad next ∙ ap (λ (b : Clash). unless b bad (l.read (c ++ e) p bad next)) (sym (such-beyond (8 * reach c) (c ++ e) p))

  unfoldable pub such-traced : ((s : List ℕ) (p : Place) → Single (u.fields s p)) → Traced (such ok l)
  unfolding such
  such-traced single = record { fields = such_fields; walk = such-walk single; broken = λ c e p bad next. such-broken c e p bad (λ a q. next a (noted (ok a) p.at q)) }
