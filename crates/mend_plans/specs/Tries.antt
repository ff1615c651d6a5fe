-- The better of the two tries, and the answer for a broken plan.
use Rattle.std.specs.Prelude.{◌≡◌, Bool, true, false, leb, length}
use Rattle.std.proofs.Math.Path.{refl, sym, ap}
use Rattle.std.proofs.Common.{ap₂, ◌∙◌, subst, mul-le-mul, le-leb}
use Rattle.std.proofs.Math.Option.{some}
use mathlib.Core.List.{List, [], ◌∷◌, ◌++◌}
use Prim.Native.Nat.{ℕ, zero, suc, ◌+◌, ◌-◌, ◌*◌, ◌≤◌, ◌<◌}
use native.Mathlib.Omega.{arith}
use Rattle.std.proofs.Math.Decide.{dec_le}
use Rattle.std.proofs.lemmas.Bool.{lt-leb}
use Rattle.bits.specs.Pick.{pick}
use Rattle.numbers.specs.Base.{range, gather}
use Rattle.model.specs.declared.Breach.{Breach}
use Rattle.model.specs.Case.{System, Plan}
use Rattle.model.specs.Forced as F
use Rattle.model.specs.Breaches.{breaches}
use Rattle.row_places.specs.declared.Front.{Front}
use Rattle.records.specs.Views.{system_in, plan_in}
use Rattle.numbers.specs.Sum.{All}
use Rattle.records.specs.Viewed as W
use Rattle.breaches.specs.First.{first}
use Rattle.std.specs.Prelude.{Option, Some, None}
use Rattle.mending_theorems.specs.Where.{Where, in_cell, in-link, in_window}
use Rattle.mending_theorems.proofs.Where.{listed-where}
use Rattle.mending.specs.declared.Mending.{Mending}
use Rattle.mending.specs.declared.Mending.TheVariants.{Mended, Nothing}
use Rattle.mending.specs.Mending.{Change, mends, change, those, keep_if, nearest, most_online}
use Rattle.mending.specs.Mendings.{told}
use Rattle.mending_theorems.specs.Answer.{attempts, tries_at, mended_from}
use Rattle.mend_tries.specs.Tries.{tried_as, Tries, Judgeable}
use Rattle.nearer_tries.specs.Nearer.{answer_as, nearer_as}

append-none : {A : Type 0} (l : List A) → l ++ [] ≡ l
append-none [] = refl
append-none {A} (x ∷ l) = ap (λ (m : List A). x ∷ m) (append-none l)

those-append : {A : Type 0} (f : A → Bool) (l m : List A) → those f (l ++ m) ≡ those f l ++ those f m
unfolding those
those-append f [] m = refl
those-append {A} f (x ∷ l) m = go (f x) (those-append f l m)
  where
    go : (b : Bool) → those f (l ++ m) ≡ those f l ++ those f m → keep_if b x (those f (l ++ m)) ≡ keep_if b x (those f l) ++ those f m
    go true e = ap (λ (y : List A). x ∷ y) e
    go false e = e

-- the better of two, the first where they change the plan alike
module _ (f : Change → ℕ) (s t i : ℕ) where
  abbrev best : Option ℕ → Option ℕ → Mending
  best a b = told (nearest f (tried_as s i a ++ tried_as t i b))

  abbrev at : ℕ → ℕ → Change
  at u v = record { interval = u; device = i; power = v }

  named : (u v : ℕ) → Mended (u + 1) (i + 1) v ≡ told (some (at u v))
  named u v =
      let e : u + 1 ≡ suc u = omega arith in
      let g : i + 1 ≡ suc i = omega arith in
      rw (e, g) refl

  pub best-second : (b : Option ℕ) → answer_as t i b ≡ best None b
  unfolding nearest
  best-second (Some v) = named t v
  best-second None = refl

  pub best-first : (v : ℕ) → answer_as s i (Some v) ≡ best (Some v) None
  unfolding nearest
  best-first v = named s v

  pub best-earlier : (v w : ℕ) → f (at s v) ≤ f (at t w) → answer_as s i (Some v) ≡ best (Some v) (Some w)
  unfolding nearest
  best-earlier v w h = rw (le-leb (f (at s v)) (f (at t w)) h) (named s v)

  pub best-later : (v w : ℕ) → f (at t w) < f (at s v) → answer_as t i (Some w) ≡ best (Some v) (Some w)
  unfolding nearest
  best-later v w h = rw (lt-leb (f (at s v)) (f (at t w)) h) (named t w)

-- the answer from a breach of interval t and device i, from 0
unfoldable pub cell_answer : System → Plan → ℕ → ℕ → Mending
cell_answer q p t i = told (nearest (change q p) (those (mends q p) (tries_at most_online q p (suc t) (suc i))))

module _ (q : System) (p : Plan) (i : ℕ) where
  abbrev found : ℕ → List Change
  found t = those (mends q p) (attempts most_online q p t i)

  lone : those (mends q p) (tries_at most_online q p 1 (suc i)) ≡ found 0
  unfolding tries_at gather range
  lone = ap (those (mends q p)) (append-none (attempts most_online q p 0 i))

  pair : (s : ℕ) → those (mends q p) (tries_at most_online q p (suc (suc s)) (suc i)) ≡ found s ++ found (suc s)
  unfolding tries_at gather range
  pair s =
      let e : suc s - 1 ≡ s = omega arith in
      let g : suc (suc s) - s ≡ 2 = omega arith in
      rw (e, g) (those-append (mends q p) (attempts most_online q p s i) (attempts most_online q p (suc s) i ++ [])
      ∙ ap (λ (l : List Change). found s ++ those (mends q p) l) (append-none (attempts most_online q p (suc s) i)))

  lone-done : (r : Option ℕ) → tried_as 0 i r ≡ found 0 → answer_as 0 i r ≡ cell_answer q p 0 i
  unfolding cell_answer
  lone-done r e = best-second (change q p) 0 0 i r ∙ ap (λ (l : List Change). told (nearest (change q p) l)) (e ∙ sym lone)

  module _ (s : ℕ) where
    -- the changes of the two
    as-best : (a b : Option ℕ) → nearer_as (suc s) i (F.setting q p s i).online (F.setting q p (suc s) i).online a b ≡ told (nearest (change q p) (tried_as s i a ++ tried_as (suc s) i b))
    unfolding change
    as-best None b = best-second (change q p) s (suc s) i b
    as-best (Some v) None = let e : suc s - 1 ≡ s = omega arith in rw e (best-first (change q p) s (suc s) i v)
    as-best (Some v) (Some w) = let e : suc s - 1 ≡ s = omega arith in rw e (go (dec_le (change q p (record { interval = s; device = i; power = v }))
        (change q p (record { interval = suc s; device = i; power = w }))))
      where
        x : ℕ
        x = change q p (record { interval = s; device = i; power = v })

        y : ℕ
        y = change q p (record { interval = suc s; device = i; power = w })

        go : Dec (x ≤ y) → pick (leb x y) (answer_as s i (Some v)) (answer_as (suc s) i (Some w)) ≡ told (nearest (change q p) (tried_as s i (Some v) ++ tried_as (suc s) i (Some w)))
        go (yes h) = rw (le-leb x y h) (best-earlier (change q p) s (suc s) i v w h)
        go (no h) = rw (lt-leb x y (omega arith)) (best-later (change q p) s (suc s) i v w (omega arith))

    pair-done : (a b : Option ℕ) → tried_as s i a ≡ found s → tried_as (suc s) i b ≡ found (suc s)
        → nearer_as (suc s) i (F.setting q p s i).online (F.setting q p (suc s) i).online a b ≡ cell_answer q p (suc s) i
    unfolding cell_answer
    pair-done a b e f = as-best a b ∙ ap (λ (l : List Change). told (nearest (change q p) l)) (ap₂ (λ (x y : List Change). x ++ y) e f ∙ sym (pair s))

tries-none : (q : System) (p : Plan) (m : ℕ) → tries_at most_online q p m 0 ≡ []
unfolding tries_at
tries-none q p zero = refl
tries-none q p (suc t) = refl

nothing-told : (q : System) (p : Plan) → Nothing ≡ told (nearest (change q p) (those (mends q p) []))
unfolding those nearest
nothing-told q p = refl

head-where : (P : Breach → Type 0) (bs : List Breach) (b : Breach) → first bs ≡ Some b → All P bs → P b
unfolding first
head-where P [] b e h = absurd (let z : ◌≡◌ {A = ℕ} 0 1 = cc in omega (arith, z))
head-where P (x ∷ bs) b e h = let g : x ≡ b = cc in subst P g h.0

-- in the rows: the second try stands on the plan that the first left
module _ (front : Front) (halves : List ℕ) (zones minima devices cells settings : List (List ℕ)) where
  abbrev q : System
  q = system_in halves zones minima devices cells

  abbrev p : Plan
  p = plan_in (length devices) (length halves) settings

  pub lone-try : (i : ℕ) {after : List (List ℕ)} {r : Option ℕ} → Tries front halves zones minima devices cells settings i 0 after r → answer_as 0 i r ≡ cell_answer q p 0 i
  lone-try i {r = r} x = lone-done q p i r x.answer

  pub both-tries : (i s : ℕ) {before now : ℕ} {mid after : List (List ℕ)} {a b : Option ℕ} → before ≡ (F.setting q p s i).online → now ≡ (F.setting q p (suc s) i).online
      → Tries front halves zones minima devices cells settings i s mid a → Tries front halves zones minima devices cells mid i (suc s) after b
      → nearer_as (suc s) i before now a b ≡ cell_answer q p (suc s) i
  both-tries i s {before} {now} {mid} {after} {a} {b} e f x y =
      rw (e, f) (pair-done q p i s a b x.answer (subst (λ (o : Plan). tried_as (suc s) i b ≡ those (mends q o) (attempts most_online q o (suc s) i)) x.same.plan y.answer))

  -- where the first breach stands: in the case, where it has an interval and a device
  pub placed : (b : Breach) → first (breaches q p) ≡ Some b → 0 < b.interval → 0 < b.device → (b.interval - 1 < length halves) × (b.device - 1 < length devices)
  placed b e h k = go (head-where (Where q p) (breaches q p) b e (listed-where q p))
    where
      go : Where q p b → (b.interval - 1 < length halves) × (b.device - 1 < length devices)
      go (in_cell t i l m f g j) = (omega (arith, g, l, W.intervals-are halves zones minima devices cells), omega (arith, j, m, W.devices-are halves zones minima devices cells))
      go (in-link t l f g j) = absurd (omega (arith, j))
      go (in_window i w l m f g) = absurd (omega (arith, g))

  -- the answer of the breach
  pub no-interval : (b : Breach) → b.interval ≡ 0 → Nothing ≡ told (mended_from most_online q p b)
  unfolding mended_from tries_at those nearest
  no-interval b e = rw e refl

  pub no-device : (b : Breach) → 0 < b.interval → b.device ≡ 0 → Nothing ≡ told (mended_from most_online q p b)
  unfolding mended_from
  no-device b h e = rw e (go b.interval)
    where
      go : (m : ℕ) → Nothing ≡ told (nearest (change q p) (those (mends q p) (tries_at most_online q p m 0)))
      go m = rw (tries-none q p m) (nothing-told q p)

  pub of-cell : (b : Breach) {t i : ℕ} {r : Mending} → t ≡ b.interval - 1 → i ≡ b.device - 1 → 0 < b.interval → 0 < b.device → r ≡ cell_answer q p t i → r ≡ told (mended_from most_online q p b)
  unfolding mended_from cell_answer
  of-cell b {t} {i} e f h k g =
      let u : b.interval ≡ suc t = omega (arith, e) in
      let v : b.device ≡ suc i = omega (arith, f) in
      g ∙ sym (rw (u, v) refl)

  pub both-done : (i t : ℕ) {before now : ℕ} {mid after : List (List ℕ)} {a b : Option ℕ} {r : Mending} → before ≡ (F.setting q p t i).online → now ≡ (F.setting q p (t + 1) i).online
      → Tries front halves zones minima devices cells settings i t mid a → Tries front halves zones minima devices cells mid i (t + 1) after b
      → r ≡ nearer_as (t + 1) i before now a b → r ≡ cell_answer q p (t + 1) i
  both-done i t {before} {now} {mid} {after} {a} {b} e f x y g =
      let k : t + 1 ≡ suc t = omega arith in
      let f' : now ≡ (F.setting q p (suc t) i).online = rw k at f in
      let y' : Tries front halves zones minima devices cells mid i (suc t) after b = rw k at y in
      g ∙ rw k (both-tries i t e f' x y')

  -- by cases on the interval
  pub sooner : (i : ℕ) {t : ℕ} {r : Mending} → t ≡ 0 → r ≡ cell_answer q p 0 i → r ≡ cell_answer q p t i
  sooner i e g = rw e g

  pub later : (t i : ℕ) {r : Mending} → (t ≡ 0 → ⊥) → r ≡ cell_answer q p (t - 1 + 1) i → r ≡ cell_answer q p t i
  later t i e g = g ∙ (let k : t - 1 + 1 ≡ t = omega arith in rw k refl)

  -- a product of the counts
  pub parts-small : {starts powers : List ℕ} → Judgeable front halves zones minima devices cells settings starts powers → (i : ℕ) → i < length devices → i * length halves ≤ 6144
  parts-small j i l = omega (arith, mul-le-mul {n₁ = i} {m₁ = length halves} {n₂ = 64} {m₂ = 96} (omega (arith, j.case_rows.few-devices)) j.case_rows.few-intervals)
