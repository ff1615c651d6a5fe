-- Trying a power: the plan with it breaks no rule or breaks one, and the plan stays as it was.
use Rattle.std.specs.Prelude.{◌≡◌, Bool, true, false, ℕ, ◌+◌, ◌*◌, ◌≤◌, ◌<◌, leb, length, get_or}
use Rattle.std.proofs.Math.Path.{refl, sym, ap}
use Rattle.std.proofs.Common.{◌∙◌, arith, length-set}
use mathlib.Core.List.{List, [], ◌∷◌}
use borrow.Author.Tests.{lt-ltb, le-ltb, leb-true, leb-false}
use Rattle.std.proofs.Math.ListN.{set}
use Rattle.numbers.specs.Parts.{part_at, place_inside}
use Rattle.model.specs.declared.Breach.{Breach}
use Rattle.model.specs.Case as M
use Rattle.model.specs.Case.{System, Plan}
use Rattle.model.specs.Forced as F
use Rattle.model.specs.Breaches.{breaches}
use Rattle.ranges.specs.Ranges.{SettingRange}
use Rattle.row_places.specs.declared.Front.{Front}
use Rattle.row_places.specs.Figures.{online_at}
use Rattle.records.specs.Views.{system_in, plan_in, setting_in, CaseRows, PlanRows, Ready}
use Rattle.records.specs.Viewed as W
use Rattle.powers.specs.Fleet.{CaseOf, Forced}
use Rattle.breaches.specs.First.{first}
use Rattle.std.specs.Prelude.{Option, Some, None}
use Rattle.spans.specs.declared.Span.{Span}
use Rattle.spans.specs.Spans.{In, clamped, clamped-in, span-in}
use Rattle.mending.specs.Mending.{Change, is_empty, mends, those, most_online}
use Rattle.mending_theorems.specs.Bounds.{bounds}
use Rattle.mending_theorems.specs.Answer.{span_at, attempt, attempts}
use Rattle.online_rows.specs.Plans.{with_online_row, plan-put, rows-put-range, plan-back}

-- a decoded case and plan, and room for the forced figures
pub record Judgeable (front : Front) (halves : List ℕ) (zones minima devices cells settings : List (List ℕ)) (starts powers : List ℕ) : Type 0 where
  pub case_rows : CaseRows front halves zones minima devices cells
  pub plan-rows : PlanRows (length devices) (length halves) settings
  pub starts-full : length starts ≡ length halves + 1
  pub powers-full : length powers ≡ length devices * length halves

-- the first breach, or none
held-empty : (bs : List Breach) {k : Option Breach} → k ≡ first bs → k ≡ None → true ≡ is_empty bs
unfolding first
held-empty [] e h = refl
held-empty (b ∷ bs) e h = absurd (let z : ◌≡◌ {A = ℕ} 0 1 = cc in omega (arith, z))

broken-not : (bs : List Breach) {k : Option Breach} {b : Breach} → k ≡ first bs → k ≡ Some b → false ≡ is_empty bs
unfolding first
broken-not [] e h = absurd (let z : ◌≡◌ {A = ℕ} 0 1 = cc in omega (arith, z))
broken-not (b ∷ bs) e h = refl

-- what a try answers, as the changes that it found
abbrev pub tried_as : ℕ → ℕ → Option ℕ → List Change
tried_as t i (Some v) = record { interval = t; device = i; power = v } ∷ []
tried_as t i None = []

module _ (front : Front) (halves : List ℕ) (zones minima devices cells settings : List (List ℕ)) where
  abbrev pub q : System
  q = system_in halves zones minima devices cells

  abbrev pub p : Plan
  p = plan_in (length devices) (length halves) settings

  pub case-of : {starts powers : List ℕ} → Judgeable front halves zones minima devices cells settings starts powers → CaseOf halves devices cells
  case-of j = record { front = front; zones = zones; minima = minima; rows = j.case_rows }

  pub ready_of : {starts powers times forced : List ℕ} → Judgeable front halves zones minima devices cells settings starts powers → Forced halves devices cells settings times forced
      → Ready front halves zones minima devices cells settings times forced
  ready_of j f = record { case_rows = j.case_rows; plan-rows = j.plan-rows; forced-rows = f.rows zones minima }

  -- room for the forced figures is there still
  pub again : {starts powers times forced : List ℕ} → Judgeable front halves zones minima devices cells settings starts powers → Forced halves devices cells settings times forced
      → Judgeable front halves zones minima devices cells settings times forced
  again j f = let r = f.rows zones minima in record { case_rows = j.case_rows; plan-rows = j.plan-rows; starts-full = omega (arith, r.starts-full); powers-full = r.powers-full }

  pub answers-held : {k : Option Breach} → k ≡ first (breaches q p) → k ≡ None → true ≡ is_empty (breaches q p)
  answers-held e h = held-empty (breaches q p) e h

  pub answers-broken : {k : Option Breach} {b : Breach} → k ≡ first (breaches q p) → k ≡ Some b → false ≡ is_empty (breaches q p)
  answers-broken e h = broken-not (breaches q p) e h

  -- the plan in the rows is the same
  pub record Same (after : List (List ℕ)) : Type 0 where
    pub plan : plan_in (length devices) (length halves) after ≡ p
    pub rows : PlanRows (length devices) (length halves) after

  -- whether the plan with this power breaks no rule
  pub record Tests (i t x : ℕ) (after : List (List ℕ)) (r : Bool) : Type 0 where
    pub same : Same after
    pub answer : r ≡ mends q p (record { interval = t; device = i; power = x })

  module _ (rows : PlanRows (length devices) (length halves) settings) (i t : ℕ) (l : i < length devices) (h : t < length halves) {k : ℕ} (at : k ≡ i * length halves + t) where
    abbrev n : ℕ
    n = length devices

    abbrev m : ℕ
    m = length halves

    abbrev put : ℕ → List (List ℕ)
    put x = set settings k (with_online_row (get_or settings k []) x)

    pub inside : k < length settings
    inside = omega (arith, at, rows.full, place_inside m i n t l h)

    pub online-is : online_at settings k ≡ (F.setting q p t i).online
    online-is = ap (λ (r : List ℕ). (setting_in r).online) (ap (λ (j : ℕ). get_or settings j []) at ∙ sym (part_at [] m i settings t h)) ∙ sym
        (ap (λ (x : M.Setting). x.online) (W.setting-is n m settings q t i h l))

    pub rows-put : (x : ℕ) → x ≤ 100000 → PlanRows n m (put x)
    rows-put x s = rw at (rows-put-range n m settings i t x l h rows.full s rows)

    pub rows-mid : {x : ℕ} {mid : List (List ℕ)} → mid ≡ put x → x ≤ 100000 → PlanRows n m mid
    rows-mid {x} e s = rw e (rows-put x s)

    pub inside-mid : (x : ℕ) {mid : List (List ℕ)} → mid ≡ put x → k < length mid
    inside-mid x e = omega (arith, inside, ap length e, length-set settings k (with_online_row (get_or settings k []) x))

    pub tests-done : {x old : ℕ} {mid after : List (List ℕ)} {r : Bool} → x ≤ 100000 → old ≡ online_at settings k → mid ≡ put x → r ≡ is_empty (breaches q (plan_in n m mid))
        → after ≡ set mid k (with_online_row (get_or mid k []) old) → Tests i t x after r
    unfolding mends
    tests-done {x} {old} {mid} {after} s o e f g =
        let c : Change = record { interval = t; device = i; power = x } in
        let u : after ≡ set (put x) k (with_online_row (get_or (put x) k []) old) = g ∙ ap (λ (y : List (List ℕ)). set y k (with_online_row (get_or y k []) old)) e in
        let range : SettingRange (setting_in (get_or settings k [])) = rows.range k inside in
        record {
          same = record {
            plan = rw u (rw at (plan-back n m settings i t x l h rows.full q old (o ∙ online-is)));
            rows = rw u (rw at (rows-put-range n m (set settings (i * m + t) (with_online_row (get_or settings (i * m + t) []) x)) i t old l h
                (length-set settings (i * m + t) (with_online_row (get_or settings (i * m + t) []) x) ∙ rows.full) (rw o range.online) (rows-put-range n m settings i t x l h rows.full s rows)));
          };
          answer = f ∙ ap (λ (y : Plan). is_empty (breaches q y)) (ap (plan_in n m) e ∙ rw at (plan-put n m settings i t x l h rows.full));
        }

  -- ---- a try of an interval and device

  pub record Tries (i t : ℕ) (after : List (List ℕ)) (r : Option ℕ) : Type 0 where
    pub same : Same after
    pub answer : tried_as t i r ≡ those (mends q p) (attempts most_online q p t i)

  module _ (i t : ℕ) {s : Span} (e : s ≡ span_at most_online q p t i) where
    -- what the test of an empty span says
    pub left-none : {b : Bool} → b ≡ leb s.until s.from → b ≡ true → s.until ≤ s.from
    left-none f g = leb-true s.until s.from (sym f ∙ g)

    pub left-some : {b : Bool} → b ≡ leb s.until s.from → b ≡ false → s.from < s.until
    left-some f g = leb-false s.until s.from (sym f ∙ g)

    -- no power is left
    pub tries-none : {after : List (List ℕ)} → Same after → s.until ≤ s.from → Tries i t after None
    unfolding attempts those
    tries-none a h = record { same = a; answer = sym (rw (← e, le-ltb s.from s.until h) refl) }

    some_left : s.from < s.until → attempts most_online q p t i ≡ attempt most_online q p t i ∷ []
    unfolding attempts
    some_left h = rw (← e, lt-ltb s.from s.until h) refl

    module _ (h : s.from < s.until) {old v : ℕ} (o : old ≡ (F.setting q p t i).online) (k : v ≡ clamped s old) where
      tried-is : attempt most_online q p t i ≡ record { interval = t; device = i; power = v }
      unfolding attempt
      tried-is = sym (rw (k, e, o) refl)

      -- the power tried is one of the case's
      pub tried-small : v ≤ 100000
      unfolding most_online span_at
      tried-small =
          let g : In s s.from = record { low = omega arith; high = h } in
          let j : In (span_at most_online q p t i) v = rw (← e, k) (clamped-in s old s.from g) in
          (span-in most_online v (bounds q p t i) j).0

      pub tries-found : {after : List (List ℕ)} → Tests i t v after true → Tries i t after (Some v)
      unfolding those
      tries-found x = record { same = x.same; answer = sym (rw (some_left h, tried-is, ← x.answer) refl) }

      pub tries-missed : {after : List (List ℕ)} → Tests i t v after false → Tries i t after None
      unfolding those
      tries-missed x = record { same = x.same; answer = sym (rw (some_left h, tried-is, ← x.answer) refl) }
