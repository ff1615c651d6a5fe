-- The answer from the first breach: only the power of its interval and device, or of the interval before, can mend the plan, and of each of the two only the nearest in its span
-- need be tried.
use Rattle.std.specs.Prelude.{◌≡◌, ◌⊎◌, Bool, ltb, length}
use Rattle.std.proofs.Math.Path.{refl}
use Rattle.std.proofs.Common.{ap, ◌∙◌, inr, arith, lt→ltb}
use Rattle.std.proofs.Math.Logic.{inl}
use Rattle.std.proofs.Math.Bool.{true, false}
use mathlib.Core.List.{List, [], ◌∷◌, Memᴰ}
use Prim.Native.Nat.{ℕ, zero, suc, ◌-◌, ◌≤◌, ◌<◌}
use Rattle.std.proofs.Math.Decide.{ℕ_discrete}
use Rattle.std.proofs.Math.Dec.{T, ltb→lt}
use Rattle.bits.specs.Pick.{pick}
use Rattle.numbers.specs.Sum.{All, all_map}
use Rattle.numbers.specs.Base.{range}
use Rattle.numbers.specs.Every.{all-at, all-range, all-gather, in-gather, in-range, Ordered, ordered-gather}
use Rattle.model.specs.declared.Breach.{Breach}
use Rattle.model.specs.Case.{System, Plan}
use Rattle.model.specs.Forced.{intervals, devices, setting}
use Rattle.model.specs.Breaches.{breaches}
use Rattle.ranges.specs.Ranges.{PlanRange}
use Rattle.mending.specs.Mending.{Change, replaced, mends, change, those, mended_by}
use Rattle.mending_theorems.specs.Replaced.{Has}
use Rattle.mending_theorems.proofs.Clean.{clean, unbroken}
use Rattle.spans.specs.Spans.{In, span-in, in_span, apart, clamped, clamped-in, clamped-nearest}
use Rattle.mending_theorems.specs.Bounds.{bounds}
use Rattle.mending_theorems.specs.Cells.{Rest}
use Rattle.mending_theorems.proofs.Cells.{clean-parts, parts-clean, moved_keeps, keeps-moved}
use Rattle.mending.specs.Ranks.{NotBehind, itself, smaller}
use Rattle.mending.proofs.Ranks.{those-keep, in-those, those-ordered, same-nearest}
use Rattle.mending.specs.Least.{Within, Mends, Earlier, turn, mending}
use Rattle.mending.proofs.Least.{mending-all, in-mending, mending-ordered}
use Rattle.mending_theorems.specs.Where.{Where, in_cell, in-link, in_window}
use Rattle.mending_theorems.proofs.Where.{first-where}
use Rattle.mending_theorems.specs.Answer.{Near, Shaped, attempt, attempts, mended_from, span_at, tries_at}

-- as every plan is that passes reading
pub shaped : (q : System) (p : Plan) → PlanRange q p → Shaped q p
shaped q p r = record { intervals = r.intervals; devices = λ t l. (all-at _ [] p.settings r.each t l).0 }

-- ---- one interval and device
module _ (most : ℕ) (q : System) (p : Plan) (s : Shaped q p) where
  has : (c : Change) → Within q most c → Has p c
  has c h =
      let l : c.interval < length p.settings = omega (arith, s.intervals, h.interval) in
      record { row = l; place = omega (arith, s.devices c.interval l, h.device) }

  -- a change mends exactly where all else holds and it lies in the span
  pub mends-in : (c : Change) → Mends most q p c → Rest q p c.interval c.device × In (span_at most q p c.interval c.device) c.power
  unfolding mends span_at
  mends-in c m =
      let w = m.within in
      let r = clean-parts q p c (has c w) (clean q (replaced p c) m.unbroken) w.interval w.device in
      (r.0, in_span most c.power (bounds q p c.interval c.device) w.power (moved_keeps q p c.interval c.device c.power r.1))

  pub in-mends : (c : Change) → c.interval < intervals q → c.device < devices q → Rest q p c.interval c.device → In (span_at most q p c.interval c.device) c.power → Mends most q p c
  unfolding mends span_at
  in-mends c l k r h =
      let g = span-in most c.power (bounds q p c.interval c.device) h in
      let w : Within q most c = record { interval = l; device = k; power = g.0 } in
      record {
        within = w;
        unbroken = unbroken q (replaced p c) (parts-clean q p c (has c w) r (keeps-moved q p c.interval c.device c.power g.1));
      }

  -- where a change of an interval and device mends, the one that is tried there does, and none there is ahead of it
  pub try-mends : (c : Change) → Mends most q p c → Mends most q p (attempt most q p c.interval c.device)
  unfolding attempt
  try-mends c m =
      let r = mends-in c m in
      in-mends _ m.within.interval m.within.device r.0 (clamped-in _ (setting q p c.interval c.device).online c.power r.1)

  pub try-first : (c : Change) → Mends most q p c → NotBehind (change q p) Earlier (attempt most q p c.interval c.device) c
  unfolding attempt change
  try-first c m = go (clamped-nearest (span_at most q p c.interval c.device) old c.power (mends-in c m).1)
    where
      old : ℕ
      old = (setting q p c.interval c.device).online

      new : ℕ
      new = clamped (span_at most q p c.interval c.device) old

      go : (new ≡ c.power) ⊎ (apart old new < apart old c.power) → NotBehind (change q p) Earlier (attempt most q p c.interval c.device) c
      go (inl e) = itself (ap (λ (v : ℕ). record { interval = c.interval; device = c.device; power = v }) e)
      go (inr h) = smaller h

  pub near : (b : Breach) → Where q p b → (c : Change) → Mends most q p c → (Near most q p s) b c
  near b (in_cell t i l k f e g) c m = go (ℕ_discrete i c.device) (ℕ_discrete t c.interval) (ℕ_discrete t (suc c.interval))
    where
      rest : Rest q p c.interval c.device
      rest = (mends-in c m).0

      go : Dec (i ≡ c.device) → Dec (t ≡ c.interval) → Dec (t ≡ suc c.interval) → (Near most q p s) b c
      go (no n) u v = absurd (f (rest.elsewhere t i l k (λ h. n h.1) (λ h. n h.1)))
      go (yes n) (yes u) v = record { t = t; placed = e; in_case = l; device = g ∙ ap suc n; interval = inl u }
      go (yes n) (no u) (yes v) = record { t = t; placed = e; in_case = l; device = g ∙ ap suc n; interval = inr v }
      go (yes n) (no u) (no v) = absurd (f (rest.elsewhere t i l k (λ h. u h.0) (λ h. v h.0)))
  near b (in-link t l f e g) c m = absurd (f ((mends-in c m).0.links t l))
  near b (in_window i w l k f e) c m = absurd (f ((mends-in c m).0.windows i w l k))

  -- ---- the tries
  At : ℕ → ℕ → Change → Type 0
  At t i c = (c.interval ≡ t) × (c.device ≡ i) × (c.power ≤ most)

  tried-small : (t i : ℕ) → T (ltb (span_at most q p t i).from (span_at most q p t i).until) → clamped (span_at most q p t i) (setting q p t i).online ≤ most
  unfolding span_at
  tried-small t i h =
      let k : In (span_at most q p t i) (span_at most q p t i).from = record { low = omega arith; high = ltb→lt _ _ h } in
      (span-in most _ (bounds q p t i) (clamped-in (span_at most q p t i) (setting q p t i).online _ k)).0

  attempts-at : (t i : ℕ) → All (At t i) (attempts most q p t i)
  unfolding attempts attempt At
  attempts-at t i = go (ltb (span_at most q p t i).from (span_at most q p t i).until) (tried-small t i)
    where
      go : (b : Bool) → (T b → clamped (span_at most q p t i) (setting q p t i).online ≤ most) → All (At t i) (pick b (attempt most q p t i ∷ []) [])
      go true h = ((refl, refl, h tt), tt)
      go false h = tt

  attempts-ordered : (t i : ℕ) → Ordered Earlier (attempts most q p t i)
  unfolding attempts
  attempts-ordered t i = go (ltb (span_at most q p t i).from (span_at most q p t i).until)
    where
      go : (b : Bool) → Ordered Earlier (pick b (attempt most q p t i ∷ []) [])
      go true = (tt, tt)
      go false = tt

  in-attempts : (t i v : ℕ) → In (span_at most q p t i) v → Memᴰ (attempt most q p t i) (attempts most q p t i)
  unfolding attempts
  in-attempts t i v h = go (ltb (span_at most q p t i).from (span_at most q p t i).until) (lt→ltb (span_at most q p t i).from (span_at most q p t i).until (omega (arith, h.low, h.high)))
    where
      go : (b : Bool) → T b → Memᴰ (attempt most q p t i) (pick b (attempt most q p t i ∷ []) [])
      go true k = Memᴰ.head refl
      go false k = absurd k

  -- the tries stand in order, and each is within the case
  tries-ordered : (m d : ℕ) → Ordered Earlier (tries_at most q p m d)
  unfolding tries_at At
  tries-ordered zero d = tt
  tries-ordered (suc t) zero = tt
  tries-ordered (suc t) (suc i) = ordered-gather Earlier (λ s. At s i) (λ s. attempts most q p s i)
      (λ j k a b l h g. inl (omega (arith, h.0, g.0)))
      (t - 1) (suc t - (t - 1)) (λ j a b. attempts-at j i) (λ j a b. attempts-ordered j i)

  at-within : (t i : ℕ) → t < intervals q → i < devices q → (c : Change) → At t i c → Within q most c
  unfolding At
  at-within t i l k c h = record { interval = omega (arith, h.0); device = omega (arith, h.1); power = h.2 }

  tries-here : (t i : ℕ) → t < intervals q → i < devices q → All (Within q most) (tries_at most q p (suc t) (suc i))
  unfolding tries_at
  tries-here t i l k = all-gather (Within q most) (λ s. attempts most q p s i) (range (t - 1) (suc t - (t - 1)))
      (all-range _ (t - 1) (suc t - (t - 1)) (λ j a b. all_map (at-within j i (omega arith) k) (attempts most q p j i) (attempts-at j i)))

  tries-link : (m : ℕ) → tries_at most q p m 0 ≡ []
  unfolding tries_at
  tries-link zero = refl
  tries-link (suc t) = refl

  tries-window : (d : ℕ) → tries_at most q p 0 d ≡ []
  unfolding tries_at
  tries-window d = refl

  tries-within : (b : Breach) → Where q p b → All (Within q most) (tries_at most q p b.interval b.device)
  tries-within b (in_cell t i l k f e g) = rw (e, g) (tries-here t i l k)
  tries-within b (in-link t l f e g) = rw (g, tries-link b.interval) tt
  tries-within b (in_window i w l k f e) = rw (e, tries-window b.device) tt

  -- each change that mends has one among the tries that is not behind it
  in-tries : (t i s : ℕ) → t - 1 ≤ s → s ≤ t → {c : Change} → Memᴰ c (attempts most q p s i) → Memᴰ c (tries_at most q p (suc t) (suc i))
  unfolding tries_at
  in-tries t i s l k m = in-gather (λ s. attempts most q p s i) (range (t - 1) (suc t - (t - 1))) {a = s} (in-range (t - 1) (suc t - (t - 1)) s l (omega arith)) m

  at_place : {m d t i : ℕ} {c : Change} → m ≡ suc t → d ≡ suc i → Memᴰ c (tries_at most q p (suc t) (suc i)) → Memᴰ c (tries_at most q p m d)
  at_place e g h = rw (e, g) h

  tried : (b : Breach) → Where q p b → (c : Change) → Mends most q p c → Memᴰ (attempt most q p c.interval c.device) (tries_at most q p b.interval b.device)
  tried b w c m =
      let n = near b w c m in
      at_place n.placed n.device (go n.t n.interval)
    where
      inside : Memᴰ (attempt most q p c.interval c.device) (attempts most q p c.interval c.device)
      inside = in-attempts c.interval c.device c.power (mends-in c m).1

      go : (t : ℕ) → (t ≡ c.interval) ⊎ (t ≡ suc c.interval) → Memᴰ (attempt most q p c.interval c.device) (tries_at most q p (suc t) (suc c.device))
      go t (inl e) = in-tries t c.device c.interval (omega arith) (omega arith) inside
      go t (inr e) = in-tries t c.device c.interval (omega arith) (omega arith) inside

  -- the answer from the first breach is the answer
  pub mended-is : (b : Breach) (bs : List Breach) → breaches q p ≡ b ∷ bs → mended_by most q p ≡ mended_from most q p b
  unfolding mended_by mended_from
  mended-is b bs e =
      let w = first-where q p b bs e in
      let ts = tries_at most q p b.interval b.device in
      same-nearest (change q p) turn (mending most q p) (those (mends q p) ts)
      (mending-ordered most q p)
      (those-ordered (mends q p) Earlier ts (tries-ordered b.interval b.device))
      (all_map (λ c h. in-mending most q p c (record { within = h.0; unbroken = h.1 })) (those (mends q p) ts) (those-keep (mends q p) (Within q most) ts (tries-within b w)))
      (all_map (λ c m. record {
        one = attempt most q p c.interval c.device;
        inside = in-those (mends q p) ts (tried b w c m) (try-mends c m).unbroken;
        not_behind = try-first c m;
      }) (mending most q p) (mending-all most q p))
