-- A plan and the plan with one online power replaced: as bits of their messages they differ in that field alone.
use Rattle.std.specs.Prelude.{◌≡◌, refl, List, [], ◌∷◌, ◌++◌, ℕ, zero, suc, ◌+◌, ◌*◌, ◌<◌, length, get_or, set, ℤ, Bool, true, false}
use Rattle.std.proofs.Common.{sym, ◌∙◌, ap, subst, append_assoc, arith, length-append}
use Rattle.numbers.specs.Base.{gather}
use Rattle.numbers.specs.Gather.{gather-wide}
use Rattle.numbers.specs.Sum.{all, gate}
use Rattle.layouts.specs.Layout.{Layout, bits_of, nat, int, list, ◌then◌, held}
use Rattle.layouts.specs.Since.{has, nothing, present, since}
use Rattle.layouts.specs.Trip.{length-bits}
use Rattle.model.specs.Case.{Plan, Setting, Reserves, Reactive, no_setting, no_reactive, no_flow}
use Rattle.model.specs.Editions.{widths_of}
use Rattle.model.specs.Messages as M
use Rattle.model.specs.ByEdition as B
use Rattle.renumbered_messages.proofs.Each.{pairs-long, pairs_first, pairs-second}
use Rattle.renumbered_messages.specs.Plans.{no_row}
use Rattle.mending.specs.Mending.{Change, with_online, replaced}
use Rattle.mended_messages.specs.OneField.{OneField, online_place, row_width, setting_width}

append-twice : (ws xs ys zs : List ℕ) → (ws ++ (xs ++ ys)) ++ zs ≡ ws ++ (xs ++ (ys ++ zs))
append-twice ws xs ys zs = append_assoc ws (xs ++ ys) zs ∙ ap (λ (l : List ℕ). ws ++ l) (append_assoc xs ys zs)

module _ {at old new : ℕ} where
  field-ahead : (ws : List ℕ) {w : ℕ} → length ws ≡ w → {xs ys : List ℕ} → OneField at old new xs ys → OneField (w + at) old new (ws ++ xs) (ws ++ ys)
  field-ahead ws e o = record {
    ahead = ws ++ o.ahead;
    behind = o.behind;
    place = omega (arith, length-append ws o.ahead, e, o.place);
    was = ap (λ (l : List ℕ). ws ++ l) o.was ∙ sym (append_assoc ws o.ahead (bits_of 17 old ++ o.behind));
    is = ap (λ (l : List ℕ). ws ++ l) o.is ∙ sym (append_assoc ws o.ahead (bits_of 17 new ++ o.behind));
  }

  field-behind : (zs : List ℕ) {xs ys : List ℕ} → OneField at old new xs ys → OneField at old new (xs ++ zs) (ys ++ zs)
  field-behind zs o = record {
    ahead = o.ahead;
    behind = o.behind ++ zs;
    place = o.place;
    was = ap (λ (l : List ℕ). l ++ zs) o.was ∙ append-twice o.ahead (bits_of 17 old) o.behind zs;
    is = ap (λ (l : List ℕ). l ++ zs) o.is ∙ append-twice o.ahead (bits_of 17 new) o.behind zs;
  }

-- one of a list, those ahead of it of one width
field-list : {at old new : ℕ} {A : Type 0} (d : A) (f : A → List ℕ) (w : ℕ) (xs : List A) (k : ℕ) (y : A) → k < length xs
    → ((j : ℕ) → j < k → length (f (get_or xs j d)) ≡ w) → OneField at old new (f (get_or xs k d)) (f y) → OneField (k * w + at) old new (gather f xs) (gather f (set xs k y))
unfolding gather
field-list d f w [] k y l h o = absurd (omega arith)
field-list {at} {old} {new} d f w (x ∷ xs) zero y l h o =
    let e : at ≡ 0 * w + at = omega arith in
    subst (λ (n : ℕ). OneField n old new (f x ++ gather f xs) (f y ++ gather f xs)) e (field-behind (gather f xs) o)
field-list {at} {old} {new} d f w (x ∷ xs) (suc k) y l h o =
    let e : w + (k * w + at) ≡ suc k * w + at = omega arith in
    subst (λ (n : ℕ). OneField n old new (f x ++ gather f xs) (f x ++ gather f (set xs k y))) e
    (field-ahead (f x) (h 0 (omega arith)) (field-list d f w xs k y (omega arith) (λ j m. h (suc j) (omega arith)) o))

present-wide : {A : Type 0} (b : Bool) (neutral : A) (l : Layout A) (w : ℕ) (x : A) → length (l.write x) ≡ w → length ((present b neutral l).write x) ≡ gate b w
unfolding present nothing
present-wide true neutral l w x h = h
present-wide false neutral l w x h = refl

active-wide : (v : ℕ × (ℕ × Reserves)) → length ((M.active).write v) ≡ 154
unfolding M.active M.eight held ◌then◌ nat
active-wide v = simp (length-append, length-bits)

reactive-wide : (r : Reactive) → length ((B.reactive).write r) ≡ 52
unfolding B.reactive held ◌then◌ nat int
reactive-wide r = simp (length-append, length-bits)

setting-wide : (e : ℕ) (s : Setting) → length ((B.setting e).write s) ≡ setting_width e
unfolding B.setting held ◌then◌
setting-wide e s = length-append ((M.active).write (s.on, (s.online, s.reserves))) _
    ∙ omega (arith, active-wide (s.on, (s.online, s.reserves)), present-wide (has 2 e) no_reactive B.reactive 52 s.reactive (reactive-wide s.reactive))

flow-wide : (z : ℤ) → length ((B.flow).write z) ≡ 18
unfolding int
flow-wide z = length-bits 18 _

row-wide : (e n : ℕ) (ss : List Setting) (z : ℤ) → length ss ≡ n → length ((B.planned e n).write (ss, z)) ≡ row_width e n
unfolding ◌then◌ list
row-wide e n ss z h = length-append (gather (B.setting e).write ss) _
    ∙ omega (
      arith,
      gather-wide (B.setting e).write (setting_width e) ss (all (setting-wide e) ss) ∙ ap (λ (k : ℕ). k * setting_width e) h,
      present-wide (has 5 e) no_flow B.flow 18 z (flow-wide z),
    )

-- ---- a setting, an interval, a plan
setting-field : (e : ℕ) (s : Setting) (v : ℕ) → OneField 1 s.online v ((B.setting e).write s) ((B.setting e).write (with_online s v))
unfolding B.setting M.active held ◌then◌ nat
setting-field e s v = field-behind ((since e 2 no_reactive B.reactive).write s.reactive) (field-ahead (bits_of 1 s.on) (length-bits 1 s.on)
    (record { ahead = []; place = refl; behind = (M.eight M.kw_field).write s.reserves; was = refl; is = refl }))

pairs_set : {A B : Type 0} (b : B) (xs : List A) (ys : List B) → length ys ≡ length xs → (k : ℕ) (x : A) → M.pairs (set xs k x) ys ≡ set (M.pairs xs ys) k (x, get_or ys k b)
unfolding M.pairs
pairs_set b [] ys e k x = refl
pairs_set b (a ∷ xs) [] e k x = absurd (omega arith)
pairs_set b (a ∷ xs) (y ∷ ys) e zero x = refl
pairs_set {A} {B} b (a ∷ xs) (y ∷ ys) e (suc k) x = ap (λ (l : List (A × B)). (a, y) ∷ l) (pairs_set b xs ys (omega arith) k x)

module _ (e n m : ℕ) (p : Plan) (step : length p.flows ≡ length p.settings) (c : Change) (l : c.interval < length p.settings)
    (full : (t : ℕ) → t < length p.settings → length (get_or p.settings t []) ≡ n) (j : c.device < n) where
  abbrev row : List Setting
  row = get_or p.settings c.interval []

  abbrev old : Setting
  old = get_or row c.device no_setting

  abbrev changed : List Setting
  changed = set row c.device (with_online old c.power)

  abbrev flow : ℤ
  flow = get_or p.flows c.interval no_flow

  row_field : OneField (c.device * setting_width e + 1) old.online c.power ((B.planned e n).write (row, flow)) ((B.planned e n).write (changed, flow))
  unfolding ◌then◌ list
  row_field = field-behind ((since e 5 no_flow B.flow).write flow) (field-list no_setting (B.setting e).write (setting_width e) row c.device
      (with_online old c.power) (omega (arith, full c.interval l)) (λ k m. setting-wide e (get_or row k no_setting)) (setting-field e old c.power))

  at_row : (t : ℕ) → get_or (M.pairs p.settings p.flows) t no_row ≡ (get_or p.settings t [], get_or p.flows t no_flow)
  at_row t i = (pairs_first [] no_flow p.settings p.flows step t i, pairs-second [] no_flow p.settings p.flows step t i)

  ahead-wide : (t : ℕ) → t < c.interval → length ((B.planned e n).write (get_or (M.pairs p.settings p.flows) t no_row)) ≡ row_width e n
  ahead-wide t m = ap (λ (r : List Setting × ℤ). length ((B.planned e n).write r)) (at_row t)
      ∙ row-wide e n (get_or p.settings t []) (get_or p.flows t no_flow) (full t (omega (arith, l, m)))

  abbrev rows_place : ℕ
  rows_place = c.interval * row_width e n + (c.device * setting_width e + 1)

  abbrev rows_of : List (List Setting × ℤ) → List ℕ
  rows_of zs = gather (B.planned e n).write zs

  rows-field : OneField rows_place old.online c.power (rows_of (M.pairs p.settings p.flows)) (rows_of (M.pairs (set p.settings c.interval changed) p.flows))
  rows-field = subst (λ (zs : List (List Setting × ℤ)). OneField rows_place old.online c.power (rows_of (M.pairs p.settings p.flows)) (rows_of zs))
      (sym (pairs_set no_flow p.settings p.flows step c.interval changed))
      (field-list no_row (B.planned e n).write (row_width e n) (M.pairs p.settings p.flows) c.interval (changed, flow)
      (omega (arith, l, pairs-long p.settings p.flows step)) ahead-wide
      (subst (λ (r : List Setting × ℤ). OneField (c.device * setting_width e + 1) old.online c.power ((B.planned e n).write r) ((B.planned e n).write (changed, flow)))
      (sym (at_row c.interval)) row_field))

  pub plan-field : OneField (online_place e n c.interval c.device) old.online c.power ((B.plan_layout e n m).write p) ((B.plan_layout e n m).write (replaced p c))
  unfolding B.plan_by M.apart replaced held ◌then◌ nat list
  plan-field = field-ahead (bits_of 4 B.plan_kind) (length-bits 4 B.plan_kind) (field-ahead (bits_of 4 e) (length-bits 4 e)
      (field-ahead (bits_of (widths_of e).device_bits n) (length-bits (widths_of e).device_bits n)
      (field-ahead (bits_of (widths_of e).interval_bits m) (length-bits (widths_of e).interval_bits m) rows-field)))
