-- A plan that passes reading, one online power replaced by another from 0 to 100,000, has a message of its edition that passes reading.
use Rattle.std.specs.Prelude.{◌≡◌, refl, ℕ, ◌*◌, ◌≤◌, ◌<◌, get_or, set, ℤ, pos}
use Rattle.std.proofs.Common.{sym, ◌∙◌, ap, arith, mul-le-mul, get_or-set_same, get_or-set_other}
use Rattle.std.proofs.Math.Path.{subst}
use mathlib.Core.List.{List, [], ◌∷◌, map}
use Rattle.std.proofs.Math.Decide.{ℕ_discrete}
use Rattle.std.proofs.Math.ListN.{length, length-set}
use Rattle.numbers.specs.Sum.{All}
use Rattle.layouts.specs.Layout.{list, passes, bytes}
use Rattle.layouts.specs.Since.{since}
use Rattle.layouts.specs.Sure.{Any}
use Rattle.model.specs.Case.{System, Plan, Setting, no_setting, no_reactive, no_flow}
use Rattle.model.specs.Forced.{intervals, devices}
use Rattle.model.specs.Editions.{Largest, most_devices, most_intervals}
use Rattle.model.specs.Messages as M
use Rattle.model.specs.ByEdition as B
use Rattle.model.specs.ByEdition.{Stated, stated_in, planned_in}
use Rattle.model.specs.Judgement.{read_plan}
use Rattle.ranges.specs.Ranges.{stated-range}
use Rattle.theorems.proofs.Promise.{stated-sound}
use Rattle.writing.specs.Again.{Fit, Reads}
use Rattle.writing.proofs.Again.{held_reads, pair_reads, whole-reads, fit_then, fit-held, fit-more, fit-nat, fit_int, fit-whole, own-bytes}
use Rattle.writing.proofs.Cases.{figure-again, eight-again, kw_field-again, since-again}
use Rattle.writing.specs.Plans.{Held}
use Rattle.writing.proofs.Plans.{reactive-again, plan-fits}
use Rattle.renumbered_messages.specs.Each.{Each}
use Rattle.renumbered_messages.proofs.Each.{fit-each, pairs-long, pairs_first, pairs-second}
use Rattle.renumbered_messages.specs.Plans.{RowHas, no_row, Rows}
use Rattle.renumbered_messages.proofs.Plans.{plan-reads}
use Rattle.mending.specs.Mending.{Change, most_online, with_online, replaced}
use Rattle.mended_messages.specs.Fits.{replaced_bytes}

same : (e : ℕ) → e ≤ e
same e = omega arith

-- ---- a setting

-- it can be written, and so it can with any other online power
abbrev Changeable : ℕ → Setting → Type 1
Changeable e s = Fit (B.setting e) 206 s × ((v : ℕ) → v ≤ most_online → Fit (B.setting e) 206 (with_online s v))

no-reactive-fits : Fit B.reactive 52 no_reactive
unfolding B.reactive
no-reactive-fits =
    let z = fit-nat (record { width = 17; low = 0; high = 100000; wrong = _ }) 0 (omega arith) (omega arith) (omega arith) in
    fit-held _ _ refl (fit_then _ (fit_int 18 100000 (pos 0) (omega arith) (omega arith)) (fit_then _ z z))

setting-reads : (e : ℕ) → Reads (B.setting e) Any (Changeable e)
unfolding M.active B.setting most_online
setting-reads e = held_reads _ _ _ _ Any _ (Changeable e)
    (pair_reads _ _ _ _ _ _ (pair_reads _ _ _ _ _ _ (figure-again 1 0 1 (omega arith)) (pair_reads _ _ _ _ _ _ kw_field-again (eight-again _ 17 kw_field-again)))
    (since-again e e (same e) 2 no_reactive no-reactive-fits reactive-again))
    (λ v ok. tt)
    (λ v ok. refl)
    (λ v ok r. (
      fit-held _ _ {a = v} refl (fit_then _ (fit_then _ r.0.0 (fit_then _ r.0.1.0 r.0.1.1)) r.1),
      λ w h. fit-held _ _ {a = ((v.0.0, (w, v.0.1.1)), v.1)} refl
          (fit_then _ (fit_then _ r.0.0 (fit_then _ (fit-nat (record { width = 17; low = 0; high = 100000; wrong = _ }) w (omega arith) (omega arith) h) r.0.1.1)) r.1),
    ))

-- ---- an interval
each_set : {A : Type 0} (R S : A → Type 1) (d : A) (xs : List A) (k : ℕ) (y : A) → ((j : ℕ) → j < length xs → S (get_or xs j d)) → (k < length xs → S y) → Each S d (set xs k y)
each_set R S d xs k y w z j l = go (ℕ_discrete j k)
  where
    inside : j < length xs
    inside = omega (arith, l, length-set xs k y)

    go : Dec (j ≡ k) → S (get_or (set xs k y) j d)
    go (yes e) = let m : k < length xs = omega (arith, e, inside) in subst S (sym (ap (λ (n : ℕ). get_or (set xs k y) n d) e ∙ get_or-set_same xs k y d m)) (z m)
    go (no e) = subst S (sym (get_or-set_other xs k j y d e)) (w j inside)

module _ (e n : ℕ) (few : n ≤ most_devices) where
  abbrev Fits : Setting → Type 1
  Fits = Fit (B.setting e) 206

  -- settings that can be written and a flow that can
  row_fits : (ss : List Setting) (f : ℤ) → length ss ≡ n → Each Fits no_setting ss → Fit (since e 5 no_flow B.flow) 18 f → Fit (B.planned e n) 13202 (ss, f)
  row_fits ss f long w z =
      fit_then _ (fit-more (mul-le-mul few (same 206)) (subst (λ (k : ℕ). Fit (list k (B.setting e)) (k * 206) ss) long (fit-each no_setting ss w))) z

  row_kept : (ss : List Setting) (f : ℤ) → RowHas (Changeable e) e n (ss, f) → Fit (B.planned e n) 13202 (ss, f)
  row_kept ss f w = row_fits ss f w.0 (λ j l. (w.1 j l).0) w.2

  row-changed : (ss : List Setting) (f : ℤ) (i v : ℕ) → v ≤ most_online → RowHas (Changeable e) e n (ss, f)
      → Fit (B.planned e n) 13202 (set ss i (with_online (get_or ss i no_setting) v), f)
  row-changed ss f i v h w = row_fits (set ss i (with_online (get_or ss i no_setting) v)) f (length-set ss i (with_online (get_or ss i no_setting) v) ∙ w.0)
      (each_set (Changeable e) Fits no_setting ss i (with_online (get_or ss i no_setting) v) (λ j l. (w.1 j l).0) (λ l. (w.1 i l).1 v h)) w.2

-- ---- a plan
firsts-back : {A B : Type 0} (xs : List A) (ys : List B) → length ys ≡ length xs → map (λ v. v.0) (M.pairs xs ys) ≡ xs
unfolding M.pairs
firsts-back [] ys e = refl
firsts-back (x ∷ xs) [] e = absurd (omega arith)
firsts-back {A} (x ∷ xs) (y ∷ ys) e = ap (λ (l : List A). x ∷ l) (firsts-back xs ys (omega arith))

seconds-back : {A B : Type 0} (xs : List A) (ys : List B) → length ys ≡ length xs → map (λ v. v.1) (M.pairs xs ys) ≡ ys
unfolding M.pairs
seconds-back [] [] e = refl
seconds-back [] (y ∷ ys) e = absurd (omega arith)
seconds-back (x ∷ xs) [] e = absurd (omega arith)
seconds-back {A} {B} (x ∷ xs) (y ∷ ys) e = ap (λ (l : List B). y ∷ l) (seconds-back xs ys (omega arith))

module _ (e n m : ℕ) (few : n ≤ most_devices) (short : m ≤ most_intervals) (p : Plan) (k : Rows (Changeable e) e n m p) (c : Change) (h : c.power ≤ most_online) where
  abbrev ss : List (List Setting)
  ss = p.settings

  abbrev fs : List ℤ
  fs = p.flows

  abbrev row : List Setting
  row = get_or ss c.interval []

  abbrev changed : List Setting
  changed = set row c.device (with_online (get_or row c.device no_setting) c.power)

  abbrev after : List (List Setting)
  after = set ss c.interval changed

  at_row : (t : ℕ) → t < length ss → RowHas (Changeable e) e n (get_or ss t [], get_or fs t no_flow)
  at_row t l = subst (RowHas (Changeable e) e n) (λ i. (pairs_first [] no_flow ss fs k.step t i, pairs-second [] no_flow ss fs k.step t i))
      (k.each t (omega (arith, pairs-long ss fs k.step)))

  step : length fs ≡ length after
  step = k.step ∙ sym (length-set ss c.interval changed)

  row-after : (t : ℕ) → t < length ss → Fit (B.planned e n) 13202 (get_or after t [], get_or fs t no_flow)
  row-after t l = go (ℕ_discrete t c.interval)
    where
      go : Dec (t ≡ c.interval) → Fit (B.planned e n) 13202 (get_or after t [], get_or fs t no_flow)
      go (yes d) = rw d (subst (λ (r : List Setting). Fit (B.planned e n) 13202 (r, get_or fs c.interval no_flow))
          (sym (get_or-set_same ss c.interval changed [] (omega (arith, d, l))))
          (row-changed e n few row (get_or fs c.interval no_flow) c.device c.power h (at_row c.interval (omega (arith, d, l)))))
      go (no d) = subst (λ (r : List Setting). Fit (B.planned e n) 13202 (r, get_or fs t no_flow)) (sym (get_or-set_other ss c.interval t changed [] d))
          (row_kept e n few (get_or ss t []) (get_or fs t no_flow) (at_row t l))

  zs : List (List Setting × ℤ)
  zs = M.pairs after fs

  each_after : Each (Fit (B.planned e n) 13202) no_row zs
  unfolding zs
  each_after t l = subst (Fit (B.planned e n) 13202) (sym (λ i. (pairs_first [] no_flow after fs step t i, pairs-second [] no_flow after fs step t i)))
      (row-after t (omega (arith, l, pairs-long after fs step, length-set ss c.interval changed)))

  pub replaced-fits : Fit (M.apart (list m (B.planned e n))) 1267392 ((replaced p c).settings, (replaced p c).flows)
  unfolding M.apart replaced zs
  replaced-fits =
      subst (Fit (M.apart (list m (B.planned e n))) 1267392) (λ i. (firsts-back after fs step i, seconds-back after fs step i))
      (fit-held _ _ {a = zs} (λ i. (list m (B.planned e n)).write (M.pairs (firsts-back after fs step i) (seconds-back after fs step i)))
      (fit-more (mul-le-mul short (same 13202)) fits))
    where
      long : length zs ≡ m
      long = pairs-long after fs step ∙ length-set ss c.interval changed ∙ k.long

      fits : Fit (list m (B.planned e n)) (m * 13202) zs
      fits = subst (λ (j : ℕ). Fit (list j (B.planned e n)) (j * 13202) zs) long (fit-each no_row zs each_after)

module _ (l : Largest) (most : l.devices ≤ most_devices) (long : l.intervals ≤ most_intervals)
    (cs : List ℕ) (x : Stated) (h : stated_in l cs ≡ passes x) (ps : List ℕ) (p : Plan) (k : read_plan x ps ≡ passes p) where
  abbrev q : System
  q = x.case.system

  few : devices q ≤ most_devices
  few = omega (arith, (stated-range l most long cs x h).case.devices)

  short : intervals q ≤ most_intervals
  short = omega (arith, (stated-range l most long cs x h).case.intervals)

  counts : Held x.edition (devices q) (intervals q)
  counts = let c = (stated-sound l most long cs x h).countable in record { edition = c.edition; devices = c.devices; intervals = c.intervals }

  plan-known : Rows (Changeable x.edition) x.edition (devices q) (intervals q) p
  unfolding planned_in
  plan-known = whole-reads _ Any _
      (plan-reads (Changeable x.edition) x.edition x.edition (same x.edition) (setting-reads x.edition) (devices q) (intervals q) few) ps p k

  -- it passes reading
  pub replaced-read : (c : Change) → c.power ≤ most_online → read_plan x (replaced_bytes x p c) ≡ passes (replaced p c)
  unfolding planned_in replaced_bytes
  replaced-read c v = fit-whole _ 1267414 (replaced p c) (omega arith)
      (plan-fits x.edition (devices q) (intervals q) counts (replaced p c) (replaced-fits x.edition (devices q) (intervals q) few short p plan-known c v))

  -- the plan's own message is what the layout writes of it,
  pub plan-own : All (λ b. b < 256) ps → bytes ((B.plan_layout x.edition (devices q) (intervals q)).write p) ≡ ps
  unfolding planned_in
  plan-own small = own-bytes _ Any _
      (plan-reads (Changeable x.edition) x.edition x.edition (same x.edition) (setting-reads x.edition) (devices q) (intervals q) few) ps small p k

  -- with a flow for each interval
  pub flows-step : length p.flows ≡ length p.settings
  flows-step = plan-known.step
