-- A plan that passes reading, its devices rearranged, has a message that passes reading with the rearranged case; so every pair has its rearranged pair, and A.9's writing writes it.
use Rattle.std.specs.Prelude.{◌≡◌, ℕ, zero, suc, ◌*◌, ◌≤◌, length, ℤ, pos}
use Rattle.std.proofs.Math.Path.{refl, sym, ap, subst}
use Rattle.std.proofs.Common.{◌∙◌, arith, mul-le-mul}
use mathlib.Core.List.{List, [], ◌∷◌, map}
use Rattle.std.proofs.Math.ListN.{length-map}
use Rattle.layouts.specs.Layout.{list, passes, bytes, read_whole}
use Rattle.layouts.specs.Sure.{Any}
use Rattle.model.specs.Case.{Plan, Setting, no_device, no_setting, no_flow}
use Rattle.model.specs.Forced.{intervals, devices}
use Rattle.model.specs.Editions.{newest, host, Largest, most_devices, most_intervals}
use Rattle.model.specs.Widths.{bounded}
use Rattle.model.specs.Messages as M
use Rattle.model.specs.ByEdition as B
use Rattle.model.specs.ByEdition.{Stated, stated_in, planned_in}
use Rattle.model.specs.Judgement.{read_plan}
use Rattle.writing.specs.Again.{Fit, Reads}
use Rattle.writing.proofs.Again.{more-reads, held_reads, pair_reads, only-reads, whole-reads, int-again, fit_then, fit-held, fit-more, fit_int, fit-whole}
use Rattle.writing.proofs.Cases.{any-again, since-again, pairs-apart}
use Rattle.writing.specs.Plans.{Held}
use Rattle.writing.proofs.Plans.{setting-again, planned-again, front-is, plan-fits}
use Rattle.writing.specs.Anew.{case_bytes, rows_bytes, plan_bytes}
use Rattle.writing.proofs.Same.{alike}
use Rattle.ranges.specs.Ranges.{stated-range}
use Rattle.renumbering.specs.Permute.{Renumbering}
use Rattle.renumbering.specs.Renumbered.{rearranged, rearranged_case, rearranged_plan}
use Rattle.renumbering.proofs.Renumbered.{rearranged-long}
use Rattle.renumbering.specs.Promise.{rearranged_stated}
use Rattle.renumbered_messages.specs.Promise.{Rearranged}
use Rattle.renumbered_messages.specs.Each.{Each}
use Rattle.renumbered_messages.proofs.Each.{list-reads, fit-each, each-rearranged, pairs-long}
use Rattle.renumbered_messages.specs.Cases.{rearranged_bytes}
use Rattle.renumbered_messages.proofs.Cases.{case-there}
use Rattle.renumbered_messages.specs.Plans.{RowHas, Rows, no_row, q, rearranged_plan_bytes}

same : (e : ℕ) → e ≤ e
same e = omega arith

module _ (S : Setting → Type 1) (e n : ℕ) (h : e ≤ n) (read : Reads (B.setting e) Any S) (devices intervals : ℕ) (few : devices ≤ most_devices) where
  row_reads : Reads (B.planned e devices) Any (RowHas S n devices)
  row_reads = more-reads _ _ _ _ _
      (pair_reads _ _ _ _ _ _ (list-reads no_setting read (setting-again e n h) devices)
      (since-again e n h 5 no_flow (fit_int 18 100000 (pos 0) (omega arith) (omega arith)) (any-again (int-again 18 100000 (omega arith)))))
      (λ v ok. tt) (λ v ok r. (ok.0, r.0, r.1))

  rows-read : Reads (M.apart (list intervals (B.planned e devices))) (λ v. (length v.0 ≡ intervals) × (length v.1 ≡ intervals))
      (λ v. Each (RowHas S n devices) no_row (M.pairs v.0 v.1))
  unfolding M.apart
  rows-read = held_reads _ _ (list intervals (B.planned e devices)) _ _ _ _ (list-reads no_row row_reads (planned-again e n h devices few) intervals)
      (λ xs l. (rw length-map l, rw length-map l)) (λ xs l. ap (list intervals (B.planned e devices)).write (pairs-apart xs)) (λ xs l r. rw (pairs-apart xs) r)

  pub plan-reads : Reads (B.plan_layout e devices intervals) Any (Rows S n devices intervals)
  unfolding B.plan_by
  plan-reads = held_reads _ _ _ _ Any _ _
      (pair_reads _ _ _ _ _ _ (only-reads 4 B.plan_kind _) (pair_reads _ _ _ _ _ _ (only-reads 4 e _)
      (pair_reads _ _ _ _ _ _ (only-reads _ devices _) (pair_reads _ _ _ _ _ _ (only-reads _ intervals _) rows-read))))
      (λ v ok. tt)
      (λ v ok. rw (front-is v ok.0 ok.1.0 ok.1.1.0 ok.1.1.1.0) refl)
      (λ v ok r. let b = ok.1.1.1.1 in record { long = b.0; step = b.1 ∙ sym b.0; each = r.1.1.1.1 })

-- ---- rearranged

-- settings that can be written
abbrev Fits : ℕ → Setting → Type 1
Fits e = Fit (B.setting e) 206

each_map : {A B : Type 0} (R : A → Type 1) (S : B → Type 1) (d : A) (b : B) (f : A → B) → ((a : A) → R a → S (f a)) → (xs : List A) → Each R d xs → Each S b (map f xs)
each_map R S d b f h [] r k l = absurd (omega arith)
each_map R S d b f h (x ∷ xs) r zero l = h x (r 0 (omega arith))
each_map R S d b f h (x ∷ xs) r (suc k) l = each_map R S d b f h xs (λ j m. r (suc j) (omega arith)) k (omega arith)

module _ {n : ℕ} (r : Renumbering n) where
  abbrev moved : List Setting × ℤ → List Setting × ℤ
  moved v = (rearranged r no_setting v.0, v.1)

  firsts-moved : (ss : List (List Setting)) (fs : List ℤ) → length fs ≡ length ss → map (λ v. v.0) (map moved (M.pairs ss fs)) ≡ map (rearranged r no_setting) ss
  unfolding M.pairs
  firsts-moved [] fs h = refl
  firsts-moved (s ∷ ss) [] h = absurd (omega arith)
  firsts-moved (s ∷ ss) (f ∷ fs) h = ap (λ (l : List (List Setting)). rearranged r no_setting s ∷ l) (firsts-moved ss fs (omega arith))

  seconds-moved : (ss : List (List Setting)) (fs : List ℤ) → length fs ≡ length ss → map (λ v. v.1) (map moved (M.pairs ss fs)) ≡ fs
  unfolding M.pairs
  seconds-moved [] [] h = refl
  seconds-moved [] (f ∷ fs) h = absurd (omega arith)
  seconds-moved (s ∷ ss) [] h = absurd (omega arith)
  seconds-moved (s ∷ ss) (f ∷ fs) h = ap (λ (l : List ℤ). f ∷ l) (seconds-moved ss fs (omega arith))

  row_fits : (e : ℕ) → n ≤ most_devices → (v : List Setting × ℤ) → RowHas (Fits e) e n v → Fit (B.planned e n) 13202 (moved v)
  row_fits e few v w = fit_then _ (fit-more (mul-le-mul few (same 206)) fits) w.2
    where
      row : List Setting
      row = rearranged r no_setting v.0

      fits : Fit (list n (B.setting e)) (n * 206) row
      fits = subst (λ (k : ℕ). Fit (list k (B.setting e)) (k * 206) row) (rearranged-long r no_setting v.0)
          (fit-each no_setting row (each-rearranged r no_setting (Fits e) v.0 w.0 w.1))

  rows_fit : (e intervals : ℕ) → n ≤ most_devices → intervals ≤ most_intervals → (p : Plan) → Rows (Fits e) e n intervals p
      → Fit (M.apart (list intervals (B.planned e n))) 1267392 ((rearranged_plan r p).settings, (rearranged_plan r p).flows)
  unfolding M.apart rearranged_plan
  rows_fit e intervals few short p k =
      subst (Fit (M.apart (list intervals (B.planned e n))) 1267392) (λ i. (firsts-moved p.settings p.flows k.step i, seconds-moved p.settings p.flows k.step i))
      (fit-held _ _ {a = zs} (ap (list intervals (B.planned e n)).write (pairs-apart zs)) (fit-more (mul-le-mul short (same 13202)) fits))
    where
      zs : List (List Setting × ℤ)
      zs = map moved (M.pairs p.settings p.flows)

      fits : Fit (list intervals (B.planned e n)) (intervals * 13202) zs
      fits = subst (λ (k : ℕ). Fit (list k (B.planned e n)) (k * 13202) zs) (length-map (M.pairs p.settings p.flows) moved ∙ pairs-long p.settings p.flows k.step ∙ k.long)
          (fit-each no_row zs (each_map (RowHas (Fits e) e n) (Fit (B.planned e n) 13202) no_row no_row moved (row_fits e few) (M.pairs p.settings p.flows) k.each))

-- ---- a pair
module _ (l : Largest) (most : l.devices ≤ most_devices) (long : l.intervals ≤ most_intervals)
    (cs : List ℕ) (x : Stated) (h : stated_in l cs ≡ passes x) (ps : List ℕ) (p : Plan) (k : read_plan x ps ≡ passes p)
    (n : ℕ) (later : x.edition ≤ n) (known : n ≤ newest) (r : Renumbering (devices x.case.system)) where
  few : devices (q l most long cs x h ps p k n later known r) ≤ most_devices
  few = omega (arith, (stated-range l most long cs x h).case.devices)

  short : intervals (q l most long cs x h ps p k n later known r) ≤ most_intervals
  short = omega (arith, (stated-range l most long cs x h).case.intervals)

  counts : Held n (devices (q l most long cs x h ps p k n later known r)) (intervals (q l most long cs x h ps p k n later known r))
  unfolding rearranged_case
  counts =
      let t = stated-range l most long _ _ (case-there l cs x h n later known r) in
      let b = bounded n in
      record {
        edition = omega arith;
        devices = omega (arith, rearranged-long r no_device (q l most long cs x h ps p k n later known r).devices, t.case.devices, b.devices);
        intervals = omega (arith, t.case.intervals, b.intervals);
      }

  plan-known : Rows (Fits n) n (devices (q l most long cs x h ps p k n later known r)) (intervals (q l most long cs x h ps p k n later known r)) p
  unfolding planned_in
  plan-known = whole-reads _ Any _ (plan-reads (Fits n) x.edition n later (setting-again x.edition n later) (devices (q l most long cs x h ps p k n later known r)) (intervals (q l most long cs x h ps p k n later known r)) few) ps p k

  plan-read : planned_in n (q l most long cs x h ps p k n later known r) (rearranged_plan_bytes l most long cs x h ps p k n later known r) ≡ passes (rearranged_plan r p)
  unfolding planned_in rearranged_plan_bytes
  plan-read = fit-whole _ 1267414 (rearranged_plan r p) (omega arith)
      (plan-fits n (devices (q l most long cs x h ps p k n later known r)) (intervals (q l most long cs x h ps p k n later known r)) counts (rearranged_plan r p) (rows_fit r n (intervals (q l most long cs x h ps p k n later known r)) few short p plan-known))

  plan-there : read_plan (rearranged_stated n r x.case) (rearranged_plan_bytes l most long cs x h ps p k n later known r) ≡ passes (rearranged_plan r p)
  unfolding planned_in rearranged_case
  plan-there =
      ap (λ (d : ℕ). read_whole (B.plan_layout n d (intervals (q l most long cs x h ps p k n later known r))) (rearranged_plan_bytes l most long cs x h ps p k n later known r)) (rearranged-long r no_device (q l most long cs x h ps p k n later known r).devices) ∙ plan-read

  -- every pair that passes reading has, for every renumbering and in every edition from its own on, a rearranged pair that passes reading
  pub pair-there : Rearranged l x p r n cs ps (rearranged_bytes l cs x h n later known r) (rearranged_plan_bytes l most long cs x h ps p k n later known r)
  pair-there = record { case = h; plan = k; case' = case-there l cs x h n later known r; plan' = plan-there }

-- and in the newest edition it is what A.9 writes of the rearranged figures
module _ (l : Largest) (most : l.devices ≤ most_devices) (long : l.intervals ≤ most_intervals)
    (cs : List ℕ) (x : Stated) (h : stated_in l cs ≡ passes x) (ps : List ℕ) (p : Plan) (k : read_plan x ps ≡ passes p) (r : Renumbering (devices x.case.system)) where
  pub newest-there : Rearranged l x p r newest cs ps (case_bytes (rearranged_case r x.case)) (plan_bytes (rearranged_case r x.case).system (rearranged_plan r p))
  unfolding case_bytes rows_bytes rearranged_case rearranged_bytes rearranged_plan_bytes
  newest-there =
      let late : x.edition ≤ newest = (stated-range l most long cs x h).edition.1 in
      let t = pair-there l most long cs x h ps p k newest late (omega arith) r in
      record {
        case = h;
        plan = k;
        case' = ap (λ (w : List ℕ). stated_in l (bytes w)) (alike host l (rearranged_stated newest r x.case)) ∙ t.case';
        plan' = ap (λ (d : ℕ). read_plan (rearranged_stated newest r x.case) (bytes ((B.plan_layout newest d (intervals x.case.system)).write (rearranged_plan r p))))
            (rearranged-long r no_device x.case.system.devices) ∙ t.plan';
      }
