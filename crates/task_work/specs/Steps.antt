-- Each task's answer, from what the function that does it gives back.
use Rattle.std.specs.Prelude.{◌≡◌, Bool, true, false, List, ℕ, ◌≤◌, length, replicate}
use Rattle.std.proofs.Math.Path.{refl}
use Rattle.std.proofs.Common.{sym, ap, ◌∙◌, arith}
use Rattle.std.proofs.lemmas.List.{length-replicate}
use Rattle.bits.specs.Bits.{reach}
use Rattle.layouts.specs.Layout.{Whole, passes, read_whole}
use Rattle.model.specs.Case.{System}
use Rattle.model.specs.declared.Verdict.{Verdict}
use Rattle.model.specs.declared.Listing.{Listing}
use Rattle.model.specs.declared.Inspected.TheVariants as I
use Rattle.model.specs.Editions.{Largest, most_devices, most_intervals}
use Rattle.model.specs.ByEdition.{Stated, stated_in, planned_in, plan_layout}
use Rattle.model.specs.Judgement.{read_plan}
use Rattle.ranges.specs.Ranges.{stated-range}
use Rattle.row_places.specs.declared.Front.{Front}
use Rattle.records.specs.Views.{system_in}
use Rattle.records.specs.Viewed.{devices-are, intervals-are, zones-are}
use Rattle.decoded_cases.specs.Decoded.{Decoded, stated_rows}
use Rattle.plan_judgement.specs.JudgesPlan.{JudgesPlan}
use Rattle.breach_lists.specs.Plans.{ListsPlan}
use Rattle.case_copier.specs.Whole.{some_byte}
use Rattle.writing.specs.declared.Writing.{Writing}
use Rattle.writing.specs.Anew.{Writings, put_rows, put_plan}
use Rattle.rewrites.specs.Steps.{RenewsCase, renewed, RewritesRows}
use Rattle.market.specs.declared.Copying.{Copying}
use Rattle.market_copies.specs.Steps.{most_bytes, CopiesPlan}
use Rattle.completions.specs.Windows.{FewWindows, CountedTo, windows-whole}
use Rattle.completion_reading.specs.declared.Reading.{Reading}
use Rattle.completion_reading.specs.Figures.{figures_in, Few, Readings, tabled}
use Rattle.completion_reader.specs.Whole.{figures_by}
use Rattle.reader_unit.specs.Few.{by-counts, few-read}
use Rattle.mending.specs.declared.Mending.{Mending}
use Rattle.mended_plans.specs.Steps.{MendsPlan}
use Rattle.stacks.specs.declared.Stacking.{Stacking}
use Rattle.stacks.specs.Stack.{Stackings}
use Rattle.stacks.specs.Judges.{JudgesBatch}
use Rattle.tellings.specs.declared.Told.{Told}
use Rattle.tellings.specs.Told.{told_of, told_case, told_list, told_writing, told_copy, told_reading, told_mending}
use Rattle.stack_tellings.specs.Told.{told_stack}
use Rattle.tasks.specs.declared.Task.{Task}
use Rattle.tasks.specs.declared.Task.TheVariants as T
use Rattle.tasks.specs.Served.{Served, served}

-- bytes that a reader, which takes no more than the most, passed with this content
pub record ReadAs (cs : List ℕ) (x : Stated) : Type 0 where
  pub largest : Largest
  pub most : largest.devices ≤ most_devices
  pub long : largest.intervals ≤ most_intervals
  pub is : stated_in largest cs ≡ passes x

-- a completion read back by the desk's reader, or a copy by the market's
abbrev pub reading : Bool → Task
reading true = T.ReadCompletion
reading false = T.ReadMarket

-- a plan mended, or its completion copied for the market
abbrev pub completing : Bool → Task
completing true = T.Mend
completing false = T.Copy

-- a message read back by one of them, with any result buffer
abbrev pub ReadsBack : Stated → Bool → (ms table rows : List ℕ) → Told → Type 0
ReadsBack x desk ms table rows t = (before : List ℕ) → record { told = t; result = before; rows = rows } ≡ served (reading desk) ms before table (passes x)

-- one of them done, with any table
abbrev pub Completes : Stated → Bool → (ms before after : List ℕ) → Told → Type 0
Completes x mending ms before after t = (table : List ℕ) → record { told = t; result = after; rows = table } ≡ served (completing mending) ms before table (passes x)

-- room for any completion
pub whole_long : (b : ℕ) → most_bytes ≤ length (replicate most_bytes b)
whole_long b = omega (arith, length-replicate most_bytes b)

same-served : {t : Told} {after rows : List ℕ} {s : Served} → t ≡ s.told → after ≡ s.result → rows ≡ s.rows → record { told = t; result = after; rows = rows } ≡ s
same-served e f g = rw (e, f, g) refl

module _ (front : Front) (halves : List ℕ) (zones minima devices cells : List (List ℕ)) where
  abbrev x : Stated
  x = stated_rows front halves zones minima devices cells

  abbrev q : System
  q = system_in halves zones minima devices cells

  -- a task that is known is served so
  pub known : (ms before table : List ℕ) {task k : Task} {s : Served} → task ≡ k → s ≡ served k ms before table (passes x) → s ≡ served task ms before table (passes x)
  known ms before table e h = h ∙ sym (ap (λ (k : Task). served k ms before table (passes x)) e)

  pub inspect-served : {task : Task} (ms before table : List ℕ) {t : Told} → task ≡ T.Inspect → t ≡ told_case (I.Counts (length devices) (length halves) (length zones))
      → record { told = t; result = before; rows = table } ≡ served task ms before table (passes x)
  inspect-served ms before table e h = known ms before table e (same-served (h ∙ ap told_case (counts_same (devices-are _ _ _ _ _) (intervals-are _ _ _ _ _) (zones-are _ _ _ _ _))) refl refl)
    where
      counts_same : {a b c a' b' c' : ℕ} → a ≡ a' → b ≡ b' → c ≡ c' → I.Counts a' b' c' ≡ I.Counts a b c
      counts_same x y z = rw (x, y, z) refl

  pub judge-served : {task : Task} (ms : List ℕ) {before after : List ℕ} (table : List ℕ) {v : Verdict} {t : Told} → task ≡ T.Judge
      → JudgesPlan front halves zones minima devices cells ms before after v → t ≡ told_of v → record { told = t; result = after; rows = table } ≡ served task ms before table (passes x)
  judge-served ms {before} table e j h = known ms before table e (same-served (h ∙ ap told_of j.verdict) j.result refl)

  pub breaches-served : {task : Task} (ms : List ℕ) {before after : List ℕ} (table : List ℕ) {r : Listing} {t : Told} → task ≡ T.Breaches
      → ListsPlan front halves zones minima devices cells ms before after r → t ≡ told_list r → record { told = t; result = after; rows = table } ≡ served task ms before table (passes x)
  breaches-served ms {before} table e j h = known ms before table e (same-served (h ∙ ap told_list j.answer) j.list refl)

  -- a case that passes reading has a first byte
  pub some-case : {cs : List ℕ} → ReadAs cs x → 1 ≤ reach cs
  some-case {cs} r = some_byte r.largest cs x r.is

  pub case-served : {task : Task} {cs : List ℕ} (ms : List ℕ) {before after : List ℕ} (table : List ℕ) {r : Writing} {t : Told} → task ≡ T.WriteCase → ReadAs cs x
      → RenewsCase front.edition cs before after r → t ≡ told_writing r → record { told = t; result = after; rows = table } ≡ served task ms before table (passes x)
  case-served {cs = cs} ms {before} table e k j h = let g = renewed k.largest cs x k.is j in known ms before table e (same-served (h ∙ ap told_writing g.0) g.1 refl)

  -- a plan's rows, by the case's counts
  rows_same : (ms before : List ℕ)
      → put_rows (length devices) (length halves) before (read_whole (plan_layout front.edition (length devices) (length halves)) ms) ≡ put_plan x before (read_plan x ms)
  unfolding planned_in
  rows_same ms before = by_rows (sym (devices-are halves zones minima devices cells)) (sym (intervals-are halves zones minima devices cells))
    where
      by_rows : {i j d m : ℕ} → i ≡ d → j ≡ m
          → put_rows i j before (read_whole (plan_layout front.edition i j) ms) ≡ put_rows d m before (read_whole (plan_layout front.edition d m) ms)
      by_rows a b = rw (a, b) refl

  pub plan-served : {task : Task} {cs : List ℕ} (ms : List ℕ) {before after : List ℕ} (table : List ℕ) {r : Writing} {t : Told} → task ≡ T.WritePlan → ReadAs cs x
      → RewritesRows front.edition (length devices) (length halves) ms before after r → t ≡ told_writing r
      → record { told = t; result = after; rows = table } ≡ served task ms before table (passes x)
  plan-served {cs = cs} ms {before} table e k j h =
      let old = (stated-range k.largest k.most k.long cs x k.is).edition.1 in
      let same = rows_same ms before in
      known ms before table e (same-served (h ∙ ap told_writing (j.answer old ∙ ap (λ (w : Writings). w.answer) same)) (j.result old ∙ ap (λ (w : Writings). w.result) same) refl)

  pub mend-completes : {mending : Bool} (ms before : List ℕ) {r : Mending} {t : Told} → mending ≡ true → MendsPlan front halves zones minima devices cells ms r → t ≡ told_mending r
      → Completes x mending ms before before t
  mend-completes ms before e j h table = rw e (same-served (h ∙ ap told_mending j.answer) refl refl)

  pub copy-completes : {mending : Bool} (ms : List ℕ) {before after : List ℕ} {r : Copying} {t : Told} → mending ≡ false → CopiesPlan front halves zones minima devices cells ms before after r
      → t ≡ told_copy r → Completes x mending ms before after t
  copy-completes ms e j h table = rw e (same-served (h ∙ ap told_copy j.answer) j.result refl)

  -- the figures that are read, by the counts of the rows
  figures-same : {windows : ℕ} → Decoded front halves zones minima devices cells → CountedTo devices (length devices) windows → (desk : Bool) (ms : List ℕ)
      → figures_by desk front.edition (record { devices = length devices; intervals = length halves; zones = length zones }) windows ms ≡ figures_in desk front.edition q ms
  figures-same {windows} d c desk ms =
      by-same (sym (devices-are halves zones minima devices cells)) (sym (intervals-are halves zones minima devices cells)) (sym (zones-are halves zones minima devices cells))
      (c.is ∙ windows-whole d.rows)
      ∙ by-counts desk front.edition q ms
    where
      by-same : {a b c a' b' c' w w' : ℕ} → a ≡ a' → b ≡ b' → c ≡ c' → w ≡ w'
          → figures_by desk front.edition (record { devices = a; intervals = b; zones = c }) w ms ≡ figures_by desk front.edition (record { devices = a'; intervals = b'; zones = c' }) w' ms
      by-same i j k l = rw (i, j, k, l) refl

  pub few-windows : Decoded front halves zones minima devices cells → FewWindows devices
  few-windows d = record { few = d.rows.few-devices; each = λ i m. (d.rows.counted i m).few-energies }

  module _ (d : Decoded front halves zones minima devices cells) (desk : Bool) (ms table : List ℕ) {rows : List ℕ} {windows : ℕ} {r : Reading} (c : CountedTo devices (length devices) windows)
      (h : record { answer = r; table = rows }
      ≡ tabled (figures_by desk front.edition (record { devices = length devices; intervals = length halves; zones = length zones }) windows ms) table) where
    as_read : record { answer = r; table = rows } ≡ tabled (figures_in desk front.edition q ms) table
    as_read = h ∙ ap (λ (w : Whole (List ℕ)). tabled w table) (figures-same d c desk ms)

    pub read-few : Few r
    read-few = let f = few-read desk front.edition q d.rows.range.system ms table in λ k w. f k (sym (ap (λ (o : Readings). o.answer) as_read) ∙ w)

    pub reads-back : {t : Told} → t ≡ told_reading r → ReadsBack x desk ms table rows t
    reads-back {t} k before = go desk (k ∙ ap (λ (o : Readings). told_reading o.answer) as_read) (ap (λ (o : Readings). o.table) as_read)
      where
        go : (desk : Bool) → t ≡ told_reading (tabled (figures_in desk front.edition q ms) table).answer → rows ≡ (tabled (figures_in desk front.edition q ms) table).table
            → record { told = t; result = before; rows = rows } ≡ served (reading desk) ms before table (passes x)
        go true e f = same-served e refl f
        go false e f = same-served e refl f

  pub batch-served : {task : Task} (ms : List ℕ) {before after table rows : List ℕ} {r : Stacking} {t : Told} → task ≡ T.Batch → JudgesBatch x ms before after table rows r
      → t ≡ told_stack r → record { told = t; result = after; rows = rows } ≡ served task ms before table (passes x)
  batch-served ms {before} {table = table} e j h =
      known ms before table e
      (same-served (h ∙ ap (λ (o : Stackings). told_stack o.answer) j.is) (ap (λ (o : Stackings). o.result) j.is) (ap (λ (o : Stackings). o.table) j.is))
