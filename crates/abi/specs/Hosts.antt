-- What hosts in other languages are answered.
use Rattle.std.specs.Prelude.{◌≡◌, Bool, List, ◌++◌, ℕ, ◌≤◌, ◌<◌, length, drop}
use Rattle.std.proofs.Math.Path.{refl}
use Rattle.std.proofs.Common.{ap, ap₂, ◌∙◌, arith}
use Rattle.std.proofs.Math.Bool.{true, false}
use Rattle.model.specs.declared.Verdict.{Verdict}
use Rattle.model.specs.declared.Listing.{Listing}
use Rattle.layouts.specs.Layout.{Whole, passes, fails}
use Rattle.model.specs.Editions.{host}
use Rattle.model.specs.ByEdition.{Stated, stated_in}
use Rattle.model.specs.Judgement.{judgement}
use Rattle.tellings.specs.declared.Told.{Told}
use Rattle.model.specs.declared.Inspected.{Inspected}
use Rattle.plan_unit.specs.Judges.{Judges, judges}
use Rattle.case_inspection.specs.Inspection.{Inspects, inspected_of}
use Rattle.case_inspection.specs.Steps.{inspects}
use Rattle.tellings.specs.Told.{told_of, told_case, told_list, told_writing, told_copy, told_reading, told_mending, figures_of}
use Rattle.writing.specs.declared.Writing.{Writing}
use Rattle.writing.specs.Anew.{case_anew, plan_anew}
use Rattle.rewrites.specs.Steps.{RewritesCase, rewrites-case}
use Rattle.rewrite_unit.specs.Plans.{RewritesPlan, rewrites-plan}
use Rattle.market.specs.declared.Copying.{Copying}
use Rattle.market.specs.Copy.{market_copy}
use Rattle.market_unit.specs.Markets.{CopiesForMarket, copies}
use Rattle.completion_reading.specs.declared.Reading.{Reading}
use Rattle.completion_reading.specs.Figures.{readings}
use Rattle.reader_unit.specs.Reads.{Reads, reads}
use Rattle.reader_unit.specs.Few.{few-readings}
use Rattle.mending.specs.declared.Mending.{Mending}
use Rattle.mending.specs.Mendings.{mendings}
use Rattle.mend_unit.specs.Mends.{MendsBytes, mends-bytes}
use Rattle.model.specs.Lists.{listings}
use Rattle.breach_unit.specs.Breaches.{ListsBreaches, lists-breaches}
use Rattle.stacks.specs.declared.Stacking.{Stacking}
use Rattle.stacks.specs.Stack.{Stackings, with_case}
use Rattle.stacks.specs.Judges.{JudgesStack}
use Rattle.stacks.proofs.Judges.{stack-judged, stack-refused}
use Rattle.stack_tellings.specs.Told.{told_stack}
use Rattle.tasks.specs.declared.Task.TheVariants as T
use Rattle.tasks.specs.Served.{Served, served}
use Rattle.task_work.specs.Steps.{reading}

-- four numbers stored at the front of a lent slice; nothing is done, and 5 is answered, where it has fewer places
pub record HostJudges (cs ps before after figures told : List ℕ) (r : ℕ) : Type 0 where
  pub short : length figures < 4 → (r ≡ 5) × (after ≡ before) × (told ≡ figures)
  pub judges : 4 ≤ length figures → (v : Verdict) × Judges host cs ps before after v × (r ≡ (told_of v).word) × (told ≡ figures_of (told_of v) ++ drop 4 figures)

pub record HostInspects (cs figures told : List ℕ) (r : ℕ) : Type 0 where
  pub short : length figures < 4 → (r ≡ 5) × (told ≡ figures)
  pub inspects : 4 ≤ length figures → (x : Inspected) × Inspects host cs x × (r ≡ (told_case x).word) × (told ≡ figures_of (told_case x) ++ drop 4 figures)

pub record HostLists (cs ps before after figures told : List ℕ) (r : ℕ) : Type 0 where
  pub short : length figures < 4 → (r ≡ 5) × (after ≡ before) × (told ≡ figures)
  pub lists : 4 ≤ length figures → (x : Listing) × ListsBreaches host cs ps before after x × (r ≡ (told_list x).word) × (told ≡ figures_of (told_list x) ++ drop 4 figures)

pub record HostWritesCase (cs before after figures told : List ℕ) (r : ℕ) : Type 0 where
  pub short : length figures < 4 → (r ≡ 5) × (after ≡ before) × (told ≡ figures)
  pub writes : 4 ≤ length figures → (x : Writing) × RewritesCase host cs before after x × (r ≡ (told_writing x).word) × (told ≡ figures_of (told_writing x) ++ drop 4 figures)

pub record HostWritesPlan (cs ps before after figures told : List ℕ) (r : ℕ) : Type 0 where
  pub short : length figures < 4 → (r ≡ 5) × (after ≡ before) × (told ≡ figures)
  pub writes : 4 ≤ length figures → (x : Writing) × RewritesPlan host cs ps before after x × (r ≡ (told_writing x).word) × (told ≡ figures_of (told_writing x) ++ drop 4 figures)

pub record HostCopies (cs ps before after figures told : List ℕ) (r : ℕ) : Type 0 where
  pub short : length figures < 4 → (r ≡ 5) × (after ≡ before) × (told ≡ figures)
  pub copies : 4 ≤ length figures → (x : Copying) × CopiesForMarket host cs ps before after x × (r ≡ (told_copy x).word) × (told ≡ figures_of (told_copy x) ++ drop 4 figures)

pub record HostReads (desk : Bool) (cs s before after figures told : List ℕ) (r : ℕ) : Type 0 where
  pub short : length figures < 4 → (r ≡ 5) × (after ≡ before) × (told ≡ figures)
  pub reads : 4 ≤ length figures → (x : Reading) × Reads host desk cs s before after x × (r ≡ (told_reading x).word) × (told ≡ figures_of (told_reading x) ++ drop 4 figures)

pub record HostMends (cs ps figures told : List ℕ) (r : ℕ) : Type 0 where
  pub short : length figures < 4 → (r ≡ 5) × (told ≡ figures)
  pub mends : 4 ≤ length figures → (x : Mending) × MendsBytes host cs ps x × (r ≡ (told_mending x).word) × (told ≡ figures_of (told_mending x) ++ drop 4 figures)

pub record HostStacks (cs batch before after table rows figures told : List ℕ) (r : ℕ) : Type 0 where
  pub short : length figures < 4 → (r ≡ 5) × (after ≡ before) × (rows ≡ table) × (told ≡ figures)
  pub judges : 4 ≤ length figures
      → (x : Stacking) × JudgesStack host cs batch before after table rows x × (r ≡ (told_stack x).word) × (told ≡ figures_of (told_stack x) ++ drop 4 figures)

-- ---- from what the code answers

-- what a task told, stored at the front of the figures, which it was lent as the table that it leaves
stored : {t : Told} {after rows told figures : List ℕ} {s : Served} → record { told = t; result = after; rows = rows } ≡ s → s.rows ≡ figures → told ≡ figures_of t ++ drop 4 rows
    → told ≡ figures_of s.told ++ drop 4 figures
stored h k f = f ∙ ap₂ (λ (x : Told) (y : List ℕ). figures_of x ++ drop 4 y) (ap (λ (s : Served). s.told) h) (ap (λ (s : Served). s.rows) h ∙ k)

-- the same where it was lent another table
apart : {t : Told} {after rows told : List ℕ} (figures : List ℕ) {s : Served} → record { told = t; result = after; rows = rows } ≡ s → told ≡ figures_of t ++ drop 4 figures
    → told ≡ figures_of s.told ++ drop 4 figures
apart figures h f = f ∙ ap (λ (s : Served). figures_of s.told ++ drop 4 figures) h

worded : {t : Told} {after rows : List ℕ} {s : Served} → record { told = t; result = after; rows = rows } ≡ s → t.word ≡ s.told.word
worded h = ap (λ (s : Served). s.told.word) h

left : {t : Told} {after rows : List ℕ} {s : Served} → record { told = t; result = after; rows = rows } ≡ s → after ≡ s.result
left h = ap (λ (s : Served). s.result) h

module _ (cs ps before figures : List ℕ) where
  pub judges-short : length figures < 4 → HostJudges cs ps before before figures figures 5
  judges-short h = record { short = λ _. (refl, refl, refl); judges = λ k. absurd (omega (arith, h, k)) }

  pub judges-told : {after rows told : List ℕ} {t : Told} → 4 ≤ length figures
      → record { told = t; result = after; rows = rows } ≡ served T.Judge ps before figures (stated_in host cs) → told ≡ figures_of t ++ drop 4 rows
      → HostJudges cs ps before after figures told t.word
  unfolding judgement
  judges-told h j f = record {
    short = λ k. absurd (omega (arith, h, k));
    judges = λ _. ((judgement host cs ps before).verdict, judges host (omega arith) (omega arith) refl (left j), worded j, stored j refl f);
  }

module _ (cs ps before figures : List ℕ) where
  pub lists-short : length figures < 4 → HostLists cs ps before before figures figures 5
  lists-short h = record { short = λ _. (refl, refl, refl); lists = λ k. absurd (omega (arith, h, k)) }

  pub lists-told : {after rows told : List ℕ} {t : Told} → 4 ≤ length figures
      → record { told = t; result = after; rows = rows } ≡ served T.Breaches ps before figures (stated_in host cs) → told ≡ figures_of t ++ drop 4 rows
      → HostLists cs ps before after figures told t.word
  unfolding listings
  lists-told h j f = record {
    short = λ k. absurd (omega (arith, h, k));
    lists = λ _. ((listings host cs ps before).answer, lists-breaches host (omega arith) (omega arith) refl (left j), worded j, stored j refl f);
  }

module _ (cs before figures : List ℕ) where
  pub case-short : length figures < 4 → HostWritesCase cs before before figures figures 5
  case-short h = record { short = λ _. (refl, refl, refl); writes = λ k. absurd (omega (arith, h, k)) }

  pub case-told : (ms : List ℕ) {after rows told : List ℕ} {t : Told} → 4 ≤ length figures
      → record { told = t; result = after; rows = rows } ≡ served T.WriteCase ms before figures (stated_in host cs) → told ≡ figures_of t ++ drop 4 rows
      → HostWritesCase cs before after figures told t.word
  unfolding case_anew
  case-told ms h j f = record {
    short = λ k. absurd (omega (arith, h, k));
    writes = λ _. ((case_anew host cs before).answer, rewrites-case host refl (left j), worded j, stored j refl f);
  }

module _ (cs ps before figures : List ℕ) where
  pub plan-short : length figures < 4 → HostWritesPlan cs ps before before figures figures 5
  plan-short h = record { short = λ _. (refl, refl, refl); writes = λ k. absurd (omega (arith, h, k)) }

  pub plan-told : {after rows told : List ℕ} {t : Told} → 4 ≤ length figures
      → record { told = t; result = after; rows = rows } ≡ served T.WritePlan ps before figures (stated_in host cs) → told ≡ figures_of t ++ drop 4 rows
      → HostWritesPlan cs ps before after figures told t.word
  unfolding plan_anew
  plan-told h j f = record {
    short = λ k. absurd (omega (arith, h, k));
    writes = λ _. ((plan_anew host cs ps before).answer, rewrites-plan host refl (left j), worded j, stored j refl f);
  }

module _ (cs ps before figures : List ℕ) where
  pub copies-short : length figures < 4 → HostCopies cs ps before before figures figures 5
  copies-short h = record { short = λ _. (refl, refl, refl); copies = λ k. absurd (omega (arith, h, k)) }

  pub copies-told : {after rows told : List ℕ} {t : Told} → 4 ≤ length figures
      → record { told = t; result = after; rows = rows } ≡ served T.Copy ps before figures (stated_in host cs) → told ≡ figures_of t ++ drop 4 rows
      → HostCopies cs ps before after figures told t.word
  unfolding market_copy
  copies-told h j f = record {
    short = λ k. absurd (omega (arith, h, k));
    copies = λ _. ((market_copy host cs ps before).answer, copies host (omega arith) (omega arith) refl (left j), worded j, stored j refl f);
  }

module _ (cs s before figures : List ℕ) {rows told : List ℕ} {t : Told} where
  -- by the desk's reader, or the market's
  reads_as : (desk : Bool) → 4 ≤ length figures → t ≡ told_reading (readings host desk cs s before).answer → rows ≡ (readings host desk cs s before).table
      → told ≡ figures_of t ++ drop 4 figures → HostReads desk cs s before rows figures told t.word
  reads_as desk h e g f = record {
    short = λ k. absurd (omega (arith, h, k));
    reads = λ _. (
      (readings host desk cs s before).answer,
      reads host (omega arith) (omega arith) (ap (λ (y : List ℕ). record { answer = (readings host desk cs s before).answer; table = y }) g)
          (few-readings host (omega arith) (omega arith) desk cs s before),
      ap (λ (x : Told). x.word) e,
      f ∙ ap (λ (x : Told). figures_of x ++ drop 4 figures) e,
    );
  }

  pub reads-told : (desk : Bool) (none : List ℕ) {after : List ℕ} → 4 ≤ length figures
      → record { told = t; result = after; rows = rows } ≡ served (reading desk) s none before (stated_in host cs) → told ≡ figures_of t ++ drop 4 figures
      → HostReads desk cs s before rows figures told t.word
  unfolding readings
  reads-told true none h j f = reads_as true h (ap (λ (y : Served). y.told) j) (ap (λ (y : Served). y.rows) j) f
  reads-told false none h j f = reads_as false h (ap (λ (y : Served). y.told) j) (ap (λ (y : Served). y.rows) j) f

pub reads_short : (desk : Bool) (cs s before figures : List ℕ) → length figures < 4 → HostReads desk cs s before before figures figures 5
reads_short desk cs s before figures h = record { short = λ _. (refl, refl, refl); reads = λ k. absurd (omega (arith, h, k)) }

module _ (cs figures : List ℕ) where
  pub inspects-short : length figures < 4 → HostInspects cs figures figures 5
  inspects-short h = record { short = λ _. (refl, refl); inspects = λ k. absurd (omega (arith, h, k)) }

  pub inspects-told : (ms none : List ℕ) {after rows told : List ℕ} {t : Told} → 4 ≤ length figures
      → record { told = t; result = after; rows = rows } ≡ served T.Inspect ms none figures (stated_in host cs) → told ≡ figures_of t ++ drop 4 rows
      → HostInspects cs figures told t.word
  inspects-told ms none h j f = record {
    short = λ k. absurd (omega (arith, h, k));
    inspects = λ _. (inspected_of (stated_in host cs), inspects host (omega arith) (omega arith) cs refl, worded j, stored j refl f);
  }

module _ (cs ps figures : List ℕ) where
  pub mends-short : length figures < 4 → HostMends cs ps figures figures 5
  mends-short h = record { short = λ _. (refl, refl); mends = λ k. absurd (omega (arith, h, k)) }

  pub mends-told : (none : List ℕ) {after rows told : List ℕ} {t : Told} → 4 ≤ length figures
      → record { told = t; result = after; rows = rows } ≡ served T.Mend ps none figures (stated_in host cs) → told ≡ figures_of t ++ drop 4 rows
      → HostMends cs ps figures told t.word
  unfolding mendings
  mends-told none h j f = record {
    short = λ k. absurd (omega (arith, h, k));
    mends = λ _. (mendings host cs ps, mends-bytes host (omega arith) (omega arith) refl, worded j, stored j refl f);
  }

module _ (cs batch before table figures : List ℕ) where
  pub stacks-short : length figures < 4 → HostStacks cs batch before before table table figures figures 5
  stacks-short h = record { short = λ _. (refl, refl, refl, refl); judges = λ k. absurd (omega (arith, h, k)) }

  stack_is : (w : Whole Stated) → stated_in host cs ≡ w → let o = with_case batch before table w in JudgesStack host cs batch before o.result table o.table o.answer
  stack_is (passes y) e = stack-judged host (omega arith) (omega arith) e (record { is = refl })
  stack_is (fails f) e = stack-refused host (omega arith) (omega arith) batch before table e

  pub stacks-told : {after rows told : List ℕ} {t : Told} → 4 ≤ length figures
      → record { told = t; result = after; rows = rows } ≡ served T.Batch batch before table (stated_in host cs) → told ≡ figures_of t ++ drop 4 figures
      → HostStacks cs batch before after table rows figures told t.word
  stacks-told h j f =
      let o : Stackings = with_case batch before table (stated_in host cs) in
      let a = left j in
      let b = ap (λ (s : Served). s.rows) j in
      record {
        short = λ k. absurd (omega (arith, h, k));
        judges = λ _. (o.answer, rw (a, b) (stack_is (stated_in host cs) refl), worded j, apart figures j f);
      }
