-- What the code gives back of a batch: against a case that is decoded, and against a case's bytes.
use Rattle.std.proofs.Math.Path.{◌≡◌, refl}
use Rattle.std.proofs.Common.{sym, ap, ◌∙◌, subst, arith}
use Rattle.std.specs.Prelude.{List, ℕ, ◌*◌, ◌≤◌, ◌<◌}
use borrow.Author.Tests.{le-leb, lt-leb}
use Rattle.std.proofs.Math.ListN.{length}
use Rattle.layouts.specs.declared.Fault.{Fault}
use Rattle.layouts.specs.Layout.{Whole, passes, fails}
use Rattle.model.specs.Editions.{Largest, most_devices, most_intervals}
use Rattle.model.specs.ByEdition.{Stated, stated_in}
use Rattle.tellings.specs.Splitting.{host_limit}
use Rattle.stacks.specs.declared.Counted.{Counted}
use Rattle.stacks.specs.declared.Counted.TheVariants as C
use Rattle.stacks.specs.declared.Stacking.{Stacking}
use Rattle.stacks.specs.declared.Stacking.TheVariants.{Judged, RefusedCase, RefusedBatch, Short}
use Rattle.stacks.specs.Messages.{messages_of, counted, plans_in}
use Rattle.stacks.specs.Stack.{row_numbers, Stackings, unwritten, with_plans, with_batch, stacking}
use Rattle.stacks.specs.Going.{TakesTurns}
use Rattle.stacks.specs.Promise.{StackPromise}
use Rattle.stacks.proofs.Promise.{stack-promised}
use Rattle.stacks.specs.Judges.{JudgesBatch, JudgesStack}

module _ (y : Stated) (s before table : List ℕ) {x : Counted} (e : x ≡ counted (messages_of host_limit s)) where
  refused-go : (w : Whole (List (List ℕ))) {f : Fault} → counted w ≡ C.Refused f → unwritten (RefusedBatch f) before table ≡ with_batch y before table w
  refused-go (passes ms) v = absurd (let z : ◌≡◌ {A = ℕ} 0 1 = cc in omega arith)
  refused-go (fails g) {f} v = let k : f ≡ g = cc in rw k refl

  pub batch-refused : {f : Fault} → x ≡ C.Refused f → JudgesBatch y s before before table table (RefusedBatch f)
  batch-refused t = record { is = refused-go (messages_of host_limit s) (sym e ∙ t) }

  short-go : (w : Whole (List (List ℕ))) {n : ℕ} → counted w ≡ C.Messages n → length table < row_numbers * n → unwritten (Short (row_numbers * n)) before table ≡ with_batch y before table w
  unfolding with_plans
  short-go (passes ms) {n} v h = let k : n ≡ length ms = cc in rw (k, lt-leb (row_numbers * length ms) (length table) (omega arith)) refl
  short-go (fails f) v h = absurd (let z : ◌≡◌ {A = ℕ} 0 1 = cc in omega arith)

  pub batch-short : {n : ℕ} → x ≡ C.Messages n → length table < row_numbers * n → JudgesBatch y s before before table table (Short (row_numbers * n))
  batch-short t h = record { is = short-go (messages_of host_limit s) (sym e ∙ t) h }

  judged-go : (w : Whole (List (List ℕ))) {n bytes : ℕ} {after told : List ℕ} → counted w ≡ C.Messages n → row_numbers * n ≤ length table
      → TakesTurns y (plans_in w) before after table told bytes → record { answer = Judged n bytes; result = after; table = told } ≡ with_batch y before table w
  unfolding with_plans
  judged-go (passes ms) {n} v h t =
      let k : n ≡ length ms = cc in
      rw (k, le-leb (row_numbers * length ms) (length table) (omega arith), t.bytes, t.result, t.numbers) refl
  judged-go (fails f) v h t = absurd (let z : ◌≡◌ {A = ℕ} 0 1 = cc in omega arith)

  pub batch-judged : {n bytes : ℕ} {after told : List ℕ} → x ≡ C.Messages n → row_numbers * n ≤ length table
      → TakesTurns y (plans_in (messages_of host_limit s)) before after table told bytes → JudgesBatch y s before after table told (Judged n bytes)
  batch-judged t h k = record { is = judged-go (messages_of host_limit s) (sym e ∙ t) h k }

module _ (l : Largest) (most : l.devices ≤ most_devices) (long : l.intervals ≤ most_intervals) {cs s before after table told : List ℕ} {r : Stacking} where
  judges : record { answer = r; result = after; table = told } ≡ stacking l cs s before table → JudgesStack l cs s before after table told r
  judges e = record {
    answer = ap (λ (o : Stackings). o.answer) e;
    result = ap (λ (o : Stackings). o.result) e;
    numbers = ap (λ (o : Stackings). o.table) e;
    promise = subst (StackPromise l cs s before table) (sym e) (stack-promised l most long cs s before table);
  }

  pub stack-judged : {y : Stated} → stated_in l cs ≡ passes y → JudgesBatch y s before after table told r → JudgesStack l cs s before after table told r
  unfolding stacking
  stack-judged e j = judges (j.is ∙ rw e refl)

pub stack-refused : (l : Largest) → l.devices ≤ most_devices → l.intervals ≤ most_intervals → {cs : List ℕ} (s before table : List ℕ) {f : Fault} → stated_in l cs ≡ fails f
    → JudgesStack l cs s before before table table (RefusedCase f)
unfolding stacking
stack-refused l most long s before table e = judges l most long (rw e refl)
