-- The promises of a batch of plans: each plan's numbers and completion are those of judging that plan alone, with the bytes that are left for it.
use Rattle.std.specs.Prelude.{◌≡◌, ℤ, get_or, take, drop}
use mathlib.Core.List.{List, [], ◌∷◌}
use Prim.Native.Nat.{ℕ, zero, suc, ◌+◌, ◌*◌, ◌≤◌, ◌<◌}
use Rattle.std.proofs.Math.ListN.{length}
use Rattle.layouts.specs.declared.Fault.{Fault}
use Rattle.layouts.specs.Layout.{passes, fails}
use Rattle.model.specs.declared.Verdict.TheVariants.{Accepted}
use Rattle.model.specs.Editions.{Largest}
use Rattle.model.specs.ByEdition.{Stated, stated_in}
use Rattle.model.specs.Judgement.{judgement}
use Rattle.theorems.specs.Promise.{Promise}
use Rattle.tellings.specs.Splitting.{host_limit}
use Rattle.stacks.specs.declared.Stacking.TheVariants.{Judged, RefusedCase, RefusedBatch, Short}
use Rattle.stacks.specs.Messages.{messages_of}
use Rattle.stacks.specs.Stack.{row_numbers, row_of, turn_bytes, turn_left, stacked, Stackings, unwritten}

-- the bytes of the completions ahead of plan k, and the buffer that is left for it
unfoldable pub bytes_ahead : Stated → List ℕ → List (List ℕ) → ℕ → ℕ
bytes_ahead y buffer [] k = 0
bytes_ahead y buffer (ps ∷ more) zero = 0
bytes_ahead y buffer (ps ∷ more) (suc k) = turn_bytes y buffer ps + bytes_ahead y (turn_left y buffer ps) more k

abbrev pub left_for : Stated → List ℕ → List (List ℕ) → ℕ → List ℕ
left_for y buffer plans k = drop (bytes_ahead y buffer plans k) buffer

abbrev pub plan_at : List (List ℕ) → ℕ → List ℕ
plan_at plans k = get_or plans k []

-- ---- the promises

-- of plan k
pub record TurnPromise (l : Largest) (cs : List ℕ) (y : Stated) (plans : List (List ℕ)) (before : List ℕ) (o : Stackings) (k : ℕ) : Type 0 where
  -- its six numbers are those of judging it alone
  pub row : take row_numbers (drop (row_numbers * k) o.table)
      ≡ row_of (judgement l cs (plan_at plans k) (left_for y before plans k)).verdict (turn_bytes y (left_for y before plans k) (plan_at plans k))
  -- its completion stands behind those ahead of it
  pub completion : take (turn_bytes y (left_for y before plans k) (plan_at plans k)) (drop (bytes_ahead y before plans k) o.result)
      ≡ take (turn_bytes y (left_for y before plans k) (plan_at plans k)) (judgement l cs (plan_at plans k) (left_for y before plans k)).result
  -- and every promise of judging holds of it
  pub promise : Promise l cs (plan_at plans k) (left_for y before plans k) (judgement l cs (plan_at plans k) (left_for y before plans k))

-- of all plans, in a table that has room for their numbers
pub record PlansPromise (l : Largest) (cs : List ℕ) (y : Stated) (plans : List (List ℕ)) (before table : List ℕ) (o : Stackings) : Type 0 where
  pub answer : o.answer ≡ Judged (length plans) (stacked y before plans).bytes
  pub each : (k : ℕ) → k < length plans → TurnPromise l cs y plans before o k
  -- places behind the last plan's numbers and bytes behind the last completion stay as they came
  pub table-behind : drop (row_numbers * length plans) o.table ≡ drop (row_numbers * length plans) table
  pub result-behind : drop (stacked y before plans).bytes o.result ≡ drop (stacked y before plans).bytes before
  -- where no plan is accepted, no byte is written
  pub none-accepted : ((k : ℕ) → k < length plans → (z : ℤ) → (judgement l cs (plan_at plans k) before).verdict ≡ Accepted z → ⊥)
      → (o.answer ≡ Judged (length plans) 0) × (o.result ≡ before)
  -- an empty batch leaves all as it came
  pub no-plan : plans ≡ [] → o ≡ unwritten (Judged 0 0) before table

-- of any bytes
pub record StackPromise (l : Largest) (cs batch before table : List ℕ) (o : Stackings) : Type 0 where
  pub case-refused : (f : Fault) → stated_in l cs ≡ fails f → o ≡ unwritten (RefusedCase f) before table
  pub batch-refused : (y : Stated) (f : Fault) → stated_in l cs ≡ passes y → messages_of host_limit batch ≡ fails f → o ≡ unwritten (RefusedBatch f) before table
  pub table-short : (y : Stated) (plans : List (List ℕ)) → stated_in l cs ≡ passes y → messages_of host_limit batch ≡ passes plans → length table < row_numbers * length plans
      → o ≡ unwritten (Short (row_numbers * length plans)) before table
  pub plans : (y : Stated) (plans : List (List ℕ)) → stated_in l cs ≡ passes y → messages_of host_limit batch ≡ passes plans → row_numbers * length plans ≤ length table
      → PlansPromise l cs y plans before table o
