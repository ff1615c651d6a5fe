-- A plan message of every edition: what stands ahead of its settings, the rows that it is read into, and what reading it leaves in them.
use Rattle.std.specs.Prelude.{Ok, Err, ◌≡◌, List, ℕ, ◌*◌, ◌≤◌, length}
use Rattle.layouts.specs.declared.Fault.{Fault}
use Rattle.layouts.specs.Layout.{Layout, nat, held, ◌▸◌, count_of, fixed, read_whole}
use Rattle.layouts.specs.Numbers.{Tells}
use Rattle.model.specs.Editions.{device_bits, interval_bits}
use Rattle.model.specs.ByEdition.{plan_kind, plan_layout}
use Rattle.records.specs.Views.{most_devices, most_intervals, plan_in, PlanRows}
use Rattle.message_ends.specs.Ended.{Ending, ended}

-- "kind 4 (2); edition 4; devices 5; intervals 6, equal to the case's", of which the last is kept
unfoldable pub header : ℕ → ℕ → ℕ → Layout ℕ
header e devices intervals = held
    (λ v. v.1.1.1)
    (λ n. (plan_kind, (e, (devices, n))))
    (fixed plan_kind ▸ fixed e ▸ nat (count_of (device_bits e) devices devices) ▸ nat (count_of (interval_bits e) intervals intervals))

-- a row for each device and interval
pub record PlanRoom (devices intervals : ℕ) (settings : List (List ℕ)) : Type 0 where
  pub some : 1 ≤ devices
  pub few-devices : devices ≤ most_devices
  pub few-intervals : intervals ≤ most_intervals
  pub full : length settings ≡ devices * intervals

-- a plan message s of edition e for a case with these counts, read into the rows: its fault, with what that tells of it, or its settings, each in its range
pub record PlanDone (e devices intervals : ℕ) (s : List ℕ) (settings : List (List ℕ)) (r : Ending) : Type 0 where
  pub reads : ended (plan_in devices intervals settings) r ≡ read_whole (plan_layout e devices intervals) s
  pub refused : (f : Fault) → r ≡ Err f → Tells (plan_layout e devices intervals) s f
  pub rows : r ≡ Ok tt → PlanRows devices intervals settings
