-- The parts of our completion that belong to intervals.
use Rattle.std.specs.Prelude.{List, ℕ, ◌+◌, ◌*◌, length}
use Rattle.numbers.specs.Sum.{sumℤ}
use Rattle.numbers.specs.Base.{up_to}
use Rattle.model.specs.Case.{System, Plan, Case}
use Rattle.model.specs.Completion.{Completion}
use Rattle.model.specs.Ours.{ours}
use Rattle.pen.specs.Runs.{run}
use Rattle.row_places.specs.declared.Front.{Front}
use Rattle.records.specs.Views.{system_in, case_in, plan_in}
use Rattle.money.specs.Bounds.{device_most, kinds_most, interval_most}
use Rattle.reactive_money.specs.Day.{device_balance, zone_balance, interval_balance}
use Rattle.completion_size.specs.Size.{device_width, zone_width, interval_width}
use Rattle.completion_writer.specs.Whole.{device_bits, zone_bits, interval_bits}
use Rattle.grains.specs.declared.Ledger.{Ledger}
use Rattle.mismatches.specs.declared.BarMismatches.{BarMismatches}
use Rattle.reactive_mismatches.specs.declared.ReactiveMismatches.{ReactiveMismatches}
use Rattle.slack_money.specs.Charges.{MismatchEntered}
use Rattle.reactive_money.specs.Charges.{ReactiveMismatchEntered}
use Rattle.progress.specs.declared.Progress.{Progress}
use Rattle.progress.specs.Advances.{Advances}

-- the mismatches of both bars together
abbrev pub both : BarMismatches → ℕ
both x = x.first.0 + x.second.0

abbrev pub both_reactive : ReactiveMismatches → ℕ
both_reactive x = x.first.0 + x.second.0

-- the money of the real ones, then of the reactive
pub record MismatchesEntered (price minutes real reactive : ℕ) (l r : Ledger) : Type 0 where
  pub between : Ledger
  pub of-real : MismatchEntered price minutes real l between
  pub of-reactive : ReactiveMismatchEntered price minutes reactive between r

module _ (front : Front) (halves : List ℕ) (zones minima devices cells settings : List (List ℕ)) where
  abbrev c : Case
  c = case_in front halves zones minima devices cells

  abbrev q : System
  q = system_in halves zones minima devices cells

  abbrev p : Plan
  p = plan_in (length devices) (length halves) settings

  abbrev x : Completion ℕ
  x = ours c p

  -- the first n devices of interval t
  abbrev pub DevicesAdvance : ℕ → ℕ → List ℕ → List ℕ → Progress → Progress → Type 0
  DevicesAdvance t n entry exit = Advances (n * device_width) (run (device_bits x t) n) entry exit (sumℤ (device_balance c p t) (up_to n)) (n * device_most)

  -- its first n zones
  abbrev pub ZonesAdvance : ℕ → ℕ → List ℕ → List ℕ → Progress → Progress → Type 0
  ZonesAdvance t n entry exit = Advances (n * zone_width front.edition) (run (zone_bits front.edition x t) n) entry exit (sumℤ (zone_balance c p t) (up_to n)) (n * kinds_most)

  -- interval t; the first n intervals
  abbrev pub IntervalAdvances : ℕ → List ℕ → List ℕ → Progress → Progress → Type 0
  IntervalAdvances t entry exit =
      Advances (interval_width front.edition (length devices) (length zones)) (interval_bits front.edition q x t) entry exit (interval_balance c p t) interval_most

  abbrev pub IntervalsAdvance : ℕ → List ℕ → List ℕ → Progress → Progress → Type 0
  IntervalsAdvance n entry exit =
      Advances (n * interval_width front.edition (length devices) (length zones)) (run (interval_bits front.edition q x) n) entry exit (sumℤ (interval_balance c p) (up_to n)) (n * interval_most)
