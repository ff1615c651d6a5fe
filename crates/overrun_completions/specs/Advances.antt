-- The overruns of our completion.
use Rattle.std.specs.Prelude.{◌≡◌, refl, List, ℕ, ◌+◌, ◌*◌, ◌≤◌, length}
use Rattle.std.proofs.Common.{arith}
use Rattle.numbers.specs.Sum.{sumℤ}
use Rattle.numbers.specs.Base.{up_to}
use Rattle.layouts.specs.Layout.{any}
use Rattle.model.specs.Case.{System, Plan, Case}
use Rattle.model.specs.Completion.{Completion}
use Rattle.model.specs.Ours.{ours}
use Rattle.pen.specs.Pens.{Ready}
use Rattle.pen.specs.Runs.{run}
use Rattle.row_places.specs.declared.Front.{Front}
use Rattle.records.specs.Views.{system_in, case_in, plan_in}
use Rattle.money.specs.Bounds.{overrun_cost_most, windows_cost_most}
use Rattle.money.specs.Entries.{entered-as, entries_none, entries_next}
use Rattle.slack_money.specs.Charges.{overrun_balance}
use Rattle.slack_money.specs.Day.{windows_balance}
use Rattle.completion_size.specs.Size.{overrun_width}
use Rattle.completion_writer.specs.Whole as W
use Rattle.completion_writer.specs.Whole.{overrun_bits, windows_of, windows_to}
use Rattle.progress.specs.declared.Progress.{Progress}
use Rattle.progress.specs.Advances.{Advances}

module _ (front : Front) (halves : List ℕ) (zones minima devices cells settings : List (List ℕ)) where
  abbrev c : Case
  c = case_in front halves zones minima devices cells

  abbrev q : System
  q = system_in halves zones minima devices cells

  abbrev p : Plan
  p = plan_in (length devices) (length halves) settings

  abbrev x : Completion ℕ
  x = ours c p

  -- device i's first n overruns; all of them; those of the first n devices
  abbrev pub FirstWindowsAdvance : ℕ → ℕ → List ℕ → List ℕ → Progress → Progress → Type 0
  FirstWindowsAdvance i n entry exit =
      Advances (n * overrun_width) (run (λ w. (any 32).write (x.overrun i w)) n) entry exit (sumℤ (overrun_balance c p i) (up_to n)) (n * overrun_cost_most)

  abbrev pub WindowsAdvance : ℕ → List ℕ → List ℕ → Progress → Progress → Type 0
  WindowsAdvance i entry exit = Advances (windows_of q i * overrun_width) (overrun_bits q x i) entry exit (windows_balance c p i) windows_cost_most

  abbrev pub OverrunsAdvance : ℕ → List ℕ → List ℕ → Progress → Progress → Type 0
  OverrunsAdvance n entry exit = Advances (windows_to q n * overrun_width) (run (overrun_bits q x) n) entry exit (sumℤ (windows_balance c p) (up_to n)) (n * windows_cost_most)

  pub overruns-none : (buffer : List ℕ) (r : Progress) → Ready r.pen → OverrunsAdvance 0 buffer buffer r r
  overruns-none buffer r h = record { pushes = W.overruns-none q x buffer r.pen h; entered = entered-as (entries_none (windows_balance c p) r.money) refl (omega arith) }

  pub overruns-next : (n : ℕ) {a b d : List ℕ} {r s v : Progress} → OverrunsAdvance n a b r s → WindowsAdvance n b d s v → OverrunsAdvance (n + 1) a d r v
  overruns-next n h k = record { pushes = W.overruns-more q x n h.pushes k.pushes; entered = entries_next (windows_balance c p) n windows_cost_most h.entered k.entered }

  pub overruns-done : (n m : ℕ) {a b : List ℕ} {r s : Progress} → n ≤ m → m ≤ n → OverrunsAdvance n a b r s → OverrunsAdvance m a b r s
  overruns-done n m l k h = let e : n ≡ m = omega arith in rw e at h
