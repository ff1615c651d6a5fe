-- The energy windows of a decoded case, and that the overruns of a plan that breaks no rule fit their fields.
use Rattle.std.specs.Prelude.{◌≡◌, List, ℕ, ◌^◌, ◌<◌, length}
use Rattle.std.proofs.Common.{sym, arith}
use Rattle.numbers.specs.Laws.{max_zero}
use Rattle.model.specs.Case.{System, Plan}
use Rattle.model.specs.Forced as F
use Rattle.model.specs.Completion.{overrun_need}
use Rattle.theorems.proofs.Sizes.{overrun-bound}
use Rattle.row_places.specs.declared.Front.{Front}
use Rattle.row_places.specs.Figures.{energies_at}
use Rattle.records.specs.Views.{most_intervals, system_in, plan_in, CaseRows}
use Rattle.records.specs.Viewed as Viewed
use Rattle.money.specs.Unbroken.{Unbroken, plan-range, system-range, few-intervals}
use Rattle.completion_writer.specs.Whole.{windows_of}

module _ {front : Front} {halves : List ℕ} {zones minima devices cells : List (List ℕ)} (known : CaseRows front halves zones minima devices cells) where
  abbrev system : System
  system = system_in halves zones minima devices cells

  pub windows-are : (i : ℕ) → i < length devices → energies_at devices i ≡ windows_of system i
  windows-are i l = sym (Viewed.energy-windows-are halves zones minima devices cells i l (known.counted i l).few-energies)

module _ {front : Front} {halves : List ℕ} {zones minima devices cells settings : List (List ℕ)} {starts powers : List ℕ}
    (u : Unbroken front halves zones minima devices cells settings starts powers) where
  abbrev q : System
  q = system_in halves zones minima devices cells

  abbrev p : Plan
  p = plan_in (length devices) (length halves) settings

  pub overrun-fits : (i w : ℕ) → i < length devices → max_zero (overrun_need q p i w) < 2 ^ 32
  overrun-fits i w l =
      let m : i < F.devices q = omega (arith, Viewed.devices-are halves zones minima devices cells) in
      omega (arith, overrun-bound q p (system-range u.ready) (plan-range u.ready) u.rules most_intervals (few-intervals u.ready) i w m)
