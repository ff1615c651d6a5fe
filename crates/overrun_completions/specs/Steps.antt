-- What the code computes, enters and writes for an energy window: steps of a completion.
use Rattle.std.specs.Prelude.{◌≡◌, List, ℕ, ◌+◌, ◌-◌, ◌*◌, ◌^◌, ◌≤◌, ◌<◌, length, take, drop}
use Rattle.std.proofs.Math.Path.{refl}
use Rattle.std.proofs.Common.{ap, ◌∙◌, arith}
use Rattle.numbers.specs.Laws.{max_zero}
use Rattle.grains.specs.declared.Ledger.{Ledger}
use Rattle.layouts.specs.Layout.{any}
use Rattle.model.specs.Case.{System, Plan, Case}
use Rattle.model.specs.Completion.{Completion, overrun_need}
use Rattle.model.specs.Judgement.{energy_windows}
use Rattle.model.specs.Ours.{ours}
use Rattle.pen.specs.declared.Pen.{Pen}
use Rattle.pen.specs.Pens.{Pushes}
use Rattle.pen.specs.Runs.{Room, pushes-as}
use Rattle.row_places.specs.declared.Front.{Front}
use Rattle.row_places.specs.declared.EnergyWindow.{EnergyWindow}
use Rattle.row_places.specs.Figures.{energies_at, energy_at}
use Rattle.numbers.specs.Parts.{part_cut}
use Rattle.records.specs.Views.{system_in, case_in, plan_in}
use Rattle.records.specs.Viewed as Viewed
use Rattle.overruns.specs.Energies.{Running, running, energy_to, over_of, overrun-is}
use Rattle.model.specs.Editions.{most_windows}
use Rattle.money.specs.Bounds.{overrun_cost_most}
use Rattle.money.specs.Unbroken.{Unbroken}
use Rattle.slack_money.specs.Charges.{OverrunOf, OverrunEntered, overrun_balance}
use Rattle.slack_money.specs.Day.{windows-entered}
use Rattle.slack_money.specs.Here as Here
use Rattle.completion_size.specs.Size.{overrun_width}
use Rattle.completion_writer.specs.Whole.{overrun_bits, windows_of, windows_to, overruns-room}
use Rattle.progress.specs.declared.Progress.{Progress}
use Rattle.progress.specs.Advances.{Advances, along}
use Rattle.overrun_completions.specs.Fits as Fits
use Rattle.overrun_completions.specs.Advances.{FirstWindowsAdvance, WindowsAdvance}

module _ {front : Front} {halves : List ℕ} {zones minima devices cells settings : List (List ℕ)} {starts powers : List ℕ}
    (u : Unbroken front halves zones minima devices cells settings starts powers) where
  abbrev q : System
  q = system_in halves zones minima devices cells

  abbrev c : Case
  c = case_in front halves zones minima devices cells

  abbrev p : Plan
  p = plan_in (length devices) (length halves) settings

  abbrev x : Completion ℕ
  x = ours c p

  abbrev m : ℕ
  m = length halves

  -- ---- a device's energy windows

  pub windows-room : (i : ℕ) {xs a b : List ℕ} {pen r : Pen} → i < length devices → Pushes (windows_to q i * overrun_width) xs a b pen r → Room a pen (energy_windows q * overrun_width)
      → Room b r (windows_of q i * overrun_width)
  windows-room i l = overruns-room q x i (omega (arith, Viewed.devices-are halves zones minima devices cells))

  module _ (i a : ℕ) (l : i < length devices) (begins : a ≡ i * m) where
    -- its powers, as the code takes them
    abbrev own_powers : List ℕ
    own_powers = take (a + m - a) (drop a powers)

    pub powers-run : Running starts own_powers
    powers-run = rw (part_cut m i a powers begins) (running u.ready i l)

    module _ (w : ℕ) (k : w < energies_at devices i) {window : EnergyWindow} {y : ℕ} (ew : window ≡ energy_at devices i w)
        (e : y ≡ over_of window (energy_to window starts own_powers (length own_powers))) where
      over-is : y ≡ max_zero (overrun_need q p i w)
      over-is = e ∙ rw (ew, part_cut m i a powers begins) (overrun-is u.ready i l w k)

      pub overrun-fits : y < 2 ^ 32
      overrun-fits = rw over-is (Fits.overrun-fits u i w l)

      pub overrun-of : OverrunOf front.overrun y
      overrun-of = Here.overrun-here u i w l refl over-is

      pub overrun-done : {b d : List ℕ} {pen r : Pen} {v z : Ledger} → OverrunEntered front.overrun y v z → Pushes overrun_width ((any 32).write y) b d pen r
          → Advances overrun_width ((any 32).write (x.overrun i w)) b d (overrun_balance c p i w) overrun_cost_most (along v pen) (along z r)
      unfolding ours
      overrun-done f g = record { pushes = pushes-as (ap (any 32).write over-is) refl g; entered = Here.overrun-learnt u i w l refl over-is f }

    pub windows-done : {n : ℕ} {b d : List ℕ} {r s : Progress} → n ≡ energies_at devices i → FirstWindowsAdvance front halves zones minima devices cells settings i n b d r s
        → WindowsAdvance front halves zones minima devices cells settings i b d r s
    unfolding overrun_bits
    windows-done {n} {b} {d} {r} {s} e h =
        let f : n ≡ windows_of q i = e ∙ Fits.windows-are u.ready.case_rows i l in
        let few : windows_of q i ≤ most_windows = omega (arith, Fits.windows-are u.ready.case_rows i l, (u.ready.case_rows.counted i l).few-energies) in
        let g : FirstWindowsAdvance front halves zones minima devices cells settings i (windows_of q i) b d r s = rw f at h in
        record { pushes = g.pushes; entered = windows-entered c p i few g.entered }
