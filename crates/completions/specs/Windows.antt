-- The counts that the bytes of a completion are computed from.
use Rattle.std.specs.Prelude.{◌≡◌, refl, List, ℕ, ◌+◌, ◌*◌, ◌≤◌, ◌<◌, length}
use Rattle.std.proofs.Common.{sym, ap, ◌∙◌}
use native.Mathlib.Omega.{arith}
use Rattle.numbers.specs.Sum.{sumℕ, sumℕ-cong}
use Rattle.numbers.specs.Base.{range, up_to}
use Rattle.numbers.specs.Every.{all-up_to}
use Rattle.model.specs.Case.{System}
use Rattle.model.specs.Judgement.{energy_windows}
use Rattle.row_places.specs.declared.Front.{Front}
use Rattle.row_places.specs.Figures.{device_at, energies_at}
use Rattle.numbers.specs.Ranges.{sum-next}
use Rattle.records.specs.Views.{most_devices, most_intervals, system_in, Counted, CaseRows}
use Rattle.records.specs.Viewed as Viewed
use Rattle.model.specs.Editions.{most_zones, most_windows}
use Rattle.completion_writer.specs.Whole.{windows_of, windows_to, windows-all}
use Rattle.overrun_completions.specs.Fits.{windows-are}

pub record Few (halves : List ℕ) (zones devices : List (List ℕ)) : Type 0 where
  pub few-devices : length devices ≤ most_devices
  pub few-intervals : length halves ≤ most_intervals
  pub few-zones : length zones ≤ most_zones
  pub counted : (i : ℕ) → i < length devices → Counted (device_at devices i)

-- few devices with few energy windows each
pub record FewWindows (devices : List (List ℕ)) : Type 0 where
  pub few : length devices ≤ most_devices
  pub each : (i : ℕ) → i < length devices → energies_at devices i ≤ most_windows

pub few-windows : {halves : List ℕ} {zones devices : List (List ℕ)} → Few halves zones devices → FewWindows devices
few-windows f = record { few = f.few-devices; each = λ i l. (f.counted i l).few-energies }

-- the energy windows of the first n devices
unfoldable pub windows_up_to : List (List ℕ) → ℕ → ℕ
windows_up_to devices n = sumℕ (energies_at devices) (up_to n)

-- what the loop over the devices has
pub record CountedTo (devices : List (List ℕ)) (i n : ℕ) : Type 0 where
  pub is : n ≡ windows_up_to devices i
  pub small : n ≤ i * most_windows

module _ (devices : List (List ℕ)) where
  pub count_none : CountedTo devices 0 0
  unfolding windows_up_to range
  count_none = record { is = refl; small = omega arith }

  pub count_next : (i : ℕ) {n m : ℕ} → CountedTo devices i n → m ≡ energies_at devices i → energies_at devices i ≤ most_windows → CountedTo devices (i + 1) (n + m)
  unfolding windows_up_to
  count_next i h e l = record { is = sum-next (energies_at devices) i h.is e; small = omega (arith, h.small) }

  pub count-done : (i k : ℕ) {n : ℕ} → i ≤ k → k ≤ i → CountedTo devices i n → CountedTo devices k n
  count-done i k h l c = let e : i ≡ k = omega arith in rw e at c

-- ---- those of a decoded case

module _ {front : Front} {halves : List ℕ} {zones minima devices cells : List (List ℕ)} (known : CaseRows front halves zones minima devices cells) where
  abbrev system : System
  system = system_in halves zones minima devices cells

  pub windows-up-to : (n : ℕ) → n ≤ length devices → windows_up_to devices n ≡ windows_to system n
  unfolding windows_up_to windows_to
  windows-up-to n h = sumℕ-cong _ _ (up_to n) (all-up_to (λ i. energies_at devices i ≡ windows_of system i) n (λ i l. windows-are known i (omega arith)))

  pub windows-whole : windows_up_to devices (length devices) ≡ energy_windows system
  windows-whole = windows-up-to (length devices) (omega arith) ∙ ap (windows_to system) (sym (Viewed.devices-are halves zones minima devices cells)) ∙ windows-all system
