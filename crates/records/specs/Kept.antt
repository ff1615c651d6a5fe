-- A device's row holds all of it: the device of its row is the device again.
use Rattle.std.specs.Prelude.{◌≡◌, refl, List, ℕ, length}
use Rattle.numbers.specs.Rows.{tabbed}
use Rattle.kilowatts.specs.declared.Kw.{Kw}
use Rattle.kilowatts.specs.Power.{kw}
use Rattle.row_places.specs.declared.State.{State}
use Rattle.model.specs.Editions.{most_states, most_windows}
use Rattle.row_places.specs.declared.StartWindow.{StartWindow}
use Rattle.row_places.specs.declared.EnergyWindow.{EnergyWindow}
use Rattle.row_places.specs.declared.Device.{Device}
use Rattle.row_places.specs.Figures.{device_of, device_row, no_state, no_start, no_energy}

-- its arrays have their lengths
pub record DeviceLong (d : Device) : Type 0 where
  pub ramps : length d.ramps ≡ 4
  pub limits : length d.limits ≡ 8
  pub states : length d.states ≡ most_states
  pub starts : length d.starts ≡ most_windows
  pub energies : length d.energies ≡ most_windows

-- the same device with these arrays
abbrev with : Device → List ℕ → List Kw → List State → List StartWindow → List EnergyWindow → Device
with d ramps limits states starts energies = record {
  side = d.side;
  zonebits = d.zonebits;
  on0 = d.on0;
  power0 = d.power0;
  minutes0 = d.minutes0;
  minup = d.minup;
  mindown = d.mindown;
  ramps = ramps;
  oncost = d.oncost;
  startcost = d.startcost;
  stopcost = d.stopcost;
  limits = limits;
  nstates = d.nstates;
  states = states;
  nstarts = d.nstarts;
  starts = starts;
  nenergies = d.nenergies;
  energies = energies;
  link = d.link;
  bar = d.bar;
}

with-same : (d : Device) {ramps : List ℕ} {limits : List Kw} {states : List State} {starts : List StartWindow} {energies : List EnergyWindow}
    → ramps ≡ d.ramps → limits ≡ d.limits → states ≡ d.states → starts ≡ d.starts → energies ≡ d.energies → with d ramps limits states starts energies ≡ d
with-same d a b c e f = rw (a, b, c, e, f) refl

pub device-kept : (d : Device) → DeviceLong d → device_of (device_row d) ≡ d
device-kept d h = with-same d
    (tabbed 0 4 d.ramps h.ramps)
    (tabbed (kw 0) 8 d.limits h.limits)
    (tabbed no_state most_states d.states h.states)
    (tabbed no_start most_windows d.starts h.starts)
    (tabbed no_energy most_windows d.energies h.energies)
