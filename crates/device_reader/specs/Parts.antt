-- The record that a device's single figures make with its lists, its link and its bar.
use Rattle.std.specs.Prelude.{◌≡◌, List, [], ◌∷◌, ℕ, ◌^◌, ◌<◌, get_or}
use Rattle.kilowatts.specs.declared.Kw.{Kw}
use Rattle.grains.specs.declared.Grains.{Grains}
use Rattle.kilowatts.specs.Power.{kw}
use Rattle.grains.specs.Money.{grains}
use Rattle.row_places.specs.declared.State.{State}
use Rattle.row_places.specs.declared.StartWindow.{StartWindow}
use Rattle.row_places.specs.declared.EnergyWindow.{EnergyWindow}
use Rattle.row_places.specs.declared.Device.{Device}
use Rattle.row_places.specs.Figures.{EnergiesSmall}
use Rattle.device_figures.specs.declared.Sides.{Sides}
use Rattle.device_figures.specs.declared.Figures.{Figures}
use Rattle.device_figures.specs.declared.Linked.{Linked}
use Rattle.item_reader.specs.declared.Items.{Items}
use Rattle.item_reader.specs.Items.{threes, fours, state_from, start_from, energy_from}

-- a cost comes from 32 bits
pub record MoneyMade (x : ℕ) (g : Grains) : Type 0 where
  pub is : g ≡ grains x
  pub small : g.0 < 2 ^ 32

abbrev pub limits_from : List ℕ → List Kw
limits_from l = kw (get_or l 0 0) ∷ kw (get_or l 1 0) ∷ kw (get_or l 2 0) ∷ kw (get_or l 3 0) ∷ kw (get_or l 4 0) ∷ kw (get_or l 5 0) ∷ kw (get_or l 6 0) ∷ kw (get_or l 7 0) ∷ []

-- the record of these figures, lists, link and bar; what is made anew is given
abbrev pub device_with : Sides → Figures → (startcost stopcost : Grains) → List Kw → ℕ → List State → ℕ → List StartWindow → ℕ → List EnergyWindow → Linked → Device
device_with x f startcost stopcost limits nstates states nstarts starts nenergies energies l = record {
  side = x.side;
  zonebits = x.zonebits;
  on0 = get_or f.initial 0 0;
  power0 = kw (get_or f.initial 1 0);
  minutes0 = get_or f.initial 2 0;
  minup = get_or f.initial 3 0;
  mindown = get_or f.initial 4 0;
  ramps = get_or f.ramps 0 0 ∷ get_or f.ramps 1 0 ∷ get_or f.ramps 2 0 ∷ get_or f.ramps 3 0 ∷ [];
  oncost = get_or f.costs 0 0;
  startcost = startcost;
  stopcost = stopcost;
  limits = limits;
  nstates = nstates;
  states = states;
  nstarts = nstarts;
  starts = starts;
  nenergies = nenergies;
  energies = energies;
  link = l.link;
  bar = l.bar;
}

abbrev pub device_from : Sides → Figures → Items → Items → Items → Linked → Device
device_from x f a b c l =
    device_with x f (grains (get_or f.costs 1 0)) (grains (get_or f.costs 2 0)) (limits_from f.limits)
    a.count (threes state_from a.items) b.count (fours start_from b.items) c.count (fours energy_from c.items) l

pub record DeviceMade (x : Sides) (f : Figures) (a b c : Items) (l : Linked) (d : Device) : Type 0 where
  pub is : d ≡ device_from x f a b c l
  pub startcost : d.startcost.0 < 2 ^ 32
  pub stopcost : d.stopcost.0 < 2 ^ 32
  pub small : EnergiesSmall d.energies
