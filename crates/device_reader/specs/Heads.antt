-- What a case says of a device ahead of its intervals.
use Rattle.std.specs.Prelude.{Ok, ◌≡◌, List, map, ℕ, get_or, take, ℤ}
use Rattle.layouts.specs.declared.Place.{Place}
use Rattle.layouts.specs.Layout.{Layout, ◌▸◌, counted, count_of}
use Rattle.model.specs.Case as M
use Rattle.model.specs.Editions.{most_states, most_windows}
use Rattle.model.specs.Messages.{Head, Costs, head, costs, eight, kw_field, apart, energy_window}
use Rattle.model.specs.ByEdition.{start_window}
use Rattle.row_places.specs.declared.Device.{Device}
use Rattle.row_places.specs.Figures.{DeviceSmall}
use Rattle.records.specs.Kept.{DeviceLong}
use Rattle.records.specs.Views.{less, cost_offset, limits_in, start_in, energy_in, link_in, Counted}
use Rattle.fields.specs.Got.{Got, got, seen}
use Rattle.item_reader.specs.Items.{state}
use Rattle.device_figures.specs.Parts.{linked}

abbrev pub states : Layout (List ℕ × List ℤ)
states = apart (counted (count_of 3 0 most_states) state)

abbrev pub starts : ℕ → ℕ → Layout (List M.StartWindow)
starts e last = counted (count_of 3 0 most_windows) (start_window e last)

abbrev pub energies : ℕ → Layout (List M.EnergyWindow)
energies last = counted (count_of 3 0 most_windows) (energy_window last)

abbrev pub Ahead : Type 0
Ahead = Head × (Costs × (M.Reserves × ((List ℕ × List ℤ) × (List M.StartWindow × (List M.EnergyWindow × (M.Link × ℕ))))))

-- the parts of a device ahead of its cells, in its order
abbrev pub ahead : ℕ → ℕ → ℕ → Layout Ahead
ahead e zones last = head zones ▸ costs ▸ eight kw_field ▸ states ▸ starts e last ▸ energies last ▸ linked e

-- what a record says as a value of it
abbrev pub ahead_of : Device → Ahead
ahead_of d = (
  record {
    side = d.side;
    zone_bits = d.zonebits;
    on0 = d.on0;
    power0 = d.power0.0;
    minutes0 = d.minutes0;
    min_up = d.minup;
    min_down = d.mindown;
    ramps = record { up = get_or d.ramps 0 0; down = get_or d.ramps 1 0; starting = get_or d.ramps 2 0; stopping = get_or d.ramps 3 0 };
  },
  (
    record { on = d.oncost; start = d.startcost.0; stop = d.stopcost.0 },
    (
      limits_in d.limits,
      (
        (map (λ s. s.longest) (take d.nstates d.states), map (λ s. less cost_offset s.cost) (take d.nstates d.states)),
        (map start_in (take d.nstarts d.starts), (map energy_in (take d.nenergies d.energies), (link_in d.link, d.bar))),
      ),
    ),
  ),
)

-- what reading it leaves: the record says what the message says, and its row holds all of it (`records` `device-kept`)
pub record HeadDone (e : ℕ) (s : List ℕ) (p : Place) (zones last : ℕ) (r : Got Device) : Type 0 where
  pub is : seen ahead_of r ≡ got (ahead e zones last) s p
  pub counted : (d : Device) (q : Place) → r ≡ Ok (d, q) → Counted d
  pub small : (d : Device) (q : Place) → r ≡ Ok (d, q) → DeviceSmall d
  pub long : (d : Device) (q : Place) → r ≡ Ok (d, q) → DeviceLong d
