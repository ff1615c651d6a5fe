-- A device's lists: what each of them lists, and how the code keeps one of it, as four numbers in the message's order.
use Rattle.std.specs.Prelude.{Ok, ◌≡◌, List, [], ◌∷◌, map, ℕ, ◌^◌, ◌≤◌, ◌<◌, length, get_or, take, ℤ}
use Rattle.layouts.specs.declared.Place.{Place}
use Rattle.layouts.specs.Layout.{Layout, int, ◌▸◌, counted, count_of}
use Rattle.model.specs.Case as M
use Rattle.model.specs.Editions.{most_states, most_windows}
use Rattle.model.specs.Messages.{minutes, energy_window}
use Rattle.model.specs.ByEdition.{start_window}
use Rattle.row_places.specs.declared.State.{State}
use Rattle.row_places.specs.declared.StartWindow.{StartWindow}
use Rattle.row_places.specs.declared.EnergyWindow.{EnergyWindow}
use Rattle.row_places.specs.Figures.{window_of, EnergiesSmall}
use Rattle.records.specs.Views.{less, cost_offset}
use Rattle.fields.specs.Got.{Got, got, seen}
use Rattle.item_reader.specs.declared.Item.{Item}
use Rattle.item_reader.specs.declared.Items.{Items}
use Rattle.item_reader.specs.declared.Listed.{Listed}
use Rattle.item_reader.specs.declared.Listed.TheVariants.{States, Starts, Energies}

-- "startup states 3 (0..3)"; "start windows 3 (0..4)"; "energy windows 3 (0..4)"
abbrev pub most_items : Listed → ℕ
most_items States = most_states
most_items Starts = most_windows
most_items Energies = most_windows

-- a startup state: its longest downtime and its cost
abbrev pub state : Layout (ℕ × ℤ)
state = minutes ▸ int 31 cost_offset

abbrev pub Content : Listed → Type 0
Content States = ℕ × ℤ
Content Starts = M.StartWindow
Content Energies = M.EnergyWindow

abbrev pub item : (k : Listed) → ℕ → ℕ → Layout (Content k)
item States e last = state
item Starts e last = start_window e last
item Energies e last = energy_window last

-- what four numbers say
abbrev pub state_item : Item → ℕ × ℤ
state_item x = (x.0, less cost_offset x.1)

abbrev pub start_item : Item → M.StartWindow
start_item x = record { from = x.0; until = x.1; most = x.2 }

abbrev pub energy_item : Item → M.EnergyWindow
energy_item x = record { kind = x.0; from = x.1; until = x.2; energy = x.3 }

abbrev pub item_in : (k : Listed) → Item → Content k
item_in States x = state_item x
item_in Starts x = start_item x
item_in Energies x = energy_item x

-- what was read of a list
abbrev pub items_in : (k : Listed) → Items → List (Content k)
items_in k x = map (item_in k) (take x.count x.items)

-- a count and that many
abbrev pub items : (k : Listed) → ℕ → ℕ → Layout (List (Content k))
items k e last = counted (count_of 3 0 (most_items k)) (item k e last)

-- no more than may be listed, in a table with room for every list
pub record ItemsFit (k : Listed) (x : Items) : Type 0 where
  pub few : x.count ≤ most_items k
  pub long : length x.items ≡ most_windows

pub record ItemsDone (k : Listed) (e last : ℕ) (s : List ℕ) (p : Place) (r : Got Items) : Type 0 where
  pub is : seen (items_in k) r ≡ got (items k e last) s p
  pub fit : (x : Items) (q : Place) → r ≡ Ok (x, q) → ItemsFit k x

-- ---- as the records that a device holds

abbrev pub state_from : Item → State
state_from x = record { longest = x.0; cost = x.1 }

abbrev pub start_from : Item → StartWindow
start_from x = record { from = x.0; until = x.1; most = x.2 }

abbrev pub energy_from : Item → EnergyWindow
energy_from x = window_of x.0 x.1 x.2 x.3

abbrev pub no_item : Item
no_item = record { 0 = 0; 1 = 0; 2 = 0; 3 = 0 }

-- three of them, and four
abbrev pub threes : {B : Type 0} → (Item → B) → List Item → List B
threes f l = f (get_or l 0 no_item) ∷ f (get_or l 1 no_item) ∷ f (get_or l 2 no_item) ∷ []

abbrev pub fours : {B : Type 0} → (Item → B) → List Item → List B
fours f l = f (get_or l 0 no_item) ∷ f (get_or l 1 no_item) ∷ f (get_or l 2 no_item) ∷ f (get_or l 3 no_item) ∷ []

-- an energy comes from 32 bits
pub record EnergyMade (x : Item) (w : EnergyWindow) : Type 0 where
  pub is : w ≡ energy_from x
  pub small : w.energy.0 < 2 ^ 32

pub record EnergiesMade (l : List Item) (ws : List EnergyWindow) : Type 0 where
  pub is : ws ≡ fours energy_from l
  pub small : EnergiesSmall ws
