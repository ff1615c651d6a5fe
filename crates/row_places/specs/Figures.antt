-- The figures of a row, by name: the one place in the proofs that knows where a figure stands.
use Rattle.std.specs.Prelude.{◌≡◌, refl, Bool, List, [], ◌∷◌, ℕ, zero, suc, ◌+◌, ◌-◌, ◌*◌, ◌/◌, ◌%◌, ◌^◌, ◌<◌, eqb, ltb, get_or, set, replicate}
use Rattle.std.proofs.Common.{arith}
use Rattle.bits.specs.Pick.{pick}
use Rattle.numbers.specs.Base.{bit}
use Rattle.model.specs.Editions.{most_states, most_windows}
use Rattle.kilowatts.specs.declared.Kw.{Kw}
use Rattle.grains.specs.declared.Grains.{Grains}
use Rattle.kilowatts.specs.Power.{kw}
use Rattle.kilovars.specs.Reactive.{kvar, signed_kvar, kvar_price, var_price}
use Rattle.energy.specs.Energy.{kw_min}
use Rattle.grains.specs.Money.{grains}
use Rattle.row_places.specs.declared.Reserves.{Reserves}
use Rattle.row_places.specs.declared.ReservePrices.{ReservePrices}
use Rattle.row_places.specs.declared.ReactiveCell.{ReactiveCell}
use Rattle.row_places.specs.declared.Cell.{Cell}
use Rattle.row_places.specs.declared.Reactive.{Reactive}
use Rattle.row_places.specs.declared.Setting.{Setting}
use Rattle.row_places.specs.declared.State.{State}
use Rattle.row_places.specs.declared.StartWindow.{StartWindow}
use Rattle.row_places.specs.declared.EnergyWindow.{EnergyWindow}
use Rattle.row_places.specs.declared.Line.{Line}
use Rattle.row_places.specs.declared.Link.{Link}
use Rattle.row_places.specs.declared.Device.{Device}
use Rattle.row_places.specs.declared.Zone.{Zone}
use Rattle.row_places.specs.declared.Minima.{Minima}

abbrev pub at : List ℕ → ℕ → ℕ
at r k = get_or r k 0

-- a row of so many figures, each 0
abbrev pub blank : ℕ → List ℕ
blank width = replicate width 0

-- the eight from place k on: amounts, prices
abbrev pub eight_of : List ℕ → ℕ → Reserves
eight_of r k = record {
  rgu = kw (at r k);
  rgd = kw (at r (k + 1));
  scr = kw (at r (k + 2));
  nsc = kw (at r (k + 3));
  rruon = kw (at r (k + 4));
  rruoff = kw (at r (k + 5));
  rrdon = kw (at r (k + 6));
  rrdoff = kw (at r (k + 7));
}

abbrev pub eight_prices : List ℕ → ℕ → ReservePrices
eight_prices r k = record {
  rgu = at r k;
  rgd = at r (k + 1);
  scr = at r (k + 2);
  nsc = at r (k + 3);
  rruon = at r (k + 4);
  rruoff = at r (k + 5);
  rrdon = at r (k + 6);
  rrdoff = at r (k + 7);
}

abbrev pub cell_of : List ℕ → Cell
cell_of r = record {
  status = at r 0;
  pmin = kw (at r 1);
  pmax = kw (at r 2);
  blocks = at r 3;
  caps = kw (at r 4) ∷ kw (at r 5) ∷ kw (at r 6) ∷ kw (at r 7) ∷ [];
  floors = kw (at r 24) ∷ kw (at r 25) ∷ kw (at r 26) ∷ kw (at r 27) ∷ [];
  prices = at r 8 ∷ at r 9 ∷ at r 10 ∷ at r 11 ∷ [];
  reserves = eight_prices r 12;
  reactive = record { qmin = signed_kvar (at r 20); qmax = signed_kvar (at r 21); qru = kvar_price (at r 22); qrd = kvar_price (at r 23) };
}

abbrev pub reactive_of : List ℕ → Reactive
reactive_of r = record { q = signed_kvar (at r 10); qru = kvar (at r 11); qrd = kvar (at r 12) }

abbrev pub setting_of : List ℕ → Setting
setting_of r = record { on = at r 0; online = kw (at r 1); reserves = eight_of r 2; reactive = reactive_of r }

-- the flow that stands in an interval's first row, kept from −100,000; a row that is stored alone has none
abbrev pub flow_of : List ℕ → ℕ
flow_of r = at r 13

abbrev pub no_flow_kept : ℕ
no_flow_kept = 100000

abbrev pub with_flow : List ℕ → ℕ → List ℕ
with_flow r x = set r 13 x

-- where a device's lists begin, each with its count
abbrev pub states_from : ℕ
states_from = 22

abbrev pub starts_from : ℕ
starts_from = 29

abbrev pub energies_from : ℕ
energies_from = 42

abbrev pub state_of : List ℕ → ℕ → State
state_of r k = let a = states_from + 1 + 2 * k in record { longest = at r a; cost = at r (a + 1) }

abbrev pub start_of : List ℕ → ℕ → StartWindow
start_of r k = let a = starts_from + 1 + 3 * k in record { from = at r a; until = at r (a + 1); most = at r (a + 2) }

abbrev pub window_of : (kind from until energy : ℕ) → EnergyWindow
window_of kind from until energy = record { kind = kind; from = from; until = until; energy = kw_min energy }

abbrev pub energy_of : List ℕ → ℕ → EnergyWindow
energy_of r k = let a = energies_from + 1 + 4 * k in window_of (at r a) (at r (a + 1)) (at r (a + 2)) (at r (a + 3))

abbrev pub states_of : List ℕ → List State
states_of r = state_of r 0 ∷ state_of r 1 ∷ state_of r 2 ∷ []

abbrev pub starts_of : List ℕ → List StartWindow
starts_of r = start_of r 0 ∷ start_of r 1 ∷ start_of r 2 ∷ start_of r 3 ∷ []

abbrev pub energies_of : List ℕ → List EnergyWindow
energies_of r = energy_of r 0 ∷ energy_of r 1 ∷ energy_of r 2 ∷ energy_of r 3 ∷ []

abbrev pub limits_of : List ℕ → List Kw
limits_of r = kw (at r 14) ∷ kw (at r 15) ∷ kw (at r 16) ∷ kw (at r 17) ∷ kw (at r 18) ∷ kw (at r 19) ∷ kw (at r 20) ∷ kw (at r 21) ∷ []

abbrev pub line_of : ℕ → ℕ → Line
line_of offset slope = record { offset = signed_kvar offset; slope = slope }

abbrev pub link_of : List ℕ → Link
link_of r = record { kind = at r 59; upper = line_of (at r 60) (at r 61); lower = line_of (at r 62) (at r 63) }

-- a device from its row; its costs, limits, counted lists and link given
abbrev pub device_made : List ℕ → (startcost stopcost : Grains) → List Kw → ℕ → List State → ℕ → List StartWindow → ℕ → List EnergyWindow → Link → Device
device_made r startcost stopcost limits nstates states nstarts starts nenergies energies link = record {
  side = at r 0;
  zonebits = at r 1;
  on0 = at r 2;
  power0 = kw (at r 3);
  minutes0 = at r 4;
  minup = at r 5;
  mindown = at r 6;
  ramps = at r 7 ∷ at r 8 ∷ at r 9 ∷ at r 10 ∷ [];
  oncost = at r 11;
  startcost = startcost;
  stopcost = stopcost;
  limits = limits;
  nstates = nstates;
  states = states;
  nstarts = nstarts;
  starts = starts;
  nenergies = nenergies;
  energies = energies;
  link = link;
  bar = at r 64;
}

abbrev pub device_with : List ℕ → (startcost stopcost : Grains) → List Kw → ℕ → List State → ℕ → List StartWindow → ℕ → List EnergyWindow → Device
device_with r startcost stopcost limits nstates states nstarts starts nenergies energies = device_made r startcost stopcost limits nstates states nstarts starts nenergies energies (link_of r)

pub device-made : (r : List ℕ) {startcost stopcost : Grains} {nstates nstarts nenergies : ℕ} {limits : List Kw} {states : List State} {starts : List StartWindow}
    {energies : List EnergyWindow} {link : Link} → limits ≡ limits_of r → states ≡ states_of r → starts ≡ starts_of r → energies ≡ energies_of r → link ≡ link_of r
    → device_made r startcost stopcost limits nstates states nstarts starts nenergies energies link
    ≡ device_with r startcost stopcost (limits_of r) nstates (states_of r) nstarts (starts_of r) nenergies (energies_of r)
device-made r {startcost} {stopcost} {nstates} {nstarts} {nenergies} a b c d e = same a b c d e
  where
    same : {l l' : List Kw} {s s' : List State} {t t' : List StartWindow} {w w' : List EnergyWindow} {k k' : Link} → l ≡ l' → s ≡ s' → t ≡ t' → w ≡ w' → k ≡ k'
        → device_made r startcost stopcost l nstates s nstarts t nenergies w k ≡ device_made r startcost stopcost l' nstates s' nstarts t' nenergies w' k'
    same f g h i j = rw (f, g, h, i, j) refl

-- the limit of the link between the bars, in the first device's row
abbrev pub limit_of : List ℕ → ℕ
limit_of r = at r 65

abbrev pub with_limit : List ℕ → ℕ → List ℕ
with_limit r x = set r 65 x

abbrev pub device_of : List ℕ → Device
device_of r = device_with r (grains (at r 12)) (grains (at r 13)) (limits_of r) (at r states_from) (states_of r) (at r starts_from) (starts_of r) (at r energies_from) (energies_of r)

abbrev pub zone_of : List ℕ → Zone
zone_of r = record { rgu = at r 0; rgd = at r 1; scr = at r 2; nsc = at r 3; prices = at r 4 ∷ at r 5 ∷ at r 6 ∷ at r 7 ∷ at r 8 ∷ at r 9 ∷ []; qru = var_price (at r 10); qrd = var_price (at r 11) }

abbrev pub minima_of : List ℕ → Minima
minima_of r = record { rru = kw (at r 0); rrd = kw (at r 1); qru = kvar (at r 2); qrd = kvar (at r 3) }

-- ---- the row of a record

abbrev pub kw_at : List Kw → ℕ → ℕ
kw_at l k = (get_or l k (record { 0 = 0 })).0

abbrev pub cell_row : Cell → List ℕ
cell_row c =
    c.status ∷ c.pmin.0 ∷ c.pmax.0 ∷ c.blocks ∷ kw_at c.caps 0 ∷ kw_at c.caps 1 ∷ kw_at c.caps 2 ∷ kw_at c.caps 3
    ∷ at c.prices 0 ∷ at c.prices 1 ∷ at c.prices 2 ∷ at c.prices 3
    ∷ c.reserves.rgu ∷ c.reserves.rgd ∷ c.reserves.scr ∷ c.reserves.nsc ∷ c.reserves.rruon ∷ c.reserves.rruoff ∷ c.reserves.rrdon ∷ c.reserves.rrdoff
    ∷ c.reactive.qmin.0 ∷ c.reactive.qmax.0 ∷ c.reactive.qru.0 ∷ c.reactive.qrd.0
    ∷ kw_at c.floors 0 ∷ kw_at c.floors 1 ∷ kw_at c.floors 2 ∷ kw_at c.floors 3 ∷ []

abbrev pub setting_row : Setting → List ℕ
setting_row x =
    x.on ∷ x.online.0
    ∷ x.reserves.rgu.0 ∷ x.reserves.rgd.0 ∷ x.reserves.scr.0 ∷ x.reserves.nsc.0 ∷ x.reserves.rruon.0 ∷ x.reserves.rruoff.0 ∷ x.reserves.rrdon.0 ∷ x.reserves.rrdoff.0
    ∷ x.reactive.q.0 ∷ x.reactive.qru.0 ∷ x.reactive.qrd.0 ∷ no_flow_kept ∷ []

-- what an array holds where nothing is stored
abbrev pub no_state : State
no_state = record { longest = 0; cost = 0 }

abbrev pub no_start : StartWindow
no_start = record { from = 0; until = 0; most = 0 }

abbrev pub no_energy : EnergyWindow
no_energy = record { kind = 0; from = 0; until = 0; energy = kw_min 0 }

-- a device's lists, their figures in turn
abbrev pub state_figures : List State → List ℕ
state_figures l =
    (get_or l 0 no_state).longest ∷ (get_or l 0 no_state).cost ∷ (get_or l 1 no_state).longest ∷ (get_or l 1 no_state).cost ∷ (get_or l 2 no_state).longest ∷ (get_or l 2 no_state).cost ∷ []

abbrev pub start_figures : List StartWindow → List ℕ
start_figures l =
    (get_or l 0 no_start).from ∷ (get_or l 0 no_start).until ∷ (get_or l 0 no_start).most
    ∷ (get_or l 1 no_start).from ∷ (get_or l 1 no_start).until ∷ (get_or l 1 no_start).most
    ∷ (get_or l 2 no_start).from ∷ (get_or l 2 no_start).until ∷ (get_or l 2 no_start).most
    ∷ (get_or l 3 no_start).from ∷ (get_or l 3 no_start).until ∷ (get_or l 3 no_start).most ∷ []

abbrev pub energy_figures : List EnergyWindow → List ℕ
energy_figures l =
    (get_or l 0 no_energy).kind ∷ (get_or l 0 no_energy).from ∷ (get_or l 0 no_energy).until ∷ (get_or l 0 no_energy).energy.0
    ∷ (get_or l 1 no_energy).kind ∷ (get_or l 1 no_energy).from ∷ (get_or l 1 no_energy).until ∷ (get_or l 1 no_energy).energy.0
    ∷ (get_or l 2 no_energy).kind ∷ (get_or l 2 no_energy).from ∷ (get_or l 2 no_energy).until ∷ (get_or l 2 no_energy).energy.0
    ∷ (get_or l 3 no_energy).kind ∷ (get_or l 3 no_energy).from ∷ (get_or l 3 no_energy).until ∷ (get_or l 3 no_energy).energy.0 ∷ []

-- figures of 64 bits that stand in a row
pub record EnergiesSmall (l : List EnergyWindow) : Type 0 where
  pub energy : (k : ℕ) → k < most_windows → (get_or l k no_energy).energy.0 < 2 ^ 32

pub record DeviceSmall (d : Device) : Type 0 where
  pub startcost : d.startcost.0 < 2 ^ 32
  pub stopcost : d.stopcost.0 < 2 ^ 32
  pub nstates : d.nstates < 2 ^ 32
  pub nstarts : d.nstarts < 2 ^ 32
  pub nenergies : d.nenergies < 2 ^ 32
  pub energies : EnergiesSmall d.energies

-- a device's row from the figures of its lists; its costs and counts given
abbrev pub device_row_with : Device → (startcost stopcost nstates nstarts nenergies : ℕ) → (states starts energies : List ℕ) → List ℕ
device_row_with d startcost stopcost nstates nstarts nenergies states starts energies =
    d.side ∷ d.zonebits ∷ d.on0 ∷ d.power0.0 ∷ d.minutes0 ∷ d.minup ∷ d.mindown
    ∷ at d.ramps 0 ∷ at d.ramps 1 ∷ at d.ramps 2 ∷ at d.ramps 3 ∷ d.oncost ∷ startcost ∷ stopcost
    ∷ kw_at d.limits 0 ∷ kw_at d.limits 1 ∷ kw_at d.limits 2 ∷ kw_at d.limits 3 ∷ kw_at d.limits 4 ∷ kw_at d.limits 5 ∷ kw_at d.limits 6 ∷ kw_at d.limits 7
    ∷ nstates ∷ at states 0 ∷ at states 1 ∷ at states 2 ∷ at states 3 ∷ at states 4 ∷ at states 5
    ∷ nstarts ∷ at starts 0 ∷ at starts 1 ∷ at starts 2 ∷ at starts 3 ∷ at starts 4 ∷ at starts 5 ∷ at starts 6 ∷ at starts 7 ∷ at starts 8 ∷ at starts 9 ∷ at starts 10 ∷ at starts 11
    ∷ nenergies ∷ at energies 0 ∷ at energies 1 ∷ at energies 2 ∷ at energies 3 ∷ at energies 4 ∷ at energies 5 ∷ at energies 6 ∷ at energies 7 ∷ at energies 8
    ∷ at energies 9 ∷ at energies 10 ∷ at energies 11 ∷ at energies 12 ∷ at energies 13 ∷ at energies 14 ∷ at energies 15
    ∷ d.link.kind ∷ d.link.upper.offset.0 ∷ d.link.upper.slope ∷ d.link.lower.offset.0 ∷ d.link.lower.slope ∷ d.bar ∷ 0 ∷ []

abbrev pub device_row : Device → List ℕ
device_row d =
    device_row_with d d.startcost.0 d.stopcost.0 d.nstates d.nstarts d.nenergies (state_figures d.states) (start_figures d.starts) (energy_figures d.energies)

pub device-row-is : (d : Device) {startcost stopcost nstates nstarts nenergies : ℕ} {states starts energies : List ℕ}
    → startcost ≡ d.startcost.0 → stopcost ≡ d.stopcost.0 → nstates ≡ d.nstates → nstarts ≡ d.nstarts → nenergies ≡ d.nenergies
    → states ≡ state_figures d.states → starts ≡ start_figures d.starts → energies ≡ energy_figures d.energies
    → device_row_with d startcost stopcost nstates nstarts nenergies states starts energies ≡ device_row d
device-row-is d e f g h i j k l = cc

abbrev pub zone_row : Zone → List ℕ
zone_row z =
    z.rgu ∷ z.rgd ∷ z.scr ∷ z.nsc
    ∷ at z.prices 0 ∷ at z.prices 1 ∷ at z.prices 2 ∷ at z.prices 3 ∷ at z.prices 4 ∷ at z.prices 5 ∷ z.qru.0 ∷ z.qrd.0 ∷ []

abbrev pub minima_row : Minima → List ℕ
minima_row x = x.rru.0 ∷ x.rrd.0 ∷ x.qru.0 ∷ x.qrd.0 ∷ []

-- ---- one figure of a table's row k

abbrev pub on_at : List (List ℕ) → ℕ → ℕ
on_at settings k = (setting_of (get_or settings k [])).on

abbrev pub online_at : List (List ℕ) → ℕ → ℕ
online_at settings k = (setting_of (get_or settings k [])).online.0

abbrev pub pmin_at : List (List ℕ) → ℕ → ℕ
pmin_at cells k = (cell_of (get_or cells k [])).pmin.0

abbrev pub reactive_at : List (List ℕ) → ℕ → Reactive
reactive_at settings k = reactive_of (get_or settings k [])

abbrev pub reactive_cell_at : List (List ℕ) → ℕ → ReactiveCell
reactive_cell_at cells k = (cell_of (get_or cells k [])).reactive

abbrev pub device_at : List (List ℕ) → ℕ → Device
device_at devices i = device_of (get_or devices i [])

abbrev pub side_at : List (List ℕ) → ℕ → ℕ
side_at devices i = (device_of (get_or devices i [])).side

abbrev pub zonebits_at : List (List ℕ) → ℕ → ℕ
zonebits_at devices i = (device_of (get_or devices i [])).zonebits

abbrev pub on0_at : List (List ℕ) → ℕ → ℕ
on0_at devices i = (device_at devices i).on0

abbrev pub minutes0_at : List (List ℕ) → ℕ → ℕ
minutes0_at devices i = (device_at devices i).minutes0

abbrev pub oncost_at : List (List ℕ) → ℕ → ℕ
oncost_at devices i = (device_at devices i).oncost

abbrev pub startcost_at : List (List ℕ) → ℕ → Grains
startcost_at devices i = (device_at devices i).startcost

abbrev pub stopcost_at : List (List ℕ) → ℕ → Grains
stopcost_at devices i = (device_at devices i).stopcost

abbrev pub link_at : List (List ℕ) → ℕ → Link
link_at devices i = (device_at devices i).link

abbrev pub bar_at : List (List ℕ) → ℕ → ℕ
bar_at devices i = (device_at devices i).bar

-- the flow of interval t, and the limit of the link
abbrev pub flow_at : List (List ℕ) → ℕ → ℕ
flow_at settings t = flow_of (get_or settings t [])

abbrev pub limit_at : List (List ℕ) → ℕ
limit_at devices = limit_of (get_or devices 0 [])

-- its startup states and energy windows: how many, and number k
abbrev pub states_at : List (List ℕ) → ℕ → ℕ
states_at devices i = (device_at devices i).nstates

abbrev pub state_at : List (List ℕ) → ℕ → ℕ → State
state_at devices i k = get_or (device_at devices i).states k no_state

abbrev pub energies_at : List (List ℕ) → ℕ → ℕ
energies_at devices i = (device_at devices i).nenergies

abbrev pub energy_at : List (List ℕ) → ℕ → ℕ → EnergyWindow
energy_at devices i k = get_or (device_at devices i).energies k no_energy

pub state-of : (r : List ℕ) (k : ℕ) → k < most_states → state_of r k ≡ get_or (states_of r) k no_state
state-of r zero h = refl
state-of r (suc zero) h = refl
state-of r (suc (suc zero)) h = refl
state-of r (suc (suc (suc k))) h = absurd (omega arith)

pub energy-of : (r : List ℕ) (k : ℕ) → k < most_windows → energy_of r k ≡ get_or (energies_of r) k no_energy
energy-of r zero h = refl
energy-of r (suc zero) h = refl
energy-of r (suc (suc zero)) h = refl
energy-of r (suc (suc (suc zero))) h = refl
energy-of r (suc (suc (suc (suc k)))) h = absurd (omega arith)

-- u of the interval before; "before interval 1 the initial state stands"
abbrev pub on_before : ℕ → List (List ℕ) → ℕ → ℕ
on_before on0 settings t = pick (eqb t 0) on0 (on_at settings (t - 1))

-- su and sd, in a device's part of the settings
abbrev pub started_at : ℕ → List (List ℕ) → ℕ → ℕ
started_at on0 settings t = bit (ltb (on_before on0 settings t) (on_at settings t))

abbrev pub stopped_at : ℕ → List (List ℕ) → ℕ → ℕ
stopped_at on0 settings t = bit (ltb (on_at settings t) (on_before on0 settings t))

-- "Previous p in interval 1 is initial power", in a device's part of the powers
abbrev pub previous_at : ℕ → List ℕ → ℕ → ℕ
previous_at power0 powers t = pick (eqb t 0) power0 (at powers (t - 1))

-- "zone bits 4, zone 1 first"
abbrev pub in_zone : ℕ → ℕ → Bool
in_zone bits z = eqb (bits / 2 ^ (3 - z) % 2) 1
