-- Which case and plan the rows hold. The counts are the slices' lengths: a table of cells or settings has a part for each device, one of minima a part
-- for each zone, with an element for each interval.
use Rattle.std.specs.Prelude.{◌≡◌, List, [], ◌∷◌, map, ℕ, suc, ◌+◌, ◌*◌, ◌≤◌, ◌<◌, length, get_or, take, ℤ, pos, ◌-ℤ◌}
use Rattle.model.specs.Case as M
use Rattle.model.specs.Case.{System, Prices, Case, Plan}
use Rattle.model.specs.Forced.{start_of, power}
use Rattle.ranges.specs.Ranges.{CaseRange, SettingRange}
use Rattle.numbers.specs.Rows.{rows}
use Rattle.kilowatts.specs.declared.Kw.{Kw}
use Rattle.kilovars.specs.Reactive.{kvar_offset}
use Rattle.row_places.specs.declared.Reserves.{Reserves}
use Rattle.row_places.specs.declared.ReservePrices.{ReservePrices}
use Rattle.row_places.specs.declared.Reactive.{Reactive}
use Rattle.row_places.specs.declared.ReactiveCell.{ReactiveCell}
use Rattle.row_places.specs.declared.Cell.{Cell}
use Rattle.row_places.specs.declared.State.{State}
use Rattle.row_places.specs.declared.StartWindow.{StartWindow}
use Rattle.row_places.specs.declared.EnergyWindow.{EnergyWindow}
use Rattle.row_places.specs.declared.Line.{Line}
use Rattle.row_places.specs.declared.Link.{Link}
use Rattle.row_places.specs.declared.Device.{Device}
use Rattle.row_places.specs.declared.Zone.{Zone}
use Rattle.row_places.specs.declared.Front.{Front}
use Rattle.row_places.specs.Figures.{cell_of, setting_of, device_of, zone_of, minima_of, flow_at, limit_at}
use Rattle.numbers.specs.Parts.{part}
-- ---- the model's figures, by the records' names

pub use Rattle.ranges.specs.Kept.{less}
pub use Rattle.model.specs.Editions.{most_devices, most_intervals, most_zones, most_states, most_windows}

-- the offsets of figures kept from 0
abbrev pub price_offset : ℕ
price_offset = 10000

abbrev pub cost_offset : ℕ
cost_offset = 1000000000

abbrev pub slope_offset : ℕ
slope_offset = 10000

abbrev pub eight_in : Reserves → M.Reserves
eight_in r = record { rgu = r.rgu.0; rgd = r.rgd.0; scr = r.scr.0; nsc = r.nsc.0; rru_on = r.rruon.0; rru_off = r.rruoff.0; rrd_on = r.rrdon.0; rrd_off = r.rrdoff.0 }

abbrev pub eight_prices_in : ReservePrices → M.Reserves
eight_prices_in r = record { rgu = r.rgu; rgd = r.rgd; scr = r.scr; nsc = r.nsc; rru_on = r.rruon; rru_off = r.rruoff; rrd_on = r.rrdon; rrd_off = r.rrdoff }

abbrev pub number_of : List Kw → ℕ → ℕ
number_of l k = (get_or l k (record { 0 = 0 })).0

abbrev pub limits_in : List Kw → M.Reserves
limits_in l = record { rgu = number_of l 0; rgd = number_of l 1; scr = number_of l 2; nsc = number_of l 3; rru_on = number_of l 4; rru_off = number_of l 5; rrd_on = number_of l 6; rrd_off = number_of l 7 }

abbrev pub reactive_limits_in : ReactiveCell → M.ReactiveLimits
reactive_limits_in r = record { qmin = less kvar_offset r.qmin.0; qmax = less kvar_offset r.qmax.0 }

abbrev pub reactive_prices_in : ReactiveCell → M.ReactiveReserves
reactive_prices_in r = record { qru = r.qru.0; qrd = r.qrd.0 }

-- a cell's four blocks, those absent with cap 0 and floor 0
abbrev pub block_in : Cell → ℕ → M.Block
block_in c k = record { cap = number_of c.caps k; floor = number_of c.floors k }

abbrev pub four_blocks : Cell → List M.Block
four_blocks c = block_in c 0 ∷ block_in c 1 ∷ block_in c 2 ∷ block_in c 3 ∷ []

-- the model's cell, and its prices, by the record
abbrev pub cell_said : Cell → M.Cell
cell_said c = record { status = c.status; pmin = c.pmin.0; pmax = c.pmax.0; blocks = take c.blocks (four_blocks c); reactive = reactive_limits_in c.reactive }

abbrev pub cell_prices_said : Cell → M.CellPrices
cell_prices_said c = record { blocks = map (less price_offset) (take c.blocks c.prices); reserves = eight_prices_in c.reserves; reactive = reactive_prices_in c.reactive }

abbrev pub cell_in : List ℕ → M.Cell
cell_in r = cell_said (cell_of r)

abbrev pub cell_prices_in : List ℕ → M.CellPrices
cell_prices_in r = cell_prices_said (cell_of r)

-- a cell's quantities beside its prices, as a message has them
abbrev pub cell_pair : List ℕ → M.Cell × M.CellPrices
cell_pair r = (cell_in r, cell_prices_in r)

abbrev pub reactive_in : Reactive → M.Reactive
reactive_in x = record { q = less kvar_offset x.q.0; qru = x.qru.0; qrd = x.qrd.0 }

abbrev pub setting_in : List ℕ → M.Setting
setting_in r = record {
  on = (setting_of r).on;
  online = (setting_of r).online.0;
  reserves = eight_in (setting_of r).reserves;
  reactive = reactive_in (setting_of r).reactive;
}

abbrev pub minima_in : List ℕ → M.Minima
minima_in r = record { rru = (minima_of r).rru.0; rrd = (minima_of r).rrd.0; reactive = record { qru = (minima_of r).qru.0; qrd = (minima_of r).qrd.0 } }

abbrev pub start_in : StartWindow → M.StartWindow
start_in w = record { from = w.from; until = w.until; most = w.most }

abbrev pub energy_in : EnergyWindow → M.EnergyWindow
energy_in w = record { kind = w.kind; from = w.from; until = w.until; energy = w.energy.0 }

abbrev pub shares_in : List ℕ → M.Shares
shares_in r = record { rgu = (zone_of r).rgu; rgd = (zone_of r).rgd; scr = (zone_of r).scr; nsc = (zone_of r).nsc }

unfoldable pub zone_in : List ℕ → List (List ℕ) → M.Zone
zone_in r minima = record { shares = shares_in r; minima = map minima_in minima }

abbrev pub six_in : List ℕ → M.Six
six_in l = record { rgu = get_or l 0 0; rgd = get_or l 1 0; scr = get_or l 2 0; nsc = get_or l 3 0; rru = get_or l 4 0; rrd = get_or l 5 0 }

-- the prices of a zone's shortfalls
abbrev pub kinds_in : Zone → M.Kinds
kinds_in z = record { six = six_in z.prices; reactive = record { qru = z.qru.0; qrd = z.qrd.0 } }

abbrev pub line_in : Line → M.Line
line_in l = record { offset = less kvar_offset l.offset.0; slope = less slope_offset l.slope }

abbrev pub link_in : Link → M.Link
link_in l = record { kind = l.kind; upper = line_in l.upper; lower = line_in l.lower }

unfoldable pub device_in : Device → List (List ℕ) → M.Device
device_in d cells = record {
  side = d.side;
  zone_bits = d.zonebits;
  on0 = d.on0;
  power0 = d.power0.0;
  minutes0 = d.minutes0;
  min_up = d.minup;
  min_down = d.mindown;
  ramps = record { up = get_or d.ramps 0 0; down = get_or d.ramps 1 0; starting = get_or d.ramps 2 0; stopping = get_or d.ramps 3 0 };
  limits = limits_in d.limits;
  longest = map (λ s. s.longest) (take d.nstates d.states);
  start_windows = map start_in (take d.nstarts d.starts);
  energy_windows = map energy_in (take d.nenergies d.energies);
  link = link_in d.link;
  bar = d.bar;
  cells = map cell_in cells;
}

unfoldable pub device_prices_in : Device → List (List ℕ) → M.DevicePrices
device_prices_in d cells = record {
  on_cost = d.oncost;
  start_cost = d.startcost.0;
  stop_cost = d.stopcost.0;
  state_costs = map (λ s. less cost_offset s.cost) (take d.nstates d.states);
  cells = map cell_prices_in cells;
}

-- ---- a case and a plan

unfoldable pub system_in : (halves : List ℕ) (zones minima devices cells : List (List ℕ)) → System
system_in halves zones minima devices cells = record {
  halves = halves;
  link_limit = limit_at devices;
  zones = rows (λ z. zone_in (get_or zones z []) (part (length halves) z minima)) (length zones);
  devices = rows (λ i. device_in (device_of (get_or devices i [])) (part (length halves) i cells)) (length devices);
}

unfoldable pub prices_in : Front → (m : ℕ) (zones devices cells : List (List ℕ)) → Prices
prices_in front m zones devices cells = record {
  mismatch = front.mismatch;
  overrun = front.overrun;
  zones = rows (λ z. kinds_in (zone_of (get_or zones z []))) (length zones);
  devices = rows (λ i. device_prices_in (device_of (get_or devices i [])) (part m i cells)) (length devices);
}

abbrev pub case_in : Front → (halves : List ℕ) (zones minima devices cells : List (List ℕ)) → Case
case_in front halves zones minima devices cells = record { system = system_in halves zones minima devices cells; prices = prices_in front (length halves) zones devices cells }

-- n devices, m intervals
unfoldable pub plan_in : (n m : ℕ) → List (List ℕ) → Plan
plan_in n m settings = record {
  settings = rows (λ t. rows (λ i. setting_in (get_or (part m i settings) t [])) n) m;
  flows = rows (λ t. less kvar_offset (flow_at settings t)) m;
}

-- ---- what the code may rely on

-- the longest day: 96 intervals of 360 minutes
abbrev pub last_minute : ℕ
last_minute = 34560

-- a power of a plan before any rule holds: its online power, and at most one trajectory for each interval, of 100,000 each
abbrev pub most_power : ℕ
most_power = 10000000

-- absent blocks have cap 0 and floor 0
pub record Padded (r : List ℕ) : Type 0 where
  pub few : (cell_of r).blocks ≤ 4
  pub absent : (k : ℕ) → (cell_of r).blocks ≤ k → k < 4 → number_of (cell_of r).caps k ≡ 0
  pub no-floor : (k : ℕ) → (cell_of r).blocks ≤ k → k < 4 → number_of (cell_of r).floors k ≡ 0

-- how many a device's lists hold
pub record Counted (d : Device) : Type 0 where
  pub few-states : d.nstates ≤ most_states
  pub few-starts : d.nstarts ≤ most_windows
  pub few-energies : d.nenergies ≤ most_windows

-- a decoded case: a cell for each device and interval, minima for each zone and interval, figures within their ranges
pub record CaseRows (front : Front) (halves : List ℕ) (zones minima devices cells : List (List ℕ)) : Type 0 where
  pub few-devices : length devices ≤ most_devices
  pub few-intervals : length halves ≤ most_intervals
  pub few-zones : length zones ≤ most_zones
  pub cells-full : length cells ≡ length devices * length halves
  pub minima-full : length minima ≡ length zones * length halves
  pub range : CaseRange (case_in front halves zones minima devices cells)
  pub padded : (k : ℕ) → k < length cells → Padded (get_or cells k [])
  pub counted : (i : ℕ) → i < length devices → Counted (device_of (get_or devices i []))

-- a plan for n devices and m intervals
pub record PlanRows (n m : ℕ) (settings : List (List ℕ)) : Type 0 where
  pub full : length settings ≡ n * m
  pub range : (k : ℕ) → k < length settings → SettingRange (setting_in (get_or settings k []))
  pub flows : (t : ℕ) → t < m → flow_at settings t ≤ 2 * kvar_offset

-- the forced figures: S of each interval and the last E; p of each device in each interval, device by device
pub record ForcedRows (q : System) (p : Plan) (n m : ℕ) (starts powers : List ℕ) : Type 0 where
  pub starts-full : length starts ≡ suc m
  pub powers-full : length powers ≡ n * m
  pub start : (t : ℕ) → t ≤ m → get_or starts t 0 ≡ start_of q t
  pub early : (t : ℕ) → t ≤ m → get_or starts t 0 ≤ last_minute
  pub power-is : (t i : ℕ) → t < m → i < n → get_or powers (i * m + t) 0 ≡ power q p t i
  pub small : (k : ℕ) → k < length powers → get_or powers k 0 ≤ most_power

-- all that the rules and the completion are computed from
pub record Ready (front : Front) (halves : List ℕ) (zones minima devices cells settings : List (List ℕ)) (starts powers : List ℕ) : Type 0 where
  pub case_rows : CaseRows front halves zones minima devices cells
  pub plan-rows : PlanRows (length devices) (length halves) settings
  pub forced-rows : ForcedRows (system_in halves zones minima devices cells) (plan_in (length devices) (length halves) settings) (length devices) (length halves) starts powers
