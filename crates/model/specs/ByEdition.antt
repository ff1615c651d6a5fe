-- "Messages": the fields of a case, a plan and a completion, in order, with widths and ranges, for every edition at once.
-- The content is the newest edition's: what an edition lacks takes no bits and has its neutral value (`since`). Parts that no edition has added to are those of `Messages`.
use Rattle.std.specs.Prelude.{Bool, List, ℕ, ◌^◌, min, ℤ, length, ltb, leb, eqb}
use Rattle.bits.specs.Bits.{field_at}
use Rattle.layouts.specs.declared.Fault.TheVariants.{WrongKind}
use Rattle.layouts.specs.Layout.{Field, Layout, Whole, nat, int, ◌then◌, ◌▸◌, list, held, counted, figure, any, count_of, fixed, read_whole, such}
use Rattle.layouts.specs.Since.{since, present}
use Rattle.model.specs.Case.{StartWindow, Line, Link, Block, Cell, Device, Minima, Zone, CellPrices, DevicePrices, Kinds, Case, System, Reactive, Setting}
use Rattle.model.specs.Case.{Plan, no_reactive, ReactiveLimits, ReactiveReserves, no_reactive_limits, no_reactive_reserves, no_line, no_link, no_flow, unit_prices}
use Rattle.std.specs.Int.Signed.{le_z}
use Rattle.model.specs.Forced.{intervals, devices}
use Rattle.model.specs.Editions.{newest, Largest, Widths, widths_of, most_zones, most_states, most_windows}
use Rattle.model.specs.Messages as M
use Rattle.model.specs.Messages.{kw_field, minutes, eight, shares, six, window_ends, energy_window, apart, head, costs, active, last_end, Counts, DeviceChoice, Bars, no_bars, IntervalChoice, Written}

-- ---- the front of a message

-- "kind 4 (1)", (2), (3)
abbrev pub case_kind : ℕ
case_kind = 1

abbrev pub plan_kind : ℕ
plan_kind = 2

abbrev pub completion_kind : ℕ
completion_kind = 3

-- "edition 4", of a case: 1 to the newest
abbrev pub edition_field : Field
edition_field = record { width = 4; low = 1; high = newest; wrong = WrongKind }

-- the edition that a message names, behind its kind
abbrev pub edition_of : List ℕ → ℕ
edition_of s = field_at s 4 4

-- "devices 5 (1..16); intervals 6 (1..48); zones 3 (0..4)", by the edition's widths and limits, up to what the reader takes
abbrev pub device_count_by : Widths → Largest → Field
device_count_by w l = count_of w.device_bits 1 (min l.devices w.device_limit)

abbrev pub interval_count_by : Widths → Largest → Field
interval_count_by w l = count_of w.interval_bits 1 (min l.intervals w.interval_limit)

abbrev pub device_count : ℕ → Largest → Field
device_count e l = device_count_by (widths_of e) l

abbrev pub interval_count : ℕ → Largest → Field
interval_count e l = interval_count_by (widths_of e) l

abbrev pub zone_count : Field
zone_count = count_of 3 0 most_zones

unfoldable pub counts_by : Widths → Largest → Layout Counts
counts_by w l = held
    (λ v. record { devices = v.0; intervals = v.1.0; zones = v.1.1 })
    (λ r. (r.devices, (r.intervals, r.zones)))
    (nat (device_count_by w l) ▸ nat (interval_count_by w l) ▸ nat zone_count)

abbrev pub counts : ℕ → Largest → Layout Counts
counts e l = counts_by (widths_of e) l

-- ---- Case

-- reactive power in kvar: 18 bits two's complement, ±100,000; an amount of reserve 17 bits, 0..100,000
abbrev pub signed_kvar : Layout ℤ
signed_kvar = int 18 100000

abbrev pub kvar : Layout ℕ
kvar = figure 17 0 100000

-- "qmin and qmax in kvar (18 bits, ±100,000)"; "A qmin above qmax is a contradiction at qmax"
unfoldable pub reactive_limits : Layout ReactiveLimits
reactive_limits = let l = signed_kvar in held (λ v. record { qmin = v.0; qmax = v.1 }) (λ r. (r.qmin, r.qmax)) (l then (λ low. such (λ high. le_z low high) l))

-- "two reactive reserves .., with prices of 14 bits (0..10,000) per interval in the case"; "up before down"
unfoldable pub reactive_prices : Layout ReactiveReserves
reactive_prices = let l = figure 14 0 10000 in held (λ v. record { qru = v.0; qrd = v.1 }) (λ r. (r.qru, r.qrd)) (l ▸ l)

-- what a cell has from edition 2 on, and what an edition has that lacks it
abbrev pub reactive_cell : Layout (ReactiveLimits × ReactiveReserves)
reactive_cell = reactive_limits ▸ reactive_prices

abbrev pub no_reactive_cell : ReactiveLimits × ReactiveReserves
no_reactive_cell = (no_reactive_limits, no_reactive_reserves)

-- "a floor (17 bits) after each block's cap", since edition 3; "A floor above its cap is a contradiction at the floor"
unfoldable pub block : ℕ → Layout Block
block e = held
    (λ v. record { cap = v.0; floor = v.1 })
    (λ b. (b.cap, b.floor))
    (kw_field then (λ cap. since e 3 0 (such (λ floor. leb floor cap) kw_field)))

-- "status 2 (0 free, 1 on, 2 off); pmin, pmax 17 each; blocks 3 (0..4), each cap 17 and price 15 (±10,000); eight reserve prices 14 each (0..10,000)";
-- "New fields follow, in the order told here, the old ones of their device .. in that interval"
unfoldable pub cell_with : ℕ → Layout Block → Layout (Cell × CellPrices)
cell_with e one = held
    (λ v. let r = v.1.1.1 in (
      record { status = v.0; pmin = v.1.0.0; pmax = v.1.0.1; blocks = v.1.1.0.0; reactive = r.1.0 },
      record { blocks = v.1.1.0.1; reserves = r.0; reactive = r.1.1 },
    ))
    (λ r. let c = r.0 in let x = r.1 in (c.status, ((c.pmin, c.pmax), ((c.blocks, x.blocks), (x.reserves, (c.reactive, x.reactive))))))
    (figure 2 0 2
    ▸ (kw_field then (λ low. such (λ high. leb low high) kw_field))
    ▸ apart (counted (count_of 3 0 4) (one ▸ int 15 10000))
    ▸ eight (figure 14 0 10000)
    ▸ since e 2 no_reactive_cell reactive_cell)

unfoldable pub cell : ℕ → Layout (Cell × CellPrices)
cell e = cell_with e (block e)

-- "each start 16, end 16, most starts 6 (0..48)", by the edition's width and limit
unfoldable pub start_window_by : Widths → ℕ → Layout StartWindow
start_window_by w last = held
    (λ v. record { from = v.0.0; until = v.0.1; most = v.1 })
    (λ r. ((r.from, r.until), r.most))
    (window_ends last ▸ figure w.starts_bits 0 w.most_starts)

abbrev pub start_window : ℕ → ℕ → Layout StartWindow
start_window e last = start_window_by (widths_of e) last

-- "an offset (18, ±100,000) and a slope in thousandths (15, ±10,000)"
unfoldable pub line : Layout Line
line = held (λ v. record { offset = v.0; slope = v.1 }) (λ r. (r.offset, r.slope)) (signed_kvar ▸ int 15 10000)

-- which lines a link kind has: "0 none, 1 two lines, 2 equality"
abbrev pub first_line : ℕ → Bool
first_line kind = ltb 0 kind

abbrev pub second_line : ℕ → Bool
second_line kind = eqb kind 1

-- "a link kind (2 bits ..), then per line, upper before lower, the equality once"; a kind of 3 is out of range
unfoldable pub link : Layout Link
link = held
    (λ v. record { kind = v.0; upper = v.1.0; lower = v.1.1 })
    (λ r. (r.kind, (r.upper, r.lower)))
    (figure 2 0 2 then (λ kind. present (first_line kind) no_line line ▸ present (second_line kind) no_line line))

-- "it gives each device a bar (1 bit, last before its intervals)"
abbrev pub bar : Layout ℕ
bar = figure 1 0 1

-- "Per device": what stands ahead of its intervals, then its cells
unfoldable pub device_by : Widths → ℕ → ℕ → ℕ → ℕ → Layout (Device × DevicePrices)
device_by widths e intervals zones last = held
    (λ v. let h = v.0 in let c = v.1.0 in let w = v.1.1.1 in (
      record {
        side = h.side;
        zone_bits = h.zone_bits;
        on0 = h.on0;
        power0 = h.power0;
        minutes0 = h.minutes0;
        min_up = h.min_up;
        min_down = h.min_down;
        ramps = h.ramps;
        limits = v.1.1.0;
        longest = w.0.0;
        start_windows = w.1.0;
        energy_windows = w.1.1.0;
        link = w.1.1.1.0;
        bar = w.1.1.1.1.0;
        cells = w.1.1.1.1.1.0;
      },
      record { on_cost = c.on; start_cost = c.start; stop_cost = c.stop; state_costs = w.0.1; cells = w.1.1.1.1.1.1 },
    ))
    (λ r. let d = r.0 in let x = r.1 in (
      record { side = d.side; zone_bits = d.zone_bits; on0 = d.on0; power0 = d.power0; minutes0 = d.minutes0; min_up = d.min_up; min_down = d.min_down; ramps = d.ramps },
      (
        record { on = x.on_cost; start = x.start_cost; stop = x.stop_cost },
        (d.limits, ((d.longest, x.state_costs), (d.start_windows, (d.energy_windows, (d.link, (d.bar, (d.cells, x.cells))))))),
      ),
    ))
    (head zones
    ▸ costs
    ▸ eight kw_field
    ▸ apart (counted (count_of 3 0 most_states) (minutes ▸ int 31 1000000000))
    ▸ counted (count_of 3 0 most_windows) (start_window_by widths last)
    ▸ counted (count_of 3 0 most_windows) (energy_window last)
    ▸ since e 2 no_link link
    ▸ since e 5 0 bar
    ▸ apart (list intervals (cell e)))

abbrev pub device : ℕ → ℕ → ℕ → ℕ → Layout (Device × DevicePrices)
device e intervals zones last = device_by (widths_of e) e intervals zones last

-- "two prices, with rru's widths and ranges", "up before down"
unfoldable pub zone_reactive_prices : Layout ReactiveReserves
zone_reactive_prices = let l = figure 7 1 100 in held (λ v. record { qru = v.0; qrd = v.1 }) (λ r. (r.qru, r.qrd)) (l ▸ l)

-- "Zones gain two minima in kvar .., with rru's widths and ranges"
unfoldable pub reactive_minima : Layout ReactiveReserves
reactive_minima = let l = figure 23 0 6400000 in held (λ v. record { qru = v.0; qrd = v.1 }) (λ r. (r.qru, r.qrd)) (l ▸ l)

-- "per interval rru and rrd minima"; behind them, since edition 2, the reactive ones
unfoldable pub minima : ℕ → Layout Minima
minima e = held
    (λ v. record { rru = v.0.rru; rrd = v.0.rrd; reactive = v.1 })
    (λ r. (r, r.reactive))
    (M.minima ▸ since e 2 no_reactive_reserves reactive_minima)

-- "Per zone: shares ..; shortfall prices ..; per interval rru and rrd minima"; "New fields follow .. the old ones .. ahead of its intervals"
unfoldable pub zone : ℕ → ℕ → Layout (Zone × Kinds)
zone e intervals = held
    (λ v. (record { shares = v.0; minima = v.1.1.1 }, record { six = v.1.0; reactive = v.1.1.0 }))
    (λ r. (r.0.shares, (r.1.six, (r.1.reactive, r.0.minima))))
    (shares ▸ six (figure 7 1 100) ▸ since e 2 unit_prices zone_reactive_prices ▸ list intervals (minima e))

-- "the case a link limit (17 bits, after the overrun price)"
abbrev pub link_limit : Layout ℕ
link_limit = kw_field

-- what stands behind the edition: "mismatch price, overrun price 14 each (1..10,000 per kW·min)"; the link's limit; "Per interval: d/2, 8 (1..180)"; zones; devices
unfoldable pub content_by : Widths → ℕ → Largest → Layout Case
content_by w e l = held
    (λ v. let b = v.1.1.1.1 in record {
      system = record { halves = b.0; link_limit = v.1.1.1.0; zones = b.1.0.0; devices = b.1.1.0 };
      prices = record { mismatch = v.1.0; overrun = v.1.1.0; zones = b.1.0.1; devices = b.1.1.1 };
    })
    (λ c. let s = c.system in let x = c.prices in (
      record { devices = length s.devices; intervals = length s.halves; zones = length s.zones },
      (x.mismatch, (x.overrun, (s.link_limit, (s.halves, ((s.zones, x.zones), (s.devices, x.devices)))))),
    ))
    (counts_by w l then (λ n.
    figure 14 1 10000 ▸ figure 14 1 10000 ▸ since e 5 0 link_limit ▸
    (list n.intervals (figure 8 1 180) then (λ halves.
    apart (list n.zones (zone e n.intervals))
    ▸ apart (list n.devices (device_by w e n.intervals n.zones (last_end halves)))))))

abbrev pub content : ℕ → Largest → Layout Case
content e l = content_by (widths_of e) e l

-- a case as its message states it, with the edition that its plans and completions follow
pub record Stated : Type 0 where
  pub edition : ℕ
  pub case : Case

unfoldable pub case_layout : Largest → Layout Stated
case_layout l = held (λ v. record { edition = v.1.0; case = v.1.1 }) (λ r. (case_kind, (r.edition, r.case)))
    (fixed case_kind ▸ (nat edition_field then (λ e. content e l)))

-- ---- Plan

-- "The plan gains q (as qmax) and two reactive reserves (17 each)", "up before down"
unfoldable pub reactive : Layout Reactive
reactive = held (λ v. record { q = v.0; qru = v.1.0; qrd = v.1.1 }) (λ r. (r.q, (r.qru, r.qrd))) (signed_kvar ▸ kvar ▸ kvar)

-- "on 1, online power 17, eight reserves 17 each"; behind them, since edition 2, the reactive figures
unfoldable pub setting : ℕ → Layout Setting
setting e = held
    (λ v. record { on = v.0.0; online = v.0.1.0; reserves = v.0.1.1; reactive = v.1 })
    (λ r. ((r.on, (r.online, r.reserves)), r.reactive))
    (active ▸ since e 2 no_reactive reactive)

-- "the plan, after each interval's devices, a flow from bar 0 to bar 1 (18 bits, ±100,000)"
abbrev pub flow : Layout ℤ
flow = int 18 100000

-- an interval's part of a plan: "per device"; behind them, since edition 5, the flow
abbrev pub planned : ℕ → ℕ → Layout (List Setting × ℤ)
planned e devices = list devices (setting e) ▸ since e 5 no_flow flow

-- "kind 4 (2); edition 4; devices 5; intervals 6, equal to the case's; per interval, per device: .."
unfoldable pub plan_by : Widths → ℕ → ℕ → ℕ → Layout Plan
plan_by w e devices intervals = held
    (λ v. record { settings = v.1.1.1.1.0; flows = v.1.1.1.1.1 })
    (λ p. (plan_kind, (e, (devices, (intervals, (p.settings, p.flows))))))
    (fixed plan_kind ▸ fixed e ▸ nat (count_of w.device_bits devices devices) ▸ nat (count_of w.interval_bits intervals intervals)
    ▸ apart (list intervals (planned e devices)))

abbrev pub plan_layout : ℕ → ℕ → ℕ → Layout Plan
plan_layout e devices intervals = plan_by (widths_of e) e devices intervals

-- ---- Completion

-- "kind 4 (3); edition; devices; intervals; zones", the case's
unfoldable pub completion_front_by : Widths → ℕ → Counts → Layout Counts
completion_front_by w e n = held
    (λ v. record { devices = v.1.1.0; intervals = v.1.1.1.0; zones = v.1.1.1.1 })
    (λ r. (completion_kind, (e, (r.devices, (r.intervals, r.zones)))))
    (fixed completion_kind ▸ fixed e ▸ nat (count_of w.device_bits n.devices n.devices) ▸ nat (count_of w.interval_bits n.intervals n.intervals) ▸ nat (count_of 3 n.zones n.zones))

abbrev pub completion_front : ℕ → Counts → Layout Counts
completion_front e n = completion_front_by (widths_of e) e n

-- "per device started 1, stopped 1, startup state 3 (0 none), four block powers 17 (absent blocks 0)"
abbrev pub device_choice : Layout DeviceChoice
device_choice = M.device_choice

-- "the reactive shortfalls (var, 33 bits each, after the zone's six)", "up before down"
unfoldable pub reactive_choice : Layout ReactiveReserves
reactive_choice = held (λ v. record { qru = v.0; qrd = v.1 }) (λ r. (r.qru, r.qrd)) (any 33 ▸ any 33)

-- "per zone six shortfalls in W, in the order of their prices, 33 each"; behind them, since edition 2, the reactive ones
unfoldable pub zone_choice : ℕ → Layout Kinds
zone_choice e = held (λ v. record { six = v.0; reactive = v.1 }) (λ r. (r.six, r.reactive)) (six (any 33) ▸ since e 2 no_reactive_reserves reactive_choice)

-- "mismatch 23"; since edition 5 one for each bar, "bar 0 first"
unfoldable pub bars_choice : ℕ → Layout Bars
bars_choice e = held (λ v. record { first = v.0; second = v.1 }) (λ r. (r.first, r.second)) (any 23 ▸ since e 5 0 (any 23))

-- an interval's part: "then per zone ..; then mismatch 23", and since edition 2 the reactive one, "(23 bits, after the real one)"
unfoldable pub interval_choice : ℕ → ℕ → ℕ → Layout IntervalChoice
interval_choice e devices zones = held
    (λ v. record { devices = v.0; zones = v.1.0; mismatch = v.1.1.0; reactive_mismatch = v.1.1.1 })
    (λ r. (r.devices, (r.zones, (r.mismatch, r.reactive_mismatch))))
    (list devices device_choice ▸ list zones (zone_choice e) ▸ bars_choice e ▸ since e 2 no_bars (bars_choice e))

-- "Then each energy window's overrun 32, in case order; surplus 64 signed"
unfoldable pub completion_by : Widths → ℕ → Counts → ℕ → Layout Written
completion_by w e n windows = held
    (λ v. record { intervals = v.1.0; overruns = v.1.1.0; surplus = v.1.1.1 })
    (λ r. (n, (r.intervals, (r.overruns, r.surplus))))
    (completion_front_by w e n ▸ list n.intervals (interval_choice e n.devices n.zones) ▸ list windows (any 32) ▸ int 64 (2 ^ 63))

abbrev pub completion_layout : ℕ → Counts → ℕ → Layout Written
completion_layout e n windows = completion_by (widths_of e) e n windows

-- ---- reading

-- a case, by a reader that takes counts up to these
unfoldable pub stated_in : Largest → List ℕ → Whole Stated
stated_in l s = read_whole (case_layout l) s

-- a plan, of its case's edition
unfoldable pub planned_in : ℕ → System → List ℕ → Whole Plan
planned_in e q s = read_whole (plan_layout e (devices q) (intervals q)) s
