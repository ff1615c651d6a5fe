-- The ranges of a case and a plan that pass reading, in every edition.
use Rattle.std.specs.Prelude.{◌≡◌, refl, Bool, true, false, List, ℕ, ◌≤◌, length, T, leb, nat_abs}
use Rattle.std.proofs.Common.{arith, leb→le, le→leb}
use Rattle.std.proofs.lemmas.List.{length-map}
use Rattle.numbers.specs.Sum.{All, all_map}
use Rattle.numbers.specs.Every.{map-of-all}
use Rattle.model.specs.Case.{Reserves, Ramps, StartWindow, EnergyWindow, Shares, Six, Kinds, Minima, Cell, CellPrices, Device, DevicePrices, Zone, System, Prices, no_flow}
use Rattle.model.specs.Case.{Block, Case, Plan, Reactive, Setting, no_reactive, ReactiveLimits, ReactiveReserves, Line, Link, no_line, no_link, no_reactive_reserves, unit_prices}
use Rattle.layouts.specs.Layout.{Layout, Field, nat, list, counted, ◌then◌, ◌▸◌, such, passes, figure, any, count_of, int}
use Rattle.model.specs.Widths.{bounded}
use Rattle.model.specs.Editions.{newest, Largest, batch, devices_in, intervals_in, most_devices, most_intervals, most_zones, most_states, most_windows, starts_bits, most_starts}
use Rattle.model.specs.Messages as M
use Rattle.model.specs.Messages.{edition1}
use Rattle.model.specs.ByEdition as B
use Rattle.model.specs.ByEdition.{Stated, stated_in, planned_in}
use Rattle.model.specs.AsBefore.{first}
use Rattle.model.proofs.AsBefore.{first-as}
use Rattle.layouts.specs.As.{as-checked}
use Rattle.layouts.specs.Since.{has, present, since}
use Rattle.layouts.specs.Checked.{Checked}
use Rattle.layouts.specs.Sure.{Sure, Any, nat-sure, int-sure, list-sure, such-sure, held-sure, then-sure, present-sure, whole-sure, weaken-sure, sure-checked}

pub pair-sure : {A B : Type 0} (l : Layout A) (m : Layout B) (P : A → Type 0) (Q : B → Type 0) → Sure l P → Sure m Q → Sure (l ▸ m) (λ x. P x.0 × Q x.1)
pair-sure l m P Q u v = then-sure l (λ a. m) P (λ a. Q) u (λ a. v)

pub counted-sure : {A : Type 0} (f : Field) (l : Layout A) (P : A → Type 0) → Sure l P → Sure (counted f l) (λ xs. (length xs ≤ f.high) × All P xs)
unfolding counted
counted-sure f l P u = held-sure _ _ _ _ _ (then-sure (nat f) (λ n. list n l) _ (λ n xs. (length xs ≡ n) × All P xs) (nat-sure f)
    (λ n. list-sure n l P u)) (λ a ok. (omega arith, ok.1.1))

-- what came with an edition, whose neutral value is in its range
pub since-sure : {A : Type 0} (e k : ℕ) (neutral : A) (l : Layout A) (P : A → Type 0) → Sure l P → P neutral → Sure (since e k neutral l) P
since-sure e k neutral l P u n = present-sure (has k e) neutral l P u n

-- a field whose test is not asked for
pub tested-sure : {A : Type 0} (ok : A → Bool) (l : Layout A) (P : A → Type 0) → Sure l P → Sure (such ok l) P
tested-sure ok l P u = weaken-sure (such ok l) _ P (such-sure ok l P u) (λ a k. k.0)

-- a cell: status, pmin and pmax, at most four blocks, each cap, qmin and qmax
pub record ReactiveLimitRange (r : ReactiveLimits) : Type 0 where
  pub qmin : nat_abs r.qmin ≤ 100000
  pub qmax : nat_abs r.qmax ≤ 100000

-- a block: its cap, and a floor that is not above it
pub record BlockRange (b : Block) : Type 0 where
  pub cap : b.cap ≤ 100000
  pub floor : b.floor ≤ b.cap

pub record CellRange (c : Cell) : Type 0 where
  pub status : c.status ≤ 2
  pub pmin : c.pmin ≤ 100000
  pub pmax : c.pmax ≤ 100000
  pub blocks : length c.blocks ≤ 4
  pub each : All BlockRange c.blocks
  pub reactive : ReactiveLimitRange c.reactive

pub apart-sure : {A B : Type 0} (l : Layout (List (A × B))) (n : ℕ) (P : A → Type 0) (Q : B → Type 0)
    → Sure l (λ xs. (length xs ≤ n) × All (λ x. P x.0 × Q x.1) xs) → Sure (M.apart l) (λ v. (length v.0 ≤ n) × All P v.0 × All Q v.1)
unfolding M.apart
apart-sure l n P Q u = held-sure _ _ _ _ _ u (λ xs ok. (
  rw length-map ok.0,
  map-of-all P (λ x. x.0) xs (all_map (λ x k. k.0) xs ok.1),
  map-of-all Q (λ x. x.1) xs (all_map (λ x k. k.1) xs ok.1),
))

pub figure-sure : (w low high : ℕ) → Sure (figure w low high) (λ v. v ≤ high)
figure-sure w low high = weaken-sure (figure w low high) _ _ (nat-sure (record { width = w; low = low; high = high; wrong = _ })) (λ a ok. ok.1)

-- each of the eight
pub record Eight (P : ℕ → Type 0) (r : Reserves) : Type 0 where
  pub rgu : P r.rgu
  pub rgd : P r.rgd
  pub scr : P r.scr
  pub nsc : P r.nsc
  pub rru_on : P r.rru_on
  pub rru_off : P r.rru_off
  pub rrd_on : P r.rrd_on
  pub rrd_off : P r.rrd_off

pub eight-sure : (l : Layout ℕ) (P : ℕ → Type 0) → Sure l P → Sure (M.eight l) (Eight P)
unfolding M.eight
eight-sure l P u = held-sure _ _ _ _ _
    (pair-sure _ _ _ _ u (pair-sure _ _ _ _ u (pair-sure _ _ _ _ u (pair-sure _ _ _ _ u (pair-sure _ _ _ _ u (pair-sure _ _ _ _ u (pair-sure _ _ _ _ u u)))))))
    (λ v ok. record {
      rgu = ok.0;
      rgd = ok.1.0;
      scr = ok.1.1.0;
      nsc = ok.1.1.1.0;
      rru_on = ok.1.1.1.1.0;
      rru_off = ok.1.1.1.1.1.0;
      rrd_on = ok.1.1.1.1.1.1.0;
      rrd_off = ok.1.1.1.1.1.1.1;
    })

pub record ReactivePriceRange (r : ReactiveReserves) : Type 0 where
  pub qru : r.qru ≤ 10000
  pub qrd : r.qrd ≤ 10000

pub record CellPriceRange (c : CellPrices) : Type 0 where
  pub blocks : All (λ x. nat_abs x ≤ 10000) c.blocks
  pub reserves : Eight (λ r. r ≤ 10000) c.reserves
  pub reactive : ReactivePriceRange c.reactive

pub reactive-cell-sure : Sure B.reactive_cell (λ v. ReactiveLimitRange v.0 × ReactivePriceRange v.1)
unfolding B.reactive_limits B.reactive_prices
reactive-cell-sure = let l = int-sure 18 100000 in let x = figure-sure 14 0 10000 in pair-sure _ _ _ _
    (held-sure _ _ _ _ _ (then-sure (int 18 100000) _ _ (λ low high. nat_abs high ≤ 100000) l (λ low. tested-sure _ _ _ l)) (λ v ok. record { qmin = ok.0; qmax = ok.1 }))
    (held-sure _ _ _ _ _ (pair-sure _ _ _ _ x x) (λ v ok. record { qru = ok.0; qrd = ok.1 }))

pub block-sure : (e : ℕ) → Sure (B.block e) BlockRange
unfolding B.block
block-sure e = let u = figure-sure 17 0 100000 in held-sure _ _ _ _ _
    (then-sure M.kw_field _ _ (λ cap floor. T (leb floor cap)) u (λ cap. since-sure e 3 0 _ (λ floor. T (leb floor cap))
    (weaken-sure _ _ _ (such-sure (λ floor. leb floor cap) M.kw_field _ u) (λ a ok. ok.1)) (le→leb 0 cap (omega arith))))
    (λ v ok. record { cap = ok.0; floor = leb→le _ _ ok.1 })

pub cell-sure : (e : ℕ) → Sure (B.cell e) (λ v. CellRange v.0 × CellPriceRange v.1)
unfolding B.cell B.cell_with
cell-sure e = held-sure _ _ _ _ _
    (pair-sure _ _ _ _ (figure-sure 2 0 2)
    (pair-sure _ _ _ _ (then-sure M.kw_field _ _ (λ low high. high ≤ 100000) (figure-sure 17 0 100000) (λ low. tested-sure _ _ _ (figure-sure 17 0 100000)))
    (pair-sure _ _ _ _ (apart-sure _ 4 BlockRange (λ x. nat_abs x ≤ 10000) (counted-sure (count_of 3 0 4) _ _ (pair-sure _ _ _ _ (block-sure e) (int-sure 15 10000))))
    (pair-sure _ _ _ _ (eight-sure _ _ (figure-sure 14 0 10000))
    (since-sure e 2 B.no_reactive_cell B.reactive_cell _ reactive-cell-sure (record { qmin = omega arith; qmax = omega arith }, record { qru = omega arith; qrd = omega arith }))))))
    (λ v ok. let r = ok.1.1.1 in (
      record { status = ok.0; pmin = ok.1.0.0; pmax = ok.1.0.1; blocks = ok.1.1.0.0; each = ok.1.1.0.1; reactive = r.1.0 },
      record { blocks = ok.1.1.0.2; reserves = r.0; reactive = r.1.1 },
    ))

-- a device: what stands ahead of its intervals, and a cell for each interval
pub record RampsRange (r : Ramps) : Type 0 where
  pub up : r.up ≤ 100000
  pub down : r.down ≤ 100000
  pub starting : r.starting ≤ 100000
  pub stopping : r.stopping ≤ 100000

pub record HeadRange (h : M.Head) : Type 0 where
  pub side : h.side ≤ 1
  pub zone_bits : h.zone_bits ≤ 15
  pub on0 : h.on0 ≤ 1
  pub power0 : h.power0 ≤ 100000
  pub minutes0 : h.minutes0 ≤ 60000
  pub min_up : h.min_up ≤ 60000
  pub min_down : h.min_down ≤ 60000
  pub ramps : RampsRange h.ramps

-- what stands ahead of a device's costs, as the layout groups it
abbrev pub head_of : Device → M.Head
head_of d = record { side = d.side; zone_bits = d.zone_bits; on0 = d.on0; power0 = d.power0; minutes0 = d.minutes0; min_up = d.min_up; min_down = d.min_down; ramps = d.ramps }

pub record StartRange (w : StartWindow) : Type 0 where
  pub from : w.from ≤ 65535
  pub until : w.until ≤ 65535
  pub most : w.most ≤ most_starts newest

pub record EnergyRange (w : EnergyWindow) : Type 0 where
  pub kind : w.kind ≤ 1
  pub from : w.from ≤ 65535
  pub until : w.until ≤ 65535
  pub energy : w.energy ≤ 4000000000

-- a line, and a link
pub record LineRange (l : Line) : Type 0 where
  pub offset : nat_abs l.offset ≤ 100000
  pub slope : nat_abs l.slope ≤ 10000

pub record LinkRange (l : Link) : Type 0 where
  pub kind : l.kind ≤ 2
  pub upper : LineRange l.upper
  pub lower : LineRange l.lower

pub no-line : LineRange no_line
no-line = record { offset = omega arith; slope = omega arith }

line-sure : Sure B.line LineRange
unfolding B.line
line-sure = held-sure _ _ _ _ _ (pair-sure _ _ _ _ (int-sure 18 100000) (int-sure 15 10000)) (λ v ok. record { offset = ok.0; slope = ok.1 })

-- a line that a link kind has or lacks
with-line : (b : Bool) → Sure (present b no_line B.line) LineRange
with-line b = present-sure b no_line B.line LineRange line-sure no-line

pub link-sure : Sure B.link LinkRange
unfolding B.link
link-sure = held-sure _ _ _ _ _
    (then-sure (figure 2 0 2) _ _ (λ kind v. LineRange v.0 × LineRange v.1) (figure-sure 2 0 2) (λ kind. pair-sure _ _ _ _ (with-line _) (with-line _)))
    (λ v ok. record { kind = ok.0; upper = ok.1.0; lower = ok.1.1 })

pub record DeviceRange (intervals : ℕ) (d : Device) : Type 0 where
  pub head : HeadRange (head_of d)
  pub limits : Eight (λ r. r ≤ 100000) d.limits
  pub longest : All (λ x. x ≤ 60000) d.longest
  pub start_windows : All StartRange d.start_windows
  pub states : length d.longest ≤ most_states
  pub starts : length d.start_windows ≤ most_windows
  pub energies : length d.energy_windows ≤ most_windows
  pub bar : d.bar ≤ 1
  pub energy : All EnergyRange d.energy_windows
  pub link : LinkRange d.link
  pub each : length d.cells ≡ intervals
  pub cells : All CellRange d.cells

ramps-sure : Sure M.ramps RampsRange
unfolding M.ramps
ramps-sure = let u = figure-sure 17 1 100000 in held-sure _ _ _ _ _ (pair-sure _ _ _ _ u (pair-sure _ _ _ _ u (pair-sure _ _ _ _ u u)))
    (λ v ok. record { up = ok.0; down = ok.1.0; starting = ok.1.1.0; stopping = ok.1.1.1 })

pub head-sure : (zones : ℕ) → Sure (M.head zones) HeadRange
unfolding M.head M.zone_bits
head-sure zones = let f = figure-sure 16 0 60000 in let b = figure-sure 1 0 1 in held-sure _ _ _ _ _
    (pair-sure _ _ _ _ b (pair-sure _ _ _ _ (tested-sure _ _ _ (figure-sure 4 0 15)) (pair-sure _ _ _ _ b (pair-sure _ _ _ _ (figure-sure 17 0 100000)
    (pair-sure _ _ _ _ f (pair-sure _ _ _ _ f (pair-sure _ _ _ _ f ramps-sure)))))))
    (λ v ok. record {
      side = ok.0;
      zone_bits = ok.1.0;
      on0 = ok.1.1.0;
      power0 = ok.1.1.1.0;
      minutes0 = ok.1.1.1.1.0;
      min_up = ok.1.1.1.1.1.0;
      min_down = ok.1.1.1.1.1.1.0;
      ramps = ok.1.1.1.1.1.1.1;
    })

pub costs-sure : Sure M.costs (λ x. (x.on ≤ 100000) × (x.start ≤ 1000000000) × (x.stop ≤ 1000000000))
unfolding M.costs
costs-sure = let u = figure-sure 30 0 1000000000 in held-sure _ _ _ _ _ (pair-sure _ _ _ _ (figure-sure 17 0 100000) (pair-sure _ _ _ _ u u)) (λ v ok. (ok.0, ok.1.0, ok.1.1))

ends-sure : (last : ℕ) → Sure (M.window_ends last) (λ v. (v.0 ≤ 65535) × (v.1 ≤ 65535))
unfolding M.window_ends
ends-sure last = then-sure (any 16) _ _ (λ a b. b ≤ 65535) (figure-sure 16 0 65535) (λ a. tested-sure _ _ _ (figure-sure 16 0 65535))

pub start-sure : (e last : ℕ) → Sure (B.start_window e last) StartRange
unfolding B.start_window_by
start-sure e last = held-sure _ _ _ _ _ (pair-sure _ _ _ _ (ends-sure last) (figure-sure (starts_bits e) 0 (most_starts e)))
    (λ v ok. record { from = ok.0.0; until = ok.0.1; most = omega (arith, (bounded e).most_starts) })

pub energy-sure : (last : ℕ) → Sure (M.energy_window last) EnergyRange
unfolding M.energy_window
energy-sure last = held-sure _ _ _ _ _ (pair-sure _ _ _ _ (figure-sure 1 0 1) (pair-sure _ _ _ _ (ends-sure last) (figure-sure 32 0 4000000000)))
    (λ v ok. record { kind = ok.0; from = ok.1.0.0; until = ok.1.0.1; energy = ok.1.1 })

pub some-sure : {A B : Type 0} (n : ℕ) (l : Layout (A × B)) (P : A → Type 0) (Q : B → Type 0) → Sure l (λ x. P x.0 × Q x.1)
    → Sure (M.apart (list n l)) (λ v. (length v.0 ≡ n) × All P v.0 × All Q v.1)
unfolding M.apart
some-sure n l P Q u = held-sure _ _ _ _ _ (list-sure n l (λ x. P x.0 × Q x.1) u)
    (λ xs ok. (rw length-map ok.0, map-of-all P (λ x. x.0) xs (all_map (λ x k. k.0) xs ok.1), map-of-all Q (λ x. x.1) xs (all_map (λ x k. k.1) xs ok.1)))

pub record DevicePriceRange (x : DevicePrices) : Type 0 where
  pub on : x.on_cost ≤ 100000
  pub start : x.start_cost ≤ 1000000000
  pub stop : x.stop_cost ≤ 1000000000
  pub states : All (λ z. nat_abs z ≤ 1000000000) x.state_costs
  pub cells : All CellPriceRange x.cells

pub bar-sure : (e : ℕ) → Sure (since e 5 0 B.bar) (λ b. b ≤ 1)
bar-sure e = since-sure e 5 0 B.bar _ (figure-sure 1 0 1) (omega arith)

device-sure : (e intervals zones last : ℕ) → Sure (B.device e intervals zones last) (λ v. DeviceRange intervals v.0 × DevicePriceRange v.1)
unfolding B.device_by
device-sure e n zones last = held-sure _ _ _ _ _
    (pair-sure _ _ _ _ (head-sure zones)
    (pair-sure _ _ _ _ costs-sure
    (pair-sure _ _ _ _ (eight-sure _ _ (figure-sure 17 0 100000))
    (pair-sure _ _ _ _ (apart-sure _ most_states (λ x. x ≤ 60000) (λ z. nat_abs z ≤ 1000000000)
    (counted-sure (count_of 3 0 most_states) _ _ (pair-sure _ _ _ _ (figure-sure 16 0 60000) (int-sure 31 1000000000))))
    (pair-sure _ _ _ _ (counted-sure (count_of 3 0 most_windows) _ _ (start-sure e last))
    (pair-sure _ _ _ _ (counted-sure (count_of 3 0 most_windows) _ _ (energy-sure last))
    (pair-sure _ _ _ _ (since-sure e 2 no_link B.link _ link-sure (record { kind = omega arith; upper = no-line; lower = no-line }))
    (pair-sure _ _ _ _ (bar-sure e)
    (some-sure n (B.cell e) CellRange CellPriceRange (cell-sure e))))))))))
    (λ v ok. (
      record {
        head = ok.0;
        limits = ok.1.1.0;
        longest = ok.1.1.1.0.1;
        start_windows = ok.1.1.1.1.0.1;
        states = ok.1.1.1.0.0;
        starts = ok.1.1.1.1.0.0;
        energies = ok.1.1.1.1.1.0.0;
        energy = ok.1.1.1.1.1.0.1;
        link = ok.1.1.1.1.1.1.0;
        bar = ok.1.1.1.1.1.1.1.0;
        each = ok.1.1.1.1.1.1.1.1.0;
        cells = ok.1.1.1.1.1.1.1.1.1;
      },
      record { on = ok.1.0.0; start = ok.1.0.1; stop = ok.1.0.2; states = ok.1.1.1.0.2; cells = ok.1.1.1.1.1.1.1.1.2 },
    ))

pub record SharesRange (s : Shares) : Type 0 where
  pub rgu : s.rgu ≤ 1000
  pub rgd : s.rgd ≤ 1000
  pub scr : s.scr ≤ 1000
  pub nsc : s.nsc ≤ 1000

-- two figures of reactive reserves, of a zone
pub record TwoRange (most : ℕ) (r : ReactiveReserves) : Type 0 where
  pub qru : r.qru ≤ most
  pub qrd : r.qrd ≤ most

pub record MinimaRange (m : Minima) : Type 0 where
  pub rru : m.rru ≤ 6400000
  pub rrd : m.rrd ≤ 6400000
  pub reactive : TwoRange 6400000 m.reactive

pub record ZoneRange (z : Zone) : Type 0 where
  pub shares : SharesRange z.shares
  pub minima : All MinimaRange z.minima

pub shares-sure : Sure M.shares SharesRange
unfolding M.shares
shares-sure = let u = figure-sure 10 0 1000 in held-sure _ _ _ _ _ (pair-sure _ _ _ _ u (pair-sure _ _ _ _ u (pair-sure _ _ _ _ u u)))
    (λ v ok. record { rgu = ok.0; rgd = ok.1.0; scr = ok.1.1.0; nsc = ok.1.1.1 })

reactive-minima-sure : Sure B.reactive_minima (TwoRange 6400000)
unfolding B.reactive_minima
reactive-minima-sure = let u = figure-sure 23 0 6400000 in held-sure _ _ _ _ _ (pair-sure _ _ _ _ u u) (λ v ok. record { qru = ok.0; qrd = ok.1 })

minima-sure : (e : ℕ) → Sure (B.minima e) MinimaRange
unfolding M.minima B.minima
minima-sure e = let u = figure-sure 23 0 6400000 in held-sure _ _ _ _ _
    (pair-sure _ _ _ _ (held-sure _ _ _ _ (λ m. (m.rru ≤ 6400000) × (m.rrd ≤ 6400000)) (pair-sure _ _ _ _ u u) (λ v ok. ok))
    (since-sure e 2 no_reactive_reserves B.reactive_minima _ reactive-minima-sure (record { qru = omega arith; qrd = omega arith })))
    (λ v ok. record { rru = ok.0.0; rrd = ok.0.1; reactive = ok.1 })

pub record SixRange (r : Six) : Type 0 where
  pub rgu : r.rgu ≤ 100
  pub rgd : r.rgd ≤ 100
  pub scr : r.scr ≤ 100
  pub nsc : r.nsc ≤ 100
  pub rru : r.rru ≤ 100
  pub rrd : r.rrd ≤ 100

pub six-sure : Sure (M.six (figure 7 1 100)) SixRange
unfolding M.six
six-sure = let u = figure-sure 7 1 100 in
    held-sure _ _ _ _ _ (pair-sure _ _ _ _ u (pair-sure _ _ _ _ u (pair-sure _ _ _ _ u (pair-sure _ _ _ _ u (pair-sure _ _ _ _ u u)))))
    (λ v ok. record { rgu = ok.0; rgd = ok.1.0; scr = ok.1.1.0; nsc = ok.1.1.1.0; rru = ok.1.1.1.1.0; rrd = ok.1.1.1.1.1 })

-- the prices of a zone's shortfalls
pub record KindsRange (r : Kinds) : Type 0 where
  pub six : SixRange r.six
  pub reactive : TwoRange 100 r.reactive

zone-prices-sure : Sure B.zone_reactive_prices (TwoRange 100)
unfolding B.zone_reactive_prices
zone-prices-sure = let u = figure-sure 7 1 100 in held-sure _ _ _ _ _ (pair-sure _ _ _ _ u u) (λ v ok. record { qru = ok.0; qrd = ok.1 })

pub zone-sure : (e intervals : ℕ) → Sure (B.zone e intervals) (λ v. ZoneRange v.0 × KindsRange v.1)
unfolding B.zone
zone-sure e n = held-sure _ _ _ _ _
    (pair-sure _ _ _ _ shares-sure (pair-sure _ _ _ _ six-sure
    (pair-sure _ _ _ _ (since-sure e 2 unit_prices B.zone_reactive_prices _ zone-prices-sure (record { qru = omega arith; qrd = omega arith }))
    (list-sure n (B.minima e) _ (minima-sure e)))))
    (λ v ok. (record { shares = ok.0; minima = ok.1.1.1.1 }, record { six = ok.1.0; reactive = ok.1.1.0 }))

-- the quantities of a case
pub record SystemRange (q : System) : Type 0 where
  pub some_interval : 1 ≤ length q.halves
  pub intervals : length q.halves ≤ most_intervals
  pub halves : All (λ h. h ≤ 180) q.halves
  pub link_limit : q.link_limit ≤ 100000
  pub some_device : 1 ≤ length q.devices
  pub devices : length q.devices ≤ most_devices
  pub each_device : All (DeviceRange (length q.halves)) q.devices
  pub zones : length q.zones ≤ most_zones
  pub each_zone : All ZoneRange q.zones

-- the prices of a case
pub record PricesRange (x : Prices) : Type 0 where
  pub mismatch : x.mismatch ≤ 10000
  pub overrun : x.overrun ≤ 10000
  pub zones : All KindsRange x.zones
  pub devices : All DevicePriceRange x.devices

pub record CaseRange (c : Case) : Type 0 where
  pub system : SystemRange c.system
  pub prices : PricesRange c.prices

-- what is read of a case's counts
abbrev Counted : ℕ → ℕ → M.Counts → Type 0
Counted devices intervals n = ((1 ≤ n.devices) × (n.devices ≤ devices)) × ((1 ≤ n.intervals) × (n.intervals ≤ intervals)) × (n.zones ≤ most_zones)

pub counts-sure : (e : ℕ) (l : Largest) → Sure (B.counts e l) (Counted (devices_in e l) (intervals_in e l))
unfolding B.counts_by
counts-sure e l = held-sure _ _ _ _ _ (pair-sure _ _ _ _ (nat-sure _) (pair-sure _ _ _ _ (nat-sure _) (nat-sure _))) (λ v ok. (ok.0, ok.1.0, ok.1.1.1))

-- a case of edition e as a reader takes it: within the edition's counts and the reader's
pub record Taken (e : ℕ) (l : Largest) (c : Case) : Type 0 where
  pub devices : length c.system.devices ≤ devices_in e l
  pub intervals : length c.system.halves ≤ intervals_in e l
  pub range : CaseRange c

pub record StatedRange (l : Largest) (x : Stated) : Type 0 where
  pub edition : (1 ≤ x.edition) × (x.edition ≤ newest)
  pub case : Taken x.edition l x.case

pub limit-sure : (e : ℕ) → Sure (since e 5 0 B.link_limit) (λ x. x ≤ 100000)
limit-sure e = since-sure e 5 0 B.link_limit _ (figure-sure 17 0 100000) (omega arith)

-- any reader that takes no more than the most
module _ (l : Largest) (most : l.devices ≤ most_devices) (long : l.intervals ≤ most_intervals) where
  pub content-sure : (e : ℕ) → Sure (B.content e l) (Taken e l)
  unfolding B.content_by
  content-sure e = held-sure _ _ _ _ _
      (then-sure (B.counts e l) _ _ _ (counts-sure e l) (λ n.
      pair-sure _ _ _ _ (figure-sure 14 1 10000) (pair-sure _ _ _ _ (figure-sure 14 1 10000) (pair-sure _ _ _ _ (limit-sure e)
      (then-sure (list n.intervals (figure 8 1 180)) _ _ _ (list-sure _ _ _ (figure-sure 8 1 180)) (λ halves.
      pair-sure _ _ _ _ (some-sure n.zones _ ZoneRange KindsRange (zone-sure e n.intervals))
      (some-sure n.devices _ (DeviceRange n.intervals) DevicePriceRange (device-sure e n.intervals n.zones _))))))))
      (λ v ok. let b = ok.1.1.1.1 in let h = b.0 in let z = b.1.0 in let d = b.1.1 in record {
        devices = omega arith;
        intervals = omega arith;
        range = record {
          system = record {
            some_interval = omega arith;
            intervals = omega arith;
            halves = h.1;
            link_limit = ok.1.1.1.0;
            some_device = omega arith;
            devices = omega arith;
            each_device = rw h.0 d.1;
            zones = omega arith;
            each_zone = z.1;
          };
          prices = record { mismatch = ok.1.0; overrun = ok.1.1.0; zones = z.2; devices = d.2 };
        };
      })

  pub stated-sure : Sure (B.case_layout l) (StatedRange l)
  unfolding B.case_layout
  stated-sure = held-sure _ _ _ _ _
      (pair-sure _ _ _ _ (nat-sure _) (then-sure (nat B.edition_field) _ _ _ (nat-sure B.edition_field) (λ e. content-sure e)))
      (λ v ok. record { edition = ok.1.0; case = ok.1.1 })

  -- a case that passes reading is within its ranges
  pub stated-range : (s : List ℕ) (x : Stated) → stated_in l s ≡ passes x → StatedRange l x
  unfolding stated_in
  stated-range s x h = whole-sure (B.case_layout l) (StatedRange l) stated-sure s x h

-- one of edition 1, as it was before there were others, stops or goes on
pub case-checked : Checked (M.case_layout edition1) Any
unfolding first
case-checked = as-checked (first-as batch (omega arith) (omega arith)) _ _ (λ c. c) (λ c. refl) (λ c ok. ok)
    (sure-checked _ _ (held-sure _ _ _ _ Any (pair-sure _ _ _ _ (nat-sure _) (pair-sure _ _ _ _ (nat-sure _) (content-sure batch (omega arith) (omega arith) 1))) (λ v ok. tt)))

-- the reactive figures of a plan's setting
pub record ReactiveRange (x : Reactive) : Type 0 where
  pub q : nat_abs x.q ≤ 100000
  pub qru : x.qru ≤ 100000
  pub qrd : x.qrd ≤ 100000

-- the settings of a plan
pub record SettingRange (x : Setting) : Type 0 where
  pub on : x.on ≤ 1
  pub online : x.online ≤ 100000
  pub reserves : Eight (λ r. r ≤ 100000) x.reserves
  pub reactive : ReactiveRange x.reactive

pub record PlanRange (q : System) (p : Plan) : Type 0 where
  pub intervals : length p.settings ≡ length q.halves
  pub each : All (λ row. (length row ≡ length q.devices) × All SettingRange row) p.settings
  pub flows : All (λ z. nat_abs z ≤ 100000) p.flows

reactive-sure : Sure B.reactive ReactiveRange
unfolding B.reactive
reactive-sure = let u = figure-sure 17 0 100000 in held-sure _ _ _ _ _ (pair-sure _ _ _ _ (int-sure 18 100000) (pair-sure _ _ _ _ u u))
    (λ v ok. record { q = ok.0; qru = ok.1.0; qrd = ok.1.1 })

pub setting-sure : (e : ℕ) → Sure (B.setting e) SettingRange
unfolding M.active B.setting
setting-sure e = held-sure _ _ _ _ _
    (pair-sure _ _ _ _ (pair-sure _ _ _ _ (figure-sure 1 0 1) (pair-sure _ _ _ _ (figure-sure 17 0 100000) (eight-sure _ _ (figure-sure 17 0 100000))))
    (since-sure e 2 no_reactive B.reactive _ reactive-sure (record { q = omega arith; qru = omega arith; qrd = omega arith })))
    (λ v ok. record { on = ok.0.0; online = ok.0.1.0; reserves = ok.0.1.1; reactive = ok.1 })

-- a plan's settings: of so many intervals, each of so many devices; its flows
abbrev pub Settings : ℕ → ℕ → Plan → Type 0
Settings devices intervals p = (length p.settings ≡ intervals) × All (λ row. (length row ≡ devices) × All SettingRange row) p.settings × All (λ z. nat_abs z ≤ 100000) p.flows

pub flow-sure : (e : ℕ) → Sure (since e 5 no_flow B.flow) (λ z. nat_abs z ≤ 100000)
flow-sure e = since-sure e 5 no_flow B.flow _ (int-sure 18 100000) (omega arith)

pub settings-in : (e devices intervals : ℕ) → Sure (B.plan_layout e devices intervals) (Settings devices intervals)
unfolding B.plan_by
settings-in e devices intervals = held-sure _ _ _ _ _
    (pair-sure _ _ _ _ (nat-sure _) (pair-sure _ _ _ _ (nat-sure _) (pair-sure _ _ _ _ (nat-sure _) (pair-sure _ _ _ _ (nat-sure _)
    (some-sure intervals (B.planned e devices) _ _ (pair-sure _ _ _ _ (list-sure _ (B.setting e) SettingRange (setting-sure e)) (flow-sure e)))))))
    (λ v ok. ok.1.1.1.1)

pub planned-sure : (e : ℕ) (q : System) → Sure (B.plan_layout e (length q.devices) (length q.halves)) (PlanRange q)
planned-sure e q = weaken-sure _ (Settings (length q.devices) (length q.halves)) (PlanRange q) (settings-in e (length q.devices) (length q.halves))
    (λ p ok. record { intervals = ok.0; each = ok.1; flows = ok.2 })

pub planned-range : (e : ℕ) (q : System) (s : List ℕ) (p : Plan) → planned_in e q s ≡ passes p → PlanRange q p
unfolding planned_in
planned-range e q s p h = whole-sure _ (PlanRange q) (planned-sure e q) s p h
