-- The figures of a decoded case and plan, by index: their ranges, the blocks of a cell, and what the forced figures are.
use Rattle.std.specs.Prelude.{◌≡◌, refl, ◌⊎◌, Bool, true, false, List, [], map, eqb, length, get_or, take, pos, nat_abs}
use Rattle.std.proofs.Math.Path.{sym, subst}
use Rattle.std.proofs.Common.{ap, ◌∙◌, inl, inr, mul-le-mul, get_or-take, length-take-le}
use Prim.Native.Nat.{ℕ, zero, suc, ◌+◌, ◌-◌, ◌*◌, ◌≤◌, ◌<◌}
use native.Mathlib.Omega.{arith}
use Rattle.std.proofs.Math.Decide.{dec_le}
use borrow.Author.Tests.{eq-eqb, ne_eqb}
use Rattle.std.proofs.Math.ListN.{get_or-eq_default}
use Rattle.std.proofs.Math.IntN.{ℤ}
use Rattle.numbers.specs.Sum.{All}
use Rattle.bits.specs.Pick.{pick}
use Rattle.model.specs.Case as M
use Rattle.model.specs.Case.{System, Plan, Case, no_block, no_cell, no_device, no_zone, no_device_prices, no_cell_prices, no_kinds}
use Rattle.model.specs.Forced as F
use Rattle.model.specs.Completion as C
use Rattle.ranges.specs.Ranges.{CaseRange, DeviceRange, DevicePriceRange, BlockRange, CellRange, CellPriceRange, SettingRange, ZoneRange, SharesRange, KindsRange, MinimaRange, LinkRange, Eight}
use Rattle.ranges.specs.Kept.{kept_small}
use Rattle.numbers.specs.Every.{all-at, all-or, all_get_d}
use Rattle.kilowatts.specs.declared.Kw.{Kw}
use Rattle.kilowatts.specs.Power.{kw}
use Rattle.row_places.specs.declared.State.{State}
use Rattle.row_places.specs.declared.Device.{Device}
use Rattle.row_places.specs.declared.Front.{Front}
use Rattle.row_places.specs.Figures.{no_state, cell_of, setting_of, device_of, zone_of, minima_of, previous_at}
use Rattle.numbers.specs.Parts.{part, part-inside, place_inside, part_at, part-long}
use Rattle.numbers.specs.Ranges.{sum_more, sum-rises}
use Rattle.records.specs.Views.{less, price_offset, cost_offset, limits_in, block_in, four_blocks, cell_in, cell_prices_in, setting_in, shares_in, kinds_in, link_in}
use Rattle.records.specs.Views.{device_in, device_prices_in, system_in, prices_in, case_in, plan_in}
use Rattle.records.specs.Views.{most_devices, most_intervals, most_states, most_windows, most_power, Padded, CaseRows, PlanRows, Ready}
use Rattle.records.specs.Viewed as W
use Rattle.records.specs.Viewed.{get_d_any}

no-prices : CellPriceRange no_cell_prices
no-prices = record {
  blocks = tt;
  reserves = record { rgu = omega arith; rgd = omega arith; scr = omega arith; nsc = omega arith; rru_on = omega arith; rru_off = omega arith; rrd_on = omega arith; rrd_off = omega arith };
  reactive = record { qru = omega arith; qrd = omega arith };
}

-- ---- a device's figures

pub record DeviceSized (d : Device) : Type 0 where
  pub side : d.side ≤ 1
  pub zonebits : d.zonebits ≤ 15
  pub on0 : d.on0 ≤ 1
  pub power0 : d.power0.0 ≤ 100000
  pub minutes0 : d.minutes0 ≤ 60000
  pub minup : d.minup ≤ 60000
  pub mindown : d.mindown ≤ 60000
  pub up : get_or d.ramps 0 0 ≤ 100000
  pub down : get_or d.ramps 1 0 ≤ 100000
  pub starting : get_or d.ramps 2 0 ≤ 100000
  pub stopping : get_or d.ramps 3 0 ≤ 100000
  pub limits : Eight (λ r. r ≤ 100000) (limits_in d.limits)
  pub oncost : d.oncost ≤ 100000
  pub startcost : d.startcost.0 ≤ 1000000000
  pub stopcost : d.stopcost.0 ≤ 1000000000
  pub few-states : d.nstates ≤ most_states
  pub few-starts : d.nstarts ≤ most_windows
  pub few-energies : d.nenergies ≤ most_windows
  pub cost : (k : ℕ) → k < d.nstates → (get_or d.states k no_state).cost ≤ 2000000000

module _ {front : Front} {halves : List ℕ} {zones minima devices cells : List (List ℕ)} (known : CaseRows front halves zones minima devices cells) where
  abbrev q : System
  q = system_in halves zones minima devices cells

  abbrev k : Case
  k = case_in front halves zones minima devices cells

  abbrev m : ℕ
  m = length halves

  abbrev n : ℕ
  n = length devices

  abbrev d : ℕ → Device
  d i = device_of (get_or devices i [])

  pub half-small : (t : ℕ) → get_or halves t 0 ≤ 180
  half-small t = rw (W.halves_are halves zones minima devices cells) at (all_get_d 180 q.halves known.range.system.halves t)

  pub mismatch-price-small : front.mismatch ≤ 10000
  unfolding prices_in
  mismatch-price-small = known.range.prices.mismatch

  pub overrun-price-small : front.overrun ≤ 10000
  unfolding prices_in
  overrun-price-small = known.range.prices.overrun

  module _ (i : ℕ) (l : i < n) where
    pub device-range : DeviceRange (F.intervals q) (F.device q i)
    device-range = all-at (DeviceRange (F.intervals q)) no_device q.devices known.range.system.each_device i (omega (arith, W.devices-are halves zones minima devices cells))

    pub device-price-range : DevicePriceRange (C.device_prices k i)
    device-price-range = all-at DevicePriceRange no_device_prices k.prices.devices known.range.prices.devices i (omega (arith, W.prices-of-devices front halves zones minima devices cells))

    pub device-sized : DeviceSized (d i)
    unfolding device_in device_prices_in
    device-sized =
        let r = subst (DeviceRange (F.intervals q)) (W.device-is halves zones minima devices cells i l) device-range in
        let x = subst DevicePriceRange (W.device-prices-are front halves zones minima devices cells i l) device-price-range in
        let c = known.counted i l in
        record {
          side = r.head.side;
          zonebits = r.head.zone_bits;
          on0 = r.head.on0;
          power0 = r.head.power0;
          minutes0 = r.head.minutes0;
          minup = r.head.min_up;
          mindown = r.head.min_down;
          up = r.head.ramps.up;
          down = r.head.ramps.down;
          starting = r.head.ramps.starting;
          stopping = r.head.ramps.stopping;
          limits = r.limits;
          oncost = x.on;
          startcost = x.start;
          stopcost = x.stop;
          few-states = c.few-states;
          few-starts = c.few-starts;
          few-energies = c.few-energies;
          cost = λ j h. kept_small cost_offset (get_or (d i).states j no_state).cost (cost x.states c.few-states j h);
        }
      where
        f : State → ℤ
        f s = less cost_offset s.cost

        cost : All (λ z. nat_abs z ≤ 1000000000) (map f (take (d i).nstates (d i).states)) → (d i).nstates ≤ most_states → (j : ℕ) → j < (d i).nstates
            → nat_abs (f (get_or (d i).states j no_state)) ≤ 1000000000
        cost h few j b = rw (W.first-at f no_state (d i).nstates (d i).states j b) at
            (all-at (λ z. nat_abs z ≤ 1000000000) (f no_state) (map f (take (d i).nstates (d i).states)) h j (omega (arith, W.firsts-long f no_state (d i).nstates (d i).states few)))

    pub link-range : LinkRange (link_in (d i).link)
    link-range = subst LinkRange (W.link-is halves zones minima devices cells i l) device-range.link

    -- ---- its cell in interval t

    module _ (t : ℕ) (h : t < m) where
      abbrev row : List ℕ
      row = get_or (part m i cells) t []

      pub cell-here : F.cell q t i ≡ cell_in row
      cell-here = W.cell-is halves zones minima devices cells i l t (omega (arith, part-long m i n cells l known.cells-full))

      pub cell-range : CellRange (cell_in row)
      cell-range = subst CellRange cell-here
          (all-at CellRange no_cell (F.device q i).cells device-range.cells t (omega (arith, device-range.each, W.intervals-are halves zones minima devices cells)))

      pub cell-price-range : CellPriceRange (cell_prices_in row)
      cell-price-range = subst CellPriceRange (W.cell-prices-are front halves zones minima devices cells i l t)
          (all-or CellPriceRange no_cell_prices no-prices (C.device_prices k i).cells device-price-range.cells t)

      pub padded-at : Padded row
      padded-at = subst Padded (sym (part_at [] m i cells t h)) (known.padded (i * m + t) (omega (arith, place_inside m i n t l h, known.cells-full)))

      prices-long : length (map (less price_offset) (take (cell_of row).blocks (cell_of row).prices)) ≡ (cell_of row).blocks
      prices-long = W.firsts-long (less price_offset) 0 (cell_of row).blocks (cell_of row).prices padded-at.few

      -- block j, neither cap nor floor where there is none
      pub block_here : (j : ℕ) → j < 4 → get_or (F.cell q t i).blocks j no_block ≡ block_in (cell_of row) j
      block_here j b = ap (λ (c : M.Cell). get_or c.blocks j no_block) cell-here ∙ go (dec_le (cell_of row).blocks j)
        where
          four : (j : ℕ) → j < 4 → get_or (four_blocks (cell_of row)) j no_block ≡ block_in (cell_of row) j
          four zero h = refl
          four (suc zero) h = refl
          four (suc (suc zero)) h = refl
          four (suc (suc (suc zero))) h = refl
          four (suc (suc (suc (suc j)))) h = absurd (omega arith)

          none : {c f : ℕ} → c ≡ 0 → f ≡ 0 → no_block ≡ record { cap = c; floor = f }
          none c f = rw (c, f) refl

          go : Dec ((cell_of row).blocks ≤ j) → get_or (take (cell_of row).blocks (four_blocks (cell_of row))) j no_block ≡ block_in (cell_of row) j
          go (no x) = get_or-take (cell_of row).blocks (four_blocks (cell_of row)) j no_block (omega arith) ∙ four j b
          go (yes x) = get_or-eq_default (take (cell_of row).blocks (four_blocks (cell_of row))) no_block {n = j}
              (omega (arith, length-take-le (cell_of row).blocks (four_blocks (cell_of row)) padded-at.few))
              ∙ none (padded-at.absent j x b) (padded-at.no-floor j x b)

      pub cap-at : (j : ℕ) → j < 4 → (get_or (cell_of row).caps j (kw 0)).0 ≡ F.cap q t i j
      cap-at j b = sym (ap (λ (x : M.Block). x.cap) (block_here j b))

      pub floor-at : (j : ℕ) → j < 4 → (get_or (cell_of row).floors j (kw 0)).0 ≡ F.floor q t i j
      floor-at j b = sym (ap (λ (x : M.Block). x.floor) (block_here j b))

      block-range : (j : ℕ) → BlockRange (get_or (F.cell q t i).blocks j no_block)
      block-range j = all-or BlockRange no_block (record { cap = omega arith; floor = omega arith }) (F.cell q t i).blocks (subst CellRange (sym cell-here) cell-range).each j

      pub cap-small : (j : ℕ) → j < 4 → (get_or (cell_of row).caps j (kw 0)).0 ≤ 100000
      cap-small j b = omega (arith, cap-at j b, (block-range j).cap)

      pub floor-below : (j : ℕ) → j < 4 → (get_or (cell_of row).floors j (kw 0)).0 ≤ (get_or (cell_of row).caps j (kw 0)).0
      floor-below j b = omega (arith, cap-at j b, floor-at j b, (block-range j).floor)

      -- the price of block j, or the block is absent
      pub price-at : (j : ℕ) → j < 4 → (F.cap q t i j ≡ 0) ⊎ (less price_offset (get_or (cell_of row).prices j 0) ≡ C.block_price k t i j)
      price-at j b = go (dec_le (cell_of row).blocks j)
        where
          go : Dec ((cell_of row).blocks ≤ j) → (F.cap q t i j ≡ 0) ⊎ (less price_offset (get_or (cell_of row).prices j 0) ≡ C.block_price k t i j)
          go (yes x) = inl (sym (cap-at j b) ∙ padded-at.absent j x b)
          go (no x) =
              let y : j < (cell_of row).blocks = omega arith in
              inr (sym (
              ap (λ (c : M.CellPrices). get_or c.blocks j (pos 0)) (W.cell-prices-are front halves zones minima devices cells i l t)
              ∙ get_d_any (map (less price_offset) (take (cell_of row).blocks (cell_of row).prices)) j (pos 0) (less price_offset 0) (omega (arith, prices-long))
              ∙ W.first-at (less price_offset) 0 (cell_of row).blocks (cell_of row).prices j y
              ))

  -- ---- zones

  module _ (z : ℕ) (l : z < length zones) where
    pub zone-range : ZoneRange (F.zone q z)
    zone-range = all-at ZoneRange no_zone q.zones known.range.system.each_zone z (omega (arith, W.zones-are halves zones minima devices cells))

    pub shares-small : SharesRange (shares_in (get_or zones z []))
    shares-small = subst SharesRange (W.shares-are halves zones minima devices cells z l) zone-range.shares

    pub zone-prices-small : KindsRange (kinds_in (zone_of (get_or zones z [])))
    zone-prices-small = subst KindsRange (W.zone-prices-are front halves zones minima devices cells z l)
        (all-at KindsRange no_kinds k.prices.zones known.range.prices.zones z (omega (arith, W.prices-of-zones front halves zones minima devices cells)))

-- ---- the plan

pub setting-range : {n m : ℕ} {settings : List (List ℕ)} → PlanRows n m settings → (i t : ℕ) → i < n → t < m → SettingRange (setting_in (get_or (part m i settings) t []))
setting-range {n} {m} {settings} chosen i t l h = rw (part_at [] m i settings t h) (chosen.range (i * m + t) (omega (arith, place_inside m i n t l h, chosen.full)))

-- ---- places in the tables

-- the part of device i, from a on, lies within every table
pub record Room (a m : ℕ) (cells settings : List (List ℕ)) : Type 0 where
  pub in_cells : a + m ≤ length cells
  pub in-settings : a + m ≤ length settings
  pub small : a + m ≤ most_devices * most_intervals

module _ {front : Front} {halves : List ℕ} {zones minima devices cells settings : List (List ℕ)}
    (known : CaseRows front halves zones minima devices cells) (chosen : PlanRows (length devices) (length halves) settings) where
  pub room : (i a : ℕ) → i < length devices → a ≡ i * length halves → Room a (length halves) cells settings
  room i a l e = record {
    in_cells = omega (arith, part-inside (length halves) i (length devices) l, known.cells-full);
    in-settings = omega (arith, part-inside (length halves) i (length devices) l, chosen.full);
    small = omega (arith, part-inside (length halves) i (length devices) l, mul-le-mul known.few-devices known.few-intervals);
  }

-- ---- the forced figures

module _ {front : Front} {halves : List ℕ} {zones minima devices cells settings : List (List ℕ)} {starts powers : List ℕ}
    (ready : Ready front halves zones minima devices cells settings starts powers) where
  abbrev system : System
  system = system_in halves zones minima devices cells

  abbrev plan : Plan
  plan = plan_in (length devices) (length halves) settings

  pub end-at : (t : ℕ) → t < length halves → get_or starts (t + 1) 0 ≡ F.end_of system t
  unfolding F.end_of F.start_of
  end-at t h = ready.forced-rows.start (t + 1) (omega arith) ∙ sum_more (F.duration system) t

  pub start-next : (t : ℕ) → t < length halves → get_or starts (t + 1) 0 ≡ get_or starts t 0 + 2 * get_or halves t 0
  unfolding F.end_of
  start-next t h = omega (arith, end-at t h, ready.forced-rows.start t (omega arith), W.duration-is halves zones minima devices cells t)

  -- S rises
  pub start-order : (e t : ℕ) → e ≤ t → t ≤ length halves → get_or starts e 0 ≤ get_or starts t 0
  unfolding F.start_of
  start-order e t h l = omega (arith, ready.forced-rows.start e (omega arith), ready.forced-rows.start t l, sum-rises (F.duration system) e t h)

  module _ (i : ℕ) (l : i < length devices) where
    pub power-at : (t : ℕ) → t < length halves → get_or (part (length halves) i powers) t 0 ≡ F.power system plan t i
    power-at t h = part_at 0 (length halves) i powers t h ∙ ready.forced-rows.power-is t i h l

    pub power_small : (t : ℕ) → t < length halves → get_or (part (length halves) i powers) t 0 ≤ most_power
    power_small t h = rw (part_at 0 (length halves) i powers t h)
        (ready.forced-rows.small (i * length halves + t) (omega (arith, place_inside (length halves) i (length devices) t l h, ready.forced-rows.powers-full)))

    pub previous-at : (t : ℕ) → t < length halves → previous_at (device_of (get_or devices i [])).power0.0 (part (length halves) i powers) t ≡ F.previous system plan t i
    unfolding F.previous device_in
    previous-at zero h = sym (W.device-figure halves zones minima devices cells i l (λ x. x.power0))
    previous-at (suc t) h = let e : suc t - 1 ≡ t = omega arith in rw (e, ne_eqb (suc t) 0 (λ z. omega arith)) (power-at t (omega arith))
