-- The fields of a case and a plan, by name and in message order, in every edition and for every reader: each layout of `Messages` and `ByEdition` with its names.
use Rattle.std.specs.Prelude.{refl, List, ℕ, ◌-◌, ◌^◌, leb}
use Rattle.layouts.specs.Layout.{Layout, nat, ◌then◌, figure, any, count_of, fixed, such}
use Rattle.layouts.specs.Since.{has, since}
use Rattle.model.specs.Case.{no_line, no_link, no_flow, no_reactive, no_reactive_reserves, unit_prices}
use Rattle.model.specs.Editions.{newest, Largest, Widths, widths_of, most_states, most_windows}
use Rattle.model.specs.Messages as M
use Rattle.model.specs.ByEdition as B
use Rattle.refusals.specs.Names as N
use Rattle.refusals.specs.Names.{Name}
use Rattle.refusals.specs.Visited.{kind_or_edition, count, other}
use Rattle.refusals.proofs.Traced.{Traced, nat-traced, int-traced, present-traced, held-traced, then-traced, pair-traced, list-traced, counted-traced, such-traced}

-- ---- fields and groups of fields

abbrev pub figure-traced : (n : Name) (w low high : ℕ) → Traced (figure w low high)
figure-traced n w low high = nat-traced n other w low high

abbrev pub any-traced : (n : Name) (w : ℕ) → Traced (any w)
any-traced n w = figure-traced n w 0 (2 ^ w - 1)

abbrev pub count-traced : (n : Name) (w low high : ℕ) → Traced (nat (count_of w low high))
count-traced n w low high = nat-traced n count w low high

abbrev pub fixed-traced : (n : Name) (v : ℕ) → Traced (fixed v)
fixed-traced n v = nat-traced n kind_or_edition 4 v v

abbrev pub since-traced : {A : Type 0} (e k : ℕ) (neutral : A) {l : Layout A} → Traced l → Traced (since e k neutral l)
since-traced e k neutral u = present-traced (has k e) neutral u

abbrev pub kw_field-traced : (n : Name) → Traced M.kw_field
kw_field-traced n = figure-traced n 17 0 100000

abbrev pub minutes-traced : (n : Name) → Traced M.minutes
minutes-traced n = figure-traced n 16 0 60000

unfoldable pub apart-traced : {A B : Type 0} {l : Layout (List (A × B))} → Traced l → Traced (M.apart l)
unfolding M.apart
apart-traced u = held-traced _ _ u

unfoldable pub eight-traced : {l : Layout ℕ} → (N.Reserve → Traced l) → Traced (M.eight l)
unfolding M.eight
eight-traced u = held-traced _ _
    (pair-traced (u N.rgu) (pair-traced (u N.rgd) (pair-traced (u N.scr) (pair-traced (u N.nsc)
    (pair-traced (u N.rru_on) (pair-traced (u N.rru_off) (pair-traced (u N.rrd_on) (u N.rrd_off))))))))

-- ---- a zone

unfoldable pub shares-traced : (n : N.ZoneField → Name) → Traced M.shares
unfolding M.shares
shares-traced n = held-traced _ _
    (pair-traced (figure-traced (n N.rgu_share) 10 0 1000) (pair-traced (figure-traced (n N.rgd_share) 10 0 1000)
    (pair-traced (figure-traced (n N.scr_share) 10 0 1000) (figure-traced (n N.nsc_share) 10 0 1000))))

unfoldable pub prices-traced : (n : N.ZoneField → Name) → Traced (M.six (figure 7 1 100))
unfolding M.six
prices-traced n = held-traced _ _
    (pair-traced (figure-traced (n N.rgu_price) 7 1 100) (pair-traced (figure-traced (n N.rgd_price) 7 1 100) (pair-traced (figure-traced (n N.scr_price) 7 1 100)
    (pair-traced (figure-traced (n N.nsc_price) 7 1 100) (pair-traced (figure-traced (n N.rru_price) 7 1 100) (figure-traced (n N.rrd_price) 7 1 100))))))

unfoldable pub reactive-prices-traced : (n : N.ZoneField → Name) → Traced B.zone_reactive_prices
unfolding B.zone_reactive_prices
reactive-prices-traced n = held-traced _ _ (pair-traced (figure-traced (n (N.reactive_price N.up)) 7 1 100) (figure-traced (n (N.reactive_price N.down)) 7 1 100))

unfoldable pub reactive-minima-traced : (n : N.Direction → Name) → Traced B.reactive_minima
unfolding B.reactive_minima
reactive-minima-traced n = held-traced _ _ (pair-traced (figure-traced (n N.up) 23 0 6400000) (figure-traced (n N.down) 23 0 6400000))

-- of interval t
unfoldable pub minima-traced : (n : N.ZoneField → Name) (e t : ℕ) → Traced (B.minima e)
unfolding M.minima B.minima
minima-traced n e t = held-traced _ _
    (pair-traced (held-traced _ _ (pair-traced (figure-traced (n (N.minimum t N.up)) 23 0 6400000) (figure-traced (n (N.minimum t N.down)) 23 0 6400000)))
    (since-traced e 2 no_reactive_reserves (reactive-minima-traced (λ d. n (N.reactive_minimum t d)))))

unfoldable pub zone-traced : (e intervals z : ℕ) → Traced (B.zone e intervals)
unfolding B.zone
zone-traced e intervals z = held-traced _ _
    (pair-traced (shares-traced (N.of_zone z)) (pair-traced (prices-traced (N.of_zone z))
    (pair-traced (since-traced e 2 unit_prices (reactive-prices-traced (N.of_zone z))) (list-traced intervals 0 (minima-traced (N.of_zone z) e)))))

-- ---- a device's figures of an interval

unfoldable pub reactive-limits-traced : (n : N.CellField → Name) → Traced B.reactive_limits
unfolding B.reactive_limits int-traced
reactive-limits-traced n = held-traced _ _ (then-traced _ (int-traced (n N.qmin) 18 100000) (λ low. such-traced _ (int-traced (n N.qmax) 18 100000) (λ s p. refl)))

unfoldable pub reserve-prices-traced : (n : N.CellField → Name) → Traced B.reactive_prices
unfolding B.reactive_prices
reserve-prices-traced n = held-traced _ _ (pair-traced (figure-traced (n (N.reactive_reserve_price N.up)) 14 0 10000) (figure-traced (n (N.reactive_reserve_price N.down)) 14 0 10000))

-- block j: its cap and, since edition 3, its floor
unfoldable pub block-traced : (n : N.CellField → Name) (e j : ℕ) → Traced (B.block e)
unfolding B.block nat-traced
block-traced n e j = held-traced _ _ (then-traced _ (kw_field-traced (n (N.cap j))) (λ cap. since-traced e 3 0 (such-traced _ (kw_field-traced (n (N.floor j))) (λ s p. refl))))

unfoldable pub limits-traced : (n : N.CellField → Name) → Traced (M.kw_field then (λ low. such (λ high. leb low high) M.kw_field))
unfolding nat-traced
limits-traced n = then-traced _ (kw_field-traced (n N.pmin)) (λ low. such-traced _ (kw_field-traced (n N.pmax)) (λ s p. refl))

unfoldable pub cell-traced : (n : N.CellField → Name) (e : ℕ) → Traced (B.cell e)
unfolding B.cell B.cell_with
cell-traced n e = held-traced _ _
    (pair-traced (figure-traced (n N.status) 2 0 2)
    (pair-traced (limits-traced n)
    (pair-traced (apart-traced (counted-traced (n N.block_count) 3 0 4 (λ j. pair-traced (block-traced n e j) (int-traced (n (N.block_price j)) 15 10000))))
    (pair-traced (eight-traced (λ r. figure-traced (n (N.reserve_price r)) 14 0 10000))
    (since-traced e 2 B.no_reactive_cell (pair-traced (reactive-limits-traced n) (reserve-prices-traced n)))))))

-- ---- a device

unfoldable pub ramps-traced : (n : N.DeviceField → Name) → Traced M.ramps
unfolding M.ramps
ramps-traced n = held-traced _ _
    (pair-traced (figure-traced (n N.ramp_up) 17 1 100000) (pair-traced (figure-traced (n N.ramp_down) 17 1 100000)
    (pair-traced (figure-traced (n N.ramp_starting) 17 1 100000) (figure-traced (n N.ramp_stopping) 17 1 100000))))

unfoldable pub zone-bits-traced : (n : Name) (zones : ℕ) → Traced (M.zone_bits zones)
unfolding M.zone_bits nat-traced
zone-bits-traced n zones = such-traced _ (any-traced n 4) (λ s p. refl)

unfoldable pub head-traced : (n : N.DeviceField → Name) (zones : ℕ) → Traced (M.head zones)
unfolding M.head
head-traced n zones = held-traced _ _
    (pair-traced (any-traced (n N.side) 1) (pair-traced (zone-bits-traced (n N.zone_bits) zones) (pair-traced (any-traced (n N.on0) 1) (pair-traced (kw_field-traced (n N.power0))
    (pair-traced (minutes-traced (n N.minutes0)) (pair-traced (minutes-traced (n N.min_up)) (pair-traced (minutes-traced (n N.min_down)) (ramps-traced n))))))))

unfoldable pub costs-traced : (n : N.DeviceField → Name) → Traced M.costs
unfolding M.costs
costs-traced n = held-traced _ _
    (pair-traced (figure-traced (n N.on_cost) 17 0 100000) (pair-traced (figure-traced (n N.start_cost) 30 0 1000000000) (figure-traced (n N.stop_cost) 30 0 1000000000)))

unfoldable pub ends-traced : (n : N.WindowField → Name) (last : ℕ) → Traced (M.window_ends last)
unfolding M.window_ends nat-traced
ends-traced n last = then-traced _ (any-traced (n N.window_start) 16) (λ from. such-traced _ (any-traced (n N.window_end) 16) (λ s p. refl))

unfoldable pub start-traced : (n : N.WindowField → Name) (w : Widths) (last : ℕ) → Traced (B.start_window_by w last)
unfolding B.start_window_by
start-traced n w last = held-traced _ _ (pair-traced (ends-traced n last) (figure-traced (n N.most_starts) w.starts_bits 0 w.most_starts))

unfoldable pub energy-traced : (n : N.WindowField → Name) (last : ℕ) → Traced (M.energy_window last)
unfolding M.energy_window
energy-traced n last = held-traced _ _ (pair-traced (any-traced (n N.window_kind) 1) (pair-traced (ends-traced n last) (figure-traced (n N.energy) 32 0 4000000000)))

unfoldable pub line-traced : (n : N.LineField → Name) → Traced B.line
unfolding B.line
line-traced n = held-traced _ _ (pair-traced (int-traced (n N.offset) 18 100000) (int-traced (n N.slope) 15 10000))

unfoldable pub link-traced : (n : N.DeviceField → Name) → Traced B.link
unfolding B.link
link-traced n = held-traced _ _ (then-traced _ (figure-traced (n N.link_kind) 2 0 2) (λ kind. pair-traced
    (present-traced (B.first_line kind) no_line (line-traced (λ f. n (N.upper_line f)))) (present-traced (B.second_line kind) no_line (line-traced (λ f. n (N.lower_line f))))))

-- device i
unfoldable pub device-traced : (w : Widths) (e intervals zones last i : ℕ) → Traced (B.device_by w e intervals zones last)
unfolding B.device_by
device-traced w e intervals zones last i = held-traced _ _
    (pair-traced (head-traced (N.of_device i) zones)
    (pair-traced (costs-traced (N.of_device i))
    (pair-traced (eight-traced (λ r. kw_field-traced (N.of_device i (N.limit r))))
    (pair-traced (apart-traced (counted-traced (N.of_device i N.state_count) 3 0 most_states
    (λ j. pair-traced (minutes-traced (N.of_device i (N.longest j))) (int-traced (N.of_device i (N.state_cost j)) 31 1000000000))))
    (pair-traced (counted-traced (N.of_device i N.start_window_count) 3 0 most_windows (λ j. start-traced (λ f. N.of_device i (N.start_window j f)) w last))
    (pair-traced (counted-traced (N.of_device i N.energy_window_count) 3 0 most_windows (λ j. energy-traced (λ f. N.of_device i (N.energy_window j f)) last))
    (pair-traced (since-traced e 2 no_link (link-traced (N.of_device i)))
    (pair-traced (since-traced e 5 0 (figure-traced (N.of_device i N.bar) 1 0 1))
    (apart-traced (list-traced intervals 0 (λ t. cell-traced (N.of_cell i t) e)))))))))))

-- ---- a case

unfoldable pub counts-traced : (w : Widths) (l : Largest) → Traced (B.counts_by w l)
unfolding B.counts_by
counts-traced w l = held-traced _ _ (pair-traced (count-traced N.device_count _ _ _) (pair-traced (count-traced N.interval_count _ _ _) (count-traced N.zone_count _ _ _)))

unfoldable pub content-traced : (w : Widths) (e : ℕ) (l : Largest) → Traced (B.content_by w e l)
unfolding B.content_by
content-traced w e l = held-traced _ _
    (then-traced _ (counts-traced w l) (λ n.
    pair-traced (figure-traced N.mismatch_price 14 1 10000) (pair-traced (figure-traced N.overrun_price 14 1 10000) (pair-traced (since-traced e 5 0 (kw_field-traced N.link_limit))
    (then-traced _ (list-traced n.intervals 0 (λ t. figure-traced (N.half t) 8 1 180)) (λ halves.
    pair-traced (apart-traced (list-traced n.zones 0 (zone-traced e n.intervals)))
    (apart-traced (list-traced n.devices 0 (device-traced w e n.intervals n.zones (M.last_end halves))))))))))

unfoldable pub case-traced : (l : Largest) → Traced (B.case_layout l)
unfolding B.case_layout
case-traced l = held-traced _ _ (pair-traced (fixed-traced N.kind B.case_kind) (then-traced _ (nat-traced N.edition kind_or_edition 4 1 newest) (λ e. content-traced (widths_of e) e l)))

-- ---- a plan

unfoldable pub reactive-traced : (n : N.SettingField → Name) → Traced B.reactive
unfolding B.reactive
reactive-traced n = held-traced _ _
    (pair-traced (int-traced (n N.q) 18 100000) (pair-traced (figure-traced (n (N.reactive_reserve N.up)) 17 0 100000) (figure-traced (n (N.reactive_reserve N.down)) 17 0 100000)))

unfoldable pub setting-traced : (n : N.SettingField → Name) (e : ℕ) → Traced (B.setting e)
unfolding M.active B.setting
setting-traced n e = held-traced _ _
    (pair-traced (pair-traced (any-traced (n N.on) 1) (pair-traced (kw_field-traced (n N.online)) (eight-traced (λ r. kw_field-traced (n (N.reserve r))))))
    (since-traced e 2 no_reactive (reactive-traced n)))

-- interval t: "per device"; behind them, since edition 5, the flow
unfoldable pub planned-traced : (e devices t : ℕ) → Traced (B.planned e devices)
planned-traced e devices t = pair-traced (list-traced devices 0 (λ i. setting-traced (N.of_setting t i) e)) (since-traced e 5 no_flow (int-traced (N.flow t) 18 100000))

unfoldable pub plan-traced : (e devices intervals : ℕ) → Traced (B.plan_layout e devices intervals)
unfolding B.plan_by
plan-traced e devices intervals = held-traced _ _
    (pair-traced (fixed-traced N.kind B.plan_kind) (pair-traced (fixed-traced N.edition e)
    (pair-traced (count-traced N.device_count _ _ _) (pair-traced (count-traced N.interval_count _ _ _)
    (apart-traced (list-traced intervals 0 (planned-traced e devices)))))))
