-- Editions 1 to 4 as before there was edition 5, and editions 1 and 2 as before there were floors, over all bytes: the layouts of a case and a plan without a
-- link limit, bars and flows, and that by any reader a message of such an edition is read, refused and judged by them. "As before" is as just before that
-- landing: what A.3 changed (energy windows go by the minute, `Completion.minutes_in`) and A.4 (three startup states at most, `Editions.most_states`) holds in every
-- edition, edition 1 included, and stands in these pages too.
use Rattle.std.specs.Prelude.{ℕ, length}
use mathlib.Core.List.{List, map}
use Rattle.layouts.specs.Layout.{Layout, Whole, passes, fails, nat, int, ◌then◌, ◌▸◌, list, held, counted, figure, count_of, fixed, read_whole}
use Rattle.layouts.specs.Since.{since}
use Rattle.model.specs.declared.Subject.TheVariants as S
use Rattle.model.specs.declared.Verdict.TheVariants.{Refused}
use Rattle.model.specs.Case.{Case, Cell, CellPrices, Device, DevicePrices, Plan, Setting, no_link, no_flow}
use Rattle.model.specs.Forced.{intervals, devices}
use Rattle.model.specs.Editions.{Widths, Largest, widths_of, most_states, most_windows}
use Rattle.model.specs.Messages.{kw_field, minutes, eight, energy_window, apart, head, costs, last_end}
use Rattle.model.specs.Messages as M
use Rattle.model.specs.ByEdition.{Stated, case_kind, plan_kind, counts_by, zone, cell, cell_with, link, setting, start_window_by}
use Rattle.model.specs.Judgement.{Judged, refused_as}
use Rattle.model.specs.OneBar as O
use Rattle.model.specs.BeforeFloors as F
use Rattle.model.specs.AsBefore.{stated}

-- ---- the layouts before edition 5

-- a device, by the layout of its intervals
unfoldable pub device_one : Layout (Cell × CellPrices) → Widths → ℕ → ℕ → ℕ → ℕ → Layout (Device × DevicePrices)
device_one one widths e intervals zones last = held
    (λ v. let h = v.0 in let c = v.1.0 in let w = v.1.1.1 in (
      record {
        side = h.side;
        zone_bits = h.zone_bits;
        on0 = h.on0;
        power0 = h.power0;
        minutes0 = h.minutes0;
        min_up = h.min_up;
        min_down = h.min_down;
        ramps = h.ramps;
        limits = v.1.1.0;
        longest = w.0.0;
        start_windows = w.1.0;
        energy_windows = w.1.1.0;
        link = w.1.1.1.0;
        bar = 0;
        cells = w.1.1.1.1.0;
      },
      record { on_cost = c.on; start_cost = c.start; stop_cost = c.stop; state_costs = w.0.1; cells = w.1.1.1.1.1 },
    ))
    (λ r. let d = r.0 in let x = r.1 in (
      record { side = d.side; zone_bits = d.zone_bits; on0 = d.on0; power0 = d.power0; minutes0 = d.minutes0; min_up = d.min_up; min_down = d.min_down; ramps = d.ramps },
      (
        record { on = x.on_cost; start = x.start_cost; stop = x.stop_cost },
        (d.limits, ((d.longest, x.state_costs), (d.start_windows, (d.energy_windows, (d.link, (d.cells, x.cells)))))),
      ),
    ))
    (head zones
    ▸ costs
    ▸ eight kw_field
    ▸ apart (counted (count_of 3 0 most_states) (minutes ▸ int 31 1000000000))
    ▸ counted (count_of 3 0 most_windows) (start_window_by widths last)
    ▸ counted (count_of 3 0 most_windows) (energy_window last)
    ▸ since e 2 no_link link
    ▸ apart (list intervals one))

unfoldable pub content_one : Layout (Cell × CellPrices) → Widths → ℕ → Largest → Layout Case
content_one one w e l = held
    (λ v. let b = v.1.1.1 in record {
      system = record { halves = b.0; link_limit = 0; zones = b.1.0.0; devices = b.1.1.0 };
      prices = record { mismatch = v.1.0; overrun = v.1.1.0; zones = b.1.0.1; devices = b.1.1.1 };
    })
    (λ c. let s = c.system in let x = c.prices in (
      record { devices = length s.devices; intervals = length s.halves; zones = length s.zones },
      (x.mismatch, (x.overrun, (s.halves, ((s.zones, x.zones), (s.devices, x.devices))))),
    ))
    (counts_by w l then (λ n.
    figure 14 1 10000 ▸ figure 14 1 10000 ▸
    (list n.intervals (figure 8 1 180) then (λ halves.
    apart (list n.zones (zone e n.intervals))
    ▸ apart (list n.devices (device_one one w e n.intervals n.zones (last_end halves)))))))

-- no flow behind an interval's devices
unfoldable pub plan_one : Widths → ℕ → ℕ → ℕ → Layout Plan
plan_one w e devices intervals = held
    (λ v. record { settings = v.1.1.1.1; flows = map (λ (row : List Setting). no_flow) v.1.1.1.1 })
    (λ p. (plan_kind, (e, (devices, (intervals, p.settings)))))
    (fixed plan_kind ▸ fixed e ▸ nat (count_of w.device_bits devices devices) ▸ nat (count_of w.interval_bits intervals intervals)
    ▸ list intervals (list devices (setting e)))

-- ---- judging by them

-- a case's message whose edition is e
unfoldable pub case_one : Layout (Cell × CellPrices) → ℕ → Largest → Layout Case
case_one one e l = held (λ v. v.1.1) (λ c. (case_kind, (e, c))) (fixed case_kind ▸ fixed e ▸ content_one one (widths_of e) e l)

unfoldable pub read_case : Layout (Cell × CellPrices) → ℕ → Largest → List ℕ → Whole Case
read_case one e l s = read_whole (case_one one e l) s

unfoldable pub read_plan : Stated → List ℕ → Whole Plan
read_plan x s = read_whole (plan_one (widths_of x.edition) x.edition (devices x.case.system) (intervals x.case.system)) s

-- by how a plan that was read is judged
abbrev pub with_case : (Stated → List ℕ → Whole Plan → Judged) → ℕ → List ℕ → List ℕ → Whole Case → Judged
with_case judge e ps buffer (passes c) = judge (stated e c) buffer (read_plan (stated e c) ps)
with_case judge e ps buffer (fails f) = refused_as (Refused S.Case f) buffer

-- before edition 5: on one busbar, reading included
unfoldable pub judgement : ℕ → Largest → List ℕ → List ℕ → List ℕ → Judged
judgement e l cs ps buffer = with_case O.with_plan e ps buffer (read_case (cell e) e l cs)

-- before edition 3: without floors, reading included
unfoldable pub judgement_floorless : ℕ → Largest → List ℕ → List ℕ → List ℕ → Judged
judgement_floorless e l cs ps buffer = with_case F.with_plan e ps buffer (read_case (cell_with e M.block) e l cs)
