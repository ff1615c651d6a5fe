use native.Mathlib.Omega.{arith}
use Rattle.front_reader.specs.Fronts.{largest}
use Rattle.model.specs.Widths.{bounded}
use Rattle.front_reader.proofs.FrontSteps.{devices-of, intervals-of, no-counts, no-devices, no-intervals, no-zones, counts-done}
use Rattle.front_reader.proofs.read_counts.Goals as goal

pub returns-in_err-devices : goal.returns-in_err-devices
returns-in_err-devices c =
    let a = c.args in
    let l = largest a.most_devices a.most_intervals in
    no-counts a.edition l a.s.now a.p _ c.from_residual.ensures
    (no-devices a.edition l a.s.now a.p (devices-of a.edition l a.s.now a.p c.device_bits-width.ensures c.devices_in-most.ensures c.in_err-devices.ensures))

pub returns-in_err-intervals : goal.returns-in_err-intervals
returns-in_err-intervals c =
    let a = c.args in
    let l = largest a.most_devices a.most_intervals in
    let n = devices-of a.edition l a.s.now a.p c.device_bits-width.ensures c.devices_in-most.ensures c.in_ok-devices.ensures in
    no-counts a.edition l a.s.now a.p _ c.from_residual-in_err-intervals.ensures
    (no-intervals a.edition l a.s.now a.p n (intervals-of a.edition l a.s.now _ c.interval_bits-width.ensures c.intervals_in-most.ensures c.in_err-intervals.ensures))

pub returns-in_err-zones : goal.returns-in_err-zones
returns-in_err-zones c =
    let a = c.args in
    let l = largest a.most_devices a.most_intervals in
    let n = devices-of a.edition l a.s.now a.p c.device_bits-width.ensures c.devices_in-most.ensures c.in_ok-devices.ensures in
    let m = intervals-of a.edition l a.s.now _ c.interval_bits-width.ensures c.intervals_in-most.ensures c.in_ok-intervals.ensures in
    no-counts a.edition l a.s.now a.p _ c.from_residual-in_err-zones.ensures (no-zones a.edition l a.s.now a.p n m c.in_err-zones.ensures)

pub returns : goal.returns
returns c =
    let a = c.args in
    let l = largest a.most_devices a.most_intervals in
    let n = devices-of a.edition l a.s.now a.p c.device_bits-width.ensures c.devices_in-most.ensures c.in_ok-devices.ensures in
    let m = intervals-of a.edition l a.s.now _ c.interval_bits-width.ensures c.intervals_in-most.ensures c.in_ok-intervals.ensures in
    counts-done a.edition l a.s.now a.p n m c.in_ok-zones.ensures
