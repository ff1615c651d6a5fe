use native.Mathlib.Omega.{arith}
use Rattle.completion_size.specs.Size.{counts-few}
use Rattle.field_groups.specs.Groups.{holds_more, holds_as}
use Rattle.front_writer.proofs.Fronts.{front-is}
use Rattle.front_writer.proofs.front_of.Goals as goal

pub and-of_devices-requires : goal.and-of_devices-requires
and-of_devices-requires c =
    let s = c in
    (omega (arith, counts-few s.args.edition), c.and-of_edition.ensures.small, rw c.device_bits.ensures s.requires.devices)

pub and-of_intervals-requires : goal.and-of_intervals-requires
and-of_intervals-requires c =
    let s = c in
    (omega (arith, counts-few s.args.edition), c.and-of_devices.ensures.small, rw c.interval_bits.ensures s.requires.intervals)

pub and-requires : goal.and-requires
and-requires c =
    let s = c in
    (omega (arith, counts-few s.args.edition), c.and-of_intervals.ensures.small, s.requires.zones)

pub returns : goal.returns
returns c =
    let third = c in
    let second = third in
    let first = second in
    let a = first.args in
    let devices = rw second.device_bits.ensures at second.and-of_devices.ensures in
    let intervals = rw third.interval_bits.ensures at third.and-of_intervals.ensures in
    holds_as (front-is a.edition a.devices a.intervals a.zones) (omega arith)
    (holds_more (holds_more (holds_more (holds_more first.field.ensures first.and-of_edition.ensures) devices) intervals) c.and.ensures)
