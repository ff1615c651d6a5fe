-- Each test as the definition makes it.
use mathlib.Core.Path.{ap}
use native.Mathlib.Omega.{arith}
use Rattle.model.specs.Widths.{bounded}
use Rattle.case_sizes.specs.Sizes.{by_intervals, by_devices}
use Rattle.case_sizes.proofs.Steps.{seen, many-intervals, few-intervals, many-devices, few-devices}
use Rattle.case_sizes.proofs.by_counts.Goals as goal

pub field-requires : goal.field-requires
field-requires c = omega (arith, c.device_bits-width.ensures, (bounded c.args.edition).device_bits)

pub returns-in_default : goal.returns-in_default
returns-in_default c = ap (by_devices _ _) (seen _ _ c.device_bits-width.ensures c.field.ensures c.in_default.is)

pub returns-then-devices : goal.returns-then-devices
returns-then-devices c =
    let first : _ = c in
    let devices = seen _ _ first.device_bits-width.ensures first.field.ensures c.in-Value.is in
    many-devices _ devices _ c.if-devices.true

pub field-requires-2 : goal.field-requires-2
field-requires-2 c = omega (arith, c.interval_bits-width.ensures, (bounded c.args.edition).interval_bits)

pub returns-in_default-field : goal.returns-in_default-field
returns-in_default-field c =
    let first : _ = c in
    let devices = seen _ _ first.device_bits-width.ensures first.field.ensures c.in-Value.is in
    let intervals = seen _ _ c.interval_bits-width.ensures c.field-2.ensures c.in_default-field.is in
    few-devices _ devices _ c.if-devices.false (ap by_intervals intervals)

pub returns-then-intervals : goal.returns-then-intervals
returns-then-intervals c =
    let second : _ = c in
    let first : _ = second in
    let devices = seen _ _ first.device_bits-width.ensures first.field.ensures second.in-Value.is in
    let intervals = seen _ _ second.interval_bits-width.ensures second.field-2.ensures c.in-Value-field.is in
    few-devices _ devices _ second.if-devices.false (many-intervals intervals c.if-intervals.true)

pub returns : goal.returns
returns c =
    let second : _ = c in
    let first : _ = second in
    let devices = seen _ _ first.device_bits-width.ensures first.field.ensures second.in-Value.is in
    let intervals = seen _ _ second.interval_bits-width.ensures second.field-2.ensures c.in-Value-field.is in
    few-devices _ devices _ second.if-devices.false (few-intervals intervals c.if-intervals.false)
