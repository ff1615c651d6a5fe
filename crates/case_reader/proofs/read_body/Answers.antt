use native.Mathlib.Omega.{arith}
use Rattle.case_reader.proofs.Body.{halves-short, room-kept, body-none, body-no-halves, body-no-zones, body-no-devices, body-done}
use Rattle.case_reader.proofs.read_body.Goals as goal

pub returns-in_err-at_zones : goal.returns-in_err-at_zones
returns-in_err-at_zones c = body-none _ _ _ _ _ _ _ _ _ c.from_residual.ensures (body-no-halves _ _ _ c.in_err-at_zones.ensures)

pub last_end-last-requires : goal.last_end-last-requires
last_end-last-requires c = halves-short _ _ _ _ c.requires.zones-fit.few (omega (arith, c.requires.room, c.read_list.auto.out)) c.in_ok-at_zones.ensures

pub returns-in_err-at_devices : goal.returns-in_err-at_devices
returns-in_err-at_devices c =
    body-none _ _ _ _ _ _ _ _ _ c.from_residual-in_err-at_devices.ensures (body-no-zones _ _ _ c.in_ok-at_zones.ensures c.in_err-at_devices.ensures)

pub returns-in_err-past : goal.returns-in_err-past
returns-in_err-past c = body-none _ _ _ _ _ _ _ _ _ c.from_residual-in_err-past.ensures
    (body-no-devices _ _ _ c.in_ok-at_zones.ensures c.in_ok-at_devices.ensures c.last_end-last.ensures c.in_err-past.ensures.is)

pub put_limit-requires : goal.put_limit-requires
put_limit-requires c = omega (arith, c.requires.some-devices, c.requires.devices-fit.room, c.read_devices.auto.devices)

pub returns : goal.returns
returns c =
    let z = c.read_zones.auto in
    let d = c.read_devices.auto in
    let room = room-kept c.requires c.read_list.auto.out z.zones z.minima d.devices d.cells in
    body-done _ _ _ _ _ _ _ _ c.in_ok-at_zones.ensures c.in_ok-at_devices.ensures c.last_end-last.ensures room c.in_ok-past.ensures c.put_limit.ensures
