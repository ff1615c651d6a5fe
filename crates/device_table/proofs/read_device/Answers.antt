use Rattle.std.specs.Prelude.{Err}
use Rattle.device_reader.specs.Devices.{device-off, device-on}
use Rattle.device_table.proofs.DeviceSteps.{device-none, device-done}
use Rattle.device_table.proofs.read_device.Goals as goal

pub returns-in_err-device : goal.returns-in_err-device
returns-in_err-device c = device-none _ _ _ _ _ _ _ c.from_residual.ensures (device-off _ _ _ _ _ _ c.in_err-device.ensures.is)

pub returns-in_err-past : goal.returns-in_err-past
returns-in_err-past c = device-none _ _ _ _ _ _ _ c.from_residual-in_err-past.ensures (device-on _ _ _ _ _ c.in_ok-device.device _ (Err c.in_err-past.field-0.0) c.in_ok-device.ensures.is c.in_err-past.ensures.is)

pub returns : goal.returns
returns c = device-done _ _ _ _ _ _ c.in_ok-device.ensures _ c.in_ok-past.ensures
