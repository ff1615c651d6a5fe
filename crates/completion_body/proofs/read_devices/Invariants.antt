-- The loop's invariant: k of them are read.
use Prim.Native.Nat.{◌-◌, ◌≤◌}
use Rattle.completion_reading.specs.Flat.{times, device_widths}
use Rattle.figure_reader.specs.Walks.{Runs}
use Rattle.completion_body.proofs.read_devices.Given as goal

abbrev pub invariant-loop-k : goal.invariant-loop-k
invariant-loop-k l = Runs l.s l.initial.t l.initial.table (times l._k (device_widths l.desk)) l.t l.table
