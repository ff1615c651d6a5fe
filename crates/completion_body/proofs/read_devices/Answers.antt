use Prim.Native.Nat.{◌-◌}
use native.Mathlib.Omega.{arith}
use Rattle.figure_reader.specs.Walks.{times_none, times_more, times-done}
use Rattle.completion_body.proofs.read_devices.Goals as goal

pub loop-k-init : goal.loop-k-init
loop-k-init c = times_none _ c.requires

pub read_device-t-requires : goal.read_device-t-requires
read_device-t-requires c = c.loop-k.invariant.few

pub loop-k-preserved : goal.loop-k-preserved
loop-k-preserved c =
    let g = c in
    let t = g in
    times_more _ _ t.loop-k.invariant g.read_device-t.ensures

pub shape_of-table : goal.shape_of-table
shape_of-table c = c.loop-k.invariant.long

pub returns : goal.returns
returns c = let l = c.loop-k in times-done _ _ _ (omega arith) (omega arith) l.invariant
