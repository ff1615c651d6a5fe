use Prim.Native.Nat.{◌-◌}
use native.Mathlib.Omega.{arith}
use Rattle.figure_reader.specs.Walks.{times_none, times_more, times-done}
use Rattle.completion_body.proofs.read_intervals.Goals as goal

pub loop-k-init : goal.loop-k-init
loop-k-init c = times_none _ c.requires.0

pub read_interval-t-requires : goal.read_interval-t-requires
read_interval-t-requires c = let g = c in (g.loop-k.invariant.few, g.requires.1)

pub loop-k-preserved : goal.loop-k-preserved
loop-k-preserved c =
    let g = c in
    let t = g in
    times_more _ _ t.loop-k.invariant g.read_interval-t.ensures

pub shape_of-table : goal.shape_of-table
shape_of-table c = c.loop-k.invariant.long

pub returns : goal.returns
returns c = let l = c.loop-k in times-done _ _ _ (omega arith) (omega arith) l.invariant
