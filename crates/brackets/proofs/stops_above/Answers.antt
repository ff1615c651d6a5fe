use Rattle.std.proofs.Common.{◌≡◌, arith, suc, ◌+◌}
use Rattle.brackets.specs.Counts.{stops-none, counted_next, stops-all}
use Rattle.brackets.proofs.stops_above.Goals as goal

pub loop-e-init : goal.loop-e-init
loop-e-init c = let a = c.args in stops-none a.r a.cells.now a.settings.now a.starts.now a.t

pub loop-e-preserved : goal.loop-e-preserved
loop-e-preserved c = counted_next _ c.loop-e.invariant c.stop_count-n.ensures.0 c.stop_count-n.ensures.1

-- behind the last one, t
pub returns-2 : goal.returns-2
returns-2 c =
    let z : c.loop-e.e + 1 ≡ suc c.args.t = omega arith in
    let all = counted_next _ c.loop-e.invariant c.stop_count-n.ensures.0 c.stop_count-n.ensures.1 in
    (stops-all _ _ _ _ _ z all, omega (arith, all.few, c.requires.0.rampable.few))
