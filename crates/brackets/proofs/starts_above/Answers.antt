use Rattle.std.proofs.Common.{◌≡◌, arith, length}
use Rattle.brackets.specs.Counts.{starts_none, counted_next, starts-all}
use Rattle.brackets.proofs.starts_above.Goals as goal

pub loop-e-init : goal.loop-e-init
loop-e-init c = let a = c.args in starts_none a.r a.cells.now a.settings.now a.starts.now a.t

pub loop-e-preserved : goal.loop-e-preserved
loop-e-preserved c = counted_next _ c.loop-e.invariant c.start_count-n.ensures.0 c.start_count-n.ensures.1

pub returns : goal.returns
returns c =
    let z : c.loop-e.e ≡ length c.args.cells.now = omega arith in
    (starts-all _ _ _ _ _ z c.loop-e.invariant, omega (arith, c.requires.0.rampable.few))
