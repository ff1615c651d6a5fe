use Rattle.std.proofs.Common.{arith, sym, rules}
use Rattle.clock.specs.Times.{start_none, times_none, start-next, times-next}
use Rattle.clock.proofs.start_times.Goals as goal

pub loop-t-init : goal.loop-t-init
loop-t-init c = (sym (start_none _), search rules, times_none _ _ c.requires.1)

pub loop-t-preserved : goal.loop-t-preserved
loop-t-preserved c =
    let h = c.loop-t in
    let e = start-next c.args.halves.now h.t in
    (omega (arith, e), omega (arith, c.requires.0.half h.t), times-next _ c.loop-t-test.true h.invariant.2 (omega (arith, h.invariant.0, e)))
