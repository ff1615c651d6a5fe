use Rattle.std.proofs.Common.{refl}
use Rattle.zone_totals.specs.Sums.{sums-start, sums_next}
use Rattle.zone_totals.proofs.zone_sums.Goals as goal

pub loop-i-init : goal.loop-i-init
loop-i-init c = sums-start _ _ _ _ _ _

pub loop-i-preserved : goal.loop-i-preserved
loop-i-preserved c = sums_next _ _ _ _ _ _ c.loop-i.i c.loop-i.invariant refl c.with_device-s.ensures
