-- At a start the startup ramp counts.
use native.Mathlib.Omega.{arith}
use mathlib.Core.Path.{◌≡◌}
use Rattle.cell_bounds.specs.Sign.{rise-start}
use Rattle.cell_tests.proofs.rise_kept.Goals as goal

pub returns-else-started-eq0 : goal.returns-else-started-eq0
returns-else-started-eq0 c = let a : _ = c.args in let e : a.on ≡ 1 = omega arith in let f : a.started ≡ 1 = omega arith in
    rise-start a.power.0 a.previous.0 a.minutes a.up a.starting e f
