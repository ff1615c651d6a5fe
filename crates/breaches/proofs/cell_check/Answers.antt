-- The first of the rules that fail.
use native.Mathlib.Omega.{arith}
use mathlib.Core.Path.{refl}
use Rattle.failing_rules.specs.Parts.{place}
use lib.ListN.{length}
use Rattle.records.specs.Views.{system_in, plan_in}
use Rattle.breaches.specs.Parts.{word_first}
use Rattle.breaches.proofs.cell_check.Goals as goal

pub overflow_mul-a : goal.overflow_mul-a
overflow_mul-a c = omega (arith, place c.requires.0 c.args.i _ c.requires.1 refl)

pub returns : goal.returns
returns c = let a : _ = c.args in
    word_first (system_in a.halves.now a.zones.now a.minima.now a.devices.now a.cells.now)
    (plan_in (length a.devices.now) (length a.halves.now) a.settings.now) a.t a.i c.failing_in-word.result c.failing_in-word.ensures c.first_in.ensures
