use Rattle.std.proofs.Math.Path.{refl}
use Rattle.layouts.specs.Layout.{◌then◌, held}
use Rattle.model.specs.ByEdition as B
use Rattle.reactive_zones.proofs.Steps.{minima-natural}
use Rattle.fields.proofs.Steps.{on, off, seen-exits}
use Rattle.zone_reader.proofs.ZoneSteps.{pair-natural}
use Rattle.zone_reader.proofs.read_interval.Goals as goal

pub returns-in_err-rru : goal.returns-in_err-rru
unfolding B.minima held ◌then◌
returns-in_err-rru c = seen-exits _ _ c.from_residual.ensures (off pair-natural _ _ _ _ c.in_err-rru.ensures refl)

pub returns-in_err-reactive : goal.returns-in_err-reactive
unfolding B.minima held ◌then◌
returns-in_err-reactive c = seen-exits _ _ c.from_residual-in_err-reactive.ensures (on pair-natural _ _ _ _ c.in_ok-rru.ensures (off (minima-natural _) _ _ _ _ c.in_err-reactive.ensures refl))

pub returns : goal.returns
unfolding B.minima held ◌then◌
returns c = on pair-natural _ _ _ _ c.in_ok-rru.ensures (on (minima-natural _) _ _ _ _ c.in_ok-reactive.ensures refl)
