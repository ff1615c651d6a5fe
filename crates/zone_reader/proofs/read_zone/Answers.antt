use Rattle.fields.proofs.Steps.{seen-exits}
use Rattle.zone_reader.proofs.ZoneSteps.{zone-off, zone-late, zone-on}
use Rattle.zone_reader.proofs.read_zone.Goals as goal

pub returns-in_err-zone : goal.returns-in_err-zone
returns-in_err-zone c = record { is = seen-exits _ _ c.from_residual.ensures (zone-off _ _ _ _ c.in_err-zone.ensures) }

pub returns-in_err-past : goal.returns-in_err-past
returns-in_err-past c = record { is = seen-exits _ _ c.from_residual-in_err-past.ensures (zone-late _ _ _ c.in_ok-zone.zone c.in_ok-zone.ensures _ c.in_err-past.ensures) }

pub returns : goal.returns
returns c = record { is = zone-on _ _ _ c.in_ok-zone.zone c.in_ok-zone.ensures _ c.in_ok-past.ensures }
