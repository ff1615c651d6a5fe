-- Window k of the row is number k of its list.
use mathlib.Core.Path.{◌∙◌}
use mathlib.Core.List.{[]}
use lib.ListN.{get_or}
use Rattle.row_places.specs.Figures.{energy-of}
use Rattle.device_rows.proofs.energy_at.Goals as goal

pub returns : goal.returns
returns c = c.energy_window.ensures ∙ energy-of (get_or c.args.devices.now
    c.args.i []) c.args.k c.requires.1
