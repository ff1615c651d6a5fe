-- State k of the row is number k of its list.
use Rattle.row_places.specs.Figures.{state-of}
use mathlib.Core.List.{[]}
use lib.ListN.{get_or}
use Rattle.device_rows.proofs.state_at.Goals as goal

pub returns : goal.returns
returns c = state-of (get_or c.args.devices.now c.args.i []) c.args.k c.requires.1
