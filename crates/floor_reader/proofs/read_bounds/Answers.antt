use Rattle.fields.proofs.Steps.{seen-exits}
use Rattle.floor_reader.proofs.Floors.{no-cap, cap-only, no-floor, bounds-done}
use Rattle.floor_reader.proofs.read_bounds.Goals as goal

pub returns-in_err-cap : goal.returns-in_err-cap
returns-in_err-cap c = seen-exits _ _ c.from_residual.ensures (search (no-cap, c.in_err-cap.ensures))

pub returns-then-edition-lt-FLOOR_EDITION : goal.returns-then-edition-lt-FLOOR_EDITION
returns-then-edition-lt-FLOOR_EDITION c = search (cap-only, c.in_ok-cap.ensures)

pub returns-in_err-floor : goal.returns-in_err-floor
returns-in_err-floor c = seen-exits _ _ c.from_residual-in_err-floor.ensures (search (no-floor, c.in_ok-cap.ensures, c.in_err-floor.ensures))

pub returns : goal.returns
returns c = search (bounds-done, c.in_ok-cap.ensures, c.in_ok-floor.ensures)
