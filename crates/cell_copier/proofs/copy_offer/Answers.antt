-- Block by block before floors, else in one run.
use Rattle.bit_copier.specs.Moves.{moves-then}
use Rattle.cell_copier.specs.Runs.{offer-run}
use Rattle.cell_copier.proofs.copy_offer.Goals as goal

pub returns-then-edition-lt-FLOOR_EDITION : goal.returns-then-edition-lt-FLOOR_EDITION
returns-then-edition-lt-FLOOR_EDITION c = moves-then c.copy_each-q.ensures (moves-then c.keep_run-q.ensures c.copy_reactive.ensures)

pub returns : goal.returns
returns c = offer-run c.args.edition c.args.n c.if-edition-lt-FLOOR_EDITION.false c.keep_run.ensures
