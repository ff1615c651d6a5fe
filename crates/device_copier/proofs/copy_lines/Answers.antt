-- By the kind.
use Rattle.bit_copier.specs.Moves.{lines_none, lines_two, lines-one}
use Rattle.device_copier.proofs.copy_lines.Goals as goal

pub returns-then-kind-eq-NO_LINK : goal.returns-then-kind-eq-NO_LINK
returns-then-kind-eq-NO_LINK c = lines_none c.args.kind c.if-kind-eq-NO_LINK.true c.requires

pub returns-then-kind-eq-TWO_LINES : goal.returns-then-kind-eq-TWO_LINES
returns-then-kind-eq-TWO_LINES c = lines_two c.args.kind c.if-kind-eq-TWO_LINES.true c.keep_run.ensures

pub returns : goal.returns
returns c = lines-one c.args.kind c.if-kind-eq-NO_LINK.false c.if-kind-eq-TWO_LINES.false c.keep_field.ensures
