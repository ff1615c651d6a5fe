-- By the edition.
use Rattle.writing.specs.Splice.{keep}
use Rattle.bit_copier.specs.Moves.{moves-then, add-moves, set_after, since-lacks}
use Rattle.cell_copier.proofs.copy_reactive.Goals as goal

pub returns-then-edition-lt-REACTIVE_EDITION : goal.returns-then-edition-lt-REACTIVE_EDITION
returns-then-edition-lt-REACTIVE_EDITION c =
    let limits = add-moves 36 0 c.requires c.add_field-q.ensures in
    since-lacks c.args.edition 2 (keep 64) c.if-edition-lt-REACTIVE_EDITION.true (moves-then limits (add-moves 28 0 (set_after limits) c.add_field.ensures))
