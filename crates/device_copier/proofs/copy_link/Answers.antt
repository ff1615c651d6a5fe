-- By the edition, then by the kind.
use Rattle.bits.specs.Pick.{pick}
use Rattle.model.specs.ByEdition.{first_line, second_line}
use Rattle.writing.specs.Splice.{none, keep, add, ◌⨾◌}
use Rattle.writing.specs.CaseSplices.{link_splice}
use Rattle.bit_copier.specs.Moves.{add-moves, since-lacks, since-has, moves-by-keep}
use Rattle.device_copier.proofs.copy_link.Goals as goal

pub returns-then-edition-lt-LINK_EDITION : goal.returns-then-edition-lt-LINK_EDITION
returns-then-edition-lt-LINK_EDITION c =
    since-lacks c.args.edition 2 link_splice c.if-edition-lt-LINK_EDITION.true (add-moves 2 0 c.requires c.add_field.ensures)

pub returns : goal.returns
unfolding link_splice
returns c =
    since-has c.args.edition 2 (add 2 0) c.if-edition-lt-LINK_EDITION.false (moves-by-keep 2 c.next_field-kind.result (λ kind. pick (first_line kind) (keep 33)
    none ⨾ pick (second_line kind) (keep 33) none) c.next_field-kind.ensures c.keep_field-q.ensures c.copy_lines.ensures)
