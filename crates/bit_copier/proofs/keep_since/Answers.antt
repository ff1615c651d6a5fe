-- By the edition.
use Rattle.writing.specs.Splice.{keep}
use Rattle.bit_copier.specs.Moves.{since-lacks, add-moves}
use Rattle.bit_copier.proofs.keep_since.Goals as goal

pub returns-then-edition-since : goal.returns-then-edition-since
returns-then-edition-since c = let a = c in let s = a in since-lacks s.args.edition s.args.since (keep s.args.width)
    a.if-edition-since.true (add-moves s.args.width s.args.neutral s.requires.0 a.add_field.ensures)
