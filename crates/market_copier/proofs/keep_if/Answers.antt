-- By the edition.
use Rattle.writing.specs.Splice.{keep}
use Rattle.bit_copier.specs.Moves.{since-lacks, moves-none}
use Rattle.market_copier.proofs.keep_if.Goals as goal

pub returns-then-edition-since : goal.returns-then-edition-since
returns-then-edition-since c = since-lacks c.args.edition c.args.since (keep c.args.width) c.if-edition-since.true (moves-none c.requires)
