-- By the edition.
use Rattle.market.specs.CopySplice.{bars_splice}
use Rattle.bit_copier.specs.Moves.{since-lacks, moves-none}
use Rattle.market_copier.proofs.copy_reactive_bars.Goals as goal

pub returns-then-edition-lt-REACTIVE_EDITION : goal.returns-then-edition-lt-REACTIVE_EDITION
returns-then-edition-lt-REACTIVE_EDITION c =
    since-lacks c.args.edition 2 (bars_splice c.args.edition) c.if-edition-lt-REACTIVE_EDITION.true (moves-none c.requires)
