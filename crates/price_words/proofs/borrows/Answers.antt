-- What the bits ahead of the prices tell.
use Rattle.price_words.proofs.Prices.{low-prices}
use Rattle.price_words.proofs.borrows.Goals as goal

pub returns : goal.returns
returns c = low-prices c.args.word c.requires
