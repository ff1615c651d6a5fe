-- What the bits ahead of the powers tell.
use Rattle.setting_words.proofs.Ranges.{low-powers}
use Rattle.setting_words.proofs.borrows.Goals as goal

pub returns : goal.returns
returns c = low-powers c.args.word
