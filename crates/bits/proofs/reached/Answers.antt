use borrow.Author.Rules.{rules}
use Rattle.bits.specs.Bits.{reach}
use Rattle.bits.proofs.reached.Goals as goal

pub returns : goal.returns
unfolding reach
returns c = search rules
