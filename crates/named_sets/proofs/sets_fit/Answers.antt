use Rattle.std.proofs.Common.{arith}
use Rattle.std.proofs.lemmas.Grind.{common_steps}
use Rattle.named_sets.specs.Named.{no-interval, past-the-last, not_named, as_many}
use Rattle.named_sets.proofs.sets_fit.Goals as goal

pub returns-then-all_named : goal.returns-then-all_named
returns-then-all_named c = grind (arith, common_steps, as_many)

pub returns-else-all_named : goal.returns-else-all_named
returns-else-all_named c = grind (arith, common_steps, no-interval, past-the-last, not_named)
