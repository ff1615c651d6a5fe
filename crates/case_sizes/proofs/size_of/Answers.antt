-- The edition as the definition reads it; then the counts.
use mathlib.Core.Path.{refl, ap}
use Rattle.case_sizes.specs.Sizes.{by_edition}
use Rattle.case_sizes.specs.Alike.{sized}
use Rattle.case_sizes.proofs.Steps.{seen, unknown-edition, known-edition}
use Rattle.case_sizes.proofs.size_of.Goals as goal

pub returns-in_default : goal.returns-in_default
returns-in_default c = sized _ (ap (by_edition _) (seen _ _ refl c.field.ensures c.in_default.is))

pub returns-then-edition : goal.returns-then-edition
returns-then-edition c = sized _ (unknown-edition _ (seen _ _ refl c.field.ensures c.in-Value.is) c.if-edition.true)

pub returns : goal.returns
returns c = sized _ (known-edition _ (seen _ _ refl c.field.ensures c.in-Value.is) c.if-edition.false c.by_counts.ensures)
