-- The neutral figures before edition 2; since, the quick answer where there is one, else the exact.
use Rattle.std.proofs.lemmas.Option.{MatchOption-at_some}
use Rattle.fields.specs.Since.{field-absent, field-there}
use Rattle.reactive_cells.proofs.read_reactive.Goals as goal

pub returns-then-edition-lt-REACTIVE_EDITION : goal.returns-then-edition-lt-REACTIVE_EDITION
returns-then-edition-lt-REACTIVE_EDITION c = search field-absent

pub returns-in-Some : goal.returns-in-Some
returns-in-Some c = field-there 2 _ _ _ _ _ c.if-edition-lt-REACTIVE_EDITION.false (MatchOption-at_some _ _ _ c.in-Some.is c.quick_reactive.ensures)

pub returns : goal.returns
returns c = search (field-there, c.exact_reactive.ensures)
