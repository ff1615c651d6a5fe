-- An edition below 2 has the neutral figures at the same place, any other the three.
use Rattle.fields.specs.Since.{field-absent, field-there}
use Rattle.model.specs.Case.{no_reactive}
use Rattle.model.specs.ByEdition.{reactive}
use Rattle.reactive_reader.proofs.read_reactive.Goals as goal

pub returns-then-edition-lt-SINCE : goal.returns-then-edition-lt-SINCE
returns-then-edition-lt-SINCE c = let a = c.args in field-absent 2 a.edition no_reactive reactive a.s.now a.p c.if-edition-lt-SINCE.true

pub returns : goal.returns
returns c = let a = c.args in field-there 2 a.edition no_reactive reactive a.s.now a.p c.if-edition-lt-SINCE.false c.read_three.ensures
