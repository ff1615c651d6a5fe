-- An edition below 5 has no flow at the same place, any other one.
use Rattle.fields.specs.Since.{field-absent, field-there}
use Rattle.model.specs.Case.{no_flow}
use Rattle.model.specs.ByEdition.{flow}
use Rattle.flow_reader.proofs.read_flow.Goals as goal

pub returns-then-edition-lt-SINCE : goal.returns-then-edition-lt-SINCE
returns-then-edition-lt-SINCE c = let a = c.args in field-absent 5 a.edition no_flow flow a.s.now a.p c.if-edition-lt-SINCE.true

pub returns : goal.returns
returns c = let a = c.args in field-there 5 a.edition no_flow flow a.s.now a.p c.if-edition-lt-SINCE.false c.read_offset.ensures
