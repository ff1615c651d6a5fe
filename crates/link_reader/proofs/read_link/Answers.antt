-- An edition below 2 has no link at the same place, any other one.
use Rattle.fields.specs.Since.{field-absent, field-there}
use Rattle.model.specs.Case.{no_link}
use Rattle.model.specs.ByEdition.{link}
use Rattle.link_reader.proofs.read_link.Goals as goal

pub returns-then-edition-lt-LINK_EDITION : goal.returns-then-edition-lt-LINK_EDITION
returns-then-edition-lt-LINK_EDITION c = let a = c.args in field-absent 2 a.edition no_link link a.s.now a.p c.if-edition-lt-LINK_EDITION.true

pub returns : goal.returns
returns c = let a = c.args in field-there 2 a.edition no_link link a.s.now a.p c.if-edition-lt-LINK_EDITION.false c.read_kind.ensures
