-- An edition below 5 has 0 at the same place, any other the field.
use Rattle.layouts.specs.Layout.{figure}
use Rattle.fields.specs.Since.{field-absent, field-there}
use Rattle.busbar_reader.proofs.read_there.Goals as goal

pub returns-then-edition-lt-SINCE : goal.returns-then-edition-lt-SINCE
returns-then-edition-lt-SINCE c = let a = c.args in field-absent 5 a.edition 0 (figure a.width 0 a.most) a.s.now a.p c.if-edition-lt-SINCE.true

pub returns : goal.returns
returns c = let a = c.args in field-there 5 a.edition 0 (figure a.width 0 a.most) a.s.now a.p c.if-edition-lt-SINCE.false c.read_figure.ensures
