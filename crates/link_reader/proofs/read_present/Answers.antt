use Rattle.std.proofs.Math.Path.{refl}
use Rattle.layouts.specs.Since.{present, nothing}
use Rattle.link_reader.proofs.read_present.Goals as goal

pub returns-then-there : goal.returns-then-there
unfolding present
returns-then-there c = rw c.if-there.true c.read_line.ensures

pub returns : goal.returns
unfolding present nothing
returns c = rw c.if-there.false refl
