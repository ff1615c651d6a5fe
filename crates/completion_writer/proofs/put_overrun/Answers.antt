use Rattle.layouts.specs.Layout.{nat}
use Rattle.completion_writer.proofs.put_overrun.Goals as goal

pub returns : goal.returns
unfolding nat
returns c = c.push.ensures
