use Rattle.pen.specs.Pens.{pushes-then}
use Rattle.field_groups.proofs.put_both.Goals as goal

pub returns : goal.returns
returns c = pushes-then c.push-p.ensures c.push.ensures
