-- Step by step, by the splice.
use Rattle.plan_copier.specs.Fronts.{front-of}
use Rattle.plan_copier.proofs.add_front.Goals as goal

pub returns : goal.returns
returns c = front-of _ _ c.add_field-q.ensures c.add_field-q-2.ensures c.add_field-q-3.ensures c.add_field.ensures
