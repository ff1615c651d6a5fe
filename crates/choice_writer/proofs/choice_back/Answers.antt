use Rattle.field_groups.specs.Groups.{holds_more}
use Rattle.choice_writer.proofs.choice_back.Goals as goal

pub returns : goal.returns
returns c = holds_more c.field.ensures c.and.ensures
