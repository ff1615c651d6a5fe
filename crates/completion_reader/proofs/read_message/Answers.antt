-- Refused by its front, or as what stands behind it.
use Rattle.std.proofs.Common.{sym}
use Rattle.completion_reader.specs.Whole.{header-inside, message-bad, message-good}
use Rattle.completion_reader.proofs.read_message.Goals as goal

pub read_behind-requires : goal.read_behind-requires
read_behind-requires c = (header-inside _ c.args.f _ (sym c.in-Ok.ensures), c.requires)

pub returns-in-Err : goal.returns-in-Err
returns-in-Err c = message-bad c.args.f _ c.kind_of-kind.ensures (sym c.in-Err.ensures)

pub returns-in-Ok : goal.returns-in-Ok
returns-in-Ok c = message-good c.args.f _ c.kind_of-kind.ensures _ (sym c.in-Ok.ensures) c.read_behind.ensures
