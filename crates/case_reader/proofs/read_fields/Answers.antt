use Rattle.std.proofs.Math.Path.{refl}
use Rattle.case_reader.proofs.Ends.{room_within, fields-none, fields-off, fields-late, fields-done}
use Rattle.case_reader.proofs.read_fields.Goals as goal

pub returns-in_err-opening : goal.returns-in_err-opening
returns-in_err-opening c = fields-none _ _ _ _ _ _ _ _ _ c.from_residual.ensures (fields-off _ _ _ c.in_err-opening.ensures.is)

pub read_body-requires : goal.read_body-requires
read_body-requires c = room_within c.requires (c.in_ok-opening.ensures.within _ _ refl)

pub returns-in_err-past : goal.returns-in_err-past
returns-in_err-past c = fields-none _ _ _ _ _ _ _ _ _ c.from_residual-in_err-past.ensures (fields-late _ _ _ _ c.in_ok-opening.ensures c.in_err-past.ensures.is)

pub returns : goal.returns
returns c = fields-done _ _ _ _ c.in_ok-opening.ensures c.in_ok-past.ensures
