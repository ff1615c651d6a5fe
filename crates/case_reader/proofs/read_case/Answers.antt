use Rattle.case_reader.proofs.Ends.{tables-kept, case-inside, case-refused, case-off, case-fails, case-ends}
use Rattle.case_reader.proofs.read_case.Goals as goal

pub returns-in_err-head : goal.returns-in_err-head
returns-in_err-head c =
    case-refused _ _ _ _ _ _ _ _ _ c.from_residual.ensures (case-off _ _ c.requires.few-devices c.requires.few-intervals _ c.in_err-head.ensures.is)

pub finish-requires : goal.finish-requires
finish-requires c = case-inside _ _ _ _ _ _ _ _ _ c.in_ok-head.ensures

pub returns-in_err-finish : goal.returns-in_err-finish
returns-in_err-finish c =
    let k = c.read_fields.auto in
    case-refused _ _ _ _ _ _ _ _ _ c.from_residual-in_err-finish.ensures
    (case-fails _ _ _ _ _ _ _ _ _ c.in_ok-head.ensures (tables-kept c.requires k.halves k.zones k.minima k.devices k.cells) c.in_err-finish.ensures)

pub returns : goal.returns
returns c =
    let k = c.read_fields.auto in
    case-ends _ _ _ _ _ _ _ _ _ c.in_ok-head.ensures (tables-kept c.requires k.halves k.zones k.minima k.devices k.cells) c.in_ok-finish.ensures
