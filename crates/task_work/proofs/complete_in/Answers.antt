-- Mended, or copied.
use Rattle.task_work.specs.Steps.{whole_long, mend-completes, copy-completes}
use Rattle.task_work.proofs.complete_in.Goals as goal

pub mend_plan-x-requires : goal.mend_plan-x-requires
mend_plan-x-requires c =
    (c.requires.0, c.requires.1, whole_long 0)

pub returns-then-mending : goal.returns-then-mending
returns-then-mending c =
    mend-completes _ _ _ _ _ _ _ _ c.if-mending.true c.mend_plan-x.ensures c.tell_mending.ensures

pub copy_plan-x-requires : goal.copy_plan-x-requires
copy_plan-x-requires c =
    (c.requires.0, c.requires.1, whole_long 0)

pub returns : goal.returns
returns c =
    copy-completes _ _ _ _ _ _ _ c.if-mending.false c.copy_plan-x.ensures c.tell_copy.ensures
