-- The message is read by the counts of the rows.
use native.Mathlib.Omega.{arith}
use Rattle.task_work.specs.Steps.{few-windows, read-few, reads-back}
use Rattle.task_work.proofs.read_back.Goals as goal

pub count_windows-windows-requires : goal.count_windows-windows-requires
count_windows-windows-requires c = few-windows _ _ _ _ _ _ c.requires

pub overflow_cast-form : goal.overflow_cast-form
overflow_cast-form c =
    omega (arith, c.requires.rows.few-devices, c.requires.rows.few-intervals, c.requires.rows.few-zones)

pub overflow_cast-form-2 : goal.overflow_cast-form-2
overflow_cast-form-2 c =
    omega (arith, c.requires.rows.few-devices, c.requires.rows.few-intervals, c.requires.rows.few-zones)

pub overflow_cast-form-3 : goal.overflow_cast-form-3
overflow_cast-form-3 c =
    omega (arith, c.requires.rows.few-devices, c.requires.rows.few-intervals, c.requires.rows.few-zones)

pub read_message-x-requires : goal.read_message-x-requires
read_message-x-requires c = c.requires.rows.few-zones

pub tell_reading-requires : goal.tell_reading-requires
tell_reading-requires c =
    read-few _ _ _ _ _ _ c.requires c.args.desk c.args.message.now c.args.table.now c.count_windows-windows.ensures
    c.read_message-x.ensures

pub returns : goal.returns
returns c =
    reads-back _ _ _ _ _ _ c.requires c.args.desk c.args.message.now c.args.table.now c.count_windows-windows.ensures
    c.read_message-x.ensures c.tell_reading.ensures
