use Rattle.list_reader.proofs.Counting.{fill-no-count, fill_none, fill_more, fill-off, fill_done}
use Rattle.list_reader.proofs.read_items.Goals as goal

pub returns-in_err-n : goal.returns-in_err-n
returns-in_err-n c = search (fill-no-count, c.in_err-n.ensures)

pub loop-i-init : goal.loop-i-init
loop-i-init c = search (fill_none, c.in_ok-n.ensures)

pub returns-in_err-item : goal.returns-in_err-item
returns-in_err-item c = search (fill-off, c.in_ok-n.ensures, c.in_err-item.ensures)

pub loop-i-preserved : goal.loop-i-preserved
loop-i-preserved c = search (fill_more, c.in_ok-item.ensures)

pub returns : goal.returns
returns c = search (fill_done, c.in_ok-n.ensures)
