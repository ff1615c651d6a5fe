use Rattle.blocks_reader.proofs.Blocks.{blocks-off, no-count, blocking-none, blocking-more, blocking-off, blocking-done}
use Rattle.blocks_reader.proofs.read_blocks.Goals as goal

pub returns-in_err-count : goal.returns-in_err-count
returns-in_err-count c = blocks-off _ _ _ c.from_residual.ensures (search (no-count, c.in_err-count.ensures))

pub loop-i-init : goal.loop-i-init
loop-i-init c = search (blocking-none, c.in_ok-count.ensures)

pub returns-in_err-block : goal.returns-in_err-block
returns-in_err-block c = blocks-off _ _ _ c.from_residual-in_err-block.ensures (search (blocking-off, c.in_ok-count.ensures, c.in_err-block.ensures))

pub loop-i-preserved : goal.loop-i-preserved
loop-i-preserved c = search (blocking-more, c.in_ok-block.ensures)

pub returns : goal.returns
returns c = search (blocking-done, c.in_ok-count.ensures)
