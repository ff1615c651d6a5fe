use Rattle.fields.proofs.Steps.{seen-exits}
use Rattle.fields.proofs.Chains.{then-off, then-late, then-on}
use Rattle.floor_reader.proofs.Floors.{block-natural as bounds-natural}
use Rattle.blocks_reader.proofs.Blocks.{price-natural}
use Rattle.blocks_reader.proofs.exact_block.Goals as goal

pub returns-in_err-bounds : goal.returns-in_err-bounds
returns-in_err-bounds c = seen-exits _ _ c.from_residual.ensures (then-off (bounds-natural _) _ _ _ c.in_err-bounds.ensures)

pub returns-in_err-price : goal.returns-in_err-price
returns-in_err-price c = seen-exits _ _ c.from_residual-in_err-price.ensures (then-late (bounds-natural _) _ _ _ price-natural c.in_ok-bounds.ensures c.in_err-price.ensures)

pub returns : goal.returns
returns c = then-on (bounds-natural _) _ _ _ price-natural c.in_ok-bounds.ensures c.in_ok-price.ensures
