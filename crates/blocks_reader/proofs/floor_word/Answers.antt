-- The word has cap, floor and price, and where they fit, they are what reading gives.
use native.Mathlib.Omega.{arith}
use Rattle.bits.proofs.Laws.{reaches}
use Rattle.blocks_reader.proofs.Blocks.{fitting, floor-found}
use Rattle.blocks_reader.proofs.floor_word.Goals as goal

pub bits_at-word-requires : goal.bits_at-word-requires
bits_at-word-requires c = omega (arith, c.requires.1, reaches c.args.s.now)

pub overflow_add-past : goal.overflow_add-past
overflow_add-past c =
    let k = c in
    omega (arith, k.requires.1, reaches k.args.s.now)

pub returns : goal.returns
returns c =
    let b = c in
    let k = b.before in
    fitting _ c.block_of.ensures (floor-found k.args.edition k.args.s.now k.args.p k.requires.0 k.requires.1 b.bits_at-word.ensures c.field_in-cap.ensures
    c.field_in-floor.ensures c.offset_in-price.ensures)
