-- The loop's invariant: i of the blocks have been read, and the others have cap 0.
use Rattle.blocks_reader.proofs.Blocks.{Blocking}
use Rattle.blocks_reader.proofs.read_blocks.Given as goal

abbrev pub invariant-loop-i : goal.invariant-loop-i
invariant-loop-i l = Blocking l.edition l.s l.count l.initial.q l.i l.blocks l.q
