-- The loop's invariant: i of n have been read, whatever is listed.
use Rattle.list_reader.proofs.Counting.{Filling}
use Rattle.list_reader.proofs.read_items.Given as goal

abbrev pub invariant-loop-i : goal.invariant-loop-i
invariant-loop-i l = Filling l.listed l.edition l.last l.s l.n l.initial.q l.i l.items l.q
