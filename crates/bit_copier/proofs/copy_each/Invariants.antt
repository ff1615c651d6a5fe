-- As many parts are copied as the loop has counted.
use Rattle.writing.specs.Splice.{times}
use Rattle.bit_copier.specs.Moves.{Moves}
use Rattle.bit_copier.proofs.copy_each.Given as goal

abbrev pub invariant-loop : goal.invariant-loop
invariant-loop g l = Moves (times l.counter g.part.0) g.part.1 l.initial.buf l.buf l.initial.t l.t
