-- So many words are copied.
use Prim.Native.Nat.{◌*◌}
use Rattle.writing.specs.Splice.{keep}
use Rattle.bit_copier.specs.Moves.{Moves}
use Rattle.bit_copier.proofs.keep_run.Given as goal

abbrev pub invariant-loop : goal.invariant-loop
invariant-loop l = Moves (keep (56 * l.counter)) l.s l.initial.buf l.buf l.initial.t l.t
