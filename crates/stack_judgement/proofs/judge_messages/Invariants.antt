-- The loop's invariant: what is left to do from the k-th place on is what was to do.
use Prim.Native.Nat.{◌*◌}
use Rattle.decoded_cases.specs.Decoded.{Work, stated_rows}
use Rattle.stacks.specs.Going.{Going}
use Rattle.stack_judgement.proofs.judge_messages.Given as goal

abbrev pub invariant-loop-k : goal.invariant-loop-k
invariant-loop-k l =
    Work l.halves l.devices l.settings l.starts l.powers
    × Going (stated_rows l.front l.halves l.zones l.minima l.devices l.cells) l.batch l.initial.results l.initial.table (6 * l.count) l.reached.at l.reached.bytes (6 * l.k) l.results l.table
