-- The loop's invariant: in the intervals below t every test holds.
use Rattle.device_rules.specs.Whole.{HeldTo}
use Rattle.device_rules.proofs.held_all.Given as goal

abbrev pub invariant-loop-t : goal.invariant-loop-t
invariant-loop-t l = HeldTo l.d l.power0.0 l.halves l.cells l.settings l.starts l.powers l.t
