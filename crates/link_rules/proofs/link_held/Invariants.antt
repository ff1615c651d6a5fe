-- The loop's invariant: the rule holds in the intervals below t.
use Rattle.link_rules.specs.Link.{KeptTo}
use Rattle.link_rules.proofs.link_held.Given as goal

abbrev pub invariant-loop-t : goal.invariant-loop-t
invariant-loop-t l = KeptTo l.devices l.settings l.t
