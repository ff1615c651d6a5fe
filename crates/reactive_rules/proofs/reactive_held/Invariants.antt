-- The loop's invariant: in the intervals below t every test holds; it begins behind those of which nothing is reactive.
use Rattle.reactive_rules.specs.Rules.{ReactiveHeldTo}
use Rattle.reactive_rules.proofs.reactive_held.Given as goal

abbrev pub invariant-loop-t : goal.invariant-loop-t
invariant-loop-t l = ReactiveHeldTo l.d l.cells l.settings l.starts l.powers l.t
