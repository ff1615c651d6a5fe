-- The loop's invariant: the changes below e are added, and `before` is the commitment before e.
use Rattle.std.proofs.Common.{◌≡◌}
use Rattle.row_places.specs.Figures.{on_before}
use Rattle.ramped_powers.specs.Changes.{added, Grown}
use Rattle.ramped_powers.proofs.add_changes.Given as goal

abbrev pub invariant-loop-e : goal.invariant-loop-e
invariant-loop-e l = (l.before ≡ on_before l.r.on0 l.settings l.e) × Grown (added l.r l.cells l.settings l.starts) l.e l.initial.row l.row
