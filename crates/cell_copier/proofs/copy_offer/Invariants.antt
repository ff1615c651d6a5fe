-- The part that is copied so often, by the edition that the step holds.
use Rattle.writing.specs.Splice.{keep, ◌⨾◌}
use Rattle.writing.specs.CaseSplices.{block_splice}
use Rattle.cell_copier.proofs.copy_offer.Given as goal

abbrev pub ghost-copy_each : goal.ghost-copy_each
ghost-copy_each a = (block_splice a.step.1 ⨾ keep 15, a.step.0.now)
