-- The real ones, then the reactive.
use native.Mathlib.Omega.{arith}
use Rattle.money.specs.Bounds.{mismatch_cost_most, mismatches_most}
use Rattle.money.specs.Entries.{spare-after, spare-room}
use Rattle.interval_completions.proofs.mismatches_money.Goals as goal

pub reactive_mismatch_money-requires : goal.reactive_mismatch_money-requires
reactive_mismatch_money-requires c =
    let h : _ = c.requires in
    (spare-room 0 (spare-after mismatches_most mismatch_cost_most 0 h.0 (c.mismatch_money-l.ensures.is h.1) (omega arith)), h.2)
