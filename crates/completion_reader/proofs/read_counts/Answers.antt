-- The first count that is refused answers.
use Rattle.std.proofs.Math.Path.{refl}
use Rattle.layouts.specs.Layout.{held, ◌then◌}
use Rattle.fields.specs.Got.{nat-natural}
use Rattle.fields.specs.Since.{count-of}
use Rattle.fields.proofs.Steps.{on, off, exits}
use Rattle.completion_reader.specs.Fronts.{counts}
use Rattle.completion_reader.proofs.read_counts.Goals as goal

pub returns-in_err-at_intervals : goal.returns-in_err-at_intervals
unfolding counts held ◌then◌
returns-in_err-at_intervals c =
    let k = count-of _ _ _ _ _ c.device_bits-across.ensures refl refl c.in_err-at_intervals.ensures in
    search (exits, off, nat-natural, k)

pub returns-in_err-at_zones : goal.returns-in_err-at_zones
unfolding counts held ◌then◌
returns-in_err-at_zones c =
    let k = count-of _ _ _ _ _ c.device_bits-across.ensures refl refl c.in_ok-at_intervals.ensures in
    let l = count-of _ _ _ _ _ c.interval_bits-along.ensures refl refl c.in_err-at_zones.ensures in
    search (exits, on, off, nat-natural, k, l)

pub returns : goal.returns
unfolding counts held ◌then◌
returns c =
    let k = count-of _ _ _ _ _ c.device_bits-across.ensures refl refl c.in_ok-at_intervals.ensures in
    let l = count-of _ _ _ _ _ c.interval_bits-along.ensures refl refl c.in_ok-at_zones.ensures in
    search (on, nat-natural, k, l)
