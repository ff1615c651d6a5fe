-- Four fields: the first that is refused answers.
use Rattle.std.proofs.Math.Path.{refl}
use Rattle.layouts.specs.Layout.{held, ◌then◌}
use Rattle.fields.specs.Got.{nat-natural}
use Rattle.fields.specs.Since.{count-of}
use Rattle.fields.proofs.Steps.{on, off, exits}
use Rattle.plan_header.specs.Plans.{header}
use Rattle.plan_header.proofs.read_header.Goals as goal

pub returns-in_err-at_edition : goal.returns-in_err-at_edition
unfolding header held ◌then◌
returns-in_err-at_edition c = search (exits, off, nat-natural, c.in_err-at_edition.ensures)

pub returns-in_err-at_devices : goal.returns-in_err-at_devices
unfolding header held ◌then◌
returns-in_err-at_devices c = search (exits, on, off, nat-natural, c.in_ok-at_edition.ensures, c.in_err-at_devices.ensures)

pub returns-in_err-at_intervals : goal.returns-in_err-at_intervals
unfolding header held ◌then◌
returns-in_err-at_intervals c =
    let k = count-of _ _ _ _ _ c.device_bits-across.ensures refl refl c.in_err-at_intervals.ensures in
    search (exits, on, off, nat-natural, k, c.in_ok-at_edition.ensures, c.in_ok-at_devices.ensures)

pub returns : goal.returns
unfolding header held ◌then◌
returns c =
    let k = count-of _ _ _ _ _ c.device_bits-across.ensures refl refl c.in_ok-at_intervals.ensures in
    let l = count-of _ _ _ _ _ c.interval_bits-along.ensures refl refl c.read_count-2.ensures in
    search (on, nat-natural, k, l, c.in_ok-at_edition.ensures, c.in_ok-at_devices.ensures)
