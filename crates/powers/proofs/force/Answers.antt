-- The times, then the powers.
use Rattle.powers.specs.Fleet.{halves_small, forced-both}
use Rattle.powers.proofs.force.Goals as goal

pub start_times-requires : goal.start_times-requires
start_times-requires c = let a : _ = c.args in
    (halves_small a.halves.now a.devices.now a.cells.now a.settings.now c.requires.case_of.0 c.requires.case_of.1, c.requires.starts_len.0)

pub returns : goal.returns
returns c = let a : _ = c.args in
    forced-both a.halves.now a.devices.now a.cells.now a.settings.now c.requires.case_of.0 c.requires.case_of.1
    c.start_times.ensures c.put_powers.ensures
