-- The cells' breaches come ahead of the windows'.
use Rattle.breach_notes.specs.Day.{cells-room, windows-room, all_noted}
use Rattle.breach_notes.proofs.note_all.Goals as goal

pub note_cells-n-requires : goal.note_cells-n-requires
note_cells-n-requires c = let a : _ = c.args in record {
  ready = c.requires;
  settings_bound = cells-room a.halves.now
      a.zones.now a.minima.now a.devices.now a.cells.now a.settings.now c.requires.case_rows;
}

pub note_devices-requires : goal.note_devices-requires
note_devices-requires c = let a : _ = c.args in record {
  ready = c.requires;
  settings_bound = windows-room a.halves.now a.zones.now a.minima.now a.devices.now
      a.cells.now a.settings.now c.requires.case_rows c.note_cells-n.ensures;
}

pub returns : goal.returns
returns c = let a : _ = c.args in all_noted a.halves.now a.zones.now
    a.minima.now a.devices.now a.cells.now a.settings.now
    c.requires.case_rows
    c.note_cells-n.ensures c.note_devices.ensures
