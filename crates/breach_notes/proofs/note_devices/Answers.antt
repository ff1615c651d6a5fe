use mathlib.Core.Path.{sym}
use lib.ListN.{length}
use Rattle.model.specs.Breaches.{window_breaches}
use Rattle.records.specs.Views.{system_in, plan_in}
use Rattle.breach_entries.specs.Noted.{gather-start, gather-room, gather-more, gather-done, notes-as}
use Rattle.breach_notes.specs.Day.{windows-are, room_as}
use Rattle.breach_notes.proofs.note_devices.Goals as goal

pub loop-i-init : goal.loop-i-init
loop-i-init c = gather-start _ _ _ _

pub note_device-n-requires : goal.note_device-n-requires
note_device-n-requires c = let a : _ = c.args in let r : _ = c.requires.ready in record {
  ready = (r, c.loop-i-test.true);
  i_bound = gather-room (window_breaches (system_in a.halves.now a.zones.now a.minima.now a.devices.now a.cells.now) (plan_in (length a.devices.now) (length
      a.halves.now) a.settings.now)) (length a.devices.now) c.loop-i.invariant c.loop-i-test.true (room_as a.k (windows-are
      a.halves.now a.zones.now a.minima.now a.devices.now a.cells.now a.settings.now) c.requires.settings_bound);
}

pub loop-i-preserved : goal.loop-i-preserved
loop-i-preserved c = let a : _ = c.args in
    gather-more (window_breaches (system_in a.halves.now a.zones.now a.minima.now a.devices.now a.cells.now) (plan_in (length a.devices.now) (length
    a.halves.now) a.settings.now)) (length a.devices.now) c.loop-i.invariant
    c.loop-i-test.true c.note_device-n.ensures

pub returns : goal.returns
returns c = let a : _ = c.args in notes-as (sym (windows-are a.halves.now a.zones.now a.minima.now a.devices.now
    a.cells.now a.settings.now)) (gather-done (window_breaches (system_in a.halves.now a.zones.now a.minima.now a.devices.now a.cells.now) (plan_in
    (length a.devices.now) (length a.halves.now) a.settings.now)) (length a.devices.now) c.loop-i.invariant c.loop-i-test.false)
