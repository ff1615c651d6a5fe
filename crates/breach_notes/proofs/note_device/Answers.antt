-- The parts are those of device i.
use native.Mathlib.Omega.{arith}
use mathlib.Core.Path.{refl, sym}
use Rattle.failing_rules.specs.Parts.{place, few-windows, own-timed, windows-are}
use Rattle.breach_entries.specs.Noted.{notes-as}
use Rattle.breach_notes.specs.Day.{room_as}
use Rattle.breach_notes.proofs.note_device.Goals as goal

pub overflow_mul-a : goal.overflow_mul-a
overflow_mul-a c = omega (arith, place c.requires.ready.0 c.args.i _ c.requires.ready.1 refl)

pub overflow_add-e : goal.overflow_add-e
overflow_add-e c = let a : _ = c.args in let s : _ = c.requires.ready in omega (arith, place s.0 a.i _ s.1 refl)

pub offset_bounds-settings-a : goal.offset_bounds-settings-a
offset_bounds-settings-a c = let a : _ = c.args in let s : _ = c.requires.ready in omega (
  arith,
  place s.0
      a.i _ s.1 refl,
)

pub slice_bounds-note_windows-end : goal.slice_bounds-note_windows-end
slice_bounds-note_windows-end c = let a : _ = c.args in let s : _ = c.requires.ready in omega (
  arith,
  place
      s.0 a.i _ s.1 refl,
)

pub note_windows-requires : goal.note_windows-requires
note_windows-requires c = let a : _ = c.args in
    let s : _ = c.requires.ready in let r : _ = s.0 in record {
      nstarts_le_most_windows = (
        few-windows r a.i _ s.1 refl c.device_at-d.ensures,
        omega (arith, r.case_rows.few-devices),
        own-timed r a.i _ s.1 refl,
      );
      i_bound = room_as a.k (sym (windows-are r a.i _ s.1 refl c.device_at-d.ensures)) c.requires.i_bound;
    }

pub returns : goal.returns
returns c = let a : _ = c.args in
    let s : _ = c.requires.ready in notes-as (windows-are s.0 a.i _ s.1 refl
    c.device_at-d.ensures) c.note_windows.ensures
