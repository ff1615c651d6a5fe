-- The breaches of the rules that fail.
use lib.ListN.{length}
use native.Mathlib.Omega.{arith}
use mathlib.Core.Path.{refl, sym}
use Rattle.failing_rules.specs.Parts.{place}
use Rattle.records.specs.Views.{system_in, plan_in}
use Rattle.breach_entries.specs.Noted.{notes-as}
use Rattle.breach_notes.specs.Day.{word-is, room_as}
use Rattle.breach_notes.proofs.note_cell.Goals as goal

pub overflow_mul-a : goal.overflow_mul-a
overflow_mul-a c = omega (arith, place c.requires.ready.0 c.args.i _ c.requires.ready.1 refl)

pub note_word-requires : goal.note_word-requires
note_word-requires c = let a : _ = c.args in let r : _ = c.requires.ready.0 in (
  omega (arith, r.case_rows.few-intervals, c.requires.ready.2),
  omega (arith, r.case_rows.few-devices, c.requires.ready.1),
  room_as a.k (sym (word-is (system_in a.halves.now a.zones.now a.minima.now a.devices.now a.cells.now) (plan_in (length a.devices.now) (length
      a.halves.now) a.settings.now) a.t a.i c.failing_in-word.result c.failing_in-word.ensures))
      c.requires.i_bound,
)

pub returns : goal.returns
returns c = let a : _ = c.args in notes-as (word-is (system_in a.halves.now a.zones.now
    a.minima.now a.devices.now a.cells.now) (plan_in (length a.devices.now) (length a.halves.now) a.settings.now) a.t a.i
    c.failing_in-word.result c.failing_in-word.ensures) c.note_word.ensures
