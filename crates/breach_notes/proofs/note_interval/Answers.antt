-- The cells' breaches, then the link's.
use native.Mathlib.Omega.{arith}
use mathlib.Core.Path.{◌∙◌}
use lib.ListN.{length}
use Rattle.records.specs.Views.{system_in, plan_in}
use Rattle.link_rules.specs.Link.{link-rows, link-is}
use Rattle.breach_notes.specs.Bits.{link-bytes}
use Rattle.breach_notes.specs.Link.{link-noted, interval-room, link-room, interval-noted}
use Rattle.breach_notes.proofs.note_interval.Goals as goal

pub note_interval_cells-n-requires : goal.note_interval_cells-n-requires
note_interval_cells-n-requires c = let a : _ = c.args in record {
  ready = c.requires.ready;
  t_bound = interval-room (system_in a.halves.now a.zones.now a.minima.now a.devices.now a.cells.now)
      (plan_in (length a.devices.now) (length a.halves.now) a.settings.now) a.t a.k c.requires.t_bound;
}

pub link_kept-kept-requires : goal.link_kept-kept-requires
link_kept-kept-requires c = (link-rows c.requires.ready.0).at c.args.t c.requires.ready.1

pub note_if-requires : goal.note_if-requires
note_if-requires c = let a : _ = c.args in (
  link-bytes (omega (arith, c.requires.ready.1, c.requires.ready.0.case_rows.few-intervals)) c.link_breach-b.ensures,
  link-room (system_in a.halves.now a.zones.now a.minima.now a.devices.now a.cells.now)
      (plan_in (length a.devices.now) (length a.halves.now) a.settings.now) a.t a.k c.requires.t_bound
      c.note_interval_cells-n.ensures
      (link-noted a.devices.now a.settings.now a.t c.link_kept-kept.ensures c.link_breach-b.ensures
      ∙ link-is c.requires.ready.0 a.t c.requires.ready.1),
)

pub returns : goal.returns
returns c =
    let a : _ = c.args in
    interval-noted (system_in a.halves.now a.zones.now a.minima.now a.devices.now a.cells.now)
    (plan_in (length a.devices.now) (length a.halves.now) a.settings.now) a.t a.k c.requires.t_bound
    c.note_interval_cells-n.ensures
    (link-noted a.devices.now a.settings.now a.t c.link_kept-kept.ensures c.link_breach-b.ensures
    ∙ link-is c.requires.ready.0 a.t c.requires.ready.1) c.note_if.ensures
