-- The records are those of interval t.
use Rattle.moments.specs.Moments.{same-sizes}
use Rattle.cell_spans.specs.Parts.{next-done}
use Rattle.cell_spans.proofs.next_span.Goals as goal

pub within_next-requires : goal.within_next-requires
within_next-requires c =
    let entry : _ = c in
    (same-sizes c.cell_at-c.ensures c.setting_at-s.ensures c.moment_at-w.ensures entry.requires.0.sized, entry.requires.0.small, entry.requires.1)

pub returns : goal.returns
returns c =
    let entry : _ = c in
    let a : _ = entry.args in
    next-done a.d a.power0.0 a.halves.now a.cells.now a.settings.now a.starts.now a.powers.now a.t a.span a.a
    c.setting_at-s.ensures c.moment_at-w.ensures c.within_next.ensures
