-- The records are those of interval t.
use Rattle.moments.specs.Moments.{same-sizes}
use Rattle.cell_spans.specs.Parts.{real-done}
use Rattle.cell_spans.proofs.real_span.Goals as goal

pub within_ramps-ramps-requires : goal.within_ramps-ramps-requires
within_ramps-ramps-requires c =
    let entry : _ = c in
    (same-sizes c.cell_at-c.ensures c.setting_at-s.ensures c.moment_at-w.ensures entry.requires.sized, entry.requires.small)

pub within_reserves-reserves-requires : goal.within_reserves-reserves-requires
within_reserves-reserves-requires c =
    let at-moment-at : _ = c in
    let entry : _ = at-moment-at in
    same-sizes c.cell_at-c.ensures c.setting_at-s.ensures at-moment-at.moment_at-w.ensures entry.requires.sized

pub within_blocks-requires : goal.within_blocks-requires
within_blocks-requires c =
    let at-cell-at : _ = c in
    let at-moment-at : _ = at-cell-at in
    let entry : _ = at-moment-at in
    same-sizes at-cell-at.cell_at-c.ensures c.setting_at-s.ensures at-moment-at.moment_at-w.ensures entry.requires.sized

pub returns : goal.returns
returns c =
    let entry : _ = c in
    let a : _ = entry.args in
    real-done a.d a.power0.0 a.halves.now a.cells.now a.settings.now a.starts.now a.powers.now a.t
    c.whole_span-all.ensures c.cell_at-c.ensures c.setting_at-s.ensures
    c.moment_at-w.ensures c.within_ramps-ramps.ensures c.within_reserves-reserves.ensures
    c.within_blocks.ensures
