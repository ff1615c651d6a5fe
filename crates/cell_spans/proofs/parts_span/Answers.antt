-- The next interval is asked where there is one.
use native.Mathlib.Omega.{arith}
use Rattle.cell_spans.specs.Parts.{span-next, span_last}
use Rattle.cell_spans.proofs.parts_span.Goals as goal

pub next_span-requires : goal.next_span-requires
next_span-requires c = (c.requires.next (omega arith), c.beside-a.ensures.1)

pub returns-then-next-halves : goal.returns-then-next-halves
returns-then-next-halves c =
    let entry : _ = c in
    let a : _ = entry.args in
    span-next a.d a.r a.power0.0 a.halves.now a.cells.now a.settings.now a.starts.now a.powers.now a.t
    c.real_span-real.ensures c.lines_span-lines.ensures (omega arith) c.beside-a.ensures.0 c.next_span.ensures

pub returns : goal.returns
returns c =
    let entry : _ = c in
    let a : _ = entry.args in
    span_last a.d a.r a.power0.0 a.halves.now a.cells.now a.settings.now a.starts.now a.powers.now a.t
    c.real_span-real.ensures c.lines_span-lines.ensures (omega arith)
