-- The figures are those of interval t.
use mathlib.Core.Path.{ap, ◌∙◌}
use Prim.Native.Nat.{ℕ, ◌-◌}
use native.Mathlib.Omega.{arith}
use lib.ListN.{get_or}
use Rattle.cell_spans.specs.Parts.{lines-done}
use Rattle.cell_spans.proofs.lines_span.Goals as goal

pub within_lines-requires : goal.within_lines-requires
within_lines-requires c =
    let entry : _ = c in
    let h : _ = entry.requires.0 in
    (h.link, rw c.reactive_at-x.ensures h.reactive, c.bracket_given-n.ensures.1, omega (arith, h.power, c.less-a.ensures))

pub returns : goal.returns
returns c =
    let entry : _ = c in
    let a : _ = entry.args in
    lines-done a.d a.cells.now a.settings.now a.starts.now a.powers.now a.t a.span
    c.bracket_given-n.ensures.0 (c.less-a.ensures ∙ ap (λ (n : ℕ). get_or a.powers.now a.t 0 - n)
    c.online_at-online.ensures) c.reactive_at-x.ensures c.within_lines.ensures
