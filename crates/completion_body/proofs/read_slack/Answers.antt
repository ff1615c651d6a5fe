-- The shortfalls of all zones have one width, and so have the mismatches.
use native.Mathlib.Omega.{arith}
use Prim.Native.Nat.{ℕ, ◌*◌}
use mathlib.Core.Path.{ap}
use Rattle.figure_reader.specs.Walks.{runs_then, runs_as}
use Rattle.completion_body.specs.Forms.{slack-widths, few-product}
use Rattle.completion_body.proofs.read_slack.Goals as goal

pub overflow_mul-zones : goal.overflow_mul-zones
overflow_mul-zones c = let start = c in omega (arith, few-product start.args.zones c.shortfalls-each.result start.requires.1 c.shortfalls-each.ensures.1)

pub returns : goal.returns
returns c =
    let x2 = c in
    let m = x2 in
    let x1 = m in
    let n = x1 in
    let a = n.args in
    runs_as (slack-widths a.edition a.zones _ _ (ap (λ (k : ℕ). a.zones * k) n.shortfalls-each.ensures.0) m.mismatches-all.ensures)
    (runs_then x1.read_fields-short.ensures x2.read_fields.ensures)
