-- By the sign, which two's complement tells.
use mathlib.Core.Path.{ap, ◌∙◌}
use mir.Syntax.{w64}
use mir.ValLaws.{to_z-of_z}
use Rattle.bits.specs.Twos.{to_twos}
use native.Mathlib.Omega.{arith}
use Rattle.wording.proofs.Spelling.{from_zero, below-zero, accepted-from-zero, accepted-below-zero}
use Rattle.wording.proofs.Writes.{writes_as}
use Rattle.verdict_lines.proofs.put_accepted.Goals as goal

pub returns-then-v-lt9223372036854775808 : goal.returns-then-v-lt9223372036854775808
returns-then-v-lt9223372036854775808 c =
    let at-if : _ = c in
    let at-twos : _ = at-if in
    let e : _ = at-twos in
    writes_as (accepted-from-zero e.args.index _ e.args.surplus
    (from_zero _ e.ranges.surplus (at-twos.twos-v.ensures ∙ ap (to_twos 64) (to_z-of_z w64 e.args.surplus e.ranges.surplus)) at-if.if-v-lt9223372036854775808.true))
    c.put_surplus.ensures (omega arith)

pub returns-else-v-lt9223372036854775808 : goal.returns-else-v-lt9223372036854775808
returns-else-v-lt9223372036854775808 c =
    let at-if : _ = c in
    let at-twos : _ = at-if in
    let e : _ = at-twos in
    writes_as (accepted-below-zero e.args.index _ e.args.surplus
    (below-zero _ e.ranges.surplus (at-twos.twos-v.ensures ∙ ap (to_twos 64) (to_z-of_z w64 e.args.surplus e.ranges.surplus)) at-if.if-v-lt9223372036854775808.false))
    c.put_surplus-else-v-lt9223372036854775808.ensures (omega arith)
