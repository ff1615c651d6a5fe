-- The digits, of which 20 are enough.
use Rattle.std.proofs.Common.{ap, arith, length, ◌∙◌}
use Rattle.wording.proofs.Spelling.{prints}
use Rattle.wording.proofs.Writes.{puts-as}
use Rattle.wording.proofs.put_number.Goals as goal

pub put_bytes-requires : goal.put_bytes-requires
put_bytes-requires c = omega (arith, ap length c.as_bytes.ensures.value, c.format.ensures.fits)

pub returns : goal.returns
returns c = puts-as (c.as_bytes.ensures.value ∙ c.format.ensures.text ∙ prints c.args.n c.ranges.n.fits)
    (omega (arith, ap length c.as_bytes.ensures.value, c.format.ensures.fits)) c.put_bytes.ensures
