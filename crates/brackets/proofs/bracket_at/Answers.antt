-- The three, added.
use Rattle.std.proofs.Common.{arith, refl}
use Rattle.brackets.specs.Counts.{bracket_at}
use Rattle.brackets.proofs.bracket_at.Goals as goal

pub returns : goal.returns
unfolding bracket_at
returns c = (
  rw (c.on_at-on.ensures, c.starts_above-rising.ensures.0, c.stops_above-falling.ensures.0) refl,
  omega (arith, c.on_at-on.ensures, c.starts_above-rising.ensures.1, c.stops_above-falling.ensures.1, c.requires.0.on c.args.t c.requires.1),
)
