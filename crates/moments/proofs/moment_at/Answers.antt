-- Each figure by what its function ensures.
use mathlib.Core.Path.{refl}
use Rattle.moments.specs.Moments.{moment_at}
use Rattle.moments.proofs.moment_at.Goals as goal

pub returns : goal.returns
unfolding moment_at
returns c = rw (
  c.rest_kept-rested.ensures,
  c.rest_kept-ran.ensures,
  c.started_at-started.ensures,
  c.stopped_at-stopped.ensures,
  c.previous_power-previous.ensures,
) refl
