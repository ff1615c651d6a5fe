-- `raising::stopped_at` meets its contract.
-- Assumes nothing.
use mathlib.Core.Path.{refl}
use Rattle.raising.specs.Raising.{stop_of}
use Rattle.raising.proofs.stopped_at.Goals as goal

pub returns : goal.returns
unfolding stop_of
returns c = refl
