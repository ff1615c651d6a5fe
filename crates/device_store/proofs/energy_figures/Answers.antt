use mathlib.Core.Path.{refl}
use native.Mathlib.Omega.{arith}
use Rattle.device_store.proofs.energy_figures.Goals as goal

pub narrow-e0-requires : goal.narrow-e0-requires
narrow-e0-requires c = c.requires.energy 0 (omega arith)

pub narrow-e1-requires : goal.narrow-e1-requires
narrow-e1-requires c = c.requires.energy 1 (omega arith)

pub narrow-e2-requires : goal.narrow-e2-requires
narrow-e2-requires c = c.requires.energy 2 (omega arith)

pub narrow-e3-requires : goal.narrow-e3-requires
narrow-e3-requires c = c.requires.energy 3 (omega arith)

pub returns : goal.returns
returns c = rw (c.narrow-e0.ensures, c.narrow-e1.ensures, c.narrow-e2.ensures, c.narrow-e3.ensures) refl
