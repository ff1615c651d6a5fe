-- What a replaced online power leaves as it was.
use Rattle.std.specs.Prelude.{◌≡◌, length, get_or}
use mathlib.Core.List.{[]}
use Prim.Native.Nat.{ℕ, ◌<◌}
use Rattle.model.specs.Case.{System, Plan}
use Rattle.model.specs.Forced.{device, u}
use Rattle.mending.specs.Mending.{Change}

-- two plans with the same figures on and off
pub record SameOn (q : System) (a b : Plan) : Type 0 where
  pub on : (t i : ℕ) → u q a t i ≡ u q b t i

-- ---- one power replaced

-- the plan has such a figure
pub record Has (p : Plan) (c : Change) : Type 0 where
  pub row : c.interval < length p.settings
  pub place : c.device < length (get_or p.settings c.interval [])
