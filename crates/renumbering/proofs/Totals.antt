-- What all devices on a bar have together does not see how they are numbered.
use Rattle.std.specs.Prelude.{◌≡◌, Bool, ◌&&◌, ℕ, ◌-◌}
use Rattle.std.proofs.Math.Bool.{true, false, not}
use Rattle.std.proofs.Math.Dec.{eqb}
use Rattle.numbers.specs.Base.{up_to}
use Rattle.numbers.specs.Sum.{sumℕ, gate}
use Rattle.model.specs.Case.{System, Plan, Case}
use Rattle.model.specs.Forced.{devices, power}
use Rattle.model.specs.Completion as C
use Rattle.renumbering.specs.Permute.{Renumbering}
use Rattle.renumbering.specs.Renumbered.{Moved}
use Rattle.renumbering.proofs.Seen.{over-devicesℕ, power-moved}

module _ (c : Case) (p : Plan) (r : Renumbering (devices c.system)) (c' : Case) (p' : Plan) (m : Moved c p r c' p') where
  abbrev q : System
  q = c.system

  abbrev q' : System
  q' = c'.system

  pub total-same : (s : Bool) (t b : ℕ) → C.total q' p' s t b ≡ C.total q p s t b
  unfolding C.total
  total-same true t b = over-devicesℕ c p r c' p' m _ _ (λ i h k. gate (eqb (m.device i h k).bar b && eqb (m.device i h k).side 1) (power-moved c p r c' p' m t i h k))
  total-same false t b = over-devicesℕ c p r c' p' m _ _ (λ i h k. gate (eqb (m.device i h k).bar b && not (eqb (m.device i h k).side 1)) (power-moved c p r c' p' m t i h k))
