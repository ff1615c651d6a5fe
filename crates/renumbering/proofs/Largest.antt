-- The largest producing member of a zone does not see how devices are numbered.
use Rattle.std.specs.Prelude.{◌≡◌, ◌&&◌, ℕ, ◌<◌}
use Rattle.std.proofs.Common.{◌∙◌}
use Rattle.std.proofs.Math.Path.{ap}
use Rattle.std.proofs.Math.Bool.{not}
use Rattle.std.proofs.Math.Dec.{eqb}
use Rattle.numbers.specs.Base.{up_to, largest}
use Rattle.numbers.specs.Sum.{gate}
use Rattle.model.specs.Case.{System, Plan, Case}
use Rattle.model.specs.Forced.{devices, member, power}
use Rattle.model.specs.Completion as C
use Rattle.renumbering.specs.Permute.{Renumbering}
use Rattle.renumbering.proofs.Permute.{renumbered-largest}
use Rattle.renumbering.specs.Renumbered.{Moved}
use Rattle.renumbering.proofs.Seen.{power-moved, member-moved}

module _ (c : Case) (p : Plan) (r : Renumbering (devices c.system)) (c' : Case) (p' : Plan) (m : Moved c p r c' p') where
  abbrev q : System
  q = c.system

  abbrev q' : System
  q' = c'.system

  largest-device : (f g : ℕ → ℕ) → ((i : ℕ) → i < devices q → g (r.to i) ≡ f i) → largest g (up_to (devices q')) ≡ largest f (up_to (devices q))
  largest-device f g h = ap (λ (n : ℕ). largest g (up_to n)) m.count ∙ renumbered-largest r f g h

  pub unit-same : (t z : ℕ) → C.largest_unit q' p' t z ≡ C.largest_unit q p t z
  unfolding C.largest_unit
  unit-same t z = largest-device _ _ (λ i h k. gate (member-moved c p r c' p' m z i h k && not (eqb (m.device i h k).side 1)) (power-moved c p r c' p' m t i h k))
