-- What the moved rules ask of the online power of one interval and device: a list of bounds.
use Rattle.std.specs.Prelude.{List, [], ◌∷◌, ◌++◌, ℕ, suc, ◌+◌, ◌*◌, ltb, eqb, ℤ, pos, negsuc, neg_ℤ, ◌+ℤ◌, ◌-ℤ◌, ◌*ℤ◌}
use Rattle.bits.specs.Pick.{pick}
use Rattle.numbers.specs.Sum.{All, sumℕ}
use Rattle.model.specs.Case.{System, Plan, Reserves, Reactive, Link, Line}
use Rattle.model.specs.Forced.{intervals, device, cell, cap, consuming, setting, u, least, psu, psd, power, previous, bracket}
use Rattle.model.specs.Rules.{blocks, raising, lowering, may_rise, may_fall, highest, lowest, on_line, two_lines, equality}
use Rattle.spans.specs.Spans.{Bound, Keeps}

-- v ≤ z, and z ≤ v
abbrev pub at_most : ℤ → Bound
at_most z = record { slope = negsuc 0; least = neg_ℤ z }

abbrev pub at_least : ℤ → Bound
at_least z = record { slope = pos 1; least = z }

-- a line at powers v + a: at or above z, and at or below z
abbrev pub line_above : Line → ℕ → ℕ → ℤ → Bound
line_above l n a z = record { slope = l.slope; least = z -ℤ on_line l n a }

abbrev pub line_below : Line → ℕ → ℕ → ℤ → Bound
line_below l n a z = record { slope = neg_ℤ l.slope; least = on_line l n a -ℤ z }

module _ (q : System) (p : Plan) (t i : ℕ) where
  abbrev pub r : Reserves
  r = (setting q p t i).reserves

  abbrev pub x : Reactive
  x = (setting q p t i).reactive

  abbrev pub link : Link
  link = (device q i).link

  abbrev pub n : ℕ
  n = bracket q p t i

  -- what its power has beside its online power
  abbrev pub a : ℕ
  a = psu q p t i + psd q p t i

  -- rules 5 and 6
  unfoldable pub ramp_bounds : List Bound
  ramp_bounds =
      at_most (may_rise q p t i +ℤ pos (previous q p t i) -ℤ pos a) ∷
      at_least (pos (previous q p t i) -ℤ pos a -ℤ may_fall q p t i) ∷ []

  -- rules 5 and 6 of the next interval
  unfoldable pub next_bounds : List Bound
  next_bounds =
      at_least (pos (power q p (suc t) i) -ℤ pos a -ℤ may_rise q p (suc t) i) ∷
      at_most (may_fall q p (suc t) i +ℤ pos (power q p (suc t) i) -ℤ pos a) ∷ []

  -- rules 23 and 24, of two lines, and rule 25, of an equality
  abbrev pub two_line_bounds : List Bound
  two_line_bounds =
      line_above link.upper n a (pos 1000 *ℤ highest (consuming q i) x) ∷
      line_below link.lower n a (pos 1000 *ℤ lowest (consuming q i) x) ∷ []

  abbrev pub equality_bounds : List Bound
  equality_bounds = line_above link.upper n a (pos 1000 *ℤ x.q) ∷ line_below link.upper n a (pos 1000 *ℤ x.q) ∷ []

  -- rules 16, 17 and 19; 23, 24 and 25
  abbrev pub limit_bounds : List Bound
  limit_bounds =
      at_most (pos ((cell q t i).pmax * u q p t i) -ℤ pos (raising (consuming q i) r)) ∷
      at_least (pos ((cell q t i).pmin * u q p t i) +ℤ pos (lowering (consuming q i) r)) ∷
      at_least (pos (sumℕ (least q p t i) blocks) -ℤ pos a) ∷
      at_most (pos (sumℕ (cap q t i) blocks) -ℤ pos a) ∷ []

  unfoldable pub power_bounds : List Bound
  power_bounds = limit_bounds ++ (pick (eqb link.kind two_lines) two_line_bounds [] ++ pick (eqb link.kind equality) equality_bounds [])

  unfoldable pub bounds : List Bound
  bounds = ramp_bounds ++ (power_bounds ++ pick (ltb (suc t) (intervals q)) next_bounds [])

pub record Says (A : Type 0) (bs : List Bound) (v : ℕ) : Type 0 where
  pub kept : A → All (λ b. Keeps b v) bs
  pub held : All (λ b. Keeps b v) bs → A

-- ---- the groups of tests
module _ (q : System) (p : Plan) (t i v : ℕ) where
  abbrev pub b : ℕ
  b = psu q p t i
