-- The numbered tests of an interval and device, by what they read of the powers: nothing, its power and the one before, its online power and its power.
use Rattle.std.specs.Prelude.{Bool, ◌&&◌, List, [], ◌∷◌, ℕ, ◌+◌, ◌-◌, ◌*◌, T, ltb, leb, eqb, pos, ◌-ℤ◌, ◌*ℤ◌}
use Rattle.std.specs.Int.Signed.{le_z}
use Rattle.numbers.specs.Sum.{All, sumℕ}
use Rattle.numbers.specs.Base.{implies}
use Rattle.model.specs.Case.{System, Plan, Reserves, Reactive, Link}
use Rattle.model.specs.Forced.{device, cell, cap, consuming, start_of, setting, u, least, su, sd, psu, psd, bracket}
use Rattle.model.specs.Rules.{blocks, initial_minimum, ups, downs, raising, lowering, offline, forbidden, may_rise, may_fall, highest, lowest, on_line, two_lines, equality}
use Rattle.model.specs.Breaches.{eq_z, apart}

-- every test of a list holds
abbrev pub Held : List (ℕ × Bool) → Type 0
Held ns = All (λ n. T n.1) ns

module _ (q : System) (p : Plan) (t i : ℕ) where
  abbrev r : Reserves
  r = (setting q p t i).reserves

  abbrev lim : Reserves
  lim = (device q i).limits

  abbrev x : Reactive
  x = (setting q p t i).reactive

  abbrev link : Link
  link = (device q i).link

  abbrev n : ℕ
  n = bracket q p t i

  -- those that no online power moves
  unfoldable pub fixed_tests : List (ℕ × Bool)
  fixed_tests =
      (1, implies (eqb (cell q t i).status 1) (eqb (u q p t i) 1) && implies (eqb (cell q t i).status 2) (eqb (u q p t i) 0)) ∷
      (2, implies (ltb (start_of q t + (device q i).minutes0) (initial_minimum q i)) (eqb (u q p t i) (device q i).on0)) ∷
      (3, implies (eqb (su q p t i) 1) (apart q p t i (device q i).min_down (sd q p))) ∷
      (4, implies (eqb (sd q p t i) 1) (apart q p t i (device q i).min_up (su q p))) ∷
      (7, leb r.rgu (lim.rgu * u q p t i)) ∷
      (8, leb r.rgd (lim.rgd * u q p t i)) ∷
      (9, leb (r.rgu + r.scr) (lim.scr * u q p t i)) ∷
      (10, leb (ups r) (lim.rru_on * u q p t i)) ∷
      (11, leb (downs r) (lim.rrd_on * u q p t i)) ∷
      (12, leb r.nsc (lim.nsc * (1 - u q p t i))) ∷
      (13, leb (r.nsc + r.rru_off) (lim.rru_off * (1 - u q p t i))) ∷
      (14, leb r.rrd_off (lim.rrd_off * (1 - u q p t i))) ∷
      (15, eqb (forbidden (consuming q i) r) 0) ∷
      (18, leb (psu q p t i + psd q p t i + offline (consuming q i) r) ((cell q t i).pmax * (1 - u q p t i))) ∷
      (21, le_z (highest (consuming q i) x) ((cell q t i).reactive.qmax *ℤ pos n)) ∷
      (22, le_z ((cell q t i).reactive.qmin *ℤ pos n) (lowest (consuming q i) x)) ∷
      (26, implies (eqb link.kind equality) (eqb x.qru 0 && eqb x.qrd 0)) ∷ []

  -- those on power w and the power before
  unfoldable pub ramp_tests : ℕ → ℕ → List (ℕ × Bool)
  ramp_tests w before =
      (5, le_z (pos w -ℤ pos before) (may_rise q p t i)) ∷
      (6, le_z (pos before -ℤ pos w) (may_fall q p t i)) ∷ []

  -- those on online power o and power w
  unfoldable pub power_tests : ℕ → ℕ → List (ℕ × Bool)
  power_tests o w =
      (16, leb (o + raising (consuming q i) r) ((cell q t i).pmax * u q p t i)) ∷
      (17, le_z (pos ((cell q t i).pmin * u q p t i)) (pos o -ℤ pos (lowering (consuming q i) r))) ∷
      (19, leb (sumℕ (least q p t i) blocks) w && leb w (sumℕ (cap q t i) blocks)) ∷
      (23, implies (eqb link.kind two_lines) (le_z (pos 1000 *ℤ highest (consuming q i) x) (on_line link.upper n w))) ∷
      (24, implies (eqb link.kind two_lines) (le_z (on_line link.lower n w) (pos 1000 *ℤ lowest (consuming q i) x))) ∷
      (25, implies (eqb link.kind equality) (eq_z (pos 1000 *ℤ x.q) (on_line link.upper n w))) ∷ []

  -- all tests of an interval and device
  pub record AllHeld (o w before : ℕ) : Type 0 where
    pub fixed : Held fixed_tests
    pub ramps : Held (ramp_tests w before)
    pub powers : Held (power_tests o w)
