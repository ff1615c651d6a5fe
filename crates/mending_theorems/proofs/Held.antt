-- The numbered tests of an interval and device, by what they read of the powers: nothing, its power and the one before, its online power and its power.
use Rattle.std.specs.Prelude.{◌≡◌, ℕ, ◌-◌}
use Rattle.std.proofs.Math.Path.{fun_ext}
use Rattle.model.specs.Case.{System, Plan}
use Rattle.model.specs.Forced.{device, setting, least, su, sd, power, previous}
use Rattle.model.specs.Breaches.{apart, first_tests, real_tests, reactive_tests, cell_tests}
use Rattle.mending_theorems.specs.Replaced.{SameOn}
use Rattle.mending_theorems.proofs.Replaced.{su-same, sd-same, psu-same, psd-same, bracket-same, least-same, rise-same, fall-same}
use Rattle.mending_theorems.specs.Held.{AllHeld, Held, fixed_tests, power_tests, ramp_tests}

module _ (q : System) (p : Plan) (t i : ℕ) where
  abbrev Now : Type 0
  Now = (AllHeld q p t i) (setting q p t i).online (power q p t i) (previous q p t i)

  pub parted : Held (cell_tests q p t i) → Now
  unfolding cell_tests real_tests first_tests reactive_tests fixed_tests ramp_tests power_tests
  parted h = record {
    fixed = (
      h.0,
      (
        h.1.0,
        (
          h.1.1.0,
          (
            h.1.1.1.0,
            (
              h.1.1.1.1.1.1.0,
              (
                h.1.1.1.1.1.1.1.0,
                (
                  h.1.1.1.1.1.1.1.1.0,
                  (
                    h.1.1.1.1.1.1.1.1.1.0,
                    (
                      h.1.1.1.1.1.1.1.1.1.1.0,
                      (
                        h.1.1.1.1.1.1.1.1.1.1.1.0,
                        (
                          h.1.1.1.1.1.1.1.1.1.1.1.1.0,
                          (
                            h.1.1.1.1.1.1.1.1.1.1.1.1.1.0,
                            (
                              h.1.1.1.1.1.1.1.1.1.1.1.1.1.1.0,
                              (
                                h.1.1.1.1.1.1.1.1.1.1.1.1.1.1.1.1.1.0,
                                (
                                  h.1.1.1.1.1.1.1.1.1.1.1.1.1.1.1.1.1.1.1.0,
                                  (
                                    h.1.1.1.1.1.1.1.1.1.1.1.1.1.1.1.1.1.1.1.1.0,
                                    (h.1.1.1.1.1.1.1.1.1.1.1.1.1.1.1.1.1.1.1.1.1.1.1.1.0, tt),
                                  ),
                                ),
                              ),
                            ),
                          ),
                        ),
                      ),
                    ),
                  ),
                ),
              ),
            ),
          ),
        ),
      ),
    );
    ramps = (h.1.1.1.1.0, (h.1.1.1.1.1.0, tt));
    powers = (
      h.1.1.1.1.1.1.1.1.1.1.1.1.1.1.1.0,
      (
        h.1.1.1.1.1.1.1.1.1.1.1.1.1.1.1.1.0,
        (
          h.1.1.1.1.1.1.1.1.1.1.1.1.1.1.1.1.1.1.0,
          (
            h.1.1.1.1.1.1.1.1.1.1.1.1.1.1.1.1.1.1.1.1.1.0,
            (h.1.1.1.1.1.1.1.1.1.1.1.1.1.1.1.1.1.1.1.1.1.1.0, (h.1.1.1.1.1.1.1.1.1.1.1.1.1.1.1.1.1.1.1.1.1.1.1.0, tt)),
          ),
        ),
      ),
    );
  }

  pub joined : Now → Held (cell_tests q p t i)
  unfolding cell_tests real_tests first_tests reactive_tests fixed_tests ramp_tests power_tests
  joined a = let f = a.fixed in let g = a.ramps in let h = a.powers in (
    f.0,
    (
      f.1.0,
      (
        f.1.1.0,
        (
          f.1.1.1.0,
          (
            g.0,
            (
              g.1.0,
              (
                f.1.1.1.1.0,
                (
                  f.1.1.1.1.1.0,
                  (
                    f.1.1.1.1.1.1.0,
                    (
                      f.1.1.1.1.1.1.1.0,
                      (
                        f.1.1.1.1.1.1.1.1.0,
                        (
                          f.1.1.1.1.1.1.1.1.1.0,
                          (
                            f.1.1.1.1.1.1.1.1.1.1.0,
                            (
                              f.1.1.1.1.1.1.1.1.1.1.1.0,
                              (
                                f.1.1.1.1.1.1.1.1.1.1.1.1.0,
                                (
                                  h.0,
                                  (
                                    h.1.0,
                                    (
                                      f.1.1.1.1.1.1.1.1.1.1.1.1.1.0,
                                      (
                                        h.1.1.0,
                                        (
                                          f.1.1.1.1.1.1.1.1.1.1.1.1.1.1.0,
                                          (
                                            f.1.1.1.1.1.1.1.1.1.1.1.1.1.1.1.0,
                                            (h.1.1.1.0, (h.1.1.1.1.0, (h.1.1.1.1.1.0, (f.1.1.1.1.1.1.1.1.1.1.1.1.1.1.1.1.0, tt)))),
                                          ),
                                        ),
                                      ),
                                    ),
                                  ),
                                ),
                              ),
                            ),
                          ),
                        ),
                      ),
                    ),
                  ),
                ),
              ),
            ),
          ),
        ),
      ),
    ),
  )

-- ---- of two plans alike in all but powers
module _ (q : System) (a b : Plan) (s : SameOn q a b) (t i : ℕ)
    (reserves : (setting q a t i).reserves ≡ (setting q b t i).reserves) (reactive : (setting q a t i).reactive ≡ (setting q b t i).reactive) where
  apart-same : (m : ℕ) (f g : ℕ → ℕ → ℕ) → ((e : ℕ) → f e i ≡ g e i) → apart q a t i m f ≡ apart q b t i m g
  unfolding apart
  apart-same m f g h = simp h

  pub fixed_same : fixed_tests q a t i ≡ fixed_tests q b t i
  unfolding fixed_tests
  fixed_same = simp (
    s.on t i,
    su-same q a b s,
    sd-same q a b s,
    psu-same q a b s,
    psd-same q a b s,
    bracket-same q a b s,
    reserves,
    reactive,
    apart-same (device q i).min_down (sd q a) (sd q b) (λ e. sd-same q a b s e i),
    apart-same (device q i).min_up (su q a) (su q b) (λ e. su-same q a b s e i),
  )

  pub ramps-same : (w before : ℕ) → ramp_tests q a t i w before ≡ ramp_tests q b t i w before
  unfolding ramp_tests
  ramps-same w before = simp (rise-same q a b s, fall-same q a b s)

  pub powers-same : (o w : ℕ) → power_tests q a t i o w ≡ power_tests q b t i o w
  unfolding power_tests
  powers-same o w =
      let e : least q a t i ≡ least q b t i = fun_ext (least-same q a b s t i) in
      simp (s.on t i, e, bracket-same q a b s, reserves, reactive)
