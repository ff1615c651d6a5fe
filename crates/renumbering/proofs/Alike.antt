-- A device of one case and plan, and a device of another, that are alike: same intervals, same device, same settings. Every figure of theirs is the same.
use Rattle.std.specs.Prelude.{◌≡◌, ◌&&◌, length, ◌+ℤ◌, ◌-ℤ◌, ◌*ℤ◌}
use Rattle.std.proofs.Math.Path.{refl}
use Rattle.std.proofs.Math.Option.{Option, none, some}
use mathlib.Core.List.{[], ◌∷◌, ◌++◌}
use Prim.Native.Nat.{ℕ, zero, suc, ◌+◌, ◌-◌, ◌*◌}
use Rattle.std.proofs.Math.Dec.{ltb, leb, eqb}
use Rattle.std.proofs.Math.ListN.{get_or}
use Rattle.std.specs.Int.Signed.{le_z}
use Rattle.std.proofs.Math.IntN.{pos}
use Rattle.numbers.specs.Base.{up_to, bit, every, implies}
use Rattle.bits.specs.Pick.{pick}
use Rattle.numbers.specs.Sum.{sumℕ, gate}
use Rattle.model.specs.Case.{System, Plan, no_block, no_start_window}
use Rattle.model.specs.Forced.{device, setting, least, su, bracket, previous, last_on, downtime}
use Rattle.model.specs.Rules.{blocks, initial_minimum, ups, downs, raising, lowering, offline, forbidden, highest, lowest, on_line, two_lines, equality, may_rise, may_fall, starts_in}
use Rattle.model.specs.Breaches.{eq_z, apart, first_tests, real_tests, reactive_tests, cell_tests, window_test}
use Rattle.renumbering.specs.Alike.{Alike, cell_same, duration-same, end_same, power-same, psd-same, psu-same, rests-same, sd-same, start-same, start-term-same, stop-term-same, su-same, u_same}

module _ (q : System) (p : Plan) (i : ℕ) (q' : System) (p' : Plan) (j : ℕ) (a : Alike q p i q' p' j) where
  pub least-same : (t : ℕ) → least q' p' t j ≡ least q p t i
  unfolding least
  least-same t = λ k b. (u_same q p i q' p' j a) t k * (get_or ((cell_same q p i q' p' j a) t k).blocks b no_block).floor

  bracket-same : (t : ℕ) → bracket q' p' t j ≡ bracket q p t i
  unfolding bracket
  bracket-same t = λ k. (u_same q p i q' p' j a) t k + sumℕ (λ l. bit (ltb 0 ((start-term-same q p i q' p' j a) t l k))) (up_to (length (a.halves k))) + sumℕ (λ e. bit (ltb 0 ((stop-term-same q p i q' p' j a) t e k))) (up_to (suc t))

  previous-same : (t : ℕ) → previous q' p' t j ≡ previous q p t i
  unfolding previous
  previous-same zero = λ k. (a.device k).power0
  previous-same (suc t) = (power-same q p i q' p' j a) t

  last-same : (t : ℕ) → last_on q' p' t j ≡ last_on q p t i
  unfolding last_on
  last-same zero = refl
  last-same (suc t) = λ k. pick (eqb ((u_same q p i q' p' j a) t k) 1) (some t) (last-same t k)

  pub downtime-same : (t : ℕ) → downtime q' p' t j ≡ downtime q p t i
  unfolding downtime
  downtime-same t = go (last_on q p t i) (last-same t) refl
    where
      go : (o : Option ℕ) → last_on q' p' t j ≡ o → last_on q p t i ≡ o → downtime q' p' t j ≡ downtime q p t i
      go none e f = rw (e, f) (λ k. (start-same q p i q' p' j a) t k + gate (eqb (a.device k).on0 0) (a.device k).minutes0)
      go (some s) e f = rw (e, f) (λ k. (start-same q p i q' p' j a) t k - (end_same q p i q' p' j a) s k)

  -- ---- rules
  minimum-same : initial_minimum q' j ≡ initial_minimum q i
  unfolding initial_minimum
  minimum-same = λ k. pick (eqb (a.device k).on0 1) (a.device k).min_up (a.device k).min_down

  rise-same : (t : ℕ) → may_rise q' p' t j ≡ may_rise q p t i
  unfolding may_rise
  rise-same t = λ k. pos ((duration-same q p i q' p' j a) t k) *ℤ
      (pos (a.device k).ramps.up *ℤ (pos ((u_same q p i q' p' j a) t k) -ℤ pos ((su-same q p i q' p' j a) t k))
      +ℤ pos (a.device k).ramps.starting *ℤ (pos ((su-same q p i q' p' j a) t k) +ℤ pos 1 -ℤ pos ((u_same q p i q' p' j a) t k)))

  fall-same : (t : ℕ) → may_fall q' p' t j ≡ may_fall q p t i
  unfolding may_fall
  fall-same t = λ k. pos ((duration-same q p i q' p' j a) t k) *ℤ
      (pos (a.device k).ramps.down *ℤ pos ((u_same q p i q' p' j a) t k)
      +ℤ pos (a.device k).ramps.stopping *ℤ (pos 1 -ℤ pos ((u_same q p i q' p' j a) t k)))

  starts-same : (w : ℕ) → starts_in q' p' j w ≡ starts_in q p i w
  unfolding starts_in
  starts-same w = λ k.
      let v = get_or (a.device k).start_windows w no_start_window in
      sumℕ (λ t. gate (leb v.from ((start-same q p i q' p' j a) t k) && ltb ((start-same q p i q' p' j a) t k) v.until) ((su-same q p i q' p' j a) t k)) (up_to (length (a.halves k)))

  runs_same : (t : ℕ) → apart q' p' t j (device q' j).min_up (su q' p') ≡ apart q p t i (device q i).min_up (su q p)
  unfolding apart
  runs_same t = λ k. every (λ e. implies (eqb ((su-same q p i q' p' j a) e k) 1) (leb (a.device k).min_up ((start-same q p i q' p' j a) t k - (start-same q p i q' p' j a) e k))) (up_to t)

  first-tests-same : (t : ℕ) → first_tests q' p' t j ≡ first_tests q p t i
  unfolding first_tests
  first-tests-same t = λ k.
      let d = a.device k in let c = (cell_same q p i q' p' j a) t k in let s = a.setting t k in let r = s.reserves in let lim = d.limits in let v = (u_same q p i q' p' j a) t k in let side = eqb d.side 1 in
      (1, implies (eqb c.status 1) (eqb v 1) && implies (eqb c.status 2) (eqb v 0)) ∷
      (2, implies (ltb ((start-same q p i q' p' j a) t k + d.minutes0) (minimum-same k)) (eqb v d.on0)) ∷
      (3, implies (eqb ((su-same q p i q' p' j a) t k) 1) ((rests-same q p i q' p' j a) t k)) ∷
      (4, implies (eqb ((sd-same q p i q' p' j a) t k) 1) (runs_same t k)) ∷
      (5, le_z (pos ((power-same q p i q' p' j a) t k) -ℤ pos (previous-same t k)) (rise-same t k)) ∷
      (6, le_z (pos (previous-same t k) -ℤ pos ((power-same q p i q' p' j a) t k)) (fall-same t k)) ∷
      (7, leb r.rgu (lim.rgu * v)) ∷
      (8, leb r.rgd (lim.rgd * v)) ∷
      (9, leb (r.rgu + r.scr) (lim.scr * v)) ∷
      (10, leb (ups r) (lim.rru_on * v)) ∷
      (11, leb (downs r) (lim.rrd_on * v)) ∷
      (12, leb r.nsc (lim.nsc * (1 - v))) ∷
      (13, leb (r.nsc + r.rru_off) (lim.rru_off * (1 - v))) ∷
      (14, leb r.rrd_off (lim.rrd_off * (1 - v))) ∷
      (15, eqb (forbidden side r) 0) ∷
      (16, leb (s.online + raising side r) (c.pmax * v)) ∷
      (17, le_z (pos (c.pmin * v)) (pos s.online -ℤ pos (lowering side r))) ∷
      (18, leb ((psu-same q p i q' p' j a) t k + (psd-same q p i q' p' j a) t k + offline side r) (c.pmax * (1 - v))) ∷ []

  real-tests-same : (t : ℕ) → real_tests q' p' t j ≡ real_tests q p t i
  unfolding real_tests
  real-tests-same t = λ k. first-tests-same t k
      ++ ((19, leb (sumℕ (least-same t k) blocks) ((power-same q p i q' p' j a) t k) && leb ((power-same q p i q' p' j a) t k) (sumℕ (λ b. (get_or ((cell_same q p i q' p' j a) t k).blocks b no_block).cap) blocks)) ∷ [])

  reactive-tests-same : (t : ℕ) → reactive_tests q' p' t j ≡ reactive_tests q p t i
  unfolding reactive_tests
  reactive-tests-same t = λ k.
      let l = (a.device k).link in let c = ((cell_same q p i q' p' j a) t k).reactive in let x = (a.setting t k).reactive in let n = bracket-same t k in let side = eqb (a.device k).side 1 in
      (21, le_z (highest side x) (c.qmax *ℤ pos n)) ∷
      (22, le_z (c.qmin *ℤ pos n) (lowest side x)) ∷
      (23, implies (eqb l.kind two_lines) (le_z (pos 1000 *ℤ highest side x) (on_line l.upper n ((power-same q p i q' p' j a) t k)))) ∷
      (24, implies (eqb l.kind two_lines) (le_z (on_line l.lower n ((power-same q p i q' p' j a) t k)) (pos 1000 *ℤ lowest side x))) ∷
      (25, implies (eqb l.kind equality) (eq_z (pos 1000 *ℤ x.q) (on_line l.upper n ((power-same q p i q' p' j a) t k)))) ∷
      (26, implies (eqb l.kind equality) (eqb x.qru 0 && eqb x.qrd 0)) ∷ []

  pub cell-tests-same : (t : ℕ) → cell_tests q' p' t j ≡ cell_tests q p t i
  unfolding cell_tests
  cell-tests-same t = λ k. real-tests-same t k ++ reactive-tests-same t k

  pub window-test-same : (w : ℕ) → window_test q' p' j w ≡ window_test q p i w
  window-test-same w = λ k. leb (starts-same w k) (get_or (a.device k).start_windows w no_start_window).most
