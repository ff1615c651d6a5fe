-- When a replaced power mends a plan: every test that it does not move holds, and it lies in the span of its interval and device.
use Rattle.std.specs.Prelude.{◌≡◌, Bool, ℕ, suc, ◌+◌, ◌<◌, T, ltb}
use Rattle.std.proofs.Common.{ap, arith, ltb→lt, lt→ltb}
use Rattle.std.proofs.Math.Decide.{ℕ_discrete}
use Rattle.numbers.specs.Sum.{All}
use Rattle.model.specs.Case.{System, Plan}
use Rattle.model.specs.Forced.{intervals, devices, device, setting, psu, psd, power, previous}
use Rattle.model.specs.Breaches.{cell_tests}
use Rattle.mending.specs.Mending.{Change, replaced}
use Rattle.mending_theorems.specs.Replaced.{Has}
use Rattle.mending_theorems.proofs.Replaced.{starts-same, own, others, same-on, reserves-same, reactive-same, flow-same, power-own, power-other, previous-next, previous-other}
use Rattle.mending_theorems.specs.Held.{Held, ramp_tests, power_tests, AllHeld}
use Rattle.mending_theorems.proofs.Held.{parted, joined, fixed_same, ramps-same, powers-same}
use Rattle.mending_theorems.specs.Clean.{Clean}
use Rattle.spans.specs.Spans.{Keeps}
use Rattle.mending_theorems.specs.Bounds.{bounds, ramp_bounds, next_bounds, power_bounds, Says}
use Rattle.mending_theorems.proofs.Bounds.{says_both, says_if, ramps-say, next-say, powers-say}
use Rattle.mending_theorems.specs.Cells.{Moved, Rest, w}

module _ (q : System) (p : Plan) (c : Change) (has : Has p c) where
  abbrev p' : Plan
  p' = replaced p c

  abbrev t₀ : ℕ
  t₀ = c.interval

  abbrev i₀ : ℕ
  i₀ = c.device

  abbrev w₀ : ℕ
  w₀ = c.power + psu q p t₀ i₀ + psd q p t₀ i₀

  -- the tests of the new plan, over the old plan's figures and the new plan's powers
  as-old : (t i : ℕ) {o w f : ℕ} → (setting q p' t i).online ≡ o → power q p' t i ≡ w → previous q p' t i ≡ f → Held (cell_tests q p' t i) → AllHeld q p t i o w f
  as-old t i {o} {w} {f} e g k h =
      let a = parted q p' t i h in
      record {
        fixed = rw (fixed_same q p' p (same-on q p c has) t i (reserves-same q p c has t i) (reactive-same q p c has t i)) at a.fixed;
        ramps = rw (ramps-same q p' p (same-on q p c has) t i (reserves-same q p c has t i) (reactive-same q p c has t i) _ _, g, k) at a.ramps;
        powers = rw (powers-same q p' p (same-on q p c has) t i (reserves-same q p c has t i) (reactive-same q p c has t i) _ _, e, g) at a.powers;
      }

  as-new : (t i : ℕ) {o w f : ℕ} → (setting q p' t i).online ≡ o → power q p' t i ≡ w → previous q p' t i ≡ f → AllHeld q p t i o w f → Held (cell_tests q p' t i)
  as-new t i {o} {w} {f} e g k a = joined q p' t i (record {
    fixed = rw (fixed_same q p' p (same-on q p c has) t i (reserves-same q p c has t i) (reactive-same q p c has t i)) a.fixed;
    ramps = rw (g, k, ramps-same q p' p (same-on q p c has) t i (reserves-same q p c has t i) (reactive-same q p c has t i) w f) a.ramps;
    powers = rw (e, g, powers-same q p' p (same-on q p c has) t i (reserves-same q p c has t i) (reactive-same q p c has t i) o w) a.powers;
  })

  not_itself : (t₀ ≡ suc t₀) × (i₀ ≡ i₀) → ⊥
  not_itself h = omega (arith, h.0)

  not-before : (suc t₀ ≡ t₀) × (i₀ ≡ i₀) → ⊥
  not-before h = omega (arith, h.0)

  own-online : (setting q p' t₀ i₀).online ≡ c.power
  own-online = ap (λ s. s.online) (own q p c has)

  at_next : suc t₀ < intervals q → Held (cell_tests q p' (suc t₀) i₀) → AllHeld q p (suc t₀) i₀ (setting q p (suc t₀) i₀).online (power q p (suc t₀) i₀) w₀
  at_next n h = as-old (suc t₀) i₀ (ap (λ s. s.online) (others q p c has (suc t₀) i₀ not-before)) (power-other q p c has (suc t₀) i₀ not-before) (previous-next q p c has) h

  pub clean-parts : Clean q p' → t₀ < intervals q → i₀ < devices q → Rest q p t₀ i₀ × Moved q p t₀ i₀ c.power
  clean-parts k l m =
      let a = as-old t₀ i₀ own-online (power-own q p c has) (previous-other q p c has t₀ i₀ not_itself) (k.cells t₀ i₀ l m) in
      let b : suc t₀ < intervals q → AllHeld q p (suc t₀) i₀ (setting q p (suc t₀) i₀).online (power q p (suc t₀) i₀) w₀ = λ n. at_next n (k.cells (suc t₀) i₀ n m) in (
        record {
          elsewhere = λ s j n o g h. joined q p s j (as-old s j (ap (λ s. s.online) (others q p c has s j g)) (power-other q p c has s j g) (previous-other q p c has s j h) (k.cells s j n o));
          here = a.fixed;
          next = λ n. ((b n).fixed, (b n).powers);
          links = λ s n. rw (flow-same q p c has s) at (k.links s n);
          windows = λ j w n o. rw (starts-same q p' p (same-on q p c has) j w) at (k.windows j w n o);
        },
        record { ramps = a.ramps; powers = a.powers; after = λ n. (b n).ramps },
      )

  pub parts-clean : Rest q p t₀ i₀ → Moved q p t₀ i₀ c.power → Clean q p'
  parts-clean r v = record {
    cells = λ s j n o. go s j n o (ℕ_discrete j i₀) (ℕ_discrete s t₀) (ℕ_discrete s (suc t₀));
    links = λ s n. rw (flow-same q p c has s) (r.links s n);
    windows = λ j w n o. rw (starts-same q p' p (same-on q p c has) j w) (r.windows j w n o);
  }
    where
      away : (s j : ℕ) → s < intervals q → j < devices q → ((s ≡ t₀) × (j ≡ i₀) → ⊥) → ((s ≡ suc t₀) × (j ≡ i₀) → ⊥) → Held (cell_tests q p' s j)
      away s j n o g h = as-new s j (ap (λ s. s.online) (others q p c has s j g)) (power-other q p c has s j g) (previous-other q p c has s j h) (parted q p s j (r.elsewhere s j n o g h))

      at_own : Held (cell_tests q p' t₀ i₀)
      at_own = as-new t₀ i₀ own-online (power-own q p c has) (previous-other q p c has t₀ i₀ not_itself) (record { fixed = r.here; ramps = v.ramps; powers = v.powers })

      in-next : suc t₀ < intervals q → Held (cell_tests q p' (suc t₀) i₀)
      in-next n = as-new (suc t₀) i₀ (ap (λ s. s.online) (others q p c has (suc t₀) i₀ not-before)) (power-other q p c has (suc t₀) i₀ not-before) (previous-next q p c has)
          (record { fixed = (r.next n).0; ramps = v.after n; powers = (r.next n).1 })

      go : (s j : ℕ) → s < intervals q → j < devices q → Dec (j ≡ i₀) → Dec (s ≡ t₀) → Dec (s ≡ suc t₀) → Held (cell_tests q p' s j)
      go s j n o (no e) f g = away s j n o (λ h. e h.1) (λ h. e h.1)
      go s j n o (yes e) (yes f) g = rw (e, f) at_own
      go s j n o (yes e) (no f) (yes g) = rw (e, g) (in-next (omega arith))
      go s j n o (yes e) (no f) (no g) = away s j n o (λ h. f h.0) (λ h. g h.0)

-- ---- the moved tests are the bounds
module _ (q : System) (p : Plan) (t i v : ℕ) where
  abbrev asked : Bool
  asked = ltb (suc t) (intervals q)

  together : Says (Held (ramp_tests q p t i (w q p t i v) (previous q p t i)) × (Held (power_tests q p t i v (w q p t i v)) × (T asked → Held (ramp_tests q p (suc t) i (power q p (suc t) i) (w q p t i v))))) (bounds q p t i) v
  unfolding bounds
  together = says_both (ramp_bounds q p t i) _ (ramps-say q p t i v)
      (says_both (power_bounds q p t i) _ (powers-say q p t i v) (says_if asked (next_bounds q p t i) (next-say q p t i v)))

  pub moved_keeps : Moved q p t i v → All (λ b. Keeps b v) (bounds q p t i)
  moved_keeps m = together.kept (m.ramps, (m.powers, λ h. m.after (ltb→lt _ _ h)))

  pub keeps-moved : All (λ b. Keeps b v) (bounds q p t i) → Moved q p t i v
  keeps-moved k = let h = together.held k in record { ramps = h.0; powers = h.1.0; after = λ n. h.1.1 (lt→ltb _ _ n) }
