-- What the rows of a decoded case and plan say of a device's forced figures.
use Rattle.std.specs.Prelude.{◌≡◌, ◌&&◌, List, [], ℕ, ◌+◌, ◌*◌, ◌≤◌, ◌<◌, ltb, leb, length}
use Rattle.std.proofs.Math.Path.{sym, ap, ap₂}
use Rattle.std.proofs.Common.{◌∙◌, mul-zero, le-leb, lt-ltb, le-ltb}
use native.Mathlib.Omega.{arith}
use Rattle.std.proofs.Math.Decide.{dec_le}
use Rattle.std.proofs.lemmas.Bool.{lt-leb}
use Rattle.std.proofs.Math.ListN.{get_or}
use Rattle.numbers.specs.Sum.{sumℕ, sumℕ-add, gate}
use Rattle.numbers.specs.Base.{up_to}
use Rattle.model.specs.Case as M
use Rattle.model.specs.Case.{System, Plan}
use Rattle.model.specs.Forced as F
use Rattle.row_places.specs.declared.Device.{Device}
use Rattle.row_places.specs.Figures.{device_of, online_at, pmin_at, started_at, stopped_at}
use Rattle.numbers.specs.Parts.{part}
use Rattle.records.specs.Views.{system_in, plan_in}
use Rattle.records.specs.Viewed as W
use Rattle.numbers.specs.Ranges.{sum_same, sum-cut}
use Rattle.clock.specs.Times.{start_at, Times}
use Rattle.trajectories.specs.Trajectories.{leaves_at, rise_in, fall_in, within, past, ahead}
use Rattle.trajectories.specs.Terms.{start-term, stop-term}
use Rattle.ramped_powers.specs.Changes.{ramping_of, added_by, added}

module _ (halves : List ℕ) (zones minima devices cells settings : List (List ℕ)) where
  abbrev q : System
  q = system_in halves zones minima devices cells

  abbrev p : Plan
  p = plan_in (length devices) (length halves) settings

  abbrev m : ℕ
  m = length halves

  -- S and E
  pub start-here : (t : ℕ) → start_at halves t ≡ F.start_of q t
  unfolding start_at F.start_of
  start-here t = sum_same (λ k. 2 * get_or halves k 0) (F.duration q) t (λ k l. sym (W.duration-is halves zones minima devices cells k))

  module _ (i : ℕ) (l : i < length devices) where
    abbrev d : Device
    d = device_of (get_or devices i [])

    abbrev own : List (List ℕ)
    own = part (length halves) i cells

    abbrev set : List (List ℕ)
    set = part (length halves) i settings

    online-here : (t : ℕ) → t < m → (F.setting q p t i).online ≡ online_at set t
    online-here t h = ap (λ (s : M.Setting). s.online) (W.setting-is (length devices) m settings q t i h l)

    module _ (starts : List ℕ) (clock : Times halves starts) where
      start-at : (t : ℕ) → t ≤ m → get_or starts t 0 ≡ F.start_of q t
      start-at t h = clock.start t h ∙ start-here t

      module _ (t e : ℕ) (h : t < m) (b : e < m) (full : length own ≡ m) where
        starts-add : started_at d.on0 set e * gate (leb 0 t && ltb t e) (rise_in (pmin_at own e) (get_or d.ramps 2 0) starts e t) ≡ F.start_term q p t i e
        starts-add = go (dec_le e t)
          where
            go : Dec (e ≤ t) → started_at d.on0 set e * gate (leb 0 t && ltb t e) (rise_in (pmin_at own e) (get_or d.ramps 2 0) starts e t) ≡ F.start_term q p t i e
            go (yes x) = rw (past 0 e t x, le-ltb t e x) (mul-zero (started_at d.on0 set e))
            go (no x) =
                let y : t < e = omega arith in
                rw (within 0 e t (omega arith) y, lt-ltb t e y) (rw (lt-ltb t e y) at (start-term halves zones minima devices cells settings i l starts start-at t e h b full))

        stops-add : stopped_at d.on0 set e * gate (leb e t && ltb t (length own)) (fall_in (leaves_at d.power0.0 own e) (get_or d.ramps 3 0) starts e t)
            ≡ gate (leb e t) (F.stop_term q p t i e)
        stops-add = go (dec_le e t)
          where
            go : Dec (e ≤ t) → stopped_at d.on0 set e * gate (leb e t && ltb t (length own)) (fall_in (leaves_at d.power0.0 own e) (get_or d.ramps 3 0) starts e t)
                ≡ gate (leb e t) (F.stop_term q p t i e)
            go (yes x) = rw (within e (length own) t x (omega (arith, full)), le-leb e t x) (stop-term halves zones minima devices cells settings i l starts start-at t e h b full)
            go (no x) = let y : t < e = omega arith in rw (ahead e (length own) t y, lt-leb e t y) (mul-zero (stopped_at d.on0 set e))

      -- "Power p = online power + psu + psd"
      pub power-here : (t : ℕ) → t < m → length own ≡ m → online_at set t + sumℕ (λ e. added (ramping_of d) own set starts e t) (up_to (length own)) ≡ F.power q p t i
      unfolding added_by F.power F.psu F.psd
      power-here t h full =
          ap (λ (k : ℕ). online_at set t + sumℕ (λ e. added (ramping_of d) own set starts e t) (up_to k)) full
          ∙ rw (online-here t h, W.intervals-are halves zones minima devices cells)
          (omega (
            arith,
            sum_same (λ e. added (ramping_of d) own set starts e t) (λ e. F.start_term q p t i e + gate (leb e t) (F.stop_term q p t i e)) m
                (λ e b. ap₂ (λ (x y : ℕ). x + y) (starts-add t e h b full) (stops-add t e h b full)),
            sumℕ-add (F.start_term q p t i) (λ e. gate (leb e t) (F.stop_term q p t i e)) (up_to m),
            sum-cut (F.stop_term q p t i) t m h,
          ))
