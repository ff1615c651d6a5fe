-- What a later start and an earlier stop give interval t, out of a device's parts of a decoded case and plan: the terms of psu and psd.
use Rattle.std.specs.Prelude.{◌≡◌, List, [], ltb, get_or, length}
use Rattle.std.proofs.Math.Path.{refl}
use Rattle.std.proofs.Common.{ap, ◌∙◌}
use Prim.Native.Nat.{ℕ, zero, suc, ◌+◌, ◌-◌, ◌*◌, ◌≤◌, ◌<◌}
use native.Mathlib.Omega.{arith}
use borrow.Author.Tests.{ne_eqb}
use Rattle.numbers.specs.Sum.{gate}
use Rattle.numbers.specs.Parts.{part}
use Rattle.numbers.specs.Ranges.{sum_more}
use Rattle.model.specs.Case as M
use Rattle.model.specs.Case.{System, Plan}
use Rattle.model.specs.Forced as F
use Rattle.row_places.specs.declared.Device.{Device}
use Rattle.row_places.specs.Figures.{device_of, pmin_at, started_at, stopped_at}
use Rattle.records.specs.Views.{system_in, plan_in, device_in}
use Rattle.records.specs.Viewed as W
use Rattle.trajectories.specs.Trajectories.{leaves_at, rise_in, fall_in}

module _ (halves : List ℕ) (zones minima devices cells settings : List (List ℕ)) (i : ℕ) (l : i < length devices) where
  abbrev q : System
  q = system_in halves zones minima devices cells

  abbrev p : Plan
  p = plan_in (length devices) (length halves) settings

  abbrev d : Device
  d = device_of (get_or devices i [])

  abbrev own : List (List ℕ)
  own = part (length halves) i cells

  abbrev set : List (List ℕ)
  set = part (length halves) i settings

  pmin-here : (t : ℕ) → t < length own → (F.cell q t i).pmin ≡ pmin_at own t
  pmin-here t h = ap (λ (c : M.Cell). c.pmin) (W.cell-is halves zones minima devices cells i l t h)

  leaves-here : (t : ℕ) → t < length own → F.leaves q p t i ≡ leaves_at d.power0.0 own t
  unfolding F.leaves device_in
  leaves-here zero h = W.device-figure halves zones minima devices cells i l (λ x. x.power0)
  leaves-here (suc t) h = let e : suc t - 1 ≡ t = omega arith in rw (e, ne_eqb (suc t) 0 (λ q. omega arith)) (pmin-here t (omega arith))

  -- with S of each interval and the last E
  module _ (starts : List ℕ) (start : (t : ℕ) → t ≤ length halves → get_or starts t 0 ≡ F.start_of q t) where
    end-at : (t : ℕ) → t < length halves → get_or starts (t + 1) 0 ≡ F.end_of q t
    unfolding F.end_of F.start_of
    end-at t h = start (t + 1) (omega arith) ∙ sum_more (F.duration q) t

    module _ (t e : ℕ) (h : t < length halves) (b : e < length halves) (full : length own ≡ length halves) where
      pub start-term : gate (ltb t e) (started_at d.on0 set e * rise_in (pmin_at own e) (get_or d.ramps 2 0) starts e t) ≡ F.start_term q p t i e
      unfolding device_in
      start-term = rw (
        W.started-is halves zones minima devices cells settings e i b l,
        pmin-here e (omega (arith, full)),
        W.device-is halves zones minima devices cells i l,
        end-at t h,
        end-at e b,
      ) refl

      pub stop-term : stopped_at d.on0 set e * fall_in (leaves_at d.power0.0 own e) (get_or d.ramps 3 0) starts e t ≡ F.stop_term q p t i e
      unfolding device_in
      stop-term = rw (
        W.stopped-is halves zones minima devices cells settings e i b l,
        leaves-here e (omega (arith, full)),
        W.device-is halves zones minima devices cells i l,
        end-at t h,
        start e (omega arith),
      ) refl
