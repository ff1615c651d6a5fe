-- What a day's pass over its rows asks of the money of shortfalls, mismatches and overruns, and what it learns, at its own case and plan.
use Rattle.std.specs.Prelude.{◌≡◌, List, [], map, ℕ, ◌+◌, ◌*◌, ◌<◌, length, get_or, neg_ℤ}
use Rattle.numbers.specs.Laws.{max_zero}
use Rattle.energy.specs.declared.Watts.{Watts}
use Rattle.grains.specs.declared.Ledger.{Ledger}
use Rattle.energy.specs.Energy.{watts}
use Rattle.model.specs.Case.{System, Plan, Case}
use Rattle.model.specs.Completion.{shortfalls, shortfall_need, mismatch_need, overrun_need, shortfall_cost}
use Rattle.row_places.specs.declared.Front.{Front}
use Rattle.row_places.specs.declared.Zone.{Zone}
use Rattle.row_places.specs.Figures.{zone_of}
use Rattle.records.specs.Views.{system_in, case_in, plan_in}
use Rattle.money.specs.Bounds.{zone_most, mismatch_cost_most, overrun_cost_most}
use Rattle.money.specs.Entries.{Entered}
use Rattle.money.specs.Unbroken.{Unbroken}
use Rattle.money.specs.Terms.{our}
use Rattle.slack_money.specs.Charges.{Day, ZoneOf, ZoneEntered, mismatches_cost, IntervalOf, MismatchEntered, overrun_balance, OverrunOf, OverrunEntered}

module _ {front : Front} {halves : List ℕ} {zones minima devices cells settings : List (List ℕ)} {starts powers : List ℕ}
    (u : Unbroken front halves zones minima devices cells settings starts powers) where
  abbrev q : System
  q = system_in halves zones minima devices cells

  abbrev c : Case
  c = case_in front halves zones minima devices cells

  abbrev p : Plan
  p = plan_in (length devices) (length halves) settings

  abbrev pub day : Day
  day = record { front = front; halves = halves; zones = zones; minima = minima; devices = devices; cells = cells; settings = settings; starts = starts; powers = powers; unbroken = u }

  -- a zone in an interval
  module _ (t z : ℕ) (h : t < length halves) (l : z < length zones) {zone : Zone} {minutes : ℕ} {x : List Watts}
      (ez : zone ≡ zone_of (get_or zones z [])) (em : minutes ≡ 2 * get_or halves t 0) (ex : x ≡ map (λ k. watts (max_zero (shortfall_need q p t z k))) shortfalls) where
    pub zone-here : ZoneOf zone minutes x
    zone-here = record { day = day; t = t; z = z; interval = h; known = l; is = ez; minutes-are = em; amounts = ex }

    pub zone-learnt : {y v : Ledger} → ZoneEntered zone minutes x y v → Entered y v (neg_ℤ (shortfall_cost c p (our c p) t z)) zone_most
    unfolding zone-here
    zone-learnt e = e.is zone-here

  -- an interval's mismatches
  module _ (t : ℕ) (h : t < length halves) {price minutes m : ℕ} (ep : price ≡ front.mismatch) (em : minutes ≡ 2 * get_or halves t 0) (ex : m ≡ mismatch_need q p t 0 + mismatch_need q p t 1) where
    pub mismatch-here : IntervalOf price minutes m
    mismatch-here = record { day = day; t = t; interval = h; is = ep; minutes-are = em; power = ex }

    pub mismatch-learnt : {y v : Ledger} → MismatchEntered price minutes m y v → Entered y v (neg_ℤ (mismatches_cost c p t)) mismatch_cost_most
    unfolding mismatch-here
    mismatch-learnt e = e.is mismatch-here

  -- an energy window's overrun
  module _ (i w : ℕ) (l : i < length devices) {price e : ℕ} (ep : price ≡ front.overrun) (ex : e ≡ max_zero (overrun_need q p i w)) where
    pub overrun-here : OverrunOf price e
    overrun-here = record { day = day; i = i; w = w; known = l; is = ep; energy = ex }

    pub overrun-learnt : {y v : Ledger} → OverrunEntered price e y v → Entered y v (overrun_balance c p i w) overrun_cost_most
    unfolding overrun-here
    overrun-learnt o = o.is overrun-here
