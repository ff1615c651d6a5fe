-- What a day's pass over its rows asks of the money of reactive power, and what it learns, at its own case and plan; and the day's entries as a whole.
use Rattle.std.specs.Prelude.{◌≡◌, refl, List, [], ℕ, ◌+◌, ◌*◌, ◌<◌, length, get_or, neg_ℤ}
use Rattle.std.proofs.Common.{sym, subst, arith}
use Rattle.numbers.specs.Laws.{max_zero}
use Rattle.numbers.specs.Sum.{sumℤ}
use Rattle.numbers.specs.Base.{up_to}
use Rattle.grains.specs.declared.Ledger.{Ledger}
use Rattle.model.specs.Case.{System, Plan, Case}
use Rattle.model.specs.Completion as C
use Rattle.model.specs.Completion.{reactive_need, reactive_mismatch_need, reactive_reserves_cost, reactive_shortfall_cost}
use Rattle.model.specs.Judgement.{our_surplus}
use Rattle.row_places.specs.declared.Front.{Front}
use Rattle.row_places.specs.declared.Zone.{Zone}
use Rattle.row_places.specs.Figures.{zone_of}
use Rattle.records.specs.Views.{system_in, case_in, plan_in}
use Rattle.records.specs.Viewed as Viewed
use Rattle.money.specs.Bounds.{device_most, kinds_most, mismatch_cost_most, reactive_reserves_most, reactive_zone_most, reactive_mismatch_cost_most, interval_most, windows_cost_most, day_most}
use Rattle.money.specs.Entries.{Entered}
use Rattle.money.specs.Unbroken.{Unbroken, few-devices, few-intervals}
use Rattle.money.specs.Terms.{our}
use Rattle.slack_money.specs.Charges.{mismatches_cost}
use Rattle.slack_money.specs.Day.{windows_balance}
use Rattle.slack_money.specs.Here.{day}
use Rattle.reactive_money.specs.Charges.{HeldOf, HeldEntered, ReactiveZoneOf, ReactiveZoneEntered, reactive_mismatches_cost, ReactiveIntervalOf, ReactiveMismatchEntered}
use Rattle.reactive_money.specs.Day.{device_balance, zone_balance, interval_balance, interval-entered, day-entered}

module _ {front : Front} {halves : List ℕ} {zones minima devices cells settings : List (List ℕ)} {starts powers : List ℕ}
    (u : Unbroken front halves zones minima devices cells settings starts powers) where
  abbrev q : System
  q = system_in halves zones minima devices cells

  abbrev c : Case
  c = case_in front halves zones minima devices cells

  abbrev p : Plan
  p = plan_in (length devices) (length halves) settings

  -- a device's reactive reserves in an interval
  module _ (t i : ℕ) (h : t < length halves) (l : i < length devices) {k minutes : ℕ} (at : k ≡ i * length halves + t) (em : minutes ≡ 2 * get_or halves t 0) where
    pub held-here : HeldOf cells settings k minutes
    held-here = record { day = day u; t = t; i = i; interval = h; known = l; cells_are = refl; settings-are = refl; at = at; minutes-are = em }

    pub held-learnt : {y v : Ledger} → HeldEntered cells settings k minutes y v → Entered y v (neg_ℤ (reactive_reserves_cost c p (our c p) t i)) reactive_reserves_most
    unfolding held-here
    held-learnt e = e.is held-here

  -- a zone's reactive shortfalls
  module _ (t z : ℕ) (h : t < length halves) (l : z < length zones) {zone : Zone} {minutes qru qrd : ℕ} (ez : zone ≡ zone_of (get_or zones z [])) (em : minutes ≡ 2 * get_or halves t 0)
      (up : qru ≡ max_zero (reactive_need q p t z C.qru)) (down : qrd ≡ max_zero (reactive_need q p t z C.qrd)) where
    pub zone-here : ReactiveZoneOf zone minutes qru qrd
    zone-here = record { day = day u; t = t; z = z; interval = h; known = l; is = ez; minutes-are = em; up = up; down = down }

    pub zone-learnt : {y v : Ledger} → ReactiveZoneEntered zone minutes qru qrd y v → Entered y v (neg_ℤ (reactive_shortfall_cost c p (our c p) t z)) reactive_zone_most
    unfolding zone-here
    zone-learnt e = e.is zone-here

  -- an interval's reactive mismatches
  module _ (t : ℕ) (h : t < length halves) {price minutes m : ℕ} (ep : price ≡ front.mismatch) (em : minutes ≡ 2 * get_or halves t 0)
      (ex : m ≡ reactive_mismatch_need q p t 0 + reactive_mismatch_need q p t 1) where
    pub mismatch-here : ReactiveIntervalOf price minutes m
    mismatch-here = record { day = day u; t = t; interval = h; is = ep; minutes-are = em; power = ex }

    pub mismatch-learnt : {y v : Ledger} → ReactiveMismatchEntered price minutes m y v → Entered y v (neg_ℤ (reactive_mismatches_cost c p t)) reactive_mismatch_cost_most
    unfolding mismatch-here
    mismatch-learnt e = e.is mismatch-here

  -- ---- the rows' counts are the system's

  pub interval-whole : (t : ℕ) {l a b d r : Ledger}
      → Entered l a (sumℤ (device_balance c p t) (up_to (length devices))) (length devices * device_most)
      → Entered a b (sumℤ (zone_balance c p t) (up_to (length zones))) (length zones * kinds_most)
      → Entered b d (neg_ℤ (mismatches_cost c p t)) mismatch_cost_most
      → Entered d r (neg_ℤ (reactive_mismatches_cost c p t)) reactive_mismatch_cost_most
      → Entered l r (interval_balance c p t) interval_most
  interval-whole t {l} {a} {b} f g h k = interval-entered c p t (few-devices u.ready) (omega (arith, Viewed.zones-are halves zones minima devices cells, u.ready.case_rows.few-zones))
      (subst (λ (n : ℕ). Entered l a (sumℤ (device_balance c p t) (up_to n)) (n * device_most)) (sym (Viewed.devices-are halves zones minima devices cells)) f)
      (subst (λ (n : ℕ). Entered a b (sumℤ (zone_balance c p t) (up_to n)) (n * kinds_most)) (sym (Viewed.zones-are halves zones minima devices cells)) g) h k

  pub day-whole : {l a r : Ledger} → Entered l a (sumℤ (interval_balance c p) (up_to (length halves))) (length halves * interval_most)
      → Entered a r (sumℤ (windows_balance c p) (up_to (length devices))) (length devices * windows_cost_most) → Entered l r (our_surplus c p) day_most
  day-whole {l} {a} {r} f g = day-entered c p (few-intervals u.ready) (few-devices u.ready)
      (subst (λ (k : ℕ). Entered l a (sumℤ (interval_balance c p) (up_to k)) (k * interval_most)) (sym (Viewed.intervals-are halves zones minima devices cells)) f)
      (subst (λ (k : ℕ). Entered a r (sumℤ (windows_balance c p) (up_to k)) (k * windows_cost_most)) (sym (Viewed.devices-are halves zones minima devices cells)) g)
