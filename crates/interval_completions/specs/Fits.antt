-- The figures of our completion of a decoded plan that breaks no rule fit their fields.
use Rattle.std.specs.Prelude.{◌≡◌, List, map, ℕ, ◌^◌, ◌<◌, length}
use Rattle.std.proofs.Math.Path.{refl}
use Rattle.std.proofs.Common.{arith}
use Rattle.numbers.specs.Laws.{max_zero}
use Rattle.energy.specs.declared.Watts.{Watts}
use Rattle.energy.specs.Energy.{watts}
use Rattle.model.specs.Case.{System, Plan, Case}
use Rattle.model.specs.Forced as F
use Rattle.model.specs.Completion.{Completion, shortfalls, shortfall_need, mismatch_need, reactive_need, reactive_mismatch_need, rgu, rgd, scr, nsc, rru, rrd, qru, qrd}
use Rattle.model.specs.Ours.{ours}
use Rattle.theorems.specs.Back.{FitsSix, FitsDevice}
use Rattle.theorems.proofs.Sizes.{shortfall-bound, mismatch-bound, reactive-shortfall-bound, reactive-mismatch-bound, device-fits}
use Rattle.row_places.specs.declared.Front.{Front}
use Rattle.records.specs.Views.{most_devices, system_in, case_in, plan_in}
use Rattle.records.specs.Viewed as Viewed
use Rattle.choices.specs.declared.Choice.{Choice}
use Rattle.choices.specs.Here.{OurChoice}
use Rattle.money.specs.Unbroken.{Unbroken, plan-range, system-range, few-devices}
use Rattle.kilovars.specs.Reactive.{var}
use Rattle.reactive_shortfalls.specs.declared.ReactiveShortfalls.{ReactiveShortfalls}
use Rattle.reactive_shortfalls.specs.Held.{short_by}
use Rattle.field_groups.specs.Fields.{choice_in, six_of}
use Rattle.reactive_writer.specs.Reactive.{two_of}
use Rattle.completion_writer.specs.Whole.{device_at, six_at, two_at, choice-at, six-at}

module _ {front : Front} {halves : List ℕ} {zones minima devices cells settings : List (List ℕ)} {starts powers : List ℕ}
    (u : Unbroken front halves zones minima devices cells settings starts powers) where
  abbrev q : System
  q = system_in halves zones minima devices cells

  abbrev c : Case
  c = case_in front halves zones minima devices cells

  abbrev p : Plan
  p = plan_in (length devices) (length halves) settings

  abbrev x : Completion ℕ
  x = ours c p

  module _ (t : ℕ) (h : t < length halves) where
    in-intervals : t < F.intervals q
    in-intervals = omega (arith, Viewed.intervals-are halves zones minima devices cells)

    pub mismatch-fits : (b : ℕ) → mismatch_need q p t b < 2 ^ 23
    mismatch-fits b = omega (arith, mismatch-bound q p (system-range u.ready) (plan-range u.ready) u.rules most_devices (few-devices u.ready) t b in-intervals)

    pub reactive-mismatch-fits : (b : ℕ) → reactive_mismatch_need q p t b < 2 ^ 23
    reactive-mismatch-fits b =
        omega (arith, reactive-mismatch-bound q p (system-range u.ready) (plan-range u.ready) u.rules most_devices (few-devices u.ready) t b in-intervals)

    module _ (i : ℕ) (l : i < length devices) {v : Choice} (o : OurChoice c p t i v) where
      pub choice-is : choice_in v.started v.stopped v.state v.blocks ≡ device_at x t i
      choice-is = choice-at x t i o.started o.stopped o.state o.blocks-are

      ours-fit : FitsDevice (device_at x t i)
      unfolding ours
      ours-fit = device-fits c p (system-range u.ready) (plan-range u.ready) u.rules t i in-intervals (omega (arith, Viewed.devices-are halves zones minima devices cells))

      pub choice-fits : FitsDevice (choice_in v.started v.stopped v.state v.blocks)
      choice-fits = rw choice-is ours-fit

    module _ (z : ℕ) (l : z < length zones) {v : List Watts} (e : v ≡ map (λ k. watts (max_zero (shortfall_need q p t z k))) shortfalls) where
      in-zones : z < F.zones q
      in-zones = omega (arith, Viewed.zones-are halves zones minima devices cells)

      pub six-is : six_of v ≡ six_at x t z
      unfolding ours
      six-is = six-at x t z e

      pub six-fits : FitsSix (six_of v)
      six-fits =
          let s = system-range u.ready in
          let r = plan-range u.ready in
          let few = few-devices u.ready in
          rw e (record {
            rgu = omega (arith, shortfall-bound q p s r u.rules most_devices few t z rgu in-intervals in-zones);
            rgd = omega (arith, shortfall-bound q p s r u.rules most_devices few t z rgd in-intervals in-zones);
            scr = omega (arith, shortfall-bound q p s r u.rules most_devices few t z scr in-intervals in-zones);
            nsc = omega (arith, shortfall-bound q p s r u.rules most_devices few t z nsc in-intervals in-zones);
            rru = omega (arith, shortfall-bound q p s r u.rules most_devices few t z rru in-intervals in-zones);
            rrd = omega (arith, shortfall-bound q p s r u.rules most_devices few t z rrd in-intervals in-zones);
          })

    module _ (z : ℕ) (l : z < length zones) {v : ReactiveShortfalls} (e : v ≡ short_by (var (max_zero (reactive_need q p t z qru))) (var (max_zero (reactive_need q p t z qrd)))) where
      pub two_is : two_of v.qru v.qrd ≡ two_at x t z
      unfolding ours
      two_is = rw e refl

      pub two_fits : (v.qru.0 < 2 ^ 33) × (v.qrd.0 < 2 ^ 33)
      two_fits =
          let s = system-range u.ready in
          let r = plan-range u.ready in
          let k : z < F.zones q = omega (arith, Viewed.zones-are halves zones minima devices cells) in
          rw e (omega (arith, reactive-shortfall-bound q p s r u.rules t z qru k), omega (arith, reactive-shortfall-bound q p s r u.rules t z qrd k))
