-- What the code computes, enters and writes for a device, a zone, an interval: steps of a completion.
use Rattle.std.specs.Prelude.{◌≡◌, refl, List, [], map, ℕ, ◌+◌, ◌-◌, ◌*◌, ◌^◌, ◌≤◌, ◌<◌, length, get_or, take, drop, neg_ℤ}
use Rattle.std.proofs.Common.{sym, subst, ◌∙◌, arith, mul-le-mul}
use Rattle.std.proofs.Math.Path.{ap}
use Rattle.numbers.specs.Laws.{max_zero}
use Rattle.energy.specs.declared.Watts.{Watts}
use Rattle.grains.specs.declared.Ledger.{Ledger}
use Rattle.energy.specs.Energy.{watts}
use Rattle.layouts.specs.Layout.{any}
use Rattle.layouts.specs.Since.{since}
use Rattle.model.specs.Case.{System, Plan, Case, no_reactive_reserves}
use Rattle.model.specs.Completion as C
use Rattle.model.specs.Completion.{Completion, shortfalls, shortfall_need, mismatch_need, reactive_need, reactive_mismatch_need}
use Rattle.model.specs.Messages.{six, no_bars}
use Rattle.model.specs.ByEdition.{device_choice, reactive_choice, bars_choice}
use Rattle.model.specs.Ours.{ours}
use Rattle.theorems.specs.Back.{FitsSix, FitsDevice}
use Rattle.pen.specs.declared.Pen.{Pen}
use Rattle.pen.specs.Pens.{Pushes}
use Rattle.pen.specs.Runs.{run, pushes-as}
use Rattle.row_places.specs.declared.Front.{Front}
use Rattle.row_places.specs.declared.Cell.{Cell}
use Rattle.row_places.specs.declared.Setting.{Setting}
use Rattle.row_places.specs.declared.Zone.{Zone}
use Rattle.row_places.specs.declared.Minima.{Minima}
use Rattle.row_places.specs.Figures.{on_at, cell_of, setting_of, zone_of, minima_of, device_at, flow_at}
use Rattle.numbers.specs.Parts.{part, part_at, part_cut, place_inside}
use Rattle.records.specs.Views.{most_intervals, system_in, case_in, plan_in}
use Rattle.records.specs.Viewed as Viewed
use Rattle.choices.specs.declared.Choice.{Choice}
use Rattle.choices.specs.Cells.{CellOf}
use Rattle.choices.specs.Choices.{ChoiceOf}
use Rattle.block_fill.specs.Above.{sum_of}
use Rattle.choices.specs.Here.{cell-here, floors-here, choice-learnt}
use Rattle.mismatches.specs.declared.BarMismatches.{BarMismatches}
use Rattle.mismatches.specs.Sides.{bars_to, mismatches_by, mismatches_of, mismatches-are}
use Rattle.zone_totals.specs.Sums.{sums_to}
use Rattle.zone_shortfalls.specs.Needs.{Thousandths, zone_needs, thousandths, shortfalls-are}
use Rattle.model.specs.Editions.{most_zones}
use Rattle.money.specs.Bounds.{cell_most, device_most, zone_most, kinds_most, mismatch_cost_most}
use Rattle.money.specs.Entries.{Entered, entered-then}
use Rattle.money.specs.Unbroken.{Unbroken}
use Rattle.money.specs.Ruled.{Ruled}
use Rattle.money.specs.Terms.{our, cell_balance, CellEntered}
use Rattle.money.specs.Here as Cells
use Rattle.slack_money.specs.Charges.{ZoneOf, ZoneEntered, mismatches_cost, IntervalOf, MismatchEntered}
use Rattle.slack_money.specs.Here as Here
use Rattle.reactive_money.specs.Charges.{HeldOf, HeldEntered, ReactiveZoneOf, ReactiveZoneEntered, ReactiveIntervalOf}
use Rattle.reactive_money.specs.Day.{device_balance, zone_balance}
use Rattle.reactive_money.specs.Here as Reactive
use Rattle.reactive_shortfalls.specs.declared.ReactiveShortfalls.{ReactiveShortfalls}
use Rattle.reactive_mismatches.specs.declared.ReactiveMismatches.{ReactiveMismatches}
use Rattle.reactive_mismatches.specs.Sides.{reactive-mismatches-are}
use Rattle.reactive_mismatches.specs.Sides.{bars_to as reactive_bars_to, mismatches_by as reactive_mismatches_by, mismatches_of as reactive_mismatches_of}
use Rattle.reactive_shortfalls.specs.Held.{short_by, short_of, held_to, reactive-shortfalls-are}
use Rattle.reactive_writer.specs.Reactive.{two_of}
use Rattle.kilovars.specs.Reactive.{var, kvar}
use Rattle.kilowatts.specs.Power.{kw}
use Rattle.field_groups.specs.Fields.{choice_in, six_of}
use Rattle.completion_size.specs.Size.{device_width, six_width, two_width, zone_width, bars_width, reactive_bars_width}
use Rattle.completion_writer.specs.Bars.{bars_of}
use Rattle.completion_writer.specs.Whole.{device_bits, zone_bits, bars_at, reactive_bars_at, zone-pushes, interval-pushes}
use Rattle.progress.specs.declared.Progress.{Progress}
use Rattle.progress.specs.Advances.{Advances, along}
use Rattle.interval_completions.specs.Fits as Fits
use Rattle.interval_completions.specs.Advances.{both, both_reactive, MismatchesEntered, DevicesAdvance, ZonesAdvance, IntervalAdvances}

-- a device's place in an interval
pub record Place (k : ℕ) (cells settings : List (List ℕ)) (powers : List ℕ) : Type 0 where
  pub in_cells : k < length cells
  pub in-settings : k < length settings
  pub in-powers : k < length powers

module _ {front : Front} {halves : List ℕ} {zones minima devices cells settings : List (List ℕ)} {starts powers : List ℕ}
    (u : Unbroken front halves zones minima devices cells settings starts powers) where
  abbrev q : System
  q = system_in halves zones minima devices cells

  abbrev c : Case
  c = case_in front halves zones minima devices cells

  abbrev p : Plan
  p = plan_in (length devices) (length halves) settings

  abbrev x : Completion ℕ
  x = ours c p

  abbrev m : ℕ
  m = length halves

  -- ---- a device in an interval

  module _ (t i a : ℕ) (h : t < m) (l : i < length devices) (begins : a ≡ i * m) where
    pub place_of : Place (a + t) cells settings powers
    place_of =
        let n = place_inside m i (length devices) t l h in
        record {
          in_cells = omega (arith, n, u.ready.case_rows.cells-full);
          in-settings = omega (arith, n, u.ready.plan-rows.full);
          in-powers = omega (arith, n, u.ready.forced-rows.powers-full);
        }

    -- its settings, as the code takes them
    abbrev own : List (List ℕ)
    own = take (a + m - a) (drop a settings)

    own_is : own ≡ part m i settings
    own_is = part_cut m i a settings begins

    abbrev power : ℕ
    power = get_or powers (a + t) 0

    module _ {cell : Cell} (ec : cell ≡ cell_of (get_or cells (a + t) [])) where
      pub cell-of : CellOf (device_at devices i) cell own starts power t
      cell-of = cell-here u.ready t i a h l begins refl ec own_is refl

      -- its power is at or above the floors that bind
      pub floors-of : on_at own t * sum_of cell.floors ≤ power
      floors-of = floors-here u.ready t i a h l begins refl ec own_is refl u.rules

      module _ {v : Choice} (o : ChoiceOf (device_at devices i) cell own starts power t v) where
        pub device-fits : FitsDevice (choice_in v.started v.stopped v.state v.blocks)
        device-fits = Fits.choice-fits u t h i l (choice-learnt u.ready t i a h l begins refl ec own_is refl o)

        -- the cell read again
        module _ {again : Cell} {s : Setting} {minutes : ℕ} (ea : again ≡ cell_of (get_or cells (a + t) [])) (es : s ≡ setting_of (get_or settings (a + t) [])) (em : minutes ≡ 2 * get_or halves t 0) where
          chosen : ChoiceOf (device_at devices i) again own starts power t v
          chosen = subst (λ (k : Cell). ChoiceOf (device_at devices i) k own starts power t v) (ec ∙ sym ea) o

          pub ruled : Ruled (device_at devices i) again s power minutes v
          ruled = Cells.ruled-here u t i a h l begins refl ea own_is refl es em chosen

          -- its money of real power
          pub cell-paid : {y z : Ledger} → CellEntered (device_at devices i) again s power minutes v y z → Entered y z (cell_balance c p t i) cell_most
          cell-paid e = Cells.cell-learnt u t i a h l begins refl ea own_is refl es em chosen e

          -- and of reactive reserves
          pub held_of : HeldOf cells settings (a + t) minutes
          held_of = Reactive.held-here u t i h l (ap (λ (n : ℕ). n + t) begins) em

          pub device-done : {b d : List ℕ} {pen r : Pen} {y z w : Ledger} → CellEntered (device_at devices i) again s power minutes v y z
              → HeldEntered cells settings (a + t) minutes z w
              → Pushes device_width (device_choice.write (choice_in v.started v.stopped v.state v.blocks)) b d pen r
              → Advances device_width (device_bits x t i) b d (device_balance c p t i) device_most (along y pen) (along w r)
          device-done e f k = record {
            pushes = pushes-as (ap device_choice.write (Fits.choice-is u t h i l (choice-learnt u.ready t i a h l begins refl ec own_is refl o))) refl k;
            entered = entered-then (cell-paid e)
                (Reactive.held-learnt u t i h l (ap (λ (n : ℕ). n + t) begins) em f);
          }

  -- ---- a zone in an interval

  module _ (t : ℕ) (h : t < m) where
    module _ (z k : ℕ) (l : z < length zones) (at : k ≡ z * m + t) where
      pub in-minima : k < length minima
      in-minima = omega (arith, place_inside m z (length zones) t l h, u.ready.case_rows.minima-full)

      pub next_small : k + m ≤ (most_zones + 1) * most_intervals
      next_small =
          let few = u.ready.case_rows.few-intervals in
          omega (arith, place_inside m z (length zones) t l h, mul-le-mul u.ready.case_rows.few-zones few, few)

      module _ {zone : Zone} (ez : zone ≡ zone_of (get_or zones z [])) where
        pub shares-small : Thousandths zone
        shares-small = rw ez (thousandths u.ready t h z l)

        module _ {least : Minima} {v : List Watts} (el : least ≡ minima_of (get_or minima k [])) (e : v ≡ zone_needs zone least (sums_to devices settings powers m t z (length devices))) where
          least-is : least ≡ minima_of (get_or (part m z minima) t [])
          least-is = el ∙ ap (λ (n : ℕ). minima_of (get_or minima n [])) at ∙ ap minima_of (sym (part_at [] m z minima t h))

          short-is : v ≡ map (λ k. watts (max_zero (shortfall_need q p t z k))) shortfalls
          short-is = e ∙ rw (ez, least-is) (shortfalls-are u.ready t h z l)

          pub zone-fits : FitsSix (six_of v)
          zone-fits = Fits.six-fits u t h z l short-is

          -- and the two of reactive power
          module _ {two : ReactiveShortfalls} (er : two ≡ short_of least (held_to devices settings m t z (length devices))) where
            two_is : two ≡ short_by (var (max_zero (reactive_need q p t z C.qru))) (var (max_zero (reactive_need q p t z C.qrd)))
            two_is = er ∙ rw least-is (reactive-shortfalls-are u.ready t h z l)

            pub two_fits : (two.qru.0 < 2 ^ 33) × (two.qrd.0 < 2 ^ 33)
            two_fits = Fits.two_fits u t h z l two_is

            module _ {minutes : ℕ} (em : minutes ≡ 2 * get_or halves t 0) where
              pub zone-of : ZoneOf zone minutes v
              zone-of = Here.zone-here u t z h l ez em short-is

              pub zone-paid : {y w : Ledger} → ZoneEntered zone minutes v y w → Entered y w (neg_ℤ (C.shortfall_cost c p (our c p) t z)) zone_most
              zone-paid e = Here.zone-learnt u t z h l ez em short-is e

              up : two.qru.0 ≡ max_zero (reactive_need q p t z C.qru)
              up = ap (λ (x : ReactiveShortfalls). x.qru.0) two_is

              down : two.qrd.0 ≡ max_zero (reactive_need q p t z C.qrd)
              down = ap (λ (x : ReactiveShortfalls). x.qrd.0) two_is

              pub reactive-zone-of : ReactiveZoneOf zone minutes two.qru.0 two.qrd.0
              reactive-zone-of = Reactive.zone-here u t z h l ez em up down

              pub zone-done : {b d f : List ℕ} {pen k r : Pen} {y w o : Ledger} → ZoneEntered zone minutes v y w → ReactiveZoneEntered zone minutes two.qru.0 two.qrd.0 w o
                  → Pushes six_width ((six (any 33)).write (six_of v)) b d pen k
                  → Pushes (two_width front.edition) ((since front.edition 2 no_reactive_reserves reactive_choice).write (two_of two.qru two.qrd)) d f k r
                  → Advances (zone_width front.edition) (zone_bits front.edition x t z) b f (zone_balance c p t z) kinds_most (along y pen) (along o r)
              zone-done e g i j = record {
                pushes = zone-pushes front.edition q x t z
                    (pushes-as (ap (six (any 33)).write (Fits.six-is u t h z l short-is)) refl i)
                    (pushes-as (ap (since front.edition 2 no_reactive_reserves reactive_choice).write (Fits.two_is u t h z l two_is)) refl j);
                entered = entered-then (zone-paid e) (Reactive.zone-learnt u t z h l ez em up down g);
              }

    -- ---- the mismatches, and with them the interval

    module _ {y : BarMismatches} (e : y ≡ mismatches_of (bars_to devices powers m t (length devices)) (flow_at settings t)) where
      needs-are : y ≡ mismatches_by (kw (mismatch_need q p t 0)) (kw (mismatch_need q p t 1))
      needs-are = e ∙ mismatches-are u.ready t h

      pub mismatches-fit : (y.first.0 < 2 ^ 23) × (y.second.0 < 2 ^ 23)
      mismatches-fit = rw needs-are (Fits.mismatch-fits u t h 0, Fits.mismatch-fits u t h 1)

      bars-are : bars_of y.first.0 y.second.0 ≡ bars_at x t
      unfolding ours
      bars-are = ap (λ (v : BarMismatches). bars_of v.first.0 v.second.0) needs-are

      both_is : both y ≡ mismatch_need q p t 0 + mismatch_need q p t 1
      both_is = ap both needs-are

      pub interval-of : {minutes : ℕ} → minutes ≡ 2 * get_or halves t 0 → IntervalOf front.mismatch minutes (both y)
      interval-of em = Here.mismatch-here u t h refl em both_is

      mismatch-paid : {minutes : ℕ} → minutes ≡ 2 * get_or halves t 0 → {b d : Ledger} → MismatchEntered front.mismatch minutes (both y) b d
          → Entered b d (neg_ℤ (mismatches_cost c p t)) mismatch_cost_most
      mismatch-paid em e = Here.mismatch-learnt u t h refl em both_is e

    module _ {y : ReactiveMismatches} (e : y ≡ reactive_mismatches_of (reactive_bars_to devices settings m t (length devices))) where
      reactive-needs-are : y ≡ reactive_mismatches_by (kvar (reactive_mismatch_need q p t 0)) (kvar (reactive_mismatch_need q p t 1))
      reactive-needs-are = e ∙ reactive-mismatches-are u.ready t h

      pub reactive-mismatches-fit : (y.first.0 < 2 ^ 23) × (y.second.0 < 2 ^ 23)
      reactive-mismatches-fit = rw reactive-needs-are (Fits.reactive-mismatch-fits u t h 0, Fits.reactive-mismatch-fits u t h 1)

      reactive-bars-are : bars_of y.first.0 y.second.0 ≡ reactive_bars_at x t
      unfolding ours
      reactive-bars-are = ap (λ (v : ReactiveMismatches). bars_of v.first.0 v.second.0) reactive-needs-are

      reactive-both-is : both_reactive y ≡ reactive_mismatch_need q p t 0 + reactive_mismatch_need q p t 1
      reactive-both-is = ap both_reactive reactive-needs-are

      pub reactive-interval-of : {minutes : ℕ} → minutes ≡ 2 * get_or halves t 0 → ReactiveIntervalOf front.mismatch minutes (both_reactive y)
      reactive-interval-of em = Reactive.mismatch-here u t h refl em reactive-both-is

    module _ {y : BarMismatches} {z : ReactiveMismatches} {minutes : ℕ} (e : y ≡ mismatches_of (bars_to devices powers m t (length devices)) (flow_at settings t))
        (er : z ≡ reactive_mismatches_of (reactive_bars_to devices settings m t (length devices))) (em : minutes ≡ 2 * get_or halves t 0) where
      pub interval-done : {a b d f g : List ℕ} {r s v : Progress} {o : Ledger} {k pen : Pen}
          → DevicesAdvance front halves zones minima devices cells settings t (length devices) a b r s
          → ZonesAdvance front halves zones minima devices cells settings t (length zones) b d s v
          → MismatchesEntered front.mismatch minutes (both y) (both_reactive z) v.money o
          → Pushes (bars_width front.edition) ((bars_choice front.edition).write (bars_of y.first.0 y.second.0)) d f v.pen k
          → Pushes (reactive_bars_width front.edition) ((since front.edition 2 no_bars (bars_choice front.edition)).write (bars_of z.first.0 z.second.0)) f g k pen
          → IntervalAdvances front halves zones minima devices cells settings t a g r (along o pen)
      interval-done i j w k l =
          let n = Viewed.devices-are halves zones minima devices cells in
          let b = Viewed.zones-are halves zones minima devices cells in
          let d = front.edition in
          record {
            pushes = pushes-as refl (rw (n, b) refl) (interval-pushes d q x t
                (pushes-as (ap (run (device_bits x t)) (sym n)) (ap (λ (k : ℕ). k * device_width) (sym n)) i.pushes)
                (pushes-as (ap (run (zone_bits d x t)) (sym b)) (ap (λ (k : ℕ). k * zone_width d) (sym b)) j.pushes)
                (pushes-as (ap (bars_choice d).write (bars-are e)) refl k)
                (pushes-as (ap (since d 2 no_bars (bars_choice d)).write (reactive-bars-are er)) refl l));
            entered = Reactive.interval-whole u t i.entered j.entered (mismatch-paid e em w.of-real)
                (Reactive.mismatch-learnt u t h refl em (reactive-both-is er) w.of-reactive);
          }
