-- A written copy reads back, where each figure fits its field; and our copy's figures do.
use Rattle.std.specs.Prelude.{◌≡◌, ℕ, ◌-◌, ◌*◌, ◌^◌, ◌≤◌, length}
use Rattle.std.proofs.Math.Path.{refl}
use Rattle.std.proofs.Common.{◌∙◌, arith}
use Rattle.std.proofs.lemmas.List.{length-map}
use Rattle.numbers.specs.Sum.{all_map}
use Rattle.numbers.specs.Every.{map-of-all}
use Rattle.layouts.specs.Layout.{read_whole, passes, bytes, any}
use Rattle.layouts.specs.Since.{has}
use Rattle.layouts.specs.Trip.{length-bytes}
use Rattle.model.specs.Case.{Six, Kinds, ReactiveReserves, no_reactive_reserves}
use Rattle.model.specs.Editions.{widths_of, device_bits, interval_bits, most_devices, most_intervals, most_zones, most_windows}
use Rattle.model.specs.Widths.{bounded}
use Rattle.model.specs.Messages as M
use Rattle.model.specs.Messages.{Counts, Bars, no_bars, Written}
use Rattle.model.specs.ByEdition as B
use Rattle.theorems.specs.Back.{FitsSix, FitsTwo, FitsKinds, FitsBars, FitsWritten, Countable}
use Rattle.writing.specs.Again.{Fit}
use Rattle.writing.proofs.Again.{fit-pair, fit-held, fit-any, fit-list, fit-present, fit-more, only-fits, fit-whole}
use Rattle.market.specs.Copy.{market_kind, Change, IntervalCopy, Copy, copy_front_by, change, interval_copy, copy_by, copy_layout, change_of, interval_of, shown}
use Rattle.market.specs.Back.{Few, FitsChange, FitsCopy, FitsIntervalCopy}

-- what is left of a completion that fits
pub shown-fits : (e : ℕ) (n : Counts) (windows : ℕ) (r : Written) → FitsWritten e n windows r → FitsCopy e n windows (shown r)
unfolding shown
shown-fits e n windows r k = record {
  long = length-map r.intervals interval_of ∙ k.length;
  each = map-of-all (FitsIntervalCopy e n) interval_of r.intervals (all_map (λ x f. record {
    each = length-map x.devices change_of ∙ f.each;
    devices = map-of-all FitsChange change_of x.devices (all_map (λ d g. record { started = g.started; stopped = g.stopped }) x.devices f.devices);
    every = f.every;
    zones = f.zones;
    mismatch = f.mismatch;
    reactive_mismatch = f.reactive_mismatch;
  }) r.intervals k.each);
  count = k.count;
  overruns = k.overruns;
}

-- ---- it reads back
pub six-fits : (r : Six) → FitsSix r → Fit (M.six (any 33)) 198 r
unfolding M.six
six-fits r k =
    let f : (v : ℕ) → v ≤ 2 ^ 33 - 1 → Fit (any 33) 33 v = λ v h. fit-any 33 v (omega arith) h in
    fit-held _ _ {a = (r.rgu, (r.rgd, (r.scr, (r.nsc, (r.rru, r.rrd)))))} refl
    (fit-pair (f r.rgu k.rgu) (fit-pair (f r.rgd k.rgd) (fit-pair (f r.scr k.scr) (fit-pair (f r.nsc k.nsc) (fit-pair (f r.rru k.rru) (f r.rrd k.rrd))))))

pub two-fit : (r : ReactiveReserves) → FitsTwo r → Fit B.reactive_choice 66 r
unfolding B.reactive_choice
two-fit r k = fit-held _ _ {a = (r.qru, r.qrd)} refl (fit-pair (fit-any 33 r.qru (omega arith) k.qru) (fit-any 33 r.qrd (omega arith) k.qrd))

pub kinds-fit : (e : ℕ) (r : Kinds) → FitsKinds e r → Fit (B.zone_choice e) 264 r
unfolding B.zone_choice
kinds-fit e r k = fit-held _ _ {a = (r.six, r.reactive)} refl (fit-pair (six-fits r.six k.six) (fit-present (has 2 e) no_reactive_reserves two-fit r.reactive k.reactive))

pub bars-fit : (e : ℕ) (r : Bars) → FitsBars e r → Fit (B.bars_choice e) 46 r
unfolding B.bars_choice
bars-fit e r k = fit-held _ _ {a = (r.first, r.second)} refl
    (fit-pair (fit-any 23 r.first (omega arith) k.first) (fit-present (has 5 e) 0 (λ v h. fit-any 23 v (omega arith) h) r.second k.second))

change-fits : (r : Change) → FitsChange r → Fit change 2 r
unfolding change
change-fits r k = fit-held _ _ {a = (r.started, r.stopped)} refl (fit-pair (fit-any 1 r.started (omega arith) k.started) (fit-any 1 r.stopped (omega arith) k.stopped))

module _ (e : ℕ) (n : Counts) (windows : ℕ) (k : Countable e n) (few : Few n windows) where
  interval-fits : (r : IntervalCopy) → FitsIntervalCopy e n r → Fit (interval_copy e n.devices n.zones) 1276 r
  unfolding interval_copy
  interval-fits r f = fit-held _ _ {a = (r.devices, (r.zones, (r.mismatch, r.reactive_mismatch)))} refl
      (fit-pair (fit-list n.devices most_devices change-fits few.devices r.devices f.each f.devices)
      (fit-pair (fit-list n.zones most_zones (kinds-fit e) few.zones r.zones f.every f.zones)
      (fit-pair (bars-fit e r.mismatch f.mismatch) (fit-present (has 2 e) no_bars (bars-fit e) r.reactive_mismatch f.reactive_mismatch))))

  front_fits : Fit (copy_front_by (widths_of e) e n) 25 n
  unfolding copy_front_by
  front_fits = fit-more (omega (arith, (bounded e).device_bits, (bounded e).interval_bits)) (fit-held _ _ {a = (market_kind, (e, (n.devices, (n.intervals, n.zones))))} refl
      (fit-pair (only-fits 4 market_kind _ (omega arith)) (fit-pair (only-fits 4 e _ k.edition)
      (fit-pair (only-fits _ n.devices _ k.devices) (fit-pair (only-fits _ n.intervals _ k.intervals) (only-fits 3 n.zones _ k.zones))))))

  pub copy-fits : (r : Copy) → FitsCopy e n windows r → Fit (copy_layout e n windows) 130713 r
  unfolding copy_by
  copy-fits r f = fit-held _ _ {a = (n, (r.intervals, r.overruns))} refl
      (fit-pair front_fits (fit-pair (fit-list n.intervals most_intervals interval-fits few.intervals r.intervals f.long f.each)
      (fit-list windows (most_devices * most_windows) (λ v h. fit-any 32 v (omega arith) h) few.overruns r.overruns f.count f.overruns)))

  -- what is written reads back, in every edition
  pub copy-back : (r : Copy) → FitsCopy e n windows r → read_whole (copy_layout e n windows) (bytes ((copy_layout e n windows).write r)) ≡ passes r
  copy-back r f = fit-whole (copy_layout e n windows) 130713 r (omega arith) (copy-fits r f)

  -- no copy takes more
  pub copy-size : (r : Copy) → FitsCopy e n windows r → length (bytes ((copy_layout e n windows).write r)) ≤ 16340
  copy-size r f = omega (arith, length-bytes ((copy_layout e n windows).write r), (copy-fits r f).size)
