-- "The market's copy of a completion": its fields, beside those of the completion, and what asking for it gives back. All of it is over quantities: no price is in reach.
use Rattle.std.specs.Prelude.{List, [], ◌∷◌, ◌++◌, map, ℕ, leb, length, drop}
use Rattle.numbers.specs.Laws.{max_zero}
use Rattle.numbers.specs.Base.{up_to, gather}
use Rattle.bits.specs.Pick.{pick}
use Rattle.layouts.specs.declared.Fault.TheVariants.{TooShort}
use Rattle.layouts.specs.Layout.{Layout, Whole, passes, fails, bytes, nat, ◌▸◌, list, held, any, count_of, fixed}
use Rattle.layouts.specs.Since.{since}
use Rattle.model.specs.declared.Breach.{Breach}
use Rattle.model.specs.declared.Subject.TheVariants as S
use Rattle.market.specs.declared.Copying.{Copying}
use Rattle.market.specs.declared.Copying.TheVariants.{Copied, Broken, Refused}
use Rattle.model.specs.Case.{System, Plan, Kinds}
use Rattle.model.specs.Forced.{intervals, devices, zones, device, su, sd}
use Rattle.model.specs.Completion.{shortfall_need, reactive_need, mismatch_need, reactive_mismatch_need, overrun_need, rgu, rgd, scr, nsc, rru, rrd, qru, qrd}
use Rattle.model.specs.Breaches.{breaches}
use Rattle.model.specs.Editions.{Largest, Widths, widths_of}
use Rattle.model.specs.Messages.{Counts, Bars, no_bars, DeviceChoice, IntervalChoice, Written}
use Rattle.model.specs.ByEdition.{Stated, zone_choice, bars_choice, stated_in, planned_in}
use Rattle.model.specs.Judgement.{counts_of, energy_windows}

-- ---- the message

-- "kind 4": the value 4 of the four-bit kind field
abbrev pub market_kind : ℕ
market_kind = 4

-- "starts and stops"
pub record Change : Type 0 where
  pub started : ℕ
  pub stopped : ℕ

pub record IntervalCopy : Type 0 where
  pub devices : List Change
  pub zones : List Kinds
  pub mismatch : Bars
  pub reactive_mismatch : Bars

pub record Copy : Type 0 where
  pub intervals : List IntervalCopy
  pub overruns : List ℕ

-- "the header", as the completion's but for the kind
unfoldable pub copy_front_by : Widths → ℕ → Counts → Layout Counts
copy_front_by w e n = held
    (λ v. record { devices = v.1.1.0; intervals = v.1.1.1.0; zones = v.1.1.1.1 })
    (λ r. (market_kind, (e, (r.devices, (r.intervals, r.zones)))))
    (fixed market_kind ▸ fixed e ▸ nat (count_of w.device_bits n.devices n.devices) ▸ nat (count_of w.interval_bits n.intervals n.intervals) ▸ nat (count_of 3 n.zones n.zones))

unfoldable pub change : Layout Change
change = held (λ v. record { started = v.0; stopped = v.1 }) (λ r. (r.started, r.stopped)) (any 1 ▸ any 1)

-- "shortfalls, mismatches ..": those of the completion
unfoldable pub interval_copy : ℕ → ℕ → ℕ → Layout IntervalCopy
interval_copy e devices zones = held
    (λ v. record { devices = v.0; zones = v.1.0; mismatch = v.1.1.0; reactive_mismatch = v.1.1.1 })
    (λ r. (r.devices, (r.zones, (r.mismatch, r.reactive_mismatch))))
    (list devices change ▸ list zones (zone_choice e) ▸ bars_choice e ▸ since e 2 no_bars (bars_choice e))

-- "and overruns, in the completion's order"
unfoldable pub copy_by : Widths → ℕ → Counts → ℕ → Layout Copy
copy_by w e n windows = held
    (λ v. record { intervals = v.1.0; overruns = v.1.1 })
    (λ r. (n, (r.intervals, r.overruns)))
    (copy_front_by w e n ▸ list n.intervals (interval_copy e n.devices n.zones) ▸ list windows (any 32))

abbrev pub copy_layout : ℕ → Counts → ℕ → Layout Copy
copy_layout e n windows = copy_by (widths_of e) e n windows

-- "Completions and market copies follow their case's edition"
abbrev pub copy_in : ℕ → System → Layout Copy
copy_in e q = copy_layout e (counts_of q) (energy_windows q)

-- ---- its figures

-- "lacks block powers, startup states and surplus": what is left of a completion
abbrev pub change_of : DeviceChoice → Change
change_of d = record { started = d.started; stopped = d.stopped }

abbrev pub interval_of : IntervalChoice → IntervalCopy
interval_of r = record { devices = map change_of r.devices; zones = r.zones; mismatch = r.mismatch; reactive_mismatch = r.reactive_mismatch }

unfoldable pub shown : Written → Copy
shown r = record { intervals = map interval_of r.intervals; overruns = r.overruns }

-- the same from the quantities of a case and its plan
unfoldable pub copy_of : System → Plan → Copy
copy_of q p = record {
  intervals = map (λ t. record {
    devices = map (λ i. record { started = su q p t i; stopped = sd q p t i }) (up_to (devices q));
    zones = map (λ z. record {
      six = record {
        rgu = max_zero (shortfall_need q p t z rgu);
        rgd = max_zero (shortfall_need q p t z rgd);
        scr = max_zero (shortfall_need q p t z scr);
        nsc = max_zero (shortfall_need q p t z nsc);
        rru = max_zero (shortfall_need q p t z rru);
        rrd = max_zero (shortfall_need q p t z rrd);
      };
      reactive = record { qru = max_zero (reactive_need q p t z qru); qrd = max_zero (reactive_need q p t z qrd) };
    }) (up_to (zones q));
    mismatch = record { first = mismatch_need q p t 0; second = mismatch_need q p t 1 };
    reactive_mismatch = record { first = reactive_mismatch_need q p t 0; second = reactive_mismatch_need q p t 1 };
  }) (up_to (intervals q));
  overruns = gather (λ i. map (λ w. max_zero (overrun_need q p i w)) (up_to (length (device q i).energy_windows))) (up_to (devices q));
}

unfoldable pub copy_bytes : ℕ → System → Plan → List ℕ
copy_bytes e q p = bytes ((copy_in e q).write (copy_of q p))

-- ---- what is answered

abbrev pub unless_broken : List Breach → Copying → Copying
unless_broken [] r = r
unless_broken (b ∷ bs) r = Broken b

-- "A short buffer gets 7", after the rules
unfoldable pub copying : ℕ → System → Plan → ℕ → Copying
copying e q p room =
    let n = length (copy_bytes e q p) in
    let r = pick (leb n room) (Copied n) (Refused S.Result (TooShort n)) in
    unless_broken (breaches q p) r

-- "bytes past what is written stay"
abbrev pub copy_after : Copying → List ℕ → List ℕ → List ℕ
copy_after (Copied n) out buffer = out ++ drop (length out) buffer
copy_after (Broken b) out buffer = buffer
copy_after (Refused s f) out buffer = buffer

pub record Copies : Type 0 where
  pub answer : Copying
  pub result : List ℕ

unfoldable pub copied_plan : ℕ → System → Plan → List ℕ → Copies
copied_plan e q p buffer = let r = copying e q p (length buffer) in record { answer = r; result = copy_after r (copy_bytes e q p) buffer }

abbrev pub with_plan : ℕ → System → List ℕ → Whole Plan → Copies
with_plan e q buffer (passes p) = copied_plan e q p buffer
with_plan e q buffer (fails f) = record { answer = Refused S.Plan f; result = buffer }

-- a case's quantities and edition are all that goes on from its reading
abbrev pub with_case : List ℕ → List ℕ → Whole Stated → Copies
with_case ps buffer (passes x) = let e = x.edition in let q = x.case.system in with_plan e q buffer (planned_in e q ps)
with_case ps buffer (fails f) = record { answer = Refused S.Case f; result = buffer }

unfoldable pub market_copy : Largest → List ℕ → List ℕ → List ℕ → Copies
market_copy l cs ps buffer = with_case ps buffer (stated_in l cs)
