-- The bits that a completion's parts take, and the bytes that it needs: its edition and its counts alone say how many.
use Rattle.std.specs.Prelude.{◌≡◌, refl, Bool, true, false, ℕ, ◌+◌, ◌*◌, ◌≤◌, ℤ}
use Rattle.std.proofs.Common.{◌∙◌, ap, arith, mul-le-mul}
use lib.ListN.{length, length-append}
use Rattle.numbers.specs.Sum.{All, all, all_map, gate}
use Rattle.numbers.specs.Base.{up_to, gather}
use Rattle.numbers.specs.Every.{map-of-all, gate-le}
use Rattle.numbers.specs.Gather.{maps-long, gather-wide, gather-counted}
use Rattle.layouts.specs.Layout.{Layout, bits_of, bytes, bytes_for, nat, int, ◌then◌, list, held, any}
use Rattle.layouts.specs.Since.{has, nothing, present, since}
use Rattle.layouts.specs.Trip.{length-bits, length-bytes}
use Rattle.model.specs.Case.{System, Six, Kinds, ReactiveReserves, no_reactive_reserves}
use Rattle.model.specs.Completion.{Completion}
use Rattle.model.specs.Editions as E
use Rattle.model.specs.ByEdition as B
use Rattle.model.specs.Forced.{intervals, devices, zones, device}
use Rattle.model.specs.Judgement.{written, counts_of, energy_windows}
use Rattle.model.specs.Messages as M
use Rattle.model.specs.Messages.{Counts, DeviceChoice, Bars, no_bars, IntervalChoice, Written}
use Rattle.model.specs.Judgement.{completion_in}
use Rattle.model.specs.Widths.{bounded}

-- "kind 4 (3); edition 4; devices; intervals; zones 3"
abbrev pub front_width : ℕ → ℕ
front_width e = 4 + (4 + (E.device_bits e + (E.interval_bits e + 3)))

-- no edition has wider counts
pub counts-few : (e : ℕ) → (E.device_bits e ≤ 7) × (E.interval_bits e ≤ 7)
counts-few e = ((bounded e).device_bits, (bounded e).interval_bits)

-- "started 1, stopped 1, startup state 3, four block powers 17"
abbrev pub device_width : ℕ
device_width = 1 + (1 + (3 + 4 * 17))

-- "six shortfalls in W .., 33 each"; since edition 2 "the reactive shortfalls (var, 33 bits each, after the zone's six)"
abbrev pub six_width : ℕ
six_width = 6 * 33

abbrev pub two_width : ℕ → ℕ
two_width e = gate (has 2 e) (2 * 33)

abbrev pub zone_width : ℕ → ℕ
zone_width e = six_width + two_width e

-- "mismatch 23"; since edition 5 one for each bar
abbrev pub mismatch_width : ℕ
mismatch_width = 23

abbrev pub bars_width : ℕ → ℕ
bars_width e = mismatch_width + gate (has 5 e) mismatch_width

-- since edition 2 the reactive ones, "(23 bits, after the real one)"
abbrev pub reactive_bars_width : ℕ → ℕ
reactive_bars_width e = gate (has 2 e) (bars_width e)

abbrev pub mismatches_width : ℕ → ℕ
mismatches_width e = bars_width e + reactive_bars_width e

-- what an edition has or lacks is no wider than it is
pub two-few : (e : ℕ) → two_width e ≤ 2 * 33
two-few e = gate-le (has 2 e) (2 * 33) (2 * 33) (omega arith)

pub bars-few : (e : ℕ) → bars_width e ≤ 2 * mismatch_width
bars-few e = omega (arith, gate-le (has 5 e) mismatch_width mismatch_width (omega arith))

pub reactive-bars-few : (e : ℕ) → reactive_bars_width e ≤ 2 * mismatch_width
reactive-bars-few e = gate-le (has 2 e) (bars_width e) (2 * mismatch_width) (bars-few e)

abbrev pub overrun_width : ℕ
overrun_width = 32

abbrev pub surplus_width : ℕ
surplus_width = 64

abbrev pub interval_width : ℕ → ℕ → ℕ → ℕ
interval_width e devices zones = devices * device_width + (zones * zone_width e + mismatches_width e)

abbrev pub completion_width : ℕ → ℕ → ℕ → ℕ → ℕ → ℕ
completion_width e devices intervals zones windows = front_width e + (intervals * interval_width e devices zones + (windows * overrun_width + surplus_width))

abbrev pub needed : ℕ → ℕ → ℕ → ℕ → ℕ → ℕ
needed e devices intervals zones windows = bytes_for (completion_width e devices intervals zones windows)

-- an interval of counts up to these, in whatever edition
pub interval-few : (e d z n k : ℕ) → d ≤ n → z ≤ k → interval_width e d z ≤ n * device_width + (k * (six_width + 2 * 33) + 4 * mismatch_width)
interval-few e d z n k h l =
    let w : zone_width e ≤ six_width + 2 * 33 = omega (arith, two-few e) in
    omega (arith, bars-few e, reactive-bars-few e, mul-le-mul l w)

-- ---- a completion's message has the shape of its counts

pub record ShapedInterval (n : Counts) (r : IntervalChoice) : Type 0 where
  pub each : length r.devices ≡ n.devices
  pub four : All (λ d. length d.blocks ≡ 4) r.devices
  pub every : length r.zones ≡ n.zones

pub record Shaped (n : Counts) (windows : ℕ) (w : Written) : Type 0 where
  pub length : length w.intervals ≡ n.intervals
  pub each : All (ShapedInterval n) w.intervals
  pub count : lib.ListN.length w.overruns ≡ windows

-- the message of any choices has it
pub written-shaped : (q : System) (x : Completion ℕ) (z : ℤ) → Shaped (counts_of q) (energy_windows q) (written q x z)
unfolding written energy_windows
written-shaped q x z = record {
  length = maps-long _ _;
  each = map-of-all (ShapedInterval (counts_of q)) _ (up_to _) (all
      (λ t. record { each = maps-long _ _; four = map-of-all (λ d. length d.blocks ≡ 4) _ (up_to (devices q)) (all (λ i. maps-long _ 4) (up_to (devices q))); every = maps-long _ _ }) (up_to _));
  count = gather-counted x.overrun (λ i. length (device q i).energy_windows) (up_to (devices q));
}

-- ---- widths

pub device-wide : (d : DeviceChoice) → length d.blocks ≡ 4 → length ((M.device_choice).write d) ≡ device_width
unfolding M.device_choice held ◌then◌ nat list
device-wide d h =
    simp (length-append, length-bits) (omega (arith, h, gather-wide (bits_of 17) 17 d.blocks (all (λ v. length-bits 17 v) d.blocks)))

-- what an edition lacks takes no bits
present-wide : {A : Type 0} (b : Bool) (neutral : A) (l : Layout A) (w : ℕ) (x : A) → length (l.write x) ≡ w → length ((present b neutral l).write x) ≡ gate b w
unfolding present nothing
present-wide true neutral l w x h = h
present-wide false neutral l w x h = refl

six-wide : (s : Six) → length ((M.six (any 33)).write s) ≡ six_width
unfolding M.six held ◌then◌ nat
six-wide s = simp (length-append, length-bits)

two-wide : (r : ReactiveReserves) → length ((B.reactive_choice).write r) ≡ 2 * 33
unfolding B.reactive_choice held ◌then◌ nat
two-wide r = simp (length-append, length-bits)

zone-wide : (e : ℕ) (r : Kinds) → length ((B.zone_choice e).write r) ≡ zone_width e
unfolding B.zone_choice held ◌then◌
zone-wide e r =
    length-append ((M.six (any 33)).write r.six) _
    ∙ omega (arith, six-wide r.six, present-wide (has 2 e) no_reactive_reserves B.reactive_choice (2 * 33) r.reactive (two-wide r.reactive))

bars-wide : (e : ℕ) (r : Bars) → length ((B.bars_choice e).write r) ≡ bars_width e
unfolding B.bars_choice held ◌then◌ nat
bars-wide e r =
    length-append (bits_of 23 r.first) _
    ∙ omega (arith, length-bits 23 r.first, present-wide (has 5 e) 0 (any 23) 23 r.second (length-bits 23 r.second))

reactive-bars-wide : (e : ℕ) (r : Bars) → length ((since e 2 no_bars (B.bars_choice e)).write r) ≡ reactive_bars_width e
reactive-bars-wide e r = present-wide (has 2 e) no_bars (B.bars_choice e) (bars_width e) r (bars-wide e r)

pub front-wide : (e : ℕ) (n m : Counts) → length ((B.completion_front e n).write m) ≡ front_width e
unfolding B.completion_front_by held ◌then◌ nat
front-wide e n m = simp (length-append, length-bits)

pub interval-wide : (e : ℕ) (n : Counts) (r : IntervalChoice) → ShapedInterval n r → length ((B.interval_choice e n.devices n.zones).write r) ≡ interval_width e n.devices n.zones
unfolding B.interval_choice held ◌then◌ list nat
interval-wide e n r s =
    let z : length (gather (B.zone_choice e).write r.zones) ≡ n.zones * zone_width e =
    gather-wide (B.zone_choice e).write (zone_width e) r.zones (all (zone-wide e) r.zones) ∙ ap (λ (k : ℕ). k * zone_width e) s.every in
    simp (length-append, length-bits) (omega (
      arith,
      gather-wide (M.device_choice).write device_width r.devices (all_map (λ d h. device-wide d h) r.devices s.four),
      z,
      bars-wide e r.mismatch,
      reactive-bars-wide e r.reactive_mismatch,
      s.each,
    ))

pub completion-wide : (e : ℕ) (n : Counts) (windows : ℕ) (w : Written) → Shaped n windows w
    → length ((B.completion_layout e n windows).write w) ≡ completion_width e n.devices n.intervals n.zones windows
unfolding B.completion_by held ◌then◌ list nat int
completion-wide e n windows w s =
    let i : length (gather (B.interval_choice e n.devices n.zones).write w.intervals) ≡ n.intervals * interval_width e n.devices n.zones =
    gather-wide (B.interval_choice e n.devices n.zones).write (interval_width e n.devices n.zones) w.intervals (all_map (λ r h. interval-wide e n r h) w.intervals s.each)
    ∙ ap (λ (k : ℕ). k * interval_width e n.devices n.zones) s.length in
    simp (length-append, length-bits) (omega (
      arith,
      i,
      front-wide e n n,
      gather-wide (bits_of 32) 32 w.overruns (all (λ v. length-bits 32 v) w.overruns),
      s.count,
    ))

-- the bytes that a completion of this shape takes
pub bytes-wide : (e : ℕ) (n : Counts) (windows : ℕ) (w : Written) → Shaped n windows w
    → length (bytes ((B.completion_layout e n windows).write w)) ≡ needed e n.devices n.intervals n.zones windows
bytes-wide e n windows w s = length-bytes ((B.completion_layout e n windows).write w) ∙ ap bytes_for (completion-wide e n windows w s)

-- the bytes that the completions of a case's plans take
pub written-needed : (e : ℕ) (q : System) (x : Completion ℕ) (z : ℤ) → length (bytes ((completion_in e q).write (written q x z))) ≡ needed e (devices q) (intervals q) (zones q) (energy_windows q)
written-needed e q x z = bytes-wide e (counts_of q) (energy_windows q) (written q x z) (written-shaped q x z)
