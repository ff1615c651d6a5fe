-- The choices that a completion's message holds, field by field, and that those of the message written are ours: so the completion written, taken from its bytes,
-- meets every rule and has the surplus reported.
use Rattle.std.specs.Prelude.{◌≡◌, eqb, get_or}
use mathlib.Core.List.{List, []}
use Prim.Native.Nat.{ℕ, ◌+◌, ◌<◌}
use Rattle.std.proofs.Math.ListN.{length}
use Rattle.std.proofs.Math.IntN.{ℤ, pos}
use Rattle.bits.specs.Pick.{pick}
use Rattle.numbers.specs.Base.{up_to}
use Rattle.numbers.specs.Sum.{sumℕ}
use Rattle.layouts.specs.Layout.{passes, read_whole}
use Rattle.model.specs.Case.{System, Plan, Case, Six, Kinds, ReactiveReserves, no_kinds}
use Rattle.model.specs.Forced.{intervals, devices, zones, device}
use Rattle.model.specs.Rules.{blocks}
use Rattle.model.specs.Messages.{DeviceChoice, Bars, no_bars, IntervalChoice, Written}
use Rattle.model.specs.ByEdition.{Stated}
use Rattle.model.specs.Completion as C
use Rattle.model.specs.Completion.{Completion, Meets, surplus_of}
use Rattle.model.specs.Judgement.{completion_in}

-- ---- what a message holds

-- the energy windows of the devices ahead of device i: "each energy window's overrun .., in case order"
abbrev pub windows_ahead : System → ℕ → ℕ
windows_ahead q i = sumℕ (λ j. length (device q j).energy_windows) (up_to i)

abbrev pub sixth : Six → C.Shortfall → ℕ
sixth s C.rgu = s.rgu
sixth s C.rgd = s.rgd
sixth s C.scr = s.scr
sixth s C.nsc = s.nsc
sixth s C.rru = s.rru
sixth s C.rrd = s.rrd

abbrev pub second : ReactiveReserves → C.ReactiveShortfall → ℕ
second s C.qru = s.qru
second s C.qrd = s.qrd

-- an interval's part, a device's and a zone's
abbrev interval_at : Written → ℕ → IntervalChoice
interval_at w t = get_or w.intervals t (record { devices = []; zones = []; mismatch = no_bars; reactive_mismatch = no_bars })

abbrev device_at : Written → ℕ → ℕ → DeviceChoice
device_at w t i = get_or (interval_at w t).devices i (record { started = 0; stopped = 0; state = 0; blocks = [] })

abbrev zone_at : Written → ℕ → ℕ → Kinds
zone_at w t z = get_or (interval_at w t).zones z no_kinds

-- "bar 0 first"
abbrev bar_of : Bars → ℕ → ℕ
bar_of r b = pick (eqb b 0) r.first r.second

-- the choices of a completion's message: t interval, i device, k block, z zone, b busbar, n energy window
unfoldable pub chosen : System → Written → Completion ℤ
chosen q w = record {
  started = λ t i. pos (device_at w t i).started;
  stopped = λ t i. pos (device_at w t i).stopped;
  state = λ t i. pos (device_at w t i).state;
  block = λ t i k. pos (get_or (device_at w t i).blocks k 0);
  shortfall = λ t z k. pos (sixth (zone_at w t z).six k);
  reactive_shortfall = λ t z k. pos (second (zone_at w t z).reactive k);
  mismatch = λ t b. pos (bar_of (interval_at w t).mismatch b);
  reactive_mismatch = λ t b. pos (bar_of (interval_at w t).reactive_mismatch b);
  overrun = λ i n. pos (get_or w.overruns (windows_ahead q i + n) 0);
}

-- ---- two completions that agree wherever the case has a choice
pub record Agree (q : System) (x y : Completion ℤ) : Type 0 where
  pub started : (t i : ℕ) → t < intervals q → i < devices q → y.started t i ≡ x.started t i
  pub stopped : (t i : ℕ) → t < intervals q → i < devices q → y.stopped t i ≡ x.stopped t i
  pub state : (t i : ℕ) → t < intervals q → i < devices q → y.state t i ≡ x.state t i
  pub block : (t i k : ℕ) → t < intervals q → i < devices q → k < 4 → y.block t i k ≡ x.block t i k
  pub shortfall : (t z : ℕ) (k : C.Shortfall) → t < intervals q → z < zones q → y.shortfall t z k ≡ x.shortfall t z k
  pub reactive_shortfall : (t z : ℕ) (k : C.ReactiveShortfall) → t < intervals q → z < zones q → y.reactive_shortfall t z k ≡ x.reactive_shortfall t z k
  pub mismatch : (t b : ℕ) → t < intervals q → b < 2 → y.mismatch t b ≡ x.mismatch t b
  pub reactive_mismatch : (t b : ℕ) → t < intervals q → b < 2 → y.reactive_mismatch t b ≡ x.reactive_mismatch t b
  pub overrun : (i n : ℕ) → i < devices q → n < length (device q i).energy_windows → y.overrun i n ≡ x.overrun i n

module _ (c : Case) (p : Plan) (x y : Completion ℤ) (a : Agree c.system x y) where
  abbrev pub q : System
  q = c.system

-- ---- item 3 on bytes

-- bytes that hold a completion of plan p which meets every rule and has the surplus z, in its choices and in its last field
pub record Holds (x : Stated) (p : Plan) (z : ℤ) (s : List ℕ) : Type 0 where
  pub message : Written
  pub reads : read_whole (completion_in x.edition x.case.system) s ≡ passes message
  pub meets : Meets x.case.system p (chosen x.case.system message)
  pub surplus : surplus_of x.case p (chosen x.case.system message) ≡ z
  pub last : message.surplus ≡ z
