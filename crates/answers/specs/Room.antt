-- The batch program's result buffer has room for every completion.
use Rattle.std.specs.Prelude.{◌≡◌, List, ℕ, ◌+◌, ◌*◌, ◌≤◌, leb}
use Rattle.std.proofs.Math.Path.{refl}
use Rattle.std.proofs.Common.{◌∙◌, arith}
use Rattle.std.proofs.Math.Nat.{mul-le-mul}
use borrow.Author.Tests.{le-leb}
use Rattle.std.proofs.Math.ListN.{length}
use Rattle.numbers.specs.Base.{up_to}
use Rattle.model.specs.Case.{Plan, System, no_device}
use Rattle.model.specs.ByEdition.{Stated}
use Rattle.model.specs.Forced.{intervals, devices, zones, device}
use Rattle.layouts.specs.Layout.{Whole, passes, fails}
use Rattle.ranges.specs.Ranges.{SystemRange, DeviceRange}
use Rattle.numbers.specs.Every.{all-at, length-range, sum_bound, all-up_to}
use Rattle.model.specs.Editions.{batch, most_zones}
use Rattle.model.specs.Ours.{ours}
use Rattle.model.specs.Judgement.{energy_windows, our_surplus, completion_bytes, accepts, verdict, judged, with_plan}
use Rattle.model.specs.Batch.{plan_verdict}
use Rattle.completion_size.specs.Size.{interval_width, counts-few, interval-few, written-needed}

abbrev pub result_room : ℕ
result_room = 14336

-- of a case whose counts the batch program takes
module _ (x : Stated) (r : SystemRange x.case.system) (few : devices x.case.system ≤ batch.devices) (short : intervals x.case.system ≤ batch.intervals) where
  abbrev q : System
  q = x.case.system

  windows-few : energy_windows q ≤ 64
  unfolding energy_windows
  windows-few =
      let s = sum_bound (λ i. length (device q i).energy_windows) 4 (up_to (devices q))
      (all-up_to _ (devices q) (λ i l. (all-at (DeviceRange (length q.halves)) no_device q.devices r.each_device i l).energies)) in
      omega (arith, s, length-range 0 (devices q), few)

  interval-small : interval_width x.edition (devices q) (zones q) ≤ 2316
  interval-small = omega (arith, interval-few x.edition (devices q) (zones q) 16 most_zones few r.zones)

  pub completion-fits : (p : Plan) → length (completion_bytes x p) ≤ result_room
  unfolding completion_bytes
  completion-fits p = omega (arith, written-needed x.edition q (ours x.case p) (our_surplus x.case p), mul-le-mul short interval-small, windows-few, counts-few x.edition)

-- so every verdict is that of a buffer long enough
module _ (x : Stated) (buffer : List ℕ) (fits : (p : Plan) → length (completion_bytes x p) ≤ length buffer) where
  pub enough : (w : Whole Plan) → (with_plan x buffer w).verdict ≡ plan_verdict x w
  unfolding plan_verdict judged verdict accepts
  enough (passes p) =
      let n = length (completion_bytes x p) in
      rw (le-leb n (length buffer) (fits p), le-leb n n (omega arith)) refl
  enough (fails f) = refl
