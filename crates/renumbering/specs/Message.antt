-- The completion's message of a renumbered pair is the pair's own, rearranged: each device's choices and overruns at its new number, all else as it was.
use Rattle.std.specs.Prelude.{take, drop}
use mathlib.Core.List.{List, [], map}
use Prim.Native.Nat.{ℕ}
use Rattle.std.proofs.Math.ListN.{length}
use Rattle.numbers.specs.Base.{up_to, gather}
use Rattle.numbers.specs.Sum.{sumℕ}
use Rattle.model.specs.Case.{System}
use Rattle.model.specs.Forced.{device}
use Rattle.model.specs.Messages.{DeviceChoice, IntervalChoice, Written}
use Rattle.renumbering.specs.Permute.{Renumbering}
use Rattle.renumbering.specs.Renumbered.{rearranged}

-- ---- a completion's message, rearranged
abbrev pub no_choice : DeviceChoice
no_choice = record { started = 0; stopped = 0; state = 0; blocks = [] }

-- how many energy windows a device has
abbrev pub windows_of : System → ℕ → ℕ
windows_of q i = length (device q i).energy_windows

-- device i's overruns, "in case order": behind those of the devices ahead of it
abbrev pub overruns_of : (ℕ → ℕ) → ℕ → List ℕ → List ℕ
overruns_of windows i l = take (windows i) (drop (sumℕ windows (up_to i)) l)

abbrev pub rearranged_interval : {n : ℕ} → Renumbering n → IntervalChoice → IntervalChoice
rearranged_interval r v = record { devices = rearranged r no_choice v.devices; zones = v.zones; mismatch = v.mismatch; reactive_mismatch = v.reactive_mismatch }

-- windows: how many each device had, by its old number
unfoldable pub rearranged_written : {n : ℕ} → Renumbering n → (ℕ → ℕ) → Written → Written
rearranged_written {n} r windows w = record {
  intervals = map (rearranged_interval r) w.intervals;
  overruns = gather (λ j. overruns_of windows (r.back j) w.overruns) (up_to n);
  surplus = w.surplus;
}
