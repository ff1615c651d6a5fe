-- Few windows are counted.
use mathlib.Core.Path.{ap, ◌∙◌}
use native.Mathlib.Omega.{arith}
use Prim.Native.Nat.{ℕ}
use lib.ListN.{length}
use Rattle.completion_size.specs.Size.{needed}
use Rattle.completions.specs.Windows.{few-windows}
use Rattle.completions.proofs.completion_bytes.Goals as goal

pub count_windows-windows-requires : goal.count_windows-windows-requires
count_windows-windows-requires c = few-windows c.requires

pub bytes_needed-requires : goal.bytes_needed-requires
bytes_needed-requires c = let f : _ = c.requires in (f.few-devices, f.few-intervals, f.few-zones, omega (arith, c.count_windows-windows.ensures.small, f.few-devices))

pub returns : goal.returns
returns c =
    let a : _ = c.args in c.bytes_needed.ensures ∙ ap
    (λ (n : ℕ). needed a.edition (length a.devices.now) (length a.halves.now) (length a.zones.now) n) c.count_windows-windows.ensures.is
