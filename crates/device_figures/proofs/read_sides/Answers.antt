-- The side, then the zone bits with their test; the shift is the power of two.
use mathlib.Core.Path.{◌≡◌, ◌∙◌}
use Prim.Native.Nat.{ℕ, ◌-◌, ◌%◌, ◌^◌, ◌*◌}
use native.Mathlib.Nat.{one-mul}
use native.Mathlib.Omega.{arith}
use lib.Pow.{shl_exact}
use Rattle.layouts.specs.Layout.{◌then◌, such}
use Rattle.model.specs.Messages.{zone_bits}
use Rattle.fields.specs.Got.{nat-natural}
use Rattle.fields.proofs.Steps.{on, off, seen-exits}
use Rattle.device_figures.proofs.read_sides.Goals as goal

-- 1 << (4 − zones), as the machine shifts it
unit : (zones : ℕ) → 1 * 2 ^ (4 - zones) % 2 ^ 32 ≡ 2 ^ (4 - zones)
unit zones = shl_exact {a = 1} 1 (4 - zones) 32 (omega arith) (omega arith) ∙ one-mul (2 ^ (4 - zones))

pub returns-in_err-side : goal.returns-in_err-side
unfolding ◌then◌
returns-in_err-side c = seen-exits _ _ c.from_residual.ensures (search (off, nat-natural, c.in_err-side.ensures))

pub returns-in_err-zonebits : goal.returns-in_err-zonebits
unfolding zone_bits ◌then◌ such
returns-in_err-zonebits c = seen-exits _ _ c.from_residual-in_err-zonebits.ensures (search (on, off, nat-natural, c.in_ok-side.ensures, c.in_err-zonebits.ensures))

pub returns : goal.returns
unfolding zone_bits ◌then◌ such
returns c =
    let k = rw (unit c.args.zones) at c.noted-checked.ensures in
    search (on, nat-natural, k, c.in_ok-side.ensures, c.in_ok-zonebits.ensures)
