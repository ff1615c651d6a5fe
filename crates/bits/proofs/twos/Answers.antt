-- The bits by which the machine holds a number are those of two's complement.
use mathlib.Core.Path.{◌≡◌, refl, ◌∙◌, ap}
use native.Mathlib.Omega.{arith}
use lib.IntN.{ℤ, pos, negsuc}
use mir.Syntax.{w64}
use mir.Val.{of_z}
use mir.ValLaws.{to_z-of_z}
use Rattle.bits.specs.Twos.{to_twos}
use Rattle.bits.proofs.twos.Goals as goal

held : (z : ℤ) → of_z w64 z ≡ to_twos 64 z
unfolding to_twos
held (pos n) = refl
held (negsuc n) = omega arith

pub returns : goal.returns
returns c = c.cast_unsigned.ensures ∙ (ap (of_z w64) (to_z-of_z w64 c.args.z c.ranges.z) ∙ held c.args.z)
