-- The bits of shortfalls and of a surplus as they are pushed are the layout's.
use mathlib.Core.Path.{◌≡◌, sym, ◌∙◌, ap}
use mathlib.Core.List.{List, ◌++◌, append_assoc}
use Prim.Native.Nat.{ℕ, ◌+◌, ◌*◌, ◌/◌, ◌%◌, ◌^◌}
use native.Mathlib.Omega.{arith}
use lib.IntN.{ℤ}
use Rattle.bits.specs.Twos.{to_twos}
use Rattle.layouts.specs.Layout.{bits_of, nat, int, ◌then◌, held, any}
use Rattle.model.specs.Messages as M
use Rattle.energy.specs.declared.Watts.{Watts}
use Rattle.pen.proofs.Stores.{joined}
use Rattle.field_groups.specs.Fields.{shortfall_at, six_of}

-- a zone's six shortfalls
abbrev shortfall : List Watts → ℕ → List ℕ
shortfall l k = bits_of 33 (shortfall_at l k)

pub six-is : (l : List Watts) → shortfall l 0 ++ (shortfall l 1 ++ shortfall l 2) ++ (shortfall l 3 ++ (shortfall l 4 ++ shortfall l 5)) ≡ (M.six (any 33)).write (six_of l)
unfolding M.six held ◌then◌ nat
six-is l = simp append_assoc

-- 64 bits in two halves
pub surplus-is : (v : ℕ) (z : ℤ) → v ≡ to_twos 64 z → bits_of 32 (v / 2 ^ 32) ++ bits_of 32 (v % 2 ^ 32) ≡ (int 64 (2 ^ 63)).write z
unfolding int
surplus-is v z e =
    let s : v / 2 ^ 32 * 2 ^ 32 + v % 2 ^ 32 ≡ v = omega arith in
    sym (joined 32 32 (v / 2 ^ 32) (v % 2 ^ 32) (omega arith)) ∙ ap (bits_of 64) (s ∙ e)
