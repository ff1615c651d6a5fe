-- A field behind a group.
use mathlib.Core.Path.{◌≡◌, refl, sym, subst}
use Prim.Native.Nat.{ℕ, ◌+◌, ◌*◌, ◌%◌, ◌^◌, ◌<◌}
use native.Mathlib.Omega.{arith}
use lib.Arith.{digits_lt}
use lib.Pow.{pow-add, pow_mono, shl_exact}
use Rattle.pen.proofs.Stores.{joined}
use Rattle.field_groups.specs.declared.Group.{Group}
use Rattle.field_groups.specs.Groups.{Joined}

module _ (g : Group) (w v : ℕ) (few : g.width + w < 64) (small : g.value < 2 ^ g.width) (fits : v < 2 ^ w) where
  shifted : g.value * 2 ^ w % 2 ^ 64 ≡ g.value * 2 ^ w
  shifted = shl_exact {a = g.value} g.width w 64 small (omega arith)

  below : g.value * 2 ^ w + v < 2 ^ (g.width + w)
  below = subst (λ (m : ℕ). g.value * 2 ^ w + v < m) (sym (pow-add 2 g.width w)) (digits_lt small fits)

  pub join-fits : g.value * 2 ^ w % 2 ^ 64 + v < 2 ^ 64
  join-fits = rw shifted (omega (arith, below, pow_mono {i = g.width + w} {j = 64} (omega arith)))

  pub joins : Joined g w v (record { width = g.width + w; value = g.value * 2 ^ w % 2 ^ 64 + v })
  joins = rw shifted (record { wide = refl; small = below; is = joined g.width w g.value v fits })
