-- Figures as a reader keeps them.
use Rattle.std.specs.Prelude.{◌≡◌, List, ℕ, ◌+◌, ◌≤◌, leb, get_or, ℤ, pos, nat_abs, ◌-ℤ◌, ◌≤ℤ◌}
use Rattle.std.proofs.Common.{leb→le, le→leb}
use Rattle.std.specs.Int.Signed.{le_z, le_z_yes}
use Rattle.numbers.specs.Z.{whole, n-}
use Rattle.numbers.specs.Bounds.{na}
use Rattle.numbers.specs.Tests.{same_test}
use Rattle.model.specs.Case.{Reserves}

-- a signed figure is kept from 0: what is kept less the offset
abbrev pub less : ℕ → ℕ → ℤ
less offset v = pos v -ℤ pos offset

-- one whose size is at most the offset is kept as at most twice the offset
pub kept_small : (o v : ℕ) → nat_abs (less o v) ≤ o → v ≤ o + o
kept_small o v h = omega (whole, na (less o v), n- (pos v) (pos o))

-- two kept from the same offset are in the order of what is kept
pub less-order : (o a b : ℕ) → le_z (less o a) (less o b) ≡ leb a b
less-order o a b = same_test (le_z (less o a) (less o b)) (leb a b)
    (λ h. le→leb a b (let l : less o a ≤ℤ less o b = le_z_yes h in omega (whole, n- (pos a) (pos o), n- (pos b) (pos o))))
    (λ h. let l : a ≤ b = leb→le a b h in let k : less o a ≤ℤ less o b = omega (whole, n- (pos a) (pos o), n- (pos b) (pos o)) in k.le)

-- the eight, in a row
abbrev pub reserves_of : List ℕ → Reserves
reserves_of v = record { rgu = get_or v 0 0; rgd = get_or v 1 0; scr = get_or v 2 0; nsc = get_or v 3 0; rru_on = get_or v 4 0; rru_off = get_or v 5 0; rrd_on = get_or v 6 0; rrd_off = get_or v 7 0 }
