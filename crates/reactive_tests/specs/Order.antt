-- Signed figures are kept from 0, so each comparison of whole numbers is one of naturals: what the one side adds and the other takes away, on either side.
use Rattle.std.specs.Prelude.{◌≡◌, refl, Bool, true, false, ◌&&◌, ℕ, ◌+◌, ◌*◌, ◌≤◌, T, leb, eqb, ℤ, pos, ◌+ℤ◌, ◌-ℤ◌, ◌*ℤ◌, ◌≤ℤ◌}
use Rattle.std.proofs.Common.{sym, ap₂, ◌∙◌, arith, leb→le, le→leb, eqb→eq}
use Rattle.std.specs.Int.Signed.{le_z, le_z_yes}
use Rattle.numbers.specs.Tests.{same_test, and_in, and_l, and_r}
use Rattle.numbers.specs.Z.{Ex, nat, ◌⊕◌, ◌⊝◌, ◌⊗◌, val, up, dn, by≤, of≤}
use Rattle.model.specs.Rules.{on_line}
use Rattle.model.specs.Breaches.{eq_z}
use Rattle.model.proofs.Tests.{same}
use Rattle.kilovars.specs.Reactive.{kvar_offset}
use Rattle.records.specs.Views.{less, slope_offset, line_in}
use Rattle.row_places.specs.declared.Line.{Line}

-- ---- any two whole numbers

order : (e f : Ex) → le_z (val e) (val f) ≡ leb (up e + dn f) (up f + dn e)
order e f = same_test _ _ (λ t. le→leb _ _ (of≤ e f (le_z_yes t))) (λ t. (by≤ e f (leb→le _ _ t)).le)

order_is : (e f : Ex) (a b : ℕ) → a ≡ up e + dn f → b ≡ up f + dn e → leb a b ≡ le_z (val e) (val f)
order_is e f a b g h = ap₂ (λ (x y : ℕ). leb x y) g h ∙ sym (order e f)

both_ways : (a b : ℕ) → eqb a b ≡ (leb a b && leb b a)
both_ways a b = same_test _ _
    (λ t. let e : a ≡ b = eqb→eq a b t in and_in (leb a b) (leb b a) (le→leb a b (omega arith)) (le→leb b a (omega arith)))
    (λ t. let l : a ≤ b = leb→le a b (and_l (leb a b) (leb b a) t) in let m : b ≤ a = leb→le b a (and_r (leb a b) (leb b a) t) in same {m = a} {n = b} (omega arith))

equal_is : (e f : Ex) (a b : ℕ) → a ≡ up e + dn f → b ≡ up f + dn e → eqb a b ≡ eq_z (val e) (val f)
equal_is e f a b g h = both_ways a b ∙ ap₂ (λ (x y : Bool). x && y) (order_is e f a b g h) (order_is f e b a h g)

-- ---- reactive figures

-- one kept from 0
abbrev kept : ℕ → ℕ → Ex
kept o v = nat v ⊝ nat o

abbrev kvars : ℕ → Ex
kvars v = kept kvar_offset v

-- a line, in thousandths of a kvar
abbrev line : Line → ℕ → ℕ → Ex
line l n p = nat 1000 ⊗ (kvars l.offset.0 ⊗ nat n) ⊕ kept slope_offset l.slope ⊗ nat p

-- rules 21 and 22: a limit times n
module _ (q reserve limit n : ℕ) where
  pub below-limit : leb (q + reserve + kvar_offset * n) (limit * n + kvar_offset) ≡ le_z (less kvar_offset q +ℤ pos reserve) (less kvar_offset limit *ℤ pos n)
  below-limit = order_is (kvars q ⊕ nat reserve) (kvars limit ⊗ nat n) (q + reserve + kvar_offset * n) (limit * n + kvar_offset) (omega arith) (omega arith)

  pub above-limit : leb (limit * n + kvar_offset + reserve) (q + kvar_offset * n) ≡ le_z (less kvar_offset limit *ℤ pos n) (less kvar_offset q -ℤ pos reserve)
  above-limit = order_is (kvars limit ⊗ nat n) (kvars q ⊝ nat reserve) (limit * n + kvar_offset + reserve) (q + kvar_offset * n) (omega arith) (omega arith)

-- ---- a line and a reactive power on one level: 1000·offset·n + slope·p and 1000·q, each with what the other is kept from

abbrev pub line_level : Line → ℕ → ℕ → ℕ
line_level l n p = 1000 * (l.offset.0 * n) + l.slope * p + 1000 * kvar_offset

abbrev pub own_level : ℕ → ℕ → ℕ → ℕ
own_level q n p = 1000 * (q + kvar_offset * n) + slope_offset * p

-- rules 23 to 25
module _ (q reserve : ℕ) (l : Line) (n p : ℕ) where
  pub below-line : leb (own_level (q + reserve) n p) (line_level l n p) ≡ le_z (pos 1000 *ℤ (less kvar_offset q +ℤ pos reserve)) (on_line (line_in l) n p)
  unfolding on_line
  below-line = order_is (nat 1000 ⊗ (kvars q ⊕ nat reserve)) (line l n p) (own_level (q + reserve) n p) (line_level l n p) (omega arith) (omega arith)

  pub above-line : leb (line_level l n p + 1000 * reserve) (own_level q n p) ≡ le_z (on_line (line_in l) n p) (pos 1000 *ℤ (less kvar_offset q -ℤ pos reserve))
  unfolding on_line
  above-line = order_is (line l n p) (nat 1000 ⊗ (kvars q ⊝ nat reserve)) (line_level l n p + 1000 * reserve) (own_level q n p) (omega arith) (omega arith)

  pub on-line : eqb (own_level q n p) (line_level l n p) ≡ eq_z (pos 1000 *ℤ less kvar_offset q) (on_line (line_in l) n p)
  unfolding on_line
  on-line = equal_is (nat 1000 ⊗ kvars q) (line l n p) (own_level q n p) (line_level l n p) (omega arith) (omega arith)
