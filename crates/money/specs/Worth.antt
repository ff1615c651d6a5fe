-- Blocks' worth with prices kept from 0: Σ kept·power and offset·p, each without a sign.
use Rattle.std.specs.Prelude.{◌≡◌, refl, ◌⊎◌, Bool, true, false, List, ℕ, ◌+◌, ◌*◌, ◌≤◌, ◌<◌, eqb, get_or, ℤ, pos, ◌-ℤ◌}
use Rattle.std.proofs.Common.{sym, ap, ◌∙◌, inl, inr, arith, mul-zero, mul-le-mul}
use Rattle.numbers.specs.Laws as L
use Rattle.kilowatts.specs.declared.Kw.{Kw}
use Rattle.grains.specs.declared.Ledger.{Ledger}
use Rattle.grains.specs.Money.{Ledgered}
use Rattle.model.specs.Completion.{by_side}
use Rattle.records.specs.Views.{price_offset, number_of}
use Rattle.money.specs.Bounds.{power_most, minutes_most, kept_most, worth_most, value_most, blocks_most, trade_most}
use Rattle.money.specs.Entries.{Entered, entered-then, entered-as, earned, spent}

-- one block: it is empty or its price is known
abbrev pub Priced : ℕ → ℕ → Type 0
Priced power kept = (power ≡ 0) ⊎ (kept ≤ kept_most)

-- four blocks
pub record FourPriced (powers : List Kw) (kept : List ℕ) : Type 0 where
  pub small : (k : ℕ) → k < 4 → number_of powers k ≤ power_most
  pub priced : (k : ℕ) → k < 4 → Priced (number_of powers k) (get_or kept k 0)

-- Σ kept·power
abbrev pub value_of : List Kw → List ℕ → ℕ
value_of powers kept = get_or kept 0 0 * number_of powers 0 + get_or kept 1 0 * number_of powers 1 + get_or kept 2 0 * number_of powers 2 + get_or kept 3 0 * number_of powers 3

-- an amount: what it is, and its size
abbrev pub Amounts : ℕ → ℕ → ℕ → Type 0
Amounts is most r = (r ≡ is) × (r ≤ most)

pub worth-small : (power kept : ℕ) → power ≤ power_most → Priced power kept → kept * power ≤ worth_most
worth-small power kept h (inl z) = rw (z, mul-zero kept) (omega arith)
worth-small power kept h (inr l) = mul-le-mul l h

-- four of them added
pub four-rates : (most a b c d : ℕ) {v w x y r s z : ℕ} → Amounts a most v → Amounts b most w → Amounts c most x → Amounts d most y
    → r ≡ v + w → s ≡ r + x → z ≡ s + y → Amounts (a + b + c + d) (4 * most) z
four-rates most a b c d f g h j k l m = (omega (arith, f.0, g.0, h.0, j.0), omega (arith, f.1, g.1, h.1, j.1))

-- a rate over an interval's minutes
pub over-most : (minutes rate most : ℕ) {v r : ℕ} → minutes ≤ minutes_most → Amounts rate most v → r ≡ minutes * v → Amounts (minutes * rate) (minutes_most * most) r
over-most minutes rate most {v} {r} h a e = (e ∙ ap (λ (n : ℕ). minutes * n) a.0, omega (arith, mul-le-mul h a.1))

-- worth of the blocks over an interval: earned by a consuming device, paid by a producing one
abbrev pub trade_of : Bool → ℕ → ℕ → ℕ → ℤ
trade_of consuming minutes value p = by_side consuming (pos (minutes * value) -ℤ pos (minutes * (price_offset * p)))

module _ (side minutes value p : ℕ) {l m r : Ledger} {v f : ℕ} (e : v ≡ minutes * value) (g : f ≡ minutes * (price_offset * p)) (n : v ≤ blocks_most * value_most) (o : f ≤ value_most) where
  pub trade-consuming : eqb side 1 ≡ true → Ledgered m (l.credit.0 + v) l.debit.0 → Ledgered r m.credit.0 (m.debit.0 + f) → Entered l r (trade_of (eqb side 1) minutes value p) trade_most
  trade-consuming b h k = entered-as (entered-then (earned h) (spent k)) (rw (b, e, g) refl) (omega arith)

  pub trade-producing : eqb side 1 ≡ false → Ledgered m (l.credit.0 + f) l.debit.0 → Ledgered r m.credit.0 (m.debit.0 + v) → Entered l r (trade_of (eqb side 1) minutes value p) trade_most
  trade-producing b h k = entered-as (entered-then (earned h) (spent k)) (rw (b, e, g) (sym (L.neg-sub (pos (minutes * value)) (pos (minutes * (price_offset * p)))))) (omega arith)
