-- Money, and what a ledger comes to.
use Rattle.std.specs.Prelude.{◌≡◌, ℕ, ℤ, pos, ◌-ℤ◌}
use Rattle.grains.specs.declared.Grains.{Grains}
use Rattle.grains.specs.declared.Ledger.{Ledger}

abbrev pub grains : ℕ → Grains
grains x = record { 0 = x }

-- credits less debits
abbrev pub balance_of : Ledger → ℤ
balance_of l = pos l.credit.0 -ℤ pos l.debit.0

-- a ledger's credits and debits
pub record Ledgered (l : Ledger) (credit debit : ℕ) : Type 0 where
  pub credits : l.credit.0 ≡ credit
  pub debits : l.debit.0 ≡ debit
