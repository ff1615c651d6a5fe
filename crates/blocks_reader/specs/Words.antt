-- A block as a word of the message.
use Rattle.std.specs.Prelude.{ℕ, ◌+◌, ◌*◌, ◌≤◌}
use Rattle.kilowatts.specs.Power.{kw}
use Rattle.records.specs.Views.{price_offset}
use Rattle.cell_groups.specs.declared.Block.{Block}

-- "each cap 17 and price 15 (±10,000)"; the floor stands between them
abbrev pub plain_bits : ℕ
plain_bits = 17 + 15

abbrev pub floor_bits : ℕ
floor_bits = 17 + 17 + 15

abbrev pub block_with : ℕ → ℕ → ℕ → Block
block_with cap floor price = record { cap = kw cap; floor = kw floor; price = price }

-- each is in its range, and the floor is not above the cap
pub record BlockFits (cap floor price : ℕ) : Type 0 where
  pub cap-fits : cap ≤ 100000
  pub floor-fits : floor ≤ cap
  pub price-fits : price ≤ 2 * price_offset
