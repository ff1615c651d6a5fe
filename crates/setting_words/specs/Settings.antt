-- A setting: its fields as bits of the message, and what the quick reading of them answers.
use Rattle.std.specs.Prelude.{◌≡◌, List, ℕ, ◌+◌, ◌*◌, ◌/◌, ◌%◌, ◌^◌, ◌≤◌, ◌<◌}
use Rattle.bits.specs.Bits.{field_at, reach}
use Rattle.model.specs.Case as M
use Rattle.row_places.specs.declared.Reactive.{Reactive}
use Rattle.row_places.specs.declared.Setting.{Setting}
use Rattle.row_places.specs.Figures.{setting_row}
use Rattle.records.specs.Views.{eight_in, reactive_in, setting_in}
use Rattle.setting_words.specs.declared.Active.{Active}
use Rattle.setting_words.specs.declared.Three.{Three}

-- "on 1, online power 17, eight reserves 17 each": what a record holds of the fields that every edition has
abbrev pub active_in : Active → ℕ × (ℕ × M.Reserves)
active_in x = (x.on, (x.online.0, eight_in x.reserves))

-- the setting that a record holds; that of these figures and the reactive ones
abbrev pub setting_held : Setting → M.Setting
setting_held x = setting_in (setting_row x)

abbrev pub setting_from : Active → Reactive → M.Setting
setting_from x y = record { on = x.on; online = x.online.0; reserves = eight_in x.reserves; reactive = reactive_in y }

-- "A 17-bit power is 0..100,000"
abbrev pub kw_bits : ℕ
kw_bits = 17

abbrev pub most_kw : ℕ
most_kw = 100000

-- three powers in a row; on and nine powers
abbrev pub three_bits : ℕ
three_bits = 3 * kw_bits

abbrev pub active_bits : ℕ
active_bits = 1 + 3 * three_bits

-- power j of the nine that stand behind bit `at`: the online power, then the eight in order
abbrev pub power_at : List ℕ → ℕ → ℕ → ℕ
power_at s at j = field_at s (at + 1 + j * kw_bits) kw_bits

abbrev pub active_at : List ℕ → ℕ → ℕ × (ℕ × M.Reserves)
active_at s at = (
  field_at s at 1,
  (
    power_at s at 0,
    record {
      rgu = power_at s at 1;
      rgd = power_at s at 2;
      scr = power_at s at 3;
      nsc = power_at s at 4;
      rru_on = power_at s at 5;
      rru_off = power_at s at 6;
      rrd_on = power_at s at 7;
      rrd_off = power_at s at 8;
    },
  ),
)

-- these fields from bit `at` on are there, in their ranges, and x has them
pub record Found (s : List ℕ) (at : ℕ) (x : Active) : Type 0 where
  pub there : at + active_bits ≤ 8 * reach s
  pub is : active_in x ≡ active_at s at
  pub range : (j : ℕ) → j < 9 → power_at s at j ≤ most_kw

-- ---- three powers of a word

-- the last three of a word
pub record Threefold (word : ℕ) (t : Three) : Type 0 where
  pub first : t.x ≡ word / 2 ^ (2 * kw_bits) % 2 ^ kw_bits
  pub second : t.y ≡ word / 2 ^ kw_bits % 2 ^ kw_bits
  pub third : t.z ≡ word / 2 ^ 0 % 2 ^ kw_bits

-- they are in their range
pub record Low (word : ℕ) : Type 0 where
  pub first : word / 2 ^ (2 * kw_bits) % 2 ^ kw_bits ≤ most_kw
  pub second : word / 2 ^ kw_bits % 2 ^ kw_bits ≤ most_kw
  pub third : word / 2 ^ 0 % 2 ^ kw_bits ≤ most_kw

-- the bits ahead of them are 0
pub record Unborrowed (r : ℕ) : Type 0 where
  pub first : r / 2 ^ three_bits % 2 ≡ 0
  pub second : r / 2 ^ (2 * kw_bits) % 2 ≡ 0
  pub third : r / 2 ^ kw_bits % 2 ≡ 0

-- nine powers in order
abbrev pub nine_in : ℕ → Three → Three → Three → ℕ × (ℕ × M.Reserves)
nine_in on a b c = (on, (a.x, record { rgu = a.y; rgd = a.z; scr = b.x; nsc = b.y; rru_on = b.z; rru_off = c.x; rrd_on = c.y; rrd_off = c.z }))
