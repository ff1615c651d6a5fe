-- A plan's message written anew by a splice, from any edition into the newest.
use Rattle.std.specs.Prelude.{ℕ, ◌+◌}
use Rattle.model.specs.Editions.{newest, device_bits, interval_bits}
use Rattle.model.specs.ByEdition as B
use Rattle.writing.specs.Splice.{Splice, keep, add, ◌⨾◌, times}
use Rattle.writing.specs.CaseSplices.{since_splice}

-- ---- the splices
unfoldable pub setting_splice : ℕ → Splice
setting_splice e = keep 154 ⨾ since_splice e 2 (keep 52) (add 52 0)

unfoldable pub rows_splice : ℕ → ℕ → ℕ → Splice
rows_splice e devices intervals = times intervals (times devices (setting_splice e) ⨾ since_splice e 5 (keep 18) (add 18 0))

-- kind, edition and counts are written new; the rows begin behind the old ones
unfoldable pub plan_splice : ℕ → ℕ → ℕ → Splice
plan_splice e devices intervals = add 4 B.plan_kind ⨾ add 4 newest ⨾ add (device_bits newest) devices ⨾ add (interval_bits newest) intervals ⨾ rows_splice e devices intervals

abbrev pub front_of : ℕ → ℕ
front_of e = 0 + 4 + 4 + device_bits e + interval_bits e
