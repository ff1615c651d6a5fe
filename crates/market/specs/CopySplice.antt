-- The market's copy from the completion's own bytes: a splice that leaves out startup states, block powers and surplus, and writes another kind.
use Rattle.std.specs.Prelude.{ℕ}
use Rattle.bits.specs.Pick.{pick}
use Rattle.layouts.specs.Since.{has}
use Rattle.model.specs.Editions.{device_bits, interval_bits}
use Rattle.model.specs.Messages.{Counts}
use Rattle.writing.specs.Splice.{Splice, none, keep, skip, add, ◌⨾◌, times}
use Rattle.market.specs.Copy.{market_kind}

-- ---- the splices
unfoldable pub change_splice : Splice
change_splice = keep 1 ⨾ keep 1 ⨾ skip 3 ⨾ times 4 (skip 17)

unfoldable pub short_splice : ℕ → Splice
short_splice e = keep 198 ⨾ pick (has 2 e) (keep 66) none

unfoldable pub bars_splice : ℕ → Splice
bars_splice e = keep 23 ⨾ pick (has 5 e) (keep 23) none

unfoldable pub interval_splice : ℕ → ℕ → ℕ → Splice
interval_splice e devices zones = times devices change_splice ⨾ times zones (short_splice e) ⨾ bars_splice e ⨾ pick (has 2 e) (bars_splice e) none

-- "the header", with the other kind
unfoldable pub front_splice : ℕ → Splice
front_splice e = (skip 4 ⨾ add 4 market_kind) ⨾ keep 4 ⨾ keep (device_bits e) ⨾ keep (interval_bits e) ⨾ keep 3

unfoldable pub copy_splice : ℕ → Counts → ℕ → Splice
copy_splice e n windows =
    front_splice e ⨾ times n.intervals (interval_splice e n.devices n.zones) ⨾ times windows (keep 32) ⨾ skip 64
