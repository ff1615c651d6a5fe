-- What stands ahead of the intervals, by the kind of the message and what its case gives.
use Rattle.std.specs.Prelude.{Bool, true, false, ℕ}
use Rattle.layouts.specs.Layout.{Layout, nat, held, ◌▸◌, count_of, fixed}
use Rattle.model.specs.Editions.{device_bits, interval_bits}
use Rattle.model.specs.ByEdition.{completion_kind}
use Rattle.market.specs.Copy.{market_kind}
use Rattle.completion_body.specs.declared.Form.{Form}

abbrev pub kind_by : Bool → ℕ
kind_by true = completion_kind
kind_by false = market_kind

-- the case's counts, and what stands ahead of the intervals, of which the last is kept
unfoldable pub counts : Form → Layout ℕ
counts f = held
    (λ v. v.1.1)
    (λ n. (f.devices, (f.intervals, n)))
    (nat (count_of (device_bits f.edition) f.devices f.devices) ▸ nat (count_of (interval_bits f.edition) f.intervals f.intervals) ▸ nat (count_of 3 f.zones f.zones))

unfoldable pub header : ℕ → Form → Layout ℕ
header kind f = held (λ v. v.1.1) (λ n. (kind, (f.edition, n))) (fixed kind ▸ fixed f.edition ▸ counts f)
