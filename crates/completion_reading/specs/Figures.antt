-- "the figures come back": those of a completion and of a copy as a list of numbers, in the message's own order, and the table that they are lent.
use Rattle.std.specs.Prelude.{◌≡◌, Bool, true, false, List, [], ◌∷◌, ◌++◌, ℕ, ◌+◌, ◌*◌, ◌≤◌, leb, length, drop}
use Rattle.numbers.specs.Base.{gather}
use Rattle.bits.specs.Pick.{pick}
use Rattle.bits.specs.Twos.{to_twos}
use Rattle.layouts.specs.Layout.{Whole, passes, fails}
use Rattle.layouts.specs.Since.{has}
use Rattle.model.specs.Case.{Six, Kinds, System}
use Rattle.model.specs.Editions.{Largest, most_devices, most_intervals, most_zones, most_windows}
use Rattle.model.specs.Messages.{Bars, DeviceChoice, IntervalChoice, Written}
use Rattle.model.specs.ByEdition.{Stated, stated_in}
use Rattle.completion_reading.specs.declared.Reading.{Reading}
use Rattle.completion_reading.specs.declared.Reading.TheVariants.{Figures, RefusedCase, RefusedMessage, Short}
use Rattle.market.specs.Copy.{Change, IntervalCopy, Copy}
use Rattle.completion_reading.specs.Readers.{desk_in, market_in}

-- what an edition, or a completion and no copy, has
abbrev pub only : Bool → List ℕ → List ℕ
only true xs = xs
only false xs = []

-- ---- in message order

-- "per device started 1, stopped 1, state 3, four block powers 17"; a copy has the first two
abbrev pub device_figures : DeviceChoice → List ℕ
device_figures r = r.started ∷ r.stopped ∷ r.state ∷ r.blocks

abbrev pub change_figures : Change → List ℕ
change_figures r = r.started ∷ r.stopped ∷ []

-- "per zone six shortfalls 33, [2] qru, qrd shortfalls 33 each"
abbrev pub six_figures : Six → List ℕ
six_figures r = r.rgu ∷ r.rgd ∷ r.scr ∷ r.nsc ∷ r.rru ∷ r.rrd ∷ []

abbrev pub zone_figures : ℕ → Kinds → List ℕ
zone_figures e r = six_figures r.six ++ only (has 2 e) (r.reactive.qru ∷ r.reactive.qrd ∷ [])

-- "mismatch 23, [5] one for bar 0, one for bar 1"
abbrev pub bars_figures : ℕ → Bars → List ℕ
bars_figures e r = r.first ∷ only (has 5 e) (r.second ∷ [])

-- "[2] reactive mismatch"
abbrev pub slack_figures : ℕ → List Kinds → Bars → Bars → List ℕ
slack_figures e zones real reactive = gather (zone_figures e) zones ++ (bars_figures e real ++ only (has 2 e) (bars_figures e reactive))

abbrev pub interval_figures : ℕ → IntervalChoice → List ℕ
interval_figures e r = gather device_figures r.devices ++ slack_figures e r.zones r.mismatch r.reactive_mismatch

abbrev pub interval_copy_figures : ℕ → IntervalCopy → List ℕ
interval_copy_figures e r = gather change_figures r.devices ++ slack_figures e r.zones r.mismatch r.reactive_mismatch

-- "Then overruns 32; surplus 64", the surplus in two's complement
unfoldable pub completion_figures : ℕ → Written → List ℕ
completion_figures e r = gather (interval_figures e) r.intervals ++ (r.overruns ++ to_twos 64 r.surplus ∷ [])

unfoldable pub copy_figures : ℕ → Copy → List ℕ
copy_figures e r = gather (interval_copy_figures e) r.intervals ++ r.overruns

-- ---- what is answered

abbrev pub as_figures : {A : Type 0} → (A → List ℕ) → Whole A → Whole (List ℕ)
as_figures f (passes a) = passes (f a)
as_figures f (fails x) = fails x

-- by the desk's reader, or the market's
abbrev pub figures_in : Bool → ℕ → System → List ℕ → Whole (List ℕ)
figures_in true e q s = as_figures (completion_figures e) (desk_in e q s)
figures_in false e q s = as_figures (copy_figures e) (market_in e q s)

-- the answer, and the lent table afterwards
pub record Readings : Type 0 where
  pub answer : Reading
  pub table : List ℕ

-- "7": a table too short is left as it was; "bytes past what is written stay", and so do numbers
abbrev pub tabled : Whole (List ℕ) → List ℕ → Readings
tabled (passes vs) table = pick (leb (length vs) (length table))
    (record { answer = Figures (length vs); table = vs ++ drop (length vs) table })
    (record { answer = Short (length vs); table = table })
tabled (fails f) table = record { answer = RefusedMessage f; table = table }

-- "the case's own refusals first"
abbrev pub lent_case : Bool → List ℕ → List ℕ → Whole Stated → Readings
lent_case desk s table (passes x) = tabled (figures_in desk x.edition x.case.system s) table
lent_case desk s table (fails f) = record { answer = RefusedCase f; table = table }

unfoldable pub readings : Largest → Bool → List ℕ → List ℕ → List ℕ → Readings
readings l desk cs s table = lent_case desk s table (stated_in l cs)

-- no message has more figures: 7 of each device, 8 of each zone and 4 mismatches in each interval, the overruns and the surplus
abbrev pub most_numbers : ℕ
most_numbers = most_intervals * (most_devices * 7 + (most_zones * 8 + 4)) + (most_devices * most_windows + 1)

-- an answer that asks for no more numbers than that
abbrev pub Few : Reading → Type 0
Few r = (n : ℕ) → r ≡ Short n → n ≤ most_numbers
