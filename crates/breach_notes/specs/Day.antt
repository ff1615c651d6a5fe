-- The day's breaches by the rows' counts, and a cell's by its word.
use Rattle.std.specs.Prelude.{◌≡◌, List, ℕ, ◌+◌, ◌*◌, ◌≤◌}
use Rattle.std.proofs.Math.Path.{refl, ap}
use Rattle.std.proofs.Common.{sym, le_refl}
use native.Mathlib.Omega.{arith}
use Rattle.std.proofs.Math.Nat.{mul-le-mul}
use Rattle.std.proofs.Math.ListN.{length, length-append}
use Rattle.numbers.specs.Base.{range, up_to, gather}
use Rattle.model.specs.Case.{System, Plan}
use Rattle.model.specs.Forced.{intervals}
use Rattle.model.specs.Rules.{cell_numbers}
use Rattle.model.specs.Breaches.{failing, cell_tests, cell_breaches, window_breaches, breaches}
use Rattle.model.specs.declared.Breach.{Breach}
use Rattle.row_places.specs.declared.Front.{Front}
use Rattle.records.specs.Views.{system_in, plan_in, most_devices, CaseRows}
use Rattle.records.specs.Viewed.{devices-are, intervals-are}
use Rattle.cell_bounds.specs.Word.{numbers_in}
use Rattle.failing_rules.specs.Day.{interval_cells, interval_breaches, day_breaches, day_windows, day-is}
use Rattle.listings.proofs.Sizes.{breaches-few}
use Rattle.breach_entries.specs.Noted.{Notes, notes-as, notes-append, most_entries}
use Rattle.breach_notes.specs.Bits.{word_breaches}

-- the breaches of the word of failing tests
pub word-is : (q : System) (p : Plan) (t i word : ℕ) → numbers_in word ≡ failing (cell_tests q p t i) → word_breaches t i word ≡ cell_breaches q p t i
unfolding word_breaches cell_breaches
word-is q p t i word e = rw e refl

module _ (halves : List ℕ) (zones minima devices cells settings : List (List ℕ)) where
  abbrev q : System
  q = system_in halves zones minima devices cells

  abbrev p : Plan
  p = plan_in (length devices) (length halves) settings

  pub interval-cells : (t : ℕ) → interval_cells q p t ≡ gather (cell_breaches q p t) (up_to (length devices))
  unfolding interval_cells
  interval-cells t = rw (devices-are halves zones minima devices cells) refl

  pub cells_are : day_breaches q p ≡ gather (interval_breaches q p) (up_to (length halves))
  unfolding day_breaches
  cells_are = rw (intervals-are halves zones minima devices cells) refl

  pub windows-are : day_windows q p ≡ gather (window_breaches q p) (up_to (length devices))
  unfolding day_windows
  windows-are = rw (devices-are halves zones minima devices cells) refl

-- room for the same list under another name
pub room_as : {xs ys : List Breach} (k : ℕ) {most : ℕ} → xs ≡ ys → k + length xs ≤ most → k + length ys ≤ most
room_as k e h = rw e at h

-- ---- every broken rule

module _ (halves : List ℕ) (zones minima devices cells settings : List (List ℕ)) where
  abbrev sys : System
  sys = system_in halves zones minima devices cells

  abbrev plan : Plan
  plan = plan_in (length devices) (length halves) settings

  pub record NotesAll (before after : List ℕ) (r : ℕ) : Type 0 where
    pub notes : Notes 0 (breaches sys plan) before after r
    pub few : r ≤ most_entries

  module _ {front : Front} (rows : CaseRows front halves zones minima devices cells) where
    -- each rule of each device in an interval, and the link's
    each : length devices * length cell_numbers + 1 ≤ most_devices * length cell_numbers + 1
    each = omega (arith, mul-le-mul rows.few-devices (le_refl (length cell_numbers)))

    all-few : length (day_breaches sys plan) + length (day_windows sys plan) ≤ most_entries
    unfolding range
    all-few = omega (
      arith,
      breaches-few sys plan rows.range.system,
      ap length (day-is sys plan),
      length-append (day_breaches sys plan) (day_windows sys plan),
      mul-le-mul rows.few-intervals each,
      rows.few-devices,
      devices-are halves zones minima devices cells,
      intervals-are halves zones minima devices cells,
      ap (λ (n : ℕ). intervals sys * (n * length cell_numbers + 1)) (devices-are halves zones minima devices cells),
      ap (λ (m : ℕ). m * (length devices * length cell_numbers + 1)) (intervals-are halves zones minima devices cells),
    )

    pub cells-room : 0 + length (day_breaches sys plan) ≤ most_entries
    cells-room = omega (arith, all-few)

    module _ {before between : List ℕ} {n : ℕ} (a : Notes 0 (day_breaches sys plan) before between n) where
      pub windows-room : n + length (day_windows sys plan) ≤ most_entries
      windows-room = omega (arith, all-few, a.count)

      pub all_noted : {after : List ℕ} {r : ℕ} → Notes n (day_windows sys plan) between after r → NotesAll before after r
      all_noted b = record { notes = notes-as (sym (day-is sys plan)) (notes-append a b); few = omega (arith, all-few, a.count, b.count) }
