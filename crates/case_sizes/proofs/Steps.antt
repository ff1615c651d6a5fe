-- The definition's steps, from what a field's reading told and the tests on it.
use mathlib.Core.Path.{◌≡◌, refl, sym, ap, ◌∙◌}
use mathlib.Core.List.{List}
use Prim.Native.Nat.{ℕ, ◌≤◌, ◌<◌}
use Rattle.bits.specs.Bits.{read_field}
use Rattle.bits.specs.Pick.{at_most, not-at-most}
use Rattle.bits.specs.declared.Cursor.{Cursor}
use Rattle.bits.specs.declared.Field.{Field}
use Rattle.bits.specs.declared.Field.TheVariants.{Value, Cut}
use Rattle.model.specs.Editions.{newest, batch, interval_bits}
use Rattle.case_sizes.specs.declared.Size.{Size}
use Rattle.case_sizes.specs.declared.Size.TheVariants.{Unstated, Small, ManyDevices, ManyIntervals}
use Rattle.case_sizes.specs.Sizes.{by_intervals, by_devices, by_size, by_edition}

-- a field as it was told, by the definition's width
pub seen : (s : List ℕ) (at : ℕ) {w width : ℕ} {r told : Field} → w ≡ width → r ≡ read_field s at w → r ≡ told → told ≡ read_field s at width
seen s at i f t = sym t ∙ f ∙ ap (read_field s at) i

-- what it holds against the greatest value
module _ {f : Field} {v : ℕ} {d : Cursor} (h : Value v d ≡ f) where
  pub many-intervals : batch.intervals < v → ManyIntervals ≡ by_intervals f
  many-intervals k = not-at-most Small ManyIntervals v batch.intervals k refl ∙ ap by_intervals h

  pub few-intervals : v ≤ batch.intervals → Small ≡ by_intervals f
  few-intervals k = at_most Small ManyIntervals v batch.intervals k refl ∙ ap by_intervals h

module _ (s : List ℕ) {f : Field} {v : ℕ} {d : Cursor} (h : Value v d ≡ f) where
  pub many-devices : (e : ℕ) → batch.devices < v → ManyDevices ≡ by_devices s e f
  many-devices e k = not-at-most (by_intervals (read_field s d.at (interval_bits e))) ManyDevices v batch.devices k refl ∙ ap (by_devices s e) h

  pub few-devices : (e : ℕ) {x : Size} → v ≤ batch.devices → x ≡ by_intervals (read_field s d.at (interval_bits e)) → x ≡ by_devices s e f
  few-devices e k i = at_most (by_intervals (read_field s d.at (interval_bits e))) ManyDevices v batch.devices k i ∙ ap (by_devices s e) h

  pub unknown-edition : newest < v → Unstated ≡ by_edition s f
  unknown-edition k = not-at-most (by_size s v d.at) Unstated v newest k refl ∙ ap (by_edition s) h

  pub known-edition : {x : Size} → v ≤ newest → x ≡ by_size s v d.at → x ≡ by_edition s f
  known-edition k i = at_most (by_size s v d.at) Unstated v newest k i ∙ ap (by_edition s) h
