-- A setting in its row as it was read, or what it was refused with.
use Rattle.std.specs.Prelude.{◌≡◌, List, [], ℕ, get_or, set, Result, Ok, Err}
use Rattle.layouts.specs.declared.Fault.{Fault}
use Rattle.layouts.specs.declared.Place.{Place}
use Rattle.layouts.specs.Layout.{Layout}
use Rattle.model.specs.ByEdition.{reactive, setting}
use Rattle.kilovars.specs.Reactive.{kvar_offset, kvar, signed_kvar}
use Rattle.row_places.specs.declared.Reactive.{Reactive}
use Rattle.row_places.specs.declared.Setting.{Setting}
use Rattle.row_places.specs.Figures.{setting_row}
use Rattle.records.specs.Views.{reactive_in}
use Rattle.setting_rows.specs.Put.{with_reactive}
use Rattle.fields.specs.Got.{good, bad, got}
use Rattle.setting_words.specs.declared.Active.{Active}
use Rattle.setting_words.specs.Settings.{setting_held}

-- the figures that every edition has with the reactive ones; those of an edition that lacks them
abbrev pub setting_by : Active → Reactive → Setting
setting_by x y = record { on = x.on; online = x.online; reserves = x.reserves; reactive = y }

abbrev pub neutral : Reactive
neutral = record { q = signed_kvar kvar_offset; qru = kvar 0; qrd = kvar 0 }

-- what l gives at p, put into row k of `old`, which is then `new`: `row` of the figures whose `view` it is, and q is the place past them
pub record Put {A B : Type 0} (l : Layout A) (view : B → A) (row : B → List ℕ) (k : ℕ) (s : List ℕ) (p : Place) (old new : List (List ℕ)) (q : Place) : Type 0 where
  pub figures : B
  pub stored : new ≡ set old k (row figures)
  pub reads : good (view figures) q ≡ got l s p

-- what l is refused with at p: row k holds some figures
pub record Refused {A B : Type 0} (l : Layout A) (row : B → List ℕ) (k : ℕ) (s : List ℕ) (p : Place) (old new : List (List ℕ)) (f : Fault) : Type 0 where
  pub figures : B
  pub stored : new ≡ set old k (row figures)
  pub reads : bad f ≡ got l s p

-- either, by the answer
abbrev pub Stored : {A B : Type 0} → Layout A → (B → A) → (B → List ℕ) → ℕ → List ℕ → Place → List (List ℕ) → List (List ℕ) → Result Place Fault → Type 0
Stored l view row k s p old new (Ok q) = Put l view row k s p old new q
Stored l view row k s p old new (Err f) = Refused l row k s p old new f

-- the reactive figures at p, in row k, which has the others
abbrev pub ReactiveStored : ℕ → List ℕ → Place → List (List ℕ) → List (List ℕ) → Result Place Fault → Type 0
ReactiveStored k s p old new r = Stored reactive reactive_in (with_reactive (get_or old k [])) k s p old new r

-- a setting of edition e at p, in row k
abbrev pub SettingStored : ℕ → ℕ → List ℕ → Place → List (List ℕ) → List (List ℕ) → Result Place Fault → Type 0
SettingStored e k s p old new r = Stored (setting e) setting_held setting_row k s p old new r
