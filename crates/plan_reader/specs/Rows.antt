-- A plan's intervals in rows that stand device by device: the setting of device i in interval t is in row i·m + t, the interval's flow in row t.
use Rattle.std.specs.Prelude.{◌≡◌, List, [], ℕ, ◌+◌, ◌*◌, ◌<◌, get_or, ℤ, Result, Ok}
use Rattle.layouts.specs.declared.Fault.{Fault}
use Rattle.layouts.specs.declared.Place.{Place}
use Rattle.model.specs.Case.{Setting}
use Rattle.layouts.specs.Layout.{list}
use Rattle.model.specs.ByEdition.{setting, planned}
use Rattle.kilovars.specs.Reactive.{kvar_offset}
use Rattle.row_places.specs.declared.Setting as Kept
use Rattle.row_places.specs.Figures.{setting_row, flow_at}
use Rattle.numbers.specs.Rows.{rows}
use Rattle.records.specs.Views.{less, setting_in}
use Rattle.fields.specs.Got.{got, told}

abbrev pub row_at : (m : ℕ) → List (List ℕ) → ℕ → ℕ → List ℕ
row_at m settings t i = get_or settings (i * m + t) []

-- the settings of interval t of n devices, and its flow
abbrev pub settings_at : (n m : ℕ) → List (List ℕ) → ℕ → List Setting
settings_at n m settings t = rows (λ i. setting_in (row_at m settings t i)) n

abbrev pub flow_in : List (List ℕ) → ℕ → ℤ
flow_in settings t = less kvar_offset (flow_at settings t)

abbrev pub interval_at : (n m : ℕ) → List (List ℕ) → ℕ → List Setting × ℤ
interval_at n m settings t = (settings_at n m settings t, flow_in settings t)

-- the settings of interval t, read at p into the rows `old`, which are then `new`: their fault, or they stand there, the first device's as it is stored alone;
-- the rows of other intervals are as they were
pub record SettingsDone (e n m t : ℕ) (s : List ℕ) (p : Place) (old new : List (List ℕ)) (r : Result Place Fault) : Type 0 where
  pub reads : told r (settings_at n m new t) ≡ got (list n (setting e)) s p
  pub others : (i u : ℕ) → u < m → (u ≡ t → ⊥) → row_at m new u i ≡ row_at m old u i
  pub first : (q : Place) → r ≡ Ok q → (x : Kept.Setting) × (row_at m new t 0 ≡ setting_row x)

-- interval t: its fault, or its settings and its flow
pub record IntervalDone (e n m t : ℕ) (s : List ℕ) (p : Place) (old new : List (List ℕ)) (r : Result Place Fault) : Type 0 where
  pub reads : told r (interval_at n m new t) ≡ got (planned e n) s p
  pub others : (i u : ℕ) → u < m → (u ≡ t → ⊥) → row_at m new u i ≡ row_at m old u i
