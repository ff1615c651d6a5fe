-- A setting that was found by whole words, in its row: the reactive figures are put over neutral ones.
use mathlib.Core.Path.{◌≡◌, ap, ◌∙◌}
use mathlib.Core.List.{List, []}
use Prim.Native.Nat.{ℕ, ◌+◌, ◌≤◌, ◌<◌}
use lib.ListN.{get_or, length, set}
use lib.Seq.{get_or-set_same, set-set}
use Rattle.std.specs.Prelude.{Result, Ok, Err}
use Rattle.layouts.specs.declared.Fault.{Fault}
use Rattle.layouts.specs.declared.Place.{Place}
use Rattle.layouts.specs.Layout.{advanced}
use Rattle.model.specs.Case.{no_reactive}
use Rattle.model.specs.ByEdition.{reactive}
use Rattle.row_places.specs.Figures.{setting_row}
use Rattle.setting_rows.specs.Put.{with_reactive}
use Rattle.fields.specs.Since.{field-absent, field-there}
use Rattle.setting_words.specs.declared.Active.{Active}
use Rattle.setting_words.specs.Settings.{active_bits, Found}
use Rattle.setting_reader.proofs.Steps.{found-good, setting-on}
use Rattle.setting_store.specs.Stored.{setting_by, neutral, ReactiveStored, SettingStored}

-- the place behind the figures that every edition has
abbrev pub behind : Place → Place
behind p = advanced p (p.at + active_bits)

module _ (e k : ℕ) (s : List ℕ) (p : Place) {x : Active} (f : Found s p.at x) (old : List (List ℕ)) {mid : List (List ℕ)} (d : mid ≡ set old k (setting_row (setting_by x neutral))) where
  pub plain-stored : e < 2 → SettingStored e k s p old mid (Ok (behind p))
  plain-stored h = record {
    figures = setting_by x neutral;
    stored = d;
    reads = setting-on e s p x (Ok (behind p)) neutral (found-good s p f) (field-absent 2 e no_reactive reactive s (behind p) h);
  }

  pub both_stored : (new : List (List ℕ)) (r : Result Place Fault) → k < length old → 2 ≤ e → ReactiveStored k s (behind p) mid new r → SettingStored e k s p old new r
  both_stored new (Ok q) h l y =
      let row = setting_row (setting_by x neutral) in
      record {
        figures = setting_by x y.figures;
        stored = y.stored
            ∙ ap (λ (m : List (List ℕ)). set m k (with_reactive (get_or m k []) y.figures)) d
            ∙ set-set old k row _
            ∙ ap (λ (l : List ℕ). set old k (with_reactive l y.figures)) (get_or-set_same old k row [] h);
        reads = setting-on e s p x (Ok q) y.figures (found-good s p f) (field-there 2 e no_reactive reactive s (behind p) l y.reads);
      }
  both_stored new (Err z) h l y =
      let row = setting_row (setting_by x neutral) in
      record {
        figures = setting_by x y.figures;
        stored = y.stored
            ∙ ap (λ (m : List (List ℕ)). set m k (with_reactive (get_or m k []) y.figures)) d
            ∙ set-set old k row _
            ∙ ap (λ (l : List ℕ). set old k (with_reactive l y.figures)) (get_or-set_same old k row [] h);
        reads = setting-on e s p x (Err z) neutral (found-good s p f) (field-there 2 e no_reactive reactive s (behind p) l y.reads);
      }
