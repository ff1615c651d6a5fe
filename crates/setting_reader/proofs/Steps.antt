-- The parts of a setting's reading: found whole, or field by field.
use mathlib.Core.Path.{◌≡◌, refl, sym, ap, ◌∙◌}
use mathlib.Core.List.{List}
use Prim.Native.Nat.{ℕ, ◌+◌, ◌*◌}
use native.Mathlib.Omega.{arith}
use lib.ListN.{get_or, drop}
use Rattle.bits.proofs.Laws.{field_lt}
use Rattle.layouts.specs.declared.Fault.{Fault}
use Rattle.layouts.specs.declared.Place.{Place}
use Rattle.layouts.specs.Layout.{held, ◌then◌, ◌▸◌, list, repeated, advanced, any}
use Rattle.layouts.specs.Since.{since}
use Rattle.model.specs.Case as M
use Rattle.model.specs.Case.{no_reactive}
use Rattle.model.specs.Messages.{kw_field, eight, active}
use Rattle.model.specs.ByEdition.{reactive, setting}
use Rattle.ranges.specs.Kept.{reserves_of}
use Rattle.row_places.specs.declared.Reactive.{Reactive}
use Rattle.records.specs.Views.{eight_in, reactive_in}
use Rattle.std.specs.Prelude.{Result}
use Rattle.fields.specs.Got.{good, bad, got, told, Natural, nat-natural, then-natural, held-natural, goes_on, mapped}
use Rattle.field_rows.proofs.Steps.{eight-natural}
use Rattle.reactive_reader.proofs.Steps.{reactive-natural}
use Rattle.word_fields.proofs.Words.{figure-good, fields_from, fields-good}
use Rattle.setting_words.specs.declared.Active.{Active}
use Rattle.setting_words.specs.Settings.{active_in, setting_from, active_bits, active_at, kw_bits, most_kw, Found}

pub active-natural : Natural active
unfolding active
active-natural = then-natural (nat-natural _) (λ _. then-natural (nat-natural _) (λ _. eight-natural (nat-natural _)))

-- ---- found whole

-- one bit and nine powers
active-lists : {X : Type 0} (s : List ℕ) (p : Place) (b : Fault → X) (n : ℕ × (ℕ × M.Reserves) → Place → X)
    → active.read s p b n ≡ (any 1).read s p b (λ u q. (list 9 kw_field).read s q b (λ v z. n (u, (get_or v 0 0, reserves_of (drop 1 v))) z))
unfolding active eight held ◌then◌ list repeated
active-lists s p b n = refl

pub found-good : (s : List ℕ) (p : Place) {x : Active} → Found s p.at x → good (active_in x) (advanced p (p.at + active_bits)) ≡ got active s p
unfolding list fields_from
found-good s p {x} f =
    let q = advanced p (p.at + 1) in
    let end : p.at + 1 + 9 * kw_bits ≡ p.at + active_bits = omega arith in
    sym (active-lists s p bad good
    ∙ goes_on (nat-natural _) s p bad _ (figure-good 1 1 s p (omega (arith, field_lt s p.at 1)) (omega (arith, f.there)))
    ∙ fields-good kw_bits most_kw 9 0 s (p.at + 1) q bad _ f.range (omega arith) (omega (arith, f.there))
    ∙ ap (λ (k : ℕ). good (active_at s p.at) (advanced p k)) end
    ∙ ap (λ (y : ℕ × (ℕ × M.Reserves)). good y (advanced p (p.at + active_bits))) (sym f.is))

-- ---- a setting

parts-natural : (e : ℕ) → Natural (active ▸ since e 2 no_reactive reactive)
parts-natural e = then-natural active-natural (λ _. reactive-natural e)

pub setting-natural : (e : ℕ) → Natural (setting e)
unfolding setting
setting-natural e = held-natural _ _ (parts-natural e)

-- the figures that every edition has, then the reactive ones, held as a setting
pub setting-on : (e : ℕ) (s : List ℕ) (p : Place) {q : Place} (x : Active) (w : Result Place Fault) (y : Reactive) → good (active_in x) q ≡ got active s p
    → told w (reactive_in y) ≡ got (since e 2 no_reactive reactive) s q → told w (setting_from x y) ≡ got (setting e) s p
unfolding setting held ◌then◌
setting-on e s p {q} x w y h g = mapped (reactive-natural e) (λ z. record { on = x.on; online = x.online.0; reserves = eight_in x.reserves; reactive = z }) s q w (reactive_in y)
    (goes_on active-natural s p bad _ (sym h)) g
