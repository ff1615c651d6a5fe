-- What whole words say where they answer, else what the fields say; either is put.
use mathlib.Core.Path.{ap, ◌∙◌}
use native.Mathlib.Omega.{arith}
use lib.ListN.{set}
use Rattle.bits.proofs.Laws.{reaches}
use Rattle.row_places.specs.declared.Setting.{Setting}
use Rattle.row_places.specs.Figures.{setting_row}
use Rattle.setting_store.proofs.Steps.{plain-stored, both_stored}
use Rattle.setting_store.proofs.store_setting.Goals as goal

pub overflow_add-next : goal.overflow_add-next
overflow_add-next c = omega (arith, c.in-Some.ensures.there, reaches c.args.s.now)

pub returns-then-edition-lt-SINCE : goal.returns-then-edition-lt-SINCE
returns-then-edition-lt-SINCE c =
    let a = c.args in
    let d = c.put_setting.ensures ∙ ap (λ (x : Setting). set a.settings.now a.k (setting_row x)) c.plain.ensures in
    plain-stored a.edition a.k a.s.now a.p c.in-Some.ensures _ d c.if-edition-lt-SINCE.true

pub returns-in-Some : goal.returns-in-Some
returns-in-Some c =
    let a = c.args in
    let d = c.put_setting.ensures ∙ ap (λ (x : Setting). set a.settings.now a.k (setting_row x)) c.plain.ensures in
    both_stored a.edition a.k a.s.now a.p c.in-Some.ensures _ d _ _ c.requires c.if-edition-lt-SINCE.false c.store_reactive.ensures
