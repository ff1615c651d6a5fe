use mathlib.Core.Path.{refl}
use mathlib.Core.List.{append_assoc}
use Rattle.field_groups.specs.Groups.{holds_more, holds_as}
use Rattle.choice_writer.proofs.choice_front.Goals as goal

pub returns : goal.returns
returns c =
    let powers = c in
    let flags = powers in
    let start = flags in
    let five = holds_more (holds_more start.field.ensures flags.and-flags.ensures) powers.and-with_state.ensures in
    holds_as (simp append_assoc) refl (holds_more (holds_more five powers.and.ensures) c.and-2.ensures)
