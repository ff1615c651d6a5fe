use mathlib.Core.Path.{refl}
use native.Mathlib.Omega.{arith}
use Rattle.pen.specs.Runs.{pushes-as}
use Rattle.field_groups.specs.Groups.{both-pushed}
use Rattle.choice_writer.proofs.Choices.{blocks-below, choice-is}
use Rattle.choice_writer.proofs.put_choice.Goals as goal

pub choice_front-front-requires : goal.choice_front-front-requires
choice_front-front-requires c =
    let s = c in
    let a = s.args in
    let b = blocks-below a.started a.stopped a.state a.blocks s.requires.2 in
    omega arith

pub choice_back-back-requires : goal.choice_back-back-requires
choice_back-back-requires c =
    let s = c in
    let a = s.args in
    let b = blocks-below a.started a.stopped a.state a.blocks s.requires.2 in
    omega arith

pub returns : goal.returns
returns c =
    let put = c in
    let back = put in
    let front = back in
    let s = front in
    let a = s.args in
    pushes-as (choice-is a.started a.stopped a.state a.blocks s.requires.2) refl
    (both-pushed front.choice_front-front.ensures back.choice_back-back.ensures put.put_both.ensures)
