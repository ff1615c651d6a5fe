-- Nothing where the edition lacks them, else two pushes.
use native.Mathlib.Omega.{arith}
use Rattle.model.specs.Case.{no_reactive_reserves}
use Rattle.model.specs.ByEdition.{reactive_choice}
use Rattle.pen.specs.Pens.{pushes-then}
use Rattle.completion_writer.specs.Bars.{since_none, since-all, since-wide}
use Rattle.reactive_writer.specs.Reactive.{two_of, two_is}
use Rattle.reactive_writer.proofs.put_reactive_shortfalls.Goals as goal

pub returns-then-edition-lt-REACTIVE_EDITION : goal.returns-then-edition-lt-REACTIVE_EDITION
returns-then-edition-lt-REACTIVE_EDITION c =
    let s : _ = c in
    since_none s.args.edition 2 no_reactive_reserves reactive_choice (two_of s.args.qru s.args.qrd) 66 c.if-edition-lt-REACTIVE_EDITION.true s.requires.0

pub push-p-requires : goal.push-p-requires
push-p-requires c =
    let s : _ = c in
    let e : _ = since-wide s.args.edition 2 66 c.if-edition-lt-REACTIVE_EDITION.false in
    (s.requires.0, omega arith, omega arith, s.requires.2, omega (arith, s.requires.1, e))

pub push-requires : goal.push-requires
push-requires c =
    let first : _ = c in
    let other : _ = first in
    let s : _ = other in
    let e : _ = since-wide s.args.edition 2 66 other.if-edition-lt-REACTIVE_EDITION.false in
    (first.push-p.ensures.ready, omega arith, omega arith, s.requires.3, omega (arith, s.requires.1, e, first.push-p.ensures.moved, first.push-p.ensures.long))

pub returns : goal.returns
returns c =
    let second : _ = c in
    let first : _ = second in
    let other : _ = first in
    let a : _ = other.args in
    since-all a.edition 2 no_reactive_reserves reactive_choice (two_of a.qru a.qrd) 66 other.if-edition-lt-REACTIVE_EDITION.false (two_is a.qru a.qrd) (pushes-then first.push-p.ensures second.push.ensures)
