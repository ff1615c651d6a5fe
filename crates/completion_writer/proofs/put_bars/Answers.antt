-- Bar 0's, and bar 1's where the edition has one.
use native.Mathlib.Omega.{arith}
use Rattle.completion_size.specs.Size.{mismatch_width}
use Rattle.completion_writer.specs.Bars.{since-wide, bars-one, bars-two}
use Rattle.completion_writer.proofs.put_bars.Goals as goal

pub returns-then-edition-lt-BARS_EDITION : goal.returns-then-edition-lt-BARS_EDITION
returns-then-edition-lt-BARS_EDITION c =
    let first : _ = c in
    let a : _ = first.args in
    bars-one a.edition a.first a.second first.push-p.ensures c.if-edition-lt-BARS_EDITION.true

pub push-requires : goal.push-requires
push-requires c =
    let other : _ = c in
    let first : _ = other in
    let s : _ = first in
    let e : _ = since-wide s.args.edition 5 mismatch_width other.if-edition-lt-BARS_EDITION.false in
    (first.push-p.ensures.ready, omega arith, omega arith, s.requires.3, omega (arith, s.requires.1, e, first.push-p.ensures.moved, first.push-p.ensures.long))

pub returns : goal.returns
returns c =
    let second : _ = c in
    let other : _ = second in
    let first : _ = other in
    let a : _ = first.args in
    bars-two a.edition a.first a.second first.push-p.ensures other.if-edition-lt-BARS_EDITION.false second.push.ensures
