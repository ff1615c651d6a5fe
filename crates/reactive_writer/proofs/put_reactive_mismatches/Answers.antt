-- Nothing where the edition lacks them, else the bars'.
use native.Mathlib.Omega.{arith}
use mathlib.Core.Path.{refl}
use Rattle.model.specs.Messages.{no_bars}
use Rattle.model.specs.ByEdition.{bars_choice}
use Rattle.completion_size.specs.Size.{bars_width}
use Rattle.completion_writer.specs.Bars.{since_none, since-all, since-wide, bars_of}
use Rattle.reactive_writer.proofs.put_reactive_mismatches.Goals as goal

pub returns-then-edition-lt-REACTIVE_EDITION : goal.returns-then-edition-lt-REACTIVE_EDITION
returns-then-edition-lt-REACTIVE_EDITION c =
    let s : _ = c in
    let e : _ = s.args.edition in
    since_none e 2 no_bars (bars_choice e) (bars_of s.args.first.0 s.args.second.0) (bars_width e) c.if-edition-lt-REACTIVE_EDITION.true s.requires.0

pub put_bars-requires : goal.put_bars-requires
put_bars-requires c =
    let other : _ = c in
    let s : _ = other in
    let e : _ = since-wide s.args.edition 2 (bars_width s.args.edition) other.if-edition-lt-REACTIVE_EDITION.false in
    (s.requires.0, omega (arith, s.requires.1, e), s.requires.2, s.requires.3)

pub returns : goal.returns
returns c =
    let put : _ = c in
    let other : _ = put in
    let a : _ = other.args in
    since-all a.edition 2 no_bars (bars_choice a.edition) (bars_of a.first.0 a.second.0) (bars_width a.edition) other.if-edition-lt-REACTIVE_EDITION.false refl put.put_bars.ensures
