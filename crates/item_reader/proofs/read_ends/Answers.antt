-- The start, then the end with its test.
use mathlib.Core.Path.{◌≡◌, ◌∙◌}
use mathlib.Core.Bool.{◌&&◌}
use borrow.Author.Tests.{le-leb, lt-leb}
use lib.Dec.{leb}
use Rattle.layouts.specs.Layout.{◌then◌, such}
use Rattle.model.specs.Messages.{window_ends}
use Rattle.fields.specs.Got.{nat-natural}
use Rattle.fields.proofs.Steps.{on, off, exits}
use Rattle.item_reader.proofs.read_ends.Goals.{then-from-until, else-from-until}
use Rattle.item_reader.proofs.read_ends.Goals as goal

pub returns-in_err-from : goal.returns-in_err-from
unfolding window_ends ◌then◌ such
returns-in_err-from c = exits _ c.from_residual.ensures (search (off, nat-natural, c.in_err-from.ensures))

pub returns-in_err-until : goal.returns-in_err-until
unfolding window_ends ◌then◌ such
returns-in_err-until c = exits _ c.from_residual-in_err-until.ensures (search (on, off, nat-natural, c.in_ok-from.ensures, c.in_err-until.ensures))

pub returns : goal.returns
unfolding window_ends ◌then◌ such
returns c =
    let from = c.in_ok-from.from in
    let until = c.in_ok-until.until in
    let t : c.if-from-until.noted ≡ leb from until && leb until c.args.last = elim c.if-from-until.branch [
      | then-from-until w ↦ rw (le-leb from until w.if-from-until.true) w.noted-is
      | else-from-until w ↦ let n = lt-leb from until w.if-from-until.false in rw n (w.noted-is ∙ n)
    ] in
    let k = rw t at c.noted-checked.ensures in
    search (on, nat-natural, k, c.in_ok-from.ensures, c.in_ok-until.ensures)
