use native.Mathlib.Omega.{arith}
use lib.ListN.{length-set}
use borrow.Author.Rules.{rules}
use Rattle.fields.specs.Got.{nat-natural}
use Rattle.field_rows.specs.Going.{listing_none, listing-more, listing-off, listing-done}
use Rattle.fields.proofs.Steps.{told-exits}
use Rattle.field_rows.proofs.Steps.{narrow_at}
use Rattle.field_rows.proofs.read_row.Goals as goal

pub loop-i-init : goal.loop-i-init
loop-i-init c = (search rules, listing_none (search rules))

pub read_figure-requires : goal.read_figure-requires
read_figure-requires c =
    let a : _ = c.before in
    narrow_at a.args.fields.now a.args.n c.loop-i.i a.requires.0 c.loop-i-test.true

pub returns-in_err-v : goal.returns-in_err-v
returns-in_err-v c = told-exits _ _ c.from_residual.ensures (search (listing-off, nat-natural, c.in_err-v.ensures))

pub loop-i-preserved : goal.loop-i-preserved
loop-i-preserved c = (simp length-set (omega arith), search (listing-more, nat-natural, c.in_ok-v.ensures))

pub returns : goal.returns
returns c = search listing-done
