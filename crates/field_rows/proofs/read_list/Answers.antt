use native.Mathlib.Omega.{arith}
use lib.ListN.{length-set}
use borrow.Author.Rules.{rules}
use Rattle.fields.specs.Got.{nat-natural}
use Rattle.field_rows.specs.Going.{listing_none, listing-more, listing-off, listing-done}
use Rattle.fields.proofs.Steps.{told-exits}
use Rattle.field_rows.proofs.Steps.{as-list}
use Rattle.field_rows.proofs.read_list.Goals as goal

pub loop-i-init : goal.loop-i-init
loop-i-init c = (search rules, listing_none (search rules))

pub returns-in_err-v : goal.returns-in_err-v
returns-in_err-v c = told-exits _ _ c.from_residual.ensures (search (as-list, listing-off, nat-natural, c.in_err-v.ensures))

pub loop-i-preserved : goal.loop-i-preserved
loop-i-preserved c = (simp length-set (omega arith), search (listing-more, nat-natural, c.in_ok-v.ensures))

pub returns : goal.returns
returns c = search (as-list, listing-done)
