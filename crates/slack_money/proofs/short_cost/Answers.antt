-- Below 2^36 W at a price below 2^14 over fewer than 2^14 minutes.
use Rattle.slack_money.specs.Charges.{short-small}
use Rattle.slack_money.proofs.short_cost.Goals as goal

pub returns : goal.returns
returns c = let a : _ = c.args in (c.priced.ensures, short-small a.minutes a.price a.x.0 c.requires.2 c.requires.1 c.requires.0 c.priced.ensures)
