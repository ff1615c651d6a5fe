use Rattle.fields.proofs.Steps.{seen-exits}
use Rattle.price_words.proofs.exact_prices.Goals as goal

pub returns-in_err-values : goal.returns-in_err-values
returns-in_err-values c = seen-exits _ _ c.from_residual.ensures c.in_err-values.ensures

pub returns : goal.returns
returns c = rw c.prices_of.ensures c.in_ok-values.ensures
