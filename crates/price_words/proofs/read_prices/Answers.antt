-- The quick answer where there is one, else the exact.
use native.Mathlib.Omega.{arith}
use Rattle.std.proofs.lemmas.Option.{MatchOption-at_some}
use Rattle.bits.proofs.Laws.{reaches}
use Rattle.price_words.specs.Prices.{Found}
use Rattle.price_words.proofs.Prices.{found-good}
use Rattle.price_words.proofs.read_prices.Goals as goal

pub overflow_add-past : goal.overflow_add-past
overflow_add-past c =
    let q = c in
    let f : Found _ _ _ = MatchOption-at_some _ _ _ c.in-Some.is q.quick_prices.ensures in
    omega (arith, f.there, reaches q.args.s.now)

pub returns-in-Some : goal.returns-in-Some
returns-in-Some c =
    let q = c.before in
    found-good q.args.s.now q.args.p (MatchOption-at_some _ _ _ c.in-Some.is q.quick_prices.ensures)
