use Rattle.bit_copier.specs.Moves.{set-start, renews-not, renews-all}
use Rattle.bit_copier.proofs.renew.Goals as goal

pub returns-then-buf-needed : goal.returns-then-buf-needed
returns-then-buf-needed g c =
    let set = set-start c.args.from {s = g.whole.1} c.requires.1.0 in
    renews-not g.whole.0 c.args.from (c.requires.1.1.1 _ _ _ _ set c.step-counted.ensures) c.bytes_in-needed.ensures c.if-buf-needed.true

pub returns : goal.returns
returns g c =
    let set = set-start c.args.from {s = g.whole.1} c.requires.1.0 in
    renews-all g.whole.0 c.args.from (c.requires.1.1.1 _ _ _ _ set c.step-counted.ensures) c.bytes_in-needed.ensures c.if-buf-needed.false
    (c.requires.1.1.1 _ _ _ _ set c.step-copied.ensures) c.close.ensures
