-- The first offers go into the array, and come back from it.
use Rattle.std.proofs.Common.{arith}
use Rattle.offers.specs.Copied.{copied}
use Rattle.dispatch_tellings.specs.Hosts.{put_back}
use Rattle.abi.proofs.kadunfo_dispatch.Goals as goal

pub returns : goal.returns
unfolding copied
returns c =
    let a = c.args in
    let t = c.dispatch_told-done in
    rw c.copy_from_slice-2.ensures.after
    (put_back a.case.now a.interval a.sets.now a.powers.now t.new.powers a.offers.now c.no_offers-all.result a.target a.figures.now t.new.figures t.result c.held-n.result c.held-n.ensures
    (omega arith)
    (rw c.copy_from_slice.ensures.after at t.ensures)
    c.offers_of-back.result c.offers_of-back.ensures c.word_of.result c.word_of.ensures)
