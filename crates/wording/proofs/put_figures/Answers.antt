-- Nothing is written ahead of the first number; each iteration writes one more.
use Rattle.std.proofs.Common.{arith, rules}
use Rattle.wording.proofs.Spelling.{one_more, none_of}
use Rattle.wording.proofs.Writes.{nothing, puts-as}
use Rattle.wording.proofs.put_figures.Goals as goal

pub loop-figure-init : goal.loop-figure-init
loop-figure-init c = record {
  same_length = search rules;
  written = puts-as none_of (omega arith) (nothing c.args.out.now c.args.at);
}

pub loop-figure-preserved : goal.loop-figure-preserved
loop-figure-preserved c = record {
  same_length = search rules;
  written = one_more c.args.figures.now c.loop-figure.figure-index c.loop-figure.invariant.written c.put_figure-next.ensures (omega arith) (omega arith);
}
