use Rattle.std.proofs.Common.{rules, arith}
use Rattle.runner.proofs.Bytes.{write-more, Appends-kept}
use Rattle.runner.proofs.tell.Goals as goal
use Rattle.runner.proofs.tell.Goals.{in-Ok, in-Err+else-not-again}

pub loop-preserved : goal.loop-preserved
loop-preserved g c =
    let l = c.loop in
    elim c.match-write.branch [
      | in-Ok w ↦ record {
        within = search rules;
        bytes = rw w.done-is (write-more _ _ _ l.done w.in-Ok.n c.args.text.now l.invariant.bytes w.in-Ok.ensures.bytes);
      }
      | in-Err+else-not-again w ↦ record { within = omega arith; bytes = rw w.done-is (Appends-kept _ _ _ _ l.invariant.bytes w.in-Err.ensures.bytes) }
    ]
