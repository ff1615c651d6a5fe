use Rattle.std.proofs.Common.{rules}
use Rattle.runner.proofs.Bytes.{read-more, read-none}
use Rattle.runner.proofs.read_full.Goals as goal
use Rattle.runner.proofs.read_full.Goals.{in-Ok, in-Err+else-not-again}

pub loop-preserved : goal.loop-preserved
loop-preserved g c =
    let l = c.loop in
    elim c.match-read.branch [
      | in-Ok w ↦ record {
        within = search rules;
        bytes = rw w.done-is (read-more l.done l.buf c.read.new.buf l.invariant.within _ _ _ _ w.in-Ok.n w.in-Ok.ensures.bound.0 l.invariant.bytes w.in-Ok.ensures.bytes.0);
      }
      | in-Err+else-not-again w ↦ record {
        within = search rules;
        bytes = rw w.done-is (read-none l.done l.buf c.read.new.buf l.invariant.within _ _ _ _ l.invariant.bytes w.in-Err.ensures.bytes);
      }
    ]
