use Rattle.std.proofs.Common.{arith}
use Rattle.bit_copier.specs.Moves.{keep-none, keep-more}
use Rattle.bit_copier.proofs.keep_run.Goals as goal

pub loop-init : goal.loop-init
loop-init c = keep-none c.requires

pub loop-preserved : goal.loop-preserved
loop-preserved c = keep-more _ _ _ (omega arith) c.loop.invariant c.keep_field-t.ensures

pub returns : goal.returns
returns c = keep-more _ _ _ (omega arith) c.loop.invariant c.keep_field.ensures
