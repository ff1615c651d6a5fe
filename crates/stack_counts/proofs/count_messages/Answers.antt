use Prim.Native.Nat.{◌-◌}
use native.Mathlib.Omega.{arith}
use Rattle.bits.proofs.Laws.{reaches}
use Rattle.layouts.proofs.Frames.{lies}
use Rattle.stack_counts.specs.Counts.{counting-none, counting-end, counting-refused, counting_more}
use Rattle.stack_counts.proofs.count_messages.Goals as goal

pub loop-f-init : goal.loop-f-init
loop-f-init c = counting-none _

pub returns-in-End : goal.returns-in-End
returns-in-End c = counting-end c.loop-f.invariant c.frame_at.ensures.is c.in-End.is

pub returns-in-Refused : goal.returns-in-Refused
returns-in-Refused c = counting-refused c.loop-f.invariant c.frame_at.ensures.is c.in-Refused.is

pub overflow_add-count : goal.overflow_add-count
overflow_add-count c = omega (arith, c.loop-f.invariant.apart, c.loop-f.invariant.inside, reaches c.args.batch.now)

pub loop-f-smaller : goal.loop-f-smaller
loop-f-smaller c = let l = lies _ _ _ c.frame_at.ensures.is c.in-Message.is in omega arith

pub loop-f-preserved : goal.loop-f-preserved
loop-f-preserved c = counting_more c.loop-f.invariant c.frame_at.ensures.is c.in-Message.is
