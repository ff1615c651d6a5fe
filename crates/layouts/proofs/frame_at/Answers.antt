use native.Mathlib.Omega.{arith}
use Rattle.bits.proofs.Laws.{reaches}
use Rattle.layouts.proofs.Frames.{splits, no_byte, cut-in-length, above-limit, cut-in-message, message}
use Rattle.layouts.proofs.frame_at.Goals as goal

pub returns-then-len-start : goal.returns-then-len-start
returns-then-len-start c = splits (no_byte _ _ _ (omega arith))

pub overflow_mul-bit : goal.overflow_mul-bit
overflow_mul-bit c = let R = reaches c.args.s.now in omega arith

pub returns-then-len-start-lt3 : goal.returns-then-len-start-lt3
returns-then-len-start-lt3 c = splits (cut-in-length _ _ _ (omega arith) (omega arith))

pub bits_at-n-requires : goal.bits_at-n-requires
bits_at-n-requires c = let R = reaches c.args.s.now in omega arith

pub returns-then-limit-n : goal.returns-then-limit-n
returns-then-limit-n c = splits (above-limit _ _ _ c.bits_at-n.ensures (omega arith) (omega arith))

pub returns-then-rest-n : goal.returns-then-rest-n
returns-then-rest-n c = splits (cut-in-message _ _ _ c.bits_at-n.ensures (omega arith) (omega arith) (omega arith))

pub returns-else-rest-n : goal.returns-else-rest-n
returns-else-rest-n c = splits (message _ _ _ c.bits_at-n.ensures (omega arith) (omega arith) (omega arith))
