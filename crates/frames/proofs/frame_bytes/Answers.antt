-- By whether the length is there, and whether it is above the limit.
use Rattle.frames.proofs.Lengths.{cut-bytes, head-bytes, all-bytes}
use Rattle.frames.proofs.frame_bytes.Goals as goal

pub returns-then-here-lt-HEAD : goal.returns-then-here-lt-HEAD
returns-then-here-lt-HEAD c = cut-bytes c.args.head.now c.if-here-lt-HEAD.true

pub returns-then-n-gt-LIMIT : goal.returns-then-n-gt-LIMIT
returns-then-n-gt-LIMIT c = let e = c in head-bytes e.args.head.now c.bits_at-n.ensures e.if-here-lt-HEAD.false c.if-n-gt-LIMIT.true

pub returns : goal.returns
returns c = let e = c in all-bytes e.args.head.now c.bits_at-n.ensures e.if-here-lt-HEAD.false c.if-n-gt-LIMIT.false
