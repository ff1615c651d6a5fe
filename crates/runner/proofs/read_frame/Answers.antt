-- The frame's head, and what stands behind it.
use Rattle.std.proofs.Common.{rules}
use Rattle.runner.proofs.Frames.{head-frame, whole-frame}
use Rattle.runner.proofs.read_frame.Goals as goal

pub returns-then-end-here-clause-frame : goal.returns-then-end-here-clause-frame
returns-then-end-here-clause-frame g c =
    let h = c.in_ok-here.ensures in
    head-frame c.args.left c.in_ok-here.here c.min-end.result c.frame_bytes.result c.read_full.new.buf _ (search rules) h.within c.frame_bytes.ensures.0 c.min-end.ensures
    _ _ h.bytes h.all c.if-end-here.true

pub returns-clause-frame : goal.returns-clause-frame
returns-clause-frame g c =
    let h = c.in_ok-here.ensures in
    let m = c.in_ok-more.ensures in
    whole-frame c.args.left c.in_ok-here.here c.min-end.result c.frame_bytes.result c.read_full.new.buf _ (search rules) h.within c.frame_bytes.ensures.0 c.min-end.ensures
    c.in_ok-more.more c.read_full-2.new.buf (search rules) m.within c.if-end-here.false _ _ _ h.bytes h.all m.bytes m.all
