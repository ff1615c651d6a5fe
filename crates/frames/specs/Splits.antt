-- What the splitter finds in a frame is what it finds at the frame's place in the whole batch.
use Rattle.std.specs.Prelude.{◌≡◌, List, ℕ, ◌+◌}
use Rattle.std.proofs.Math.ListN.{length}
use Rattle.layouts.specs.Framing.{framed_at, part}
use Rattle.layouts.specs.Faults.{number_of}
use Rattle.layouts.specs.declared.Fault.{Fault}
use Rattle.layouts.specs.declared.Framed.TheVariants.{End, Message, Refused}
use Rattle.frames.specs.Frames.{limit, framed}

-- ---- the splitter's answers, in the batch and in the frame
pub data Both (s : List ℕ) (at : ℕ) (frame : List ℕ) : Type 0 where
  ends : framed_at limit s at ≡ End → framed frame ≡ End → Both s at frame
  holds : {from until from' until' : ℕ} → framed_at limit s at ≡ Message from until → framed frame ≡ Message from' until'
      → part s from until ≡ part frame from' until' → until ≡ at + length frame → Both s at frame
  refuses : {f g : Fault} → framed_at limit s at ≡ Refused f → framed frame ≡ Refused g → number_of f ≡ number_of g → Both s at frame
