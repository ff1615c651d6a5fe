-- What is read of a batch: the next frame, as far as the batch goes, into the front of a buffer.
use Rattle.std.specs.Prelude.{◌≡◌, ℕ, ◌-◌, List, take, IfSome}
use Rattle.std.specs.declared.option.Option.{Option}
use Rattle.std.specs.Io.KnownBytes.{Consumes}
use Rattle.frames.specs.Frames.{frame_of}

-- the frame in a buffer, where `left` bytes of the batch were not read before and `rest` are not read behind it
abbrev pub frame_read : ℕ → ℕ → List ℕ → List ℕ
frame_read left rest buffer = take (left - rest) buffer

-- a frame's bytes were read: an input of which it is known what it holds has lost them, and they are its next frame
pub record ReadsFrame (old new : Option (List ℕ)) (left : ℕ) (frame : List ℕ) : Type 0 where
  pub bytes : Consumes old new frame
  pub next : IfSome old (λ s. frame ≡ frame_of (take left s))
