-- What the batch program reads at a time: a frame is a message behind its length, as far as the batch goes.
use Rattle.std.specs.Prelude.{ℕ, ◌+◌, List, ltb, length, take}
use Rattle.bits.specs.Pick.{pick}
use Rattle.bits.specs.Bits.{field_at}
use Rattle.layouts.specs.Framing.{framed_at}
use Rattle.layouts.specs.declared.Framed.{Framed}

-- "a length above 65,536" is refused
abbrev pub limit : ℕ
limit = 65536

-- "messages each behind a 24-bit byte length"
abbrev pub head_bytes : ℕ
head_bytes = 3

abbrev pub frame_room : ℕ
frame_room = 65539

-- How long a frame is whose first bytes are these: as many as its length says, if they are there. Of a length that is cut short or above the limit nothing
-- more is read.
unfoldable pub frame_bytes : List ℕ → ℕ
frame_bytes head = pick (ltb (length head) head_bytes) (length head) (pick (ltb limit (field_at head 0 24)) head_bytes (head_bytes + field_at head 0 24))

-- the frame that comes next, where these bytes of a batch are left
abbrev pub frame_of : List ℕ → List ℕ
frame_of rest = take (frame_bytes (take head_bytes rest)) rest

-- what the splitter finds in a frame
abbrev pub framed : List ℕ → Framed
framed frame = framed_at limit frame 0
