-- "Batch: messages each behind a 24-bit byte length. The splitter hands back the message as that part of the caller's own bytes."
use Rattle.std.specs.Prelude.{ℕ, ◌+◌, ◌-◌, ◌*◌, List, [], leb, ltb, take, drop}
use Rattle.bits.specs.Pick.{pick}
use Rattle.bits.specs.Bits.{field_at, reach}
use Rattle.layouts.specs.declared.Fault.TheVariants.{Cut, OutOfRange}
use Rattle.layouts.specs.declared.Framed.{Framed}
use Rattle.layouts.specs.declared.Framed.TheVariants.{End, Message, Refused}

-- "It answers end where no byte is left. Else it refuses, at the length's first bit: 1 for a length cut short, 4 for a length above 65,536 [the limit],
-- 1 for a message cut short, tested in that sequence." Bytes count from the batch's first.
unfoldable pub framed_at : ℕ → List ℕ → ℕ → Framed
framed_at limit s at =
    let n = field_at s (8 * at) 24 in
    pick (leb (reach s) at) End
    (pick (ltb (reach s) (at + 3)) (Refused (Cut (8 * at)))
    (pick (ltb limit n) (Refused (OutOfRange (8 * at)))
    (pick (ltb (reach s) (at + 3 + n)) (Refused (Cut (8 * at)))
    (Message (at + 3) (at + 3 + n)))))

-- the bytes from one place to another
abbrev pub part : List ℕ → ℕ → ℕ → List ℕ
part s from until = take (until - from) (drop from s)

-- the message's bytes, none where none stands
abbrev pub bytes_of : List ℕ → Framed → List ℕ
bytes_of s End = []
bytes_of s (Message from until) = part s from until
bytes_of s (Refused f) = []

unfoldable pub message_at : ℕ → List ℕ → ℕ → List ℕ
message_at limit s at = bytes_of s (framed_at limit s at)
