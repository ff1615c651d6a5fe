-- What the splitter's answers tell, by the paper's numbers.
use Rattle.std.specs.Prelude.{◌≡◌, List, ℕ, ◌+◌, ◌-◌, ◌*◌, ◌≤◌, ◌<◌, length}
use Rattle.bits.specs.Bits.{field_at, reach}
use Rattle.layouts.specs.declared.Fault.{Fault}
use Rattle.layouts.specs.declared.Framed.{Framed}
use Rattle.layouts.specs.declared.Framed.TheVariants.{End, Message, Refused}
use Rattle.layouts.specs.Faults.{number_of, returned_by}
use Rattle.layouts.specs.Framing.{framed_at}

-- a message lies behind its length, within the slice and the limit
pub record Lies (limit : ℕ) (s : List ℕ) (at from until : ℕ) : Type 0 where
  pub behind : from ≡ at + 3
  pub long : until ≡ from + field_at s (8 * at) 24
  pub reached : until ≤ reach s
  pub within : until ≤ length s
  pub ordered : from ≤ until
  pub limited : until - from ≤ limit

-- "1 for a length cut short, 4 for a length above 65,536 [the limit], 1 for a message cut short, tested in that sequence"
pub data Refuses (limit : ℕ) (s : List ℕ) (at : ℕ) : ℕ → Type 0 where
  length_cut : reach s < at + 3 → Refuses limit s at 1
  too_long : at + 3 ≤ reach s → limit < field_at s (8 * at) 24 → Refuses limit s at 4
  message-cut : at + 3 ≤ reach s → field_at s (8 * at) 24 ≤ limit → reach s < at + 3 + field_at s (8 * at) 24 → Refuses limit s at 1

-- "at the length's first bit", of which a byte is left
pub record Stands (limit : ℕ) (s : List ℕ) (at : ℕ) (f : Fault) : Type 0 where
  pub left : at < reach s
  pub number : Refuses limit s at (number_of f)
  pub first : returned_by f ≡ 8 * at

-- what each answer tells: "It answers end where no byte is left. Else it refuses, .."
abbrev pub Tells : ℕ → List ℕ → ℕ → Framed → Type 0
Tells limit s at End = reach s ≤ at
Tells limit s at (Message from until) = Lies limit s at from until
Tells limit s at (Refused f) = Stands limit s at f

-- an answer of the splitter: the definition's, and what it tells
pub record Splits (limit : ℕ) (s : List ℕ) (at : ℕ) (r : Framed) : Type 0 where
  pub is : r ≡ framed_at limit s at
  pub tells : Tells limit s at r
