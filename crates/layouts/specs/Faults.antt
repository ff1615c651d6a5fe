-- "What the unit gives back": the paper's number for each fault, and what is returned with it, a bit or a count of bytes.
use Rattle.std.specs.Prelude.{ℕ}
use Rattle.layouts.specs.declared.Fault.{Fault}
use Rattle.layouts.specs.declared.Fault.TheVariants.{Cut, WrongKind, WrongCount, OutOfRange, Contradiction, Tail, TooShort}

abbrev pub number_of : Fault → ℕ
number_of (Cut b) = 1
number_of (WrongKind b) = 2
number_of (WrongCount b) = 3
number_of (OutOfRange b) = 4
number_of (Contradiction b) = 5
number_of (Tail b) = 6
number_of (TooShort n) = 7

abbrev pub returned_by : Fault → ℕ
returned_by (Cut b) = b
returned_by (WrongKind b) = b
returned_by (WrongCount b) = b
returned_by (OutOfRange b) = b
returned_by (Contradiction b) = b
returned_by (Tail b) = b
returned_by (TooShort n) = n
