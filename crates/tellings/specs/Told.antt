-- What hosts in other languages are told: a word and four numbers for each verdict, for each case that is inspected, for each list of breaches, for each message
-- that is written, for each market copy, for each completion or copy that is read, for each plan that is mended, and for each message that a splitter finds.
use Rattle.std.specs.Prelude.{List, [], ◌∷◌, ℕ, ◌*◌}
use Rattle.layouts.specs.Faults.{number_of, returned_by}
use Rattle.layouts.specs.declared.Fault.{Fault}
use Rattle.layouts.specs.declared.Fault.TheVariants.{TooShort}
use Rattle.layouts.specs.declared.Framed.{Framed}
use Rattle.layouts.specs.declared.Framed.TheVariants as B
use Rattle.bits.specs.Twos.{to_twos}
use Rattle.model.specs.declared.Subject.{Subject}
use Rattle.model.specs.declared.Subject.TheVariants as S
use Rattle.model.specs.declared.Breach.{Breach}
use Rattle.model.specs.declared.Verdict.{Verdict}
use Rattle.model.specs.declared.Verdict.TheVariants.{Accepted, Broken, Refused}
use Rattle.model.specs.declared.Listing.{Listing}
use Rattle.model.specs.declared.Listing.TheVariants as L
use Rattle.tellings.specs.declared.Told.{Told}
use Rattle.model.specs.declared.Inspected.{Inspected}
use Rattle.model.specs.declared.Inspected.TheVariants as I
use Rattle.writing.specs.declared.Writing.{Writing}
use Rattle.writing.specs.declared.Writing.TheVariants as W
use Rattle.market.specs.declared.Copying.{Copying}
use Rattle.market.specs.declared.Copying.TheVariants as K
use Rattle.completion_reading.specs.declared.Reading.{Reading}
use Rattle.completion_reading.specs.declared.Reading.TheVariants as R
use Rattle.mending.specs.declared.Mending.{Mending}
use Rattle.mending.specs.declared.Mending.TheVariants as M

-- 2 a refused case, 3 a refused plan, 4 a lent buffer too short
abbrev pub word_of : Subject → ℕ
word_of S.Case = 2
word_of S.Plan = 3
word_of S.Result = 4

-- a number; a broken rule with its place; a refusal: number, bit or bytes
abbrev pub told_number : ℕ → Told
told_number n = record { word = 0; first = n; second = 0; third = 0; fourth = 0 }

abbrev pub told_breach : Breach → Told
told_breach b = record { word = 1; first = b.rule; second = b.interval; third = b.device; fourth = b.window }

abbrev pub told_fault : ℕ → Fault → Told
told_fault word f = record { word = word; first = number_of f; second = returned_by f; third = 0; fourth = 0 }

-- 0 accepted: the surplus in two's complement; 1 broken: rule, interval, device, window; 2 to 4 refused: number, bit or bytes
abbrev pub told_of : Verdict → Told
told_of (Accepted z) = told_number (to_twos 64 z)
told_of (Broken b) = told_breach b
told_of (Refused s f) = told_fault (word_of s) f

-- 0 passes: devices, intervals, zones; 2 refused: number, bit
abbrev pub told_case : Inspected → Told
told_case (I.Counts d n z) = record { word = 0; first = d; second = n; third = z; fourth = 0 }
told_case (I.Refused f) = told_fault 2 f

-- 0 listed: how many breaches; 2 to 4 refused: number, bit or bytes
abbrev pub told_list : Listing → Told
told_list (L.Listed n) = told_number n
told_list (L.Refused s f) = told_fault (word_of s) f

-- 0 written: how many bytes; 2 to 4 refused: number, bit or bytes
abbrev pub told_writing : Writing → Told
told_writing (W.Written n) = told_number n
told_writing (W.Refused s f) = told_fault (word_of s) f

-- 0 copied: how many bytes, and never the surplus; 1 broken: rule, interval, device, window; 2 to 4 refused: number, bit or bytes
abbrev pub told_copy : Copying → Told
told_copy (K.Copied n) = told_number n
told_copy (K.Broken b) = told_breach b
told_copy (K.Refused s f) = told_fault (word_of s) f

-- 0 read: how many numbers stand in the table; 2 refused case, 3 refused message: number, bit; 4 a table too short: 7 and the bytes needed, eight for each number
abbrev pub told_reading : Reading → Told
told_reading (R.Figures n) = told_number n
told_reading (R.RefusedCase f) = told_fault 2 f
told_reading (R.RefusedMessage f) = told_fault 3 f
told_reading (R.Short n) = told_fault 4 (TooShort (8 * n))

-- 0 accepted: the surplus in two's complement; 1 mended: interval, device, new online power; 6 nothing mends it; 2, 3 refused: number, bit
abbrev pub told_mending : Mending → Told
told_mending (M.Accepted z) = told_number (to_twos 64 z)
told_mending (M.Mended t i v) = record { word = 1; first = t; second = i; third = v; fourth = 0 }
told_mending M.Nothing = record { word = 6; first = 0; second = 0; third = 0; fourth = 0 }
told_mending (M.Refused s f) = told_fault (word_of s) f

-- 0 a message: its first byte and the one behind its last; 1 the end; 2 refused: number, bit
abbrev pub told_frame : Framed → Told
told_frame (B.Message from until) = record { word = 0; first = from; second = until; third = 0; fourth = 0 }
told_frame B.End = record { word = 1; first = 0; second = 0; third = 0; fourth = 0 }
told_frame (B.Refused f) = told_fault 2 f

abbrev pub figures_of : Told → List ℕ
figures_of t = t.first ∷ t.second ∷ t.third ∷ t.fourth ∷ []
