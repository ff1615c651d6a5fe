-- How a failed read is told, and what a run that failed has written.
use Rattle.std.specs.Prelude.{ℕ, zero, suc, ℤ, pos, negsuc, List, take, IfSome, None, Some, ◌⊎◌}
use Rattle.std.specs.declared.option.Option.{Option}
use Rattle.std.specs.declared.io.Error.{Error}
use Rattle.std.specs.IoError.{raw_os_error}
use Rattle.std.specs.Io.KnownBytes.{Appends}
use Rattle.wording.specs.Text.{failure_text}
use Rattle.frames.specs.Frames.{frame_of}

-- the system's number of an input or output error
abbrev pub eio : ℕ
eio = 5

-- the system's number of an error, which is above 0; of an error that is not the system's that of an input or output error
abbrev pub number_in : Option ℤ → ℕ
number_in None = eio
number_in (Some (pos zero)) = eio
number_in (Some (pos (suc n))) = suc n
number_in (Some (negsuc n)) = eio

abbrev pub error_number : Error → ℕ
error_number e = number_in (raw_os_error e)

-- the front of a text was written, perhaps all of it
abbrev pub WritesFront : Option (List ℕ) → Option (List ℕ) → List ℕ → Type 0
WritesFront old new text = (n : ℕ) × Appends old new (take n text)

-- what a turn that failed has written: a front of the line that tells its error, or a front of the answer's text, which is that to the next frame of an input of
-- which it is known what it holds
abbrev pub Fails : Option (List ℕ) → ℕ → Option (List ℕ) → Option (List ℕ) → Error → (List ℕ → List ℕ) → Type 0
Fails input left old new e text = WritesFront old new (failure_text (error_number e)) ⊎ IfSome input (λ s. WritesFront old new (text (frame_of (take left s))))
