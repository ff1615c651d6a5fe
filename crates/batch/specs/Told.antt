-- What is told of a batch, whole or in part.
use Rattle.std.specs.Prelude.{ℕ, List, ◌++◌, length, take}
use Rattle.std.specs.declared.option.Option.{Option}
use Rattle.std.specs.declared.io.Error.{Error}
use Rattle.std.specs.Io.KnownBytes.{Appends}
use Rattle.model.specs.ByEdition.{Stated}
use Rattle.wording.specs.Text.{failure_text}
use Rattle.answers.specs.Stream.{plans_text}
use Rattle.runner.specs.Failures.{error_number}

-- the answers to all plans of a case, where these bytes of the batch are left
abbrev pub plans_told : Stated → ℕ → List ℕ → List ℕ
plans_told x index rest = plans_text x (length rest) index rest

-- a front of a text was written, and behind it a front of the line that tells an error; both may be whole or empty
abbrev pub FailsIn : Option (List ℕ) → Option (List ℕ) → Error → List ℕ → Type 0
FailsIn old new e text = (k : ℕ) × (n : ℕ) × Appends old new (take k text ++ take n (failure_text (error_number e)))
