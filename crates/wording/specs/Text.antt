-- The lines of the batch program as text, in ASCII: "0 case 2 2 0", "1 accepted 167860", "2 broken 5 2 1 0", "3 refused 1 8", "framing 4".
use Rattle.std.specs.Prelude.{ℕ, List, [], ◌∷◌, ◌++◌}
use Rattle.layouts.specs.Faults.{number_of, returned_by}
use Rattle.model.specs.declared.Verdict.{Verdict}
use Rattle.model.specs.declared.Verdict.TheVariants.{Accepted, Broken, Refused}
use Rattle.model.specs.Batch.{Line, case_line, answer, framing, batch_lines}
use Rattle.wording.specs.Ascii.{ascii}
use Rattle.wording.specs.Decimal.{decimal, signed}

abbrev pub space : List ℕ
space = ascii " "

abbrev pub newline : List ℕ
newline = ascii "\n"

abbrev pub case_word : List ℕ
case_word = ascii " case"

abbrev pub accepted_word : List ℕ
accepted_word = ascii " accepted"

abbrev pub broken_word : List ℕ
broken_word = ascii " broken"

abbrev pub refused_word : List ℕ
refused_word = ascii " refused"

abbrev pub framing_word : List ℕ
framing_word = ascii "framing"

abbrev pub failed_word : List ℕ
failed_word = ascii "input failed"

-- numbers, each behind a space
unfoldable pub figures : List ℕ → List ℕ
figures [] = []
figures (n ∷ ns) = space ++ decimal n ++ figures ns

-- a word, numbers and the line's end
abbrev pub word_line : List ℕ → List ℕ → List ℕ
word_line word ns = word ++ figures ns ++ newline

-- "Fields: message index; word; then .. surplus; or rule and place; or number and bit."
abbrev pub answer_text : ℕ → Verdict → List ℕ
answer_text k (Accepted z) = decimal k ++ accepted_word ++ space ++ signed z ++ newline
answer_text k (Broken b) = decimal k ++ word_line broken_word (b.rule ∷ b.interval ∷ b.device ∷ b.window ∷ [])
answer_text k (Refused s f) = decimal k ++ word_line refused_word (number_of f ∷ returned_by f ∷ [])

-- ".. message index; word; then devices, intervals, zones .."; "A splitter refusal prints `framing` and its number"
abbrev pub text : Line → List ℕ
text (case_line k devices intervals zones) = decimal k ++ word_line case_word (devices ∷ intervals ∷ zones ∷ [])
text (answer k v) = answer_text k v
text (framing n) = word_line framing_word (n ∷ [])

-- lines one behind the other
unfoldable pub texts : List Line → List ℕ
texts [] = []
texts (l ∷ ls) = text l ++ texts ls

-- all that the batch program writes for a batch
unfoldable pub batch_text : List ℕ → List ℕ
batch_text s = texts (batch_lines s)

-- the last line where standard input cannot be read: the system's number of the error
abbrev pub failure_text : ℕ → List ℕ
failure_text error = word_line failed_word (error ∷ [])
