-- What judging a batch of plans against one case answers and leaves. The case is read once; each plan is judged in its turn with what is left of the result
-- buffer, and has six numbers of its own in a lent table.
use Rattle.std.specs.Prelude.{List, [], ◌∷◌, ◌++◌, ℕ, ◌+◌, ◌*◌, leb, length, take, drop}
use Rattle.bits.specs.Pick.{pick}
use Rattle.layouts.specs.Layout.{Whole, passes, fails}
use Rattle.model.specs.Case.{Plan}
use Rattle.model.specs.declared.Verdict.{Verdict}
use Rattle.model.specs.declared.Verdict.TheVariants.{Accepted, Broken, Refused}
use Rattle.model.specs.Editions.{Largest}
use Rattle.model.specs.ByEdition.{Stated, stated_in}
use Rattle.model.specs.Judgement as J
use Rattle.model.specs.Judgement.{with_plan, read_plan, completion_bytes}
use Rattle.tellings.specs.Splitting.{host_limit}
use Rattle.tellings.specs.declared.Told.{Told}
use Rattle.tellings.specs.Told.{told_of, figures_of}
use Rattle.stacks.specs.declared.Stacking.{Stacking}
use Rattle.stacks.specs.declared.Stacking.TheVariants.{Judged, RefusedCase, RefusedBatch, Short}
use Rattle.stacks.specs.Messages.{messages_of}

-- ---- one plan

-- the numbers that each plan has in the table
abbrev pub row_numbers : ℕ
row_numbers = 6

-- a word, four figures, and bytes
abbrev pub row_told : Told → ℕ → List ℕ
row_told t n = t.word ∷ (figures_of t ++ n ∷ [])

-- what hosts are told of its verdict, and the bytes of its completion
abbrev pub row_of : Verdict → ℕ → List ℕ
row_of v n = row_told (told_of v) n

-- a completion's bytes; 0 where none is written
abbrev pub bytes_by : Stated → Whole Plan → Verdict → ℕ
bytes_by y (passes p) (Accepted z) = length (completion_bytes y p)
bytes_by y (passes p) (Broken b) = 0
bytes_by y (passes p) (Refused s f) = 0
bytes_by y (fails f) v = 0

-- a plan's turn is the judgement of that plan, with the buffer that is left for it
abbrev pub turn : Stated → List ℕ → List ℕ → J.Judged
turn y buffer ps = with_plan y buffer (read_plan y ps)

abbrev pub turn_bytes : Stated → List ℕ → List ℕ → ℕ
turn_bytes y buffer ps = bytes_by y (read_plan y ps) (turn y buffer ps).verdict

-- what it leaves for the next: the bytes behind its completion
abbrev pub turn_left : Stated → List ℕ → List ℕ → List ℕ
turn_left y buffer ps = drop (turn_bytes y buffer ps) (turn y buffer ps).result

-- ---- all plans

-- their numbers, the result buffer afterwards, and how many bytes of it are completions
pub record Stack : Type 0 where
  pub rows : List ℕ
  pub result : List ℕ
  pub bytes : ℕ

-- completions one behind another
unfoldable pub stacked : Stated → List ℕ → List (List ℕ) → Stack
stacked y buffer [] = record { rows = []; result = buffer; bytes = 0 }
stacked y buffer (ps ∷ more) =
    let n = turn_bytes y buffer ps in
    let rest = stacked y (turn_left y buffer ps) more in
    record {
      rows = row_of (turn y buffer ps).verdict n ++ rest.rows;
      result = take n (turn y buffer ps).result ++ rest.result;
      bytes = n + rest.bytes;
    }

-- ---- the case, the batch and the table

-- the answer, and the result buffer and the table afterwards
pub record Stackings : Type 0 where
  pub answer : Stacking
  pub result : List ℕ
  pub table : List ℕ

-- nothing is written anywhere
abbrev pub unwritten : Stacking → List ℕ → List ℕ → Stackings
unwritten r buffer table = record { answer = r; result = buffer; table = table }

-- the plans' numbers at the front of the table; the rest of it stays
abbrev pub tabled : ℕ → Stack → List ℕ → Stackings
tabled count k table = record { answer = Judged count k.bytes; result = k.result; table = k.rows ++ drop (row_numbers * count) table }

-- a table with fewer places than the plans' numbers take is refused
unfoldable pub with_plans : Stated → List ℕ → List ℕ → List (List ℕ) → Stackings
with_plans y buffer table plans =
    pick (leb (row_numbers * length plans) (length table)) (tabled (length plans) (stacked y buffer plans) table) (unwritten (Short (row_numbers * length plans)) buffer table)

-- the splitter's refusal is the batch's; an empty batch is no refusal
abbrev pub with_batch : Stated → List ℕ → List ℕ → Whole (List (List ℕ)) → Stackings
with_batch y buffer table (passes plans) = with_plans y buffer table plans
with_batch y buffer table (fails f) = unwritten (RefusedBatch f) buffer table

-- the case's refusals come first
abbrev pub with_case : List ℕ → List ℕ → List ℕ → Whole Stated → Stackings
with_case batch buffer table (passes y) = with_batch y buffer table (messages_of host_limit batch)
with_case batch buffer table (fails f) = unwritten (RefusedCase f) buffer table

-- judging a batch of plans against a case, by a reader that takes counts up to these
unfoldable pub stacking : Largest → List ℕ → List ℕ → List ℕ → List ℕ → Stackings
stacking l cs batch buffer table = with_case batch buffer table (stated_in l cs)
