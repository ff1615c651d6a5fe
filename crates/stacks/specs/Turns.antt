-- Laws of a plan's turn: a completion fits what is left of the buffer, and what lies behind it stays.
use Rattle.std.specs.Prelude.{◌≡◌, List, ◌++◌, ℕ, ◌+◌, ◌≤◌, length, drop}
use Rattle.model.specs.declared.Verdict.{Verdict}
use Rattle.model.specs.declared.Verdict.TheVariants.{Accepted, Broken, Refused}
use Rattle.model.specs.ByEdition.{Stated}
use Rattle.model.specs.Judgement.{verdict}
use Rattle.stacks.specs.Stack.{row_numbers, row_of, turn, turn_bytes}

-- what the code gives back of a plan's turn: the bytes of its completion, the buffer as the definition leaves it, and its six numbers ahead of the rest of the table
pub record TakesTurn (y : Stated) (ps before after table told : List ℕ) (r : ℕ) : Type 0 where
  pub bytes : r ≡ turn_bytes y before ps
  pub result : after ≡ (turn y before ps).result
  pub numbers : told ≡ row_of (turn y before ps).verdict (turn_bytes y before ps) ++ drop row_numbers table

-- so many bytes where a verdict is acceptance
abbrev pub written_by : ℕ → Verdict → ℕ
written_by n (Accepted z) = n
written_by n (Broken b) = 0
written_by n (Refused s f) = 0

-- n bytes are written at the front of a buffer
pub record Leaves (n : ℕ) (before after : List ℕ) : Type 0 where
  pub fits : n ≤ length before
  pub long : length after ≡ length before
  pub behind : drop n after ≡ drop n before
