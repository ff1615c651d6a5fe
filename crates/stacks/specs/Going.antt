-- The plans of a batch, one after the other: what the loop over them keeps.
use Rattle.std.specs.Prelude.{◌≡◌, List, ◌++◌, ℕ, ◌+◌, ◌-◌, ◌*◌, ◌≤◌, length, take, drop}
use Rattle.layouts.specs.declared.Framed.TheVariants as B
use Rattle.layouts.specs.Framing.{framed_at, part}
use Rattle.layouts.specs.Layout.{passes}
use Rattle.model.specs.ByEdition.{Stated}
use Rattle.tellings.specs.Splitting.{host_limit}
use Rattle.stacks.specs.Messages.{messages_from, messages_of, plans_in}
use Rattle.stacks.specs.Stack.{row_numbers, row_of, turn, turn_bytes, stacked}
use Rattle.stacks.specs.Left.{left}

-- what the code gives back of all plans
pub record TakesTurns (y : Stated) (plans : List (List ℕ)) (before after table told : List ℕ) (r : ℕ) : Type 0 where
  pub bytes : r ≡ (stacked y before plans).bytes
  pub result : after ≡ (stacked y before plans).result
  pub numbers : told ≡ (stacked y before plans).rows ++ drop (row_numbers * length plans) table

-- the bytes and places from a message on, where so many bytes of the buffer and places of the table are done ahead of it
pub record Moved (y : Stated) (ps : List ℕ) (bytes place : ℕ) (buffer after rows told : List ℕ) (r : ℕ) : Type 0 where
  pub bytes_next : r ≡ bytes + turn_bytes y (drop bytes buffer) ps
  pub result : after ≡ take bytes buffer ++ (turn y (drop bytes buffer) ps).result
  pub numbers : told ≡ take place rows ++ (row_of (turn y (drop bytes buffer) ps).verdict (turn_bytes y (drop bytes buffer) ps) ++ drop row_numbers (drop place rows))

-- the same of the message at a byte, where one stands, and the byte behind it
pub record Moves (y : Stated) (s : List ℕ) (at bytes place : ℕ) (buffer after rows told : List ℕ) (next r : ℕ) : Type 0 where
  pub moved : (from until : ℕ) → framed_at host_limit s at ≡ B.Message from until → (next ≡ until) × Moved y (part s from until) bytes place buffer after rows told r

-- `more` are the messages from `at` on; the buffer and the table are done up to `bytes` and `place`, of `places`
pub record Going (y : Stated) (s : List ℕ) (before table : List ℕ) (places at bytes place : ℕ) (buffer rows : List ℕ) : Type 0 where
  pub more : List (List ℕ)
  pub messages : messages_from host_limit s at ≡ passes more
  pub same : left y buffer rows bytes place more ≡ left y before table 0 0 (plans_in (messages_of host_limit s))
  pub inside : bytes ≤ length buffer
  pub ends : place + row_numbers * length more ≡ places
  pub room : places ≤ length rows
  pub long : length buffer ≡ length before
  pub table-long : length rows ≡ length table
