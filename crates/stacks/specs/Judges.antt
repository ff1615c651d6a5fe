-- What the code gives back of a batch: against a case that is decoded, and against a case's bytes.
use Rattle.std.proofs.Math.Path.{◌≡◌}
use Rattle.std.specs.Prelude.{List, ℕ}
use Rattle.model.specs.Editions.{Largest}
use Rattle.model.specs.ByEdition.{Stated}
use Rattle.tellings.specs.Splitting.{host_limit}
use Rattle.stacks.specs.declared.Stacking.{Stacking}
use Rattle.stacks.specs.Messages.{messages_of}
use Rattle.stacks.specs.Stack.{with_batch, stacking}
use Rattle.stacks.specs.Promise.{StackPromise}

-- ---- against a decoded case

-- `before` and `after` are the result buffer as it came and as it is left, `table` and `told` the table
pub record JudgesBatch (y : Stated) (s before after table told : List ℕ) (r : Stacking) : Type 0 where
  pub is : record { answer = r; result = after; table = told } ≡ with_batch y before table (messages_of host_limit s)

-- ---- against a case's bytes

-- The promises of `judge_batch`, for any bytes of a case and a batch, any result buffer and any table; `l` are the largest counts that the reader of the case takes.
pub record JudgesStack (l : Largest) (cs s before after table told : List ℕ) (r : Stacking) : Type 0 where
  -- the definition's answer, and the buffer and the table as the definition leaves them
  pub answer : r ≡ (stacking l cs s before table).answer
  pub result : after ≡ (stacking l cs s before table).result
  pub numbers : told ≡ (stacking l cs s before table).table
  -- the case's refusals first, then the batch's, then 7, with nothing written; each plan's numbers and completion are those of judging it alone, with every
  -- promise of that; what lies behind stays
  pub promise : StackPromise l cs s before table (record { answer = r; result = after; table = told })
