-- The promises of reading back, for any bytes of a case and a message and any lent table; nothing is required of the caller.
use Rattle.std.specs.Prelude.{◌≡◌, Bool, List, ℕ, ◌≤◌}
use Rattle.std.proofs.Common.{sym, ap, subst}
use Rattle.model.specs.Editions.{Largest, most_devices, most_intervals}
use Rattle.completion_reading.specs.declared.Reading.{Reading}
use Rattle.completion_reading.specs.Figures.{Few, Readings, readings}
use Rattle.completion_reading.specs.Promise.{ReadPromise, read-promised}

-- `l` are the largest counts that the reader of the case takes; `desk` is whose reader it is; `before` and `after` are the lent table as it came and as it is left
pub record Reads (l : Largest) (desk : Bool) (cs s before after : List ℕ) (r : Reading) : Type 0 where
  -- the definition's answer, and the table as the definition leaves it
  pub answer : r ≡ (readings l desk cs s before).answer
  pub table : after ≡ (readings l desk cs s before).table
  -- the case's refusals first, the message's as a plan's are, 7 last, with no number touched; what judging wrote, or the market's copy, comes back figure by figure;
  -- the other's message is refused by 2 at bit 0, and every beginning of its own by 1
  pub promise : ReadPromise l desk cs s before (record { answer = r; table = after })
  -- no table needs more numbers
  pub few : Few r

pub reads : (l : Largest) → l.devices ≤ most_devices → l.intervals ≤ most_intervals → {desk : Bool} {cs s before after : List ℕ} {r : Reading}
    → record { answer = r; table = after } ≡ readings l desk cs s before → Few r → Reads l desk cs s before after r
reads l most long {desk} {cs} {s} {before} e few = record {
  answer = ap (λ (w : Readings). w.answer) e;
  table = ap (λ (w : Readings). w.table) e;
  promise = subst (ReadPromise l desk cs s before) (sym e) (read-promised l most long desk cs s before);
  few = few;
}
