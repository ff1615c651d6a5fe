-- The promises of writing a plan, for any bytes of a case and a plan and any result buffer; nothing is required of the caller.
use Rattle.std.specs.Prelude.{◌≡◌, List, ℕ}
use Rattle.std.proofs.Common.{subst}
use Rattle.model.specs.Editions.{Largest}
use Rattle.writing.specs.declared.Writing.{Writing}
use Rattle.writing.specs.Anew.{plan_anew}
use Rattle.writing.specs.Promise.{PlanPromise}
use Rattle.writing.proofs.Promise.{plan-promised}
use Rattle.rewrites.specs.Steps.{same-writings}

-- `l` are the largest counts that the reader takes; `before` and `after` are the result buffer as it came and as it is left
pub record RewritesPlan (l : Largest) (cs ps before after : List ℕ) (r : Writing) : Type 0 where
  -- the definition's answer, and the buffer as the definition leaves it
  pub answer : r ≡ (plan_anew l cs ps before).answer
  pub result : after ≡ (plan_anew l cs ps before).result
  -- refusals with no byte touched; the written plan reads back with the written case, is its own where it was of the newest edition, goes with its content,
  -- and the written pair is judged as the old one
  pub promise : PlanPromise l cs ps before (record { answer = r; result = after })

pub rewrites-plan : (l : Largest) {cs ps before after : List ℕ} {r : Writing} → r ≡ (plan_anew l cs ps before).answer → after ≡ (plan_anew l cs ps before).result
    → RewritesPlan l cs ps before after r
rewrites-plan l {cs} {ps} {before} e f = record { answer = e; result = f; promise = subst (PlanPromise l cs ps before) (same-writings e f) (plan-promised l cs ps before) }
