-- The promises of judging, for any bytes of a case and a plan and any result buffer; nothing is required of the caller.
use Rattle.std.specs.Prelude.{◌≡◌, List, ℕ, ◌≤◌}
use Rattle.std.proofs.Common.{subst}
use Rattle.model.specs.declared.Verdict.{Verdict}
use Rattle.model.specs.Editions.{Largest, most_devices, most_intervals}
use Rattle.model.specs.Judgement.{judgement}
use Rattle.theorems.specs.Promise.{Promise}
use Rattle.theorems.proofs.Promise.{promised}
use Rattle.plan_judgement.specs.JudgesPlan.{same-judged}

-- `l` are the largest counts that the reader takes; `before` and `after` are the result buffer as it came and as it is left
pub record Judges (l : Largest) (cs ps before after : List ℕ) (v : Verdict) : Type 0 where
  -- Item 2: the verdict is the definition's judgement of the bytes, and the buffer is left as the definition says.
  pub verdict : v ≡ (judgement l cs ps before).verdict
  pub result : after ≡ (judgement l cs ps before).result
  -- Items 1 and 3: refusals by number and place with no byte touched; broken exactly when no completion meets every rule; the bytes written are a completion
  -- that meets every rule and has the surplus reported; no other completion that meets every rule has a greater one. `Promise` names each part.
  pub promise : Promise l cs ps before (record { verdict = v; result = after })

pub judges : (l : Largest) → l.devices ≤ most_devices → l.intervals ≤ most_intervals → {cs ps before after : List ℕ} {v : Verdict}
    → v ≡ (judgement l cs ps before).verdict → after ≡ (judgement l cs ps before).result → Judges l cs ps before after v
judges l most long {cs} {ps} {before} e f = record { verdict = e; result = f; promise = subst (Promise l cs ps before) (same-judged e f) (promised l most long cs ps before) }
