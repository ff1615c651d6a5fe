-- The promises of `judge_plan`, for any bytes of a plan and any result buffer, against a case that was decoded before.
use Rattle.std.specs.Prelude.{◌≡◌, List, ℕ}
use Rattle.std.proofs.Common.{sym, subst, ap₂}
use Rattle.model.specs.declared.Verdict.{Verdict}
use Rattle.model.specs.ByEdition.{Stated}
use Rattle.model.specs.Judgement.{Judged, with_plan, read_plan}
use Rattle.theorems.specs.Promise.{PlanPromise}
use Rattle.theorems.proofs.Promise.{plan-promised}
use Rattle.row_places.specs.declared.Front.{Front}
use Rattle.decoded_cases.specs.Decoded.{Decoded, stated_rows, sound-rows}

-- two answers that are equal part by part
pub same-judged : {v : Verdict} {after : List ℕ} {j : Judged} → v ≡ j.verdict → after ≡ j.result → j ≡ record { verdict = v; result = after }
same-judged e f = ap₂ (λ (x : Verdict) (y : List ℕ). record { verdict = x; result = y }) (sym e) (sym f)

-- What `judge` gives for the case's bytes and the plan, with the same promises; `before` and `after` are the result buffer as it came and as it is left
pub record JudgesPlan (front : Front) (halves : List ℕ) (zones minima devices cells : List (List ℕ)) (ps before after : List ℕ) (v : Verdict) : Type 0 where
  pub verdict : v ≡ (with_plan (stated_rows front halves zones minima devices cells) before (read_plan (stated_rows front halves zones minima devices cells) ps)).verdict
  pub result : after ≡ (with_plan (stated_rows front halves zones minima devices cells) before (read_plan (stated_rows front halves zones minima devices cells) ps)).result
  pub promise : PlanPromise (stated_rows front halves zones minima devices cells) ps before (record { verdict = v; result = after })

pub judges-plan : {front : Front} {halves : List ℕ} {zones minima devices cells : List (List ℕ)} → Decoded front halves zones minima devices cells → {ps before after : List ℕ} {v : Verdict}
    → v ≡ (with_plan (stated_rows front halves zones minima devices cells) before (read_plan (stated_rows front halves zones minima devices cells) ps)).verdict
    → after ≡ (with_plan (stated_rows front halves zones minima devices cells) before (read_plan (stated_rows front halves zones minima devices cells) ps)).result
    → JudgesPlan front halves zones minima devices cells ps before after v
judges-plan {front} {halves} {zones} {minima} {devices} {cells} d {ps} {before} e f =
    let x : Stated = stated_rows front halves zones minima devices cells in
    record { verdict = e; result = f; promise = subst (PlanPromise x ps before) (same-judged e f) (plan-promised x (sound-rows d) ps before) }
