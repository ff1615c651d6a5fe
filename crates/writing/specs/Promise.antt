-- The promises of writing in the newest edition, on messages: for any bytes and any result buffer.
use Rattle.std.specs.Prelude.{◌≡◌, ◌↔◌, List, ℕ, ◌≤◌, ◌<◌}
use lib.ListN.{length, take, drop}
use Rattle.numbers.specs.Sum.{All}
use Rattle.layouts.specs.declared.Fault.{Fault}
use Rattle.layouts.specs.declared.Fault.TheVariants.{TooShort}
use Rattle.layouts.specs.Layout.{passes, fails}
use Rattle.model.specs.declared.Subject.{Subject}
use Rattle.model.specs.declared.Subject.TheVariants as S
use Rattle.model.specs.Case.{Plan}
use Rattle.model.specs.Editions.{Largest, newest}
use Rattle.model.specs.ByEdition.{Stated, stated_in}
use Rattle.model.specs.Judgement.{read_plan, judgement, completion_bytes}
use Rattle.model.specs.Lists.{listings}
use Rattle.writing.specs.declared.Writing.TheVariants.{Written, Refused}
use Rattle.writing.specs.Anew.{anew, case_bytes, plan_bytes, Writings, case_anew, plan_anew}
use Rattle.writing.specs.Same.{content_of}

-- a message refused in reading: no byte is touched
pub record Refuses (which : Subject) (f : Fault) (before : List ℕ) (j : Writings) : Type 0 where
  pub answer : j.answer ≡ Refused which f
  pub untouched : j.result ≡ before

-- a message that passes: these bytes and the rest as it was, or 7 with the bytes needed, exactly where they do not fit
pub record Writes (out before : List ℕ) (j : Writings) : Type 0 where
  pub length : (n : ℕ) → j.answer ≡ Written n → n ≡ lib.ListN.length out
  pub bytes : (n : ℕ) → j.answer ≡ Written n → take n j.result ≡ out
  pub rest : (n : ℕ) → j.answer ≡ Written n → drop n j.result ≡ drop n before
  pub short : (s : Subject) (f : Fault) → j.answer ≡ Refused s f
      → (s ≡ S.Result) × (f ≡ TooShort (lib.ListN.length out)) × (lib.ListN.length before < lib.ListN.length out) × (j.result ≡ before)

-- what holds of a case and a plan that were written, x and p being what the old ones hold
pub record PairKept (l : Largest) (cs ps : List ℕ) (x : Stated) (p : Plan) (case plan : List ℕ) : Type 0 where
  -- "with result buffers long enough, the written pair's verdict is the old pair's, place included"
  pub judged : (buffer other : List ℕ) → length (completion_bytes x p) ≤ length buffer → length (completion_bytes (anew x.case) p) ≤ length other
      → (judgement l case plan other).verdict ≡ (judgement l cs ps buffer).verdict
  -- and every broken rule in the same bytes, whatever the list's buffer
  pub listed : (buffer : List ℕ) → listings l case plan buffer ≡ listings l cs ps buffer

-- what holds of the bytes written of a case, x being what it holds
pub record CaseKept (l : Largest) (cs : List ℕ) (x : Stated) (out : List ℕ) : Type 0 where
  -- "The written message passes reading, holds the same figures field by field"
  pub reads : stated_in l out ≡ passes (anew x.case)
  -- "Writing an edition [5] message gives its own bytes"
  pub own : All (λ b. b < 256) cs → x.edition ≡ newest → out ≡ cs
  -- "Two such messages .. hold equal content exactly when their written forms are the same bytes": this one and any other
  pub equal : (ds : List ℕ) (y : Stated) → stated_in l ds ≡ passes y → (buffer : List ℕ) (m : ℕ) → (case_anew l ds buffer).answer ≡ Written m
      → (x.case ≡ y.case) ↔ (out ≡ take m (case_anew l ds buffer).result)
  -- with any plan that passes, written too
  pub pair : (ps : List ℕ) (p : Plan) → read_plan x ps ≡ passes p → (buffer : List ℕ) (m : ℕ) → (plan_anew l cs ps buffer).answer ≡ Written m
      → PairKept l cs ps x p out (take m (plan_anew l cs ps buffer).result)
  -- no case takes more
  pub size : length out ≤ 328113

-- writing a case
pub record CasePromise (l : Largest) (cs before : List ℕ) (j : Writings) : Type 0 where
  pub case-refused : (f : Fault) → stated_in l cs ≡ fails f → Refuses S.Case f before j
  pub writes : (x : Stated) → stated_in l cs ≡ passes x → Writes (case_bytes x.case) before j
  pub kept : (x : Stated) → stated_in l cs ≡ passes x → (n : ℕ) → j.answer ≡ Written n → CaseKept l cs x (take n j.result)

-- what holds of the bytes written of a plan, x and p being what its case and it hold
pub record PlanKept (l : Largest) (cs ps : List ℕ) (x : Stated) (p : Plan) (out : List ℕ) : Type 0 where
  -- it passes reading with the written case, and holds the same figures
  pub reads : read_plan (anew x.case) out ≡ passes p
  -- one of the newest edition is written as its own bytes
  pub own : All (λ b. b < 256) ps → x.edition ≡ newest → out ≡ ps
  -- equal content, counts and figures, exactly when the same bytes
  pub equal : (ds rs : List ℕ) (y : Stated) (r : Plan) → stated_in l ds ≡ passes y → read_plan y rs ≡ passes r → (buffer : List ℕ) (m : ℕ) → (plan_anew l ds rs buffer).answer ≡ Written m
      → (content_of x.case.system p ≡ content_of y.case.system r) ↔ (out ≡ take m (plan_anew l ds rs buffer).result)
  -- with its case, written too
  pub pair : (buffer : List ℕ) (m : ℕ) → (case_anew l cs buffer).answer ≡ Written m → PairKept l cs ps x p (take m (case_anew l cs buffer).result) out
  -- no plan takes more
  pub size : length out ≤ 158427

-- writing a plan with its case
pub record PlanPromise (l : Largest) (cs ps before : List ℕ) (j : Writings) : Type 0 where
  pub case-refused : (f : Fault) → stated_in l cs ≡ fails f → Refuses S.Case f before j
  pub plan-refused : (x : Stated) (f : Fault) → stated_in l cs ≡ passes x → read_plan x ps ≡ fails f → Refuses S.Plan f before j
  pub writes : (x : Stated) (p : Plan) → stated_in l cs ≡ passes x → read_plan x ps ≡ passes p → Writes (plan_bytes x.case.system p) before j
  pub kept : (x : Stated) (p : Plan) → stated_in l cs ≡ passes x → read_plan x ps ≡ passes p → (n : ℕ) → j.answer ≡ Written n → PlanKept l cs ps x p (take n j.result)
