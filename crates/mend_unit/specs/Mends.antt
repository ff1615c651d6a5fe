-- The promises of mending, for any bytes of a case and a plan; nothing is required of the caller.
use Rattle.std.specs.Prelude.{◌≡◌, List, ℕ, ◌≤◌}
use Rattle.std.proofs.Common.{sym, ◌∙◌, subst}
use Rattle.model.specs.Editions.{Largest, most_devices, most_intervals}
use Rattle.mending.specs.declared.Mending.{Mending}
use Rattle.mending.specs.declared.Mending.TheVariants.{Mended}
use Rattle.mending.specs.Mendings.{mendings, CasePromise}
use Rattle.mending.proofs.Mendings.{case-promise}
use Rattle.mended_messages.specs.Promise.{PutIn}
use Rattle.mended_messages.proofs.Promise.{put_in}

-- `l` are the largest counts that the reader takes
pub record MendsBytes (l : Largest) (cs ps : List ℕ) (r : Mending) : Type 0 where
  -- the definition's answer
  pub answer : r ≡ mendings l cs ps
  -- refused as judging is; the surplus where no rule is broken; else the least change, by kW, interval, device and new power, among all whose plan breaks no rule; or
  -- none, and then there is none
  pub promise : CasePromise l cs ps r
  -- a change told is the desk's too: the plan's message with that one field replaced passes reading and is accepted
  pub put : (t i v : ℕ) → r ≡ Mended t i v → PutIn l cs ps t i v

pub mends-bytes : (l : Largest) → l.devices ≤ most_devices → l.intervals ≤ most_intervals → {cs ps : List ℕ} {r : Mending} → r ≡ mendings l cs ps → MendsBytes l cs ps r
mends-bytes l most long {cs} {ps} g = record {
  answer = g;
  promise = subst (CasePromise l cs ps) (sym g) (case-promise l cs ps);
  put = λ t i v k. put_in l most long cs ps t i v (sym g ∙ k);
}
