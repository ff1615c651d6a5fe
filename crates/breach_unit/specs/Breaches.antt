-- The promises of listing breaches, for any bytes of a case and a plan and any list; nothing is required of the caller.
use Rattle.std.specs.Prelude.{◌≡◌, List, ℕ, ◌≤◌}
use Rattle.std.proofs.Common.{subst}
use Rattle.model.specs.declared.Listing.{Listing}
use Rattle.model.specs.Editions.{Largest, most_devices, most_intervals}
use Rattle.model.specs.Lists.{listings}
use Rattle.listings.specs.Promise.{CaseListed}
use Rattle.listings.proofs.Promise.{case-listed}
use Rattle.breach_lists.specs.Plans.{same-listing}

-- `l` are the largest counts that the reader takes; `before` and `after` are the list's buffer as it came and as it is left
pub record ListsBreaches (l : Largest) (cs ps before after : List ℕ) (r : Listing) : Type 0 where
  -- the definition's answer and the buffer as the definition leaves it
  pub answer : r ≡ (listings l cs ps before).answer
  pub list : after ≡ (listings l cs ps before).list
  -- refusals by number and place with no byte touched; an entry for each rule that fails and no other, in order; the first is the verdict's; none where judging accepts
  pub promise : CaseListed l cs ps before (record { answer = r; list = after })

pub lists-breaches : (l : Largest) → l.devices ≤ most_devices → l.intervals ≤ most_intervals → {cs ps before after : List ℕ} {r : Listing}
    → r ≡ (listings l cs ps before).answer → after ≡ (listings l cs ps before).list → ListsBreaches l cs ps before after r
lists-breaches l most long {cs} {ps} {before} e f = record { answer = e; list = f; promise = subst (CaseListed l cs ps before) (same-listing e f) (case-listed l most long cs ps before) }
