-- "Renumbering sets" on messages: what judging and listing the bytes of two pairs of a case and a plan give back, if the devices of the second are those of the first, rearranged.
use Rattle.std.specs.Prelude.{◌≡◌, ◌↔◌, ℕ, ◌≤◌, length, take, drop, ℤ}
use mathlib.Core.List.{List, ◌++◌}
use Rattle.layouts.specs.Layout.{passes, read_whole}
use Rattle.model.specs.declared.Breach.{Breach}
use Rattle.model.specs.declared.Verdict.TheVariants.{Accepted}
use Rattle.model.specs.declared.Listing.TheVariants.{Listed}
use Rattle.model.specs.Case.{Plan}
use Rattle.model.specs.Forced.{devices}
use Rattle.model.specs.Breaches.{breaches}
use Rattle.model.specs.Editions.{Largest}
use Rattle.model.specs.Messages.{Written}
use Rattle.model.specs.ByEdition.{Stated, stated_in}
use Rattle.model.specs.Judgement.{completion_bytes, completion_in, read_plan, judgement}
use Rattle.model.specs.Lists.{Listings, list_bytes, listed, listings}
use Rattle.renumbering.specs.Permute.{Renumbering}
use Rattle.renumbering.specs.Renumbered.{rearranged_plan}
use Rattle.renumbering.specs.Message.{windows_of, rearranged_written}
use Rattle.renumbering.specs.Promise.{rearranged_stated, SameVerdict, SameBreaches}

-- "pairs that pass reading", "the devices of a case and of its plan are rearranged alike": a case of content x with a plan p, and one of edition e with its plan, by a reader of counts up to l
pub record Rearranged (l : Largest) (x : Stated) (p : Plan) (r : Renumbering (devices x.case.system)) (e : ℕ) (cs ps cs' ps' : List ℕ) : Type 0 where
  pub case : stated_in l cs ≡ passes x
  pub plan : read_plan x ps ≡ passes p
  pub case' : stated_in l cs' ≡ passes (rearranged_stated e r x.case)
  pub plan' : read_plan (rearranged_stated e r x.case) ps' ≡ passes (rearranged_plan r p)

-- two completions as read from the bytes written: the second is the first, rearranged
pub record SameCompletion (x : Stated) (p : Plan) (r : Renumbering (devices x.case.system)) (x' : Stated) (p' : Plan) (after after' : List ℕ) : Type 0 where
  pub completion : Written
  pub first : read_whole (completion_in x.edition x.case.system) (take (length (completion_bytes x p)) after) ≡ passes completion
  pub second : read_whole (completion_in x'.edition x'.case.system) (take (length (completion_bytes x' p')) after')
      ≡ passes (rearranged_written r (windows_of x.case.system) completion)

-- two lists as written, "the rest of the buffer unchanged": the same breaches, device numbers carried along
pub record SameList {n : ℕ} (r : Renumbering n) (before before' : List ℕ) (a a' : Listings) : Type 0 where
  pub first : List Breach
  pub second : List Breach
  pub listed : (a.answer ≡ Listed (length first)) × (a.list ≡ list_bytes first ++ drop (length (list_bytes first)) before)
  pub listed' : (a'.answer ≡ Listed (length second)) × (a'.list ≡ list_bytes second ++ drop (length (list_bytes second)) before')
  pub breaches : SameBreaches r first second

-- what judging and listing promise of such a pair
pub record Renumbered (l : Largest) (x : Stated) (p : Plan) (r : Renumbering (devices x.case.system)) (x' : Stated) (p' : Plan) (cs ps cs' ps' : List ℕ) : Type 0 where
  -- "the plan is accepted exactly when it was, the surplus is equal", with "result buffers long enough"
  pub accepted : (buffer buffer' : List ℕ) → length (completion_bytes x p) ≤ length buffer → length (completion_bytes x' p') ≤ length buffer' → (z : ℤ)
      → ((judgement l cs ps buffer).verdict ≡ Accepted z) ↔ ((judgement l cs' ps' buffer').verdict ≡ Accepted z)
  -- "The named first breach may differ", nothing else of the verdict
  pub verdicts : (buffer buffer' : List ℕ) → length (completion_bytes x p) ≤ length buffer → length (completion_bytes x' p') ≤ length buffer'
      → SameVerdict (judgement l cs ps buffer).verdict (judgement l cs' ps' buffer').verdict
  -- "zone shortfalls and mismatches are equal, and each device's part of the completion goes with it"
  pub completions : (buffer buffer' : List ℕ) (z : ℤ) → (judgement l cs ps buffer).verdict ≡ Accepted z → (judgement l cs' ps' buffer').verdict ≡ Accepted z
      → SameCompletion x p r x' p' (judgement l cs ps buffer).result (judgement l cs' ps' buffer').result
  -- "the set of breaches from A.5, with device numbers carried along, may not", with lists' buffers long enough
  pub lists : (buffer buffer' : List ℕ) → length (list_bytes (breaches x.case.system p)) ≤ length buffer → length (list_bytes (breaches x'.case.system p')) ≤ length buffer'
      → SameList r buffer buffer' (listings l cs ps buffer) (listings l cs' ps' buffer')
  -- and the list's answer, 7 included, in any two buffers of one length
  pub counted : (buffer buffer' : List ℕ) → length buffer' ≡ length buffer → (listings l cs' ps' buffer').answer ≡ (listings l cs ps buffer).answer
