-- Listing the breaches of a plan's bytes against a decoded case.
use Rattle.std.specs.Prelude.{Ok, Err, ◌≡◌, refl, List, ℕ, length}
use Rattle.std.proofs.Common.{sym, ap, ap₂, ◌∙◌, subst}
use Rattle.layouts.specs.declared.Fault.{Fault}
use Rattle.layouts.specs.Layout.{passes, fails}
use Rattle.model.specs.declared.Subject.TheVariants as S
use Rattle.model.specs.declared.Listing.{Listing}
use Rattle.model.specs.declared.Listing.TheVariants.{Refused}
use Rattle.model.specs.Case.{Plan}
use Rattle.model.specs.ByEdition.{Stated}
use Rattle.model.specs.Judgement.{read_plan}
use Rattle.model.specs.Lists.{Listings, list_plan}
use Rattle.message_ends.specs.Ended.{Ending, ended}
use Rattle.row_places.specs.declared.Front.{Front}
use Rattle.records.specs.Views.{plan_in}
use Rattle.plan_header.specs.Plans.{PlanDone}
use Rattle.decoded_cases.specs.Decoded.{Decoded, stated_rows, sound-rows}
use Rattle.decoded_cases.specs.Plans.{plan-read}
use Rattle.listings.specs.Promise.{PlanListed}
use Rattle.listings.proofs.Promise.{plan-listed}
use Rattle.breach_lists.specs.Lists.{ListsRows}

-- two answers that are equal part by part
pub same-listing : {r : Listing} {after : List ℕ} {l : Listings} → r ≡ l.answer → after ≡ l.list → l ≡ record { answer = r; list = after }
same-listing e f = ap₂ (λ (x : Listing) (y : List ℕ). record { answer = x; list = y }) (sym e) (sym f)

-- the definition's answer and list, with the promises
pub record ListsPlan (front : Front) (halves : List ℕ) (zones minima devices cells : List (List ℕ)) (ps before after : List ℕ) (r : Listing) : Type 0 where
  pub answer : r ≡ (list_plan (stated_rows front halves zones minima devices cells) before (read_plan (stated_rows front halves zones minima devices cells) ps)).answer
  pub list : after ≡ (list_plan (stated_rows front halves zones minima devices cells) before (read_plan (stated_rows front halves zones minima devices cells) ps)).list
  pub promise : PlanListed (stated_rows front halves zones minima devices cells) ps before (record { answer = r; list = after })

module _ {front : Front} {halves : List ℕ} {zones minima devices cells : List (List ℕ)} (d : Decoded front halves zones minima devices cells)
    (ps : List ℕ) (settings : List (List ℕ)) (e : Ending) (h : PlanDone front.edition (length devices) (length halves) ps settings e) where
  abbrev x : Stated
  x = stated_rows front halves zones minima devices cells

  abbrev p : Plan
  p = plan_in (length devices) (length halves) settings

  lists-plan : {before after : List ℕ} {r : Listing} → r ≡ (list_plan x before (read_plan x ps)).answer → after ≡ (list_plan x before (read_plan x ps)).list
      → ListsPlan front halves zones minima devices cells ps before after r
  lists-plan {before} f g = record { answer = f; list = g; promise = subst (PlanListed x ps before) (same-listing f g) (plan-listed x (sound-rows d) ps before) }

  pub list-fails : (before : List ℕ) {f : Fault} → e ≡ Err f → ListsPlan front halves zones minima devices cells ps before before (Refused S.Plan f)
  list-fails before {f} t =
      let g : read_plan x ps ≡ fails f = sym (plan-read d ps settings e h) ∙ ap (ended p) t in
      lists-plan (rw g refl) (rw g refl)

  pub list-passes : {before after : List ℕ} {r : Listing} → e ≡ Ok tt → ListsRows front halves zones minima devices cells settings before after r
      → ListsPlan front halves zones minima devices cells ps before after r
  list-passes t k =
      let g : read_plan x ps ≡ passes p = sym (plan-read d ps settings e h) ∙ ap (ended p) t in
      lists-plan (rw g k.answer) (rw g k.list)
