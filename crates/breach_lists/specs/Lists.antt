-- The steps of listing the breaches of a decoded plan: none, a list too short, all of them.
use Rattle.std.specs.Prelude.{◌≡◌, refl, List, [], ◌++◌, ℕ, ◌*◌, ◌≤◌, ◌<◌, drop}
use Rattle.std.proofs.Common.{sym, ◌∙◌, arith, le-leb}
use Rattle.std.proofs.Math.Path.{ap}
use Rattle.std.proofs.lemmas.Bool.{lt-leb}
use Rattle.std.proofs.Math.ListN.{length}
use Rattle.numbers.specs.Base.{gather}
use Rattle.layouts.specs.declared.Fault.TheVariants.{TooShort}
use Rattle.model.specs.declared.Breach.{Breach}
use Rattle.model.specs.declared.Subject.TheVariants as S
use Rattle.model.specs.declared.Listing.{Listing}
use Rattle.model.specs.declared.Listing.TheVariants.{Listed, Refused}
use Rattle.model.specs.Case.{System, Plan}
use Rattle.model.specs.ByEdition.{Stated}
use Rattle.model.specs.Breaches.{breaches}
use Rattle.model.specs.Lists.{list_bytes, listing, list_after, listed}
use Rattle.row_places.specs.declared.Front.{Front}
use Rattle.records.specs.Views.{system_in, plan_in}
use Rattle.breach_entries.specs.Noted.{list-long, noted-all}
use Rattle.breach_notes.specs.Day.{NotesAll}
use Rattle.decoded_cases.specs.Decoded.{stated_rows}

module _ (front : Front) (halves : List ℕ) (zones minima devices cells settings : List (List ℕ)) where
  abbrev x : Stated
  x = stated_rows front halves zones minima devices cells

  abbrev p : Plan
  p = plan_in (length devices) (length halves) settings

  abbrev all : List Breach
  all = breaches (system_in halves zones minima devices cells) p

  -- what listing the plan's breaches leaves
  pub record ListsRows (before after : List ℕ) (r : Listing) : Type 0 where
    pub answer : r ≡ (listed x p before).answer
    pub list : after ≡ (listed x p before).list

  lists-by : (before : List ℕ) {after : List ℕ} {r : Listing} → r ≡ listing all (length before) → after ≡ list_after r (list_bytes all) before → ListsRows before after r
  unfolding listed
  lists-by before e f = record { answer = e; list = f ∙ ap (λ (y : Listing). list_after y (list_bytes all) before) e }

  -- no rule is broken
  pub lists-none : (before : List ℕ) → all ≡ [] → ListsRows before before (Listed 0)
  unfolding listing list_bytes gather
  lists-none before e = lists-by before (rw e (rw (le-leb 0 (length before) (omega arith)) refl)) (rw e refl)

  module _ {scratch scratched : List ℕ} {n : ℕ} (w : NotesAll halves zones minima devices cells settings scratch scratched n) where
    needed : 4 * n ≡ length (list_bytes all)
    needed = omega (arith, w.notes.count, list-long all)

    -- a list too short
    pub lists-short : (before : List ℕ) → length before < 4 * n → ListsRows before before (Refused S.Result (TooShort (4 * n)))
    unfolding listing
    lists-short before h = rw needed (lists-by before (sym (rw (lt-leb (length (list_bytes all)) (length before) (omega (arith, needed))) refl)) refl)

    -- every broken rule
    pub lists-all : (before : List ℕ) {after : List ℕ} {m : ℕ} → (length before < 4 * n → ⊥) → NotesAll halves zones minima devices cells settings before after m → ListsRows before after (Listed n)
    unfolding listing
    lists-all before h v =
        let room : length (list_bytes all) ≤ length before = omega (arith, needed) in
        let many : n ≡ length all = omega (arith, w.notes.count) in
        lists-by before (rw many (sym (rw (le-leb (length (list_bytes all)) (length before) room) refl))) (v.notes.list ∙ noted-all all before room)
