-- "Renumbering sets" on messages: what judging and listing the bytes of two pairs of a case and a plan give back, if the devices of the second are those of the first, rearranged.
use Rattle.std.specs.Prelude.{◌≡◌, ℕ, ◌*◌, ◌≤◌, leb, length, ℤ}
use Rattle.std.proofs.Common.{sym, ◌∙◌, ap}
use mathlib.Core.List.{List}
use Rattle.bits.specs.Pick.{pick}
use Rattle.layouts.specs.Layout.{passes}
use Rattle.layouts.specs.declared.Fault.TheVariants.{TooShort}
use Rattle.model.specs.declared.Breach.{Breach}
use Rattle.model.specs.declared.Verdict.TheVariants.{Accepted}
use Rattle.model.specs.declared.Subject.TheVariants as S
use Rattle.model.specs.declared.Listing.TheVariants.{Listed, Refused}
use Rattle.model.specs.Case.{Plan}
use Rattle.model.specs.Forced.{devices}
use Rattle.model.specs.Breaches.{breaches}
use Rattle.model.specs.Ours.{ours}
use Rattle.model.specs.Editions.{Largest, most_devices, most_intervals}
use Rattle.model.specs.ByEdition.{Stated, stated_in}
use Rattle.model.specs.Judgement.{written, judged, read_plan, with_plan, with_case, judgement}
use Rattle.model.specs.Lists.{Listings, list_bytes, listing, listed, list_plan, list_case, listings}
use Rattle.theorems.proofs.Promise.{promised}
use Rattle.listings.specs.Promise.{Lists}
use Rattle.listings.proofs.Promise.{case-listed}
use Rattle.renumbering.specs.Permute.{Renumbering}
use Rattle.renumbering.specs.Renumbered.{rearranged_plan}
use Rattle.renumbering.specs.Promise.{rearranged_stated}
use Rattle.renumbering.proofs.Promise.{rearranged-renumbers}
use Rattle.renumbered_messages.specs.Promise.{Rearranged, Renumbered, SameCompletion, SameList}

-- ---- they hold
listing-same : (bs cs : List Breach) (room : ℕ) → length bs ≡ length cs → length (list_bytes bs) ≡ length (list_bytes cs) → listing bs room ≡ listing cs room
unfolding listing
listing-same bs cs room e f = λ k. pick (leb (f k) room) (Listed (e k)) (Refused S.Result (TooShort (f k)))

-- a pair that passes reading is judged by its content
judged-by : (l : Largest) (cs ps : List ℕ) (x : Stated) (p : Plan) → stated_in l cs ≡ passes x → read_plan x ps ≡ passes p → (buffer : List ℕ) → judgement l cs ps buffer ≡ judged x p buffer
unfolding judgement
judged-by l cs ps x p h k buffer = ap (with_case ps buffer) h ∙ ap (with_plan x buffer) k

-- and so listed
listed-by : (l : Largest) (cs ps : List ℕ) (x : Stated) (p : Plan) → stated_in l cs ≡ passes x → read_plan x ps ≡ passes p → (buffer : List ℕ)
    → (listings l cs ps buffer).answer ≡ listing (breaches x.case.system p) (length buffer)
unfolding listings listed
listed-by l cs ps x p h k buffer = ap (λ (j : Listings). j.answer) (ap (list_case ps buffer) h ∙ ap (list_plan x buffer) k)

module _ (l : Largest) (most : l.devices ≤ most_devices) (long : l.intervals ≤ most_intervals)
    (x : Stated) (p : Plan) (r : Renumbering (devices x.case.system)) (e : ℕ) (cs ps cs' ps' : List ℕ) (h : Rearranged l x p r e cs ps cs' ps') where
  abbrev y : Stated
  y = rearranged_stated e r x.case

  abbrev o : Plan
  o = rearranged_plan r p

  lists-first : (buffer : List ℕ) → Lists x p buffer (listings l cs ps buffer)
  lists-first buffer = ((case-listed l most long cs ps buffer).case-passed x h.case).lists p h.plan

  lists-second : (buffer : List ℕ) → Lists y o buffer (listings l cs' ps' buffer)
  lists-second buffer = ((case-listed l most long cs' ps' buffer).case-passed y h.case').lists o h.plan'

  same_lists : (buffer buffer' : List ℕ) → length (list_bytes (breaches x.case.system p)) ≤ length buffer → length (list_bytes (breaches y.case.system o)) ≤ length buffer'
      → SameList r buffer buffer' (listings l cs ps buffer) (listings l cs' ps' buffer')
  same_lists buffer buffer' a b = record {
    first = breaches x.case.system p;
    second = breaches y.case.system o;
    listed = (lists-first buffer).fits a;
    listed' = (lists-second buffer').fits b;
    breaches = (rearranged-renumbers x p r e).broken;
  }

  -- each message reads back as the completion of its pair
  same-completions : (buffer buffer' : List ℕ) (z : ℤ) → (judgement l cs ps buffer).verdict ≡ Accepted z → (judgement l cs' ps' buffer').verdict ≡ Accepted z
      → SameCompletion x p r y o (judgement l cs ps buffer).result (judgement l cs' ps' buffer').result
  same-completions buffer buffer' z a b = record {
    completion = written x.case.system (ours x.case p) z;
    first = (((promised l most long cs ps buffer).case-passed x h.case).wrote p z h.plan a).reads;
    second = (((promised l most long cs' ps' buffer').case-passed y h.case').wrote o z h.plan' b).reads ∙ ap passes ((rearranged-renumbers x p r e).fields z);
  }

  pub renumbered : Renumbered l x p r y o cs ps cs' ps'
  unfolding judged
  renumbered = record {
    accepted = λ buffer buffer' a b z. rw (first buffer, second buffer') ((rearranged-renumbers x p r e).accepted (length buffer) (length buffer') a b z);
    verdicts = λ buffer buffer' a b. rw (first buffer, second buffer') ((rearranged-renumbers x p r e).verdicts (length buffer) (length buffer') a b);
    completions = same-completions;
    lists = same_lists;
    counted = answers;
  }
    where
      first : (buffer : List ℕ) → judgement l cs ps buffer ≡ judged x p buffer
      first = judged-by l cs ps x p h.case h.plan

      second : (buffer : List ℕ) → judgement l cs' ps' buffer ≡ judged y o buffer
      second = judged-by l cs' ps' y o h.case' h.plan'

      answers : (buffer buffer' : List ℕ) → length buffer' ≡ length buffer → (listings l cs' ps' buffer').answer ≡ (listings l cs ps buffer).answer
      answers buffer buffer' f =
          let many = (rearranged-renumbers x p r e).broken.many in
          let four : length (list_bytes (breaches y.case.system o)) ≡ length (list_bytes (breaches x.case.system p))
          = (lists-second buffer).four ∙ ap (λ (n : ℕ). 4 * n) many ∙ sym (lists-first buffer).four in
          listed-by l cs' ps' y o h.case' h.plan' buffer'
          ∙ ap (listing (breaches y.case.system o)) f
          ∙ listing-same (breaches y.case.system o) (breaches x.case.system p) (length buffer) many four
          ∙ sym (listed-by l cs ps x p h.case h.plan buffer)
