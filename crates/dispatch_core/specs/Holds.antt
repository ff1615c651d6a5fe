-- What `dispatch_held` gives back, for any bytes of a case and any list of offers of which the array holds the first; nothing is required of the caller.
use Rattle.std.specs.Prelude.{◌≡◌, refl, List, ◌++◌, ℕ, ◌≤◌, min, length, take, drop}
use Rattle.std.proofs.Common.{sym, ap, ◌∙◌, subst, take-append-drop}
use Rattle.layouts.specs.declared.Fault.{Fault}
use Rattle.layouts.specs.Layout.{passes, fails}
use Rattle.model.specs.Editions.{Largest, most_devices, most_intervals}
use Rattle.model.specs.ByEdition.{Stated, stated_in}
use Rattle.row_places.specs.declared.Front.{Front}
use Rattle.row_places.specs.declared.Counts.{Counts}
use Rattle.case_reader.specs.Whole.{CasePassed, CaseRefused}
use Rattle.decoded_cases.specs.Decoded.{stated_first}
use Rattle.decoded_cases.specs.Cases.{passed, failed}
use Rattle.offers.specs.declared.Offer.{Offer}
use Rattle.offers.specs.Merit.{room}
use Rattle.dispatching.specs.declared.Dispatch.TheVariants.{Refused}
use Rattle.dispatching.specs.Dispatch.{Outcome, untouched, dispatch_in, dispatch}
use Rattle.dispatch_promise.specs.Promise.{DispatchPromise}
use Rattle.dispatch_promise.proofs.Promise.{dispatch-promised}
use Rattle.dispatches.specs.declared.Held.{Held}
use Rattle.dispatches.specs.Cases.{put_back}

-- the answer, the powers as they are left, and the list with the array's offers put back
abbrev pub outcome_of : List ℕ → ℕ → List Offer → Held → Outcome
outcome_of after count os r = record { answer = r.answer; powers = after; offers = put_back (min count room) r.offers os }

-- `os` is any list of so many offers whose first the array holds
pub record Holds (l : Largest) (cs : List ℕ) (interval : ℕ) (sets before after : List ℕ) (all : List Offer) (count target : ℕ) (r : Held) : Type 0 where
  -- the definition's outcome
  pub is : (os : List Offer) → length os ≡ count → take (min count room) all ≡ take (min count room) os → outcome_of after count os r ≡ dispatch l cs interval sets before os target
  -- and what is promised of it
  pub promise : (os : List Offer) → length os ≡ count → take (min count room) all ≡ take (min count room) os
      → DispatchPromise l cs interval sets before os target (outcome_of after count os r)

holds : (l : Largest) → l.devices ≤ most_devices → l.intervals ≤ most_intervals → {cs : List ℕ} {interval : ℕ} {sets before after : List ℕ} {all : List Offer} {count target : ℕ} {r : Held}
    → ((os : List Offer) → length os ≡ count → take (min count room) all ≡ take (min count room) os → outcome_of after count os r ≡ dispatch l cs interval sets before os target)
    → Holds l cs interval sets before after all count target r
holds l most long {cs} {interval} {sets} {before} {after} {all} {count} {target} {r} e = record {
  is = e;
  promise = λ os n f. subst (DispatchPromise l cs interval sets before os target) (sym (e os n f)) (dispatch-promised l most long cs interval sets before os target);
}

-- what the dispatch is where the case failed, or passed
off : (l : Largest) (cs : List ℕ) (interval : ℕ) (sets before : List ℕ) (os : List Offer) (target : ℕ) (f : Fault) → stated_in l cs ≡ fails f
    → untouched (Refused f) before os ≡ dispatch l cs interval sets before os target
unfolding dispatch
off l cs interval sets before os target f e = rw e refl

on : (l : Largest) (cs : List ℕ) (interval : ℕ) (sets before : List ℕ) (os : List Offer) (target : ℕ) (y : Stated) → stated_in l cs ≡ passes y
    → dispatch_in y.case interval sets before os target ≡ dispatch l cs interval sets before os target
unfolding dispatch
on l cs interval sets before os target y e = rw e refl

module _ (l : Largest) (most : l.devices ≤ most_devices) (long : l.intervals ≤ most_intervals) (cs : List ℕ) where
  pub case-fails : (interval : ℕ) (sets before : List ℕ) (all : List Offer) (count target : ℕ) {f : Fault} → CaseRefused l.devices l.intervals cs f
      → Holds l cs interval sets before before all count target (record { answer = Refused f; offers = all })
  case-fails interval sets before all count target {f} t = holds l most long (λ os c g.
      ap (untouched (Refused f) before) (ap (λ (x : List Offer). x ++ drop (min count room) os) g ∙ take-append-drop (min count room) os)
      ∙ off l cs interval sets before os target f (failed l most long cs t))

  module _ (halves : List ℕ) (zones minima devices cells : List (List ℕ)) (front : Front) (n : Counts) (h : CasePassed l.devices l.intervals cs halves zones minima devices cells front n) where
    abbrev held : Stated
    held = stated_first front n halves zones minima devices cells

    pub case-passes : (interval : ℕ) (sets before after : List ℕ) (all : List Offer) (count target : ℕ) (r : Held)
        → ((os : List Offer) → length os ≡ count → take (min count room) all ≡ take (min count room) os → outcome_of after count os r ≡ dispatch_in held.case interval sets before os target)
        → Holds l cs interval sets before after all count target r
    case-passes interval sets before after all count target r k = holds l most long (λ os c g.
        k os c g ∙ on l cs interval sets before os target held (passed l most long cs halves zones minima devices cells front n h))

-- what two readers read alike, both dispatch alike
dispatch-alike : (l l' : Largest) (cs : List ℕ) (interval : ℕ) (sets before : List ℕ) (os : List Offer) (target : ℕ) → stated_in l cs ≡ stated_in l' cs
    → dispatch l cs interval sets before os target ≡ dispatch l' cs interval sets before os target
unfolding dispatch
dispatch-alike l l' cs interval sets before os target e = rw e refl

pub holds-alike : (l l' : Largest) → l'.devices ≤ most_devices → l'.intervals ≤ most_intervals
    → {cs : List ℕ} {interval : ℕ} {sets before after : List ℕ} {all : List Offer} {count target : ℕ} {r : Held} → stated_in l cs ≡ stated_in l' cs
    → Holds l cs interval sets before after all count target r → Holds l' cs interval sets before after all count target r
holds-alike l l' most long {cs} {interval} {sets} {before} {target = target} e h = holds l' most long (λ os c g. h.is os c g ∙ dispatch-alike l l' cs interval sets before os target e)
