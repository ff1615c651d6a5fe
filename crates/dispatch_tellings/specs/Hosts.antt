-- What hosts in other languages are answered of a dispatch.
use Rattle.std.specs.Prelude.{◌≡◌, refl, List, ◌++◌, ℕ, ◌≤◌, ◌<◌, min, length, take, drop}
use Rattle.std.proofs.Common.{sym, ◌∙◌, ap, subst, arith, take-append-drop, take_at, length-take-le}
use Rattle.layouts.specs.Faults.{number_of, returned_by}
use Rattle.layouts.specs.declared.Fault.{Fault}
use Rattle.model.specs.Editions.{host}
use Rattle.offers.specs.declared.Offer.{Offer}
use Rattle.offers.specs.Merit.{room}
use Rattle.offers.specs.Copied.{copied}
use Rattle.tellings.specs.declared.Told.{Told}
use Rattle.tellings.specs.Told.{figures_of}
use Rattle.dispatching.specs.declared.Dispatch.{Dispatch}
use Rattle.dispatching.specs.declared.Dispatch.TheVariants.{Dispatched, Refused, Unfit, Unmet}
use Rattle.dispatching.specs.Dispatch.{Outcome, dispatch}
use Rattle.dispatch_tellings.specs.declared.Finished.{Finished}

-- 0 dispatched; 2 a refused case: number, bit; 7 what was asked does not fit the case, or cannot be met: 8 and 0, 9 and the target
abbrev pub told_dispatch : Dispatch → Told
told_dispatch Dispatched = record { word = 0; first = 0; second = 0; third = 0; fourth = 0 }
told_dispatch (Refused f) = record { word = 2; first = number_of f; second = returned_by f; third = 0; fourth = 0 }
told_dispatch Unfit = record { word = 7; first = 8; second = 0; third = 0; fourth = 0 }
told_dispatch (Unmet target) = record { word = 7; first = 9; second = target; third = 0; fourth = 0 }

pub told-refused : {x : Dispatch} {f : Fault} {n m : ℕ} → x ≡ Refused f → n ≡ number_of f → m ≡ returned_by f → record { word = 2; first = n; second = m; third = 0; fourth = 0 } ≡ told_dispatch x
told-refused e h k = rw (e, h, k) refl

-- four numbers stored at the front of a lent slice; nothing is done, and 5 is answered, where it has fewer places
pub record HostDispatches (cs : List ℕ) (interval : ℕ) (sets before after : List ℕ) (offers sorted : List Offer) (target : ℕ) (figures told : List ℕ) (r : ℕ) : Type 0 where
  pub short : length figures < 4 → (r ≡ 5) × (after ≡ before) × (sorted ≡ offers) × (told ≡ figures)
  pub dispatches : 4 ≤ length figures → (o : Outcome) × (o ≡ dispatch host cs interval sets before offers target) × (after ≡ o.powers) × (sorted ≡ o.offers) × (r ≡ (told_dispatch o.answer).word)
      × (told ≡ figures_of (told_dispatch o.answer) ++ drop 4 figures)

-- ---- the list stands in an array, or as much of it as that takes

-- a list of so many offers, whose first the array holds
abbrev pub Holds : List Offer → ℕ → List Offer → Type 0
Holds all count os = (length os ≡ count) × (take (min count room) all ≡ take (min count room) os)

-- the array's first offers put back over the list
abbrev pub over : ℕ → List Offer → List Offer → List Offer
over count all os = take (min count room) all ++ drop (min count room) os

abbrev pub Tells : List ℕ → ℕ → List ℕ → List ℕ → List ℕ → List Offer → ℕ → ℕ → List ℕ → List ℕ → Finished → Type 0
Tells cs interval sets before after all count target figures told r =
    (os : List Offer) → Holds all count os → HostDispatches cs interval sets before after os (over count r.offers os) target figures told r.word

module _ (cs : List ℕ) (interval : ℕ) (sets before : List ℕ) (all : List Offer) (count target : ℕ) (figures : List ℕ) where
  pub tells-short : length figures < 4 → Tells cs interval sets before before all count target figures figures (record { word = 5; offers = all })
  tells-short h = λ os x. record {
    short = λ _. (refl, refl, ap (λ (l : List Offer). l ++ drop (min count room) os) x.1 ∙ take-append-drop (min count room) os, refl);
    dispatches = λ k. absurd (omega (arith, h, k));
  }

  -- from what the dispatch answered
  pub tells-told : {after told : List ℕ} {t : Told} (answer : Dispatch) (offers : List Offer) → 4 ≤ length figures
      → ((os : List Offer) → Holds all count os → (answer ≡ (dispatch host cs interval sets before os target).answer) × (after ≡ (dispatch host cs interval sets before os target).powers)
      × (over count offers os ≡ (dispatch host cs interval sets before os target).offers))
      → t ≡ told_dispatch answer → told ≡ figures_of t ++ drop 4 figures → Tells cs interval sets before after all count target figures told (record { word = t.word; offers = offers })
  tells-told {after} {told} {t} answer offers h held e f = λ os x.
      let o : Outcome = dispatch host cs interval sets before os target in let g : t ≡ told_dispatch o.answer = e ∙ ap told_dispatch (held os x).0 in
      record {
        short = λ k. absurd (omega (arith, h, k));
        dispatches = λ _. (o, refl, (held os x).1, (held os x).2, ap (λ (y : Told). y.word) g, f ∙ ap (λ (y : Told). figures_of y ++ drop 4 figures) g);
      }

-- a list taken apart into an array, dispatched there, and put back
pub put_back : (cs : List ℕ) (interval : ℕ) (sets before after : List ℕ) (ys zs₀ : List Offer) (target : ℕ) (figures told : List ℕ) (h : Finished) (n : ℕ) → n ≡ min (length ys) room → n ≤ length ys
    → Tells cs interval sets before after (copied n ys zs₀) (length ys) target figures told h → (ds : List Offer) → ds ≡ h.offers → (r : ℕ) → r ≡ h.word
    → HostDispatches cs interval sets before after ys (copied n ds ys) target figures told r
unfolding copied
put_back cs interval sets before after ys zs₀ target figures told h n e l tells ds d r w =
    subst (λ (k : ℕ). HostDispatches cs interval sets before after ys (take n ds ++ drop n ys) target figures told k) (sym w)
    (subst (λ (zs : List Offer). HostDispatches cs interval sets before after ys zs target figures told h.word) (sym (λ j. take (e j) (d j) ++ drop (e j) ys))
    (tells ys (refl, subst (λ (m : ℕ). take m (take n ys ++ drop n zs₀) ≡ take m ys) e (take_at (take n ys) (drop n zs₀) n (length-take-le n ys l)))))
