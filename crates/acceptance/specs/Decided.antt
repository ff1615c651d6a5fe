-- A plan that breaks no rule: a buffer too short, or acceptance.
use Rattle.std.specs.Prelude.{◌≡◌, refl, List, [], ◌++◌, ℕ, ◌≤◌, ◌<◌, length, ℤ}
use Rattle.std.proofs.Common.{sym, ◌∙◌, arith, le-leb}
use Rattle.std.proofs.Math.Path.{ap}
use Rattle.std.proofs.lemmas.Bool.{lt-leb}
use Rattle.std.proofs.Math.ListN.{drop}
use Rattle.layouts.specs.declared.Fault.TheVariants.{TooShort}
use Rattle.model.specs.declared.Subject.TheVariants as S
use Rattle.model.specs.declared.Verdict.{Verdict}
use Rattle.model.specs.declared.Verdict.TheVariants.{Accepted, Refused}
use Rattle.model.specs.Case.{Plan, System}
use Rattle.model.specs.ByEdition.{Stated}
use Rattle.model.specs.Breaches.{breaches}
use Rattle.model.proofs.Named.{every-none}
use Rattle.model.specs.Judgement.{counts_of, judged, verdict, accepts, buffer_after, our_surplus, completion_bytes}
use Rattle.theorems.specs.Back.{Countable}
use Rattle.row_places.specs.declared.Front.{Front}
use Rattle.records.specs.Views.{system_in, plan_in}
use Rattle.money.specs.Unbroken.{Unbroken}
use Rattle.completions.specs.Windows.{Few}
use Rattle.completions.specs.Whole.{message_of, needed_for, message-long, Completes}
use Rattle.decoded_cases.specs.Decoded.{stated_rows}

-- ---- the verdict by its cases

module _ (x : Stated) (p : Plan) (room : ℕ) (none : breaches x.case.system p ≡ []) where
  short-verdict : room < length (completion_bytes x p) → verdict x p room ≡ Refused S.Result (TooShort (length (completion_bytes x p)))
  unfolding verdict accepts
  short-verdict h = rw none (rw (lt-leb (length (completion_bytes x p)) room h) refl)

  long-verdict : length (completion_bytes x p) ≤ room → verdict x p room ≡ Accepted (our_surplus x.case p)
  unfolding verdict accepts
  long-verdict h = rw none (rw (le-leb (length (completion_bytes x p)) room h) refl)

-- ---- a decoded plan

module _ (front : Front) (halves : List ℕ) (zones minima devices cells settings : List (List ℕ)) where
  abbrev x : Stated
  x = stated_rows front halves zones minima devices cells

  abbrev q : System
  q = system_in halves zones minima devices cells

  abbrev p : Plan
  p = plan_in (length devices) (length halves) settings

  -- what judging the plan leaves
  pub record Decides (before after : List ℕ) (v : Verdict) : Type 0 where
    pub verdict : v ≡ (judged x p before).verdict
    pub result : after ≡ (judged x p before).result

  -- a plan that breaks no rule, with its forced figures
  pub record Kept (starts powers : List ℕ) : Type 0 where
    pub unbroken : Unbroken front halves zones minima devices cells settings starts powers
    pub countable : Countable front.edition (counts_of q)

  -- from the verdict on it and what that leaves
  pub decides : (before : List ℕ) {after : List ℕ} {v : Verdict} → v ≡ verdict x p (length before) → after ≡ buffer_after v (completion_bytes x p) before → Decides before after v
  unfolding judged
  decides before e f = record { verdict = e; result = f ∙ ap (λ (y : Verdict). buffer_after y (completion_bytes x p) before) e }

  module _ {starts powers : List ℕ} (u : Kept starts powers) where
    none : breaches q p ≡ []
    none = every-none q p u.unbroken.rules

    pub few-of : Few halves zones devices
    few-of = let r = u.unbroken.ready.case_rows in record { few-devices = r.few-devices; few-intervals = r.few-intervals; few-zones = r.few-zones; counted = r.counted }

    -- the bytes that the completion takes
    bytes-long : length (completion_bytes x p) ≡ needed_for front.edition halves zones devices
    unfolding completion_bytes
    bytes-long = message-long u.unbroken.ready.case_rows settings (our_surplus x.case p)

    -- a buffer too short
    pub decides-short : (before : List ℕ) {n : ℕ} → n ≡ needed_for front.edition halves zones devices → length before < n → Decides before before (Refused S.Result (TooShort n))
    decides-short before {n} e h =
        let f : n ≡ length (completion_bytes x p) = e ∙ sym bytes-long in
        decides before (rw f (sym (short-verdict x p (length before) none (rw f at h)))) refl

    -- acceptance
    pub decides-accepted : (before : List ℕ) {after : List ℕ} {z : ℤ} → needed_for front.edition halves zones devices ≤ length before
        → Completes front halves zones minima devices cells settings before after z → Decides before after (Accepted z)
    unfolding completion_bytes
    decides-accepted before {after} {z} h w =
        let m = message_of front halves zones minima devices cells settings in
        decides before (rw w.surplus (sym (long-verdict x p (length before) none (omega (arith, bytes-long)))))
        (w.wrote ∙ ap (λ (y : ℤ). m y ++ drop (length (m y)) before) w.surplus)
