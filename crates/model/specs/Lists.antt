-- "Every broken rule of a metered day": what listing the breaches of a plan against a case gives back, the answer and the list's buffer afterwards.
use Rattle.std.specs.Prelude.{List, [], ◌∷◌, ◌++◌, ℕ, leb, length, drop}
use Rattle.bits.specs.Pick.{pick}
use Rattle.numbers.specs.Base.{gather}
use Rattle.layouts.specs.declared.Fault.TheVariants.{TooShort}
use Rattle.layouts.specs.Layout.{Whole, passes, fails}
use Rattle.model.specs.declared.Breach.{Breach}
use Rattle.model.specs.declared.Subject.TheVariants as S
use Rattle.model.specs.declared.Listing.{Listing}
use Rattle.model.specs.declared.Listing.TheVariants.{Listed, Refused}
use Rattle.model.specs.Case.{Plan}
use Rattle.model.specs.Breaches.{breaches}
use Rattle.model.specs.Editions.{Largest}
use Rattle.model.specs.ByEdition.{Stated, stated_in}
use Rattle.model.specs.Judgement.{read_plan}

-- "four bytes (rule, interval, device, window)"
abbrev pub breach_bytes : Breach → List ℕ
breach_bytes b = b.rule ∷ b.interval ∷ b.device ∷ b.window ∷ []

-- one behind the other, "in document 01's order"
unfoldable pub list_bytes : List Breach → List ℕ
list_bytes bs = gather breach_bytes bs

-- "return how many"; "It then refuses with 7 when the buffer can't hold the list"
unfoldable pub listing : List Breach → ℕ → Listing
listing bs room = pick (leb (length (list_bytes bs)) room) (Listed (length bs)) (Refused S.Result (TooShort (length (list_bytes bs))))

-- "the rest of the buffer unchanged"; a refusal "writes nothing"
abbrev pub list_after : Listing → List ℕ → List ℕ → List ℕ
list_after (Listed n) out buffer = out ++ drop (length out) buffer
list_after (Refused s f) out buffer = buffer

-- the answer, and the list's buffer as it is afterwards
pub record Listings : Type 0 where
  pub answer : Listing
  pub list : List ℕ

-- of a plan that passed reading
unfoldable pub listed : Stated → Plan → List ℕ → Listings
listed x p buffer = let bs = breaches x.case.system p in let r = listing bs (length buffer) in record { answer = r; list = list_after r (list_bytes bs) buffer }

-- "Reading refusals come first", case, then plan
abbrev pub list_plan : Stated → List ℕ → Whole Plan → Listings
list_plan x buffer (passes p) = listed x p buffer
list_plan x buffer (fails f) = record { answer = Refused S.Plan f; list = buffer }

abbrev pub list_case : List ℕ → List ℕ → Whole Stated → Listings
list_case ps buffer (passes x) = list_plan x buffer (read_plan x ps)
list_case ps buffer (fails f) = record { answer = Refused S.Case f; list = buffer }

-- from the bytes of a case and a plan, by a reader that takes counts up to these
unfoldable pub listings : Largest → List ℕ → List ℕ → List ℕ → Listings
listings l cs ps buffer = list_case ps buffer (stated_in l cs)
