-- "Renumbering sets": what it promises of two pairs of a case and a plan that passed reading, of any editions, whose devices are rearranged alike.
use Rattle.std.specs.Prelude.{◌≡◌, ◌↔◌, ℕ, ◌≤◌, length, ℤ}
use mathlib.Core.List.{List, Memᴰ}
use Rattle.numbers.specs.Every.{Ordered}
use Rattle.layouts.specs.Layout.{bytes}
use Rattle.model.specs.declared.Breach.{Breach}
use Rattle.model.specs.declared.Verdict.{Verdict}
use Rattle.model.specs.declared.Verdict.TheVariants.{Accepted, Broken}
use Rattle.model.specs.Case.{Plan, Case}
use Rattle.model.specs.Forced.{devices}
use Rattle.model.specs.Rules.{EveryRule, Before}
use Rattle.model.specs.Breaches.{breaches}
use Rattle.model.specs.Ours.{ours}
use Rattle.model.specs.ByEdition.{Stated}
use Rattle.model.specs.Judgement.{our_surplus, completion_bytes, completion_in, written, verdict}
use Rattle.renumbering.specs.Permute.{Renumbering}
use Rattle.renumbering.specs.Renumbered.{rearranged_case, carried_breach, CarriedChoices}
use Rattle.renumbering.specs.Message.{windows_of, rearranged_written}

-- what a message of edition e states of a case with its devices rearranged
abbrev pub rearranged_stated : {n : ℕ} → ℕ → Renumbering n → Case → Stated
rearranged_stated e r c = record { edition = e; case = rearranged_case r c }

-- the same verdict, but for the place of a breach: "The named first breach may differ"
pub data SameVerdict : Verdict → Verdict → Type 0 where
  same : (v w : Verdict) → v ≡ w → SameVerdict v w
  broken : (a b : Breach) → SameVerdict (Broken a) (Broken b)

-- "the set of breaches from A.5, with device numbers carried along, may not": each of the one, carried along, is in the other; no other is there; each once in both
pub record SameBreaches {n : ℕ} (r : Renumbering n) (bs bs' : List Breach) : Type 0 where
  pub carried : (b : Breach) → Memᴰ b bs → Memᴰ (carried_breach r.to b) bs'
  pub came : (b : Breach) → Memᴰ b bs' → Memᴰ (carried_breach r.back b) bs × (carried_breach r.to (carried_breach r.back b) ≡ b)
  pub many : length bs' ≡ length bs
  -- strictly increasing in paper 01's order
  pub once : Ordered Before bs
  pub once' : Ordered Before bs'

pub record Renumbers (x : Stated) (p : Plan) (r : Renumbering (devices x.case.system)) (x' : Stated) (p' : Plan) : Type 0 where
  -- "the plan is accepted exactly when it was, the surplus is equal", with "result buffers long enough"
  pub accepted : (room room' : ℕ) → length (completion_bytes x p) ≤ room → length (completion_bytes x' p') ≤ room' → (z : ℤ)
      → (verdict x p room ≡ Accepted z) ↔ (verdict x' p' room' ≡ Accepted z)
  pub verdicts : (room room' : ℕ) → length (completion_bytes x p) ≤ room → length (completion_bytes x' p') ≤ room' → SameVerdict (verdict x p room) (verdict x' p' room')
  pub surplus : our_surplus x'.case p' ≡ our_surplus x.case p
  -- no rule broken, exactly when none was
  pub rules : EveryRule x.case.system p ↔ EveryRule x'.case.system p'
  -- "zone shortfalls and mismatches are equal, and each device's part of the completion goes with it"
  pub choices : CarriedChoices r (ours x.case p) (ours x'.case p')
  -- and so among the fields of its message
  pub fields : (z : ℤ) → written x'.case.system (ours x'.case p') z ≡ rearranged_written r (windows_of x.case.system) (written x.case.system (ours x.case p) z)
  -- the set of breaches
  pub broken : SameBreaches r (breaches x.case.system p) (breaches x'.case.system p')

-- in one edition the message that an accepted plan gets is the old one, rearranged
unfoldable pub rearranged_message : (x : Stated) (p : Plan) → Renumbering (devices x.case.system) → List ℕ
rearranged_message x p r = bytes ((completion_in x.edition x.case.system).write
    (rearranged_written r (windows_of x.case.system) (written x.case.system (ours x.case p) (our_surplus x.case p))))

-- so it is as long, and verdicts are the same in any two buffers of one length, 7 included
pub record OneEdition (x : Stated) (p : Plan) (r : Renumbering (devices x.case.system)) (x' : Stated) (p' : Plan) : Type 0 where
  pub message : completion_bytes x' p' ≡ rearranged_message x p r
  pub long : length (completion_bytes x' p') ≡ length (completion_bytes x p)
  pub verdicts : (room : ℕ) → SameVerdict (verdict x p room) (verdict x' p' room)
