-- Laws of a plan's turn: a completion fits what is left of the buffer, and what lies behind it stays.
use Rattle.std.specs.Prelude.{◌≡◌, List, [], ◌∷◌, ◌++◌, ℕ, ◌+◌, ◌≤◌, leb, ℤ, length, drop}
use Rattle.std.proofs.Math.Path.{refl}
use Rattle.std.proofs.Common.{sym, ap, ◌∙◌, arith, length-append, length-drop, drop_at}
use Rattle.std.proofs.Math.Decide.{dec_le}
use Rattle.std.proofs.lemmas.Bool.{lt-leb}
use Rattle.bits.specs.Pick.{pick}
use Rattle.layouts.specs.declared.Fault.TheVariants.{TooShort}
use Rattle.layouts.specs.Layout.{Whole, passes, fails}
use Rattle.model.specs.Case.{Plan}
use Rattle.model.specs.declared.Breach.{Breach}
use Rattle.model.specs.declared.Subject.TheVariants as S
use Rattle.model.specs.declared.Verdict.{Verdict}
use Rattle.model.specs.declared.Verdict.TheVariants.{Accepted, Broken, Refused}
use Rattle.model.specs.Breaches.{breaches}
use Rattle.model.specs.ByEdition.{Stated}
use Rattle.model.specs.Judgement.{verdict, accepts, judged, unless_broken, buffer_after, with_plan, read_plan, completion_bytes, our_surplus}
use Rattle.stacks.specs.Stack.{bytes_by, turn, turn_bytes}
use Rattle.stacks.specs.Turns.{Leaves, TakesTurn, written_by}

leaves_all : (before : List ℕ) → Leaves 0 before before
leaves_all before = record { fits = omega arith; long = refl; behind = refl }

leaves-front : (out before : List ℕ) → length out ≤ length before → Leaves (length out) before (out ++ drop (length out) before)
leaves-front out before h = record {
  fits = h;
  long = length-append out (drop (length out) before) ∙ omega (arith, length-drop (length out) before);
  behind = drop_at out (drop (length out) before) (length out) refl;
}

-- a completion that is accepted has room
accepted-fits : (y : Stated) (p : Plan) (room : ℕ) (z : ℤ) → verdict y p room ≡ Accepted z → length (completion_bytes y p) ≤ room
unfolding verdict accepts
accepted-fits y p room z e = go (breaches y.case.system p) e
  where
    go : (bs : List Breach) → unless_broken bs (pick (leb (length (completion_bytes y p)) room) (Accepted (our_surplus y.case p))
        (Refused S.Result (TooShort (length (completion_bytes y p))))) ≡ Accepted z → length (completion_bytes y p) ≤ room
    go [] u = elim (dec_le (length (completion_bytes y p)) room) [
      | yes h ↦ h
      | no h ↦
          let k : Refused S.Result (TooShort (length (completion_bytes y p))) ≡ Accepted z = rw (lt-leb (length (completion_bytes y p)) room (omega arith)) at u in
          absurd (let c : ◌≡◌ {A = ℕ} 0 1 = cc in omega arith)
    ]
    go (b ∷ bs) u = absurd (let c : ◌≡◌ {A = ℕ} 0 1 = cc in omega arith)

module _ (y : Stated) (buffer : List ℕ) where
  after-leaves : (p : Plan) (v : Verdict) → verdict y p (length buffer) ≡ v → Leaves (bytes_by y (passes p) v) buffer (buffer_after v (completion_bytes y p) buffer)
  after-leaves p (Accepted z) e = leaves-front (completion_bytes y p) buffer (accepted-fits y p (length buffer) z e)
  after-leaves p (Broken b) e = leaves_all buffer
  after-leaves p (Refused s f) e = leaves_all buffer

  read-leaves : (w : Whole Plan) → Leaves (bytes_by y w (with_plan y buffer w).verdict) buffer (with_plan y buffer w).result
  unfolding judged
  read-leaves (passes p) = after-leaves p (verdict y p (length buffer)) refl
  read-leaves (fails f) = leaves_all buffer

  pub turn-leaves : (ps : List ℕ) → Leaves (turn_bytes y buffer ps) buffer (turn y buffer ps).result
  turn-leaves ps = read-leaves (read_plan y ps)

  -- only acceptance writes
  quiet-after : (p : Plan) (v : Verdict) → ((z : ℤ) → v ≡ Accepted z → ⊥) → (bytes_by y (passes p) v ≡ 0) × (buffer_after v (completion_bytes y p) buffer ≡ buffer)
  quiet-after p (Accepted z) h = absurd (h z refl)
  quiet-after p (Broken b) h = (refl, refl)
  quiet-after p (Refused s f) h = (refl, refl)

  read-quiet : (w : Whole Plan) → ((z : ℤ) → (with_plan y buffer w).verdict ≡ Accepted z → ⊥)
      → (bytes_by y w (with_plan y buffer w).verdict ≡ 0) × ((with_plan y buffer w).result ≡ buffer)
  unfolding judged
  read-quiet (passes p) h = quiet-after p (verdict y p (length buffer)) h
  read-quiet (fails f) h = (refl, refl)

  pub turn-quiet : (ps : List ℕ) → ((z : ℤ) → (turn y buffer ps).verdict ≡ Accepted z → ⊥) → (turn_bytes y buffer ps ≡ 0) × ((turn y buffer ps).result ≡ buffer)
  turn-quiet ps h = read-quiet (read_plan y ps) h

  -- the bytes where the completions of a case's plans take as many
  bytes-by : (w : Whole Plan) (v : Verdict) {n : ℕ} → ((p : Plan) → length (completion_bytes y p) ≡ n) → v ≡ (with_plan y buffer w).verdict → written_by n v ≡ bytes_by y w v
  bytes-by (passes p) (Accepted z) each e = sym (each p)
  bytes-by (passes p) (Broken b) each e = refl
  bytes-by (passes p) (Refused s f) each e = refl
  bytes-by (fails f) (Accepted z) each e = absurd (let c : ◌≡◌ {A = ℕ} 0 1 = cc in omega arith)
  bytes-by (fails f) (Broken b) each e = refl
  bytes-by (fails f) (Refused s g) each e = refl

  pub turn-bytes : (ps : List ℕ) {v : Verdict} {n : ℕ} → ((p : Plan) → length (completion_bytes y p) ≡ n) → v ≡ (turn y buffer ps).verdict → written_by n v ≡ turn_bytes y buffer ps
  turn-bytes ps {v} each e = bytes-by (read_plan y ps) v each e ∙ ap (bytes_by y (read_plan y ps)) e

-- a completion fits the buffer that was left for it
pub taken-fits : {y : Stated} {ps before after table told : List ℕ} {n : ℕ} → TakesTurn y ps before after table told n → n ≤ length before
taken-fits {y} {ps} {before} t = omega (arith, t.bytes, (turn-leaves y before ps).fits)
