-- Rules 3 and 4: every earlier stop, or start, of a device lies far enough back.
use Rattle.std.specs.Prelude.{◌≡◌, refl, Bool, true, false, List, ℕ, zero, suc, ◌-◌, ◌≤◌, ◌<◌, leb, eqb}
use Rattle.std.proofs.Common.{sym, ◌∙◌, arith}
use Rattle.std.proofs.Math.Bool.{and-true, and-false}
use borrow.Author.Tests.{le-leb, lt-leb, eq-eqb, ne_eqb}
use Rattle.std.proofs.Math.ListN.{get_or}
use Rattle.bits.specs.Pick.{pick}
use Rattle.numbers.specs.Base.{up_to, implies, every}
use Rattle.numbers.specs.Every.{all-up_to, every_true}
use Rattle.numbers.specs.Ranges.{every-last}
use Rattle.row_places.specs.Figures.{started_at, stopped_at}
use Rattle.rests.specs.declared.Rest.{Rest}

-- su or sd
abbrev pub changed_at : Rest → List (List ℕ) → ℕ → ℕ
changed_at r settings e = pick r.starts (started_at r.on0 settings e) (stopped_at r.on0 settings e)

-- a change in e lies far enough before t
abbrev pub far_at : Rest → List (List ℕ) → List ℕ → ℕ → ℕ → Bool
far_at r settings starts t e = implies (eqb (changed_at r settings e) 1) (leb r.least (get_or starts t 0 - get_or starts e 0))

unfoldable pub apart_at : Rest → List (List ℕ) → List ℕ → ℕ → Bool
apart_at r settings starts t = every (far_at r settings starts t) (up_to t)

-- the times rise up to t
pub record Rising (starts : List ℕ) (t : ℕ) : Type 0 where
  pub up : (e k : ℕ) → e ≤ k → k ≤ t → get_or starts e 0 ≤ get_or starts k 0

-- ---- a loop back from t: what is left says what the whole says

module _ (f : ℕ → Bool) where
  -- those from k to t hold
  pub record Back (t k : ℕ) : Type 0 where
    pub same : every f (up_to k) ≡ every f (up_to t)

  pub back_start : (t : ℕ) → Back t t
  back_start t = record { same = refl }

  pub back-held : (t k : ℕ) → 0 < k → f (k - 1) ≡ true → Back t k → Back t (k - 1)
  back-held t zero l h b = absurd (omega arith)
  back-held t (suc k) l h b = let e : suc k - 1 ≡ k = omega arith in rw e record { same = sym (every-last f k ∙ rw (rw e at h) (and-true (every f (up_to k)))) ∙ b.same }

  pub back-broken : (t k : ℕ) → 0 < k → f (k - 1) ≡ false → Back t k → false ≡ every f (up_to t)
  back-broken t zero l h b = absurd (omega arith)
  back-broken t (suc k) l h b = let e : suc k - 1 ≡ k = omega arith in sym (every-last f k ∙ rw (rw e at h) (and-false (every f (up_to k)))) ∙ b.same

  pub back-rest : (t k : ℕ) → ((e : ℕ) → e < k → f e ≡ true) → Back t k → true ≡ every f (up_to t)
  back-rest t k h b = sym (every_true f (up_to k) (all-up_to _ k h)) ∙ b.same

-- ---- a change in e

module _ (r : Rest) (settings : List (List ℕ)) (starts : List ℕ) (t : ℕ) where
  abbrev far : ℕ → Bool
  far = far_at r settings starts t

  far-true : (e : ℕ) → r.least ≤ get_or starts t 0 - get_or starts e 0 → far e ≡ true
  far-true e h = rw (le-leb r.least (get_or starts t 0 - get_or starts e 0) h) (any (eqb (changed_at r settings e) 1))
    where
      any : (b : Bool) → implies b true ≡ true
      any true = refl
      any false = refl

  -- it lies far enough back, and with it all before it
  pub far-rest : (k : ℕ) → 0 < k → k ≤ t → Rising starts t → r.least ≤ get_or starts t 0 - get_or starts (k - 1) 0 → Back far t k → true ≡ apart_at r settings starts t
  unfolding apart_at
  far-rest k l m up h b = back-rest far t k (λ e n. far-true e (omega (arith, up.up e (k - 1) (omega arith) (omega arith)))) b

  pub far_none : (k : ℕ) → k ≤ 0 → Back far t k → true ≡ apart_at r settings starts t
  unfolding apart_at
  far_none k h b = back-rest far t k (λ e l. absurd (omega arith)) b

  -- it lies near, and is a change
  pub far-broken : (k : ℕ) {z : ℕ} → 0 < k → get_or starts t 0 - get_or starts (k - 1) 0 < r.least → z ≡ changed_at r settings (k - 1) → z ≡ 1 → Back far t k
      → false ≡ apart_at r settings starts t
  unfolding apart_at
  far-broken k l h ez e b =
      back-broken far t k l (rw (eq-eqb (changed_at r settings (k - 1)) 1 (sym ez ∙ e), lt-leb r.least (get_or starts t 0 - get_or starts (k - 1) 0) h) refl) b

  -- it is none
  pub far-next : (k : ℕ) {z : ℕ} → 0 < k → z ≡ changed_at r settings (k - 1) → (z ≡ 1 → ⊥) → Back far t k → Back far t (k - 1)
  far-next k l ez n b = back-held far t k l (rw (ne_eqb (changed_at r settings (k - 1)) 1 (λ e. n (ez ∙ e))) refl) b
