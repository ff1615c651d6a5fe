-- What a start gives the intervals before it, and a stop itself and those after it.
use Rattle.std.specs.Prelude.{◌≡◌, refl, Bool, true, false, ◌&&◌, List, ℕ, ◌+◌, ◌-◌, ◌*◌, ◌≤◌, ◌<◌, ltb, leb, eqb, length, get_or}
use Rattle.std.proofs.Common.{sym, ap, ◌∙◌, arith, mul-le-mul_left, le-leb, lt-ltb, le-ltb}
use Rattle.std.proofs.Math.Decide.{dec_le}
use Rattle.std.proofs.lemmas.Bool.{lt-leb}
use Rattle.numbers.specs.Sum.{gate}
use Rattle.bits.specs.Pick.{pick}
use Rattle.row_places.specs.Figures.{pmin_at}
use Rattle.records.specs.Views.{most_power}
use Rattle.clock.specs.Times.{Clock}

-- the power that a device leaves when it stops
abbrev pub leaves_at : ℕ → List (List ℕ) → ℕ → ℕ
leaves_at power0 cells t = pick (eqb t 0) power0 (pmin_at cells (t - 1))

-- what is left at the end of interval k of the power of a start, of a stop, in interval e
abbrev pub rise_in : (power ramp : ℕ) → List ℕ → ℕ → ℕ → ℕ
rise_in power ramp starts e k = power - ramp * (get_or starts (e + 1) 0 - get_or starts (k + 1) 0)

abbrev pub fall_in : (power ramp : ℕ) → List ℕ → ℕ → ℕ → ℕ
fall_in power ramp starts e k = power - ramp * (get_or starts (k + 1) 0 - get_or starts e 0)

-- the numbers from a on, below b, raised by f
pub record Raised (f : ℕ → ℕ) (a b : ℕ) (old new : List ℕ) : Type 0 where
  pub long : length new ≡ length old
  pub number : (k : ℕ) → get_or new k 0 ≡ get_or old k 0 + gate (leb a k && ltb k b) (f k)

-- what adding a trajectory asks
pub record Ramped (power ramp : ℕ) (starts : List ℕ) (e : ℕ) (row : List ℕ) : Type 0 where
  pub interval : e < length row
  pub clock : Clock (length row) starts
  pub low : (k : ℕ) → get_or row k 0 ≤ most_power - 100000
  pub power_small : power ≤ 100000
  pub ramp-small : ramp ≤ 100000

module _ (a b k : ℕ) where
  pub within : a ≤ k → k < b → (leb a k && ltb k b) ≡ true
  within h i = rw (le-leb a k h, lt-ltb k b i) refl

  pub past : b ≤ k → (leb a k && ltb k b) ≡ false
  past h = rw (le-ltb k b h) (both (leb a k))
    where
      both : (t : Bool) → (t && false) ≡ false
      both true = refl
      both false = refl

  pub ahead : k < a → (leb a k && ltb k b) ≡ false
  ahead h = rw (lt-leb a k h) refl

module _ (f : ℕ → ℕ) where
  -- nothing is left behind, nothing is left ahead
  pub raised-up : {a b c : ℕ} {old new : List ℕ} → a ≤ b → b ≤ c → ((k : ℕ) → b ≤ k → k < c → f k ≡ 0) → Raised f a b old new → Raised f a c old new
  raised-up {a} {b} {c} {old} {new} l m z h = record { long = h.long; number = λ k. h.number k ∙ ap (λ (n : ℕ). get_or old k 0 + n) (go k (dec_le b k) (dec_le c k)) }
    where
      go : (k : ℕ) → Dec (b ≤ k) → Dec (c ≤ k) → gate (leb a k && ltb k b) (f k) ≡ gate (leb a k && ltb k c) (f k)
      go k (yes x) (yes y) = rw (past a b k x, past a c k y) refl
      go k (yes x) (no y) = rw (past a b k x, within a c k (omega arith) (omega arith), z k x (omega arith)) refl
      go k (no x) d = rw (lt-ltb k b (omega arith), lt-ltb k c (omega arith)) refl

  pub raised-down : {a b c : ℕ} {old new : List ℕ} → a ≤ b → b ≤ c → ((k : ℕ) → a ≤ k → k < b → f k ≡ 0) → Raised f b c old new → Raised f a c old new
  raised-down {a} {b} {c} {old} {new} l m z h = record { long = h.long; number = λ k. h.number k ∙ ap (λ (n : ℕ). get_or old k 0 + n) (go k (dec_le b k) (dec_le a k)) }
    where
      go : (k : ℕ) → Dec (b ≤ k) → Dec (a ≤ k) → gate (leb b k && ltb k c) (f k) ≡ gate (leb a k && ltb k c) (f k)
      go k (yes x) d = rw (le-leb b k x, le-leb a k (omega arith)) refl
      go k (no x) (yes y) = rw (ahead b c k (omega arith), within a c k y (omega arith), z k y (omega arith)) refl
      go k (no x) (no y) = rw (ahead b c k (omega arith), ahead a c k (omega arith)) refl

-- ---- where nothing is left, nothing is left further off

module _ {power ramp : ℕ} {starts : List ℕ} {e : ℕ} {row : List ℕ} (h : Ramped power ramp starts e row) where
  further : (x y : ℕ) → x ≤ y → power - ramp * x ≡ 0 → power - ramp * y ≡ 0
  further x y l z = omega (arith, mul-le-mul_left ramp l)

  pub none_after : (t : ℕ) → e ≤ t → t < length row → fall_in power ramp starts e t ≡ 0 → (k : ℕ) → t ≤ k → k < length row → fall_in power ramp starts e k ≡ 0
  none_after t l m z k a b = further _ _ (omega (arith, h.clock.rising (t + 1) (k + 1) (omega arith) (omega arith))) z

  pub none_before : (t : ℕ) → t < e → rise_in power ramp starts e t ≡ 0 → (k : ℕ) → k ≤ t → rise_in power ramp starts e k ≡ 0
  none_before t l z k a = further _ _ (omega (arith, h.clock.rising (k + 1) (t + 1) (omega arith) (omega (arith, h.interval)))) z

  -- going back from a start: the numbers from t on are raised
  module _ {t : ℕ} {now : List ℕ} (l : t ≤ e) (m : 0 < t) (r : Raised (rise_in power ramp starts e) t e row now) where
    module _ {left : ℕ} (is : left ≡ power - ramp * (get_or starts (e + 1) 0 - get_or starts t 0)) where
      here : left ≡ rise_in power ramp starts e (t - 1)
      here = let z : t - 1 + 1 ≡ t = omega arith in is ∙ rw z refl

      pub before-stop : left ≡ 0 → Raised (rise_in power ramp starts e) 0 e row now
      before-stop z = raised-down (rise_in power ramp starts e) (omega arith) l (λ k a b. none_before (t - 1) (omega arith) (sym here ∙ z) k (omega arith)) r

  -- going on from a stop: the numbers below t are raised
  module _ {t : ℕ} {now : List ℕ} (l : e ≤ t) (m : t < length row) (r : Raised (fall_in power ramp starts e) e t row now) where
    module _ {left : ℕ} (is : left ≡ fall_in power ramp starts e t) where
      pub after_stop : left ≡ 0 → Raised (fall_in power ramp starts e) e (length row) row now
      after_stop z = raised-up (fall_in power ramp starts e) l (omega arith) (λ k a b. none_after t l m (sym is ∙ z) k a b) r
