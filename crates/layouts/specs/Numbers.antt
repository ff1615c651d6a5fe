-- "What the unit gives back": the paper's numbers 1 to 6, by what each tells of a message.
use Rattle.std.specs.Prelude.{◌≡◌, ◌⊎◌, List, ℕ, ◌<◌, Bool, true, false, leb, nat_abs}
use Rattle.std.proofs.Math.Path.{refl}
use Rattle.std.proofs.Common.{sym, ap, ◌∙◌, inl, inr, arith}
use borrow.Author.Tests.{lt-leb}
use Rattle.bits.specs.Pick.{pick}
use Rattle.bits.specs.Bits.{read_field}
use Rattle.bits.specs.Twos.{from_twos}
use Rattle.bits.specs.declared.Cursor.{Cursor}
use Rattle.bits.specs.declared.Field.TheVariants.{Value, Cut}
use Rattle.layouts.specs.declared.Fault.{Fault}
use Rattle.layouts.specs.declared.Fault.TheVariants as F
use Rattle.layouts.specs.declared.Clash.{Clash}
use Rattle.layouts.specs.declared.Clash.TheVariants.{Clear, At}
use Rattle.layouts.specs.declared.Place.{Place}
use Rattle.layouts.specs.Faults.{number_of, returned_by}
use Rattle.layouts.specs.Layout.{Layout, Field, Whole, fails, nat, int, figure, count_of, fixed, begin, settle, tail_fault, read_whole}
use Rattle.layouts.specs.Checked.{Outcome, stops, goes, Checked}

-- a refusal by the paper's number, with what is returned
pub record ByNumber : Type 0 where
  pub number : ℕ
  pub returned : ℕ

abbrev pub by_number : Fault → ByNumber
by_number f = record { number = number_of f; returned = returned_by f }

-- how the fields of a message are read: up to a refusal, or to the place behind the last
pub data Fields : Type 0 where
  refused : ByNumber → Fields
  read : Place → Fields

unfoldable pub fields_of : {A : Type 0} → Layout A → List ℕ → Place → Fields
fields_of l s p = l.read s p (λ f. refused (by_number f)) (λ a after. read after)

-- ---- numbers 1 to 4, "field's first bit"

module _ (s : List ℕ) (p : Place) where
  abbrev pub at_first : ℕ → Fields
  at_first n = refused (record { number = n; returned = p.at })

  -- 1 "message ends before or inside the field"
  pub cut-is-1 : (f : Field) {b : ℕ} → read_field s p.at f.width ≡ Cut b → fields_of (nat f) s p ≡ at_first 1
  unfolding fields_of nat
  cut-is-1 f e = rw e refl

  pub signed-cut-is-1 : (w most : ℕ) {b : ℕ} → read_field s p.at w ≡ Cut b → fields_of (int w most) s p ≡ at_first 1
  unfolding fields_of int
  signed-cut-is-1 w most e = rw e refl

  tested : (a b : Bool) (x y : Fields) → (a ≡ false) ⊎ (b ≡ false) → pick a (pick b x y) y ≡ y
  tested true true x y (inl h) = absurd (let z : ◌≡◌ {A = ℕ} 0 1 = cc in omega arith)
  tested true true x y (inr h) = absurd (let z : ◌≡◌ {A = ℕ} 0 1 = cc in omega arith)
  tested true false x y h = refl
  tested false b x y h = refl

  outside : {low high v : ℕ} → (v < low) ⊎ (high < v) → (leb low v ≡ false) ⊎ (leb v high ≡ false)
  outside {low} {high} {v} (inl h) = inl (lt-leb low v h)
  outside {low} {high} {v} (inr h) = inr (lt-leb v high h)

  -- a value out of its range has the field's own fault
  pub wrong-is : (f : Field) (v : ℕ) (c : Cursor) → read_field s p.at f.width ≡ Value v c → (v < f.low) ⊎ (f.high < v) → fields_of (nat f) s p ≡ refused (by_number (f.wrong p.at))
  unfolding fields_of nat
  wrong-is f v c e h = rw e (tested (leb f.low v) (leb v f.high) _ _ (outside h))

  module _ {v : ℕ} {c : Cursor} where
    -- 2 "kind or edition wrong"
    pub kind-is-2 : (value : ℕ) → read_field s p.at 4 ≡ Value v c → (v < value) ⊎ (value < v) → fields_of (fixed value) s p ≡ at_first 2
    kind-is-2 value e h = wrong-is (record { width = 4; low = value; high = value; wrong = F.WrongKind }) v c e h

    -- 3 "count (of devices, intervals, zones, states, windows or blocks) out of range, or plan count unlike the case's"
    pub count-is-3 : (w low high : ℕ) → read_field s p.at w ≡ Value v c → (v < low) ⊎ (high < v) → fields_of (nat (count_of w low high)) s p ≡ at_first 3
    count-is-3 w low high e h = wrong-is (count_of w low high) v c e h

    -- 4 "other field out of range"
    pub figure-is-4 : (w low high : ℕ) → read_field s p.at w ≡ Value v c → (v < low) ⊎ (high < v) → fields_of (figure w low high) s p ≡ at_first 4
    figure-is-4 w low high e h = wrong-is (record { width = w; low = low; high = high; wrong = F.OutOfRange }) v c e h

    pub signed-is-4 : (w most : ℕ) → read_field s p.at w ≡ Value v c → most < nat_abs (from_twos w v) → fields_of (int w most) s p ≡ at_first 4
    unfolding fields_of int
    signed-is-4 w most e h = rw (e, lt-leb (nat_abs (from_twos w v)) most h) refl

-- ---- the whole message: "fields in message order (1 to 4), then 6, then 5 in message order"

-- what a refusal of a whole message tells by its number
pub data Tells {A : Type 0} (l : Layout A) (s : List ℕ) (f : Fault) : Type 0 where
  -- a field is cut or out of its range: its own number, whatever stands behind it
  by_field : fields_of l s begin ≡ refused (by_number f) → Tells l s f
  -- 6 "first wrong bit: fill bit not 0, or first bit of a surplus byte", where every field is in its range
  by-tail : (p : Place) → fields_of l s begin ≡ read p → tail_fault s p.at ≡ At (returned_by f) → number_of f ≡ 6 → Tells l s f
  -- 5 "first bit of the later field", where every field is in its range and nothing is wrong behind the last
  by-clash : (p : Place) → fields_of l s begin ≡ read p → tail_fault s p.at ≡ Clear → p.clash ≡ At (returned_by f) → number_of f ≡ 5 → Tells l s f

pub fails-tells : {A : Type 0} (l : Layout A) (P : A → Type 0) → Checked l P → (s : List ℕ) (f : Fault) → read_whole l s ≡ fails f → Tells l s f
unfolding read_whole settle fields_of
fails-tells {A} l P u s f h = go (u.outcome s begin)
  where
    same : {g : Fault} → ◌≡◌ {A = Whole A} (fails g) (fails f) → g ≡ f
    same e = cc

    settled : (x : A) (p : Place) (t c : Clash) → tail_fault s p.at ≡ t → p.clash ≡ c → fields_of l s begin ≡ read p → settle x t c ≡ fails f → Tells l s f
    settled x p (At b) c d k r e = let g : F.Tail b ≡ f = same e in by-tail p r (rw (sym g) d) (rw (sym g) refl)
    settled x p Clear (At b) d k r e = let g : F.Contradiction b ≡ f = same e in by-clash p r d (rw (sym g) k) (rw (sym g) refl)
    settled x p Clear Clear d k r e = absurd (let z : ◌≡◌ {A = ℕ} 0 1 = cc in omega arith)

    go : Outcome P (λ X bad next. l.read {X = X} s begin bad next) → Tells l s f
    go (stops g e) =
        let t : g ≡ f = same (sym (e (Whole A) fails (λ a p. settle a (tail_fault s p.at) p.clash)) ∙ h) in
        by_field (e Fields (λ f. refused (by_number f)) (λ a p. read p) ∙ ap (λ (g : Fault). refused (by_number g)) t)
    go (goes x p k e) = settled x p (tail_fault s p.at) p.clash refl refl (e Fields (λ f. refused (by_number f)) (λ a p. read p))
        (sym (e (Whole A) fails (λ a p. settle a (tail_fault s p.at) p.clash)) ∙ h)
