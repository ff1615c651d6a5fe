-- The fields that reading a message visits, in order, up to the first that is refused: each with its name, its width and what it may hold.
-- One stands behind the other, so the widths give every field's first bit.
use Rattle.std.specs.Prelude.{◌≡◌, refl, Bool, true, false, List, [], ◌∷◌, ◌++◌, ℕ, ◌+◌, ◌*◌, ◌≤◌, ◌<◌, leb, nat_abs}
use Rattle.std.proofs.Common.{sym, ◌∙◌, ap, subst, append_assoc}
use Rattle.bits.specs.Bits.{field_at, reach}
use Rattle.bits.specs.Pick.{pick}
use Rattle.bits.specs.Twos.{from_twos}
use Rattle.layouts.specs.declared.Fault.{Fault}
use Rattle.layouts.specs.declared.Fault.TheVariants as F
use Rattle.layouts.specs.declared.Clash.{Clash}
use Rattle.layouts.specs.declared.Clash.TheVariants.{Clear, At}
use Rattle.layouts.specs.Faults.{number_of, returned_by}
use Rattle.layouts.specs.Layout.{or_else}
use Rattle.refusals.specs.Names.{Name}

-- ---- a field

-- by the number of a value that it may not hold: 2 "kind or edition wrong", 3 "count .. out of range, or plan count unlike the case's", 4 "other field out of range"
pub data Sort : Type 0 where
  kind_or_edition count other : Sort

abbrev pub fault_of : Sort → ℕ → Fault
fault_of kind_or_edition = F.WrongKind
fault_of count = F.WrongCount
fault_of other = F.OutOfRange

-- what it may hold: a whole number from `low` to `high`, or one in two's complement of a size up to `most`
pub data Range : Type 0 where
  between : (low high : ℕ) → Range
  sized : (most : ℕ) → Range

-- the w bits of v are in range
abbrev pub Within : Range → ℕ → ℕ → Type 0
Within (between low high) w v = (low ≤ v) × (v ≤ high)
Within (sized most) w v = nat_abs (from_twos w v) ≤ most

pub record Part : Type 0 where
  pub name : Name
  pub sort : Sort
  -- whether what it holds contradicts an earlier field: number 5
  pub contradicts : Bool
  pub width : ℕ
  pub range : Range

-- the field from bit `at` on is whole in the message s, and what it holds is in its range
pub record Good (s : List ℕ) (at : ℕ) (f : Part) : Type 0 where
  pub whole : at + f.width ≤ 8 * reach s
  pub within : Within f.range f.width (field_at s at f.width)

-- it is whole, and what it holds is out of its range
abbrev pub Outside : List ℕ → ℕ → Part → Type 0
Outside s at f = (at + f.width ≤ 8 * reach s) × (¬ Within f.range f.width (field_at s at f.width))

-- why the field from bit `at` on is refused with fault x
pub data Why (s : List ℕ) (at : ℕ) (f : Part) (x : Fault) : Type 0 where
  -- 1 "message ends before or inside the field"
  cut : 8 * reach s < at + f.width → x ≡ F.Cut at → Why s at f x
  -- 2, 3 or 4, by what field it is
  outside : Outside s at f → x ≡ fault_of f.sort at → Why s at f x

-- ---- fields one behind the other, the first of which begins at `at`

-- the bit behind the last
abbrev pub end_of : ℕ → List Part → ℕ
end_of at [] = at
end_of at (f ∷ fs) = end_of (at + f.width) fs

-- each is whole and in its range
abbrev pub AllGood : List ℕ → ℕ → List Part → Type 0
AllGood s at [] = Unit {0}
AllGood s at (f ∷ fs) = Good s at f × AllGood s (at + f.width) fs

-- the first bit of the first that does not end within n bits
abbrev pub first_beyond : ℕ → ℕ → List Part → Clash
first_beyond n at [] = Clear
first_beyond n at (f ∷ fs) = let r = first_beyond n (at + f.width) fs in pick (leb (at + f.width) n) r (At at)

-- the first bit of the first that contradicts an earlier one
abbrev pub first_clash : ℕ → List Part → Clash
first_clash at [] = Clear
first_clash at (f ∷ fs) = let r = first_clash (at + f.width) fs in pick f.contradicts (At at) r

-- a field of them begins at bit b
pub record Stands (at : ℕ) (t : List Part) (b : ℕ) : Type 0 where
  pub before : List Part
  pub field : Part
  pub after : List Part
  pub visited : t ≡ before ++ (field ∷ after)
  pub first : end_of at before ≡ b

-- the field that begins at bit b is the first that contradicts an earlier one
pub record Contradiction (at : ℕ) (t : List Part) (b : ℕ) : Type 0 where
  pub stands : Stands at t b
  pub contradicts : stands.field.contradicts ≡ true
  pub first : first_clash at stands.before ≡ Clear

-- the field that begins at bit b is the first that is not whole in n bits: those before it are
pub record NotWhole (n at : ℕ) (t : List Part) (b : ℕ) : Type 0 where
  pub stands : Stands at t b
  pub before : b ≤ n
  pub beyond : n < b + stands.field.width

-- the last of them is refused with fault x; those before it are whole and in their ranges
pub record RefusedAt (s : List ℕ) (at : ℕ) (t : List Part) (x : Fault) : Type 0 where
  pub before : List Part
  pub field : Part
  pub visited : t ≡ before ++ (field ∷ [])
  pub good : AllGood s at before
  pub why : Why s (end_of at before) field x

-- what a refusal of a message by 1 to 4 tells: the last field visited is the one refused, those before it are whole and in their ranges, the bit is its first,
-- and the number says what is wrong with it
pub record FieldTold (s : List ℕ) (t : List Part) (x : Fault) : Type 0 where
  pub at : RefusedAt s 0 t x
  pub bit : returned_by x ≡ end_of 0 at.before
  -- "message ends before or inside the field"
  pub by-1 : number_of x ≡ 1 → 8 * reach s < end_of 0 at.before + at.field.width
  -- "kind or edition wrong"
  pub by_2 : number_of x ≡ 2 → (at.field.sort ≡ kind_or_edition) × Outside s (end_of 0 at.before) at.field
  -- "count .. out of range, or plan count unlike the case's"
  pub by-3 : number_of x ≡ 3 → (at.field.sort ≡ count) × Outside s (end_of 0 at.before) at.field
  -- "other field out of range"
  pub by_4 : number_of x ≡ 4 → (at.field.sort ≡ other) × Outside s (end_of 0 at.before) at.field

-- ---- laws
pub end-append : (at : ℕ) (t u : List Part) → end_of at (t ++ u) ≡ end_of (end_of at t) u
end-append at [] u = refl
end-append at (f ∷ t) u = end-append (at + f.width) t u

pub good-append : (s : List ℕ) (at : ℕ) (t u : List Part) → AllGood s at t → AllGood s (end_of at t) u → AllGood s at (t ++ u)
good-append s at [] u g h = h
good-append s at (f ∷ t) u g h = (g.0, good-append s (at + f.width) t u g.1 h)

pub refused-later : (s : List ℕ) (at : ℕ) (t u : List Part) (x : Fault) → AllGood s at t → RefusedAt s (end_of at t) u x → RefusedAt s at (t ++ u) x
refused-later s at t u x g r = record {
  before = t ++ r.before;
  field = r.field;
  visited = ap (λ (z : List Part). t ++ z) r.visited ∙ sym (append_assoc t r.before (r.field ∷ []));
  good = good-append s at t r.before g r.good;
  why = subst (λ (n : ℕ). Why s n r.field x) (sym (end-append at t r.before)) r.why;
}

-- the first of three
pub first-of-three : (a b c : Clash) → or_else (or_else a b) c ≡ or_else a (or_else b c)
first-of-three Clear b c = refl
first-of-three (At n) b c = refl

pub first-of-none : (a : Clash) → or_else a Clear ≡ a
first-of-none Clear = refl
first-of-none (At n) = refl

pub clash-append : (at : ℕ) (t u : List Part) → first_clash at (t ++ u) ≡ or_else (first_clash at t) (first_clash (end_of at t) u)
clash-append at [] u = refl
clash-append at (f ∷ t) u = go f.contradicts (clash-append (at + f.width) t u)
  where
    go : (d : Bool) → first_clash (at + f.width) (t ++ u) ≡ or_else (first_clash (at + f.width) t) (first_clash (end_of (at + f.width) t) u)
        → pick d (At at) (first_clash (at + f.width) (t ++ u)) ≡ or_else (pick d (At at) (first_clash (at + f.width) t)) (first_clash (end_of (at + f.width) t) u)
    go true ih = refl
    go false ih = ih

-- a cut ahead of what is read, where there is one
abbrev pub unless : {X : Type 0} → Clash → (Fault → X) → X → X
unless (At b) bad x = bad (F.Cut b)
unless Clear bad x = x

pub unless-append : {X : Type 0} (n at : ℕ) (t u : List Part) (bad : Fault → X) (x : X)
    → unless (first_beyond n at t) bad (unless (first_beyond n (end_of at t) u) bad x) ≡ unless (first_beyond n at (t ++ u)) bad x
unless-append n at [] u bad x = refl
unless-append {X} n at (f ∷ t) u bad x = go (leb (at + f.width) n) (unless-append n (at + f.width) t u bad x)
  where
    go : (d : Bool) → unless (first_beyond n (at + f.width) t) bad (unless (first_beyond n (end_of (at + f.width) t) u) bad x) ≡ unless (first_beyond n (at + f.width) (t ++ u)) bad x
        → unless (pick d (first_beyond n (at + f.width) t) (At at)) bad (unless (first_beyond n (end_of (at + f.width) t) u) bad x)
        ≡ unless (pick d (first_beyond n (at + f.width) (t ++ u)) (At at)) bad x
    go true ih = ih
    go false ih = refl
