-- The fields that reading a message visits, in order, up to the first that is refused: each with its name, its width and what it may hold.
-- One stands behind the other, so the widths give every field's first bit.
use Rattle.std.specs.Prelude.{◌≡◌, refl, Bool, true, false, List, [], ◌∷◌, ◌++◌, ℕ, ◌+◌, ◌*◌, ◌≤◌, ◌<◌, leb}
use Rattle.std.proofs.Common.{sym, ◌∙◌, ap, subst, arith, leb-true, leb-false}
use Rattle.bits.specs.Bits.{reach}
use Rattle.bits.specs.Pick.{pick}
use Rattle.layouts.specs.declared.Fault.{Fault}
use Rattle.layouts.specs.declared.Clash.TheVariants.{Clear, At}
use Rattle.layouts.specs.Faults.{number_of, returned_by}
use Rattle.refusals.specs.Visited.{AllGood, Contradiction, FieldTold, Good, NotWhole, Outside, Part, RefusedAt, Sort, Why, count, cut, end_of, fault_of, first_beyond, first_clash, kind_or_edition, other, outside}

-- ---- what the number and the bit of a refusal tell of its field
abbrev number_by : Sort → ℕ
number_by kind_or_edition = 2
number_by count = 3
number_by other = 4

number-by : (k : Sort) (b : ℕ) → number_of (fault_of k b) ≡ number_by k
number-by kind_or_edition b = refl
number-by count b = refl
number-by other b = refl

sort-by : (k : Sort) {n : ℕ} → number_by k ≡ n → (1 < n) × (n < 5)
sort-by kind_or_edition e = omega arith
sort-by count e = omega arith
sort-by other e = omega arith

module _ {s : List ℕ} {at : ℕ} {f : Part} {x : Fault} where
  -- the bit is the field's first
  bit-is-first : Why s at f x → returned_by x ≡ at
  bit-is-first (cut h e) = ap returned_by e
  bit-is-first (outside o e) = ap returned_by e ∙ go f.sort
    where
      go : (k : Sort) → returned_by (fault_of k at) ≡ at
      go kind_or_edition = refl
      go count = refl
      go other = refl

  -- 1: the message ends before or inside the field
  cut-by-1 : Why s at f x → number_of x ≡ 1 → 8 * reach s < at + f.width
  cut-by-1 (cut h e) n = h
  cut-by-1 (outside o e) n = absurd (let g = sort-by f.sort (sym (number-by f.sort at) ∙ sym (ap number_of e) ∙ n) in omega arith)

  -- any other: the field is whole and holds what is out of its range
  whole-but-1 : Why s at f x → 1 < number_of x → Outside s at f
  whole-but-1 (cut h e) n = absurd (let g = ap number_of e in omega arith)
  whole-but-1 (outside o e) n = o

  sort-of : (k : Sort) → Why s at f x → number_of x ≡ number_by k → f.sort ≡ k
  sort-of k (cut h e) n = absurd (let g = sort-by k (sym n ∙ ap number_of e) in omega arith)
  sort-of k (outside o e) n = go f.sort k (sym (number-by f.sort at) ∙ sym (ap number_of e) ∙ n)
    where
      go : (j k : Sort) → number_by j ≡ number_by k → j ≡ k
      go kind_or_edition kind_or_edition e = refl
      go kind_or_edition count e = absurd (omega arith)
      go kind_or_edition other e = absurd (omega arith)
      go count kind_or_edition e = absurd (omega arith)
      go count count e = refl
      go count other e = absurd (omega arith)
      go other kind_or_edition e = absurd (omega arith)
      go other count e = absurd (omega arith)
      go other other e = refl

  -- 2: a kind or an edition; 3: a count; 4: another field
  kind-by-2 : Why s at f x → number_of x ≡ 2 → f.sort ≡ kind_or_edition
  kind-by-2 y n = sort-of kind_or_edition y n

  count-by-3 : Why s at f x → number_of x ≡ 3 → f.sort ≡ count
  count-by-3 y n = sort-of count y n

  other-by-4 : Why s at f x → number_of x ≡ 4 → f.sort ≡ other
  other-by-4 y n = sort-of other y n

pub field_told : (s : List ℕ) (t : List Part) (x : Fault) → RefusedAt s 0 t x → FieldTold s t x
field_told s t x r = record {
  at = r;
  bit = bit-is-first r.why;
  by-1 = λ n. cut-by-1 r.why n;
  by_2 = λ n. (kind-by-2 r.why n, whole-but-1 r.why (omega arith));
  by-3 = λ n. (count-by-3 r.why n, whole-but-1 r.why (omega arith));
  by_4 = λ n. (other-by-4 r.why n, whole-but-1 r.why (omega arith));
}

-- what is whole ends within the message
pub good-ends : (s : List ℕ) (at : ℕ) (t : List Part) → at ≤ 8 * reach s → AllGood s at t → end_of at t ≤ 8 * reach s
good-ends s at [] h g = h
good-ends s at (f ∷ t) h g = good-ends s (at + f.width) t g.0.whole g.1

-- where none reaches beyond n bits, the last ends within them
pub within_end : (n at : ℕ) (t : List Part) → at ≤ n → first_beyond n at t ≡ Clear → end_of at t ≤ n
within_end n at [] h e = h
within_end n at (f ∷ t) h e = go (leb (at + f.width) n) refl e (λ m e. within_end n (at + f.width) t m e)
  where
    go : (b : Bool) → leb (at + f.width) n ≡ b → pick b (first_beyond n (at + f.width) t) (At at) ≡ Clear
        → (at + f.width ≤ n → first_beyond n (at + f.width) t ≡ Clear → end_of (at + f.width) t ≤ n) → end_of (at + f.width) t ≤ n
    go true d e ih = ih (leb-true (at + f.width) n d) e
    go false d e ih = absurd (let z : ◌≡◌ {A = ℕ} 0 1 = cc in omega arith)

-- what `first_beyond` finds is the first that is not whole
pub beyond-first : (n at : ℕ) (t : List Part) (b : ℕ) → at ≤ n → first_beyond n at t ≡ At b → NotWhole n at t b
beyond-first n at [] b h e = absurd (let z : ◌≡◌ {A = ℕ} 0 1 = cc in omega arith)
beyond-first n at (f ∷ t) b h e = go (leb (at + f.width) n) refl e (λ m e. beyond-first n (at + f.width) t b m e)
  where
    later : NotWhole n (at + f.width) t b → NotWhole n at (f ∷ t) b
    later r = record {
      stands = record {
        before = f ∷ r.stands.before;
        field = r.stands.field;
        after = r.stands.after;
        visited = ap (λ (z : List Part). f ∷ z) r.stands.visited;
        first = r.stands.first;
      };
      before = r.before;
      beyond = r.beyond;
    }

    go : (d : Bool) → leb (at + f.width) n ≡ d → pick d (first_beyond n (at + f.width) t) (At at) ≡ At b
        → (at + f.width ≤ n → first_beyond n (at + f.width) t ≡ At b → NotWhole n (at + f.width) t b) → NotWhole n at (f ∷ t) b
    go true d e ih = later (ih (leb-true (at + f.width) n d) e)
    go false d e ih =
        let z : at ≡ b = cc in
        let l = leb-false (at + f.width) n d in
        record { stands = record { before = []; field = f; after = t; visited = refl; first = z }; before = omega arith; beyond = omega arith }

-- what `first_clash` finds is the first that contradicts an earlier one
pub clash-first : (at : ℕ) (t : List Part) (b : ℕ) → first_clash at t ≡ At b → Contradiction at t b
clash-first at [] b e = absurd (let z : ◌≡◌ {A = ℕ} 0 1 = cc in omega arith)
clash-first at (f ∷ t) b e = go f.contradicts refl e (λ e. clash-first (at + f.width) t b e)
  where
    later : f.contradicts ≡ false → Contradiction (at + f.width) t b → Contradiction at (f ∷ t) b
    later d r = record {
      stands = record {
        before = f ∷ r.stands.before;
        field = r.stands.field;
        after = r.stands.after;
        visited = ap (λ (z : List Part). f ∷ z) r.stands.visited;
        first = r.stands.first;
      };
      contradicts = r.contradicts;
      first = rw d r.first;
    }

    go : (d : Bool) → f.contradicts ≡ d → pick d (At at) (first_clash (at + f.width) t) ≡ At b → (first_clash (at + f.width) t ≡ At b → Contradiction (at + f.width) t b) → Contradiction at (f ∷ t) b
    go true d e ih =
        let z : at ≡ b = cc in
        record { stands = record { before = []; field = f; after = t; visited = refl; first = z }; contradicts = d; first = refl }
    go false d e ih = later d (ih e)

-- a field that is refused is not whole and in its range
pub refused-not-good : (s : List ℕ) (at : ℕ) (t : List Part) (x : Fault) → RefusedAt s at t x → ¬ AllGood s at t
refused-not-good s at t x r g = wrong r.why (last at r.before (subst (AllGood s at) r.visited g))
  where
    last : (at : ℕ) (b : List Part) → AllGood s at (b ++ (r.field ∷ [])) → Good s (end_of at b) r.field
    last at [] g = g.0
    last at (f ∷ b) g = last (at + f.width) b g.1

    wrong : Why s (end_of at r.before) r.field x → Good s (end_of at r.before) r.field → ⊥
    wrong (cut h e) k = let w = k.whole in omega arith
    wrong (outside o e) k = o.1 k.within
