-- A row's widths, and eight fields and n times a layout as lists.
use mathlib.Core.Path.{◌≡◌, refl, sym, ◌∙◌}
use mathlib.Core.Bool.{Bool, true, false, ◌&&◌}
use mathlib.Core.List.{List, []}
use Prim.Native.Nat.{ℕ, zero, suc, ◌*◌, ◌≤◌, ◌<◌}
use native.Mathlib.Omega.{arith}
use native.Mathlib.Decide.{dec_le}
use borrow.Author.Tests.{leb-true}
use lib.Dec.{leb}
use lib.ListN.{get_or, length, take}
use lib.Seq.{take_all}
use Rattle.layouts.specs.declared.Fault.{Fault}
use Rattle.layouts.specs.declared.Place.{Place}
use Rattle.model.specs.Case.{Reserves}
use Rattle.layouts.specs.Layout.{Layout, list, repeated, held, ◌then◌}
use Rattle.model.specs.Messages.{eight}
use Rattle.ranges.specs.Kept.{reserves_of}
use Rattle.std.specs.Prelude.{Result, Ok, Err}
use Rattle.fields.specs.Got.{Got, good, bad, got, told, mapped, Natural, then-natural, held-natural}
use Rattle.field_rows.specs.Each.{list-natural, narrow, each, list-each}

-- a row's widths, one by one
both : (x y : Bool) → x && y ≡ true → (x ≡ true) × (y ≡ true)
both true y e = (refl, e)
both false y e = absurd (let z : ◌≡◌ {A = ℕ} 0 1 = cc in omega (arith, z))

pub narrow_at : (fields : List ℕ) (n k : ℕ) → narrow fields n ≡ true → k < n → get_or fields (3 * k) 0 ≤ 64
narrow_at fields zero k e h = absurd (omega arith)
narrow_at fields (suc n) k e h =
    let w = both (narrow fields n) (leb (get_or fields (3 * n) 0) 64) e in
    elim (dec_le (suc k) n) [
      | yes l ↦ narrow_at fields n k w.0 l
      | no l ↦ let q : k ≡ n = omega arith in rw q (leb-true (get_or fields (3 * n) 0) 64 w.1)
    ]

-- eight fields are a list of eight
pub eight-list : {X : Type 0} (l : Layout ℕ) (s : List ℕ) (p : Place) (b : Fault → X) (n : Reserves → Place → X)
    → (eight l).read s p b n ≡ (list 8 l).read s p b (λ xs q. n (reserves_of xs) q)
unfolding eight held ◌then◌ list repeated
eight-list l s p b n = refl

pub eight-natural : {l : Layout ℕ} → Natural l → Natural (eight l)
unfolding eight
eight-natural u = held-natural _ _ (then-natural u (λ a. then-natural u (λ a. then-natural u (λ a. then-natural u (λ a. then-natural u (λ a. then-natural u (λ a. then-natural u (λ a. u))))))))

pub eight-good : {l : Layout ℕ} → Natural l → (s : List ℕ) (p : Place) {q : Place} (v : List ℕ) → length v ≡ 8 → good (take 8 v) q ≡ got (list 8 l) s p → good (reserves_of v) q ≡ got (eight l) s p
eight-good {l} u s p {q} v h e = mapped (list-natural 8 u) reserves_of s p (Ok q) v (eight-list l s p bad good) (rw (take_all 8 v (omega arith)) at e)

pub eight-bad : {l : Layout ℕ} → Natural l → (s : List ℕ) (p : Place) {f : Fault} → bad f ≡ got (list 8 l) s p → bad f ≡ got (eight l) s p
eight-bad {l} u s p {f} e = mapped (list-natural 8 u) reserves_of s p (Err f) [] (eight-list l s p bad good) e

-- what is told of n times a layout is told of its list
pub as-list : {A : Type 0} (l : Layout A) (n : ℕ) (s : List ℕ) (p : Place) {g : Got (List A)} → g ≡ got (each n (λ _. l)) s p → g ≡ got (list n l) s p
as-list l n s p e = e ∙ sym (list-each l n s p bad good)
