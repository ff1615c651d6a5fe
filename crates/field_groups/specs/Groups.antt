-- Fields side by side, as one number.
use Rattle.std.specs.Prelude.{◌≡◌, List, ◌++◌, ℕ, ◌+◌, ◌^◌, ◌≤◌, ◌<◌}
use Rattle.std.proofs.Common.{◌∙◌, ap, ap₂, arith}
use Rattle.layouts.specs.Layout.{bits_of}
use Rattle.pen.specs.declared.Pen.{Pen}
use Rattle.pen.specs.Pens.{Pushes}
use Rattle.pen.specs.Runs.{pushes-as}
use Rattle.field_groups.specs.declared.Group.{Group}

-- a group of so many bits, and which
pub record Holds (width : ℕ) (bits : List ℕ) (g : Group) : Type 0 where
  pub wide : g.width ≡ width
  pub small : g.value < 2 ^ g.width
  pub is : bits_of g.width g.value ≡ bits

-- one field more behind it
pub record Joined (g : Group) (width value : ℕ) (r : Group) : Type 0 where
  pub wide : r.width ≡ g.width + width
  pub small : r.value < 2 ^ r.width
  pub is : bits_of r.width r.value ≡ bits_of g.width g.value ++ bits_of width value

pub holds_more : {u w v : ℕ} {xs : List ℕ} {g r : Group} → Holds u xs g → Joined g w v r → Holds (u + w) (xs ++ bits_of w v) r
holds_more {w = w} {v = v} h j = record { wide = omega (arith, h.wide, j.wide); small = j.small; is = j.is ∙ ap (λ (l : List ℕ). l ++ bits_of w v) h.is }

-- the same bits, said otherwise
pub holds_as : {u w : ℕ} {xs ys : List ℕ} {g : Group} → xs ≡ ys → u ≡ w → Holds u xs g → Holds w ys g
holds_as e f h = record { wide = h.wide ∙ f; small = h.small; is = h.is ∙ e }

-- a pen takes at most 56 bits
pub record Pushable (g : Group) : Type 0 where
  pub some : 1 ≤ g.width
  pub few : g.width ≤ 56
  pub small : g.value < 2 ^ g.width

-- a push of it, and of two
pub holds_pushed : {w : ℕ} {xs a b : List ℕ} {g : Group} {p q : Pen} → Holds w xs g → Pushes g.width (bits_of g.width g.value) a b p q → Pushes w xs a b p q
holds_pushed h i = pushes-as h.is h.wide i

pub both-pushed : {u w : ℕ} {xs ys a b : List ℕ} {g k : Group} {p q : Pen} → Holds u xs g → Holds w ys k
    → Pushes (g.width + k.width) (bits_of g.width g.value ++ bits_of k.width k.value) a b p q → Pushes (u + w) (xs ++ ys) a b p q
both-pushed h j i = pushes-as (ap₂ (λ (l m : List ℕ). l ++ m) h.is j.is) (omega (arith, h.wide, j.wide)) i
