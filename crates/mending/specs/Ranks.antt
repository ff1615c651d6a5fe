-- The nearest of a list in an order: it stands in the list, and ahead of every other by its figure, then by the order.
use Rattle.std.specs.Prelude.{◌≡◌, ℕ, ◌<◌}
use Rattle.std.proofs.Math.Option.{Option, none, some}
use mathlib.Core.List.Memᴰ
use mathlib.Core.List.{List, Memᴰ}
use Rattle.numbers.specs.Sum.{All}
use Rattle.model.specs.Rules.{Lex}

-- ---- the nearest
module _ {A : Type 0} (f : A → ℕ) (R : A → A → Type 0) where
  -- one that is not behind another: itself, of a smaller figure, or ahead in the order with the same
  pub data NotBehind (x y : A) : Type 0 where
    itself : x ≡ y → NotBehind x y
    smaller : f x < f y → NotBehind x y
    earlier : f x ≡ f y → R x y → NotBehind x y

  pub record Nearest (l : List A) (x : A) : Type 0 where
    pub inside : Memᴰ x l
    pub first : All (NotBehind x) l

  -- where there is none the list has none
  abbrev pub Picked : List A → Option A → Type 0
  Picked l none = All (λ y. ⊥) l
  Picked l (some x) = Nearest l x

-- ---- two lists with the same nearest

-- one is ahead of every other by figure, then by the order: of two lists in order, one within the other, such that the smaller has for each of the greater one that is
-- not behind it, the nearest is the same
module _ {A : Type 0} (f : A → ℕ) (turn : A → List ℕ) where
  abbrev pub Turn : A → A → Type 0
  Turn x y = Lex (turn x) (turn y)

  pub record For (l : List A) (d : A) : Type 0 where
    pub one : A
    pub inside : Memᴰ one l
    pub not_behind : NotBehind f Turn one d
