-- The nearest of a list in an order: it stands in the list, and ahead of every other by its figure, then by the order.
use Rattle.std.specs.Prelude.{◌≡◌, ◌⊎◌, Bool, not, ℕ, ◌≤◌, ◌<◌, leb}
use Rattle.std.proofs.Math.Path.{refl}
use Rattle.std.proofs.Common.{sym, ap, ◌∙◌, subst, inl, inr, arith, leb→le}
use Rattle.std.proofs.Math.Bool.{true, false}
use Rattle.std.proofs.Math.Option.{Option, none, some}
use mathlib.Core.List.Memᴰ
use mathlib.Core.List.{List, [], ◌∷◌, Memᴰ}
use Rattle.std.proofs.Math.Decide.{dec_le}
use Rattle.std.proofs.Math.Dec.{T, nleb→lt}
use Rattle.bits.specs.Pick.{pick}
use Rattle.numbers.specs.Sum.{All, all_map, all-zip}
use Rattle.numbers.specs.Every.{Ordered, all_in}
use Rattle.model.specs.Rules.{Lex}
use Rattle.mending.specs.Mending.{those, keep_if, nearer, nearest}
use Rattle.mending.specs.Ranks.{For, Nearest, NotBehind, Picked, Turn, earlier, itself, smaller}

-- ---- lists of numbers by the first place where they differ
pub lex-not : (ms : List ℕ) → Lex ms ms → ⊥
lex-not [] h = h
lex-not (m ∷ ms) (inl h) = omega arith
lex-not (m ∷ ms) (inr h) = lex-not ms h.1

pub lex-trans : (ks ms ns : List ℕ) → Lex ks ms → Lex ms ns → Lex ks ns
lex-trans [] ms ns h l = absurd h
lex-trans (k ∷ ks) [] ns h l = absurd h
lex-trans (k ∷ ks) (m ∷ ms) [] h l = absurd l
lex-trans (k ∷ ks) (m ∷ ms) (n ∷ ns) (inl h) (inl l) = inl (omega arith)
lex-trans (k ∷ ks) (m ∷ ms) (n ∷ ns) (inl h) (inr l) = inl (omega (arith, l.0))
lex-trans (k ∷ ks) (m ∷ ms) (n ∷ ns) (inr h) (inl l) = inl (omega (arith, h.0))
lex-trans (k ∷ ks) (m ∷ ms) (n ∷ ns) (inr h) (inr l) = inr (h.0 ∙ l.0, lex-trans ks ms ns h.1 l.1)

-- ---- those that pass a test
module _ {A : Type 0} (f : A → Bool) where
  pub those-keep : (P : A → Type 0) (l : List A) → All P l → All (λ x. P x × T (f x)) (those f l)
  unfolding those
  those-keep P [] h = tt
  those-keep P (x ∷ l) h = go (f x) (λ t. t) (those-keep P l h.1)
    where
      go : (b : Bool) → (T b → T (f x)) → All (λ x. P x × T (f x)) (those f l) → All (λ x. P x × T (f x)) (keep_if b x (those f l))
      go true t r = ((h.0, t tt), r)
      go false t r = r

  pub in-those : (l : List A) {a : A} → Memᴰ a l → T (f a) → Memᴰ a (those f l)
  unfolding those
  in-those [] m t = absurd (Memᴰ.not-nil m)
  in-those (x ∷ l) {a} m t = go (f x) (λ e. rw e at t) (λ n. in-those l n t) (Memᴰ.cases_cons m)
    where
      go : (b : Bool) → (a ≡ x → T b) → (Memᴰ a l → Memᴰ a (those f l)) → (a ≡ x) ⊎ Memᴰ a l → Memᴰ a (keep_if b x (those f l))
      go true t r (inl e) = Memᴰ.head e
      go true t r (inr n) = Memᴰ.tail (r n)
      go false t r (inl e) = absurd (t e)
      go false t r (inr n) = r n

  pub those-ordered : (R : A → A → Type 0) (l : List A) → Ordered R l → Ordered R (those f l)
  unfolding those
  those-ordered R [] h = tt
  those-ordered R (x ∷ l) h = go (f x) (all_map (λ y k. k.0) (those f l) (those-keep (R x) l h.0)) (those-ordered R l h.1)
    where
      go : (b : Bool) → All (R x) (those f l) → Ordered R (those f l) → Ordered R (keep_if b x (those f l))
      go true a r = (a, r)
      go false a r = r

-- ---- the nearest
module _ {A : Type 0} (f : A → ℕ) (R : A → A → Type 0) where
  figure-le : (x y : A) → (NotBehind f R) x y → f x ≤ f y
  figure-le x y (itself e) = let g : f x ≡ f y = ap f e in omega arith
  figure-le x y (smaller h) = omega arith
  figure-le x y (earlier e r) = omega arith

  ahead : (x y : A) → f x ≤ f y → R x y → (NotBehind f R) x y
  ahead x y h r = go (dec_le (f y) (f x))
    where
      go : Dec (f y ≤ f x) → (NotBehind f R) x y
      go (yes k) = earlier (omega arith) r
      go (no k) = smaller (omega arith)

  pub picked : (l : List A) → Ordered R l → (Picked f R) l (nearest f l)
  unfolding nearest
  picked [] o = tt
  picked (y ∷ l) o = go (nearest f l) (picked l o.1)
    where
      one : (z : A) → (Nearest f R) l z → (b : Bool) → (T b → f y ≤ f z) → (T (not b) → f z < f y) → (Picked f R) (y ∷ l) (pick b (some y) (some z))
      one z n true h k = record {
        inside = Memᴰ.head refl;
        first = (itself refl, all-zip (λ d r m. ahead y d (let g = figure-le z d m in let j = h tt in omega arith) r) l o.0 n.first);
      }
      one z n false h k = record { inside = Memᴰ.tail n.inside; first = (smaller (k tt), n.first) }

      go : (r : Option A) → (Picked f R) l r → (Picked f R) (y ∷ l) (nearer f y r)
      go none n = record { inside = Memᴰ.head refl; first = (itself refl, all_map (λ d m. absurd m) l n) }
      go (some z) n = one z n (leb (f y) (f z)) (leb→le (f y) (f z)) (nleb→lt (f y) (f z))

-- ---- two lists with the same nearest

-- one is ahead of every other by figure, then by the order: of two lists in order, one within the other, such that the smaller has for each of the greater one that is
-- not behind it, the nearest is the same
module _ {A : Type 0} (f : A → ℕ) (turn : A → List ℕ) where
  abbrev rank : A → List ℕ
  rank x = f x ∷ turn x

  by_rank : (x y : A) → NotBehind f (Turn f turn) x y → (x ≡ y) ⊎ Lex (rank x) (rank y)
  by_rank x y (itself e) = inl e
  by_rank x y (smaller h) = inr (inl h)
  by_rank x y (earlier e r) = inr (inr (e, r))

  around : (x y z : A) → (x ≡ y) ⊎ Lex (rank x) (rank y) → (y ≡ z) ⊎ Lex (rank y) (rank z) → (z ≡ x) ⊎ Lex (rank z) (rank x) → x ≡ y
  around x y z (inl e) g h = e
  around x y z (inr e) (inl g) (inl h) = absurd (lex-not (rank x) (subst (λ (a : A). Lex (rank x) (rank a)) (g ∙ h) e))
  around x y z (inr e) (inl g) (inr h) = absurd (lex-not (rank x) (lex-trans (rank x) (rank y) (rank x) e (subst (λ (a : A). Lex (rank a) (rank x)) (sym g) h)))
  around x y z (inr e) (inr g) (inl h) = absurd (lex-not (rank x) (lex-trans (rank x) (rank y) (rank x) e (subst (λ (a : A). Lex (rank y) (rank a)) h g)))
  around x y z (inr e) (inr g) (inr h) = absurd (lex-not (rank x) (lex-trans (rank x) (rank y) (rank x) e (lex-trans (rank y) (rank z) (rank x) g h)))

  pub same-nearest : (l m : List A) → Ordered (Turn f turn) l → Ordered (Turn f turn) m → All (λ x. Memᴰ x l) m → All ((For f turn) m) l → nearest f l ≡ nearest f m
  same-nearest l m o u within for = go (nearest f l) (nearest f m) (picked f (Turn f turn) l o) (picked f (Turn f turn) m u)
    where
      go : (a b : Option A) → Picked f (Turn f turn) l a → Picked f (Turn f turn) m b → a ≡ b
      go none none h k = refl
      go none (some y) h k = absurd (all_in (λ z. ⊥) l h (all_in (λ x. Memᴰ x l) m within k.inside))
      go (some x) none h k = absurd (all_in (λ z. ⊥) m k (all_in ((For f turn) m) l for h.inside).inside)
      go (some x) (some y) h k =
          let e = all_in ((For f turn) m) l for h.inside in
          ap some (around x y e.one
          (by_rank x y (all_in (NotBehind f (Turn f turn) x) l h.first (all_in (λ x. Memᴰ x l) m within k.inside)))
          (by_rank y e.one (all_in (NotBehind f (Turn f turn) y) m k.first e.inside))
          (by_rank e.one x e.not_behind))
