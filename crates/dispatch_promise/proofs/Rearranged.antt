-- What goes with a list of offers into another order.
use Rattle.std.specs.Prelude.{◌≡◌, ◌⊎◌, ◌≤◌, ◌<◌, ◌≤ℤ◌, ◌<ℤ◌}
use Rattle.std.proofs.Common.{subst, inl, inr, arith}
use mathlib.Core.List.{List, [], ◌∷◌, ◌++◌, Permᴰ}
use Rattle.std.proofs.Math.Decide.{dec_lt}
use Rattle.numbers.specs.Laws as L
use Rattle.numbers.specs.Sum.{All}
use Rattle.numbers.specs.Fill.{Apart}
use Rattle.offers.specs.declared.Offer.{Offer}
use Rattle.offers.specs.Merit.{ahead}
use Rattle.offers.specs.Order.{ahead-in}
use Rattle.dispatch_promise.specs.Rearranged.{Either}

turn : (a b : Offer) → Either a b → Either b a
turn a b (inl t) = inr t
turn a b (inr t) = inl t

pub perm-all : {A : Type 0} (P : A → Type 0) {xs ys : List A} → Permᴰ xs ys → All P xs → All P ys
perm-all P Permᴰ.nil a = tt
perm-all P (Permᴰ.cons e p) a = (subst P e a.0, perm-all P p a.1)
perm-all P (Permᴰ.swap e f) a = (subst P f a.1.0, (subst P e a.0, a.1.1))
perm-all P (Permᴰ.trans p q) a = perm-all P q (perm-all P p a)

pub perm-apart : {xs ys : List Offer} → Permᴰ xs ys → Apart ahead xs → Apart ahead ys
perm-apart Permᴰ.nil a = tt
perm-apart (Permᴰ.cons {a = x} {b = y} {l₁} {l₂} e p) a = (perm-all (Either y) p (subst (λ (z : Offer). All (Either z) l₁) e a.0), perm-apart p a.1)
perm-apart (Permᴰ.swap {a = x} {b = y} {a' = v} {b' = w} {l} e f) a =
    subst (λ (z : Offer). Apart ahead (z ∷ w ∷ l)) f (subst (λ (z : Offer). Apart ahead (y ∷ z ∷ l)) e ((turn x y a.0.0, a.1.0), (a.0.1, a.1.1)))
perm-apart (Permᴰ.trans p q) a = perm-apart q (perm-apart p a)

pub apart-append : (xs ys : List Offer) → Apart ahead xs → Apart ahead ys → All (λ x. All (Either x) ys) xs → Apart ahead (xs ++ ys)
apart-append [] ys a b h = b
apart-append (x ∷ xs) ys a b h = (both xs a.0, apart-append xs ys a.1 b h.1)
  where
    both : (ks : List Offer) → All (Either x) ks → All (Either x) (ks ++ ys)
    both [] u = h.0
    both (k ∷ ks) u = (u.0, both ks u.1)

-- offers of different sets or blocks are told apart
pub told-apart : (a b : Offer) → (a.set ≡ b.set → a.block ≡ b.block → ⊥) → Either a b
told-apart a b n = price (L.≤-or-> a.price b.price) (L.≤-or-> b.price a.price)
  where
    block : a.price ≤ℤ b.price → b.price ≤ℤ a.price → a.set ≡ b.set → Dec (a.block < b.block) → Either a b
    block p q e (yes l) = inr (ahead-in a b (inr (p, inr (omega arith, l))))
    block p q e (no l) = let d : a.block ≡ b.block → ⊥ = n e in inl (ahead-in b a (inr (q, inr (omega arith, omega (arith, d)))))

    set : a.price ≤ℤ b.price → b.price ≤ℤ a.price → Dec (a.set < b.set) → Dec (b.set < a.set) → Either a b
    set p q (yes l) d = inr (ahead-in a b (inr (p, inl l)))
    set p q (no l) (yes m) = inl (ahead-in b a (inr (q, inl m)))
    set p q (no l) (no m) = block p q (omega arith) (dec_lt a.block b.block)

    price : (a.price ≤ℤ b.price) ⊎ (b.price <ℤ a.price) → (b.price ≤ℤ a.price) ⊎ (a.price <ℤ b.price) → Either a b
    price (inr l) q = inl (ahead-in b a (inl l))
    price (inl p) (inr l) = inr (ahead-in a b (inl l))
    price (inl p) (inl q) = set p q (dec_lt a.set b.set) (dec_lt b.set a.set)
