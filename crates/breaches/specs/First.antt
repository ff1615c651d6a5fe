-- The first breach of a list, as the code answers it.
use Rattle.std.specs.Prelude.{◌≡◌, refl, List, [], ◌∷◌, ◌++◌, ℕ, ◌+◌, ◌≤◌, ◌<◌}
use Rattle.std.proofs.Math.Path.{sym}
use Rattle.std.proofs.Common.{◌∙◌, arith}
use Rattle.numbers.specs.Base.{up_to, gather}
use Rattle.numbers.specs.Gather.{from, from_all, from_end, gather-next}
use Rattle.model.specs.declared.Breach.{Breach}
use Rattle.std.specs.Prelude.{Option, Some, None}

unfoldable pub first : List Breach → Option Breach
first [] = None
first (b ∷ bs) = Some b

-- no first breach, no breach
pub none_first : (l : List Breach) {c : Option Breach} → c ≡ first l → c ≡ None → l ≡ []
unfolding first
none_first [] e h = refl
none_first (b ∷ bs) e h = absurd (let z : ◌≡◌ {A = ℕ} 0 1 = cc in omega (arith, z))

-- a first breach, some breach
pub broken-first : {P : Type 0} (l : List Breach) {c : Option Breach} {x : Breach} → c ≡ first l → c ≡ Some x → l ≡ [] → P
unfolding first
broken-first [] e b n = absurd (let z : ◌≡◌ {A = ℕ} 0 1 = cc in omega (arith, z))
broken-first (y ∷ l) e b n = absurd (let z : ◌≡◌ {A = ℕ} 0 1 = cc in omega (arith, z))

unfoldable pub or_else : Option Breach → Option Breach → Option Breach
or_else None b = b
or_else (Some x) b = Some x

pub first-append : (xs ys : List Breach) → first (xs ++ ys) ≡ or_else (first xs) (first ys)
unfolding first or_else
first-append [] ys = refl
first-append (x ∷ xs) ys = refl

-- one part after the other: `let None = a else { return a; }`
pub else-stop : {a c : Option Breach} {x : Breach} (rest : Option Breach) → c ≡ a → c ≡ Some x → c ≡ or_else a rest
unfolding or_else
else-stop rest q b = b ∙ sym (rw (sym q ∙ b) refl)

pub else-pass : {a c x rest : Option Breach} → c ≡ a → c ≡ None → x ≡ rest → x ≡ or_else a rest
unfolding or_else
else-pass q h e = rw (sym q ∙ h) e

-- a loop with an early return, against the head of a gathered list
module _ (f : ℕ → List Breach) where
  next : (k n : ℕ) → k < n → first (gather f (from k n)) ≡ or_else (first (f k)) (first (gather f (from (k + 1) n)))
  next k n h = rw (gather-next f k n h) (first-append (f k) (gather f (from (k + 1) n)))

  -- the loop has come to place k of n: what is left gives what the whole list gives
  pub record Left (n k : ℕ) : Type 0 where
    pub same : first (gather f (from k n)) ≡ first (gather f (up_to n))

  pub loop-start : (n : ℕ) → Left n 0
  loop-start n = record { same = rw (from_all n) }

  pub loop-held : {n k : ℕ} {c : Option Breach} → k < n → Left n k → c ≡ first (f k) → c ≡ None → Left n (k + 1)
  loop-held {n} {k} h e q b = record { same = else-pass q b refl ∙ sym (next k n h) ∙ e.same }

  pub loop-broken : {n k : ℕ} {c : Option Breach} {x : Breach} → k < n → Left n k → c ≡ first (f k) → c ≡ Some x → c ≡ first (gather f (up_to n))
  loop-broken {n} {k} h e q b = else-stop (first (gather f (from (k + 1) n))) q b ∙ sym (next k n h) ∙ e.same

  pub loop-done : {n k : ℕ} → n ≤ k → Left n k → None ≡ first (gather f (up_to n))
  unfolding first gather
  loop-done {n} {k} h e = sym (rw (from_end k n h) refl) ∙ e.same
