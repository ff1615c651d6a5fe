-- Entries in a ledger: what an entry adds to the balance, and how far credit and debit grow.
use Rattle.std.specs.Prelude.{◌≡◌, refl, ℕ, ◌+◌, ◌*◌, ◌≤◌, ◌<◌, ℤ, pos, neg_ℤ, ◌+ℤ◌}
use Rattle.std.proofs.Common.{sym, ap, ◌∙◌, arith}
use Rattle.numbers.specs.Z.{at, nat, ◌⊕◌, ◌⊝◌, neg, by≡}
use Rattle.numbers.specs.Laws as L
use Rattle.numbers.specs.Sum.{sumℤ}
use Rattle.numbers.specs.Base.{range, up_to}
use Rattle.numbers.specs.Ranges.{sumℤ-more}
use Rattle.grains.specs.Money.{balance_of, Ledgered}
use Rattle.grains.specs.declared.Ledger.{Ledger}
use Rattle.money.specs.Bounds.{room_most, day_most, day-fits}

-- from l to r: z more in balance, and at most n more in credit and in debit
pub record Entered (l r : Ledger) (z : ℤ) (n : ℕ) : Type 0 where
  pub balance : balance_of r ≡ balance_of l +ℤ z
  pub credit : r.credit.0 ≤ l.credit.0 + n
  pub debit : r.debit.0 ≤ l.debit.0 + n

-- room for every entry of a day, n of it used
pub record Room (n : ℕ) (l : Ledger) : Type 0 where
  pub credit : l.credit.0 < room_most + n
  pub debit : l.debit.0 < room_most + n

pub room_after : (n k m : ℕ) {l r : Ledger} {z : ℤ} → Room n l → Entered l r z k → n + k ≤ m → Room m r
room_after n k m h e le = record { credit = omega (arith, h.credit, e.credit); debit = omega (arith, h.debit, e.debit) }

-- entries of at most n more fit
pub record Spare (n : ℕ) (l : Ledger) : Type 0 where
  pub credit : l.credit.0 + n < room_most
  pub debit : l.debit.0 + n < room_most

-- an empty ledger has room for a day
pub spare-none : {l : Ledger} → Ledgered l 0 0 → Spare day_most l
spare-none e = record { credit = omega (arith, e.credits, day-fits); debit = omega (arith, e.debits, day-fits) }

-- after entries of at most k, those of at most m more fit where k + m did
pub spare-after : (n k m : ℕ) {l r : Ledger} {z : ℤ} → Spare n l → Entered l r z k → k + m ≤ n → Spare m r
spare-after n k m s e h = record { credit = omega (arith, s.credit, e.credit); debit = omega (arith, s.debit, e.debit) }

pub spare-less : (n m : ℕ) {l : Ledger} → Spare n l → m ≤ n → Spare m l
spare-less n m s h = record { credit = omega (arith, s.credit); debit = omega (arith, s.debit) }

pub spare-room : (n : ℕ) {l : Ledger} → Spare n l → Room 0 l
spare-room n s = record { credit = omega (arith, s.credit); debit = omega (arith, s.debit) }

pub entered-none : (l : Ledger) → Entered l l (pos 0) 0
entered-none l = record { balance = by≡ (at (balance_of l)) (at (balance_of l) ⊕ nat 0) (omega arith); credit = omega arith; debit = omega arith }

pub entered-then : {l m r : Ledger} {y z : ℤ} {a b : ℕ} → Entered l m y a → Entered m r z b → Entered l r (y +ℤ z) (a + b)
entered-then {l} {m} {r} {y} {z} h k = record {
  balance = k.balance ∙ ap (λ (x : ℤ). x +ℤ z) h.balance ∙ L.add_assoc (balance_of l) y z;
  credit = omega (arith, h.credit, k.credit);
  debit = omega (arith, h.debit, k.debit);
}

pub entered-as : {l r : Ledger} {y z : ℤ} {a b : ℕ} → Entered l r y a → y ≡ z → a ≤ b → Entered l r z b
entered-as {l} {r} {y} {z} h e k = record { balance = h.balance ∙ ap (λ (x : ℤ). balance_of l +ℤ x) e; credit = omega (arith, h.credit); debit = omega (arith, h.debit) }

-- money earned, money spent
pub earned : {l r : Ledger} {g : ℕ} → Ledgered r (l.credit.0 + g) l.debit.0 → Entered l r (pos g) g
earned {l} {r} {g} h = record {
  balance = rw (h.credits, h.debits) (by≡ (nat l.credit.0 ⊕ nat g ⊝ nat l.debit.0) (nat l.credit.0 ⊝ nat l.debit.0 ⊕ nat g) (omega arith));
  credit = omega (arith, h.credits);
  debit = omega (arith, h.debits);
}

pub spent : {l r : Ledger} {g : ℕ} → Ledgered r l.credit.0 (l.debit.0 + g) → Entered l r (neg_ℤ (pos g)) g
spent {l} {r} {g} h = record {
  balance = rw (h.credits, h.debits) (by≡ (nat l.credit.0 ⊝ (nat l.debit.0 ⊕ nat g)) (nat l.credit.0 ⊝ nat l.debit.0 ⊕ neg (nat g)) (omega arith));
  credit = omega (arith, h.credits);
  debit = omega (arith, h.debits);
}

-- an expense that comes to x, of at most n
pub spent-as : {l r : Ledger} {g x : ℕ} (n : ℕ) → Ledgered r l.credit.0 (l.debit.0 + g) → g ≡ x → g ≤ n → Entered l r (neg_ℤ (pos x)) n
spent-as n h e k = entered-as (spent h) (ap (λ (i : ℕ). neg_ℤ (pos i)) e) k

-- the balance of a ledger that began empty is what was entered
pub balance-of : (n : ℕ) {l r : Ledger} {z : ℤ} → Ledgered l 0 0 → Entered l r z n → balance_of r ≡ z
balance-of n {l} {r} {z} e h = h.balance ∙ rw (e.credits, e.debits) (by≡ (nat 0 ⊕ at z) (at z) (omega arith))

-- ---- entries in a loop

module _ (f : ℕ → ℤ) where
  -- none, and one more of at most b
  pub entries_none : (l : Ledger) → Entered l l (sumℤ f (up_to 0)) 0
  unfolding range
  entries_none l = entered-none l

  pub entries_next : (n b : ℕ) {l m r : Ledger} → Entered l m (sumℤ f (up_to n)) (n * b) → Entered m r (f n) b → Entered l r (sumℤ f (up_to (n + 1))) ((n + 1) * b)
  entries_next n b h k = entered-as (entered-then h k) (sym (sumℤ-more f n)) (omega arith)

  -- all of them
  pub entries-done : (k n b : ℕ) {l r : Ledger} → k ≤ n → n ≤ k → Entered l r (sumℤ f (up_to k)) (k * b) → Entered l r (sumℤ f (up_to n)) (n * b)
  entries-done k n b h i e = let s : k ≡ n = omega arith in rw s at e
