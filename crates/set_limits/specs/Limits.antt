-- Arrays of bounds by place, against `Dispatch.of_named`.
use Rattle.std.specs.Prelude.{◌≡◌, refl, Bool, true, false, eqb, length, set, drop, replicate}
use Rattle.std.proofs.Math.Path.{sym}
use Rattle.std.proofs.Common.{◌∙◌, ap, subst, arith, eq-eqb, ne_eqb, drop-cons, get_or-set_same, get_or-set_other}
use mathlib.Core.List.{List, [], ◌∷◌}
use Prim.Native.Nat.{ℕ, suc, ◌+◌, ◌-◌, ◌≤◌, ◌<◌}
use Rattle.std.proofs.Math.Decide.{ℕ_discrete, dec_lt}
use Rattle.std.proofs.Math.ListN.{get_or, length-replicate, length-set, get_or-eq_default}
use Rattle.std.proofs.lemmas.List.{get_or-replicate}
use Rattle.numbers.specs.Sum.{All}
use Rattle.numbers.specs.Every.{all-at}
use Rattle.bits.specs.Pick.{pick}
use Rattle.model.specs.Case.{System}
use Rattle.model.specs.Editions.{most_devices}
use Rattle.dispatching.specs.Dispatch.{lowest, highest, of_named}

-- sets of a case with so many devices, and an earlier power for each
pub record NamedIn (devices : ℕ) (sets powers : List ℕ) : Type 0 where
  pub few : devices ≤ most_devices
  pub known : All (λ s. (1 ≤ s) × (s ≤ devices)) sets
  pub many : length powers ≡ length sets

-- an array of a figure by place
pub record ByPlace (f : ℕ → ℕ → ℕ) (sets powers l : List ℕ) : Type 0 where
  pub long : length l ≡ 64
  pub each : (i : ℕ) → get_or l i 0 ≡ of_named f sets powers i

pub record Limited (q : System) (t : ℕ) (sets powers lo hi : List ℕ) : Type 0 where
  pub low : ByPlace (lowest q t) sets powers lo
  pub high : ByPlace (highest q t) sets powers hi

abbrev blank : List ℕ
blank = replicate 64 0

zeros : (i : ℕ) → get_or blank i 0 ≡ 0
zeros i = go (dec_lt i 64)
  where
    go : Dec (i < 64) → get_or blank i 0 ≡ 0
    go (yes l) = get_or-replicate 64 i 0 0 l
    go (no l) = get_or-eq_default blank 0 {n = i} (omega (arith, length-replicate {A = ℕ} 64 0))

none_left : (l : List ℕ) → drop (length l) l ≡ []
none_left [] = refl
none_left (x ∷ l) = none_left l

module _ (f : ℕ → ℕ → ℕ) (sets powers : List ℕ) where
  by-none : length powers ≡ length sets → ByPlace f (drop (length sets) sets) (drop (length sets) powers) (replicate 64 0)
  unfolding of_named
  by-none n = record { long = length-replicate {A = ℕ} 64 0; each = λ i. zeros i ∙ sym (ap (λ (s : List ℕ). of_named f s (drop (length sets) powers) i) (none_left sets)) }

  by_next : (j : ℕ) (l : List ℕ) (v : ℕ) → j < length sets → length powers ≡ length sets → get_or sets j 0 - 1 < 64 → v ≡ f (get_or sets j 0 - 1) (get_or powers j 0)
      → ByPlace f (drop (suc j) sets) (drop (suc j) powers) l → ByPlace f (drop j sets) (drop j powers) (set l (get_or sets j 0 - 1) v)
  unfolding of_named
  by_next j l v h n inside e b = record {
    long = length-set l s v ∙ b.long;
    each = λ i. go i (ℕ_discrete s i) ∙ sym (λ k. of_named f (drop-cons sets j 0 h k) (drop-cons powers j 0 (omega (arith, n)) k) i);
  }
    where
      s : ℕ
      s = get_or sets j 0 - 1

      go : (i : ℕ) → Dec (s ≡ i) → get_or (set l s v) i 0 ≡ pick (eqb s i) (f i (get_or powers j 0)) (of_named f (drop (suc j) sets) (drop (suc j) powers) i)
      go i (yes d) = rw (eq-eqb s i d) (subst (λ (k : ℕ). get_or (set l s v) k 0 ≡ f k (get_or powers j 0)) d (get_or-set_same l s v 0 (omega (arith, inside, b.long)) ∙ e))
      go i (no d) = rw (ne_eqb s i d) (get_or-set_other l s i v 0 (λ e. d (sym e)) ∙ b.each i)

module _ (q : System) (t : ℕ) (sets powers : List ℕ) where
  pub limited-none : length powers ≡ length sets → Limited q t (drop (length sets) sets) (drop (length sets) powers) (replicate 64 0) (replicate 64 0)
  limited-none n = record { low = by-none (lowest q t) sets powers n; high = by-none (highest q t) sets powers n }

  pub limited-next : (j : ℕ) (lo hi : List ℕ) (a b : ℕ) → j < length sets → length powers ≡ length sets → get_or sets j 0 - 1 < 64
      → a ≡ lowest q t (get_or sets j 0 - 1) (get_or powers j 0) → b ≡ highest q t (get_or sets j 0 - 1) (get_or powers j 0)
      → Limited q t (drop (suc j) sets) (drop (suc j) powers) lo hi → Limited q t (drop j sets) (drop j powers) (set lo (get_or sets j 0 - 1) a) (set hi (get_or sets j 0 - 1) b)
  limited-next j lo hi a b h n inside e g r = record {
    low = by_next (lowest q t) sets powers j lo a h n inside e r.low;
    high = by_next (highest q t) sets powers j hi b h n inside g r.high;
  }

-- a set of the case is at a place that there is
pub place_in : {devices : ℕ} {sets powers : List ℕ} → NamedIn devices sets powers → (j : ℕ) → j < length sets → (1 ≤ get_or sets j 0) × (get_or sets j 0 - 1 < devices) × (get_or sets j 0 - 1 < 64)
place_in {devices} {sets} n j l = let k = all-at (λ s. (1 ≤ s) × (s ≤ devices)) 0 sets n.known j l in (k.0, omega (arith, k.0, k.1), omega (arith, k.0, k.1, n.few))
