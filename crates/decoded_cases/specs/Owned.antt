-- What an owner of tables for a reader's largest counts lends to judge a plan: the first parts of its tables.
use Rattle.std.specs.Prelude.{◌≡◌, refl, List, ◌∷◌, ℕ, zero, suc, ◌+◌, ◌*◌, ◌≤◌, length, take, replicate}
use Rattle.std.proofs.Common.{sym, ap, ◌∙◌, arith, mul-le-mul, length-take}
use Rattle.std.proofs.lemmas.List.{length-replicate}
use Rattle.model.specs.Editions.{Largest, most_zones}
use Rattle.row_places.specs.declared.Front.{Front}
use Rattle.row_places.specs.declared.Counts.{Counts}
use Rattle.decoded_cases.specs.Decoded.{Work, DecodedFirst}

-- the first k elements of an array that has them
pub taken : {A : Type 0} (x : A) (n k : ℕ) → k ≤ n → k ≡ length (take k (replicate n x))
taken x n k h = sym (length-take k (replicate n x) ∙ omega (arith, length-replicate n x))

module _ {l : Largest} {front : Front} {n : Counts} {halves : List ℕ} {zones minima devices cells : List (List ℕ)} (d : DecodedFirst front n halves zones minima devices cells l) where
  pub few-cells : n.devices * n.intervals ≤ l.devices * l.intervals
  few-cells = mul-le-mul d.few-devices d.few-intervals

  pub few-minima : n.zones * n.intervals ≤ most_zones * l.intervals
  few-minima = mul-le-mul d.few-zones d.few-intervals

  -- room for a plan and its forced figures
  pub work : {settings : List (List ℕ)} {starts powers : List ℕ}
      → n.devices * n.intervals ≡ length settings → n.intervals + 1 ≡ length starts → n.devices * n.intervals ≡ length powers
      → Work (take n.intervals halves) (take n.devices devices) settings starts powers
  work a b c = record {
    settings-full = sym a ∙ cells_are;
    starts-full = sym b ∙ ap (λ (k : ℕ). k + 1) (sym d.long.halves_long);
    powers-full = sym c ∙ cells_are;
  }
    where
      cells_are : n.devices * n.intervals ≡ length (take n.devices devices) * length (take n.intervals halves)
      cells_are = rw (d.long.devices-long, d.long.halves_long) refl
