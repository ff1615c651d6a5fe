-- What is promised of a dispatch, on a case's bytes: 8 exactly where something does not fit the case, then 9 exactly where no such powers exist, and nothing touched on
-- any refusal; else powers in the order named that are such powers, cost least and have the most in the first offers, and the list in merit order.
use Rattle.std.specs.Prelude.{◌≡◌, ◌↔◌, false, ℤ, ◌≤ℤ◌}
use mathlib.Core.List.{List, ◌∷◌, ◌++◌, Permᴰ}
use Prim.Native.Nat.{ℕ, ◌+◌, ◌-◌, ◌≤◌, ◌<◌}
use Rattle.std.proofs.Math.ListN.{length, get_or}
use Rattle.std.proofs.Math.IntN.{pos}
use Rattle.numbers.specs.Sum.{All}
use Rattle.layouts.specs.declared.Fault.{Fault}
use Rattle.layouts.specs.Layout.{passes, fails}
use Rattle.model.specs.Case.{Case}
use Rattle.model.specs.Forced.{intervals, devices, consuming}
use Rattle.model.specs.Editions.{Largest}
use Rattle.model.specs.ByEdition.{Stated, stated_in}
use Rattle.offers.specs.declared.Offer.{Offer}
use Rattle.offers.specs.Order.{InOrder}
use Rattle.dispatching.specs.declared.Dispatch.TheVariants.{Dispatched, Refused, Unfit, Unmet}
use Rattle.dispatching.specs.Dispatch.{offers_of, Outcome, untouched}
use Rattle.dispatch_promise.specs.Such.{Such, carries, cost_of}

-- ---- what is promised

-- "exactly when the interval or a set is not in the case, a set consumes or is named twice, the earlier powers are not as many as the sets, or the offers are not those blocks"
pub record Fits (c : Case) (interval : ℕ) (sets earlier : List ℕ) (offers : List Offer) : Type 0 where
  pub from_one : 1 ≤ interval
  pub to_last : interval ≤ intervals c.system
  pub known : All (λ s. (1 ≤ s) × (s ≤ devices c.system)) sets
  pub produces : All (λ s. consuming c.system (s - 1) ≡ false) sets
  pub apart : (j k : ℕ) → j < k → k < length sets → get_or sets j 0 ≡ get_or sets k 0 → ⊥
  pub many : length earlier ≡ length sets
  pub blocks : Permᴰ offers (offers_of c (interval - 1) sets)

-- the powers written, and the list as it is found again
pub record Best (c : Case) (t : ℕ) (sets earlier : List ℕ) (offers : List Offer) (target : ℕ) (powers : List ℕ) (list : List Offer) : Type 0 where
  -- by device, and their block powers by device and block
  pub power : ℕ → ℤ
  pub block : ℕ → ℕ → ℤ
  -- "one power for each such set, in the order named"
  pub as_many : length powers ≡ length sets
  pub written : (j : ℕ) → j < length sets → pos (get_or powers j 0) ≡ power (get_or sets j 0 - 1)
  -- "It lies within .. The powers add up to the target"
  pub such : Such c t sets earlier target power block
  -- "and no other such powers cost less in blocks"
  pub cheapest : (p : ℕ → ℤ) (y : ℕ → ℕ → ℤ) → Such c t sets earlier target p y → cost_of block list ≤ℤ cost_of y list
  -- "Among equals the first offer in merit order gets the most, then the next"
  pub first-most : (p : ℕ → ℤ) (y : ℕ → ℕ → ℤ) → Such c t sets earlier target p y → (ks : List Offer) (o : Offer) (ls : List Offer) → ks ++ o ∷ ls ≡ list
      → All (λ k. carries y k ≡ carries block k) ks → carries y o ≤ℤ carries block o
  -- "in merit order: price, then set, then block, every offer still there once"
  pub in-order : InOrder list
  pub rearranged : Permᴰ list offers

-- of a case that passes reading
pub record Dispatches (c : Case) (interval : ℕ) (sets earlier : List ℕ) (offers : List Offer) (target : ℕ) (o : Outcome) : Type 0 where
  -- 8
  pub unfit : (o.answer ≡ Unfit) ↔ (Fits c interval sets earlier offers → ⊥)
  -- "then with 9 (returned: the target) exactly when no such powers exist"
  pub unmet : (o.answer ≡ Unmet target) ↔ (Fits c interval sets earlier offers × ((p : ℕ → ℤ) (y : ℕ → ℕ → ℤ) → Such c (interval - 1) sets earlier target p y → ⊥))
  pub met : Fits c interval sets earlier offers → (p : ℕ → ℤ) (y : ℕ → ℕ → ℤ) → Such c (interval - 1) sets earlier target p y → o.answer ≡ Dispatched
  pub dispatched : o.answer ≡ Dispatched → Fits c interval sets earlier offers × Best c (interval - 1) sets earlier offers target o.powers o.offers
  -- "on any refusal the list keeps the order it came in, and the earlier powers are untouched"
  pub kept : (o.answer ≡ Dispatched → ⊥) → (o.powers ≡ earlier) × (o.offers ≡ offers)

-- `o` is the answer with the powers and the list as they are left; `l` are the largest counts that the reader takes
pub record DispatchPromise (l : Largest) (cs : List ℕ) (interval : ℕ) (sets earlier : List ℕ) (offers : List Offer) (target : ℕ) (o : Outcome) : Type 0 where
  -- "After all reading refusals"
  pub case-refused : (f : Fault) → stated_in l cs ≡ fails f → o ≡ untouched (Refused f) earlier offers
  pub case-passed : (x : Stated) → stated_in l cs ≡ passes x → Dispatches x.case interval sets earlier offers target o

module _ (c : Case) (interval : ℕ) (sets earlier : List ℕ) (offers : List Offer) where
  abbrev pub t : ℕ
  t = interval - 1
