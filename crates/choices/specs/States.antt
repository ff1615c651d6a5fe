-- The startup state of a device's record, for a downtime: costs kept from 0.
use Rattle.std.specs.Prelude.{◌≡◌, Bool, true, false, ◌&&◌, cond, List, ℕ, zero, suc, ◌+◌, ◌-◌, ◌≤◌, ◌<◌, ltb, leb, ℤ, pos}
use Rattle.std.proofs.Math.Path.{refl, sym}
use Rattle.std.proofs.Common.{ap, ◌∙◌}
use native.Mathlib.Omega.{arith}
use Rattle.std.proofs.Math.Numerals.{add-one}
use Rattle.std.proofs.Math.ListN.{get_or}
use Rattle.std.specs.Int.Signed.{lt_z}
use Rattle.numbers.specs.State.{best}
use Rattle.bits.specs.Pick.{pick}
use Rattle.numbers.specs.Base.{range}
use Rattle.row_places.specs.declared.State.{State}
use Rattle.row_places.specs.declared.Device.{Device}
use Rattle.records.specs.Views.{less, cost_offset}
use Rattle.row_places.specs.Figures.{no_state}
use Rattle.choices.specs.declared.Chosen.{Chosen}
use Rattle.block_fill.specs.Filled.{kept-lower}

-- number n from 1; 0 is none, at cost 0
unfoldable pub cost_of : Device → ℕ → ℤ
cost_of d zero = pos 0
cost_of d (suc k) = less cost_offset (get_or d.states k no_state).cost

unfoldable pub lasts_of : Device → ℕ → ℕ → Bool
lasts_of d downtime zero = true
lasts_of d downtime (suc k) = leb downtime (get_or d.states k no_state).longest

-- the lowest-numbered cheapest state that lasts the downtime, and none unless it costs below 0
unfoldable pub state_of : Device → ℕ → ℕ
state_of d downtime = best (cost_of d) (lasts_of d downtime) 0 (range 1 d.nstates)

-- the cheaper of the choice so far and state n, where that lasts
abbrev pub chosen : Chosen → State → ℕ → ℕ → Chosen
chosen b s n downtime = pick (leb downtime s.longest && ltb s.cost b.least) (record { state = n; least = s.cost }) b

-- the choice among the first k states
module _ (d : Device) (downtime : ℕ) where
  abbrev n : ℕ
  n = d.nstates

  abbrev best_from : ℕ → List ℕ → ℕ
  best_from = best (cost_of d) (lasts_of d downtime)

  pub record Best (k : ℕ) (b : Chosen) : Type 0 where
    pub rest : best_from 0 (range 1 n) ≡ best_from b.state (range (suc k) (n - k))
    pub kept : cost_of d b.state ≡ less cost_offset b.least

  pub best-start : Best 0 (record { state = 0; least = cost_offset })
  unfolding cost_of
  best-start = record { rest = let z : n - 0 ≡ n = omega arith in rw z refl; kept = refl }

  pub best-next : (k : ℕ) (b r : Chosen) → k < n → Best k b → r ≡ chosen b (get_or d.states k no_state) (k + 1) downtime → Best (k + 1) r
  unfolding range cost_of lasts_of
  best-next k b r l h e = rw (e, add-one k) (go (leb downtime s.longest) (ltb s.cost b.least) refl refl)
    where
      s : State
      s = get_or d.states k no_state

      left : ℕ
      left = n - suc k

      test : lt_z (cost_of d (suc k)) (cost_of d b.state) ≡ ltb s.cost b.least
      test = ap (λ (z : ℤ). lt_z (less cost_offset s.cost) z) h.kept ∙ sym (kept-lower cost_offset s.cost b.least)

      step : best_from 0 (range 1 n) ≡ best_from (cond (leb downtime s.longest && ltb s.cost b.least) (suc k) b.state) (range (suc (suc k)) left)
      step =
          let m : n - k ≡ suc left = omega arith in
          h.rest
          ∙ ap (λ (j : ℕ). best_from b.state (range (suc k) j)) m
          ∙ ap (λ (t : Bool). best_from (cond (leb downtime s.longest && t) (suc k) b.state) (range (suc (suc k)) left)) test

      go : (x y : Bool) → leb downtime s.longest ≡ x → ltb s.cost b.least ≡ y
          → Best (suc k) (pick (x && y) (record { state = suc k; least = s.cost }) b)
      go true true f g = record { rest = rw (f, g) at step; kept = refl }
      go true false f g = record { rest = rw (f, g) at step; kept = h.kept }
      go false y f g = record { rest = rw f at step; kept = h.kept }

  pub best-end : (k : ℕ) (b : Chosen) → n ≤ k → Best k b → b.state ≡ state_of d downtime
  unfolding range state_of
  best-end k b l h = let z : n - k ≡ 0 = omega arith in sym (h.rest ∙ rw z refl)
