-- What `mended_by` answers: a change that mends the plan and is ahead of every other that does, by "the smallest change in kW; then earlier interval, lower device, lower
-- new power"; and none exactly where no change mends it.
use Rattle.std.specs.Prelude.{◌≡◌, ◌⊎◌, ℕ, suc, ◌≤◌, ◌<◌}
use Rattle.std.proofs.Math.Path.{refl, sym}
use Rattle.std.proofs.Common.{◌∙◌, arith}
use Rattle.std.proofs.Math.Logic.{inl, inr}
use Rattle.std.proofs.Math.Option.{Option, none, some}
use mathlib.Core.List.{Memᴰ}
use Rattle.numbers.specs.Sum.{All, all_map}
use Rattle.numbers.specs.Base.{up_to, gather}
use Rattle.numbers.specs.Every.{all_in, all-up_to, all-gather, map-of-all, in_map, in-gather, in-range, Ordered, ordered-gather, range-ordered, map-ordered}
use Rattle.model.specs.Case.{System, Plan}
use Rattle.model.specs.Forced.{intervals, devices}
use Rattle.model.specs.Rules.{Lex}
use Rattle.mending.specs.Mending.{Change, mends, change, powers_of, replacements, nearest, mended_by}
use Rattle.mending.specs.Ranks.{NotBehind, Picked, itself, smaller, earlier}
use Rattle.mending.proofs.Ranks.{those-keep, in-those, those-ordered, picked}
use Rattle.mending.specs.Least.{Answers, Earlier, Mends, Within, mending, rank_of}

-- ---- the list of replacements
module _ (q : System) (most : ℕ) where
  abbrev at : ℕ → ℕ → ℕ → Change
  at t i v = record { interval = t; device = i; power = v }

  AtCell : ℕ → ℕ → Change → Type 0
  AtCell t i c = (c.interval ≡ t) × (c.device ≡ i) × (c.power ≤ most)

  AtInterval : ℕ → Change → Type 0
  AtInterval t c = (c.interval ≡ t) × (c.device < devices q) × (c.power ≤ most)

  cell-listed : (t i : ℕ) → All (AtCell t i) (powers_of most t i)
  unfolding powers_of AtCell
  cell-listed t i = map-of-all (AtCell t i) (at t i) (up_to (suc most)) (all-up_to _ (suc most) (λ v l. (refl, refl, omega arith)))

  interval-listed : (t : ℕ) → All (AtInterval t) (gather (powers_of most t) (up_to (devices q)))
  unfolding AtInterval AtCell
  interval-listed t = all-gather (AtInterval t) (powers_of most t) (up_to (devices q))
      (all-up_to _ (devices q) (λ i l. all_map (λ c h. (h.0, omega (arith, h.1), h.2)) (powers_of most t i) (cell-listed t i)))

  within-interval : (t : ℕ) → t < intervals q → (c : Change) → AtInterval t c → Within q most c
  unfolding AtInterval
  within-interval t l c h = record { interval = omega (arith, h.0); device = h.1; power = h.2 }

  pub listed-within : All (Within q most) (replacements q most)
  unfolding replacements
  listed-within = all-gather (Within q most) (λ t. gather (powers_of most t) (up_to (devices q))) (up_to (intervals q))
      (all-up_to _ (intervals q) (λ t l. all_map (within-interval t l) (gather (powers_of most t) (up_to (devices q))) (interval-listed t)))

  pub within-listed : (c : Change) → Within q most c → Memᴰ c (replacements q most)
  unfolding replacements powers_of
  within-listed c h = in-gather (λ t. gather (powers_of most t) (up_to (devices q))) (up_to (intervals q)) {a = c.interval}
      (in-range 0 (intervals q) c.interval (omega arith) (omega (arith, h.interval)))
      (in-gather (powers_of most c.interval) (up_to (devices q)) {a = c.device} (in-range 0 (devices q) c.device (omega arith) (omega (arith, h.device)))
      (in_map (at c.interval c.device) (up_to (suc most)) {a = c.power} (in-range 0 (suc most) c.power (omega arith) (omega (arith, h.power)))))

  powers-ordered : (t i : ℕ) → Ordered Earlier (powers_of most t i)
  unfolding powers_of
  powers-ordered t i = map-ordered (λ m n. m < n) Earlier (at t i) (λ m n h. inr (refl, inr (refl, inl h))) (up_to (suc most)) (range-ordered _ 0 (suc most) (λ m n a b c. b))

  interval-ordered : (t : ℕ) → Ordered Earlier (gather (powers_of most t) (up_to (devices q)))
  unfolding AtCell
  interval-ordered t = ordered-gather Earlier (AtCell t) (powers_of most t)
      (λ i j c d l h k. inr (h.0 ∙ sym k.0, inl (omega (arith, h.1, k.1))))
      0 (devices q) (λ i l m. cell-listed t i) (λ i l m. powers-ordered t i)

  pub listed-ordered : Ordered Earlier (replacements q most)
  unfolding replacements AtInterval
  listed-ordered = ordered-gather Earlier AtInterval (λ t. gather (powers_of most t) (up_to (devices q)))
      (λ s t c d l h k. inl (omega (arith, h.0, k.0)))
      0 (intervals q) (λ t l m. interval-listed t) (λ t l m. interval-ordered t)

-- ---- what is answered
module _ (most : ℕ) (q : System) (p : Plan) where
  pub mending-all : All (Mends most q p) (mending most q p)
  mending-all = all_map (λ c h. record { within = h.0; unbroken = h.1 }) (mending most q p) (those-keep (mends q p) (Within q most) (replacements q most) (listed-within q most))

  pub in-mending : (c : Change) → Mends most q p c → Memᴰ c (mending most q p)
  in-mending c h = in-those (mends q p) (replacements q most) (within-listed q most c h.within) h.unbroken

  pub mending-ordered : Ordered Earlier (mending most q p)
  mending-ordered = those-ordered (mends q p) Earlier (replacements q most) (listed-ordered q most)

  pub answered : (Answers most q p) (mended_by most q p)
  unfolding mended_by
  answered = go (nearest (change q p) (mending most q p)) (picked (change q p) Earlier (mending most q p) mending-ordered)
    where
      ranked : (c d : Change) → NotBehind (change q p) Earlier c d → (c ≡ d) ⊎ Lex ((rank_of most q p) c) ((rank_of most q p) d)
      ranked c d (itself e) = inl e
      ranked c d (smaller h) = inr (inl h)
      ranked c d (earlier e r) = inr (inr (e, r))

      go : (r : Option Change) → Picked (change q p) Earlier (mending most q p) r → (Answers most q p) r
      go none h = λ c m. all_in (λ d. ⊥) (mending most q p) h (in-mending c m)
      go (some c) h = record {
        mends = all_in (Mends most q p) (mending most q p) mending-all h.inside;
        first = λ d m. ranked c d (all_in (NotBehind (change q p) Earlier c) (mending most q p) h.first (in-mending d m));
      }
