-- The answer for a decoded plan, by its first breach: what a function over the rows has to show.
use Rattle.std.specs.Prelude.{◌≡◌, ℕ, get_or}
use Rattle.std.proofs.Math.Path.{sym, ap}
use Rattle.std.proofs.Common.{◌∙◌, arith}
use mathlib.Core.List.{List, [], ◌∷◌}
use Rattle.std.proofs.Math.ListN.{length}
use Rattle.numbers.specs.Rows.{rows, rows_long, rows_at}
use Rattle.numbers.specs.Parts.{part}
use Rattle.model.specs.declared.Breach.{Breach}
use Rattle.model.specs.Case.{System, Plan, Setting, Prices}
use Rattle.model.specs.Breaches.{breaches}
use Rattle.model.specs.ByEdition.{Stated}
use Rattle.model.specs.Judgement.{our_surplus}
use Rattle.records.specs.Views.{system_in, plan_in, setting_in}
use Rattle.records.specs.Viewed as W
use Rattle.breaches.specs.First.{first, none_first}
use Rattle.std.specs.Prelude.{Option, Some, None}
use Rattle.mending.specs.declared.Mending.{Mending}
use Rattle.mending.specs.declared.Mending.TheVariants.{Accepted}
use Rattle.mending.specs.Mending.{most_online}
use Rattle.mending.specs.Mendings.{told, mending_of}
use Rattle.mending_theorems.proofs.FromBreach.{from-shape, from-none}
use Rattle.mending_theorems.specs.Answer.{Shaped, mended_from}

-- the first breach is the list's first
pub record Begins (b : Breach) (bs : List Breach) : Type 0 where
  pub rest : List Breach
  pub is : bs ≡ b ∷ rest

begins : (bs : List Breach) (b : Breach) → first bs ≡ Some b → Begins b bs
unfolding first
begins [] b e = absurd (let z : ◌≡◌ {A = ℕ} 0 1 = cc in omega (arith, z))
begins (x ∷ bs) b e = let g : x ≡ b = cc in record { rest = bs; is = ap (λ (y : Breach). y ∷ bs) g }

module _ (halves : List ℕ) (zones minima devices cells settings : List (List ℕ)) where
  abbrev q : System
  q = system_in halves zones minima devices cells

  abbrev p : Plan
  p = plan_in (length devices) (length halves) settings

  abbrev row_of : ℕ → List Setting
  row_of t = rows (λ i. setting_in (get_or (part (length halves) i settings) t [])) (length devices)

  -- the plan in the rows has the case's counts
  pub shaped-rows : Shaped q p
  unfolding plan_in
  shaped-rows = record {
    intervals = rows_long row_of (length halves) ∙ sym (W.intervals-are halves zones minima devices cells);
    devices = λ t l. ap length (rows_at row_of [] (length halves) t (omega (arith, rows_long row_of (length halves)))) ∙ rows_long
        (λ i. setting_in (get_or (part (length halves) i settings) t [])) (length devices) ∙ sym (W.devices-are halves zones minima devices cells);
  }

  module _ (e : ℕ) (x : Prices) where
    abbrev stated : Stated
    stated = record { edition = e; case = record { system = q; prices = x } }

    -- where a rule is broken
    pub mends-broken : {k : Option Breach} {b : Breach} {r : Mending} → k ≡ first (breaches q p) → k ≡ Some b → r ≡ told (mended_from most_online q p b) → r ≡ mending_of stated p
    mends-broken {k} {b} f g h =
        let s = begins (breaches q p) b (sym f ∙ g) in
        h ∙ sym (from-shape stated p shaped-rows b s.rest s.is)

    -- and where none is
    pub mends-accepted : {k : Option Breach} {r : Mending} → k ≡ first (breaches q p) → k ≡ None → r ≡ Accepted (our_surplus stated.case p) → r ≡ mending_of stated p
    mends-accepted f g h = h ∙ sym (from-none stated p (none_first (breaches q p) f g))
