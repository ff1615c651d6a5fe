-- Reading what came with an edition: the steps by which a proof of a reader follows `if edition < k`.
use Rattle.std.specs.Prelude.{◌≡◌, Bool, true, false, List, ℕ, ◌≤◌, ◌<◌}
use Rattle.std.proofs.Math.Path.{refl}
use Rattle.layouts.specs.declared.Place.{Place}
use Rattle.layouts.specs.Layout.{Layout, nat, count_of}
use Rattle.layouts.specs.Since.{nothing, present, since, has-not, has-it}
use Rattle.fields.specs.Got.{Got, good, got, Natural, moved}

-- any reader goes on from it as from any other part
pub present-natural : {A : Type 0} {l : Layout A} (b : Bool) (neutral : A) → Natural l → Natural (present b neutral l)
unfolding present nothing
present-natural true neutral u = u
present-natural false neutral u = record { goes = λ s p b n. refl; stays = λ s p e i. moved s e i }

module _ {A : Type 0} (k e : ℕ) (neutral : A) (l : Layout A) (s : List ℕ) (p : Place) where
  -- an edition that lacks it: the neutral value at the same place
  pub field-absent : e < k → good neutral p ≡ got (since e k neutral l) s p
  unfolding present nothing
  field-absent h = rw (has-not k e h) refl

  -- one that has it: what its layout gives
  pub field-there : {g : Got A} → k ≤ e → g ≡ got l s p → g ≡ got (since e k neutral l) s p
  unfolding present
  field-there h t = rw (has-it k e h) t

-- a count whose width and limits were chosen
pub count-of : (v b h : ℕ) (s : List ℕ) (p : Place) {w l m : ℕ} {g : Got ℕ} → w ≡ v → l ≡ b → m ≡ h → g ≡ got (nat (count_of w l m)) s p → g ≡ got (nat (count_of v b h)) s p
count-of v b h s p i j k e = rw (i, j, k) at e
