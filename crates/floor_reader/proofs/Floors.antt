-- The steps of reading a block's cap and floor.
use mathlib.Core.Path.{◌≡◌}
use mathlib.Core.List.{List}
use Prim.Native.Nat.{ℕ, ◌≤◌, ◌<◌}
use lib.Dec.{leb}
use Rattle.layouts.specs.declared.Fault.{Fault}
use Rattle.layouts.specs.declared.Place.{Place}
use Rattle.layouts.specs.Layout.{Layout, ◌then◌, such, noted}
use Rattle.layouts.specs.Since.{has, since}
use Rattle.model.specs.Messages.{kw_field}
use Rattle.model.specs.ByEdition.{block}
use Rattle.fields.specs.Got.{good, bad, got, Natural, nat-natural, then-natural, such-natural, held-natural}
use Rattle.fields.specs.Since.{present-natural, field-absent, field-there}
use Rattle.fields.proofs.Chains.{then-off, then-late, then-on, such-off, such-on, held-off, held_on}

-- ---- the layout

-- a floor not above this cap, from edition 3 on
abbrev floor_of : ℕ → ℕ → Layout ℕ
floor_of e cap = since e 3 0 (such (λ floor. leb floor cap) kw_field)

floor-natural : (e cap : ℕ) → Natural (floor_of e cap)
floor-natural e cap = present-natural (has 3 e) 0 (such-natural _ (nat-natural _))

both : (e : ℕ) → Natural (kw_field then floor_of e)
both e = then-natural (nat-natural _) (λ cap. floor-natural e cap)

pub block-natural : (e : ℕ) → Natural (block e)
unfolding block
block-natural e = held-natural _ _ (both e)

-- ---- a block, by how far its reading came

module _ (e : ℕ) (s : List ℕ) (p : Place) where
  pub no-cap : {f : Fault} → bad f ≡ got kw_field s p → bad f ≡ got (block e) s p
  unfolding block
  no-cap h = held-off (both e) _ _ s p (then-off (nat-natural _) _ s p h)

  module _ {cap : ℕ} {q : Place} (h : good cap q ≡ got kw_field s p) where
    pub cap-only : e < 3 → good (record { cap = cap; floor = 0 }) q ≡ got (block e) s p
    unfolding block
    cap-only l = held_on (both e) _ _ s p (then-on (nat-natural _) _ s p (floor-natural e cap) h (field-absent 3 e 0 _ s q l))

    pub no-floor : {f : Fault} → 3 ≤ e → bad f ≡ got kw_field s q → bad f ≡ got (block e) s p
    unfolding block
    no-floor l k = held-off (both e) _ _ s p
        (then-late (nat-natural _) _ s p (floor-natural e cap) h (field-there 3 e 0 _ s q l (such-off (nat-natural _) _ s q k)))

    pub bounds-done : {floor : ℕ} {z y : Place} → 3 ≤ e → good floor z ≡ got kw_field s q → y ≡ noted (leb floor cap) q.at z → good (record { cap = cap; floor = floor }) y ≡ got (block e) s p
    unfolding block
    bounds-done l k n = held_on (both e) _ _ s p
        (then-on (nat-natural _) _ s p (floor-natural e cap) h (field-there 3 e 0 _ s q l (such-on (nat-natural _) _ s q k n)))
