-- "The smallest power change that mends a plan": of all replacements of one online power whose plan breaks no rule, the one "with the smallest change in kW; then earlier
-- interval, lower device, lower new power".
use Rattle.std.specs.Prelude.{Bool, true, false, List, [], ◌∷◌, map, ℕ, suc, ◌+◌, ◌-◌, leb, get_or, set}
use Rattle.std.proofs.Math.Option.{Option, none, some}
use Rattle.bits.specs.Pick.{pick}
use Rattle.numbers.specs.Base.{up_to, gather}
use Rattle.model.specs.Case.{System, Plan, Setting, no_setting}
use Rattle.model.specs.Forced.{intervals, devices, setting}
use Rattle.model.specs.Breaches.{breaches}

-- "the interval, device and new online power"; interval and device count from 0 here
pub record Change : Type 0 where
  pub interval : ℕ
  pub device : ℕ
  pub power : ℕ

-- "If no single replacement from 0 to 100,000 is accepted"
unfoldable pub most_online : ℕ
most_online = 100000

abbrev pub with_online : Setting → ℕ → Setting
with_online s v = record { on = s.on; online = v; reserves = s.reserves; reactive = s.reactive }

-- "the plan with that one figure replaced"
unfoldable pub replaced : Plan → Change → Plan
replaced p c =
    let row = get_or p.settings c.interval [] in
    record { settings = set p.settings c.interval (set row c.device (with_online (get_or row c.device no_setting) c.power)); flows = p.flows }

-- "accepted means here that no rule is broken"
abbrev pub is_empty : {A : Type 0} → List A → Bool
is_empty [] = true
is_empty (x ∷ l) = false

unfoldable pub mends : System → Plan → Change → Bool
mends q p c = is_empty (breaches q (replaced p c))

-- "change in kW"
unfoldable pub change : System → Plan → Change → ℕ
change q p c = let old = (setting q p c.interval c.device).online in (old - c.power) + (c.power - old)

-- every replacement: by interval, in it by device, in it by new power
unfoldable pub powers_of : ℕ → ℕ → ℕ → List Change
powers_of most t i = map (λ v. record { interval = t; device = i; power = v }) (up_to (suc most))

unfoldable pub replacements : System → ℕ → List Change
replacements q most = gather (λ t. gather (powers_of most t) (up_to (devices q))) (up_to (intervals q))

-- those that pass a test
abbrev pub keep_if : {A : Type 0} → Bool → A → List A → List A
keep_if true x l = x ∷ l
keep_if false x l = l

unfoldable pub those : {A : Type 0} → (A → Bool) → List A → List A
those f [] = []
those f (x ∷ l) = keep_if (f x) x (those f l)

-- the one of the smallest figure, the first of them where several have it
abbrev pub nearer : {A : Type 0} → (A → ℕ) → A → Option A → Option A
nearer f x none = some x
nearer f x (some y) = pick (leb (f x) (f y)) (some x) (some y)

unfoldable pub nearest : {A : Type 0} → (A → ℕ) → List A → Option A
nearest f [] = none
nearest f (x ∷ l) = nearer f x (nearest f l)

-- "with the smallest change in kW; then earlier interval, lower device, lower new power"; none "only then"
unfoldable pub mended_by : ℕ → System → Plan → Option Change
mended_by most q p = nearest (change q p) (those (mends q p) (replacements q most))

abbrev pub mended : System → Plan → Option Change
mended q p = mended_by most_online q p
