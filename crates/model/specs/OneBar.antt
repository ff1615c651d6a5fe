-- One busbar: mismatches, surplus, rules and completions as they were before edition 5, over all sets together and without a link. The newest judgement of
-- messages of editions 1 to 4 is this one (`theorems/specs/BarsAsBefore.antt`).
use Rattle.std.specs.Prelude.{Bool, true, false, not, List, ◌++◌, ℕ, ◌^◌, eqb, length, ℤ, pos, nat_abs, ◌+ℤ◌, ◌-ℤ◌, ◌*ℤ◌}
use Rattle.numbers.specs.Base.{up_to, gather}
use Rattle.numbers.specs.Sum.{sumℤ, sumℕ, gate}
use Rattle.bits.specs.Pick.{pick}
use Rattle.layouts.specs.Layout.{Layout, Whole, passes, fails, bytes, any, int, list, held, ◌▸◌}
use Rattle.layouts.specs.Since.{since}
use Rattle.model.specs.declared.Breach.{Breach}
use Rattle.model.specs.declared.Subject.TheVariants as S
use Rattle.model.specs.declared.Verdict.TheVariants.{Refused}
use Rattle.model.specs.Case.{Case, Plan, System}
use Rattle.model.specs.Forced.{intervals, devices, zones, consuming, duration, setting, power}
use Rattle.model.specs.Breaches.{cell_breaches, all_windows}
use Rattle.model.specs.Completion as C
use Rattle.model.specs.Completion.{Completion}
use Rattle.model.specs.Ours as O
use Rattle.model.specs.Ours.{whole}
use Rattle.model.specs.Editions.{Widths, widths_of}
use Rattle.model.specs.Messages.{Counts, IntervalChoice, Written, no_bars}
use Rattle.model.specs.ByEdition.{Stated, device_choice, zone_choice, completion_front_by}
use Rattle.model.specs.Judgement.{Judged, written, counts_of, energy_windows, accepts, unless_broken, buffer_after, refused_as}

module _ (q : System) (p : Plan) where
  -- the p of one side
  unfoldable pub total : Bool → ℕ → ℕ
  total true t = sumℕ (λ i. gate (consuming q i) (power q p t i)) (up_to (devices q))
  total false t = sumℕ (λ i. gate (not (consuming q i)) (power q p t i)) (up_to (devices q))

  -- "Mismatch ≥ |consuming − producing p|" (11, 12, 17)
  unfoldable pub mismatch_need : ℕ → ℕ
  mismatch_need t = nat_abs (pos (total true t) -ℤ pos (total false t))

  -- the q of one side
  unfoldable pub reactive_total : Bool → ℕ → ℤ
  reactive_total true t = sumℤ (λ i. pick (consuming q i) (setting q p t i).reactive.q (pos 0)) (up_to (devices q))
  reactive_total false t = sumℤ (λ i. pick (consuming q i) (pos 0) (setting q p t i).reactive.q) (up_to (devices q))

  -- "A reactive mismatch is priced like the real one": at least |consuming − producing q| (13, 14, 18)
  unfoldable pub reactive_mismatch_need : ℕ → ℕ
  reactive_mismatch_need t = nat_abs (reactive_total true t -ℤ reactive_total false t)

-- the only mismatch stands as bar 0's
unfoldable pub ours : Case → Plan → Completion ℕ
ours c p = O.with_mismatches (λ t b. pick (eqb b 0) (mismatch_need c.system p t) 0) (λ t b. pick (eqb b 0) (reactive_mismatch_need c.system p t) 0) (O.ours c p)

module _ (c : Case) (p : Plan) (x : Completion ℤ) where
  abbrev q : System
  q = c.system

  abbrev over : (ℕ → ℕ → ℤ) → ℕ → ℤ
  over f n = sumℤ (λ t. sumℤ (f t) (up_to n)) (up_to (intervals q))

  unfoldable pub real_surplus : ℤ
  real_surplus =
      over (C.block_worth c p x) (devices q)
      -ℤ over (C.on_cost c p x) (devices q)
      -ℤ over (C.change_cost c p x) (devices q)
      -ℤ over (C.reserves_cost c p x) (devices q)
      -ℤ over (C.shortfall_cost c p x) (zones q)
      -ℤ sumℤ (λ t. C.mismatch_cost c p x t 0) (up_to (intervals q))
      -ℤ pos c.prices.overrun *ℤ sumℤ (C.overruns c p x) (up_to (devices q))

  unfoldable pub reactive_costs : ℤ
  reactive_costs =
      over (C.reactive_reserves_cost c p x) (devices q)
      +ℤ over (C.reactive_shortfall_cost c p x) (zones q)
      +ℤ sumℤ (λ t. C.reactive_mismatch_cost c p x t 0) (up_to (intervals q))

  unfoldable pub surplus_of : ℤ
  surplus_of = real_surplus -ℤ reactive_costs

unfoldable pub our_surplus : Case → Plan → ℤ
our_surplus c p = surplus_of c p (whole (ours c p))

-- no rule of a link
unfoldable pub breaches : System → Plan → List Breach
breaches q p = gather (λ t. gather (cell_breaches q p t) (up_to (devices q))) (up_to (intervals q)) ++ all_windows q p

-- "then mismatch 23", and since edition 2 the reactive one
unfoldable pub interval_choice : ℕ → ℕ → ℕ → Layout IntervalChoice
interval_choice e devices zones = held
    (λ v. record { devices = v.0; zones = v.1.0; mismatch = record { first = v.1.1.0; second = 0 }; reactive_mismatch = record { first = v.1.1.1; second = 0 } })
    (λ r. (r.devices, (r.zones, (r.mismatch.first, r.reactive_mismatch.first))))
    (list devices device_choice ▸ list zones (zone_choice e) ▸ any 23 ▸ since e 2 0 (any 23))

unfoldable pub completion_by : Widths → ℕ → Counts → ℕ → Layout Written
completion_by w e n windows = held
    (λ v. record { intervals = v.1.0; overruns = v.1.1.0; surplus = v.1.1.1 })
    (λ r. (n, (r.intervals, (r.overruns, r.surplus))))
    (completion_front_by w e n ▸ list n.intervals (interval_choice e n.devices n.zones) ▸ list windows (any 32) ▸ int 64 (2 ^ 63))

unfoldable pub completion_bytes : Stated → Plan → List ℕ
completion_bytes x p =
    let q = x.case.system in
    bytes ((completion_by (widths_of x.edition) x.edition (counts_of q) (energy_windows q)).write (written q (ours x.case p) (our_surplus x.case p)))

unfoldable pub judged : Stated → Plan → List ℕ → Judged
judged x p buffer =
    let out = completion_bytes x p in
    let v = unless_broken (breaches x.case.system p) (accepts (our_surplus x.case p) (length out) (length buffer)) in
    record { verdict = v; result = buffer_after v out buffer }

abbrev pub with_plan : Stated → List ℕ → Whole Plan → Judged
with_plan x buffer (passes p) = judged x p buffer
with_plan x buffer (fails f) = refused_as (Refused S.Plan f) buffer
