-- Every beginning of a completion or a copy that passes reading is refused by 1, at the first field that is not whole. A field's name plays no part in it: all bear one.
use Rattle.std.specs.Prelude.{◌≡◌, List, ℕ, ◌^◌, ◌<◌, length, take}
use Rattle.layouts.specs.declared.Fault.TheVariants as F
use Rattle.layouts.specs.Layout.{passes, fails, any}
use Rattle.model.specs.Case.{System, no_reactive_reserves}
use Rattle.model.specs.Editions.{widths_of}
use Rattle.model.specs.Messages as M
use Rattle.model.specs.Messages.{Counts, no_bars, Written}
use Rattle.model.specs.ByEdition as B
use Rattle.model.specs.Judgement.{counts_of, energy_windows, completion_in}
use Rattle.refusals.specs.Names.{Name, kind}
use Rattle.refusals.proofs.Traced.{Traced, int-traced, held-traced, pair-traced, list-traced}
use Rattle.refusals.proofs.Messages.{any-traced, count-traced, fixed-traced, since-traced}
use Rattle.refusals.proofs.Whole.{broken-off}
use Rattle.market.specs.Copy.{market_kind, Copy, change, interval_copy, copy_front_by, copy_by, copy_layout, copy_in}
use Rattle.completion_reading.specs.Readers.{desk_in, market_in}

module _ (n : Name) where
  six-traced : Traced (M.six (any 33))
  unfolding M.six
  six-traced = let u : Traced (any 33) = any-traced n 33 in held-traced _ _ (pair-traced u (pair-traced u (pair-traced u (pair-traced u (pair-traced u u)))))

  two-traced : Traced B.reactive_choice
  unfolding B.reactive_choice
  two-traced = held-traced _ _ (pair-traced (any-traced n 33) (any-traced n 33))

  zone-traced : (e : ℕ) → Traced (B.zone_choice e)
  unfolding B.zone_choice
  zone-traced e = held-traced _ _ (pair-traced six-traced (since-traced e 2 no_reactive_reserves two-traced))

  bars-traced : (e : ℕ) → Traced (B.bars_choice e)
  unfolding B.bars_choice
  bars-traced e = held-traced _ _ (pair-traced (any-traced n 23) (since-traced e 5 0 (any-traced n 23)))

  device-traced : Traced M.device_choice
  unfolding M.device_choice
  device-traced = held-traced _ _ (pair-traced (any-traced n 1) (pair-traced (any-traced n 1) (pair-traced (any-traced n 3) (list-traced 4 0 (λ j. any-traced n 17)))))

  change-traced : Traced change
  unfolding change
  change-traced = held-traced _ _ (pair-traced (any-traced n 1) (any-traced n 1))

  interval-traced : (e devices zones : ℕ) → Traced (B.interval_choice e devices zones)
  unfolding B.interval_choice
  interval-traced e devices zones = held-traced _ _
      (pair-traced (list-traced devices 0 (λ i. device-traced)) (pair-traced (list-traced zones 0 (λ z. zone-traced e)) (pair-traced (bars-traced e) (since-traced e 2 no_bars (bars-traced e)))))

  copied-traced : (e devices zones : ℕ) → Traced (interval_copy e devices zones)
  unfolding interval_copy
  copied-traced e devices zones = held-traced _ _
      (pair-traced (list-traced devices 0 (λ i. change-traced)) (pair-traced (list-traced zones 0 (λ z. zone-traced e)) (pair-traced (bars-traced e) (since-traced e 2 no_bars (bars-traced e)))))

  completion-front-traced : (e : ℕ) (c : Counts) → Traced (B.completion_front_by (widths_of e) e c)
  unfolding B.completion_front_by
  completion-front-traced e c = held-traced _ _
      (pair-traced (fixed-traced n B.completion_kind) (pair-traced (fixed-traced n e) (pair-traced (count-traced n _ _ _) (pair-traced (count-traced n _ _ _) (count-traced n _ _ _)))))

  copy-front-traced : (e : ℕ) (c : Counts) → Traced (copy_front_by (widths_of e) e c)
  unfolding copy_front_by
  copy-front-traced e c = held-traced _ _
      (pair-traced (fixed-traced n market_kind) (pair-traced (fixed-traced n e) (pair-traced (count-traced n _ _ _) (pair-traced (count-traced n _ _ _) (count-traced n _ _ _)))))

  completion-traced : (e : ℕ) (c : Counts) (windows : ℕ) → Traced (B.completion_layout e c windows)
  unfolding B.completion_by
  completion-traced e c windows = held-traced _ _
      (pair-traced (completion-front-traced e c) (pair-traced (list-traced c.intervals 0 (λ t. interval-traced e c.devices c.zones))
      (pair-traced (list-traced windows 0 (λ w. any-traced n 32)) (int-traced n 64 (2 ^ 63)))))

  copy-traced : (e : ℕ) (c : Counts) (windows : ℕ) → Traced (copy_layout e c windows)
  unfolding copy_by
  copy-traced e c windows = held-traced _ _
      (pair-traced (copy-front-traced e c) (pair-traced (list-traced c.intervals 0 (λ t. copied-traced e c.devices c.zones)) (list-traced windows 0 (λ w. any-traced n 32))))

pub desk-begun : (e : ℕ) (q : System) (s : List ℕ) (r : Written) → desk_in e q s ≡ passes r → (k : ℕ) → k < length s → (b : ℕ) × (desk_in e q (take k s) ≡ fails (F.Cut b))
unfolding desk_in
desk-begun e q s r h k short = let o = broken-off (completion_in e q) (completion-traced kind e (counts_of q) (energy_windows q)) s r h k short in (o.bit, o.refused)

pub market-begun : (e : ℕ) (q : System) (s : List ℕ) (r : Copy) → market_in e q s ≡ passes r → (k : ℕ) → k < length s → (b : ℕ) × (market_in e q (take k s) ≡ fails (F.Cut b))
unfolding market_in
market-begun e q s r h k short = let o = broken-off (copy_in e q) (copy-traced kind e (counts_of q) (energy_windows q)) s r h k short in (o.bit, o.refused)
