-- "the figures come back": a completion or a copy that passes reading is what its figures are written as, so no bit of it is lost; and whatever figures fit their fields are read as they stand.
use Rattle.std.specs.Prelude.{◌≡◌, List, ℕ, ◌-◌, ◌^◌, ◌<◌}
use Rattle.std.proofs.Math.Path.{refl}
use Rattle.std.proofs.Common.{sym, arith}
use Rattle.numbers.specs.Sum.{All}
use Rattle.layouts.specs.declared.Fault.{Fault}
use Rattle.layouts.specs.Layout.{Layout, passes, bytes, nat, any}
use Rattle.layouts.specs.Since.{has, present}
use Rattle.layouts.specs.Own.{Own, nat-own, int-own, held-own, pair-own, list-own, present-own, own-more}
use Rattle.layouts.specs.OwnBytes.{whole-own}
use Rattle.layouts.specs.Sure.{Any}
use Rattle.model.specs.Case.{System, no_reactive_reserves}
use Rattle.model.specs.Editions.{widths_of}
use Rattle.model.specs.Messages as M
use Rattle.model.specs.Messages.{Counts, no_bars, Written}
use Rattle.model.specs.ByEdition as B
use Rattle.model.specs.Judgement.{counts_of, energy_windows, completion_in}
use Rattle.market.specs.Copy.{market_kind, Copy, change, interval_copy, copy_front_by, copy_by, copy_layout, copy_in}
use Rattle.completion_reading.specs.Readers.{desk_in, market_in}

free : {A : Type 0} {l : Layout A} {P : A → Type 0} → Own l P → Own l Any
free u = own-more _ Any u (λ a ok. tt)

pub any-own : (w : ℕ) → Own (any w) Any
any-own w = free (nat-own (record { width = w; low = 0; high = 2 ^ w - 1; wrong = _ }))

-- what an edition has or lacks
since-own : {A : Type 0} (e k : ℕ) (neutral : A) {l : Layout A} → Own l Any → Own (present (has k e) neutral l) Any
since-own e k neutral u = free (present-own (has k e) neutral u)

pub only-own : (w v : ℕ) (wrong : ℕ → Fault) → Own (nat (record { width = w; low = v; high = v; wrong = wrong })) (λ x. x ≡ v)
only-own w v wrong = own-more _ _ (nat-own (record { width = w; low = v; high = v; wrong = wrong })) (λ x ok. omega arith)

pub six-own : Own (M.six (any 33)) Any
unfolding M.six
six-own = let u = any-own 33 in held-own _ _ _ Any (pair-own u (pair-own u (pair-own u (pair-own u (pair-own u u))))) (λ v ok. (tt, refl))

pub two-own : Own B.reactive_choice Any
unfolding B.reactive_choice
two-own = held-own _ _ _ Any (pair-own (any-own 33) (any-own 33)) (λ v ok. (tt, refl))

zone-own : (e : ℕ) → Own (B.zone_choice e) Any
unfolding B.zone_choice
zone-own e = held-own _ _ _ Any (pair-own six-own (since-own e 2 no_reactive_reserves two-own)) (λ v ok. (tt, refl))

bars-own : (e : ℕ) → Own (B.bars_choice e) Any
unfolding B.bars_choice
bars-own e = held-own _ _ _ Any (pair-own (any-own 23) (since-own e 5 0 (any-own 23))) (λ v ok. (tt, refl))

device-own : Own M.device_choice Any
unfolding M.device_choice
device-own = held-own _ _ _ Any (pair-own (any-own 1) (pair-own (any-own 1) (pair-own (any-own 3) (list-own 4 (any-own 17))))) (λ v ok. (tt, refl))

change-own : Own change Any
unfolding change
change-own = held-own _ _ _ Any (pair-own (any-own 1) (any-own 1)) (λ v ok. (tt, refl))

interval-own : (e devices zones : ℕ) → Own (B.interval_choice e devices zones) Any
unfolding B.interval_choice
interval-own e devices zones = held-own _ _ _ Any
    (pair-own (list-own devices device-own) (pair-own (list-own zones (zone-own e)) (pair-own (bars-own e) (since-own e 2 no_bars (bars-own e))))) (λ v ok. (tt, refl))

copy-own : (e devices zones : ℕ) → Own (interval_copy e devices zones) Any
unfolding interval_copy
copy-own e devices zones = held-own _ _ _ Any
    (pair-own (list-own devices change-own) (pair-own (list-own zones (zone-own e)) (pair-own (bars-own e) (since-own e 2 no_bars (bars-own e))))) (λ v ok. (tt, refl))

-- a front holds the case's counts
pub front-is : (v : ℕ × (ℕ × (ℕ × (ℕ × ℕ)))) {a b c d e : ℕ} → v.0 ≡ a → v.1.0 ≡ b → v.1.1.0 ≡ c → v.1.1.1.0 ≡ d → v.1.1.1.1 ≡ e
    → ◌≡◌ {A = ℕ × (ℕ × (ℕ × (ℕ × ℕ)))} (a, (b, (c, (d, e)))) v
front-is v a b c d e = rw (sym a, sym b, sym c, sym d, sym e) refl

module _ (e : ℕ) (n : Counts) where
  completion-front-own : Own (B.completion_front e n) (λ m. m ≡ n)
  unfolding B.completion_front_by
  completion-front-own = held-own _ _ _ _
      (pair-own (only-own 4 B.completion_kind _) (pair-own (only-own 4 e _) (pair-own (only-own _ n.devices _) (pair-own (only-own _ n.intervals _) (only-own 3 n.zones _)))))
      (λ v ok. (rw (ok.1.1.0, ok.1.1.1.0, ok.1.1.1.1) refl, front-is v ok.0 ok.1.0 refl refl refl))

  copy-front-own : Own (copy_front_by (widths_of e) e n) (λ m. m ≡ n)
  unfolding copy_front_by
  copy-front-own = held-own _ _ _ _
      (pair-own (only-own 4 market_kind _) (pair-own (only-own 4 e _) (pair-own (only-own _ n.devices _) (pair-own (only-own _ n.intervals _) (only-own 3 n.zones _)))))
      (λ v ok. (rw (ok.1.1.0, ok.1.1.1.0, ok.1.1.1.1) refl, front-is v ok.0 ok.1.0 refl refl refl))

  completions-own : (windows : ℕ) → Own (B.completion_layout e n windows) Any
  unfolding B.completion_by
  completions-own windows = held-own _ _ _ Any
      (pair-own completion-front-own (pair-own (list-own n.intervals (interval-own e n.devices n.zones)) (pair-own (list-own windows (any-own 32)) (int-own 64 (2 ^ 63)))))
      (λ v ok. (tt, rw (sym ok.0) refl))

  copies-own : (windows : ℕ) → Own (copy_layout e n windows) Any
  unfolding copy_by
  copies-own windows = held-own _ _ _ Any
      (pair-own copy-front-own (pair-own (list-own n.intervals (copy-own e n.devices n.zones)) (list-own windows (any-own 32)))) (λ v ok. (tt, rw (sym ok.0) refl))

pub desk-own : (e : ℕ) (q : System) (s : List ℕ) → All (λ b. b < 256) s → (r : Written) → desk_in e q s ≡ passes r → bytes ((completion_in e q).write r) ≡ s
unfolding desk_in
desk-own e q s small r h = whole-own (completion_in e q) Any (completions-own e (counts_of q) (energy_windows q)) s small r h

pub market-own : (e : ℕ) (q : System) (s : List ℕ) → All (λ b. b < 256) s → (r : Copy) → market_in e q s ≡ passes r → bytes ((copy_in e q).write r) ≡ s
unfolding market_in
market-own e q s small r h = whole-own (copy_in e q) Any (copies-own e (counts_of q) (energy_windows q)) s small r h
