-- A written completion reads back, where each figure fits its field.
use Rattle.std.specs.Prelude.{◌≡◌, refl, ℕ, ◌+◌, ◌-◌, ◌^◌, ◌≤◌, ◌<◌}
use Rattle.std.proofs.Common.{arith}
use lib.ListN.{length}
use Rattle.model.specs.Case.{no_reactive_reserves}
use Rattle.layouts.specs.declared.Fault.{Fault}
use Rattle.layouts.specs.Layout.{Layout, nat, ◌then◌, ◌▸◌, read_whole, passes, bytes, any}
use Rattle.model.specs.Editions.{device_bits, interval_bits}
use Rattle.model.specs.ByEdition as B
use Rattle.model.specs.ByEdition.{completion_front, completion_front_by, completion_kind}
use Rattle.model.specs.Messages.{Counts, six, device_choice, no_bars, Written}
use Rattle.layouts.specs.Since.{has, present-law}
use Rattle.layouts.specs.Trip.{Lawful, nat-law, int-law, then-law, held-law, list_law, weaken, whole_back}
use Rattle.theorems.specs.Back.{Countable, FitsBars, FitsDevice, FitsInterval, FitsKinds, FitsSix, FitsTwo, FitsWritten}

-- ---- laws of the parts
pair-law : {A B : Type 0} (l : Layout A) (m : Layout B) (P : A → Type 0) (Q : B → Type 0) → Lawful l P → Lawful m Q → Lawful (l ▸ m) (λ x. P x.0 × Q x.1)
pair-law l m P Q u v = then-law l (λ a. m) P (λ a. Q) u (λ a ok. v)

any-law : (w : ℕ) → 0 < 2 ^ w → Lawful (any w) (λ v. v ≤ 2 ^ w - 1)
any-law w h = weaken (any w) _ _ (nat-law (record { width = w; low = 0; high = 2 ^ w - 1; wrong = _ }) (omega arith)) (λ a ok. (omega arith, ok))

six-law : Lawful (six (any 33)) FitsSix
unfolding six
six-law = let u = any-law 33 (omega arith) in
    weaken _ _ _ (held-law _ _ _ _ (pair-law _ _ _ _ u (pair-law _ _ _ _ u (pair-law _ _ _ _ u (pair-law _ _ _ _ u (pair-law _ _ _ _ u u))))))
    (λ r ok. ((ok.rgu, (ok.rgd, (ok.scr, (ok.nsc, (ok.rru, ok.rrd))))), refl))

two-law : Lawful B.reactive_choice FitsTwo
unfolding B.reactive_choice
two-law = let u = any-law 33 (omega arith) in weaken _ _ _ (held-law _ _ _ _ (pair-law _ _ _ _ u u)) (λ r ok. ((ok.qru, ok.qrd), refl))

kinds-law : (e : ℕ) → Lawful (B.zone_choice e) (FitsKinds e)
unfolding B.zone_choice
kinds-law e = weaken _ _ _ (held-law _ _ _ _ (pair-law _ _ _ _ six-law (present-law (has 2 e) no_reactive_reserves B.reactive_choice FitsTwo two-law))) (λ r ok. ((ok.six, ok.reactive), refl))

device-law : Lawful device_choice FitsDevice
unfolding device_choice
device-law =
    weaken _ _ _ (held-law _ _ _ _ (pair-law _ _ _ _ (any-law 1 (omega arith))
    (pair-law _ _ _ _ (any-law 1 (omega arith)) (pair-law _ _ _ _ (any-law 3 (omega arith)) (list_law 4 (any 17) _ (any-law 17 (omega arith)))))))
    (λ r ok. ((ok.started, (ok.stopped, (ok.state, (ok.four, ok.blocks)))), refl))

bars-law : (e : ℕ) → Lawful (B.bars_choice e) (FitsBars e)
unfolding B.bars_choice
bars-law e = weaken _ _ _ (held-law _ _ _ _ (pair-law _ _ _ _ (any-law 23 (omega arith)) (present-law (has 5 e) 0 (any 23) _ (any-law 23 (omega arith))))) (λ r ok. ((ok.first, ok.second), refl))

interval-law : (e : ℕ) (n : Counts) → Lawful (B.interval_choice e n.devices n.zones) (FitsInterval e n)
unfolding B.interval_choice
interval-law e n =
    weaken _ _ _ (held-law _ _ _ _ (pair-law _ _ _ _ (list_law n.devices device_choice FitsDevice device-law)
    (pair-law _ _ _ _ (list_law n.zones (B.zone_choice e) (FitsKinds e) (kinds-law e))
    (pair-law _ _ _ _ (bars-law e) (present-law (has 2 e) no_bars (B.bars_choice e) _ (bars-law e))))))
    (λ r ok. (((ok.each, ok.devices), ((ok.every, ok.zones), (ok.mismatch, ok.reactive_mismatch))), refl))

-- a field that holds one value
only-law : (w v : ℕ) (wrong : ℕ → Fault) → v < 2 ^ w → Lawful (nat (record { width = w; low = v; high = v; wrong = wrong })) (λ x. x ≡ v)
only-law w v wrong h = weaken _ _ _ (nat-law (record { width = w; low = v; high = v; wrong = wrong }) h) (λ x e. (omega arith, omega arith))

front-law : (e : ℕ) (n : Counts) → Countable e n → Lawful (completion_front e n) (λ m. m ≡ n)
unfolding completion_front_by
front-law e n k = weaken _ _ _
    (held-law _ _ _ _ (pair-law _ _ _ _ (only-law 4 completion_kind _ (omega arith)) (pair-law _ _ _ _ (only-law 4 e _ k.edition)
    (pair-law _ _ _ _ (only-law (device_bits e) n.devices _ k.devices) (pair-law _ _ _ _ (only-law (interval_bits e) n.intervals _ k.intervals) (only-law 3 n.zones _ k.zones))))))
    (λ m h. rw h ((refl, (refl, (refl, (refl, refl)))), refl))

completed-law : (e : ℕ) (n : Counts) (windows : ℕ) → Countable e n → Lawful (B.completion_layout e n windows) (FitsWritten e n windows)
unfolding B.completion_by
completed-law e n windows k =
    weaken _ _ _ (held-law _ _ _ _
    (pair-law _ _ _ _ (front-law e n k)
    (pair-law _ _ _ _ (list_law n.intervals (B.interval_choice e n.devices n.zones) (FitsInterval e n) (interval-law e n))
    (pair-law _ _ _ _ (list_law windows (any 32) _ (any-law 32 (omega arith)))
    (int-law 64 (2 ^ 63))))))
    (λ x ok. ((refl, ((ok.length, ok.each), ((ok.count, ok.overruns), (ok.surplus, ok.size)))), refl))

-- what is written reads back, in every edition
pub completed-back : (e : ℕ) (n : Counts) (windows : ℕ) → Countable e n → (r : Written) → FitsWritten e n windows r → length ((B.completion_layout e n windows).write r) + 8 < 2 ^ 63
    → read_whole (B.completion_layout e n windows) (bytes ((B.completion_layout e n windows).write r)) ≡ passes r
completed-back e n windows k r fits small = whole_back _ _ (completed-law e n windows k) r fits small
