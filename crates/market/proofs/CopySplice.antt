-- The market's copy from the completion's own bytes: a splice that leaves out startup states, block powers and surplus, and writes another kind.
use Rattle.std.specs.Prelude.{◌≡◌, refl, List, [], ◌∷◌, ◌++◌, map, ℕ, ◌+◌, ◌-◌, ◌*◌, ◌^◌, ◌≤◌, pos}
use Rattle.std.proofs.Common.{sym, ◌∙◌, ap, ap₂, append-nil, arith}
use Rattle.bits.specs.Bits.{reach}
use Rattle.numbers.specs.Base.{gather}
use Rattle.numbers.specs.Sum.{all}
use Rattle.numbers.specs.Gather.{gather-map, gather_cong}
use Rattle.layouts.specs.declared.Fault.{Fault}
use Rattle.layouts.specs.Layout.{Layout, passes, read_whole, begin, bits_of, nat, any, list, ◌then◌, ◌▸◌, held, fixed, count_of}
use Rattle.layouts.specs.Since.{has, nothing, since}
use Rattle.layouts.specs.Own.{Own, nat-own, int-own, held-own, pair-own, own-more}
use Rattle.layouts.specs.Sure.{Any}
use Rattle.model.specs.Case.{System, no_reactive_reserves}
use Rattle.model.specs.Editions.{widths_of, device_bits, interval_bits}
use Rattle.model.specs.Messages as M
use Rattle.model.specs.Messages.{Counts, no_bars, DeviceChoice, IntervalChoice, Written}
use Rattle.model.specs.ByEdition as B
use Rattle.model.specs.Judgement.{counts_of, energy_windows, completion_in}
use Rattle.writing.specs.Splice.{keep, skip, add, ◌⨾◌, past, spliced, Anew, Wide}
use Rattle.writing.proofs.Splice.{keep-anew, skip-anew, instead-anew, pair-anew}
use Rattle.writing.proofs.Splice.{held-anew, loose-anew, same-present, list-anew, whole_run}
use Rattle.writing.proofs.Splice.{nat-wide, int-wide, held-wide, pair-wide}
use Rattle.market.specs.Copy.{market_kind, change, change_of, interval_copy, interval_of, copy_front_by, copy_by, copy_in, shown}
use Rattle.market.specs.CopySplice.{bars_splice, change_splice, copy_splice, front_splice, interval_splice, short_splice}

-- ---- what they give
pub any-own : (w : ℕ) → Own (any w) Any
any-own w = own-more _ Any (nat-own (record { width = w; low = 0; high = 2 ^ w - 1; wrong = _ })) (λ a ok. tt)

pub only-own : (w v : ℕ) (wrong : ℕ → Fault) → Own (nat (record { width = w; low = v; high = v; wrong = wrong })) (λ x. x ≡ v)
only-own w v wrong = own-more _ _ (nat-own (record { width = w; low = v; high = v; wrong = wrong })) (λ x ok. omega arith)

pub six-own : Own (M.six (any 33)) Any
unfolding M.six
six-own = let u = any-own 33 in held-own _ _ _ Any (pair-own u (pair-own u (pair-own u (pair-own u (pair-own u u))))) (λ v ok. (tt, refl))

pub two-own : Own B.reactive_choice Any
unfolding B.reactive_choice
two-own = held-own _ _ _ Any (pair-own (any-own 33) (any-own 33)) (λ v ok. (tt, refl))

any-wide : (w : ℕ) → Wide (any w) w
any-wide w = nat-wide (record { width = w; low = 0; high = 2 ^ w - 1; wrong = _ })

kept : (w : ℕ) → Anew (any w) (any w) (keep w) Any
kept w = keep-anew (any-own w) (any-wide w)

-- a field that is written as the market's kind, whatever it holds
unfoldable other : Layout ℕ
other = record { read = λ s p bad next. next market_kind p; write = λ v. bits_of 4 market_kind }

-- a device's choices, of which its changes are written
unfoldable less_device : Layout DeviceChoice
less_device = held
    (λ v. record { started = v.0; stopped = v.1.0; state = v.1.1.0; blocks = v.1.1.1 })
    (λ r. (r.started, (r.stopped, (r.state, r.blocks))))
    (any 1 ▸ any 1 ▸ nothing 0 ▸ list 4 (nothing 0))

device-anew : Anew M.device_choice less_device change_splice Any
unfolding M.device_choice less_device change_splice
device-anew = held-anew _ _ Any (pair-anew (kept 1) (pair-anew (kept 1) (pair-anew (skip-anew 0 (any-own 3) (any-wide 3)) (list-anew 4 (skip-anew 0 (any-own 17) (any-wide 17)))))) (λ v ok. (tt, refl))

none_written : (xs : List ℕ) → gather {A = ℕ} (nothing {A = ℕ} 0).write xs ≡ []
unfolding gather nothing
none_written [] = refl
none_written (x ∷ xs) = none_written xs

device-less : (d : DeviceChoice) → less_device.write d ≡ change.write (change_of d)
unfolding less_device change held ◌then◌ list nothing nat
device-less d = ap (λ (b : List ℕ). bits_of 1 d.started ++ (bits_of 1 d.stopped ++ b)) (none_written d.blocks) ∙ ap (λ (b : List ℕ). bits_of 1 d.started ++ b)
    (append-nil (bits_of 1 d.stopped))

six-wide : Wide (M.six (any 33)) 198
unfolding M.six
six-wide = let u = any-wide 33 in held-wide _ _ (pair-wide u (pair-wide u (pair-wide u (pair-wide u (pair-wide u u)))))

two-wide : Wide B.reactive_choice 66
unfolding B.reactive_choice
two-wide = held-wide _ _ (pair-wide (any-wide 33) (any-wide 33))

zone-anew : (e : ℕ) → Anew (B.zone_choice e) (B.zone_choice e) (short_splice e) Any
unfolding B.zone_choice short_splice
zone-anew e = held-anew _ _ Any (pair-anew (keep-anew six-own six-wide) (same-present (has 2 e) no_reactive_reserves tt (keep-anew two-own two-wide))) (λ v ok. (tt, refl))

bars-anew : (e : ℕ) → Anew (B.bars_choice e) (B.bars_choice e) (bars_splice e) Any
unfolding B.bars_choice bars_splice
bars-anew e = held-anew _ _ Any (pair-anew (kept 23) (same-present (has 5 e) 0 tt (kept 23))) (λ v ok. (tt, refl))

-- an interval's
unfoldable less_interval : ℕ → ℕ → ℕ → Layout IntervalChoice
less_interval e devices zones = held
    (λ v. record { devices = v.0; zones = v.1.0; mismatch = v.1.1.0; reactive_mismatch = v.1.1.1 })
    (λ r. (r.devices, (r.zones, (r.mismatch, r.reactive_mismatch))))
    (list devices less_device ▸ list zones (B.zone_choice e) ▸ B.bars_choice e ▸ since e 2 no_bars (B.bars_choice e))

interval-anew : (e devices zones : ℕ) → Anew (B.interval_choice e devices zones) (less_interval e devices zones) (interval_splice e devices zones) Any
unfolding B.interval_choice less_interval interval_splice
interval-anew e devices zones = held-anew _ _ Any
    (pair-anew (list-anew devices device-anew) (pair-anew (list-anew zones (zone-anew e)) (pair-anew (bars-anew e) (same-present (has 2 e) no_bars tt (bars-anew e))))) (λ v ok. (tt, refl))

devices-less : (ds : List DeviceChoice) → gather less_device.write ds ≡ gather change.write (map change_of ds)
devices-less ds = gather_cong _ _ ds (all device-less ds) ∙ sym (gather-map change.write change_of ds)

interval-less : (e devices zones : ℕ) (r : IntervalChoice) → (less_interval e devices zones).write r ≡ (interval_copy e devices zones).write (interval_of r)
unfolding less_interval interval_copy held ◌then◌ list
interval-less e devices zones r = ap (λ (b : List ℕ). b ++ (list zones (B.zone_choice e) ▸ B.bars_choice e ▸ since e 2 no_bars (B.bars_choice e)).write (
  r.zones,
  (r.mismatch, r.reactive_mismatch),
)) (devices-less r.devices)

-- a completion's front, with the other kind
unfoldable less_front : ℕ → Counts → Layout Counts
less_front e n = held
    (λ v. record { devices = v.1.1.0; intervals = v.1.1.1.0; zones = v.1.1.1.1 })
    (λ r. (B.completion_kind, (e, (r.devices, (r.intervals, r.zones)))))
    (other ▸ fixed e ▸ nat (count_of (device_bits e) n.devices n.devices) ▸ nat (count_of (interval_bits e) n.intervals n.intervals) ▸ nat (count_of 3 n.zones n.zones))

only : (w v : ℕ) (wrong : ℕ → Fault) → Anew (nat (record { width = w; low = v; high = v; wrong = wrong })) (nat (record { width = w; low = v; high = v; wrong = wrong })) (keep w) (λ x. x ≡ v)
only w v wrong = keep-anew (only-own w v wrong) (nat-wide _)

kind-anew : Anew (fixed B.completion_kind) other (skip 4 ⨾ add 4 market_kind) Any
unfolding other
kind-anew = instead-anew other 4 market_kind (own-more _ Any (nat-own _) (λ a ok. tt)) (nat-wide _) (λ a. refl)

-- the kind is written alike, whatever it was
front-alike : {A : Type 0} (l : Layout A) (e k : ℕ) (f : Layout ℕ) (v : ℕ × (ℕ × A)) → v.1.0 ≡ e → (other ▸ f ▸ l).write (k, (e, v.1.1)) ≡ (other ▸ f ▸ l).write v
unfolding other ◌then◌
front-alike l e k f v h = rw (sym h) refl

front-anew : (e : ℕ) (n : Counts)
    → Anew (B.completion_front e n) (less_front e n) (front_splice e) (λ m. m ≡ n)
unfolding B.completion_front_by less_front front_splice
front-anew e n = loose-anew _ _ _
    (pair-anew kind-anew (pair-anew (only 4 e _) (pair-anew (only _ n.devices _) (pair-anew (only _ n.intervals _) (only 3 n.zones _)))))
    (λ v ok. rw (ok.1.1.0, ok.1.1.1.0, ok.1.1.1.1) refl)
    (λ v ok. front-alike _ e B.completion_kind _ v ok.1.0)

front_less : (e : ℕ) (n : Counts) → (less_front e n).write n ≡ (copy_front_by (widths_of e) e n).write n
unfolding less_front copy_front_by other held ◌then◌ nat
front_less e n = refl

-- the whole
unfoldable less : ℕ → Counts → ℕ → Layout Written
less e n windows = held
    (λ v. record { intervals = v.1.0; overruns = v.1.1.0; surplus = v.1.1.1 })
    (λ r. (n, (r.intervals, (r.overruns, r.surplus))))
    (less_front e n ▸ list n.intervals (less_interval e n.devices n.zones) ▸ list windows (any 32) ▸ nothing (pos 0))

less-anew : (e : ℕ) (n : Counts) (windows : ℕ) → Anew (B.completion_layout e n windows) (less e n windows) (copy_splice e n windows) Any
unfolding B.completion_by less copy_splice
less-anew e n windows = held-anew _ _ Any
    (pair-anew (front-anew e n) (pair-anew (list-anew n.intervals (interval-anew e n.devices n.zones)) (pair-anew (list-anew windows (kept 32))
    (skip-anew (pos 0) (own-more _ Any (int-own 64 (2 ^ 63)) (λ a ok. tt)) (int-wide 64 (2 ^ 63))))))
    (λ v ok. (tt, rw (sym ok.0) refl))

intervals-less : (e devices zones : ℕ) (rs : List IntervalChoice) → gather (less_interval e devices zones).write rs ≡ gather (interval_copy e devices zones).write (map interval_of rs)
intervals-less e devices zones rs = gather_cong _ _ rs (all (interval-less e devices zones) rs) ∙ sym (gather-map (interval_copy e devices zones).write interval_of rs)

less-is : (e : ℕ) (n : Counts) (windows : ℕ) (r : Written) → (less e n windows).write r ≡ (copy_by (widths_of e) e n windows).write (shown r)
unfolding less copy_by shown held ◌then◌ list nothing
less-is e n windows r =
    ap₂ (λ (a b : List ℕ). a ++ (b ++ (gather (any 32).write r.overruns ++ []))) (front_less e n) (intervals-less e n.devices n.zones r.intervals)
    ∙ ap (λ (b : List ℕ). (copy_front_by (widths_of e) e n).write n ++ (gather (interval_copy e n.devices n.zones).write (map interval_of r.intervals) ++ b)) (append-nil
    (gather (any 32).write r.overruns))

-- the splice of a completion that passes reading is the market's copy of it
pub copy-spliced : (e : ℕ) (q : System) (s : List ℕ) (r : Written) → read_whole (completion_in e q) s ≡ passes r
    → (spliced (copy_splice e (counts_of q) (energy_windows q)) s 0 ≡ (copy_in e q).write (shown r)) × (past (copy_splice e (counts_of q) (energy_windows q)) s 0 ≤ 8 * reach s)
copy-spliced e q s r h =
    let k = whole_run (completion_in e q) _ s ((less-anew e (counts_of q) (energy_windows q)).anew s begin (omega arith)) r h in
    (k.1.is ∙ less-is e (counts_of q) (energy_windows q) r, omega (arith, k.1.ends, k.1.inside))
