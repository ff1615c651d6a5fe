-- What a case holds in one edition can be written in any later one, and reads back there. The numbers of bits are the largest of every part.
use Rattle.std.specs.Prelude.{◌≡◌, refl, Bool, true, false, List, [], ◌∷◌, map, ℕ, ◌+◌, ◌*◌, ◌^◌, ◌≤◌, ◌<◌, length, pos}
use Rattle.std.proofs.Math.Path.{ap}
use Rattle.std.proofs.Common.{le→leb}
use native.Mathlib.Omega.{arith}
use Rattle.std.proofs.lemmas.List.{length-map}
use Rattle.layouts.specs.Layout.{Layout, list, ◌then◌, ◌▸◌, held, figure, count_of}
use Rattle.layouts.specs.Since.{has, has_more, present, since}
use Rattle.layouts.specs.Sure.{Any}
use Rattle.model.specs.Case.{Minima, ReactiveReserves, no_line, no_link, no_reactive_reserves, no_reactive_limits, unit_prices}
use Rattle.model.specs.Editions.{Largest, widths_of, most_devices, most_intervals, most_zones, most_states, most_windows}
use Rattle.model.specs.Widths.{bounded}
use Rattle.model.specs.Messages as M
use Rattle.model.specs.ByEdition as B
use Rattle.writing.specs.Again.{Fit, Again}
use Rattle.writing.proofs.Again.{fit_then, fit-held, fit-such, fit-nothing, fit-nat, fit_int, fit-more, more-reads, nat-again, same-again, int-again}
use Rattle.writing.proofs.Again.{then-again, pair-again, loose-again, held-again}
use Rattle.writing.proofs.Again.{such-again, present-again, list-again, counted-again}
use Rattle.writing.specs.Cases.{Small, Wider}

-- ---- laws of fields and groups
pub any-again : {A : Type 0} {m n : Layout A} {P : A → Type 0} {i : ℕ} → Again m n P i → Again m n Any i
any-again u = more-reads _ _ _ _ _ u (λ a ok. tt) (λ a ok r. r)

pub wide-again : {A : Type 0} {m n : Layout A} {P : A → Type 0} {i j : ℕ} → i ≤ j → Again m n P i → Again m n P j
wide-again h u = more-reads _ _ _ _ _ u (λ a ok. ok) (λ a ok r. fit-more h r)

pub figure-again : (w low high : ℕ) → high < 2 ^ w → Again (figure w low high) (figure w low high) Any w
figure-again w low high h = any-again (same-again (record { width = w; low = low; high = high; wrong = _ }) h)

pub pairs-apart : {A B : Type 0} (xs : List (A × B)) → M.pairs (map (λ x. x.0) xs) (map (λ x. x.1) xs) ≡ xs
unfolding M.pairs
pairs-apart [] = refl
pairs-apart {A} {B} (x ∷ xs) = ap (λ (ys : List (A × B)). x ∷ ys) (pairs-apart xs)

pub apart-again : {A B : Type 0} {m n : Layout (List (A × B))} {P : List (A × B) → Type 0} (Q : (List A × List B) → Type 0) {i : ℕ} → Again m n P i
    → ((xs : List (A × B)) → P xs → Q (map (λ x. x.0) xs, map (λ x. x.1) xs)) → Again (M.apart m) (M.apart n) Q i
unfolding M.apart
apart-again Q u f = held-again _ _ Q u (λ xs ok. (f xs ok, pairs-apart xs))

-- so many in each of two lists
pub some-again : {A B : Type 0} (n most : ℕ) {m k : Layout (A × B)} {P : (A × B) → Type 0} {i : ℕ} → n ≤ most → Again m k P i
    → Again (M.apart (list n m)) (M.apart (list n k)) (λ v. (length v.0 ≡ n) × (length v.1 ≡ n)) (most * i)
some-again n most h u = apart-again _ (list-again n most h u) (λ xs ok. (rw length-map ok, rw length-map ok))

pub eight-again : (l : Layout ℕ) (i : ℕ) → Again l l Any i → Again (M.eight l) (M.eight l) Any (8 * i)
unfolding M.eight
eight-again l i u = wide-again (omega arith) (held-again _ _ Any (pair-again u (pair-again u (pair-again u (pair-again u (pair-again u (pair-again u (pair-again u u))))))) (λ v ok. (tt, refl)))

pub kw_field-again : Again M.kw_field M.kw_field Any 17
kw_field-again = figure-again 17 0 100000 (omega arith)

-- ---- what does not depend on the edition
pub reactive-limits-again : Again B.reactive_limits B.reactive_limits Any 36
unfolding B.reactive_limits
reactive-limits-again = held-again _ _ Any (then-again _ _ (λ low high. Any high) (int-again 18 100000 (omega arith)) (λ low ok. such-again _ (any-again (int-again 18 100000
    (omega arith))))) (λ v ok. (tt, refl))

pub two-again : (w low high : ℕ) → high < 2 ^ w → Again (figure w low high ▸ figure w low high) (figure w low high ▸ figure w low high) Any (w + w)
two-again w low high h = let u = figure-again w low high h in any-again (pair-again u u)

pub reactive-prices-again : Again B.reactive_prices B.reactive_prices Any 28
unfolding B.reactive_prices
reactive-prices-again = held-again _ _ Any (two-again 14 0 10000 (omega arith)) (λ v ok. (tt, refl))

pub zone-prices-again : Again B.zone_reactive_prices B.zone_reactive_prices Any 14
unfolding B.zone_reactive_prices
zone-prices-again = held-again _ _ Any (two-again 7 1 100 (omega arith)) (λ v ok. (tt, refl))

pub reactive-minima-again : Again B.reactive_minima B.reactive_minima Any 46
unfolding B.reactive_minima
reactive-minima-again = held-again _ _ Any (two-again 23 0 6400000 (omega arith)) (λ v ok. (tt, refl))

pub line-again : Again B.line B.line Any 33
unfolding B.line
line-again = held-again _ _ Any (pair-again (int-again 18 100000 (omega arith)) (int-again 15 10000 (omega arith))) (λ v ok. (tt, refl))

pub ramps-again : Again M.ramps M.ramps Any 68
unfolding M.ramps
ramps-again = let u = figure-again 17 1 100000 (omega arith) in held-again _ _ Any (pair-again u (pair-again u (pair-again u u))) (λ v ok. (tt, refl))

pub shares-again : Again M.shares M.shares Any 40
unfolding M.shares
shares-again = let u = figure-again 10 0 1000 (omega arith) in held-again _ _ Any (pair-again u (pair-again u (pair-again u u))) (λ v ok. (tt, refl))

pub six-again : Again (M.six (figure 7 1 100)) (M.six (figure 7 1 100)) Any 42
unfolding M.six
six-again = let u = figure-again 7 1 100 (omega arith) in held-again _ _ Any (pair-again u (pair-again u (pair-again u (pair-again u (pair-again u u))))) (λ v ok. (tt, refl))

pub costs-again : Again M.costs M.costs Any 77
unfolding M.costs
costs-again = let u = figure-again 30 0 1000000000 (omega arith) in held-again _ _ Any (pair-again (figure-again 17 0 100000 (omega arith)) (pair-again u u)) (λ v ok. (tt, refl))

pub head-again : (zones : ℕ) → Again (M.head zones) (M.head zones) Any 139
unfolding M.head M.zone_bits
head-again zones = let f = figure-again 16 0 60000 (omega arith) in let b = figure-again 1 0 1 (omega arith) in held-again _ _ Any
    (pair-again b (pair-again (such-again _ (figure-again 4 0 15 (omega arith))) (pair-again b (pair-again kw_field-again (pair-again f (pair-again f (pair-again f ramps-again)))))))
    (λ v ok. (tt, refl))

pub ends-again : (last : ℕ) → Again (M.window_ends last) (M.window_ends last) Any 32
unfolding M.window_ends
ends-again last = let u = figure-again 16 0 65535 (omega arith) in any-again (then-again _ _ (λ from until. Any until) u (λ from ok. such-again _ u))

pub energy-again : (last : ℕ) → Again (M.energy_window last) (M.energy_window last) Any 65
unfolding M.energy_window
energy-again last = held-again _ _ Any (pair-again (figure-again 1 0 1 (omega arith)) (pair-again (ends-again last) (figure-again 32 0 4000000000 (omega arith)))) (λ v ok. (tt, refl))

pub real-minima-again : Again M.minima M.minima Any 46
unfolding M.minima
real-minima-again = held-again _ _ Any (two-again 23 0 6400000 (omega arith)) (λ v ok. (tt, refl))

-- the real ones are written alike, whatever the reactive ones are
pub minima-alike : (l : Layout ReactiveReserves) (m : Minima) (r : ReactiveReserves)
    → (M.minima ▸ l).write (record { rru = m.rru; rrd = m.rrd; reactive = r }, r) ≡ (M.minima ▸ l).write (m, r)
unfolding M.minima held ◌then◌
minima-alike l m r = refl

-- a line that a link kind has or lacks
line-fits : Fit B.line 33 no_line
unfolding B.line
line-fits = fit-held _ _ refl (fit_then _ (fit_int 18 100000 (pos 0) (omega arith) (omega arith)) (fit_int 15 10000 (pos 0) (omega arith) (omega arith)))

with-line : (b : Bool) → Again (present b no_line B.line) (present b no_line B.line) Any 33
with-line b = present-again b b no_line (λ t. t) tt line-fits line-again

link-again : Again B.link B.link Any 68
unfolding B.link
link-again = held-again _ _ Any (then-again _ _ (λ kind v. Any v) (figure-again 2 0 2 (omega arith)) (λ kind ok. any-again (pair-again (with-line _) (with-line _)))) (λ v ok. (tt, refl))

-- ---- what neutral values are written as
limits-fit : Fit B.reactive_limits 36 no_reactive_limits
unfolding B.reactive_limits
limits-fit = let z = fit_int 18 100000 (pos 0) (omega arith) (omega arith) in fit-held _ _ refl (fit_then _ z (fit-such _ tt z))

prices-fit : Fit B.reactive_prices 28 no_reactive_reserves
unfolding B.reactive_prices
prices-fit = let z = fit-nat (record { width = 14; low = 0; high = 10000; wrong = _ }) 0 (omega arith) (omega arith) (omega arith) in fit-held _ _ refl (fit_then _ z z)

unit-fits : Fit B.zone_reactive_prices 14 unit_prices
unfolding B.zone_reactive_prices
unit-fits = let z = fit-nat (record { width = 7; low = 1; high = 100; wrong = _ }) 1 (omega arith) (omega arith) (omega arith) in fit-held _ _ refl (fit_then _ z z)

minima-fit : Fit B.reactive_minima 46 no_reactive_reserves
unfolding B.reactive_minima
minima-fit = let z = fit-nat (record { width = 23; low = 0; high = 6400000; wrong = _ }) 0 (omega arith) (omega arith) (omega arith) in fit-held _ _ refl (fit_then _ z z)

no-link-fits : Fit B.link 68 no_link
unfolding B.link present
no-link-fits = fit-more (omega arith) (fit-held _ _ refl
    (fit_then (λ kind. present (B.first_line kind) no_line B.line ▸ present (B.second_line kind) no_line B.line)
    (fit-nat (record { width = 2; low = 0; high = 2; wrong = _ }) 0 (omega arith) (omega arith) (omega arith))
    (fit_then (λ a. present false no_line B.line) (fit-nothing no_line) (fit-nothing no_line))))

pub wider : (e n : ℕ) → e ≤ n → Wider (widths_of e) (widths_of n)
wider e n h = go (has 4 e) (has 4 n) refl refl
  where
    go : (b c : Bool) → has 4 e ≡ b → has 4 n ≡ c → Wider (widths_of e) (widths_of n)
    go true true i j = rw (i, j) (record { devices = omega arith; intervals = omega arith; starts = omega arith })
    go true false i j = absurd (let t = has_more 4 e n h i in let z : ◌≡◌ {A = ℕ} 0 1 = cc in omega arith)
    go false true i j = rw (i, j) (record { devices = omega arith; intervals = omega arith; starts = omega arith })
    go false false i j = rw (i, j) (record { devices = omega arith; intervals = omega arith; starts = omega arith })

pub counts-are : (n : M.Counts) {d i z : ℕ} → d ≡ n.devices → i ≡ n.intervals → z ≡ n.zones → ◌≡◌ {A = M.Counts} (record { devices = d; intervals = i; zones = z }) n
counts-are n a b c = rw (a, b, c) refl

module _ (e n : ℕ) (h : e ≤ n) where
  -- what came with edition k, its neutral value in range
  pub since-again : {A : Type 0} (k : ℕ) (neutral : A) {l : Layout A} {i : ℕ} → Fit l i neutral → Again l l Any i → Again (since e k neutral l) (since n k neutral l) Any i
  since-again k neutral f u = present-again (has k e) (has k n) neutral (has_more k e n h) tt f u

  block-again : Again (B.block e) (B.block n) Any 34
  unfolding B.block
  block-again = held-again _ _ Any
      (then-again _ _ (λ cap floor. Any floor) kw_field-again (λ cap ok. since-again 3 0
      (fit-such _ (le→leb 0 cap (omega arith)) (fit-nat (record { width = 17; low = 0; high = 100000; wrong = _ }) 0 (omega arith) (omega arith) (omega arith)))
      (such-again _ kw_field-again)))
      (λ v ok. (tt, refl))

  cell-again : Again (B.cell e) (B.cell n) Any 411
  unfolding B.cell B.cell_with
  cell-again = held-again _ _ Any
      (pair-again (figure-again 2 0 2 (omega arith))
      (pair-again (then-again _ _ (λ low high. Any high) kw_field-again (λ low ok. such-again _ kw_field-again))
      (pair-again (apart-again Any (counted-again (count_of 3 0 4) (omega arith) (pair-again block-again (int-again 15 10000 (omega arith)))) (λ xs ok. tt))
      (pair-again (eight-again _ 14 (figure-again 14 0 10000 (omega arith)))
      (since-again 2 B.no_reactive_cell (fit_then _ limits-fit prices-fit) (any-again (pair-again reactive-limits-again reactive-prices-again)))))))
      (λ v ok. (tt, refl))

  start-again : (last : ℕ) → Again (B.start_window e last) (B.start_window n last) Any 39
  unfolding B.start_window_by
  start-again last = held-again _ _ Any
      (pair-again (ends-again last) (wide-again (bounded n).starts_bits (nat-again _ _ (omega arith) (wider e n h).starts (bounded n).starts))) (λ v ok. (tt, refl))

  pub device-again : (intervals zones last : ℕ) → intervals ≤ most_intervals → Again (B.device e intervals zones last) (B.device n intervals zones last) Any 40443
  unfolding B.device_by
  device-again intervals zones last few = held-again _ _ Any
      (pair-again (head-again zones)
      (pair-again costs-again
      (pair-again (eight-again _ 17 kw_field-again)
      (pair-again (apart-again Any (counted-again (count_of 3 0 most_states) (omega arith) (pair-again (figure-again 16 0 60000 (omega arith)) (int-again 31 1000000000 (omega arith)))) (λ xs ok. tt))
      (pair-again (counted-again (count_of 3 0 most_windows) (omega arith) (start-again last))
      (pair-again (counted-again (count_of 3 0 most_windows) (omega arith) (energy-again last))
      (pair-again (since-again 2 no_link no-link-fits link-again)
      (pair-again (since-again 5 0 (fit-nat (record { width = 1; low = 0; high = 1; wrong = _ }) 0 (omega arith) (omega arith) (omega arith)) (figure-again 1 0 1 (omega arith)))
      (some-again intervals most_intervals few cell-again)))))))))
      (λ v ok. (tt, refl))

  minima-again : Again (B.minima e) (B.minima n) Any 92
  unfolding B.minima
  minima-again = loose-again _ _ Any (pair-again real-minima-again (since-again 2 no_reactive_reserves minima-fit reactive-minima-again)) (λ v ok. tt)
      (λ v ok. minima-alike _ v.0 v.1) (λ v ok. minima-alike _ v.0 v.1)

  pub zone-again : (intervals : ℕ) → intervals ≤ most_intervals → Again (B.zone e intervals) (B.zone n intervals) Any 8928
  unfolding B.zone
  zone-again intervals few = held-again _ _ Any
      (pair-again shares-again (pair-again six-again (pair-again (since-again 2 unit_prices unit-fits zone-prices-again) (list-again intervals most_intervals few minima-again))))
      (λ v ok. (tt, refl))

  pub counts-again : (l : Largest) → Again (B.counts e l) (B.counts n l) (λ c. (c.devices ≤ most_devices) × (c.intervals ≤ most_intervals) × (c.zones ≤ most_zones)) 17
  unfolding B.counts_by
  counts-again l =
      let w = wider e n h in
      let b = bounded n in
      held-again _ _ _
      (pair-again (wide-again b.device_bits (nat-again _ _ (omega arith) (omega arith) (omega arith)))
      (pair-again (wide-again b.interval_bits (nat-again _ _ (omega arith) (omega arith) (omega arith)))
      (same-again (count_of 3 0 most_zones) (omega arith))))
      (λ v ok. let d = bounded e in ((omega arith, omega arith, omega arith), refl))

  -- the content of a case
  pub content-again : (l : Largest) → Again (B.content e l) (B.content n l) Small 2624894
  unfolding B.content_by
  content-again l = held-again _ _ Small
      (then-again _ _ _ (counts-again l) (λ c few.
      pair-again (figure-again 14 1 10000 (omega arith)) (pair-again (figure-again 14 1 10000 (omega arith)) (pair-again
      (since-again 5 0 (fit-nat (record { width = 17; low = 0; high = 100000; wrong = _ }) 0 (omega arith) (omega arith) (omega arith)) kw_field-again)
      (then-again _ _ _ (list-again c.intervals most_intervals few.1 (figure-again 8 1 180 (omega arith))) (λ halves long.
      pair-again (some-again c.zones most_zones few.2 (zone-again c.intervals few.1))
      (some-again c.devices most_devices few.0 (device-again c.intervals c.zones _ few.1))))))))
      (λ v ok. let b = ok.1.1.1.1 in (
        record { devices = omega arith; intervals = omega arith; zones = omega arith },
        ap (λ (c : M.Counts). (c, v.1)) (counts-are v.0 b.1.1.0 b.0 b.1.0.0),
      ))
