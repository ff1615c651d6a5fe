-- A case's message written anew by a splice, from any edition into the newest: which bits are copied, and what is put in between.
use Rattle.std.specs.Prelude.{◌≡◌, true, ℕ, ◌+◌, ◌*◌, ◌≤◌, length}
use Rattle.std.proofs.Math.Path.{refl, ap}
use Rattle.std.proofs.Common.{◌∙◌, arith}
use mathlib.Core.List.{List, ◌++◌, append_assoc}
use Rattle.std.proofs.Math.Dec.{leb}
use Rattle.std.proofs.lemmas.List.{length-map}
use Rattle.bits.specs.Twos.{to_twos}
use Rattle.layouts.specs.Layout.{Layout, passes, begin, advanced, fixed, bits_of, nat, int, list, ◌then◌, ◌▸◌, held, such, figure, count_of}
use Rattle.layouts.specs.Since.{has, present, nothing, since}
use Rattle.layouts.specs.Sure.{Any}
use Rattle.layouts.specs.Own.{Run, stops, goes, nat-own}
use Rattle.layouts.specs.declared.Fault.{Fault}
use Rattle.layouts.specs.declared.Place.{Place}
use Rattle.bits.specs.Bits.{field_at, reach}
use Rattle.model.specs.Case.{Case, Zone, Kinds, Device, DevicePrices, no_line, no_link, no_reactive_reserves, no_reactive_limits, unit_prices}
use Rattle.model.specs.Editions.{newest, Largest, widths_of, most_states, most_windows}
use Rattle.model.specs.Messages as M
use Rattle.model.specs.ByEdition as B
use Rattle.model.specs.ByEdition.{Stated, stated_in}
use Rattle.writing.specs.Anew.{anew}
use Rattle.writing.specs.Again.{Again}
use Rattle.writing.proofs.Again.{reads-own}
use Rattle.writing.proofs.Again as A
use Rattle.writing.proofs.Cases.{figure-again, pairs-apart, eight-again, kw_field-again, reactive-limits-again, reactive-prices-again, zone-prices-again, reactive-minima-again, line-again}
use Rattle.writing.proofs.Cases.{shares-again, six-again, costs-again, head-again, ends-again, energy-again, real-minima-again, minima-alike, counts-are}
use Rattle.writing.specs.Splice.{Splice, keep, add, ◌⨾◌, times, past, spliced, Told, Anew, Wide}
use Rattle.writing.proofs.Splice.{keep-anew, more-anew, then-anew, pair-anew, by-anew}
use Rattle.writing.specs.Splice.{Behind}
use Rattle.writing.proofs.Splice.{by-run, told_at, whole_run, loose-anew, held-anew, such-anew}
use Rattle.writing.specs.Splice.{Adds}
use Rattle.writing.proofs.Splice.{add-adds, both-add, present-anew, same-present, list-anew, counted-anew, wide-anew, alike-anew, nat-wide, int-wide}
use Rattle.writing.proofs.Splice.{held-wide, such-wide, then-wide, pair-wide}
use Rattle.writing.specs.CaseSplices.{block_splice, body_splice, case_splice, cell_splice, content_splice, device_splice, link_splice, minima_splice, since_splice, start_splice, zone_splice}

-- ---- what is copied as it stands
pub kept : {A : Type 0} {l : Layout A} {P : A → Type 0} {i w : ℕ} → Again l l P i → Wide l w → Anew l l (keep w) Any
kept {l = l} u v = more-anew (keep-anew (reads-own l _ _ u) v) (λ a ok. tt)

pub figure-wide : (w low high : ℕ) → Wide (figure w low high) w
figure-wide w low high = nat-wide (record { width = w; low = low; high = high; wrong = _ })

pub kw_field-wide : Wide M.kw_field 17
kw_field-wide = figure-wide 17 0 100000

pub eight-wide : (l : Layout ℕ) (w : ℕ) → Wide l w → Wide (M.eight l) (w + (w + (w + (w + (w + (w + (w + w)))))))
unfolding M.eight
eight-wide l w u = held-wide _ _ (pair-wide u (pair-wide u (pair-wide u (pair-wide u (pair-wide u (pair-wide u (pair-wide u u)))))))

head-wide : (zones : ℕ) → Wide (M.head zones) 139
unfolding M.head M.zone_bits M.ramps
head-wide zones =
    let f = figure-wide 16 0 60000 in
    let r = figure-wide 17 1 100000 in
    held-wide _ _ (pair-wide (figure-wide 1 0 1) (pair-wide (such-wide _ (figure-wide 4 0 15)) (pair-wide (figure-wide 1 0 1) (pair-wide kw_field-wide (pair-wide f (pair-wide f (pair-wide f
    (held-wide _ _ (pair-wide r (pair-wide r (pair-wide r r)))))))))))

costs-wide : Wide M.costs 77
unfolding M.costs
costs-wide = let u = figure-wide 30 0 1000000000 in held-wide _ _ (pair-wide (figure-wide 17 0 100000) (pair-wide u u))

ends-wide : (last : ℕ) → Wide (M.window_ends last) 32
unfolding M.window_ends
ends-wide last = let u = figure-wide 16 0 65535 in then-wide _ u (λ a. such-wide _ u)

energy-wide : (last : ℕ) → Wide (M.energy_window last) 65
unfolding M.energy_window
energy-wide last = held-wide _ _ (pair-wide (figure-wide 1 0 1) (pair-wide (ends-wide last) (figure-wide 32 0 4000000000)))

limits-wide : Wide B.reactive_limits 36
unfolding B.reactive_limits
limits-wide = let u = int-wide 18 100000 in held-wide _ _ (then-wide _ u (λ a. such-wide _ u))

prices-wide : Wide B.reactive_prices 28
unfolding B.reactive_prices
prices-wide = let u = figure-wide 14 0 10000 in held-wide _ _ (pair-wide u u)

zone-prices-wide : Wide B.zone_reactive_prices 14
unfolding B.zone_reactive_prices
zone-prices-wide = let u = figure-wide 7 1 100 in held-wide _ _ (pair-wide u u)

reactive-minima-wide : Wide B.reactive_minima 46
unfolding B.reactive_minima
reactive-minima-wide = let u = figure-wide 23 0 6400000 in held-wide _ _ (pair-wide u u)

real-minima-wide : Wide M.minima 46
unfolding M.minima
real-minima-wide = let u = figure-wide 23 0 6400000 in held-wide _ _ (pair-wide u u)

line-wide : Wide B.line 33
unfolding B.line
line-wide = held-wide _ _ (pair-wide (int-wide 18 100000) (int-wide 15 10000))

shares-wide : Wide M.shares 40
unfolding M.shares
shares-wide = let u = figure-wide 10 0 1000 in held-wide _ _ (pair-wide u (pair-wide u (pair-wide u u)))

six-wide : Wide (M.six (figure 7 1 100)) 42
unfolding M.six
six-wide = let u = figure-wide 7 1 100 in held-wide _ _ (pair-wide u (pair-wide u (pair-wide u (pair-wide u (pair-wide u u)))))

-- ---- what they give
apart-anew : {A B : Type 0} {m n : Layout (List (A × B))} {t : Splice} {P : List (A × B) → Type 0} → Anew m n t P → Anew (M.apart m) (M.apart n) t Any
unfolding M.apart
apart-anew u = held-anew _ _ Any u (λ xs ok. (tt, pairs-apart xs))

pub some-anew : {A B : Type 0} (n : ℕ) {m k : Layout (A × B)} {t : Splice} {P : (A × B) → Type 0} → Anew m k t P
    → Anew (M.apart (list n m)) (M.apart (list n k)) (times n t) (λ v. (length v.0 ≡ n) × (length v.1 ≡ n))
unfolding M.apart
some-anew n u = held-anew _ _ _ (list-anew n u) (λ xs ok. ((rw length-map ok, rw length-map ok), pairs-apart xs))

pub forget : {A : Type 0} {m n : Layout A} {t : Splice} {P : A → Type 0} → Anew m n t P → Anew m n t Any
forget u = more-anew u (λ a ok. tt)

-- from any edition into the newest, which has it
pub since-anew : {A : Type 0} (e k : ℕ) (neutral : A) {l m : Layout A} {t u : Splice} {P : A → Type 0} → has k newest ≡ true → P neutral → Adds u (m.write neutral) → Anew l m t P
    → Anew (since e k neutral l) (since newest k neutral m) (since_splice e k t u) P
unfolding present
since-anew e k neutral h n x y = rw h (present-anew (has k e) neutral n x y)

-- neutral values
zero-adds : (w high : ℕ) → Adds (add w 0) ((figure w 0 high).write 0)
unfolding nat
zero-adds w high = add-adds w 0

floor-adds : (cap : ℕ) → Adds (add 17 0) ((such (λ floor. leb floor cap) M.kw_field).write 0)
unfolding such nat
floor-adds cap = add-adds 17 0

limits-add : Adds (add 36 0) ((B.reactive_limits).write no_reactive_limits)
unfolding B.reactive_limits held ◌then◌ such int to_twos bits_of
limits-add = add-adds 36 0

prices-add : Adds (add 28 0) ((B.reactive_prices).write no_reactive_reserves)
unfolding B.reactive_prices held ◌then◌ nat bits_of
prices-add = add-adds 28 0

reactive-adds : Adds (add 36 0 ⨾ add 28 0) ((B.reactive_cell).write B.no_reactive_cell)
unfolding ◌then◌
reactive-adds = both-add limits-add prices-add

unit-adds : Adds (add 14 129) ((B.zone_reactive_prices).write unit_prices)
unfolding B.zone_reactive_prices held ◌then◌ nat bits_of
unit-adds = add-adds 14 129

minima-add : Adds (add 46 0) ((B.reactive_minima).write no_reactive_reserves)
unfolding B.reactive_minima held ◌then◌ nat bits_of
minima-add = add-adds 46 0

link-adds : Adds (add 2 0) ((B.link).write no_link)
unfolding B.link held ◌then◌ nat bits_of present nothing
link-adds = add-adds 2 0

reactive-cell-anew : Anew B.reactive_cell B.reactive_cell (keep 64) Any
reactive-cell-anew = kept (A.pair-again reactive-limits-again reactive-prices-again) (pair-wide limits-wide prices-wide)

link-anew : Anew B.link B.link link_splice Any
unfolding B.link link_splice
link-anew = held-anew _ _ Any
    (by-anew (record { width = 2; low = 0; high = 2; wrong = _ }) _ _ _ (λ kind v. Any v) (λ kind low high. forget (pair-anew (same-present _ no_line tt
    (kept line-again line-wide)) (same-present _ no_line tt (kept line-again line-wide)))) _)
    (λ v ok. (tt, refl))

module _ (e : ℕ) where
  block-anew : Anew (B.block e) (B.block newest) (block_splice e) Any
  unfolding B.block block_splice
  block-anew = held-anew _ _ Any
      (then-anew _ _ (λ cap floor. Any floor) (kept kw_field-again kw_field-wide) (λ cap ok. since-anew e 3 0 refl tt (floor-adds cap) (such-anew (λ floor. leb floor cap) (kept kw_field-again kw_field-wide))))
      (λ v ok. (tt, refl))

  cell-anew : Anew (B.cell e) (B.cell newest) (cell_splice e) Any
  unfolding B.cell B.cell_with cell_splice
  cell-anew = held-anew _ _ Any
      (pair-anew (kept (figure-again 2 0 2 (omega arith)) (figure-wide 2 0 2))
      (pair-anew (kept (A.then-again _ _ (λ low high. Any high) kw_field-again (λ low ok. A.such-again _ kw_field-again)) (then-wide _ kw_field-wide (λ low. such-wide _ kw_field-wide)))
      (pair-anew (apart-anew (counted-anew (count_of 3 0 4) (pair-anew block-anew (kept (A.int-again 15 10000 (omega arith)) (int-wide 15 10000)))))
      (pair-anew (kept (eight-again _ 14 (figure-again 14 0 10000 (omega arith))) (eight-wide _ 14 (figure-wide 14 0 10000)))
      (since-anew e 2 B.no_reactive_cell refl tt reactive-adds reactive-cell-anew)))))
      (λ v ok. (tt, refl))

  start-anew : (last : ℕ) → Anew (B.start_window e last) (B.start_window newest last) (start_splice e) Any
  unfolding B.start_window_by start_splice
  start-anew last = held-anew _ _ Any (pair-anew (kept (ends-again last) (ends-wide last)) (wide-anew _ _)) (λ v ok. (tt, refl))

  device-anew : (intervals zones last : ℕ) → Anew (B.device e intervals zones last) (B.device newest intervals zones last) (device_splice e intervals) Any
  unfolding B.device_by device_splice
  device-anew intervals zones last = held-anew _ _ Any
      (pair-anew (kept (head-again zones) (head-wide zones))
      (pair-anew (kept costs-again costs-wide)
      (pair-anew (kept (eight-again _ 17 kw_field-again) (eight-wide _ 17 kw_field-wide))
      (pair-anew (apart-anew (counted-anew (count_of 3 0 most_states)
      (kept (A.pair-again (figure-again 16 0 60000 (omega arith)) (A.int-again 31 1000000000 (omega arith))) (pair-wide (figure-wide 16 0 60000) (int-wide 31 1000000000)))))
      (pair-anew (counted-anew (count_of 3 0 most_windows) (start-anew last))
      (pair-anew (counted-anew (count_of 3 0 most_windows) (kept (energy-again last) (energy-wide last)))
      (pair-anew (since-anew e 2 no_link refl tt link-adds link-anew)
      (pair-anew (since-anew e 5 0 refl tt (zero-adds 1 1) (kept (figure-again 1 0 1 (omega arith)) (figure-wide 1 0 1)))
      (apart-anew (list-anew intervals cell-anew))))))))))
      (λ v ok. (tt, refl))

  minima-anew : Anew (B.minima e) (B.minima newest) (minima_splice e) Any
  unfolding B.minima minima_splice
  minima-anew = loose-anew _ _ Any (pair-anew (kept real-minima-again real-minima-wide) (since-anew e 2 no_reactive_reserves refl tt minima-add (kept reactive-minima-again reactive-minima-wide)))
      (λ v ok. tt) (λ v ok. minima-alike _ v.0 v.1)

  zone-anew : (intervals : ℕ) → Anew (B.zone e intervals) (B.zone newest intervals) (zone_splice e intervals) Any
  unfolding B.zone zone_splice
  zone-anew intervals = held-anew _ _ Any
      (pair-anew (kept shares-again shares-wide) (pair-anew (kept six-again six-wide)
      (pair-anew (since-anew e 2 unit_prices refl tt unit-adds (kept zone-prices-again zone-prices-wide)) (list-anew intervals minima-anew))))
      (λ v ok. (tt, refl))

-- ---- a case's content

-- what stands behind its counts
abbrev Body : Type 0
Body = ℕ × (ℕ × (ℕ × (List ℕ × ((List Zone × List Kinds) × (List Device × List DevicePrices)))))

unfoldable body_by : ℕ → M.Counts → Layout Body
body_by e n =
    figure 14 1 10000 ▸ figure 14 1 10000 ▸ since e 5 0 B.link_limit ▸
    (list n.intervals (figure 8 1 180) then (λ halves.
    M.apart (list n.zones (B.zone e n.intervals))
    ▸ M.apart (list n.devices (B.device_by (widths_of e) e n.intervals n.zones (M.last_end halves)))))

-- as many as the counts say
record Long (n : M.Counts) (v : Body) : Type 0 where
  intervals : length v.1.1.1.0 ≡ n.intervals
  zones : length v.1.1.1.1.0.0 ≡ n.zones
  devices : length v.1.1.1.1.1.0 ≡ n.devices

body-anew : (e : ℕ) (n : M.Counts) → Anew (body_by e n) (body_by newest n) (body_splice e n.devices n.intervals n.zones) (Long n)
unfolding body_by body_splice
body-anew e n = more-anew
    (pair-anew (kept (figure-again 14 1 10000 (omega arith)) (figure-wide 14 1 10000)) (pair-anew (kept (figure-again 14 1 10000 (omega arith)) (figure-wide 14 1 10000))
    (pair-anew (since-anew e 5 0 refl tt (zero-adds 17 100000) (kept kw_field-again kw_field-wide))
    (then-anew _ _ _ (list-anew n.intervals (kept (figure-again 8 1 180 (omega arith)) (figure-wide 8 1 180))) (λ halves long.
    pair-anew (some-anew n.zones (zone-anew e n.intervals)) (some-anew n.devices (device-anew e n.intervals n.zones _)))))))
    (λ v ok. let b = ok.1.1.1 in record { intervals = b.0; zones = b.1.0.0; devices = b.1.1.0 })

-- its counts one by one
abbrev counted3 : ℕ → ℕ → ℕ → M.Counts
counted3 d i z = record { devices = d; intervals = i; zones = z }

unfoldable nested : ℕ → Largest → Layout (ℕ × (ℕ × (ℕ × Body)))
nested e l = nat (B.device_count e l) then (λ d. nat (B.interval_count e l) then (λ i. nat B.zone_count then (λ z. body_by e (counted3 d i z))))

nested-anew : (e : ℕ) (l : Largest) → Anew (nested e l) (nested newest l) (content_splice e) (λ v. Long (counted3 v.0 v.1.0 v.1.1.0) v.1.1.1)
unfolding nested content_splice
nested-anew e l = more-anew
    (by-anew (B.device_count e l) _ _ _ (λ d v. Long (counted3 d v.0 v.1.0) v.1.1) (λ d low high. more-anew
    (by-anew (B.interval_count e l) _ _ _ (λ i v. Long (counted3 d i v.0) v.1) (λ i low high. more-anew
    (by-anew B.zone_count _ _ _ (λ z v. Long (counted3 d i z) v) (λ z low high. body-anew e (counted3 d i z)) B.zone_count)
    (λ v ok. ok.1)) (B.interval_count newest l)) (λ v ok. ok.1)) (B.device_count newest l))
    (λ v ok. ok.1)

unfoldable grouped : ℕ → Largest → Layout (M.Counts × Body)
grouped e l = B.counts e l then (λ n. body_by e n)

grouped-anew : (e : ℕ) (l : Largest) → Anew (grouped e l) (grouped newest l) (content_splice e) (λ v. Long v.0 v.1)
unfolding grouped nested B.counts_by held ◌then◌
grouped-anew e l = alike-anew (grouped e l) (grouped newest l)
    (held-anew (λ v. (counted3 v.0 v.1.0 v.1.1.0, v.1.1.1)) (λ x. (x.0.devices, (x.0.intervals, (x.0.zones, x.1)))) {m = nested e l} {n = nested newest l}
    (λ v. Long v.0 v.1) (nested-anew e l) (λ v ok. (ok, refl)))
    (λ X s p bad next. refl)
    (λ a ok. simp append_assoc)

pub content-anew : (e : ℕ) (l : Largest) → Anew (B.content e l) (B.content newest l) (content_splice e) Any
unfolding B.content_by grouped body_by
content-anew e l = held-anew _ _ Any (grouped-anew e l)
    (λ v ok. (tt, ap (λ (c : M.Counts). (c, v.1)) (counts-are v.0 ok.devices ok.intervals ok.zones)))

-- what is read of a case, behind its kind and edition
record Fronted (l : Largest) (s : List ℕ) (x : Stated) (q : Place) : Type 0 where
  edition : x.edition ≡ B.edition_of s
  told : Told (B.content newest l) (content_splice x.edition) Any s (advanced begin 8) x.case q

module _ (l : Largest) (s : List ℕ) where
  abbrev Ready : (ℕ × (ℕ × Case)) → Place → Type 0
  Ready v q = Fronted l s (record { edition = v.1.0; case = v.1.1 }) q

  second : (k : ℕ) (q : Place) → q.at ≡ 4 → ((X : Type 0) (bad : Fault → X) (next : ℕ → Place → X) → (fixed B.case_kind).read s begin bad next ≡ next k q)
      → Run (Behind B.edition_field (λ e. B.content e l) (λ e. B.content newest l) content_splice (λ e. Any) (λ e low high. content-anew e l) s q) (λ X bad next.
      (nat B.edition_field then (λ e. B.content e l)).read {X = X} s q bad next)
      → Run Ready (λ X bad next. (fixed B.case_kind ▸ (nat B.edition_field then (λ e. B.content e l))).read {X = X} s begin bad next)
  unfolding ◌then◌
  second k q h e (stops f g) = stops f (λ X bad next. e X bad _ ∙ g X bad (λ b p. next (k, b) p))
  second k q h e (goes v r j g) = goes (k, v) r
      (record { edition = j.value ∙ ap (λ (n : ℕ). field_at s n 4) h; told = told_at (ap (λ (n : ℕ). n + 4) h) j.told })
      (λ X bad next. e X bad _ ∙ g X bad (λ b p. next (k, b) p))

  first : Run (Told (fixed B.case_kind) (keep 4) (λ v. (B.case_kind ≤ v) × (v ≤ B.case_kind)) s begin) (λ X bad next. (fixed B.case_kind).read {X = X} s begin bad next)
      → Run Ready (λ X bad next. (fixed B.case_kind ▸ (nat B.edition_field then (λ e. B.content e l))).read {X = X} s begin bad next)
  unfolding ◌then◌ past
  first (stops f e) = stops f (λ X bad next. e X bad _)
  first (goes k q j e) = second k q j.ends e (by-run B.edition_field (λ e. B.content e l) (λ e. B.content newest l) content_splice (λ e. Any) (λ e low high. content-anew e l) s q)

  held-run : Run Ready (λ X bad next. (fixed B.case_kind ▸ (nat B.edition_field then (λ e. B.content e l))).read {X = X} s begin bad next)
      → Run (Fronted l s) (λ X bad next. (B.case_layout l).read {X = X} s begin bad next)
  unfolding B.case_layout held
  held-run (stops f e) = stops f (λ X bad next. e X bad _)
  held-run (goes v q j e) = goes _ q j (λ X bad next. e X bad _)

  case-run : Run (Fronted l s) (λ X bad next. (B.case_layout l).read {X = X} s begin bad next)
  case-run = held-run (first ((keep-anew (nat-own _) (nat-wide _)).anew s begin (omega arith)))

  -- the splice of a case that passes reading gives the message of the newest edition
  pub case-spliced : (x : Stated) → stated_in l s ≡ passes x
      → (x.edition ≡ B.edition_of s) × (spliced (case_splice x.edition) s 8 ≡ (B.case_layout l).write (anew x.case)) × (past (case_splice x.edition) s 8 ≤ 8 * reach s)
  unfolding stated_in case_splice spliced past B.case_layout held ◌then◌ nat
  case-spliced x h = let k = whole_run (B.case_layout l) (Fronted l s) s case-run x h in (
    k.1.edition,
    ap (λ (b : List ℕ). bits_of 4 B.case_kind ++ (bits_of 4 newest ++ b)) k.1.told.is,
    omega (arith, k.1.told.ends, k.1.told.inside),
  )
