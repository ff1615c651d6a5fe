-- A case that passes reading, its devices rearranged, has a message that passes reading, of its own edition and of every later one.
use Rattle.std.proofs.Math.Path.{◌≡◌, refl}
use Rattle.std.proofs.Common.{sym, ◌∙◌, ap, subst, mul-le-mul}
use Rattle.std.specs.Prelude.{List}
use Prim.Native.Nat.{ℕ, ◌*◌, ◌≤◌, max}
use native.Mathlib.Omega.{arith}
use Rattle.std.proofs.Math.ListN.{length}
use Rattle.std.proofs.lemmas.List.{length-map}
use Rattle.layouts.specs.Layout.{Layout, nat, figure, list, passes}
use Rattle.layouts.specs.Sure.{Any}
use Rattle.model.specs.Case.{Case, no_device, no_device_prices}
use Rattle.model.specs.Forced.{intervals, devices, zones}
use Rattle.model.specs.Editions.{newest, Largest, most_devices, most_intervals, most_zones}
use Rattle.model.specs.Messages as M
use Rattle.model.specs.ByEdition as B
use Rattle.model.specs.ByEdition.{Stated, stated_in}
use Rattle.writing.specs.Again.{Fit, Reads, Again}
use Rattle.writing.proofs.Again.{then-reads, held_reads, pair_reads, nat-reads, only-reads, whole-reads, list-again, fit_then, fit-held, fit-more, fit-nat, only-fits, fit-whole}
use Rattle.writing.proofs.Cases.{figure-again, kw_field-again, since-again, some-again, pairs-apart, device-again, zone-again, counts-again}
use Rattle.renumbering.specs.Permute.{Renumbering}
use Rattle.renumbering.specs.Renumbered.{rearranged, rearranged_case}
use Rattle.renumbering.proofs.Renumbered.{rearranged-long}
use Rattle.renumbering.specs.Promise.{rearranged_stated}
use Rattle.renumbered_messages.specs.Each.{Each}
use Rattle.renumbered_messages.proofs.Each.{list-reads, fit-rearranged}
use Rattle.renumbered_messages.specs.Cases.{Known, Parts, none, rearranged_bytes}

-- two lists read in step
apart-reads : {A B : Type 0} (d : A × B) {m k : Layout (A × B)} {i : ℕ} → Again m k Any i → (n : ℕ)
    → Reads (M.apart (list n m)) (λ v. (length v.0 ≡ n) × (length v.1 ≡ n)) (λ v. Each (Fit k i) d (M.pairs v.0 v.1))
unfolding M.apart
apart-reads d {m} {k} {i} u n = held_reads _ _ (list n m) _ _ _ _ (list-reads d u u n)
    (λ xs e. (rw length-map e, rw length-map e)) (λ xs e. ap (list n m).write (pairs-apart xs)) (λ xs e r. rw (pairs-apart xs) r)

counts-are : (n : M.Counts) {d i z : ℕ} → d ≡ n.devices → i ≡ n.intervals → z ≡ n.zones → ◌≡◌ {A = M.Counts} (record { devices = d; intervals = i; zones = z }) n
counts-are n a b c = rw (a, b, c) refl

-- what edition e reads, edition n writes in any order
content-reads : (e n : ℕ) → e ≤ n → (l : Largest) → Reads (B.content e l) Any (Parts n l)
unfolding B.content_by
content-reads e n h l = held_reads _ _ _ _ Any _ (Parts n l)
    (then-reads (B.counts e l) _ _ _ (Fit (B.counts n l) 17) _ (counts-again e n h l) (λ c few.
    pair_reads _ _ _ _ _ _ (figure-again 14 1 10000 (omega arith)) (pair_reads _ _ _ _ _ _ (figure-again 14 1 10000 (omega arith)) (pair_reads _ _ _ _ _ _
    (since-again e n h 5 0 (fit-nat (record { width = 17; low = 0; high = 100000; wrong = _ }) 0 (omega arith) (omega arith) (omega arith)) kw_field-again)
    (then-reads (list c.intervals (figure 8 1 180)) _ _ _ _ _ (list-again c.intervals most_intervals few.1 (figure-again 8 1 180 (omega arith))) (λ halves long.
    pair_reads _ _ _ _ _ _ (some-again c.zones most_zones few.2 (zone-again e n h c.intervals few.1))
    (apart-reads none (device-again e n h c.intervals c.zones (M.last_end halves) few.1) c.devices)))))))
    (λ v ok. tt)
    (λ v ok. let b = ok.1.1.1.1 in rw (counts-are v.0 b.1.1.0 b.0 b.1.0.0) refl)
    (λ v ok r. let b = ok.1.1.1.1 in let w = r.1.1.1.1 in record {
      n = v.0;
      counts = counts-are v.0 b.1.1.0 b.0 b.1.0.0;
      few = ok.0.0;
      front = r.0;
      mismatch = r.1.0;
      overrun = r.1.1.0;
      limit = r.1.1.1.0;
      halves = w.0;
      zones = w.1.0;
      step = b.1.1.1 ∙ sym b.1.1.0;
      each = w.1.1;
    })

-- the devices of a case that was read, rearranged
module _ (e : ℕ) (l : Largest) (c : Case) (k : Parts e l c) (r : Renumbering (length c.system.devices)) where
  many : length c.system.devices ≡ k.n.devices
  many = ap (λ (n : M.Counts). n.devices) k.counts

  same : 40443 ≤ 40443
  same = omega arith

  devices-fit : Fit (M.apart (list k.n.devices (B.device e k.n.intervals k.n.zones (M.last_end c.system.halves)))) (most_devices * 40443)
      (rearranged r no_device c.system.devices, rearranged r no_device_prices c.prices.devices)
  devices-fit = fit-more (mul-le-mul k.few same) (subst (λ (n : ℕ). Fit (M.apart (list n (B.device e k.n.intervals k.n.zones (M.last_end c.system.halves)))) (n * 40443)
      (rearranged r no_device c.system.devices, rearranged r no_device_prices c.prices.devices)) many
      (fit-rearranged r no_device no_device_prices c.system.devices c.prices.devices k.step refl k.each))

  content-fits : Fit (B.content e l) 2624894 (rearranged_case r c)
  unfolding B.content_by rearranged_case
  content-fits = fit-held _ _
      {a = (
        k.n,
        (
          c.prices.mismatch,
          (
            c.prices.overrun,
            (
              c.system.link_limit,
              (
                c.system.halves,
                (
                  (c.system.zones, c.prices.zones),
                  (rearranged r no_device c.system.devices, rearranged r no_device_prices c.prices.devices),
                ),
              ),
            ),
          ),
        ),
      )}
      (rw counts refl)
      (fit_then _ k.front (fit_then _ k.mismatch (fit_then _ k.overrun (fit_then _ k.limit (fit_then _ k.halves (fit_then _ k.zones devices-fit))))))
    where
      counts : ◌≡◌ {A = M.Counts} (record { devices = length (rearranged r no_device c.system.devices); intervals = length c.system.halves; zones = length c.system.zones }) k.n
      counts = (λ i. record { devices = rearranged-long r no_device c.system.devices i; intervals = length c.system.halves; zones = length c.system.zones }) ∙ k.counts

module _ (l : Largest) where
  case-reads : (n : ℕ) → Reads (B.case_layout l) Any (Known n l)
  unfolding B.case_layout
  case-reads n = held_reads _ _ _ _ Any _ _
      (pair_reads _ _ _ _ _ _ (only-reads 4 B.case_kind _)
      (then-reads (nat B.edition_field) (λ e. B.content e l) _ (λ e. Any) _ (λ e. Parts (max e n) l) (nat-reads B.edition_field) (λ e ok. content-reads e (max e n) (omega arith) l)))
      (λ v ok. tt)
      (λ v ok. rw (sym ok.0) refl)
      (λ v ok r. record { edition = ok.1.0; parts = r.1.1 })

  stated-fits : (n : ℕ) → 1 ≤ n → n ≤ newest → (c : Case) → Parts n l c → (r : Renumbering (devices c.system)) → Fit (B.case_layout l) 2624902 (rearranged_stated n r c)
  unfolding B.case_layout
  stated-fits n low high c k r = fit-held _ _ {a = (B.case_kind, (n, rearranged_case r c))} refl
      (fit_then _ (only-fits 4 B.case_kind _ (omega arith)) (fit_then (λ e. B.content e l) (fit-nat B.edition_field n (omega arith) low high) (content-fits n l c k r)))

  module _ (s : List ℕ) (x : Stated) (h : stated_in l s ≡ passes x) (n : ℕ) (later : x.edition ≤ n) (known : n ≤ newest) (r : Renumbering (devices x.case.system)) where
    case-known : Known n l x
    unfolding stated_in
    case-known = whole-reads (B.case_layout l) Any (Known n l) (case-reads n) s x h

    -- it passes reading
    pub case-there : stated_in l (rearranged_bytes l s x h n later known r) ≡ passes (rearranged_stated n r x.case)
    unfolding stated_in rearranged_bytes
    case-there =
        let own : max x.edition n ≡ n = omega arith in
        let low : 1 ≤ n = omega (arith, case-known.edition.0) in
        fit-whole (B.case_layout l) 2624902 (rearranged_stated n r x.case) (omega arith) (stated-fits n low known x.case (subst (λ (e : ℕ). Parts e l x.case) own case-known.parts) r)
