-- The steps of a device, and the turns of the loop over devices.
use mathlib.Core.Path.{◌≡◌, ap, ◌∙◌}
use mathlib.Core.List.{List, [], ◌++◌}
use Prim.Native.Nat.{ℕ, suc, ◌+◌, ◌-◌, ◌*◌, ◌≤◌, ◌<◌}
use native.Mathlib.Decide.{dec_le}
use native.Mathlib.Omega.{arith}
use lib.ListN.{length, get_or, set, take, drop}
use lib.Seq.{get_or-set_same, get_or-set_other}
use Rattle.layouts.specs.declared.Fault.{Fault}
use Rattle.layouts.specs.declared.Place.{Place}
use Rattle.model.specs.ByEdition as B
use Rattle.row_places.specs.declared.Device.{Device}
use Rattle.row_places.specs.Figures.{device_of, device_row}
use Rattle.records.specs.Kept.{device-kept}
use Rattle.numbers.specs.Parts.{patched-before, patched-row}
use Rattle.records.specs.Views.{device_in, device_prices_in}
use Rattle.std.specs.Prelude.{Result, Ok, Err}
use Rattle.std.proofs.Math.Path.{refl}
use Rattle.layouts.specs.Layout.{list}
use Rattle.fields.specs.Got.{Got, good, bad, got}
use Rattle.fields.proofs.Steps.{Exits, not-met, value, seen-exits, told-exits}
use Rattle.cell_reader.specs.Cells.{CellsDone}
use Rattle.device_reader.specs.Heads.{HeadDone}
use Rattle.device_reader.specs.Devices.{device-natural, device-off, device-on}
use Rattle.zone_table.specs.Tables.{Fits, device_pair, DeviceDone, devices_in, Stored, Manned, DevicesDone}
use Rattle.zone_table.proofs.PartSteps.{Parting, parting-none, parting-more, parting-off, parting-done, inside, inside-heads, own-long}

-- ---- a device

module _ (e : ℕ) (s : List ℕ) (p : Place) (zones last : ℕ) (cells : List (List ℕ)) where
  pub device-none : (r : Got Device) {f : Fault} → Exits r f → bad f ≡ got (B.device e (length cells) zones last) s p → DeviceDone e s p zones last r cells
  device-none r x g = record { is = seen-exits _ r x g; small = λ d q k. not-met r _ x k; counted = λ d q k. not-met r _ x k; padded = λ d q k. not-met r _ x k }

module _ (e : ℕ) (s : List ℕ) (p : Place) (zones last : ℕ) (d : Device) {q : Place} (h : HeadDone e s p zones last (good d q)) where
  pub device-done : (cells : List (List ℕ)) {z : Place} → CellsDone e s q (Ok z) cells → DeviceDone e s p zones last (good d z) cells
  device-done cells {z} g =
      let kept : device_of (device_row d) ≡ d = device-kept d (h.long d q refl) in
      record {
        is = ap (λ (y : Device). good (device_in y cells, device_prices_in y cells) z) kept ∙ device-on e zones last s p d cells (Ok z) h.is g.is;
        small = λ x r k. rw (← value k) (h.small d q refl);
        counted = λ x r k. rw (← value k, kept) (h.counted d q refl);
        padded = λ x r k. g.padded z refl;
      }

-- ---- the loop

-- i of n devices have been read, and the next one's cells begin at a
pub record Manning (e : ℕ) (s : List ℕ) (n m zones last : ℕ) (start : Place) (devices₀ cells₀ : List (List ℕ)) (i a : ℕ) (devices cells : List (List ℕ)) (p : Place) : Type 0 where
  pub parting : Parting (λ k. B.device e k zones last) device_pair s n m start devices₀ cells₀ i a devices cells p
  pub stored : (j : ℕ) → j < i → Stored (get_or devices j [])
  pub manned : Manned i m devices cells

pub devices-none : (e : ℕ) (s : List ℕ) (start : Place) (n m zones last : ℕ) (r : Result Place Fault) (devices cells : List (List ℕ)) {f : Fault} → Exits r f
    → bad f ≡ got (list n (B.device e m zones last)) s start → DevicesDone e s start n m zones last r devices cells
devices-none e s start n m zones last r devices cells x g = record { is = told-exits _ r x g; stored = λ q k. not-met r _ x k; manned = λ q k. not-met r _ x k }

module _ {e : ℕ} {s : List ℕ} {n m zones last : ℕ} {start : Place} where
  pub manning-none : (devices cells : List (List ℕ)) → Manning e s n m zones last start devices cells 0 0 devices cells start
  manning-none devices cells = record {
    parting = parting-none devices cells;
    stored = λ i l. absurd (omega arith);
    manned = record { counted = λ i l. absurd (omega arith); padded = λ k l. absurd (omega arith) };
  }

  module _ {devices₀ cells₀ : List (List ℕ)} {i a : ℕ} {devices cells : List (List ℕ)} {p : Place} (u : Manning e s n m zones last start devices₀ cells₀ i a devices cells p) where
    module _ (fits : Fits n m devices₀ cells₀) (h : i < n) (d : Device) (own : List (List ℕ)) (k : length own ≡ length (take (a + m - a) (drop a cells))) {q : Place}
        (g : DeviceDone e s p zones last (good d q) own) where
      pub manning-more : {next : List (List ℕ)} → next ≡ set devices i (device_row d)
          → Manning e s n m zones last start devices₀ cells₀ (i + 1) (a + m) next (take a cells ++ (own ++ drop (a + m - a) (drop a cells))) q
      manning-more {next} f =
          let long : length own ≡ m = own-long u.parting fits h own k in
          let wide : length own ≡ a + m - a = long ∙ omega arith in
          let fit : a + (a + m - a) ≤ length cells = omega (arith, inside u.parting fits h) in
          let at : a ≡ i * m = u.parting.at in
          record {
            parting = parting-more u.parting fits h (device-natural e m zones last) (device_row d) own k g.is f;
            stored = λ j l. rw f (elim (dec_le (suc j) i) [
              | yes y ↦ rw (get_or-set_other devices i j (device_row d) [] (λ e. omega (arith, e))) (u.stored j y)
              | no y ↦
                  let z : j ≡ i = omega arith in
                  rw z (record { device = d; is = get_or-set_same devices i (device_row d) [] (inside-heads u.parting fits h) })
            ]);
            manned = record {
              counted = λ j l. rw f (elim (dec_le (suc j) i) [
                | yes y ↦ rw (get_or-set_other devices i j (device_row d) [] (λ e. omega (arith, e))) (u.manned.counted j y)
                | no y ↦ let z : j ≡ i = omega arith in rw (z, get_or-set_same devices i (device_row d) [] (inside-heads u.parting fits h)) (g.counted d q refl)
              ]);
              padded = λ j l. elim (dec_le (suc j) a) [
                | yes y ↦ rw (patched-before [] cells own a (a + m - a) wide fit j y) (u.manned.padded j (omega (arith, at)))
                | no y ↦
                    let t : j - a < m = omega (arith, at) in
                    let z : j ≡ a + (j - a) = omega arith in
                    rw (z, patched-row [] cells own a (a + m - a) wide fit (j - a) (omega arith)) (g.padded d q refl (j - a) (omega arith))
              ];
            };
          }

    pub manning-off : (fits : Fits n m devices₀ cells₀) → i < n → (own : List (List ℕ)) → length own ≡ length (take (a + m - a) (drop a cells)) → {f : Fault} → bad f ≡ got (B.device e (length own) zones last) s p
        → bad f ≡ got (list n (B.device e m zones last)) s start
    manning-off fits h own k x = parting-off u.parting fits h (device-natural e m zones last) own k x

    pub manning-done : n ≤ i → DevicesDone e s start n m zones last (Ok p) devices cells
    manning-done h =
        let z : i ≡ n = omega (arith, u.parting.reading.within) in
        record { is = parting-done u.parting h; stored = λ q o i l. u.stored i (omega arith); manned = λ q o. rw z at u.manned }
