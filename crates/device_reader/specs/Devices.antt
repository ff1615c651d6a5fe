-- A device is what stands ahead of its intervals and its cells.
use Rattle.std.specs.Prelude.{Result, ◌≡◌, List, map, ℕ, length}
use Rattle.std.proofs.Math.Path.{refl}
use Rattle.std.proofs.Common.{ap, sym, ◌∙◌}
use Rattle.std.proofs.lemmas.Simd.{map-map}
use Rattle.layouts.specs.declared.Fault.{Fault}
use Rattle.layouts.specs.declared.Place.{Place}
use Rattle.layouts.specs.Layout.{list, ◌then◌, held}
use Rattle.model.specs.Case as M
use Rattle.model.specs.Messages.{Head, apart, head, costs, ramps, zone_bits}
use Rattle.model.specs.ByEdition as B
use Rattle.model.specs.ByEdition.{cell}
use Rattle.row_places.specs.declared.Device.{Device}
use Rattle.records.specs.Views.{cell_pair, device_in, device_prices_in}
use Rattle.fields.specs.Got.{good, bad, got, told, Natural, nat-natural, int-natural, then-natural, such-natural, held-natural, goes_on, goes-off, mapped}
use Rattle.field_rows.specs.Each.{list-natural, counted-natural}
use Rattle.field_rows.proofs.Steps.{eight-natural}
use Rattle.item_reader.specs.declared.Listed.TheVariants.{States, Starts, Energies}
use Rattle.item_reader.specs.Naturals.{item-natural}
use Rattle.floor_reader.proofs.Floors.{block-natural}
use Rattle.reactive_cells.proofs.Reactive.{reactive-natural}
use Rattle.link_reader.proofs.Links.{link-natural}
use Rattle.device_figures.specs.Naturals.{bar-natural, linked-natural}
use Rattle.device_reader.specs.Heads.{Ahead, ahead, ahead_of}

-- ---- any reader goes on from its parts

ramps-natural : Natural ramps
unfolding ramps
ramps-natural = held-natural _ _ (then-natural (nat-natural _) (λ a. then-natural (nat-natural _) (λ b. then-natural (nat-natural _) (λ c. nat-natural _))))

zones-natural : (zones : ℕ) → Natural (zone_bits zones)
unfolding zone_bits
zones-natural zones = such-natural _ (nat-natural _)

head-natural : (zones : ℕ) → Natural (head zones)
unfolding head
head-natural zones = held-natural _ _
    (then-natural (nat-natural _) (λ a. then-natural (zones-natural zones) (λ b. then-natural (nat-natural _) (λ c. then-natural (nat-natural _) (λ d.
    then-natural (nat-natural _) (λ e. then-natural (nat-natural _) (λ f. then-natural (nat-natural _) (λ g. ramps-natural))))))))

costs-natural : Natural costs
unfolding costs
costs-natural = held-natural _ _ (then-natural (nat-natural _) (λ a. then-natural (nat-natural _) (λ b. nat-natural _)))

pub ahead-natural : (e zones last : ℕ) → Natural (ahead e zones last)
unfolding apart
ahead-natural e zones last =
    then-natural (head-natural zones) (λ a. then-natural costs-natural (λ b. then-natural (eight-natural (nat-natural _)) (λ c.
    then-natural (held-natural _ _ (counted-natural _ (item-natural States e last)))
    (λ d. then-natural (counted-natural _ (item-natural Starts e last)) (λ f. then-natural (counted-natural _ (item-natural Energies e last)) (λ g. linked-natural e))))))

pub cell-natural : (e : ℕ) → Natural (cell e)
unfolding cell B.cell_with apart
cell-natural e = held-natural _ _
    (then-natural (nat-natural _) (λ a. then-natural (then-natural (nat-natural _) (λ low. such-natural _ (nat-natural _))) (λ b.
    then-natural (held-natural _ _ (counted-natural _ (then-natural (block-natural e) (λ c. int-natural _ _)))) (λ d.
    then-natural (eight-natural (nat-natural _)) (λ f. reactive-natural e)))))

-- ---- what stands ahead, then the cells

-- a device of these parts
abbrev made : Ahead → List (M.Cell × M.CellPrices) → M.Device × M.DevicePrices
made a cs = let h : Head = a.0 in (
  record {
    side = h.side;
    zone_bits = h.zone_bits;
    on0 = h.on0;
    power0 = h.power0;
    minutes0 = h.minutes0;
    min_up = h.min_up;
    min_down = h.min_down;
    ramps = h.ramps;
    limits = a.1.1.0;
    longest = a.1.1.1.0.0;
    start_windows = a.1.1.1.1.0;
    energy_windows = a.1.1.1.1.1.0;
    link = a.1.1.1.1.1.1.0;
    bar = a.1.1.1.1.1.1.1;
    cells = map (λ c. c.0) cs;
  },
  record { on_cost = a.1.0.on; start_cost = a.1.0.start; stop_cost = a.1.0.stop; state_costs = a.1.1.1.0.1; cells = map (λ c. c.1) cs },
)

device-of : (d : Device) (cells : List (List ℕ)) → made (ahead_of d) (map cell_pair cells) ≡ (device_in d cells, device_prices_in d cells)
unfolding device_in device_prices_in
device-of d cells = rw (map-map (λ (c : M.Cell × M.CellPrices). c.0) cell_pair cells, map-map (λ (c : M.Cell × M.CellPrices). c.1) cell_pair cells) refl

module _ (e n zones last : ℕ) where
  device-is : (s : List ℕ) (p : Place) → got (B.device e n zones last) s p ≡ (ahead e zones last).read s p bad (λ a q. (list n (cell e)).read s q bad (λ cs q. good (made a cs) q))
  unfolding B.device_by apart held ◌then◌
  device-is s p = refl

  pub device-natural : Natural (B.device e n zones last)
  unfolding B.device_by apart
  device-natural = held-natural _ _
      (then-natural (head-natural zones) (λ a. then-natural costs-natural (λ b. then-natural (eight-natural (nat-natural _)) (λ c.
      then-natural (held-natural _ _ (counted-natural _ (item-natural States e last))) (λ d. then-natural (counted-natural _ (item-natural Starts e last)) (λ f.
      then-natural (counted-natural _ (item-natural Energies e last)) (λ g. then-natural (link-natural e) (λ h.
      then-natural (bar-natural e) (λ b. held-natural _ _ (list-natural n (cell-natural e)))))))))))

  pub device-off : (s : List ℕ) (p : Place) {f : Fault} → bad f ≡ got (ahead e zones last) s p → bad f ≡ got (B.device e n zones last) s p
  device-off s p h = sym (device-is s p ∙ goes-off (ahead-natural e zones last) s p bad _ (sym h))

module _ (e zones last : ℕ) (s : List ℕ) (p : Place) (d : Device) (cells : List (List ℕ)) {q : Place} (w : Result Place Fault) where
  pub device-on : good (ahead_of d) q ≡ got (ahead e zones last) s p → told w (map cell_pair cells) ≡ got (list (length cells) (cell e)) s q
      → told w (device_in d cells, device_prices_in d cells) ≡ got (B.device e (length cells) zones last) s p
  device-on h t = ap (λ (x : M.Device × M.DevicePrices). told w x) (sym (device-of d cells))
      ∙ mapped (list-natural (length cells) (cell-natural e)) (made (ahead_of d)) s q w (map cell_pair cells)
      (device-is e (length cells) zones last s p ∙ goes_on (ahead-natural e zones last) s p bad _ (sym h)) t
