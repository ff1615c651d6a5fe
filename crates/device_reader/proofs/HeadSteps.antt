-- What stands ahead of a device's intervals, from the parts that the code reads: side and zone bits, single figures, three lists, the link and the bar.
use mathlib.Core.Path.{◌≡◌, refl, ap, sym, ◌∙◌}
use mathlib.Core.Bool.{false, true}
use mathlib.Core.List.{List, [], ◌∷◌, map, map-map}
use Prim.Native.Nat.{ℕ, zero, suc, ◌≤◌}
use native.Mathlib.Omega.{arith}
use lib.IntN.{ℤ}
use lib.ListN.{length, get_or, take}
use Rattle.layouts.specs.declared.Fault.{Fault}
use Rattle.layouts.specs.declared.Place.{Place}
use Rattle.layouts.specs.Layout.{Layout, ◌then◌, ◌▸◌, held}
use Rattle.model.specs.Case as M
use Rattle.model.specs.Messages.{head, costs, ramps, apart}
use Rattle.kilowatts.specs.declared.Kw.{Kw}
use Rattle.grains.specs.declared.Grains.{Grains}
use Rattle.row_places.specs.declared.State.{State}
use Rattle.row_places.specs.declared.StartWindow.{StartWindow}
use Rattle.row_places.specs.declared.EnergyWindow.{EnergyWindow}
use Rattle.row_places.specs.declared.Device.{Device}
use Rattle.records.specs.Views.{less, cost_offset, start_in, energy_in, Counted}
use Rattle.records.specs.Kept.{DeviceLong}
use Rattle.row_places.specs.Figures.{DeviceSmall}
use Rattle.std.specs.Prelude.{Ok}
use Rattle.fields.specs.Got.{Got, good, bad, got, Natural, then-natural, mapped, goes-off}
use Rattle.fields.proofs.Steps.{Exits, seen-exits}
use Rattle.field_rows.specs.Each.{each, each_read, counted-natural}
use Rattle.item_reader.specs.declared.Item.{Item}
use Rattle.item_reader.specs.declared.Listed.{Listed}
use Rattle.item_reader.specs.declared.Listed.TheVariants.{States, Starts, Energies}
use Rattle.device_figures.specs.declared.Sides.{Sides}
use Rattle.device_figures.specs.declared.Figures.{Figures}
use Rattle.device_figures.specs.declared.Linked.{Linked}
use Rattle.item_reader.specs.declared.Items.{Items}
use Rattle.model.specs.Editions.{most_states}
use Rattle.item_reader.specs.Items.{item_in, ItemsFit, items, items_in, threes, fours, state_from, start_from, energy_from, EnergiesMade}
use Rattle.device_figures.specs.Parts.{FigureLists, sides, sides_in, figures, figures_in, linked, linked_in}
use Rattle.device_figures.specs.Naturals.{sides-natural, figures-natural, linked-natural}
use Rattle.device_reader.specs.Parts.{MoneyMade, limits_from, device_with, device_from, DeviceMade}
use Rattle.device_reader.specs.Heads.{Ahead, ahead, ahead_of, HeadDone}
use Rattle.item_reader.specs.Naturals.{item-natural}

-- ---- the parts

abbrev Lists : Type 0
Lists = List (ℕ × ℤ) × (List M.StartWindow × (List M.EnergyWindow × (M.Link × ℕ)))

abbrev lists : ℕ → ℕ → Layout Lists
lists e last = items States e last ▸ items Starts e last ▸ items Energies e last ▸ linked e

abbrev Parts : Type 0
Parts = (ℕ × ℕ) × (FigureLists × Lists)

abbrev parts : ℕ → ℕ → ℕ → Layout Parts
parts e zones last = sides zones ▸ figures ▸ lists e last

module _ (e last : ℕ) where
  pub items-natural : (k : Listed) → Natural (items k e last)
  items-natural k = counted-natural _ (item-natural k e last)

  pub energies-natural : Natural (items Energies e last ▸ linked e)
  energies-natural = then-natural (items-natural Energies) (λ a. linked-natural e)

  pub windows-natural : Natural (items Starts e last ▸ items Energies e last ▸ linked e)
  windows-natural = then-natural (items-natural Starts) (λ a. energies-natural)

  pub lists-natural : Natural (lists e last)
  lists-natural = then-natural (items-natural States) (λ a. windows-natural)

  pub rest-natural : Natural (figures ▸ lists e last)
  rest-natural = then-natural figures-natural (λ a. lists-natural)

  parts-natural : (zones : ℕ) → Natural (parts e zones last)
  parts-natural zones = then-natural (sides-natural zones) (λ a. rest-natural)

-- ---- as what stands ahead

abbrev ahead_with : ℕ × ℕ → FigureLists → List ℕ → List ℤ → List M.StartWindow → List M.EnergyWindow → M.Link × ℕ → Ahead
ahead_with x f longest costs starts energies link = (
  record {
    side = x.0;
    zone_bits = x.1;
    on0 = get_or f.0 0 0;
    power0 = get_or f.0 1 0;
    minutes0 = get_or f.0 2 0;
    min_up = get_or f.0 3 0;
    min_down = get_or f.0 4 0;
    ramps = record { up = get_or f.1.0 0 0; down = get_or f.1.0 1 0; starting = get_or f.1.0 2 0; stopping = get_or f.1.0 3 0 };
  },
  (record { on = get_or f.1.1.0 0 0; start = get_or f.1.1.0 1 0; stop = get_or f.1.1.0 2 0 }, (f.1.1.1, ((longest, costs), (starts, (energies, link))))),
)

abbrev ahead_from : Parts → Ahead
ahead_from v = ahead_with v.0 v.1.0 (map (λ s. s.0) v.1.1.0) (map (λ s. s.1) v.1.1.0) v.1.1.1.0 v.1.1.1.1.0 v.1.1.1.1.1

ahead-is : (e zones last : ℕ) (s : List ℕ) (p : Place) → got (ahead e zones last) s p ≡ (parts e zones last).read s p bad (λ v q. good (ahead_from v) q)
unfolding head costs ramps apart held ◌then◌ each each_read
ahead-is e zones last s p = refl

-- four records, made of four items
four-items : {B : Type 0} (f : Item → B) (l : List Item) → length l ≡ 4 → fours f l ≡ map f l
four-items f [] h = absurd (omega arith)
four-items f (a ∷ []) h = absurd (omega arith)
four-items f (a ∷ b ∷ []) h = absurd (omega arith)
four-items f (a ∷ b ∷ c ∷ []) h = absurd (omega arith)
four-items f (a ∷ b ∷ c ∷ d ∷ []) h = refl
four-items f (a ∷ b ∷ c ∷ d ∷ g ∷ l) h = absurd (omega arith)

firsts-made : {A B : Type 0} (f : A → B) (n : ℕ) (l : List A) → take n (map f l) ≡ map f (take n l)
firsts-made f zero l = refl
firsts-made f (suc n) [] = refl
firsts-made {B = B} f (suc n) (x ∷ l) = ap (λ (r : List B). f x ∷ r) (firsts-made f n l)

seen : {A B : Type 0} (view : B → A) (f : Item → B) (n : ℕ) (l : List Item) → length l ≡ 4 → map view (take n (fours f l)) ≡ map (λ x. view (f x)) (take n l)
seen {B = B} view f n l h = ap (λ (r : List B). map view (take n r)) (four-items f l h) ∙ ap (map view) (firsts-made f n l) ∙ map-map view f (take n l)

-- the first three, where no more are counted
three-items : {B : Type 0} (f : Item → B) (n : ℕ) (l : List Item) → n ≤ most_states → take n (threes f l) ≡ take n (fours f l)
three-items f zero l h = refl
three-items f (suc zero) l h = refl
three-items f (suc (suc zero)) l h = refl
three-items f (suc (suc (suc zero))) l h = refl
three-items f (suc (suc (suc (suc n)))) l h = absurd (omega arith)

seen-three : {A B : Type 0} (view : B → A) (f : Item → B) (n : ℕ) (l : List Item) → n ≤ most_states → length l ≡ 4
    → map view (take n (threes f l)) ≡ map (λ x. view (f x)) (take n l)
seen-three view f n l few h = ap (map view) (three-items f n l few) ∙ seen view f n l h

with-same : (x : ℕ × ℕ) (f : FigureLists) (l : M.Link × ℕ) {a a' : List ℕ} {b b' : List ℤ} {c c' : List M.StartWindow} {d d' : List M.EnergyWindow}
    → a ≡ a' → b ≡ b' → c ≡ c' → d ≡ d' → ahead_with x f a b c d l ≡ ahead_with x f a' b' c' d' l
with-same x f l h i j k = rw (h, i, j, k) refl

-- what the parts that were read say
abbrev pub parts_in : Sides → Figures → Items → Items → Items → Linked → Parts
parts_in x f a b c l = (sides_in x, (figures_in f, (items_in States a, (items_in Starts b, (items_in Energies c, linked_in l)))))

device-seen : (x : Sides) (f : Figures) (a b c : Items) (k : Linked) → a.count ≤ most_states → length a.items ≡ 4 → length b.items ≡ 4 → length c.items ≡ 4
    → ahead_of (device_from x f a b c k) ≡ ahead_from (parts_in x f a b c k)
device-seen x f a b c k few h i j =
    let l = take a.count a.items in
    with-same (sides_in x) (figures_in f) (linked_in k)
    (seen-three (λ s. s.longest) state_from a.count a.items few h ∙ sym (map-map (λ (s : ℕ × ℤ). s.0) (item_in States) l))
    (seen-three (λ s. less cost_offset s.cost) state_from a.count a.items few h ∙ sym (map-map (λ (s : ℕ × ℤ). s.1) (item_in States) l))
    (seen start_in start_from b.count b.items i)
    (seen energy_in energy_from c.count c.items j)

-- ---- the answers

pub device-made : (x : Sides) (f : Figures) (a b c : Items) (k : Linked) {v w : Grains} {limits : List Kw} {states : List State}
    {starts : List StartWindow} {energies : List EnergyWindow}
    → MoneyMade (get_or f.costs 1 0) v → MoneyMade (get_or f.costs 2 0) w → limits ≡ limits_from f.limits
    → states ≡ threes state_from a.items → starts ≡ fours start_from b.items → EnergiesMade c.items energies
    → DeviceMade x f a b c k (device_with x f v w limits a.count states b.count starts c.count energies k)
device-made x f a b c k m n l s t e = record {
  is = rw (m.is, n.is, l, s, t, e.is) refl;
  startcost = m.small;
  stopcost = n.small;
  small = e.small;
}

-- what holds of a value that was read
kept : {A : Type 0} (P : A → Type 0) {a b : A} {p q : Place} → P a → good a p ≡ good b q → P b
kept {A} P {a} {b} {p} {q} h e =
    let pair : ◌≡◌ {A = A × Place} (a, p) (b, q) = cc in
    let same : a ≡ b = ap (λ (z : A × Place). z.0) pair in
    rw (← same) h

module _ (e zones last : ℕ) (s : List ℕ) (p : Place) where
  pub head-none : (r : Got Device) {f : Fault} → Exits r f → bad f ≡ got (parts e zones last) s p → HeadDone e s p zones last r
  head-none r x h = record {
    is = seen-exits ahead_of r x (sym (ahead-is e zones last s p ∙ goes-off (parts-natural e last zones) s p bad _ (sym h)));
    counted = λ d q t. let z : false ≡ true = rw t at x.0 in absurd (cc);
    small = λ d q t. let z : false ≡ true = rw t at x.0 in absurd (cc);
    long = λ d q t. let z : false ≡ true = rw t at x.0 in absurd (cc);
  }

  module _ (x : Sides) (f : Figures) (a b c : Items) (h : ItemsFit States a) (i : ItemsFit Starts b) (j : ItemsFit Energies c) where
    pub head_done : (l : Linked) {d : Device} {q : Place} → good (parts_in x f a b c l) q ≡ got (parts e zones last) s p → DeviceMade x f a b c l d → HeadDone e s p zones last (good d q)
    head_done l {d} {q} t m = let k = m.is in record {
      is = ap (λ (d : Device). good (ahead_of d) q) k ∙ ap (λ (v : Ahead). good v q) (device-seen x f a b c l h.few h.long i.long j.long)
          ∙ mapped (parts-natural e last zones) ahead_from s p (Ok q) (parts_in x f a b c l) (ahead-is e zones last s p) t;
      counted = λ d' q'. kept Counted (rw k (record { few-states = h.few; few-starts = i.few; few-energies = j.few }));
      small = λ d' q'. kept DeviceSmall (record {
        startcost = m.startcost;
        stopcost = m.stopcost;
        nstates = omega (arith, ap (λ (d : Device). d.nstates) k, h.few);
        nstarts = omega (arith, ap (λ (d : Device). d.nstarts) k, i.few);
        nenergies = omega (arith, ap (λ (d : Device). d.nenergies) k, j.few);
        energies = m.small;
      });
      long = λ d' q'. kept DeviceLong (rw k (record { ramps = refl; limits = refl; states = refl; starts = refl; energies = refl }));
    }
