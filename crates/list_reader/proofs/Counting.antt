-- The turns of the loop that reads a count and that many, whatever is listed.
use mathlib.Core.Path.{◌≡◌, sym, ap, ◌∙◌}
use mathlib.Core.Bool.{false, true}
use mathlib.Core.List.{List}
use Prim.Native.Nat.{ℕ, ◌+◌, ◌≤◌, ◌<◌}
use native.Mathlib.Omega.{arith}
use lib.ListN.{length, set, length-set}
use Rattle.layouts.specs.declared.Fault.{Fault}
use Rattle.layouts.specs.declared.Place.{Place}
use Rattle.layouts.specs.Layout.{Field, nat, count_of, list}
use Rattle.model.specs.Editions.{most_windows}
use Rattle.fields.specs.Got.{Got, good, bad, got, nat-within, counted-on, counted-off}
use Rattle.field_rows.specs.Going.{Storing, storing-none, storing-more, storing-off, storing-done}
use Rattle.fields.proofs.Steps.{Exits, seen-exits}
use Rattle.item_reader.specs.declared.Item.{Item}
use Rattle.item_reader.specs.declared.Items.{Items}
use Rattle.item_reader.specs.declared.Listed.{Listed}
use Rattle.item_reader.specs.declared.Listed.TheVariants.{States, Starts, Energies}
use Rattle.item_reader.specs.Items.{most_items, item, item_in, items, items_in, ItemsDone}
use Rattle.item_reader.specs.Naturals.{item-natural}

abbrev count : Listed → Field
count k = count_of 3 0 (most_items k)

-- the array has room for every list
most-fits : (k : Listed) → most_items k ≤ most_windows
most-fits States = omega arith
most-fits Starts = omega arith
most-fits Energies = omega arith

module _ (k : Listed) (e last : ℕ) (s : List ℕ) where
  -- i of n have been read from start on, and p is next
  pub record Filling (n : ℕ) (start : Place) (i : ℕ) (items : List Item) (p : Place) : Type 0 where
    pub few : n ≤ most_items k
    pub fits : n ≤ most_windows
    pub long : length items ≡ most_windows
    pub storing : Storing (item k e last) (item_in k) s n start i items p

  -- a count up to the list's own limit
  limited : (o : Place) {most : ℕ} {g : Got ℕ} → most ≡ most_items k → g ≡ got (nat (count_of 3 0 most)) s o → g ≡ got (nat (count k)) s o
  limited o e h = rw e at h

  -- refused, at the count or behind it
  refused : (o : Place) (r : Got Items) {f : Fault} → Exits r f → bad f ≡ got (items k e last) s o → ItemsDone k e last s o r
  refused o r x h = record { is = seen-exits (items_in k) r x h; fit = λ v q t. let b : false ≡ true = rw t at x.0 in absurd (cc) }

  module _ (o : Place) {most : ℕ} (limit : most ≡ most_items k) where
    pub fill-no-count : (r : Got Items) {f : Fault} → Exits r f → bad f ≡ got (nat (count_of 3 0 most)) s o → ItemsDone k e last s o r
    fill-no-count r x h = refused o r x (sym (counted-off (count k) (item k e last) s o (sym (limited o limit h))))

    module _ {n : ℕ} {start : Place} (read : good n start ≡ got (nat (count_of 3 0 most)) s o) where
      pub fill_none : (l : List Item) → length l ≡ most_windows → Filling n start 0 l start
      fill_none l long = let few : n ≤ most_items k = (nat-within (count k) s o (sym (limited o limit read))).1 in
          record { few = few; fits = omega (arith, few, most-fits k); long = long; storing = storing-none (omega (arith, few, most-fits k)) }

      -- the items, from the count's place on
      behind : {g : Got (List _)} → g ≡ got (list n (item k e last)) s start → g ≡ got (items k e last) s o
      behind h = h ∙ sym (counted-on (count k) (item k e last) s o (sym (limited o limit read)))

      module _ {i : ℕ} {l : List Item} {p : Place} (u : Filling n start i l p) where
        pub fill-off : (r : Got Items) {f : Fault} → Exits r f → i < n → bad f ≡ got (item k e last) s p → ItemsDone k e last s o r
        fill-off r x b h = refused o r x (behind (storing-off u.storing (item-natural k e last) b h))

        pub fill_done : n ≤ i → ItemsDone k e last s o (good (record { count = n; items = l }) p)
        fill_done b = record {
          is = behind (storing-done u.storing b);
          fit = λ v q t. let pair : ◌≡◌ {A = Items × Place} (record { count = n; items = l }, p) (v, q) = cc in
              let same : record { count = n; items = l } ≡ v = ap (λ (z : Items × Place). z.0) pair in
              rw (← same) (record { few = u.few; long = u.long });
        }

  module _ {n : ℕ} {start : Place} {i : ℕ} {l : List Item} {p : Place} (u : Filling n start i l p) where
    pub fill_more : (v : Item) {q : Place} → i < n → good (item_in k v) q ≡ got (item k e last) s p → Filling n start (i + 1) (set l i v) q
    fill_more v b h = record {
      few = u.few;
      fits = u.fits;
      long = simp length-set u.long;
      storing = storing-more u.storing (item-natural k e last) b h;
    }
