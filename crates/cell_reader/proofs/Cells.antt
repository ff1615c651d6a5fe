-- A cell of its groups, and the turns of the loop that reads a device's cells into rows.
use mathlib.Core.Path.{◌≡◌, refl, ap, ap₂, sym, ◌∙◌}
use mathlib.Core.List.{List, [], ◌∷◌, map}
use Prim.Native.Nat.{ℕ, zero, suc, ◌+◌, ◌≤◌, ◌<◌}
use native.Mathlib.Omega.{arith}
use native.Mathlib.Decide.{dec_le}
use lib.IntN.{ℤ}
use lib.ListN.{length, get_or, set, take, length-set, get_or-map}
use lib.Seq.{take_all, get_or-set_same, get_or-set_other}
use Rattle.layouts.specs.declared.Fault.{Fault}
use Rattle.layouts.specs.declared.Place.{Place}
use Rattle.layouts.specs.Layout.{Layout, ◌then◌, held, list}
use Rattle.layouts.specs.Since.{since}
use Rattle.model.specs.Case as M
use Rattle.model.specs.Messages.{apart}
use Rattle.model.specs.ByEdition as B
use Rattle.model.specs.ByEdition.{cell, reactive_cell, no_reactive_cell}
use Rattle.kilowatts.specs.declared.Kw.{Kw}
use Rattle.row_places.specs.declared.Cell.{Cell}
use Rattle.row_places.specs.declared.ReservePrices.{ReservePrices}
use Rattle.row_places.specs.declared.ReactiveCell.{ReactiveCell}
use Rattle.row_places.specs.Figures.{cell_row, kw_at}
use Rattle.records.specs.Views.{less, price_offset, four_blocks, eight_prices_in, reactive_limits_in, reactive_prices_in, Padded, cell_pair}
use Rattle.records.specs.Stored.{four, cell-stored, cell-prices-stored, cell-padded}
use Rattle.std.specs.Prelude.{Result, Ok, Err}
use Rattle.fields.specs.Got.{Got, good, bad, got, seen, never, Natural, nat-natural, then-natural, such-natural, held-natural}
use Rattle.fields.proofs.Steps.{Exits, on, off, exits, told-exits}
use Rattle.field_rows.specs.Each.{counted-natural}
use Rattle.field_rows.specs.Going.{Storing, storing-none, storing-more, storing-off, storing-done}
use Rattle.field_rows.proofs.Steps.{eight-natural}
use Rattle.cell_groups.specs.declared.Limits.{Limits}
use Rattle.cell_groups.specs.declared.Block.{Block}
use Rattle.cell_groups.specs.declared.Blocks.{Blocks}
use Rattle.cell_groups.specs.Groups.{limits, blocks, reserve_prices, limits_in, block_in, no_block, Empty, BlocksDone, cell_with}
use Rattle.cell_reader.specs.Cells.{cell_in, CellDone, CellsDone}
use Rattle.cell_groups.proofs.Steps.{limits-natural}
use Rattle.blocks_reader.proofs.Blocks.{block-natural, same}
use Rattle.reactive_cells.specs.Reactive.{reactive_pair}
use Rattle.reactive_cells.proofs.Reactive.{reactive-natural}

-- ---- the layout

blocks-natural : (e : ℕ) → Natural (blocks e)
blocks-natural e = counted-natural _ (block-natural e)

prices-natural : Natural reserve_prices
prices-natural = eight-natural (nat-natural _)

pub cell-natural : (e : ℕ) → Natural (cell e)
unfolding cell B.cell_with apart
cell-natural e = held-natural _ _
    (then-natural (nat-natural _) (λ a. then-natural (then-natural (nat-natural _) (λ low. such-natural _ (nat-natural _)))
    (λ b. then-natural (held-natural _ _ (blocks-natural e)) (λ c. then-natural prices-natural (λ d. reactive-natural e)))))

abbrev reactive : ℕ → Layout (M.ReactiveLimits × M.ReactiveReserves)
reactive e = since e 2 no_reactive_cell reactive_cell

-- the model's cell of its groups
abbrev grouped : ℕ × (ℕ × ℕ) → List (M.Block × ℤ) → M.Reserves → M.ReactiveLimits × M.ReactiveReserves → M.Cell × M.CellPrices
grouped h b r x = (
  record { status = h.0; pmin = h.1.0; pmax = h.1.1; blocks = map (λ y. y.0) b; reactive = x.0 },
  record { blocks = map (λ y. y.1) b; reserves = r; reactive = x.1 },
)

module _ (e : ℕ) (s : List ℕ) (p : Place) where
  cell-is : got (cell e) s p
      ≡ limits.read s p bad (λ h p. (blocks e).read s p bad (λ b p. reserve_prices.read s p bad (λ r p. (reactive e).read s p bad (λ x p. good (grouped h b r x) p))))
  unfolding cell B.cell_with held ◌then◌ apart
  cell-is = refl

  pub cell-1 : {f : Fault} → bad f ≡ got limits s p → bad f ≡ got (cell e) s p
  cell-1 t = off limits-natural s p bad _ t refl ∙ sym cell-is

  module _ {h : ℕ × (ℕ × ℕ)} {p₁ : Place} (t : good h p₁ ≡ got limits s p) where
    pub cell-2 : {f : Fault} → bad f ≡ got (blocks e) s p₁ → bad f ≡ got (cell e) s p
    cell-2 g = on limits-natural s p bad _ t (off (blocks-natural e) s p₁ bad _ g refl) ∙ sym cell-is

    module _ {b : List (M.Block × ℤ)} {p₂ : Place} (g : good b p₂ ≡ got (blocks e) s p₁) where
      pub cell-3 : {f : Fault} → bad f ≡ got reserve_prices s p₂ → bad f ≡ got (cell e) s p
      cell-3 k = on limits-natural s p bad _ t (on (blocks-natural e) s p₁ bad _ g (off prices-natural s p₂ bad _ k refl)) ∙ sym cell-is

      module _ {r : M.Reserves} {p₃ : Place} (k : good r p₃ ≡ got reserve_prices s p₂) where
        pub cell-4 : {f : Fault} → bad f ≡ got (reactive e) s p₃ → bad f ≡ got (cell e) s p
        cell-4 m = on limits-natural s p bad _ t (on (blocks-natural e) s p₁ bad _ g (on prices-natural s p₂ bad _ k (off (reactive-natural e) s p₃ bad _ m refl))) ∙ sym cell-is

        cell-5 : {x : M.ReactiveLimits × M.ReactiveReserves} {z : Place} → good x z ≡ got (reactive e) s p₃ → good (grouped h b r x) z ≡ got (cell e) s p
        cell-5 m = on limits-natural s p bad _ t (on (blocks-natural e) s p₁ bad _ g (on prices-natural s p₂ bad _ k (on (reactive-natural e) s p₃ bad _ m refl))) ∙ sym cell-is

-- ---- the record of its groups

-- a part of each of the n first, seen one way or another
module _ {A B C D : Type 0} (f : A → B) (g : B → C) (h : A → D) (k : D → C) (same : (x : A) → g (f x) ≡ k (h x)) where
  parts : (n : ℕ) (l : List A) → map g (take n (map f l)) ≡ map k (map h (take n l))
  parts zero l = refl
  parts (suc n) [] = refl
  parts (suc n) (x ∷ l) = ap₂ (λ (y : C) (ys : List C). y ∷ ys) (same x) (parts n l)

module _ {A B C : Type 0} (f : A → C) (h : A → B) (k : B → C) (same : (x : A) → f x ≡ k (h x)) where
  views : (n : ℕ) (l : List A) → take n (map f l) ≡ map k (map h (take n l))
  views zero l = refl
  views (suc n) [] = refl
  views (suc n) (x ∷ l) = ap₂ (λ (y : C) (ys : List C). y ∷ ys) (same x) (views n l)

module _ (l : Limits) (b : Blocks) (prices : ReservePrices) (figures : ReactiveCell) (long : length b.blocks ≡ 4) where
  abbrev n : ℕ
  n = b.count

  abbrev bs : List Block
  bs = b.blocks

  abbrev c : Cell
  c = cell_with l b prices figures

  caps-are : c.caps ≡ map (λ b. b.cap) bs
  caps-are = ap (map (λ (b : Block). b.cap)) (four bs no_block long)

  floors-are : c.floors ≡ map (λ b. b.floor) bs
  floors-are = ap (map (λ (b : Block). b.floor)) (four bs no_block long)

  prices-are : c.prices ≡ map (λ b. b.price) bs
  prices-are = ap (map (λ (b : Block). b.price)) (four bs no_block long)

  blocks-are : four_blocks c ≡ map (λ b. (block_in b).0) bs
  blocks-are = ap (map (λ (b : Block). (block_in b).0)) (four bs no_block long)

  row-holds : cell_pair (cell_row c) ≡ grouped (limits_in l) (map block_in (take n bs)) (eight_prices_in prices) (reactive_pair figures)
  row-holds = ap₂ (λ (x : M.Cell) (y : M.CellPrices). (x, y)) (cell-stored c refl refl refl) (cell-prices-stored c refl refl refl)
      ∙ ap₂ (λ (x : List M.Block) (y : List ℤ). (
        record { status = l.status; pmin = l.pmin.0; pmax = l.pmax.0; blocks = x; reactive = reactive_limits_in figures },
        record { blocks = y; reserves = eight_prices_in prices; reactive = reactive_prices_in figures },
      ))
      (ap (take n) blocks-are ∙ views (λ b. (block_in b).0) block_in (λ x. x.0) (λ b. refl) n bs)
      (ap (λ (x : List ℕ). map (less price_offset) (take n x)) prices-are ∙ parts (λ b. b.price) (less price_offset) block_in (λ x. x.1) (λ b. refl) n bs)

  row-padded : n ≤ 4 → ((k : ℕ) → n ≤ k → k < 4 → Empty (get_or bs k no_block)) → Padded (cell_row c)
  row-padded few rest = cell-padded c refl refl refl few (λ k m o. (
    ap (λ (x : List Kw). kw_at x k) caps-are ∙ ap (λ (x : Kw). x.0) (get_or-map (λ (b : Block). b.cap) bs k no_block) ∙ (rest k m o).0,
    ap (λ (x : List Kw). kw_at x k) floors-are ∙ ap (λ (x : Kw). x.0) (get_or-map (λ (b : Block). b.floor) bs k no_block) ∙ (rest k m o).1,
  ))

-- ---- a cell that was refused, and one that was read

module _ (e : ℕ) (s : List ℕ) (p : Place) where
  pub cell-off : {r : Got Cell} {f : Fault} → Exits r f → bad f ≡ got (cell e) s p → CellDone e s p r
  cell-off {r} h o = let x = exits r h refl in record { is = ap (seen cell_in) x ∙ o; padded = λ c q k. never (sym x ∙ k) }

  pub cell-done : (l : Limits) (b : Blocks) (prices : ReservePrices) (x : ReactiveCell) {p₁ p₂ p₃ z : Place} {c : Cell} → good (limits_in l) p₁ ≡ got limits s p
      → BlocksDone e s p₁ (good b p₂) → good (eight_prices_in prices) p₃ ≡ got reserve_prices s p₂ → good (reactive_pair x) z ≡ got (reactive e) s p₃
      → c ≡ cell_with l b prices x → CellDone e s p (good c z)
  cell-done l b prices x {p₂ = p₂} {z = z} t g k m j = let long = g.long b p₂ refl in let a = g.absent b p₂ refl in rw j (record {
    is = ap (λ (y : M.Cell × M.CellPrices). good y z) (row-holds l b prices x long) ∙ cell-5 e s p t g.is k m;
    padded = λ c q n. rw (← same n) (row-padded l b prices x long a.few a.rest);
  })

-- ---- the cells

-- i of n cells have been read, and stand in the first rows
pub record Rowing (e : ℕ) (s : List ℕ) (n : ℕ) (start : Place) (i : ℕ) (cells : List (List ℕ)) (p : Place) : Type 0 where
  pub long : length cells ≡ n
  pub storing : Storing (cell e) cell_pair s n start i cells p
  pub padded : (k : ℕ) → k < i → Padded (get_or cells k [])

-- what was refused was not read
gone : {T P : Type 0} (r : Result T Fault) (f : Fault) {q : T} → Exits r f → r ≡ Ok q → P
gone (Ok x) f h e = absurd h.1
gone (Err x) f h e = absurd (let z : ◌≡◌ {A = ℕ} 0 1 = cc in omega (arith, z))

pub rowing-none : {e : ℕ} {s : List ℕ} {start : Place} {cells : List (List ℕ)} → Rowing e s (length cells) start 0 cells start
rowing-none = record { long = refl; storing = storing-none (omega arith); padded = λ k h. absurd (omega arith) }

module _ {e : ℕ} {s : List ℕ} {n : ℕ} {start : Place} {i : ℕ} {cells : List (List ℕ)} {p : Place} (u : Rowing e s n start i cells p) where
  pub rowing_more : {c : Cell} {q : Place} {after : List (List ℕ)} → i < n → CellDone e s p (good c q) → after ≡ set cells i (cell_row c) → Rowing e s n start (i + 1) after q
  rowing_more {c = c} {q = q} h g a = rw a (record {
    long = simp length-set u.long;
    storing = storing-more u.storing (cell-natural e) h g.is;
    padded = λ k l. elim (dec_le (suc k) i) [
      | yes m ↦ rw (get_or-set_other cells i k (cell_row c) [] (λ z. omega (arith, z))) (u.padded k m)
      | no m ↦ let z : k ≡ i = omega arith in rw (z, get_or-set_same cells i (cell_row c) [] (omega (arith, u.long))) (g.padded c q refl)
    ];
  })

  pub rowing-off : {r : Result Place Fault} {f : Fault} → Exits r f → i < n → CellDone e s p (bad f) → CellsDone e s start r cells
  rowing-off {r} {f} h l g = record {
    is = told-exits _ r h (storing-off u.storing (cell-natural e) l g.is ∙ ap (λ (m : ℕ). got (list m (cell e)) s start) (sym u.long));
    padded = λ q k. gone r f h k;
  }

  pub rowing-done : n ≤ i → CellsDone e s start (Ok p) cells
  rowing-done h = record {
    is = ap (λ (l : List (List ℕ)). good (map cell_pair l) p) (sym (take_all n cells (omega (arith, u.long)))) ∙ storing-done u.storing h
        ∙ ap (λ (m : ℕ). got (list m (cell e)) s start) (sym u.long);
    padded = λ q o k l. u.padded k (omega (arith, u.long));
  }
