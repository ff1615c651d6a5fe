-- A record put into a row is what the row shows.
use Rattle.std.specs.Prelude.{◌≡◌, refl, List, [], ◌∷◌, map, ℕ, ◌≤◌, ◌<◌, length, get_or, take}
use Rattle.std.proofs.Common.{ap, ◌∙◌}
use Rattle.numbers.specs.Rows.{tabbed}
use Rattle.model.specs.Case as M
use Rattle.kilowatts.specs.declared.Kw.{Kw}
use Rattle.row_places.specs.declared.Cell.{Cell}
use Rattle.row_places.specs.Figures.{kw_at, cell_of, cell_row}
use Rattle.records.specs.Views.{cell_said, cell_prices_said, cell_in, cell_prices_in, Padded}

-- four figures, one by one
pub four : {A : Type 0} (l : List A) (z : A) → length l ≡ 4 → get_or l 0 z ∷ get_or l 1 z ∷ get_or l 2 z ∷ get_or l 3 z ∷ [] ≡ l
four l z h = tabbed z 4 l h

module _ (c : Cell) (caps : length c.caps ≡ 4) (floors : length c.floors ≡ 4) (prices : length c.prices ≡ 4) where
  pub cell-back : cell_of (cell_row c) ≡ c
  cell-back = with-same (four c.caps (record { 0 = 0 }) caps) (four c.floors (record { 0 = 0 }) floors) (four c.prices 0 prices)
    where
      -- the same cell with these arrays
      with : List Kw → List Kw → List ℕ → Cell
      with x f y = record { status = c.status; pmin = c.pmin; pmax = c.pmax; blocks = c.blocks; caps = x; floors = f; prices = y; reserves = c.reserves; reactive = c.reactive }

      with-same : {x f : List Kw} {y : List ℕ} → x ≡ c.caps → f ≡ c.floors → y ≡ c.prices → with x f y ≡ c
      with-same a b d = rw (a, b, d) refl

  pub cell-stored : cell_in (cell_row c) ≡ cell_said c
  cell-stored = ap cell_said cell-back

  pub cell-prices-stored : cell_prices_in (cell_row c) ≡ cell_prices_said c
  cell-prices-stored = ap cell_prices_said cell-back

  pub cell-padded : c.blocks ≤ 4 → ((k : ℕ) → c.blocks ≤ k → k < 4 → (kw_at c.caps k ≡ 0) × (kw_at c.floors k ≡ 0)) → Padded (cell_row c)
  cell-padded few absent = record {
    few = few;
    absent = λ k l m. ap (λ (x : Cell). kw_at x.caps k) cell-back ∙ (absent k l m).0;
    no-floor = λ k l m. ap (λ (x : Cell). kw_at x.floors k) cell-back ∙ (absent k l m).1;
  }
