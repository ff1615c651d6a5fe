-- The turns of a loop that reads records into rows, and the rest of each into its part of a table.
use mathlib.Core.Path.{◌≡◌, refl, ap₂, ◌∙◌}
use mathlib.Core.List.{List, [], ◌++◌}
use Prim.Native.Nat.{ℕ, ◌+◌, ◌-◌, ◌*◌, ◌≤◌, ◌<◌}
use native.Mathlib.Omega.{arith}
use lib.ListN.{length, get_or, set, take, drop, length-set, length-take, length-drop}
use lib.Seq.{get_or-set_same, get_or-set_other}
use Rattle.layouts.specs.declared.Fault.{Fault}
use Rattle.layouts.specs.declared.Place.{Place}
use Rattle.layouts.specs.Layout.{Layout, list}
use Rattle.numbers.specs.Rows.{rows}
use Rattle.numbers.specs.Parts.{part, part-inside, patched-long, patched_same, patched-ahead}
use Rattle.fields.specs.Got.{Got, good, bad, got, Natural}
use Rattle.field_rows.specs.Going.{Reading, reading-none, reading-more, reading-off, reading-done}
use Rattle.zone_table.specs.Tables.{Fits}

-- what row k and its part of m hold
abbrev pub seen : {A : Type 0} → (List ℕ → List (List ℕ) → A) → ℕ → (heads table : List (List ℕ)) → ℕ → A
seen view m heads table k = view (get_or heads k []) (part m k table)

-- of the layout for m intervals n are read, from start on; each is seen in its row and its part of m
module _ {A : Type 0} (layout : ℕ → Layout A) (view : List ℕ → List (List ℕ) → A) (s : List ℕ) (n m : ℕ) (start : Place) (heads₀ table₀ : List (List ℕ)) where
  -- i of them have been read, and the next part begins at a
  pub record Parting (i a : ℕ) (heads table : List (List ℕ)) (p : Place) : Type 0 where
    pub at : a ≡ i * m
    pub heads-long : length heads ≡ length heads₀
    pub table-long : length table ≡ length table₀
    pub reading : Reading (layout m) s n start i (seen view m heads table) p

pub parting-none : {A : Type 0} {layout : ℕ → Layout A} {view : List ℕ → List (List ℕ) → A} {s : List ℕ} {n m : ℕ} {start : Place} (heads table : List (List ℕ))
    → Parting layout view s n m start heads table 0 0 heads table start
parting-none heads table = record { at = omega arith; heads-long = refl; table-long = refl; reading = reading-none }

module _ {A : Type 0} {layout : ℕ → Layout A} {view : List ℕ → List (List ℕ) → A} {s : List ℕ} {n m : ℕ} {start : Place} {heads₀ table₀ : List (List ℕ)}
    {i a : ℕ} {heads table : List (List ℕ)} {p : Place} (u : Parting layout view s n m start heads₀ table₀ i a heads table p) where
  module _ (fits : Fits n m heads₀ table₀) (h : i < n) where
    -- every bound of a turn
    pub inside : a + m ≤ length table
    inside = omega (arith, part-inside m i n h, fits.parts, u.table-long, u.at)

    pub inside-heads : i < length heads
    inside-heads = omega (arith, fits.room, u.heads-long)

    pub own-long : (own : List (List ℕ)) → length own ≡ length (take (a + m - a) (drop a table)) → length own ≡ m
    own-long own k = k ∙ simp (length-take, length-drop) (omega (arith, inside))

    pub stored-long : (own : List (List ℕ)) → length own ≡ length (take (a + m - a) (drop a table)) → length (take a table ++ (own ++ drop (a + m - a) (drop a table))) ≡ length table₀
    stored-long own k = patched-long [] table own a (a + m - a) (own-long own k ∙ omega arith) (omega (arith, inside)) ∙ u.table-long

    module _ (natural : Natural (layout m)) (row : List ℕ) (own : List (List ℕ)) (k : length own ≡ length (take (a + m - a) (drop a table))) where
      pub parting-more : {next : List (List ℕ)} {q : Place} → good (view row own) q ≡ got (layout (length own)) s p → next ≡ set heads i row
          → Parting layout view s n m start heads₀ table₀ (i + 1) (a + m) next (take a table ++ (own ++ drop (a + m - a) (drop a table))) q
      parting-more {q = q} e g =
          let here : good (view row own) q ≡ got (layout m) s p = rw (own-long own k) at e in
          let wide : a + m - a ≡ m = omega arith in
          let long : length own ≡ m = own-long own k in
          let fit : i * m + m ≤ length table = omega (arith, inside, u.at) in
          rw (g, wide, u.at) (record {
            at = omega arith;
            heads-long = length-set heads i row ∙ u.heads-long;
            table-long = patched-long [] table own (i * m) m long fit ∙ u.table-long;
            reading = reading-more u.reading natural h here
                (λ k l. ap₂ view (get_or-set_other heads i k row [] (λ e. omega (arith, e))) (patched-ahead [] table own (i * m) m long fit (k * m) m (part-inside m k i l)))
                (ap₂ view (get_or-set_same heads i row [] inside-heads) (patched_same [] table own (i * m) m long fit));
          })

    pub parting-off : Natural (layout m) → (own : List (List ℕ)) → length own ≡ length (take (a + m - a) (drop a table)) → {f : Fault} → bad f ≡ got (layout (length own)) s p
        → bad f ≡ got (list n (layout m)) s start
    parting-off natural own k {f} e = let here : bad f ≡ got (layout m) s p = rw (own-long own k) at e in reading-off u.reading natural h here

  pub parting-done : n ≤ i → good (rows (seen view m heads table) n) p ≡ got (list n (layout m)) s start
  parting-done h = reading-done u.reading h
