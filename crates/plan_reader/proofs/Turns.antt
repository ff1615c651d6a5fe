-- The turns of the two loops over a plan's settings: those of an interval, a device each, and the intervals.
use mathlib.Core.Path.{◌≡◌, refl, sym, ap, ap₂, ◌∙◌}
use mathlib.Core.List.{List, []}
use Prim.Native.Nat.{ℕ, ◌+◌, ◌*◌, ◌≤◌, ◌<◌}
use native.Mathlib.Omega.{arith}
use native.Mathlib.Nat.{zero-mul}
use native.Mathlib.Decide.{dec_le}
use lib.Dec.{eqb}
use mathlib.Core.Bool.{Bool, true, false}
use borrow.Author.Tests.{eqb-true, eqb-false}
use lib.ListN.{length, get_or, set, length-set}
use lib.Seq.{get_or-set_same, get_or-set_other}
use Rattle.std.specs.Prelude.{Result, Ok, Err}
use Rattle.layouts.specs.declared.Fault.{Fault}
use Rattle.layouts.specs.declared.Place.{Place}
use Rattle.layouts.specs.Layout.{list}
use Rattle.layouts.specs.Since.{has, since}
use Rattle.fields.specs.Since.{present-natural}
use Rattle.kilovars.specs.Reactive.{kvar_offset}
use Rattle.model.specs.Case as M
use Rattle.model.specs.Case.{no_flow}
use Rattle.model.specs.ByEdition.{setting, planned, flow}
use Rattle.numbers.specs.Rows.{rows}
use Rattle.row_places.specs.declared.Setting.{Setting}
use Rattle.row_places.specs.Figures.{at, setting_row, flow_of, flow_at, with_flow}
use Rattle.numbers.specs.Parts.{part-inside, place_inside}
use Rattle.records.specs.Views.{less, setting_in}
use Rattle.field_rows.specs.Each.{list-natural}
use Rattle.numbers.specs.Rows.{rows_same}
use Rattle.field_rows.specs.Going.{Reading, reading-none, reading-more, reading-off, reading-done}
use Rattle.fields.specs.Got.{good, bad, got, Natural, int-natural, then-natural}
use Rattle.fields.proofs.Chains.{then-off, then-late, then-on}
use Rattle.fields.proofs.Steps.{Exits, told-exits}
use Rattle.setting_words.specs.Settings.{setting_held}
use Rattle.setting_store.specs.Stored.{Put, Refused}
use Rattle.plan_reader.specs.Rows.{row_at, interval_at, SettingsDone, IntervalDone}
use Rattle.plan_header.specs.Plans.{PlanRoom}
use Rattle.setting_reader.proofs.Steps.{setting-natural}

pub flow-natural : (e : ℕ) → Natural (since e 5 no_flow flow)
flow-natural e = present-natural (has 5 e) no_flow (int-natural 18 100000)

settings-natural : (e n : ℕ) → Natural (list n (setting e))
settings-natural e n = list-natural n (setting-natural e)

pub interval-natural : (e n : ℕ) → Natural (planned e n)
interval-natural e n = then-natural (settings-natural e n) (λ _. flow-natural e)

-- rows of two devices or two intervals are two
apart : (m j i u t : ℕ) → u < m → t < m → (j ≡ i → u ≡ t → ⊥) → j * m + u ≡ i * m + t → ⊥
apart m j i u t h l n e =
    elim (dec_le (j + 1) i) [
      | yes a ↦ omega (arith, part-inside m j i (omega arith))
      | no a ↦ elim (dec_le (i + 1) j) [
        | yes b ↦ omega (arith, part-inside m i j (omega arith))
        | no b ↦ let k : j ≡ i = omega arith in n k (omega (arith, ap (λ (x : ℕ). x * m) k))
      ]
    ]

-- ---- an interval

-- i settings of interval t have been read from start on, they stand in their rows, and p is the next place; other rows are as they were
pub record Filling (e n m t : ℕ) (s : List ℕ) (start : Place) (old : List (List ℕ)) (i : ℕ) (new : List (List ℕ)) (p : Place) : Type 0 where
  pub long : length new ≡ n * m
  pub reading : Reading (setting e) s n start i (λ j. setting_in (row_at m new t j)) p
  pub others : (j u : ℕ) → u < m → (u ≡ t → ⊥) → row_at m new u j ≡ row_at m old u j
  pub first : 1 ≤ i → (x : Setting) × (row_at m new t 0 ≡ setting_row x)

module _ {e n m t : ℕ} {s : List ℕ} {start : Place} {old : List (List ℕ)} where
  pub filling-none : length old ≡ n * m → Filling e n m t s start old 0 old start
  filling-none l = record { long = l; reading = reading-none; others = λ j u h a. refl; first = λ h. absurd (omega arith) }

  module _ {i : ℕ} {new : List (List ℕ)} {p : Place} (f : Filling e n m t s start old i new p) (h : i < n) (l : t < m) where
    pub filling-fits : i * m + t < length new
    filling-fits = omega (arith, f.long, place_inside m i n t h l)

    module _ (after : List (List ℕ)) (d : (k : ℕ) → (k ≡ i * m + t → ⊥) → get_or after k [] ≡ get_or new k []) where
      same : (j u : ℕ) → u < m → (j ≡ i → u ≡ t → ⊥) → row_at m after u j ≡ row_at m new u j
      same j u a b = d (j * m + u) (apart m j i u t a l b)

      others_kept : (j u : ℕ) → u < m → (u ≡ t → ⊥) → row_at m after u j ≡ row_at m old u j
      others_kept j u a b = same j u a (λ _ y. b y) ∙ f.others j u a b

      -- the first device's row, stored now or before
      kept-first : (x : Setting) → get_or after (i * m + t) [] ≡ setting_row x → (y : Setting) × (row_at m after t 0 ≡ setting_row y)
      kept-first x z = elim (dec_le 1 i) [
        | yes a ↦ let y = f.first a in (y.0, same 0 t l (λ z _. omega arith) ∙ y.1)
        | no a ↦ (x, ap (λ (k : ℕ). get_or after k []) (let z : i ≡ 0 = omega arith in ap (λ (w : ℕ). w * m + t) (sym z)) ∙ z)
      ]

    module _ {after : List (List ℕ)} {q : Place} (z : Put (setting e) setting_held setting_row (i * m + t) s p new after q) where
      beside : (k : ℕ) → (k ≡ i * m + t → ⊥) → get_or after k [] ≡ get_or new k []
      beside k n = ap (λ (r : List (List ℕ)). get_or r k []) z.stored ∙ get_or-set_other new (i * m + t) k (setting_row z.figures) [] n

      put : get_or after (i * m + t) [] ≡ setting_row z.figures
      put = ap (λ (r : List (List ℕ)). get_or r (i * m + t) []) z.stored ∙ get_or-set_same new (i * m + t) (setting_row z.figures) [] filling-fits

      pub filling-more : Filling e n m t s start old (i + 1) after q
      filling-more = record {
        long = ap length z.stored ∙ length-set new (i * m + t) (setting_row z.figures) ∙ f.long;
        reading = reading-more f.reading (setting-natural e) h z.reads (λ j a. ap setting_in (same after beside j t l (λ y _. omega arith))) (ap setting_in put);
        others = others_kept after beside;
        first = λ _. kept-first after beside z.figures put;
      }

    pub filling-off : {y : Fault} {after : List (List ℕ)} (r : Result Place Fault) → Exits r y → Refused (setting e) setting_row (i * m + t) s p new after y → SettingsDone e n m t s start old after r
    filling-off {y} r x z = record {
      reads = told-exits _ r x (reading-off f.reading (setting-natural e) h z.reads);
      others = others_kept _ (λ k n. ap (λ (r : List (List ℕ)). get_or r k []) z.stored ∙ get_or-set_other new (i * m + t) k (setting_row z.figures) [] n);
      first = λ q a. absurd (rw a at x.1);
    }

  pub filling-done : {i : ℕ} {new : List (List ℕ)} {p : Place} → Filling e n m t s start old i new p → 1 ≤ n → n ≤ i → SettingsDone e n m t s start old new (Ok p)
  filling-done f l h = record { reads = reading-done f.reading h; others = f.others; first = λ q a. f.first (omega arith) }

-- ---- the flow behind them

module _ (r : List ℕ) (x : ℕ) where
  kept_at : (k : ℕ) → (k ≡ 13 → ⊥) → at (with_flow r x) k ≡ at r k
  kept_at k h = get_or-set_other r 13 k x 0 h

  -- the row's other figures stay
  pub setting_kept : setting_in (with_flow r x) ≡ setting_in r
  setting_kept = rw (
    kept_at 0 (λ e. omega arith),
    kept_at 1 (λ e. omega arith),
    kept_at 2 (λ e. omega arith),
    kept_at 3 (λ e. omega arith),
    kept_at 4 (λ e. omega arith),
    kept_at 5 (λ e. omega arith),
    kept_at 6 (λ e. omega arith),
    kept_at 7 (λ e. omega arith),
    kept_at 8 (λ e. omega arith),
    kept_at 9 (λ e. omega arith),
    kept_at 10 (λ e. omega arith),
    kept_at 11 (λ e. omega arith),
    kept_at 12 (λ e. omega arith),
  )
      refl

-- the flow of a row that is stored alone, with another
flow-put : (y : Setting) (x : ℕ) → flow_of (with_flow (setting_row y) x) ≡ x
flow-put y x = refl

-- the first device's row is there
pub flow-fits : {n m t k : ℕ} {old : List (List ℕ)} → PlanRoom n m old → t < m → k ≡ length old → t < k
flow-fits {n} {m} {t} room l e = omega (arith, room.full, place_inside m 0 n t room.some l, zero-mul m)

module _ {e n m t : ℕ} {s : List ℕ} {p : Place} {old new : List (List ℕ)} where
  -- settings that are refused
  pub interval-off : {f : Fault} (r : Result Place Fault) → Exits r f → SettingsDone e n m t s p old new (Err f) → IntervalDone e n m t s p old new r
  interval-off r x d = record { reads = told-exits _ r x (then-off (settings-natural e n) _ s p d.reads); others = d.others }

  module _ {q : Place} (d : SettingsDone e n m t s p old new (Ok q)) where
    -- a flow that is refused
    pub flow-off : {f : Fault} (r : Result Place Fault) → Exits r f → bad f ≡ got (since e 5 no_flow flow) s q → IntervalDone e n m t s p old new r
    flow-off r x g = record { reads = told-exits _ r x (then-late (settings-natural e n) _ s p (flow-natural e) d.reads g); others = d.others }

    -- a flow that is flowed
    module _ (x : ℕ) {z : Place} (room : PlanRoom n m old) (l : t < m) (long : length new ≡ length old) (g : good (less kvar_offset x) z ≡ got (since e 5 no_flow flow) s q) where
      abbrev flowed : List (List ℕ)
      flowed = set new t (with_flow (get_or new t []) x)

      inside : t < length new
      inside = flow-fits room l long

      first-row : row_at m new t 0 ≡ get_or new t []
      first-row = ap (λ (k : ℕ). get_or new k []) (omega (arith, zero-mul m))

      row_kept : (i u : ℕ) → setting_in (row_at m flowed u i) ≡ setting_in (row_at m new u i)
      row_kept i u = go (eqb (i * m + u) t) refl
        where
          go : (b : Bool) → eqb (i * m + u) t ≡ b → setting_in (row_at m flowed u i) ≡ setting_in (row_at m new u i)
          go true a = rw (eqb-true (i * m + u) t a) (ap setting_in (get_or-set_same new t (with_flow (get_or new t []) x) [] inside) ∙ setting_kept (get_or new t []) x)
          go false a = ap setting_in (get_or-set_other new t (i * m + u) (with_flow (get_or new t []) x) [] (eqb-false (i * m + u) t a))

      flow-stored : flow_at flowed t ≡ x
      flow-stored =
          let y = d.first q refl in
          ap flow_of (get_or-set_same new t (with_flow (get_or new t []) x) [] inside) ∙ ap (λ (r : List ℕ). flow_of (with_flow r x)) (sym first-row ∙ y.1) ∙ flow-put y.0 x

      pub flow-done : {after : List (List ℕ)} → after ≡ flowed → IntervalDone e n m t s p old after (Ok z)
      flow-done k = rw k (record {
        reads = ap₂ (λ (a : List M.Setting) (f : ℕ). good (a, less kvar_offset f) z) (rows_same n (λ i _. row_kept i t)) flow-stored
            ∙ then-on (settings-natural e n) _ s p (flow-natural e) d.reads g;
        others = λ i u a c. get_or-set_other new t (i * m + u) (with_flow (get_or new t []) x) [] (λ v. other i u a c v) ∙ d.others i u a c;
      })
        where
          other : (i u : ℕ) → u < m → (u ≡ t → ⊥) → i * m + u ≡ t → ⊥
          other i u a c v = apart m i 0 u t a l (λ _ y. c y) (v ∙ omega (arith, zero-mul m))

-- ---- the intervals

-- t intervals have been read from start on, they stand in their rows, and p is next
pub record Planning (e n m : ℕ) (s : List ℕ) (start : Place) (t : ℕ) (new : List (List ℕ)) (p : Place) : Type 0 where
  pub long : length new ≡ n * m
  pub reading : Reading (planned e n) s m start t (interval_at n m new) p

module _ {e n m : ℕ} {s : List ℕ} {start : Place} where
  pub planning-none : {old : List (List ℕ)} → length old ≡ n * m → Planning e n m s start 0 old start
  planning-none l = record { long = l; reading = reading-none }

  module _ {t : ℕ} {old : List (List ℕ)} {p : Place} (f : Planning e n m s start t old p) (h : t < m) {new : List (List ℕ)} where
    -- another interval is as it was
    interval-same : {q : Place} → IntervalDone e n m t s p old new (Ok q) → (u : ℕ) → u < m → (u ≡ t → ⊥) → interval_at n m new u ≡ interval_at n m old u
    interval-same d u a b =
        let z : 0 * m + u ≡ u = omega (arith, zero-mul m) in
        let r : get_or new u [] ≡ get_or old u [] = ap (λ (k : ℕ). get_or new k []) (sym z) ∙ d.others 0 u a b ∙ ap (λ (k : ℕ). get_or old k []) z in
        ap₂ (λ (x : List M.Setting) (y : List ℕ). (x, less kvar_offset (flow_of y))) (rows_same n (λ j _. ap setting_in (d.others j u a b))) r

    pub planning-more : {q : Place} → length new ≡ length old → IntervalDone e n m t s p old new (Ok q) → Planning e n m s start (t + 1) new q
    planning-more l d = record {
      long = l ∙ f.long;
      reading = reading-more f.reading (interval-natural e n) h d.reads (λ u a. interval-same d u (omega arith) (λ z. omega arith)) refl;
    }

    pub planning-off : {y : Fault} → IntervalDone e n m t s p old new (Err y) → bad y ≡ got (list m (planned e n)) s start
    planning-off d = reading-off f.reading (interval-natural e n) h d.reads

  pub planning-done : {t : ℕ} {new : List (List ℕ)} {p : Place} → Planning e n m s start t new p → m ≤ t → good (rows (interval_at n m new) m) p ≡ got (list m (planned e n)) s start
  planning-done f h = reading-done f.reading h
