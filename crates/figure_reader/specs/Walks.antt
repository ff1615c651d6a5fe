-- How reading figures into a table goes on, width by width, and how its steps follow one another.
use Rattle.std.specs.Prelude.{◌≡◌, Bool, true, false, List, [], ◌∷◌, ◌++◌, ℕ, zero, suc, ◌+◌, ◌-◌, ◌*◌, ◌^◌, ◌≤◌, leb, set}
use Rattle.std.proofs.Math.Path.{refl, ap}
use Rattle.std.proofs.Common.{sym, ◌∙◌, append-nil, append_assoc, arith, add-one}
use Rattle.std.proofs.Math.ListN.{length, length-set}
use Rattle.std.proofs.lemmas.List.Edits.{sets}
use borrow.Author.Tests.{leb-true}
use Rattle.bits.specs.Bits.{field_at, reach, read_field}
use Rattle.bits.specs.Pick.{pick}
use Rattle.bits.specs.declared.Cursor.{Cursor}
use Rattle.bits.specs.declared.Field.TheVariants.{Value, Cut}
use Rattle.completion_reading.specs.Flat.{times, Walked, cut_at, read_to, behind, walked}
use Rattle.figure_reader.specs.declared.Walk.{Walk}

-- where a reading stands, with its table
pub record State : Type 0 where
  pub at : ℕ
  pub count : ℕ
  pub cut : Bool
  pub table : List ℕ

abbrev pub state_of : Walk → List ℕ → State
state_of w table = record { at = w.at; count = w.count; cut = w.cut; table = table }

-- one field more: stored where the table has room for it; a reading that was cut stands
abbrev pub stepped : List ℕ → State → ℕ → State
stepped s x w = pick x.cut x (pick (leb (x.at + w) (8 * reach s))
    (record { at = x.at + w; count = x.count + 1; cut = false; table = set x.table x.count (field_at s x.at w) })
    (record { at = x.at; count = x.count; cut = true; table = x.table }))

unfoldable pub runs : List ℕ → State → List ℕ → State
runs s x [] = x
runs s x (w ∷ ws) = runs s (stepped s x w) ws

pub runs_append : (s : List ℕ) (x : State) (ws vs : List ℕ) → runs s x (ws ++ vs) ≡ runs s (runs s x ws) vs
unfolding runs
runs_append s x [] vs = refl
runs_append s x (w ∷ ws) vs = runs_append s (stepped s x w) ws vs

-- what the code does by widths: it never leaves the message, and has no more figures than bits
pub record Runs (s : List ℕ) (w : Walk) (table : List ℕ) (ws : List ℕ) (r : Walk) (after : List ℕ) : Type 0 where
  pub same : state_of r after ≡ runs s (state_of w table) ws
  pub few : r.count ≤ r.at
  pub inside : w.at ≤ 8 * reach s → r.at ≤ 8 * reach s
  pub long : length after ≡ length table

-- ---- one field

field-there : (s : List ℕ) (at w : ℕ) {v : ℕ} {c : Cursor} → read_field s at w ≡ Value v c → (leb (at + w) (8 * reach s) ≡ true) × ((v ≡ field_at s at w) × (c.at ≡ at + w))
unfolding read_field
field-there s at w {v} {c} e = go (leb (at + w) (8 * reach s)) refl e
  where
    go : (b : Bool) → leb (at + w) (8 * reach s) ≡ b → pick b (Value (field_at s at w) (record { at = at + w })) (Cut at) ≡ Value v c
        → (leb (at + w) (8 * reach s) ≡ true) × ((v ≡ field_at s at w) × (c.at ≡ at + w))
    go true t e =
        let k : field_at s at w ≡ v = cc in
        let m : record { at = at + w } ≡ c = cc in
        (t, (sym k, sym (ap (λ (d : Cursor). d.at) m)))
    go false t e = absurd (let z : ◌≡◌ {A = ℕ} 0 1 = cc in omega arith)

field-not : (s : List ℕ) (at w : ℕ) {b : ℕ} → read_field s at w ≡ Cut b → leb (at + w) (8 * reach s) ≡ false
unfolding read_field
field-not s at w {b} e = go (leb (at + w) (8 * reach s)) refl e
  where
    go : (x : Bool) → leb (at + w) (8 * reach s) ≡ x → pick x (Value (field_at s at w) (record { at = at + w })) (Cut at) ≡ Cut b → leb (at + w) (8 * reach s) ≡ false
    go true t e = absurd (let z : ◌≡◌ {A = ℕ} 0 1 = cc in omega arith)
    go false t e = t

-- a field that is there ends within 64 bits
pub field-ends : (s : List ℕ) (at w : ℕ) {v : ℕ} {c : Cursor} → read_field s at w ≡ Value v c → at + w ≤ 8 * (2 ^ 61 - 1)
unfolding reach
field-ends s at w e = omega (arith, leb-true (at + w) (8 * reach s) (field-there s at w e).0)

module _ (s : List ℕ) (w : Walk) (width : ℕ) {table : List ℕ} (few : w.count ≤ w.at) where
  pub stands : w.cut ≡ true → Runs s w table (width ∷ []) w table
  unfolding runs
  stands t = record { same = rw t refl; few = few; inside = λ h. h; long = refl }

  pub cuts : {b : ℕ} → w.cut ≡ false → read_field s w.at width ≡ Cut b → Runs s w table (width ∷ []) (record { at = w.at; count = w.count; cut = true }) table
  unfolding runs
  cuts t e = record { same = rw (t, field-not s w.at width e) refl; few = few; inside = λ h. h; long = refl }

  pub steps : {v : ℕ} {c : Cursor} {after : List ℕ} → 1 ≤ width → w.cut ≡ false → read_field s w.at width ≡ Value v c → after ≡ set table w.count v
      → Runs s w table (width ∷ []) (record { at = c.at; count = w.count + 1; cut = false }) after
  unfolding runs
  steps some t e f =
      let k = field-there s w.at width e in
      record {
        same = rw (t, k.0, k.1.1, f, k.1.0) refl;
        few = omega (arith, k.1.1);
        inside = λ h. omega (arith, k.1.1, leb-true (w.at + width) (8 * reach s) k.0);
        long = ap length f ∙ length-set table w.count _;
      }

-- ---- one behind the other

pub runs_then : {s : List ℕ} {w r z : Walk} {a b c : List ℕ} {ws vs : List ℕ} → Runs s w a ws r b → Runs s r b vs z c → Runs s w a (ws ++ vs) z c
runs_then {s} {w} {r} {z} {a} {b} {c} {ws} {vs} f g = record {
  same = g.same ∙ ap (λ (x : State). runs s x vs) f.same ∙ sym (runs_append s (state_of w a) ws vs);
  few = g.few;
  inside = λ h. g.inside (f.inside h);
  long = g.long ∙ f.long;
}

pub runs_none : {s : List ℕ} {w : Walk} {a : List ℕ} → w.count ≤ w.at → Runs s w a [] w a
unfolding runs
runs_none h = record { same = refl; few = h; inside = λ k. k; long = refl }

pub runs_as : {s : List ℕ} {w r : Walk} {a b : List ℕ} {ws vs : List ℕ} → ws ≡ vs → Runs s w a ws r b → Runs s w a vs r b
runs_as e f = rw (sym e) f

-- ---- so many of them

pub times-end : (n : ℕ) (ws : List ℕ) → times n ws ++ ws ≡ ws ++ times n ws
unfolding times
times-end zero ws = sym (append-nil ws)
times-end (suc n) ws = append_assoc ws (times n ws) ws ∙ ap (λ (vs : List ℕ). ws ++ vs) (times-end n ws)

pub times_none : (ws : List ℕ) {s : List ℕ} {w : Walk} {a : List ℕ} → w.count ≤ w.at → Runs s w a (times 0 ws) w a
unfolding times
times_none ws h = runs_none h

pub times_more : (k : ℕ) (ws : List ℕ) {s : List ℕ} {w r z : Walk} {a b c : List ℕ} → Runs s w a (times k ws) r b → Runs s r b ws z c → Runs s w a (times (k + 1) ws) z c
unfolding times
times_more k ws f g = rw (add-one k) (runs_as (times-end k ws) (runs_then f g))

pub times-done : (k n : ℕ) (ws : List ℕ) {s : List ℕ} {w r : Walk} {a b : List ℕ} → k ≤ n → n ≤ k → Runs s w a (times k ws) r b → Runs s w a (times n ws) r b
times-done k n ws h i m = let e : k ≡ n = omega arith in rw (sym e) m

-- ---- the whole of a reading, by what the widths give

cut_stands : (s : List ℕ) (at count : ℕ) (table ws : List ℕ) → runs s (record { at = at; count = count; cut = true; table = table }) ws ≡ record { at = at; count = count; cut = true; table = table }
unfolding runs
cut_stands s at count table [] = refl
cut_stands s at count table (w ∷ ws) = cut_stands s at count table ws

-- a state that stands before a field
abbrev before : ℕ → ℕ → List ℕ → State
before at count table = record { at = at; count = count; cut = false; table = table }

pub run-cut : (s : List ℕ) (at count : ℕ) (table ws : List ℕ) {b : ℕ} → walked s at ws ≡ cut_at b → ((runs s (before at count table) ws).at ≡ b) × ((runs s (before at count table) ws).cut ≡ true)
unfolding runs walked
run-cut s at count table [] e = absurd (let z : ◌≡◌ {A = ℕ} 0 1 = cc in omega arith)
run-cut s at count table (w ∷ ws) {b} e = go (λ t. run-cut s (at + w) (count + 1) t ws) (leb (at + w) (8 * reach s)) refl e
  where
    inner : (r : Walked) → behind (field_at s at w ∷ []) r ≡ cut_at b → r ≡ cut_at b
    inner (cut_at c) e = let k : c ≡ b = cc in ap cut_at k
    inner (read_to xs to) e = absurd (let z : ◌≡◌ {A = ℕ} 0 1 = cc in omega arith)

    go : ((t : List ℕ) → walked s (at + w) ws ≡ cut_at b → ((runs s (before (at + w) (count + 1) t) ws).at ≡ b) × ((runs s (before (at + w) (count + 1) t) ws).cut ≡ true))
        → (x : Bool) → leb (at + w) (8 * reach s) ≡ x → pick x (behind (field_at s at w ∷ []) (walked s (at + w) ws)) (cut_at at) ≡ cut_at b
        → ((runs s (stepped s (before at count table) w) ws).at ≡ b) × ((runs s (stepped s (before at count table) w) ws).cut ≡ true)
    go ih true t e = rw t (ih _ (inner (walked s (at + w) ws) e))
    go ih false t e =
        let k : at ≡ b = cc in
        let m = cut_stands s at count table ws in
        rw t (ap (λ (y : State). y.at) m ∙ k, ap (λ (y : State). y.cut) m)

pub run-read : (s : List ℕ) (at count : ℕ) (table ws vs : List ℕ) (to : ℕ) → walked s at ws ≡ read_to vs to → runs s (before at count table) ws ≡ before to (count + length vs) (sets table count vs)
unfolding runs walked
run-read s at count table [] vs to e =
    let k : [] ≡ vs = cc in
    let m : at ≡ to = cc in
    rw (sym k, sym m) (ap (λ (n : ℕ). before at n table) (omega arith))
run-read s at count table (w ∷ ws) vs to e = go (λ xs. run-read s (at + w) (count + 1) (set table count (field_at s at w)) ws xs to) (leb (at + w) (8 * reach s)) refl e
  where
    inner : ((xs : List ℕ) → walked s (at + w) ws ≡ read_to xs to
        → runs s (before (at + w) (count + 1) (set table count (field_at s at w))) ws ≡ before to (count + 1 + length xs) (sets (set table count (field_at s at w)) (count + 1) xs))
        → (r : Walked) → walked s (at + w) ws ≡ r → behind (field_at s at w ∷ []) r ≡ read_to vs to
        → runs s (before (at + w) (count + 1) (set table count (field_at s at w))) ws ≡ before to (count + length vs) (sets table count vs)
    inner ih (cut_at c) h e = absurd (let z : ◌≡◌ {A = ℕ} 0 1 = cc in omega arith)
    inner ih (read_to xs o) h e =
        let k : (field_at s at w ∷ xs) ≡ vs = cc in
        let m : o ≡ to = cc in
        let n : count + 1 + length xs ≡ count + suc (length xs) = omega arith in
        rw (sym k) (ih xs (h ∙ ap (read_to xs) m)
        ∙ ap (λ (i : ℕ). before to i (sets (set table count (field_at s at w)) (count + 1) xs)) n
        ∙ ap (λ (i : ℕ). before to (count + suc (length xs)) (sets (set table count (field_at s at w)) i xs)) (add-one count))

    go : ((xs : List ℕ) → walked s (at + w) ws ≡ read_to xs to
        → runs s (before (at + w) (count + 1) (set table count (field_at s at w))) ws ≡ before to (count + 1 + length xs) (sets (set table count (field_at s at w)) (count + 1) xs))
        → (x : Bool) → leb (at + w) (8 * reach s) ≡ x → pick x (behind (field_at s at w ∷ []) (walked s (at + w) ws)) (cut_at at) ≡ read_to vs to
        → runs s (stepped s (before at count table) w) ws ≡ before to (count + length vs) (sets table count vs)
    go ih true t e = rw t (inner ih (walked s (at + w) ws) refl e)
    go ih false t e = absurd (let z : ◌≡◌ {A = ℕ} 0 1 = cc in omega arith)
