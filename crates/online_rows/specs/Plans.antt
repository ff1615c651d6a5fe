-- The plan in rows with one online power put: the replaced plan.
use Rattle.std.specs.Prelude.{◌≡◌, refl, ℕ, suc, ◌+◌, ◌*◌, ◌≤◌, ◌<◌, length, get_or, set, ℤ}
use Rattle.std.proofs.Common.{sym, ◌∙◌, arith, mul-le-mul, le_refl, length-set, get_or-set_same, get_or-set_other, ext_get_or}
use Rattle.std.proofs.Math.Path.{ap, ap₂}
use mathlib.Core.List.{List, [], ◌∷◌}
use Rattle.std.proofs.Math.Decide.{ℕ_discrete, dec_le}
use Rattle.numbers.specs.Rows.{rows, rows_long, rows_at, rows_same}
use Rattle.numbers.specs.Parts.{part, part_at, place_inside}
use Rattle.model.specs.Case as M
use Rattle.model.specs.Case.{System, Plan, no_setting}
use Rattle.kilovars.specs.Reactive.{kvar_offset}
use Rattle.ranges.specs.Ranges.{SettingRange}
use Rattle.row_places.specs.Figures.{at, flow_at, flow_of}
use Rattle.records.specs.Views.{less, setting_in, plan_in, PlanRows}
use Rattle.model.specs.Forced.{setting}
use Rattle.mending.specs.Mending.{Change, with_online, replaced}
use Rattle.mending_theorems.specs.Replaced.{Has}
use Rattle.mending_theorems.proofs.Replaced.{replaced-back}

-- a setting's row with another online power
abbrev pub with_online_row : List ℕ → ℕ → List ℕ
with_online_row r v =
    at r 0 ∷ v
    ∷ at r 2 ∷ at r 3 ∷ at r 4 ∷ at r 5 ∷ at r 6 ∷ at r 7 ∷ at r 8 ∷ at r 9
    ∷ at r 10 ∷ at r 11 ∷ at r 12 ∷ at r 13 ∷ []

module _ (r : List ℕ) (v : ℕ) where
  setting-with : setting_in (with_online_row r v) ≡ with_online (setting_in r) v
  setting-with = refl

  flow-with : flow_of (with_online_row r v) ≡ flow_of r
  flow-with = refl

-- a list of rows as a function gives them, with one set
set-rows : {A : Type 0} (z : A) (f g : ℕ → A) (n k : ℕ) → k < n → ((j : ℕ) → j < n → (j ≡ k → ⊥) → g j ≡ f j) → rows g n ≡ set (rows f n) k (g k)
set-rows {A} z f g n k l h = ext_get_or z (rows g n) (set (rows f n) k (g k)) (rows_long g n ∙ sym (length-set (rows f n) k (g k) ∙ rows_long f n))
    (λ j m. go j (omega (arith, rows_long g n)) (ℕ_discrete j k))
  where
    go : (j : ℕ) → j < n → Dec (j ≡ k) → get_or (rows g n) j z ≡ get_or (set (rows f n) k (g k)) j z
    go j m (yes e) = rw e (rows_at g z n k l ∙ sym (get_or-set_same (rows f n) k (g k) z (omega (arith, rows_long f n))))
    go j m (no e) = rows_at g z n j m ∙ h j m e ∙ sym (get_or-set_other (rows f n) k j (g k) z e ∙ rows_at f z n j m)

-- places of a table are apart
apart-places : (m i j t u : ℕ) → t < m → u < m → j * m + u ≡ i * m + t → (j ≡ i) × (u ≡ t)
apart-places m i j t u h k e = go (dec_le i j) (dec_le j i)
  where
    go : Dec (i ≤ j) → Dec (j ≤ i) → (j ≡ i) × (u ≡ t)
    go (yes a) (yes b) = let s : j ≡ i = omega arith in let v : j * m ≡ i * m = ap (λ (x : ℕ). x * m) s in (s, omega arith)
    go (yes a) (no b) = let b' : suc i ≤ j = omega arith in let v : suc i * m ≤ j * m = mul-le-mul b' (le_refl m) in absurd (omega arith)
    go (no a) b = let b' : suc j ≤ i = omega arith in let v : suc j * m ≤ i * m = mul-le-mul b' (le_refl m) in absurd (omega arith)

module _ (n m : ℕ) (settings : List (List ℕ)) (i t v : ℕ) (l : i < n) (h : t < m) (full : length settings ≡ n * m) where
  abbrev k₀ : ℕ
  k₀ = i * m + t

  abbrev row : List ℕ
  row = get_or settings k₀ []

  abbrev put : List (List ℕ)
  put = set settings k₀ (with_online_row row v)

  inside : k₀ < length settings
  inside = omega (arith, place_inside m i n t l h)

  abbrev at_old : ℕ → ℕ → M.Setting
  at_old u j = setting_in (get_or (part m j settings) u [])

  abbrev at_new : ℕ → ℕ → M.Setting
  at_new u j = setting_in (get_or (part m j put) u [])

  own : at_new t i ≡ with_online (at_old t i) v
  own = ap setting_in (part_at [] m i put t h ∙ get_or-set_same settings k₀ (with_online_row row v) [] inside) ∙ setting-with row v ∙ ap (λ (r : List ℕ). with_online (setting_in r) v)
      (sym (part_at [] m i settings t h))

  other : (u j : ℕ) → u < m → ((j ≡ i) × (u ≡ t) → ⊥) → at_new u j ≡ at_old u j
  other u j b e = ap setting_in (part_at [] m j put u b ∙ get_or-set_other settings k₀ (j * m + u) (with_online_row row v) [] (λ g. e (apart-places m i j t u h b g)) ∙ sym (part_at [] m j settings u b))

  flow-is : (u : ℕ) → flow_at put u ≡ flow_at settings u
  flow-is u = go (ℕ_discrete u k₀)
    where
      go : Dec (u ≡ k₀) → flow_at put u ≡ flow_at settings u
      go (yes e) = rw e (ap flow_of (get_or-set_same settings k₀ (with_online_row row v) [] inside) ∙ flow-with row v)
      go (no e) = ap flow_of (get_or-set_other settings k₀ u (with_online_row row v) [] e)

  abbrev c : Change
  c = record { interval = t; device = i; power = v }

  abbrev old_row : ℕ → List M.Setting
  old_row u = rows (at_old u) n

  abbrev new_row : ℕ → List M.Setting
  new_row u = rows (at_new u) n

  row_at : get_or (rows old_row m) t [] ≡ old_row t
  row_at = rows_at old_row [] m t h

  row_put : new_row t ≡ set (old_row t) i (with_online (at_old t i) v)
  row_put = set-rows no_setting (at_old t) (at_new t) n i l (λ j b e. other t j h (λ g. e g.0)) ∙ ap (set (old_row t) i) own

  rows-put : rows new_row m ≡ set (rows old_row m) t (new_row t)
  rows-put = set-rows [] old_row new_row m t h (λ u b e. rows_same n (λ j a. other u j b (λ g. e g.1)))

  settings-put : rows new_row m ≡ set (rows old_row m) t (set (get_or (rows old_row m) t []) i (with_online (get_or (get_or (rows old_row m) t []) i no_setting) v))
  settings-put = rows-put ∙ ap (set (rows old_row m) t) (row_put ∙ rw (row_at, rows_at (at_old t) no_setting n i l) refl)

  -- the plan in the rows is the replaced one
  pub plan-put : plan_in n m put ≡ replaced (plan_in n m settings) c
  unfolding plan_in replaced
  plan-put = ap₂ (λ (s : List (List M.Setting)) (f : List ℤ). record { settings = s; flows = f }) settings-put (rows_same m (λ u b. ap (less kvar_offset) (flow-is u)))

  -- and its rows are in their ranges
  pub rows-put-range : v ≤ 100000 → PlanRows n m settings → PlanRows n m put
  rows-put-range small r = record {
    full = length-set settings k₀ (with_online_row row v) ∙ full;
    range = λ k b. go k (omega (arith, length-set settings k₀ (with_online_row row v))) (ℕ_discrete k k₀);
    flows = λ u b. rw (flow-is u) (r.flows u b);
  }
    where
      go : (k : ℕ) → k < length settings → Dec (k ≡ k₀) → SettingRange (setting_in (get_or put k []))
      go k b (yes e) = rw (e, get_or-set_same settings k₀ (with_online_row row v) [] inside, setting-with row v)
          (let x = r.range k₀ inside in record { on = x.on; online = small; reserves = x.reserves; reactive = x.reactive })
      go k b (no e) = rw (get_or-set_other settings k₀ k (with_online_row row v) [] e) (r.range k b)

module _ (n m : ℕ) (settings : List (List ℕ)) (i t v : ℕ) (l : i < n) (h : t < m) (full : length settings ≡ n * m) where
  abbrev once : List (List ℕ)
  once = set settings (i * m + t) (with_online_row (get_or settings (i * m + t) []) v)

  once-full : length once ≡ n * m
  once-full = length-set settings (i * m + t) (with_online_row (get_or settings (i * m + t) []) v) ∙ full

  has : Has (plan_in n m settings) (record { interval = t; device = i; power = v })
  unfolding plan_in
  has = record {
    row = omega (arith, rows_long (λ u. rows (λ j. setting_in (get_or (part m j settings) u [])) n) m);
    place = rw (rows_at (λ u. rows (λ j. setting_in (get_or (part m j settings) u [])) n) [] m t h) (omega (arith, rows_long (λ j. setting_in (get_or (part m j settings) t [])) n));
  }

  -- the old power put back
  pub plan-back : (q : System) (old : ℕ) → old ≡ (setting q (plan_in n m settings) t i).online → plan_in n m (set once (i * m + t) (with_online_row (get_or once (i * m + t) []) old)) ≡ plan_in n m settings
  plan-back q old e = plan-put n m once i t old l h once-full
      ∙ ap (λ (x : Plan). replaced x (record { interval = t; device = i; power = old })) (plan-put n m settings i t v l h full)
      ∙ replaced-back q (plan_in n m settings) (record { interval = t; device = i; power = v }) has old e
