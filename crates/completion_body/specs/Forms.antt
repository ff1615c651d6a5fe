-- What a reader is told of its message, the widths that this gives behind the front, and how they are grouped.
use Rattle.std.specs.Prelude.{◌≡◌, refl, Bool, true, false, ℕ, zero, suc, ◌+◌, ◌*◌, ◌≤◌}
use Rattle.std.proofs.Common.{sym, ◌∙◌, arith, mul-le-mul}
use Rattle.std.proofs.Math.Path.{ap}
use mathlib.Core.List.{List, [], ◌∷◌, ◌++◌, append-nil, append_assoc}
use Rattle.numbers.specs.Sum.{gate}
use Rattle.layouts.specs.Since.{has}
use Rattle.model.specs.Editions.{most_zones}
use Rattle.model.specs.Messages.{Counts}
use Rattle.completion_reading.specs.Figures.{only}
use Rattle.completion_reading.specs.Flat.{times, device_widths, zone_widths, bars_widths, slack_widths, interval_widths, body_widths}
use Rattle.figure_reader.specs.declared.Walk.{Walk}
use Rattle.figure_reader.specs.Walks.{Runs, runs_as}
use Rattle.completion_body.specs.declared.Form.{Form}

abbrev pub counts_in : Form → Counts
counts_in f = record { devices = f.devices; intervals = f.intervals; zones = f.zones }

-- the widths behind the front
abbrev pub widths_of : Form → List ℕ
widths_of f = body_widths f.desk f.edition (counts_in f) f.windows

-- ---- figures of one width

abbrev pub shortfalls_in : ℕ → ℕ
shortfalls_in e = 6 + gate (has 2 e) 2

abbrev pub bars_in : ℕ → ℕ
bars_in e = 1 + gate (has 5 e) 1

abbrev pub mismatches_in : ℕ → ℕ
mismatches_in e = bars_in e + gate (has 2 e) (bars_in e)

pub gate-few : (b : Bool) (n : ℕ) → gate b n ≤ n
gate-few true n = omega arith
gate-few false n = omega arith

pub few-product : (z n : ℕ) → z ≤ most_zones → n ≤ 8 → z * n ≤ 32
few-product z n h k = mul-le-mul h k

times-add : (m n : ℕ) (ws : List ℕ) → times (m + n) ws ≡ times m ws ++ times n ws
unfolding times
times-add zero n ws = let e : 0 + n ≡ n = omega arith in rw e refl
times-add (suc m) n ws =
    let e : suc m + n ≡ suc (m + n) = omega arith in
    rw e (ap (λ (vs : List ℕ). ws ++ vs) (times-add m n ws) ∙ sym (append_assoc ws (times m ws) (times n ws)))

times-times : (m n : ℕ) (ws : List ℕ) → times (m * n) ws ≡ times m (times n ws)
unfolding times
times-times zero n ws = let e : 0 * n ≡ 0 = omega arith in rw e refl
times-times (suc m) n ws =
    let e : suc m * n ≡ n + m * n = omega arith in
    rw e (times-add n (m * n) ws ∙ ap (λ (vs : List ℕ). times n ws ++ vs) (times-times m n ws))

zone-widths : (e : ℕ) → times (shortfalls_in e) (33 ∷ []) ≡ zone_widths e
unfolding times
zone-widths e = go (has 2 e)
  where
    go : (b : Bool) → times (6 + gate b 2) (33 ∷ []) ≡ (33 ∷ 33 ∷ 33 ∷ 33 ∷ 33 ∷ 33 ∷ []) ++ only b (33 ∷ 33 ∷ [])
    go true = refl
    go false = refl

bar-widths : (e : ℕ) → times (mismatches_in e) (23 ∷ []) ≡ bars_widths e ++ only (has 2 e) (bars_widths e)
unfolding times
bar-widths e = go (has 5 e) (has 2 e)
  where
    go : (b c : Bool) → times (1 + gate b 1 + gate c (1 + gate b 1)) (23 ∷ []) ≡ (23 ∷ only b (23 ∷ [])) ++ only c (23 ∷ only b (23 ∷ []))
    go true true = refl
    go true false = refl
    go false true = refl
    go false false = refl

pub slack-widths : (e zones n m : ℕ) → n ≡ zones * shortfalls_in e → m ≡ mismatches_in e → times n (33 ∷ []) ++ times m (23 ∷ []) ≡ slack_widths e zones
slack-widths e zones n m h k =
    rw (h, k, bar-widths e, times-times zones (shortfalls_in e) (33 ∷ [])) (ap (λ (ws : List ℕ). times zones ws ++ (bars_widths e ++ only (has 2 e) (bars_widths e))) (zone-widths e))

-- ---- the rows, by their groups

module _ {s : List ℕ} {w r : Walk} {a b : List ℕ} {desk : Bool} where
  pub market-device : desk ≡ false → Runs s w a (times 2 (1 ∷ [])) r b → Runs s w a (device_widths desk) r b
  unfolding times
  market-device e f = rw e f

  pub desk-device : desk ≡ true → Runs s w a (times 2 (1 ∷ []) ++ ((3 ∷ []) ++ times 4 (17 ∷ []))) r b → Runs s w a (device_widths desk) r b
  unfolding times
  desk-device e f = rw e f

abbrev pub intervals_of : Form → List ℕ
intervals_of f = times f.intervals (interval_widths f.desk f.edition f.devices f.zones)

module _ (f : Form) {s : List ℕ} {w r : Walk} {a b : List ℕ} where
  pub market-body : f.desk ≡ false → Runs s w a (intervals_of f ++ times f.windows (32 ∷ [])) r b → Runs s w a (widths_of f) r b
  unfolding body_widths
  market-body e g = runs_as
      (ap (λ (ws : List ℕ). intervals_of f ++ ws) (sym (append-nil (times f.windows (32 ∷ []))) ∙ ap (λ (d : Bool). times f.windows (32 ∷ []) ++ only d (64 ∷ [])) (sym e))) g

  pub desk-body : f.desk ≡ true → Runs s w a (intervals_of f ++ (times f.windows (32 ∷ []) ++ (64 ∷ []))) r b → Runs s w a (widths_of f) r b
  unfolding body_widths
  desk-body e g = runs_as (ap (λ (d : Bool). intervals_of f ++ (times f.windows (32 ∷ []) ++ only d (64 ∷ []))) (sym e)) g
