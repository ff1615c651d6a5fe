-- Behind the front of a completion or a copy every field takes every value of its width, so reading goes by the widths alone: figure by figure, or to a cut.
use Rattle.std.specs.Prelude.{◌≡◌, Bool, true, false, leb, ℤ, nat_abs, length}
use Rattle.std.proofs.Math.Path.{refl, ap}
use Rattle.std.proofs.Common.{sym, ◌∙◌, subst, mul-le-mul, le-leb}
use mathlib.Core.List.{List, [], ◌∷◌, ◌++◌, append-nil}
use Prim.Native.Nat.{ℕ, zero, suc, ◌+◌, ◌-◌, ◌*◌, ◌^◌, ◌≤◌, ◌<◌}
use native.Mathlib.Omega.{arith}
use Rattle.std.proofs.Math.Decide.{dec_le}
use Rattle.std.proofs.Math.ListN.{length-append}
use Rattle.std.proofs.lemmas.Bool.{lt-leb}
use Rattle.numbers.specs.Base.{gather}
use Rattle.bits.specs.Bits.{field_at, reach, read_field}
use Rattle.bits.specs.Pick.{pick}
use Rattle.bits.specs.Twos.{from_twos, to_twos}
use Rattle.bits.specs.declared.Field.TheVariants.{Value, Cut}
use Rattle.bits.proofs.Laws.{field_lt}
use Rattle.layouts.specs.declared.Fault.{Fault}
use Rattle.layouts.specs.declared.Fault.TheVariants as F
use Rattle.layouts.specs.declared.Place.{Place}
use Rattle.layouts.specs.Layout.{Layout, raw, advanced, nat, int, any, ◌then◌, ◌▸◌, repeated, list, held}
use Rattle.layouts.specs.Since.{has, nothing, present}
use Rattle.model.specs.Case.{no_reactive_reserves}
use Rattle.model.specs.Editions.{most_devices, most_intervals, most_zones, most_windows}
use Rattle.model.specs.Messages as M
use Rattle.model.specs.Messages.{Counts, IntervalChoice, no_bars}
use Rattle.model.specs.ByEdition as B
use Rattle.market.specs.Copy.{IntervalCopy, change, interval_copy}
use Rattle.completion_reading.specs.Calm.{twos_small}
use Rattle.completion_reading.specs.Figures.{most_numbers, only, device_figures, change_figures, six_figures, zone_figures, bars_figures, interval_figures, interval_copy_figures}

-- ---- widths, in message order

unfoldable pub times : ℕ → List ℕ → List ℕ
times zero ws = []
times (suc n) ws = ws ++ times n ws

-- "started 1, stopped 1, state 3, four block powers 17"
abbrev pub device_widths : Bool → List ℕ
device_widths desk = 1 ∷ 1 ∷ only desk (3 ∷ 17 ∷ 17 ∷ 17 ∷ 17 ∷ [])

abbrev pub zone_widths : ℕ → List ℕ
zone_widths e = (33 ∷ 33 ∷ 33 ∷ 33 ∷ 33 ∷ 33 ∷ []) ++ only (has 2 e) (33 ∷ 33 ∷ [])

abbrev pub bars_widths : ℕ → List ℕ
bars_widths e = 23 ∷ only (has 5 e) (23 ∷ [])

abbrev pub slack_widths : ℕ → ℕ → List ℕ
slack_widths e zones = times zones (zone_widths e) ++ (bars_widths e ++ only (has 2 e) (bars_widths e))

abbrev pub interval_widths : Bool → ℕ → ℕ → ℕ → List ℕ
interval_widths desk e devices zones = times devices (device_widths desk) ++ slack_widths e zones

unfoldable pub body_widths : Bool → ℕ → Counts → ℕ → List ℕ
body_widths desk e n windows = times n.intervals (interval_widths desk e n.devices n.zones) ++ (times windows (32 ∷ []) ++ only desk (64 ∷ []))

-- ---- reading by widths

-- the first bit of the field that is cut, or the figures and the place behind them
pub data Walked : Type 0 where
  cut_at : ℕ → Walked
  read_to : List ℕ → ℕ → Walked

-- figures ahead of them
abbrev pub behind : List ℕ → Walked → Walked
behind xs (cut_at b) = cut_at b
behind xs (read_to ys at) = read_to (xs ++ ys) at

unfoldable pub walked : List ℕ → ℕ → List ℕ → Walked
walked s at [] = read_to [] at
walked s at (w ∷ ws) = let r = walked s (at + w) ws in pick (leb (at + w) (8 * reach s)) (behind (field_at s at w ∷ []) r) (cut_at at)

abbrev pub onward : Walked → (ℕ → Walked) → Walked
onward (cut_at b) k = cut_at b
onward (read_to xs at) k = behind xs (k at)

behind-none : (r : Walked) → behind [] r ≡ r
behind-none (cut_at b) = refl
behind-none (read_to xs at) = refl

behind_more : (v : ℕ) (xs : List ℕ) (r : Walked) → behind (v ∷ []) (behind xs r) ≡ behind (v ∷ xs) r
behind_more v xs (cut_at b) = refl
behind_more v xs (read_to ys at) = refl

behind-onward : (v : ℕ) (r : Walked) (k : ℕ → Walked) → behind (v ∷ []) (onward r k) ≡ onward (behind (v ∷ []) r) k
behind-onward v (cut_at b) k = refl
behind-onward v (read_to xs at) k = behind_more v xs (k at)

pub walked-append : (s : List ℕ) (at : ℕ) (ws vs : List ℕ) → walked s at (ws ++ vs) ≡ onward (walked s at ws) (λ b. walked s b vs)
unfolding walked
walked-append s at [] vs = sym (behind-none (walked s at vs))
walked-append s at (w ∷ ws) vs = go (walked-append s (at + w) ws vs) (leb (at + w) (8 * reach s))
  where
    go : walked s (at + w) (ws ++ vs) ≡ onward (walked s (at + w) ws) (λ b. walked s b vs) → (b : Bool) → pick b (behind (field_at s at w ∷ []) (walked s (at + w) (ws ++ vs))) (cut_at at)
        ≡ onward (pick b (behind (field_at s at w ∷ []) (walked s (at + w) ws)) (cut_at at)) (λ b. walked s b vs)
    go ih true = ap (behind (field_at s at w ∷ [])) ih ∙ behind-onward (field_at s at w) (walked s (at + w) ws) (λ b. walked s b vs)
    go ih false = refl

-- ---- a layout that is read by its widths

pub data Gave {A : Type 0} (figures : A → List ℕ) (p : Place) (run : (X : Type 0) → (Fault → X) → (A → Place → X) → X) (r : Walked) : Type 1 where
  stops : (b : ℕ) → r ≡ cut_at b → ((X : Type 0) (bad : Fault → X) (next : A → Place → X) → run X bad next ≡ bad (F.Cut b)) → Gave figures p run r
  goes : (a : A) (at : ℕ) → r ≡ read_to (figures a) at → ((X : Type 0) (bad : Fault → X) (next : A → Place → X) → run X bad next ≡ next a (advanced p at)) → Gave figures p run r

pub record Flat {A : Type 0} (l : Layout A) (figures : A → List ℕ) (ws : List ℕ) : Type 1 where
  pub flat : (s : List ℕ) (p : Place) → Gave figures p (λ X bad next. l.read {X = X} s p bad next) (walked s p.at ws)

pub any-flat : (w : ℕ) → Flat (any w) (λ v. v ∷ []) (w ∷ [])
unfolding nat read_field walked
any-flat w = record { flat = λ s p. go s p (leb (p.at + w) (8 * reach s)) }
  where
    go : (s : List ℕ) (p : Place) (b : Bool) → Gave (λ v. v ∷ []) p
        (λ X bad next. raw {X = X} (pick b (Value (field_at s p.at w) (record { at = p.at + w })) (Cut p.at)) p bad
        (λ v after. pick (leb 0 v) (pick (leb v (2 ^ w - 1)) (next v after) (bad (F.OutOfRange p.at))) (bad (F.OutOfRange p.at))))
        (pick b (behind (field_at s p.at w ∷ []) (read_to [] (p.at + w))) (cut_at p.at))
    go s p true = goes (field_at s p.at w) (p.at + w) refl
        (λ X bad next. let h = field_lt s p.at w in rw (le-leb 0 (field_at s p.at w) (omega arith), le-leb (field_at s p.at w) (2 ^ w - 1) (omega arith)) refl)
    go s p false = stops p.at refl (λ X bad next. refl)

twos_back : (w v : ℕ) → v < 2 ^ w → to_twos w (from_twos w v) ≡ v
unfolding to_twos from_twos
twos_back w v h = elim (dec_le (suc (2 * v)) (2 ^ w)) [
  | yes l ↦ rw (le-leb (suc (2 * v)) (2 ^ w) l) refl
  | no l ↦ rw (lt-leb (suc (2 * v)) (2 ^ w) (omega arith)) (omega arith)
]

-- two's complement of w + 1 bits, told as the bits stand
pub int-flat : (w : ℕ) → Flat (int (suc w) (2 ^ w)) (λ z. to_twos (suc w) z ∷ []) (suc w ∷ [])
unfolding int read_field walked
int-flat w = record { flat = λ s p. go s p (leb (p.at + suc w) (8 * reach s)) }
  where
    go : (s : List ℕ) (p : Place) (b : Bool) → Gave (λ z. to_twos (suc w) z ∷ []) p
        (λ X bad next. raw {X = X} (pick b (Value (field_at s p.at (suc w)) (record { at = p.at + suc w })) (Cut p.at)) p bad
        (λ v after. pick (leb (nat_abs (from_twos (suc w) v)) (2 ^ w)) (next (from_twos (suc w) v) after) (bad (F.OutOfRange p.at))))
        (pick b (behind (field_at s p.at (suc w) ∷ []) (read_to [] (p.at + suc w))) (cut_at p.at))
    go s p true = goes (from_twos (suc w) (field_at s p.at (suc w))) (p.at + suc w)
        (ap (λ (v : ℕ). read_to (v ∷ []) (p.at + suc w)) (sym (twos_back (suc w) _ (field_lt s p.at (suc w)))))
        (λ X bad next. rw (le-leb (nat_abs (from_twos (suc w) (field_at s p.at (suc w)))) (2 ^ w) (twos_small w _ (field_lt s p.at (suc w)))) refl)
    go s p false = stops p.at refl (λ X bad next. refl)

pub held-flat : {A B : Type 0} (to : A → B) (from : B → A) {l : Layout A} (f : A → List ℕ) (g : B → List ℕ) {ws : List ℕ} → Flat l f ws → ((a : A) → g (to a) ≡ f a) → Flat (held to from l) g ws
unfolding held
held-flat to from {l} f g {ws} u h = record { flat = λ s p. go s p (walked s p.at ws) (u.flat s p) }
  where
    go : (s : List ℕ) (p : Place) (r : Walked) → Gave f p (λ X bad next. l.read {X = X} s p bad next) r → Gave g p (λ X bad next. l.read {X = X} s p bad (λ a p. next (to a) p)) r
    go s p r (stops b e k) = stops b e (λ X bad next. k X bad _)
    go s p r (goes a at e k) = goes (to a) at (e ∙ ap (λ (xs : List ℕ). read_to xs at) (sym (h a))) (λ X bad next. k X bad _)

pub pair-flat : {A B : Type 0} {l : Layout A} {m : Layout B} {f : A → List ℕ} {g : B → List ℕ} {ws vs : List ℕ} → Flat l f ws → Flat m g vs → Flat (l ▸ m) (λ x. f x.0 ++ g x.1) (ws ++ vs)
unfolding ◌then◌
pair-flat {A} {B} {l} {m} {f} {g} {ws} {vs} u v = record { flat = λ s p. first s p (u.flat s p) }
  where
    second : (s : List ℕ) (p : Place) (a : A) (at : ℕ) → walked s p.at ws ≡ read_to (f a) at
        → ((X : Type 0) (bad : Fault → X) (next : A → Place → X) → l.read s p bad next ≡ next a (advanced p at))
        → Gave g (advanced p at) (λ X bad next. m.read {X = X} s (advanced p at) bad next) (walked s at vs)
        → Gave {A = A × B} (λ x. f x.0 ++ g x.1) p (λ X bad next. l.read {X = X} s p bad (λ a p. m.read s p bad (λ b p. next (a, b) p))) (walked s p.at (ws ++ vs))
    second s p a at e k (stops b d i) =
        stops b (walked-append s p.at ws vs ∙ ap (λ (r : Walked). onward r (λ b. walked s b vs)) e ∙ ap (behind (f a)) d) (λ X bad next. k X bad _ ∙ i X bad _)
    second s p a at e k (goes b to d i) =
        goes (a, b) to (walked-append s p.at ws vs ∙ ap (λ (r : Walked). onward r (λ b. walked s b vs)) e ∙ ap (behind (f a)) d) (λ X bad next. k X bad _ ∙ i X bad _)

    first : (s : List ℕ) (p : Place) → Gave f p (λ X bad next. l.read {X = X} s p bad next) (walked s p.at ws)
        → Gave {A = A × B} (λ x. f x.0 ++ g x.1) p (λ X bad next. l.read {X = X} s p bad (λ a p. m.read s p bad (λ b p. next (a, b) p))) (walked s p.at (ws ++ vs))
    first s p (stops b e k) = stops b (walked-append s p.at ws vs ∙ ap (λ (r : Walked). onward r (λ b. walked s b vs)) e) (λ X bad next. k X bad _)
    first s p (goes a at e k) = second s p a at e k (v.flat s (advanced p at))

module _ {A : Type 0} {l : Layout A} {f : A → List ℕ} {ws : List ℕ} (u : Flat l f ws) (s : List ℕ) where
  others : (n : ℕ) (p : Place) (a : A) (at : ℕ) → walked s p.at ws ≡ read_to (f a) at
      → ((X : Type 0) (bad : Fault → X) (next : A → Place → X) → l.read s p bad next ≡ next a (advanced p at))
      → Gave (gather f) (advanced p at) (λ X bad next. repeated {X = X} l s n (advanced p at) bad next) (walked s at (times n ws))
      → Gave (gather f) p (λ X bad next. l.read {X = X} s p bad (λ a p. repeated l s n p bad (λ r p. next (a ∷ r) p))) (walked s p.at (ws ++ times n ws))
  unfolding gather
  others n p a at e k (stops b d i) =
      stops b (walked-append s p.at ws (times n ws) ∙ ap (λ (r : Walked). onward r (λ b. walked s b (times n ws))) e ∙ ap (behind (f a)) d) (λ X bad next. k X bad _ ∙ i X bad _)
  others n p a at e k (goes xs to d i) =
      goes (a ∷ xs) to (walked-append s p.at ws (times n ws) ∙ ap (λ (r : Walked). onward r (λ b. walked s b (times n ws))) e ∙ ap (behind (f a)) d) (λ X bad next. k X bad _ ∙ i X bad _)

  one : (n : ℕ) (p : Place) → Gave f p (λ X bad next. l.read {X = X} s p bad next) (walked s p.at ws)
      → ((q : Place) → Gave (gather f) q (λ X bad next. repeated {X = X} l s n q bad next) (walked s q.at (times n ws)))
      → Gave (gather f) p (λ X bad next. l.read {X = X} s p bad (λ a p. repeated l s n p bad (λ r p. next (a ∷ r) p))) (walked s p.at (ws ++ times n ws))
  one n p (stops b e k) ih = stops b (walked-append s p.at ws (times n ws) ∙ ap (λ (r : Walked). onward r (λ b. walked s b (times n ws))) e) (λ X bad next. k X bad _)
  one n p (goes a at e k) ih = others n p a at e k (ih (advanced p at))

  repeated-flat : (n : ℕ) (p : Place) → Gave (gather f) p (λ X bad next. repeated {X = X} l s n p bad next) (walked s p.at (times n ws))
  unfolding repeated times walked gather
  repeated-flat zero p = goes [] p.at refl (λ X bad next. refl)
  repeated-flat (suc n) p = one n p (u.flat s p) (repeated-flat n)

pub list-flat : {A : Type 0} (n : ℕ) {l : Layout A} {f : A → List ℕ} {ws : List ℕ} → Flat l f ws → Flat (list n l) (gather f) (times n ws)
unfolding list
list-flat n u = record { flat = λ s p. repeated-flat u s n p }

pub present-flat : {A : Type 0} (b : Bool) (neutral : A) {l : Layout A} {f : A → List ℕ} {ws : List ℕ} → Flat l f ws → Flat (present b neutral l) (λ a. only b (f a)) (only b ws)
unfolding present nothing walked
present-flat true neutral u = u
present-flat false neutral u = record { flat = λ s p. goes neutral p.at refl (λ X bad next. refl) }

-- ---- the rows of a completion and of a copy

-- figures one by one are the list itself
pub singles : (xs : List ℕ) → gather (λ v. v ∷ []) xs ≡ xs
unfolding gather
singles [] = refl
singles (x ∷ xs) = ap (λ (ys : List ℕ). x ∷ ys) (singles xs)

six-flat : Flat (M.six (any 33)) six_figures (33 ∷ 33 ∷ 33 ∷ 33 ∷ 33 ∷ 33 ∷ [])
unfolding M.six
six-flat = let u = any-flat 33 in held-flat _ _ _ six_figures (pair-flat u (pair-flat u (pair-flat u (pair-flat u (pair-flat u u))))) (λ v. refl)

two-flat : Flat B.reactive_choice (λ r. r.qru ∷ r.qrd ∷ []) (33 ∷ 33 ∷ [])
unfolding B.reactive_choice
two-flat = held-flat _ _ _ _ (pair-flat (any-flat 33) (any-flat 33)) (λ v. refl)

zone-flat : (e : ℕ) → Flat (B.zone_choice e) (zone_figures e) (zone_widths e)
unfolding B.zone_choice
zone-flat e = held-flat _ _ _ (zone_figures e) (pair-flat six-flat (present-flat (has 2 e) no_reactive_reserves two-flat)) (λ v. refl)

bars-flat : (e : ℕ) → Flat (B.bars_choice e) (bars_figures e) (bars_widths e)
unfolding B.bars_choice
bars-flat e = held-flat _ _ _ (bars_figures e) (pair-flat (any-flat 23) (present-flat (has 5 e) 0 (any-flat 23))) (λ v. refl)

device-flat : Flat M.device_choice device_figures (device_widths true)
unfolding M.device_choice times
device-flat = held-flat _ _ _ device_figures (pair-flat (any-flat 1) (pair-flat (any-flat 1) (pair-flat (any-flat 3) (list-flat 4 (any-flat 17)))))
    (λ v. ap (λ (xs : List ℕ). v.0 ∷ v.1.0 ∷ v.1.1.0 ∷ xs) (sym (singles v.1.1.1)))

change-flat : Flat change change_figures (device_widths false)
unfolding change
change-flat = held-flat _ _ _ change_figures (pair-flat (any-flat 1) (any-flat 1)) (λ v. refl)

interval-flat : (e devices zones : ℕ) → Flat (B.interval_choice e devices zones) (interval_figures e) (interval_widths true e devices zones)
unfolding B.interval_choice
interval-flat e devices zones = held-flat _ _ _ (interval_figures e)
    (pair-flat (list-flat devices device-flat) (pair-flat (list-flat zones (zone-flat e)) (pair-flat (bars-flat e) (present-flat (has 2 e) no_bars (bars-flat e))))) (λ v. refl)

copied-flat : (e devices zones : ℕ) → Flat (interval_copy e devices zones) (interval_copy_figures e) (interval_widths false e devices zones)
unfolding interval_copy
copied-flat e devices zones = held-flat _ _ _ (interval_copy_figures e)
    (pair-flat (list-flat devices change-flat) (pair-flat (list-flat zones (zone-flat e)) (pair-flat (bars-flat e) (present-flat (has 2 e) no_bars (bars-flat e))))) (λ v. refl)

-- ---- what stands behind the front

abbrev pub desk_rest : ℕ → Counts → ℕ → Layout (List IntervalChoice × (List ℕ × ℤ))
desk_rest e n windows = list n.intervals (B.interval_choice e n.devices n.zones) ▸ list windows (any 32) ▸ int 64 (2 ^ 63)

abbrev pub market_rest : ℕ → Counts → ℕ → Layout (List IntervalCopy × List ℕ)
market_rest e n windows = list n.intervals (interval_copy e n.devices n.zones) ▸ list windows (any 32)

pub desk-flat : (e : ℕ) (n : Counts) (windows : ℕ)
    → Flat (desk_rest e n windows) (λ v. gather (interval_figures e) v.0 ++ (gather (λ x. x ∷ []) v.1.0 ++ to_twos 64 v.1.1 ∷ [])) (body_widths true e n windows)
unfolding body_widths
desk-flat e n windows = pair-flat (list-flat n.intervals (interval-flat e n.devices n.zones)) (pair-flat (list-flat windows (any-flat 32)) (int-flat 63))

pub market-flat : (e : ℕ) (n : Counts) (windows : ℕ)
    → Flat (market_rest e n windows) (λ v. gather (interval_copy_figures e) v.0 ++ gather (λ x. x ∷ []) v.1) (body_widths false e n windows)
unfolding body_widths
market-flat e n windows = subst
    (λ (ws : List ℕ). Flat (market_rest e n windows) (λ v. gather (interval_copy_figures e) v.0 ++ gather (λ x. x ∷ []) v.1)
    (times n.intervals (interval_widths false e n.devices n.zones) ++ ws))
    (sym (append-nil (times windows (32 ∷ []))))
    (pair-flat (list-flat n.intervals (copied-flat e n.devices n.zones)) (list-flat windows (any-flat 32)))

-- ---- how many figures there are

pub walked-long : (s : List ℕ) (at : ℕ) (ws vs : List ℕ) (to : ℕ) → walked s at ws ≡ read_to vs to → length vs ≡ length ws
unfolding walked
walked-long s at [] vs to e = let h : [] ≡ vs = cc in ap length (sym h)
walked-long s at (w ∷ ws) vs to e = go (walked-long s (at + w) ws) (leb (at + w) (8 * reach s)) (walked s (at + w) ws) refl e
  where
    go : ((ys : List ℕ) (b : ℕ) → walked s (at + w) ws ≡ read_to ys b → length ys ≡ length ws) → (b : Bool) (r : Walked) → walked s (at + w) ws ≡ r
        → pick b (behind (field_at s at w ∷ []) r) (cut_at at) ≡ read_to vs to → length vs ≡ suc (length ws)
    go more false r h e = absurd (let z : ◌≡◌ {A = ℕ} 0 1 = cc in omega arith)
    go more true (cut_at b) h e = absurd (let z : ◌≡◌ {A = ℕ} 0 1 = cc in omega arith)
    go more true (read_to ys b) h e = let k : field_at s at w ∷ ys ≡ vs = cc in ap length (sym k) ∙ ap suc (more ys b h)

length-times : (n : ℕ) (ws : List ℕ) → length (times n ws) ≡ n * length ws
unfolding times
length-times zero ws = omega arith
length-times (suc n) ws = omega (arith, length-append ws (times n ws), length-times n ws)

only-few : (b : Bool) (ws : List ℕ) → length (only b ws) ≤ length ws
only-few true ws = omega arith
only-few false ws = omega arith

times-few : (n most : ℕ) (ws : List ℕ) (k : ℕ) → n ≤ most → length ws ≤ k → length (times n ws) ≤ most * k
times-few n most ws k h l = omega (arith, length-times n ws, mul-le-mul h l)

bars-few : (e : ℕ) → length (bars_widths e) ≤ 2
bars-few e = omega (arith, only-few (has 5 e) (23 ∷ []))

module _ (desk : Bool) (e : ℕ) (n : Counts) (windows : ℕ) where
  interval-few : n.devices ≤ most_devices → n.zones ≤ most_zones → length (interval_widths desk e n.devices n.zones) ≤ most_devices * 7 + (most_zones * 8 + 4)
  interval-few h k =
      omega (
        arith,
        length-append (times n.devices (device_widths desk)) (slack_widths e n.zones),
        times-few n.devices most_devices (device_widths desk) 7 h (omega (arith, only-few desk (3 ∷ 17 ∷ 17 ∷ 17 ∷ 17 ∷ []))),
        length-append (times n.zones (zone_widths e)) (bars_widths e ++ only (has 2 e) (bars_widths e)),
        times-few n.zones most_zones (zone_widths e) 8 k (omega (arith, only-few (has 2 e) (33 ∷ 33 ∷ []))),
        length-append (bars_widths e) (only (has 2 e) (bars_widths e)),
        bars-few e,
        only-few (has 2 e) (bars_widths e),
      )

  -- no message has more
  pub body-few : n.devices ≤ most_devices → n.intervals ≤ most_intervals → n.zones ≤ most_zones → windows ≤ most_devices * most_windows → length (body_widths desk e n windows) ≤ most_numbers
  unfolding body_widths
  body-few h i k w =
      omega (
        arith,
        length-append (times n.intervals (interval_widths desk e n.devices n.zones)) (times windows (32 ∷ []) ++ only desk (64 ∷ [])),
        times-few n.intervals most_intervals (interval_widths desk e n.devices n.zones) (most_devices * 7 + (most_zones * 8 + 4)) i (interval-few h k),
        length-append (times windows (32 ∷ [])) (only desk (64 ∷ [])),
        times-few windows (most_devices * most_windows) (32 ∷ []) 1 w (omega arith),
        only-few desk (64 ∷ []),
      )
