-- Which rule a number and its place name: a breach is listed exactly when its rule fails, the list stands in the paper's order, and the first of it is the
-- first rule that fails.
use Rattle.std.specs.Prelude.{◌≡◌, ◌⊎◌, Bool, T, length}
use Rattle.std.proofs.Math.Path.{refl, sym}
use Rattle.std.proofs.Common.{subst, leb→le, le→leb}
use Rattle.std.proofs.Math.Logic.{inl, inr}
use Rattle.std.proofs.Math.Bool.{true, false}
use mathlib.Core.List.Memᴰ
use mathlib.Core.List.{List, [], ◌∷◌, ◌++◌, map, Memᴰ}
use Prim.Native.Nat.{ℕ, suc, ◌-◌, ◌≤◌, ◌<◌}
use native.Mathlib.Omega.{arith}
use borrow.Author.Tests.{ne_eqb}
use Rattle.numbers.specs.Sum.{All, all_map, all-zip}
use Rattle.numbers.specs.Base.{range, up_to, gather}
use Rattle.numbers.specs.Every.{all_in, all_of, all-up_to, all-range, map-of-all, all_append, all-gather, has, in_list, in_map, in-gather, in-range, Ordered, ordered-append, ordered-gather, range-ordered, map-ordered}
use Rattle.model.specs.declared.Breach.{Breach}
use Rattle.model.specs.Case.{System, Plan}
use Rattle.model.specs.Forced.{intervals, devices, device}
use Rattle.model.specs.Rules.{real_numbers, reactive_numbers, cell_numbers}
use Rattle.model.specs.Rules.{Rule16, Rule18, Rule19, Rule20, Rule27, CellRule, EveryRule, cell_breach, link_breach, window_breach}
use Rattle.model.specs.Rules.{Placed, in_cell, in-link, in_window, RuleAt, Lex, in_turn, Before, last, alike}
use Rattle.model.specs.Breaches.{cell_tests, unless, failing, cell_breaches, link_test, link_breaches, interval_breaches, window_test, one_window, window_breaches, all_intervals, all_windows, breaches}
use Rattle.model.specs.Tests.{Decides}
use Rattle.model.proofs.Tests.{cell-decided, link-decided, numbers-are}
use Rattle.model.specs.Named.{Failed, First, Known, fails, holds}

known : {A : Type 0} (b : Bool) → Decides A b → Known A
known true d = holds (d.yes tt)
known false d = fails (λ a. d.no a)

module _ (R : ℕ → Type 0) where
  abbrev Each : ℕ × Bool → Type 0
  Each n = Decides (R n.0) n.1

  -- the numbers of failing tests are those whose rule fails
  failing-all : (ns : List (ℕ × Bool)) → All Each ns → All (λ n. R n → ⊥) (failing ns)
  unfolding failing
  failing-all [] h = tt
  failing-all (n ∷ ns) h = go n.1 h.0 (failing-all ns h.1)
    where
      go : (b : Bool) → Decides (R n.0) b → All (λ n. R n → ⊥) (failing ns) → All (λ n. R n → ⊥) (unless b n.0 (failing ns))
      go true d r = r
      go false d r = ((λ a. d.no a), r)

  failing-in : (ns : List (ℕ × Bool)) → All Each ns → (n : ℕ) → Memᴰ n (map (λ n. n.0) ns) → (R n → ⊥) → Memᴰ n (failing ns)
  unfolding failing
  failing-in [] h n m f = absurd (Memᴰ.not-nil m)
  failing-in (x ∷ ns) h n m f = go x.1 h.0 (λ k. failing-in ns h.1 n k f) (Memᴰ.cases_cons m)
    where
      go : (b : Bool) → Decides (R x.0) b → (Memᴰ n (map (λ n. n.0) ns) → Memᴰ n (failing ns)) → (n ≡ x.0) ⊎ Memᴰ n (map (λ n. n.0) ns)
          → Memᴰ n (unless b x.0 (failing ns))
      go true d r (inl e) = absurd (f (rw e (d.yes tt)))
      go true d r (inr k) = r k
      go false d r (inl e) = Memᴰ.head e
      go false d r (inr k) = Memᴰ.tail (r k)

  each-known : (ns : List (ℕ × Bool)) → All Each ns → (n : ℕ) → Memᴰ n (map (λ n. n.0) ns) → Known (R n)
  each-known [] h n m = absurd (Memᴰ.not-nil m)
  each-known (x ∷ ns) h n m = go (λ k. each-known ns h.1 n k) (Memᴰ.cases_cons m)
    where
      go : (Memᴰ n (map (λ n. n.0) ns) → Known (R n)) → (n ≡ x.0) ⊎ Memᴰ n (map (λ n. n.0) ns) → Known (R n)
      go r (inl e) = rw e (known x.1 h.0)
      go r (inr k) = r k

-- failing keeps what holds of every number, and the order
failing-keeps : (P : ℕ → Type 0) (ns : List (ℕ × Bool)) → All P (map (λ n. n.0) ns) → All P (failing ns)
unfolding failing
failing-keeps P [] h = tt
failing-keeps P (n ∷ ns) h = go n.1 (failing-keeps P ns h.1)
  where
    go : (b : Bool) → All P (failing ns) → All P (unless b n.0 (failing ns))
    go true r = r
    go false r = (h.0, r)

failing-ordered : (R : ℕ → ℕ → Type 0) (ns : List (ℕ × Bool)) → Ordered R (map (λ n. n.0) ns) → Ordered R (failing ns)
unfolding failing
failing-ordered R [] h = tt
failing-ordered R (n ∷ ns) h = go n.1 (failing-ordered R ns h.1)
  where
    go : (b : Bool) → Ordered R (failing ns) → Ordered R (unless b n.0 (failing ns))
    go true r = r
    go false r = (failing-keeps (R n.0) ns h.0, r)

pub failing-append : (xs ys : List (ℕ × Bool)) → failing (xs ++ ys) ≡ failing xs ++ failing ys
unfolding failing
failing-append [] ys = refl
failing-append (x ∷ xs) ys = go x.1 (failing-append xs ys)
  where
    go : (b : Bool) → failing (xs ++ ys) ≡ failing xs ++ failing ys → unless b x.0 (failing (xs ++ ys)) ≡ unless b x.0 (failing xs) ++ failing ys
    go true e = e
    go false e = rw e refl

-- ---- the order
lex-not : (ms : List ℕ) → Lex ms ms → ⊥
lex-not [] h = h
lex-not (m ∷ ms) (inl h) = omega arith
lex-not (m ∷ ms) (inr h) = lex-not ms h.1

lex-one : (ms ns : List ℕ) → Lex ms ns → Lex ns ms → ⊥
lex-one [] ns h k = h
lex-one (m ∷ ms) [] h k = h
lex-one (m ∷ ms) (n ∷ ns) (inl h) (inl k) = omega arith
lex-one (m ∷ ms) (n ∷ ns) (inl h) (inr k) = omega arith
lex-one (m ∷ ms) (n ∷ ns) (inr h) (inl k) = omega arith
lex-one (m ∷ ms) (n ∷ ns) (inr h) (inr k) = lex-one ms ns h.1 k.1

-- none comes before itself
pub not-before-itself : (a : Breach) → Before a a → ⊥
not-before-itself a (last h k) = h k
not-before-itself a (alike h k l) = lex-not (in_turn a) l

-- of two, at most one comes before the other
pub one_way : (a b : Breach) → Before a b → Before b a → ⊥
one_way a b (last h k) (last u v) = h v
one_way a b (last h k) (alike u v l) = h (u k)
one_way a b (alike h k l) (last u v) = u (h v)
one_way a b (alike h k l) (alike u v m) = lex-one (in_turn a) (in_turn b) l m

-- ---- one interval and device, one window

-- not rule 20's number
abbrev NotLast : ℕ → Type 0
NotLast n = n ≡ 20 → ⊥

not_last : {n : ℕ} → Memᴰ n cell_numbers → NotLast n
not_last m = all_in NotLast cell_numbers
    (all_append NotLast real_numbers reactive_numbers (all-range NotLast 1 19 (λ j a b e. omega arith)) (all-range NotLast 21 6 (λ j a b e. omega arith))) m

-- nor the link's
abbrev NotLink : ℕ → Type 0
NotLink n = n ≡ 27 → ⊥

not-link : {n : ℕ} → Memᴰ n cell_numbers → NotLink n
not-link m = all_in NotLink cell_numbers
    (all_append NotLink real_numbers reactive_numbers (all-range NotLink 1 19 (λ j a b e. omega arith)) (all-range NotLink 21 6 (λ j a b e. omega arith))) m

-- one number ahead of another, both of the rules of a cell
abbrev Ahead : ℕ → ℕ → Type 0
Ahead m n = (m < n) × (NotLast m × NotLink m) × (NotLast n × NotLink n)

ahead_of : (m n : ℕ) → m < n → NotLast m × NotLink m → NotLast n × NotLink n → Ahead m n
ahead_of m n h k l = (h, k, l)

numbers-ordered : Ordered Ahead cell_numbers
numbers-ordered = ordered-append Ahead (λ n. n ≤ 19) (λ n. (21 ≤ n) × (n ≤ 26))
    (λ m n h k. ahead_of m n (omega arith) ((λ e. omega arith), (λ e. omega arith)) ((λ e. omega arith), (λ e. omega arith))) real_numbers reactive_numbers
    (all-range (λ n. n ≤ 19) 1 19 (λ j a b. omega arith)) (all-range (λ n. (21 ≤ n) × (n ≤ 26)) 21 6 (λ j a b. omega arith))
    (range-ordered Ahead 1 19 (λ i j a b c. ahead_of i j b ((λ e. omega arith), (λ e. omega arith)) ((λ e. omega arith), (λ e. omega arith))))
    (range-ordered Ahead 21 6 (λ i j a b c. ahead_of i j b ((λ e. omega arith), (λ e. omega arith)) ((λ e. omega arith), (λ e. omega arith))))

lex-as : {ms ns ms' ns' : List ℕ} → ms ≡ ms' → ns ≡ ns' → Lex ms' ns' → Lex ms ns
lex-as e f l = rw (e, f) l

-- the turn of a rule of a cell
abbrev cell_turn : ℕ → ℕ → ℕ → List ℕ
cell_turn t i n = suc t ∷ 0 ∷ suc i ∷ n ∷ 0 ∷ []

cell-turn : (t i n : ℕ) → NotLink n → in_turn (cell_breach t i n) ≡ cell_turn t i n
cell-turn t i n h = rw (ne_eqb n 27 h) refl

before-cell : (t i m t' i' n : ℕ) → NotLast m × NotLink m → NotLast n × NotLink n → Lex (cell_turn t i m) (cell_turn t' i' n) → Before (cell_breach t i m) (cell_breach t' i' n)
before-cell t i m t' i' n h k l =
    alike (λ e. absurd (h.0 e)) (λ e. absurd (k.0 e)) (lex-as (cell-turn t i m h.1) (cell-turn t' i' n k.1) l)

module _ (q : System) (p : Plan) where
  rule-in-cell : (t i n : ℕ) → NotLast n → NotLink n → RuleAt q p (cell_breach t i n) ≡ CellRule q p t i n
  unfolding RuleAt
  rule-in-cell t i n h k =
      let e : suc t - 1 ≡ t = omega arith in
      let f : suc i - 1 ≡ i = omega arith in
      rw (ne_eqb n 20 h, ne_eqb n 27 k, e, f) refl

  rule-in-link : (t : ℕ) → RuleAt q p (link_breach t 27) ≡ Rule27 q p t
  unfolding RuleAt
  rule-in-link t =
      let e : suc t - 1 ≡ t = omega arith in
      rw e refl

  rule-in-window : (i w : ℕ) → RuleAt q p (window_breach i w 20) ≡ Rule20 q p i w
  unfolding RuleAt
  rule-in-window i w =
      let e : suc i - 1 ≡ i = omega arith in
      let f : suc w - 1 ≡ w = omega arith in
      rw (e, f) refl

  -- ---- what is listed

  -- a breach of a cell, of a link, and of a window
  InCell : ℕ → ℕ → Breach → Type 0
  InCell t i b = (n : ℕ) × Memᴰ n cell_numbers × (CellRule q p t i n → ⊥) × (b ≡ cell_breach t i n)

  InLink : ℕ → Breach → Type 0
  InLink t b = (Rule27 q p t → ⊥) × (b ≡ link_breach t 27)

  InWindow : ℕ → ℕ → Breach → Type 0
  InWindow i w b = (Rule20 q p i w → ⊥) × (b ≡ window_breach i w 20)

  cell-listed : (t i : ℕ) → All (InCell t i) (cell_breaches q p t i)
  unfolding cell_breaches InCell
  cell-listed t i = map-of-all (InCell t i) (cell_breach t i) (failing (cell_tests q p t i))
      (all-zip (λ n m f. (n, m, f, refl)) (failing (cell_tests q p t i))
      (failing-keeps (λ n. Memᴰ n cell_numbers) (cell_tests q p t i) (rw (numbers-are q p t i) (all_of (λ n. Memᴰ n cell_numbers) cell_numbers (λ n m. m))))
      (failing-all (CellRule q p t i) (cell_tests q p t i) (cell-decided q p t i)))

  cell-in : (t i n : ℕ) → Memᴰ n cell_numbers → (CellRule q p t i n → ⊥) → Memᴰ (cell_breach t i n) (cell_breaches q p t i)
  unfolding cell_breaches
  cell-in t i n m f = in_map (cell_breach t i) (failing (cell_tests q p t i)) (failing-in (CellRule q p t i) (cell_tests q p t i) (cell-decided q p t i) n (rw (numbers-are q p t i) m) f)

  cell-ordered : (t i : ℕ) → Ordered Before (cell_breaches q p t i)
  unfolding cell_breaches
  cell-ordered t i = map-ordered Ahead Before (cell_breach t i)
      (λ m n h. before-cell t i m t i n h.1 h.2 (inr (refl, inr (refl, inr (refl, inl h.0)))))
      (failing (cell_tests q p t i)) (failing-ordered Ahead (cell_tests q p t i) (rw (numbers-are q p t i) numbers-ordered))

  cell-known : (t i n : ℕ) → Memᴰ n cell_numbers → Known (CellRule q p t i n)
  cell-known t i n m = each-known (CellRule q p t i) (cell_tests q p t i) (cell-decided q p t i) n (rw (numbers-are q p t i) m)

  link-listed : (t : ℕ) → All (InLink t) (link_breaches q p t)
  unfolding link_breaches failing InLink
  link-listed t = go (link_test q p t) (link-decided q p t)
    where
      go : (b : Bool) → Decides (Rule27 q p t) b → All (InLink t) (map (link_breach t) (unless b 27 []))
      go true d = tt
      go false d = (((λ r. d.no r), refl), tt)

  link-in : (t : ℕ) → (Rule27 q p t → ⊥) → Memᴰ (link_breach t 27) (link_breaches q p t)
  unfolding link_breaches failing
  link-in t f = go (link_test q p t) (link-decided q p t)
    where
      go : (b : Bool) → Decides (Rule27 q p t) b → Memᴰ (link_breach t 27) (map (link_breach t) (unless b 27 []))
      go true d = absurd (f (d.yes tt))
      go false d = Memᴰ.head refl

  link-ordered : (t : ℕ) → Ordered Before (link_breaches q p t)
  unfolding link_breaches failing
  link-ordered t = go (link_test q p t)
    where
      go : (b : Bool) → Ordered Before (map (link_breach t) (unless b 27 []))
      go true = tt
      go false = (tt, tt)

  window-decided : (i w : ℕ) → Decides (Rule20 q p i w) (window_test q p i w)
  window-decided i w = record { yes = leb→le _ _; no = le→leb _ _ }

  window-listed : (i w : ℕ) → All (InWindow i w) (one_window q p i w)
  unfolding one_window failing InWindow
  window-listed i w = go (window_test q p i w) (window-decided i w)
    where
      go : (b : Bool) → Decides (Rule20 q p i w) b → All (InWindow i w) (map (window_breach i w) (unless b 20 []))
      go true d = tt
      go false d = (((λ r. d.no r), refl), tt)

  window-in : (i w : ℕ) → (Rule20 q p i w → ⊥) → Memᴰ (window_breach i w 20) (one_window q p i w)
  unfolding one_window failing
  window-in i w f = go (window_test q p i w) (window-decided i w)
    where
      go : (b : Bool) → Decides (Rule20 q p i w) b → Memᴰ (window_breach i w 20) (map (window_breach i w) (unless b 20 []))
      go true d = absurd (f (d.yes tt))
      go false d = Memᴰ.head refl

  window-ordered : (i w : ℕ) → Ordered Before (one_window q p i w)
  unfolding one_window failing
  window-ordered i w = go (window_test q p i w)
    where
      go : (b : Bool) → Ordered Before (map (window_breach i w) (unless b 20 []))
      go true = tt
      go false = (tt, tt)

  -- of an interval's cells, of an interval, of the day's intervals, of a device's windows, of all windows
  InCells : ℕ → Breach → Type 0
  InCells t b = (i : ℕ) × (i < devices q) × InCell t i b

  InInterval : ℕ → Breach → Type 0
  InInterval t b = InCells t b ⊎ InLink t b

  InDay : Breach → Type 0
  InDay b = (t : ℕ) × (t < intervals q) × InInterval t b

  InDevice : ℕ → Breach → Type 0
  InDevice i b = (w : ℕ) × (w < length (device q i).start_windows) × InWindow i w b

  InWindows : Breach → Type 0
  InWindows b = (i : ℕ) × (i < devices q) × InDevice i b

  abbrev cells : ℕ → List Breach
  cells t = gather (cell_breaches q p t) (up_to (devices q))

  cells-listed : (t : ℕ) → All (InCells t) (cells t)
  unfolding InCells
  cells-listed t = all-gather (InCells t) (cell_breaches q p t) (up_to (devices q)) (all-up_to _ (devices q) (λ i l. all_map (λ b h. (i, l, h)) (cell_breaches q p t i) (cell-listed t i)))

  interval-listed : (t : ℕ) → All (InInterval t) (interval_breaches q p t)
  unfolding InInterval
  interval-listed t = all_append (InInterval t) (cells t) (link_breaches q p t)
      (all_map (λ b h. inl h) (cells t) (cells-listed t)) (all_map (λ b h. inr h) (link_breaches q p t) (link-listed t))

  day-listed : All InDay (all_intervals q p)
  unfolding InDay
  day-listed = all-gather InDay _ (up_to (intervals q)) (all-up_to _ (intervals q) (λ t l. all_map (λ b h. (t, l, h)) (interval_breaches q p t) (interval-listed t)))

  device-listed : (i : ℕ) → All (InDevice i) (window_breaches q p i)
  unfolding InDevice window_breaches
  device-listed i = all-gather (InDevice i) (one_window q p i) (up_to (length (device q i).start_windows)) (all-up_to _ _ (λ w l. all_map (λ b h. (w, l, h)) (one_window q p i w) (window-listed i w)))

  windows-listed : All InWindows (all_windows q p)
  unfolding InWindows
  windows-listed = all-gather InWindows (window_breaches q p) (up_to (devices q)) (all-up_to _ (devices q) (λ i l. all_map (λ b h. (i, l, h)) (window_breaches q p i) (device-listed i)))

  day-failed : (b : Breach) → InDay b → (Failed q p) b
  unfolding InDay InInterval InCells InCell InLink
  day-failed b h = go h.2
    where
      t : ℕ
      t = h.0

      go : InCells t b ⊎ InLink t b → (Failed q p) b
      go (inl k) =
          let i = k.0 in let n = k.2.0 in let m = k.2.1 in let e : b ≡ cell_breach t i n = k.2.3 in
          record {
            place = in_cell t i n h.1 k.1 m e;
            not = λ r. k.2.2 (rw (sym (rule-in-cell t i n (not_last m) (not-link m)), sym e) r);
          }
      go (inr k) =
          let e : b ≡ link_breach t 27 = k.1 in
          record { place = in-link t h.1 e; not = λ r. k.0 (rw (sym (rule-in-link t), sym e) r) }

  windows-failed : (b : Breach) → InWindows b → (Failed q p) b
  unfolding InWindows InDevice InWindow
  windows-failed b h =
      let i = h.0 in let w = h.2.0 in let e : b ≡ window_breach i w 20 = h.2.2.1 in
      record {
        place = in_window i w h.1 h.2.1 e;
        not = λ r. h.2.2.0 (rw (sym (rule-in-window i w), sym e) r);
      }

  -- every entry names a rule of the case that fails
  pub listed-fails : All (Failed q p) (breaches q p)
  unfolding breaches
  listed-fails = all_append (Failed q p) (all_intervals q p) (all_windows q p) (all_map day-failed (all_intervals q p) day-listed) (all_map windows-failed (all_windows q p) windows-listed)

  -- and every such rule has its entry
  pub fails-listed : (b : Breach) → (Failed q p) b → Memᴰ b (breaches q p)
  unfolding breaches window_breaches
  fails-listed b f = go f.place
    where
      go : Placed q b → Memᴰ b (all_intervals q p ++ all_windows q p)
      go (in_cell t i n l k m e) = Memᴰ.append_left {s = all_intervals q p} (all_windows q p)
          (in-gather (interval_breaches q p) (up_to (intervals q)) {a = t} (in-range 0 (intervals q) t (omega arith) (omega arith))
          (Memᴰ.append_left {s = cells t} (link_breaches q p t)
          (in-gather (cell_breaches q p t) (up_to (devices q)) {a = i} (in-range 0 (devices q) i (omega arith) (omega arith))
          (rw e (cell-in t i n m (λ r. f.not (rw (e, rule-in-cell t i n (not_last m) (not-link m)) r)))))))
      go (in-link t l e) = Memᴰ.append_left {s = all_intervals q p} (all_windows q p)
          (in-gather (interval_breaches q p) (up_to (intervals q)) {a = t} (in-range 0 (intervals q) t (omega arith) (omega arith))
          (Memᴰ.append_right (cells t) (rw e (link-in t (λ r. f.not (rw (e, rule-in-link t) r))))))
      go (in_window i w l k e) = Memᴰ.append_right (all_intervals q p)
          (in-gather (window_breaches q p) (up_to (devices q)) {a = i} (in-range 0 (devices q) i (omega arith) (omega arith))
          (in-gather (one_window q p i) (up_to (length (device q i).start_windows)) {a = w} (in-range 0 _ w (omega arith) (omega arith))
          (rw e (window-in i w (λ r. f.not (rw (e, rule-in-window i w) r))))))

  -- ---- the order of the list
  before-cells : (t i j : ℕ) {a b : Breach} → InCell t i a → InCell t j b → i < j → Before a b
  unfolding InCell
  before-cells t i j h k l =
      rw (h.3, k.3) (before-cell t i h.0 t j k.0 (not_last h.1, not-link h.1) (not_last k.1, not-link k.1) (inr (refl, inr (refl, inl (omega arith)))))

  cells-ordered : (t : ℕ) → Ordered Before (cells t)
  cells-ordered t = ordered-gather Before (InCell t) (cell_breaches q p t)
      (λ i j a b l h k. before-cells t i j h k l)
      0 (devices q) (λ i l m. cell-listed t i) (λ i l m. cell-ordered t i)

  -- "Rule 27 .. stands after an interval's devices"
  cell-before-link : (t : ℕ) (a b : Breach) → InCells t a → InLink t b → Before a b
  unfolding InCells InCell InLink
  cell-before-link t a b h k =
      let i = h.2.0 in
      rw (h.2.3, k.1) (alike (λ e. absurd (not_last h.2.1 e)) (λ e. absurd (omega arith))
      (lex-as {ns = in_turn (link_breach t 27)} (cell-turn t h.0 i (not-link h.2.1)) refl (inr (refl, inl (omega arith)))))

  interval-ordered : (t : ℕ) → Ordered Before (interval_breaches q p t)
  interval-ordered t = ordered-append Before (InCells t) (InLink t) (cell-before-link t) (cells t) (link_breaches q p t) (cells-listed t) (link-listed t) (cells-ordered t) (link-ordered t)

  -- in interval t, and not of rule 20
  Of : ℕ → Breach → Type 0
  Of t b = (b.interval ≡ suc t) × (b.rule ≡ 20 → ⊥)

  of-interval : (t : ℕ) (b : Breach) → InInterval t b → Of t b
  unfolding InInterval InCells InCell InLink Of
  of-interval t b (inl h) = rw h.2.3 (refl, not_last h.2.1)
  of-interval t b (inr h) = rw h.1 (refl, λ e. omega arith)

  before-intervals : (s t : ℕ) (a b : Breach) → s < t → InInterval s a → InInterval t b → Before a b
  unfolding Of
  before-intervals s t a b l h k =
      let u = of-interval s a h in let v = of-interval t b k in
      alike (λ e. absurd (u.1 e)) (λ e. absurd (v.1 e)) (inl (omega (arith, u.0, v.0)))

  intervals-ordered : Ordered Before (all_intervals q p)
  intervals-ordered = ordered-gather Before InInterval (interval_breaches q p)
      before-intervals
      0 (intervals q) (λ t l m. interval-listed t) (λ t l m. interval-ordered t)

  before-windows : {i w j v : ℕ} {a b : Breach} → InWindow i w a → InWindow j v b → Lex (in_turn (window_breach i w 20)) (in_turn (window_breach j v 20)) → Before a b
  unfolding InWindow
  before-windows h k l = rw (h.1, k.1) (alike (λ e. refl) (λ e. refl) l)

  device-ordered : (i : ℕ) → Ordered Before (window_breaches q p i)
  unfolding window_breaches
  device-ordered i = ordered-gather Before (InWindow i) (one_window q p i)
      (λ v w a b l h k. before-windows h k (inr (refl, inr (refl, inr (refl, inr (refl, inl (omega arith)))))))
      0 (length (device q i).start_windows) (λ w l m. window-listed i w) (λ w l m. window-ordered i w)

  windows-ordered : Ordered Before (all_windows q p)
  unfolding InDevice
  windows-ordered = ordered-gather Before InDevice (window_breaches q p)
      (λ i j a b l h k. before-windows h.2 k.2 (inr (refl, inr (refl, inl (omega arith)))))
      0 (devices q) (λ i l m. device-listed i) (λ i l m. device-ordered i)

  interval-before-window : (a b : Breach) → InDay a → InWindows b → Before a b
  unfolding InDay InWindows InDevice InWindow Of
  interval-before-window a b h k = rw k.2.2.1 (last (of-interval h.0 a h.2).1 refl)

  -- the entries are strictly increasing in the paper's order, so each stands once
  pub listed-in-order : Ordered Before (breaches q p)
  unfolding breaches
  listed-in-order = ordered-append Before InDay InWindows interval-before-window (all_intervals q p) (all_windows q p) day-listed windows-listed intervals-ordered windows-ordered

  -- ---- what the verdict rests on
  pub rule-known : (b : Breach) → Placed q b → Known (RuleAt q p b)
  rule-known b (in_cell t i n l k m e) = rw (e, rule-in-cell t i n (not_last m) (not-link m)) (cell-known t i n m)
  rule-known b (in-link t l e) = rw (e, rule-in-link t) (known (link_test q p t) (link-decided q p t))
  rule-known b (in_window i w l k e) = rw (e, rule-in-window i w) (known (window_test q p i w) (window-decided i w))

  pub first-fails : (b : Breach) (bs : List Breach) → breaches q p ≡ b ∷ bs → (First q p) b
  first-fails b bs e =
      let h = subst (All (Failed q p)) e listed-fails in
      let o = subst (Ordered Before) e listed-in-order in
      record { fails = h.0; earlier = λ a l k. go a k o.0 (rule-known a l) (λ f. subst (Memᴰ a) e (fails-listed a (record { place = l; not = f }))) }
    where
      late : (a : Breach) → Before a b → All (Before b) bs → (a ≡ b) ⊎ Memᴰ a bs → ⊥
      late a k o (inl g) = not-before-itself b (rw g at k)
      late a k o (inr m) = one_way a b k (all_in (Before b) bs o m)

      go : (a : Breach) → Before a b → All (Before b) bs → Known (RuleAt q p a) → ((RuleAt q p a → ⊥) → Memᴰ a (b ∷ bs)) → RuleAt q p a
      go a k o (holds r) m = r
      go a k o (fails f) m = absurd (late a k o (Memᴰ.cases_cons (m f)))

  -- no breach: every rule holds
  pub none-every : breaches q p ≡ [] → EveryRule q p
  none-every e = record { holds = λ b l. go b l (rule-known b l) }
    where
      go : (b : Breach) → Placed q b → Known (RuleAt q p b) → RuleAt q p b
      go b l (holds r) = r
      go b l (fails f) = absurd (Memᴰ.not-nil (subst (Memᴰ b) e (fails-listed b (record { place = l; not = f }))))

  -- every rule holds: no breach
  pub every-none : EveryRule q p → breaches q p ≡ []
  every-none r = go (breaches q p) listed-fails
    where
      go : (bs : List Breach) → All (Failed q p) bs → bs ≡ []
      go [] h = refl
      go (b ∷ bs) h = absurd (h.0.not (r.holds b h.0.place))

  -- the rule of a number in a cell of the case
  pub rule-of : EveryRule q p → (t i n : ℕ) → t < intervals q → i < devices q → T (has n cell_numbers) → CellRule q p t i n
  rule-of r t i n l k h =
      let m = in_list n cell_numbers h in
      rw (sym (rule-in-cell t i n (not_last m) (not-link m))) (r.holds (cell_breach t i n) (in_cell t i n l k m refl))

  -- the rules that bound a device's power
  module _ (r : EveryRule q p) (t i : ℕ) (l : t < intervals q) (k : i < devices q) where
    pub rule16-holds : Rule16 q p t i
    unfolding CellRule range
    rule16-holds = rule-of r t i 16 l k tt

    pub rule18-holds : Rule18 q p t i
    unfolding CellRule range
    rule18-holds = rule-of r t i 18 l k tt

    pub rule19-holds : Rule19 q p t i
    unfolding CellRule range
    rule19-holds = rule-of r t i 19 l k tt
