-- The loops over the breaches of an interval's cells, of all intervals and of the day's windows, and a day without any.
use Rattle.std.specs.Prelude.{◌≡◌, List, [], ◌∷◌, ◌++◌, ℕ, ◌+◌, ◌≤◌, ◌<◌}
use Rattle.std.proofs.Math.Path.{refl}
use Rattle.std.proofs.Common.{sym, ◌∙◌, arith}
use Rattle.std.proofs.Math.Decide.{dec_le}
use Rattle.numbers.specs.Base.{up_to, gather}
use Rattle.numbers.specs.Every.{all-up_to, up_to-all}
use Rattle.numbers.specs.Sum.{All}
use Rattle.numbers.specs.Gather.{gather_none}
use Rattle.model.specs.Case.{System, Plan}
use Rattle.model.specs.Forced.{intervals, devices}
use Rattle.model.specs.Breaches.{cell_breaches, link_breaches, window_breaches, breaches}
use Rattle.failing_rules.specs.Day.{interval_cells, interval_breaches, day_breaches, day_windows, interval-is, day-is}
use Rattle.model.specs.declared.Breach.{Breach}
use Rattle.breaches.specs.First.{first, or_else, first-append, else-stop, else-pass, Left, loop-start, loop-held, loop-broken, loop-done}
use Rattle.std.specs.Prelude.{Option, Some, None}

-- nothing in all, nothing in a part
both-none : {A : Type 0} (xs ys : List A) → xs ++ ys ≡ [] → (xs ≡ []) × (ys ≡ [])
both-none [] ys h = (refl, h)
both-none (x ∷ xs) ys h = absurd (let z : ◌≡◌ {A = ℕ} 0 1 = cc in omega (arith, z))

each_none : {B : Type 0} (f : ℕ → List B) (ks : List ℕ) → gather f ks ≡ [] → All (λ k. f k ≡ []) ks
unfolding gather
each_none f [] h = tt
each_none f (k ∷ ks) h = let b = both-none (f k) (gather f ks) h in (b.0, each_none f ks b.1)

gathered_none : {B : Type 0} (f : ℕ → List B) (n : ℕ) → gather f (up_to n) ≡ [] → (k : ℕ) → k < n → f k ≡ []
gathered_none f n h = up_to-all (λ k. f k ≡ []) n (each_none f (up_to n) h)

module _ (q : System) (p : Plan) where
  -- the intervals' breaches, then the windows'
  day-first : first (breaches q p) ≡ or_else (first (day_breaches q p)) (first (day_windows q p))
  day-first = rw (day-is q p) (first-append (day_breaches q p) (day_windows q p))

  pub day-stop : {x : Option Breach} {y : Breach} → x ≡ first (day_breaches q p) → x ≡ Some y → x ≡ first (breaches q p)
  day-stop e b = rw day-first (else-stop (first (day_windows q p)) e b)

  pub day-pass : {x y : Option Breach} → x ≡ first (day_breaches q p) → x ≡ None → y ≡ first (day_windows q p) → y ≡ first (breaches q p)
  day-pass e b f = rw day-first (else-pass e b f)

  -- the cells' breaches of an interval, then its link's
  module _ (t : ℕ) where
    interval-first : first (interval_breaches q p t) ≡ or_else (first (interval_cells q p t)) (first (link_breaches q p t))
    interval-first = rw (interval-is q p t) (first-append (interval_cells q p t) (link_breaches q p t))

    pub interval-found : {x y z : Option Breach} → x ≡ first (interval_cells q p t) → y ≡ first (link_breaches q p t) → z ≡ or_else x y → z ≡ first (interval_breaches q p t)
    interval-found e f g = g ∙ rw (e, f) (sym interval-first)

  -- ---- the loops over devices, intervals, and devices again: what is left gives what the whole gives

  pub record CellsLeft (t i : ℕ) : Type 0 where
    pub left : Left (cell_breaches q p t) (devices q) i

  pub record IntervalsLeft (t : ℕ) : Type 0 where
    pub left : Left (interval_breaches q p) (intervals q) t

  pub record WindowsLeft (i : ℕ) : Type 0 where
    pub left : Left (window_breaches q p) (devices q) i

  pub cells-start : (t : ℕ) → CellsLeft t 0
  cells-start t = record { left = loop-start (cell_breaches q p t) (devices q) }

  pub intervals-start : IntervalsLeft 0
  intervals-start = record { left = loop-start (interval_breaches q p) (intervals q) }

  pub windows-start : WindowsLeft 0
  windows-start = record { left = loop-start (window_breaches q p) (devices q) }

  module _ {n : ℕ} (many : devices q ≡ n) where
    module _ {t i : ℕ} {x : Option Breach} (l : i < n) (left : CellsLeft t i) (e : x ≡ first (cell_breaches q p t i)) where
      pub cells-held : x ≡ None → CellsLeft t (i + 1)
      cells-held b = record { left = loop-held _ (omega arith) left.left e b }

      pub cells-broken : {y : Breach} → x ≡ Some y → x ≡ first (interval_cells q p t)
      unfolding interval_cells
      cells-broken b = loop-broken _ (omega arith) left.left e b

    pub cells-done : {t i : ℕ} → n ≤ i → CellsLeft t i → None ≡ first (interval_cells q p t)
    unfolding interval_cells
    cells-done l left = loop-done _ (omega arith) left.left

    module _ {i : ℕ} {x : Option Breach} (l : i < n) (left : WindowsLeft i) (e : x ≡ first (window_breaches q p i)) where
      pub windows-held : x ≡ None → WindowsLeft (i + 1)
      windows-held b = record { left = loop-held _ (omega arith) left.left e b }

      pub windows-broken : {y : Breach} → x ≡ Some y → x ≡ first (day_windows q p)
      unfolding day_windows
      windows-broken b = loop-broken _ (omega arith) left.left e b

    pub windows-done : {i : ℕ} → n ≤ i → WindowsLeft i → None ≡ first (day_windows q p)
    unfolding day_windows
    windows-done l left = loop-done _ (omega arith) left.left

  module _ {m : ℕ} (many : intervals q ≡ m) where
    module _ {t : ℕ} {x : Option Breach} (l : t < m) (left : IntervalsLeft t) (e : x ≡ first (interval_breaches q p t)) where
      pub intervals-held : x ≡ None → IntervalsLeft (t + 1)
      intervals-held b = record { left = loop-held _ (omega arith) left.left e b }

      pub intervals-broken : {y : Breach} → x ≡ Some y → x ≡ first (day_breaches q p)
      unfolding day_breaches
      intervals-broken b = loop-broken _ (omega arith) left.left e b

    pub intervals-done : {t : ℕ} → m ≤ t → IntervalsLeft t → None ≡ first (day_breaches q p)
    unfolding day_breaches
    intervals-done l left = loop-done _ (omega arith) left.left

  -- ---- no breach

  -- device i breaks no rule
  pub record DeviceHolds (m i : ℕ) : Type 0 where
    pub cells : (t : ℕ) → t < m → cell_breaches q p t i ≡ []
    pub windows : window_breaches q p i ≡ []

  -- nor do those below n
  pub record HoldTo (m n : ℕ) : Type 0 where
    pub at : (i : ℕ) → i < n → DeviceHolds m i

  pub hold-none : (m : ℕ) → HoldTo m 0
  hold-none m = record { at = λ i h. absurd (omega arith) }

  pub hold-next : {m n : ℕ} → HoldTo m n → DeviceHolds m n → HoldTo m (n + 1)
  hold-next {m} {n} h e = record { at = λ i l. go i l (dec_le n i) }
    where
      go : (i : ℕ) → i < n + 1 → Dec (n ≤ i) → DeviceHolds m i
      go i l (yes x) = let z : i ≡ n = omega arith in rw z e
      go i l (no x) = h.at i (omega arith)

  pub none_at_all : {m n : ℕ} → intervals q ≡ m → devices q ≡ n → ((t : ℕ) → t < m → link_breaches q p t ≡ []) → HoldTo m n → breaches q p ≡ []
  unfolding interval_cells day_breaches day_windows
  none_at_all e f l h = rw (
    day-is q p,
    gather_none (interval_breaches q p) (up_to (intervals q)) (all-up_to _ _ (λ t a. rw (
      interval-is q p t,
      gather_none (cell_breaches q p t) (up_to (devices q)) (all-up_to _ _ (λ i b. (h.at i (omega arith)).cells t (omega arith))),
      l t (omega arith),
    ) refl)),
    gather_none (window_breaches q p) (up_to (devices q)) (all-up_to _ _ (λ i b. (h.at i (omega arith)).windows)),
  ) refl

  -- and back: no breach at all, none of a link or a device
  pub record NoneAt (m n : ℕ) : Type 0 where
    pub links : (t : ℕ) → t < m → link_breaches q p t ≡ []
    pub devices-hold : HoldTo m n

  pub none-anywhere : {m n : ℕ} → intervals q ≡ m → devices q ≡ n → breaches q p ≡ [] → NoneAt m n
  unfolding interval_cells day_breaches day_windows
  none-anywhere e f h = record {
    links = λ t l. (interval t (omega arith)).1;
    devices-hold = record {
      at = λ i l. record {
        cells = λ t k. gathered_none (cell_breaches q p t) (devices q) (interval t (omega arith)).0 i (omega arith);
        windows = gathered_none (window_breaches q p) (devices q) parts.1 i (omega arith);
      };
    };
  }
    where
      parts : (day_breaches q p ≡ []) × (day_windows q p ≡ [])
      parts = both-none (day_breaches q p) (day_windows q p) (sym (day-is q p) ∙ h)

      interval : (t : ℕ) → t < intervals q → (interval_cells q p t ≡ []) × (link_breaches q p t ≡ [])
      interval t l = both-none (interval_cells q p t) (link_breaches q p t) (sym (interval-is q p t) ∙ gathered_none (interval_breaches q p) (intervals q) parts.0 t l)

  pub first-none : breaches q p ≡ [] → None ≡ first (breaches q p)
  unfolding first
  first-none e = rw e refl
