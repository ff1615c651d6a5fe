-- The formulation's rule for energy windows, which request A.3 exchanges: the whole of an interval counts where its midpoint lies in the window.
-- Where a window's edges lie on interval edges, both rules count the same minutes of every interval.
use Rattle.std.specs.Prelude.{◌≡◌, refl, Bool, true, false, ◌&&◌, ℕ, zero, suc, ◌+◌, ◌-◌, ◌*◌, ◌≤◌, ◌<◌, min, max, ltb, leb, get_or}
use Rattle.std.proofs.Common.{sym, ◌∙◌, arith, lt-ltb, le-ltb, le-leb}
use Rattle.std.proofs.Math.Decide.{dec_le}
use Rattle.std.proofs.lemmas.Bool.{lt-leb}
use Rattle.numbers.specs.Sum.{sumℕ, gate}
use Rattle.numbers.specs.Ranges.{sum-last}
use Rattle.model.specs.Case.{System, Plan}
use Rattle.model.specs.Forced.{duration, start_of, end_of, midpoint}
use Rattle.model.specs.Completion.{minutes_in}

-- the minutes of an interval from s on, of twice h, by its midpoint
abbrev by_midpoint : (s h from until : ℕ) → ℕ
by_midpoint s h from until = gate (ltb from (s + h) && leb (s + h) until) (2 * h)

-- those that it shares with the window
abbrev shared : (s h from until : ℕ) → ℕ
shared s h from until = min (s + 2 * h) until - max s from

none : (x y : Bool) → gate (x && y) 0 ≡ 0
none true true = refl
none true false = refl
none false y = refl

not-both : (x : Bool) (n : ℕ) → gate (x && false) n ≡ 0
not-both true n = refl
not-both false n = refl

module _ (s h from until : ℕ) where
  -- the interval ends ahead of the window, begins behind it, or lies in it
  ahead : s + 2 * h ≤ from → shared s h from until ≡ by_midpoint s h from until
  ahead e = rw (le-ltb from (s + h) (omega arith)) (omega arith)

  behind : until ≤ s → shared s h from until ≡ by_midpoint s h from until
  behind e = go (dec_le 1 h)
    where
      go : Dec (1 ≤ h) → shared s h from until ≡ by_midpoint s h from until
      go (yes l) = rw (lt-leb (s + h) until (omega arith), not-both (ltb from (s + h)) (2 * h)) (omega arith)
      go (no l) = let z : h ≡ 0 = omega arith in rw (z, none (ltb from (s + 0)) (leb (s + 0) until)) (omega arith)

  inside : from ≤ s → s + 2 * h ≤ until → shared s h from until ≡ by_midpoint s h from until
  inside e f = go (dec_le 1 h)
    where
      go : Dec (1 ≤ h) → shared s h from until ≡ by_midpoint s h from until
      go (yes l) = rw (lt-ltb from (s + h) (omega arith), le-leb (s + h) until (omega arith)) (omega arith)
      go (no l) = let z : h ≡ 0 = omega arith in rw (z, none (ltb from (s + 0)) (leb (s + 0) until)) (omega arith)

module _ (q : System) where
  -- "window start < M ≤ window end" (212, 213)
  unfoldable pub minutes_by_midpoint : ℕ → ℕ → ℕ → ℕ
  minutes_by_midpoint from until t = gate (ltb from (midpoint q t) && leb (midpoint q t) until) (duration q t)

  end-next : (t : ℕ) → start_of q (suc t) ≡ start_of q t + 2 * get_or q.halves t 0
  unfolding start_of duration
  end-next t = sum-last (duration q) t

  -- S rises
  rises : (a n : ℕ) → start_of q a ≤ start_of q (a + n)
  rises a zero = let e : a + 0 ≡ a = omega arith in rw e (omega arith)
  rises a (suc n) = let e : a + suc n ≡ suc (a + n) = omega arith in rw e (omega (arith, rises a n, end-next (a + n)))

  start-order : (a b : ℕ) → a ≤ b → start_of q a ≤ start_of q b
  start-order a b h = let e : a + (b - a) ≡ b = omega arith in rw e at (rises a (b - a))

  -- a window from S of interval a to S of interval b, which is E of the one before: both rules agree in every interval t
  pub edges-agree : (p : Plan) (a b t : ℕ) → minutes_in q p (start_of q a) (start_of q b) t ≡ minutes_by_midpoint (start_of q a) (start_of q b) t
  unfolding minutes_in minutes_by_midpoint end_of midpoint duration
  edges-agree p a b t = go (dec_le (suc t) a) (dec_le b t)
    where
      go : Dec (suc t ≤ a) → Dec (b ≤ t) → shared (start_of q t) (get_or q.halves t 0) (start_of q a) (start_of q b) ≡ by_midpoint (start_of q t) (get_or q.halves t 0) (start_of q a) (start_of q b)
      go (yes l) e = ahead (start_of q t) (get_or q.halves t 0) (start_of q a) (start_of q b) (omega (arith, start-order (suc t) a l, end-next t))
      go (no l) (yes e) = behind (start_of q t) (get_or q.halves t 0) (start_of q a) (start_of q b) (start-order b t e)
      go (no l) (no e) = inside (start_of q t) (get_or q.halves t 0) (start_of q a) (start_of q b) (start-order a t (omega arith)) (omega (arith, start-order (suc t) b (omega arith), end-next t))
