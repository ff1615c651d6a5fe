-- The tests say what the rules say: each numbered test of an interval and device decides the rule of its number.
use Rattle.std.specs.Prelude.{◌≡◌, Bool, true, false, ◌&&◌, map, ℕ, ◌-◌, ◌≤◌, ◌<◌, T, ltb, leb, eqb, ℤ, pos, neg_ℤ, ◌≤ℤ◌}
use Rattle.std.proofs.Math.Path.{refl}
use Rattle.std.proofs.Common.{sym, leb→le, le→leb, lt→ltb, ltb→lt, eqb→eq}
use Rattle.std.proofs.Math.Dec.{eqb_refl}
use Rattle.std.specs.Int.Signed.{le_z}
use Rattle.numbers.specs.Sum.{All}
use Rattle.numbers.specs.Base.{range, up_to, implies, every}
use Rattle.numbers.specs.Tests.{and_in, and_l, and_r}
use Rattle.numbers.specs.Every.{all-up_to, up_to-all, every_in, every-out, all_append}
use Rattle.numbers.specs.Laws.{≤-antisym, ≤-of-≡}
use Rattle.model.specs.Case.{System, Plan}
use Rattle.model.specs.Forced.{device, cell, start_of, flow, u, sd, su}
use Rattle.model.specs.Rules.{CellRule, Rule1, Rule19, Rule27, cell_numbers}
use Rattle.model.specs.Breaches.{apart, eq_z, first_tests, floors_kept, caps_kept, real_tests, reactive_tests, cell_tests, link_test}
use Rattle.model.specs.Tests.{Decided, Decides}

-- ---- tests
if-in : (a b : Bool) → (T a → T b) → T (implies a b)
if-in true b h = h tt
if-in false b h = tt

if-out : (a b : Bool) → T (implies a b) → T a → T b
if-out true b h i = h
if-out false b h i = absurd i

pub same : {m n : ℕ} → m ≡ n → T (eqb m n)
same {m} {n} e = rw e (eqb_refl n)

by_le : (m n : ℕ) → Decides (m ≤ n) (leb m n)
by_le m n = record { yes = leb→le m n; no = le→leb m n }

by-lt : (m n : ℕ) → Decides (m < n) (ltb m n)
by-lt m n = record { yes = ltb→lt m n; no = lt→ltb m n }

by-eq : (m n : ℕ) → Decides (m ≡ n) (eqb m n)
by-eq m n = record { yes = eqb→eq m n; no = same }

by-leℤ : (y z : ℤ) → Decides (y ≤ℤ z) (le_z y z)
by-leℤ y z = record { yes = λ h. record { le = h }; no = λ h. h.le }

by-eqℤ : (y z : ℤ) → Decides (y ≡ z) (eq_z y z)
by-eqℤ y z = record {
  yes = λ h. ≤-antisym (record { le = and_l (le_z y z) (le_z z y) h }) (record { le = and_r (le_z y z) (le_z z y) h });
  no = λ h. and_in (le_z y z) (le_z z y) (≤-of-≡ h).le (≤-of-≡ (sym h)).le;
}

by-if : {A B : Type 0} {a b : Bool} → Decides A a → Decides B b → Decides (A → B) (implies a b)
by-if {A} {B} {a} {b} f g = record { yes = λ h x. g.yes (if-out a b h (f.no x)); no = λ h. if-in a b (λ x. g.no (h (f.yes x))) }

by_and : {A B : Type 0} {a b : Bool} → Decides A a → Decides B b → Decides (A × B) (a && b)
by_and {A} {B} {a} {b} f g = record { yes = λ h. (f.yes (and_l a b h), g.yes (and_r a b h)); no = λ h. and_in a b (f.no h.0) (g.no h.1) }

by-every : (P : ℕ → Type 0) (f : ℕ → Bool) (n : ℕ) → ((e : ℕ) → Decides (P e) (f e)) → Decides ((e : ℕ) → e < n → P e) (every f (up_to n))
by-every P f n d = record {
  yes = λ h e l. (d e).yes (up_to-all (λ e. T (f e)) n (every-out f (up_to n) h) e l);
  no = λ h. every_in f (up_to n) (all-up_to (λ e. T (f e)) n (λ e l. (d e).no (h e l)));
}

-- ---- one interval and device
module _ (q : System) (p : Plan) (t i : ℕ) where
  by-status : Decides (Rule1 q p t i) (implies (eqb (cell q t i).status 1) (eqb (u q p t i) 1) && implies (eqb (cell q t i).status 2) (eqb (u q p t i) 0))
  by-status =
      let d = by_and (by-if (by-eq (cell q t i).status 1) (by-eq (u q p t i) 1)) (by-if (by-eq (cell q t i).status 2) (by-eq (u q p t i) 0)) in
      record { yes = λ h. record { on = (d.yes h).0; off = (d.yes h).1 }; no = λ r. d.no (r.on, r.off) }

  by_apart : (m : ℕ) (was : ℕ → ℕ → ℕ) → Decides ((e : ℕ) → e < t → was e i ≡ 1 → m ≤ start_of q t - start_of q e) (apart q p t i m was)
  unfolding apart
  by_apart m was = by-every (λ e. was e i ≡ 1 → m ≤ start_of q t - start_of q e) _ t (λ e. by-if (by-eq (was e i) 1) (by_le m (start_of q t - start_of q e)))

  first-decided : All (Decided q p t i) (first_tests q p t i)
  unfolding first_tests CellRule
  first-decided = (
    by-status,
    (
      by-if (by-lt _ _) (by-eq _ _),
      (
        by-if (by-eq _ _) (by_apart (device q i).min_down (sd q p)),
        (
          by-if (by-eq _ _) (by_apart (device q i).min_up (su q p)),
          (
            by-leℤ _ _,
            (
              by-leℤ _ _,
              (
                by_le _ _,
                (
                  by_le _ _,
                  (
                    by_le _ _,
                    (
                      by_le _ _,
                      (
                        by_le _ _,
                        (
                          by_le _ _,
                          (
                            by_le _ _,
                            (
                              by_le _ _,
                              (
                                by-eq _ _,
                                (
                                  by_le _ _,
                                  (
                                    by-leℤ _ _,
                                    (
                                      by_le _ _,
                                      tt,
                                    ),
                                  ),
                                ),
                              ),
                            ),
                          ),
                        ),
                      ),
                    ),
                  ),
                ),
              ),
            ),
          ),
        ),
      ),
    ),
  )

  by_blocks : Decides (Rule19 q p t i) (floors_kept q p t i && caps_kept q p t i)
  by_blocks = let d = by_and (by_le _ _) (by_le _ _) in record { yes = λ h. record { floors = (d.yes h).0; caps = (d.yes h).1 }; no = λ r. d.no (r.floors, r.caps) }

  real-decided : All (Decided q p t i) (real_tests q p t i)
  unfolding real_tests CellRule
  real-decided = all_append (Decided q p t i) (first_tests q p t i) _ first-decided (by_blocks, tt)

  reactive-decided : All (Decided q p t i) (reactive_tests q p t i)
  unfolding reactive_tests CellRule
  reactive-decided = (
    by-leℤ _ _,
    (
      by-leℤ _ _,
      (
        by-if (by-eq _ _) (by-leℤ _ _),
        (
          by-if (by-eq _ _) (by-leℤ _ _),
          (
            by-if (by-eq _ _) (by-eqℤ _ _),
            (
              by-if (by-eq _ _) (by_and (by-eq _ _) (by-eq _ _)),
              tt,
            ),
          ),
        ),
      ),
    ),
  )

  pub cell-decided : All (Decided q p t i) (cell_tests q p t i)
  unfolding cell_tests
  cell-decided = all_append (Decided q p t i) (real_tests q p t i) (reactive_tests q p t i) real-decided reactive-decided

  pub numbers-are : map (λ n. n.0) (cell_tests q p t i) ≡ cell_numbers
  unfolding cell_tests real_tests first_tests reactive_tests range
  numbers-are = refl

-- ---- one interval's link
pub link-decided : (q : System) (p : Plan) (t : ℕ) → Decides (Rule27 q p t) (link_test q p t)
link-decided q p t =
    let d = by_and (by-leℤ (flow q p t) (pos q.link_limit)) (by-leℤ (neg_ℤ (pos q.link_limit)) (flow q p t)) in
    record { yes = λ h. record { forth = (d.yes h).0; back = (d.yes h).1 }; no = λ r. d.no (r.forth, r.back) }
