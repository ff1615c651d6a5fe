-- A plan that breaks no rule: every test of every interval and device, of every link and window holds.
use Rattle.std.specs.Prelude.{◌≡◌, refl, Bool, true, false, ℕ, ◌+◌, T, length}
use mathlib.Core.List.{List, [], ◌∷◌, ◌++◌, map}
use Rattle.numbers.specs.Sum.{All}
use Rattle.numbers.specs.Base.{up_to, gather}
use Rattle.numbers.specs.Every.{all-up_to, up_to-all}
use Rattle.model.specs.declared.Breach.{Breach}
use Rattle.model.specs.Case.{System, Plan}
use Rattle.model.specs.Forced.{intervals, devices, device}
use Rattle.model.specs.Rules.{cell_breach, link_breach, window_breach}
use Rattle.model.specs.Breaches.{cell_tests, unless, failing, cell_breaches, link_test, link_breaches, interval_breaches, window_test, one_window, window_breaches, all_intervals, all_windows, breaches}
use Rattle.mending_theorems.specs.Held.{Held}
use Rattle.mending_theorems.specs.Clean.{Clean, None}

module _ {A : Type 0} where
  pub none_is : (l : List A) → None l → l ≡ []
  none_is [] h = refl
  none_is (x ∷ l) h = absurd h

  pub is_none : (l : List A) → l ≡ [] → None l
  is_none l e = rw e tt

  append-l : (l m : List A) → None (l ++ m) → None l
  append-l [] m h = tt
  append-l (x ∷ l) m h = h

  append-r : (l m : List A) → None (l ++ m) → None m
  append-r [] m h = h
  append-r (x ∷ l) m h = absurd h

  append-in : (l m : List A) → None l → None m → None (l ++ m)
  append-in [] m h k = k
  append-in (x ∷ l) m h k = h

module _ {A B : Type 0} where
  map-out : (f : A → B) (l : List A) → None (map f l) → None l
  map-out f [] h = tt
  map-out f (x ∷ l) h = h

  map-in : (f : A → B) (l : List A) → None l → None (map f l)
  map-in f [] h = tt
  map-in f (x ∷ l) h = h

  gather-out : (f : A → List B) (ks : List A) → None (gather f ks) → All (λ k. None (f k)) ks
  unfolding gather
  gather-out f [] h = tt
  gather-out f (k ∷ ks) h = (append-l (f k) (gather f ks) h, gather-out f ks (append-r (f k) (gather f ks) h))

  gather-in : (f : A → List B) (ks : List A) → All (λ k. None (f k)) ks → None (gather f ks)
  unfolding gather
  gather-in f [] h = tt
  gather-in f (k ∷ ks) h = append-in (f k) (gather f ks) h.0 (gather-in f ks h.1)

failing-out : (ns : List (ℕ × Bool)) → None (failing ns) → Held ns
unfolding failing
failing-out [] h = tt
failing-out (n ∷ ns) h = go n.1 h (failing-out ns)
  where
    go : (b : Bool) → None (unless b n.0 (failing ns)) → (None (failing ns) → Held ns) → T b × Held ns
    go true h r = (tt, r h)
    go false h r = absurd h

failing-in : (ns : List (ℕ × Bool)) → Held ns → None (failing ns)
unfolding failing
failing-in [] h = tt
failing-in (n ∷ ns) h = go n.1 h.0 (failing-in ns h.1)
  where
    go : (b : Bool) → T b → None (failing ns) → None (unless b n.0 (failing ns))
    go true h r = r
    go false h r = absurd h

-- the places of the failing tests of a list
named-out : (f : ℕ → Breach) (ns : List (ℕ × Bool)) → None (map f (failing ns)) → Held ns
named-out f ns h = failing-out ns (map-out f (failing ns) h)

named_in : (f : ℕ → Breach) (ns : List (ℕ × Bool)) → Held ns → None (map f (failing ns))
named_in f ns h = map-in f (failing ns) (failing-in ns h)

-- ---- the day
module _ (q : System) (p : Plan) where
  abbrev of_cells : ℕ → List Breach
  of_cells t = gather (cell_breaches q p t) (up_to (devices q))

  pub clean : None (breaches q p) → (Clean q p)
  unfolding breaches cell_breaches link_breaches window_breaches one_window
  clean h =
      let days = gather-out (interval_breaches q p) (up_to (intervals q)) (append-l (all_intervals q p) (all_windows q p) h) in
      let ends = gather-out (window_breaches q p) (up_to (devices q)) (append-r (all_intervals q p) (all_windows q p) h) in
      let day = up_to-all (λ t. None (interval_breaches q p t)) (intervals q) days in
      record {
        cells = λ t i l k. named-out (cell_breach t i) (cell_tests q p t i)
            (up_to-all (λ i. None (cell_breaches q p t i)) (devices q) (gather-out (cell_breaches q p t) (up_to (devices q)) (append-l (of_cells t) (link_breaches q p t) (day t l))) i k);
        links = λ t l. (named-out (link_breach t) ((27, link_test q p t) ∷ []) (append-r (of_cells t) (link_breaches q p t) (day t l))).0;
        windows = λ i w l k. (named-out (window_breach i w) ((20, window_test q p i w) ∷ [])
            (up_to-all (λ w. None (one_window q p i w)) _ (gather-out (one_window q p i) (up_to (length (device q i).start_windows))
            (up_to-all (λ i. None (window_breaches q p i)) (devices q) ends i l)) w k)).0;
      }

  pub unbroken : (Clean q p) → None (breaches q p)
  unfolding breaches cell_breaches link_breaches window_breaches one_window
  unbroken c = append-in (all_intervals q p) (all_windows q p)
      (gather-in (interval_breaches q p) (up_to (intervals q)) (all-up_to _ (intervals q) (λ t l. append-in (of_cells t) (link_breaches q p t)
      (gather-in (cell_breaches q p t) (up_to (devices q)) (all-up_to _ (devices q) (λ i k. named_in (cell_breach t i) (cell_tests q p t i) (c.cells t i l k))))
      (named_in (link_breach t) ((27, link_test q p t) ∷ []) (c.links t l, tt)))))
      (gather-in (window_breaches q p) (up_to (devices q)) (all-up_to _ (devices q) (λ i k.
      gather-in (one_window q p i) (up_to (length (device q i).start_windows)) (all-up_to _ _ (λ w l. named_in (window_breach i w) ((20, window_test q p i w) ∷ []) (c.windows i w k l, tt))))))
