-- A listed breach, by the tests: at least one of its interval and device fails, or its link's, or its window's.
use Rattle.std.specs.Prelude.{◌≡◌, Bool, true, false, ℕ, ◌<◌, T, length}
use Rattle.std.proofs.Math.Path.{refl}
use Rattle.std.proofs.Common.{subst}
use mathlib.Core.List.{List, [], ◌∷◌}
use Rattle.numbers.specs.Sum.{All, all_map}
use Rattle.numbers.specs.Base.{up_to, gather}
use Rattle.numbers.specs.Every.{all_append, all-gather, all-up_to, map-of-all}
use Rattle.model.specs.declared.Breach.{Breach}
use Rattle.model.specs.Case.{System, Plan}
use Rattle.model.specs.Forced.{intervals, devices, device}
use Rattle.model.specs.Rules.{cell_breach, link_breach, window_breach}
use Rattle.model.specs.Breaches.{cell_tests, unless, failing, cell_breaches, link_test, link_breaches, interval_breaches, window_test, one_window, window_breaches, all_intervals, all_windows, breaches}
use Rattle.mending_theorems.specs.Held.{Held}
use Rattle.mending_theorems.specs.Where.{Where, in-link, in_cell, in_window}

not-held : (ns : List (ℕ × Bool)) → All (λ k. Held ns → ⊥) (failing ns)
unfolding failing
not-held [] = tt
not-held (n ∷ ns) = go n.1 (all_map (λ k f h. f h.1) (failing ns) (not-held ns))
  where
    go : (b : Bool) → All (λ k. T b × Held ns → ⊥) (failing ns) → All (λ k. T b × Held ns → ⊥) (unless b n.0 (failing ns))
    go true r = r
    go false r = ((λ h. h.0), r)

module _ (q : System) (p : Plan) where
  cell-where : (t i : ℕ) → t < intervals q → i < devices q → All (Where q p) (cell_breaches q p t i)
  unfolding cell_breaches
  cell-where t i l k = map-of-all (Where q p) (cell_breach t i) (failing (cell_tests q p t i)) (all_map (λ n f. in_cell t i l k f refl refl) (failing (cell_tests q p t i)) (not-held (cell_tests q p t i)))

  link-where : (t : ℕ) → t < intervals q → All (Where q p) (link_breaches q p t)
  unfolding link_breaches
  link-where t l = let ns : List (ℕ × Bool) = (27, link_test q p t) ∷ [] in
      map-of-all (Where q p) (link_breach t) (failing ns) (all_map (λ n f. in-link t l (λ h. f (h, tt)) refl refl) (failing ns) (not-held ns))

  window-where : (i w : ℕ) → i < devices q → w < length (device q i).start_windows → All (Where q p) (one_window q p i w)
  unfolding one_window
  window-where i w l k = let ns : List (ℕ × Bool) = (20, window_test q p i w) ∷ [] in
      map-of-all (Where q p) (window_breach i w) (failing ns) (all_map (λ n f. in_window i w l k (λ h. f (h, tt)) refl) (failing ns) (not-held ns))

  pub listed-where : All (Where q p) (breaches q p)
  unfolding breaches window_breaches
  listed-where = all_append (Where q p) (all_intervals q p) (all_windows q p)
      (all-gather (Where q p) (interval_breaches q p) (up_to (intervals q)) (all-up_to _ (intervals q) (λ t l.
      all_append (Where q p) (gather (cell_breaches q p t) (up_to (devices q))) (link_breaches q p t)
      (all-gather (Where q p) (cell_breaches q p t) (up_to (devices q)) (all-up_to _ (devices q) (λ i k. cell-where t i l k))) (link-where t l))))
      (all-gather (Where q p) (window_breaches q p) (up_to (devices q)) (all-up_to _ (devices q) (λ i k.
      all-gather (Where q p) (one_window q p i) (up_to (length (device q i).start_windows)) (all-up_to _ _ (λ w l. window-where i w k l)))))

  pub first-where : (b : Breach) (bs : List Breach) → breaches q p ≡ b ∷ bs → (Where q p) b
  first-where b bs e = (subst (All (Where q p)) e listed-where).0
