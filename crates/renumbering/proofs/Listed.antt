-- The breaches of a case and plan whose devices were renumbered: the same ones, with device numbers carried along, and as many.
use Rattle.std.specs.Prelude.{◌≡◌, refl, ◌&&◌, ℕ, zero, suc, ◌+◌, ◌≤◌, ◌<◌, get_or, pos, neg_ℤ}
use Rattle.std.proofs.Math.Path.{sym, ap, ap₂}
use Rattle.std.proofs.Common.{◌∙◌, subst, arith}
use mathlib.Core.List.Memᴰ
use mathlib.Core.List.{List, [], ◌∷◌, map, Memᴰ}
use Rattle.std.proofs.Math.ListN.{length, length-append, length-map}
use Rattle.std.specs.Int.Signed.{le_z}
use Rattle.numbers.specs.Base.{up_to, gather}
use Rattle.numbers.specs.Sum.{All, sumℕ}
use Rattle.numbers.specs.Every.{all_in, all_of, all-up_to, all_append, all-gather, map-of-all, in_map, in-gather, in-range}
use Rattle.numbers.specs.Gather.{length-gather}
use Rattle.model.specs.declared.Breach.{Breach}
use Rattle.model.specs.Case.{System, Plan, Case, no_flow}
use Rattle.model.specs.Forced.{intervals, devices, device}
use Rattle.model.specs.Rules.{cell_breach, link_breach, window_breach, Placed, in_cell, in-link, in_window}
use Rattle.model.specs.Named.{Failed}
use Rattle.model.proofs.Named.{listed-fails}
use Rattle.model.specs.Breaches.{cell_tests, failing, cell_breaches, link_test, link_breaches, window_test, one_window, window_breaches, interval_breaches, all_intervals, all_windows, breaches}
use Rattle.renumbering.specs.Permute.{Renumbering}
use Rattle.renumbering.specs.Renumbered.{Moved, carried_number, carried_breach, undoing}
use Rattle.renumbering.proofs.Renumbered.{moved_back}
use Rattle.renumbering.proofs.Alike.{cell-tests-same, window-test-same}
use Rattle.renumbering.proofs.Seen.{alike, over-devicesℕ}

module _ (c : Case) (p : Plan) (r : Renumbering (devices c.system)) (c' : Case) (p' : Plan) (m : Moved c p r c' p') where
  abbrev q : System
  q = c.system

  abbrev q' : System
  q' = c'.system

  -- ---- the same tests
  cell-failing : (t i : ℕ) → i < devices q → failing (cell_tests q' p' t (r.to i)) ≡ failing (cell_tests q p t i)
  cell-failing t i h = ap failing (cell-tests-same q p i q' p' (r.to i) (alike c p r c' p' m i h) t)

  link-failing : (t : ℕ) → failing ((27, link_test q' p' t) ∷ []) ≡ failing ((27, link_test q p t) ∷ [])
  link-failing t = λ k. let f = get_or (m.flows k) t no_flow in failing ((27, le_z f (pos (m.link_limit k)) && le_z (neg_ℤ (pos (m.link_limit k))) f) ∷ [])

  window-failing : (i w : ℕ) → i < devices q → failing ((20, window_test q' p' (r.to i) w) ∷ []) ≡ failing ((20, window_test q p i w) ∷ [])
  window-failing i w h = λ k. failing ((20, window-test-same q p i q' p' (r.to i) (alike c p r c' p' m i h) w k) ∷ [])

  -- ---- each entry, carried along, stands in the other list
  Carried : Breach → Type 0
  Carried b = Memᴰ (carried_breach r.to b) (breaches q' p')

  interval-there : (t : ℕ) → t < intervals q → Memᴰ t (up_to (intervals q'))
  interval-there t l = in-range 0 (intervals q') t (omega arith) (omega (arith, ap length m.halves))

  device-there : (i : ℕ) → i < devices q → Memᴰ (r.to i) (up_to (devices q'))
  device-there i h = in-range 0 (devices q') (r.to i) (omega arith) (omega (arith, m.count, r.to_below i h))

  in-interval : (t : ℕ) → t < intervals q → (b : Breach) → Memᴰ b (interval_breaches q' p' t) → Memᴰ b (breaches q' p')
  unfolding breaches
  in-interval t l b e = Memᴰ.append_left {s = all_intervals q' p'} (all_windows q' p') (in-gather (interval_breaches q' p') (up_to (intervals q')) (interval-there t l) e)

  cell-carried : (t i : ℕ) → t < intervals q → i < devices q → All Carried (cell_breaches q p t i)
  unfolding Carried cell_breaches
  cell-carried t i l h = map-of-all Carried (cell_breach t i) (failing (cell_tests q p t i)) (all_of _ (failing (cell_tests q p t i)) (λ n e.
      in-interval t l (cell_breach t (r.to i) n)
      (Memᴰ.append_left {s = gather (cell_breaches q' p' t) (up_to (devices q'))} (link_breaches q' p' t)
      (in-gather (cell_breaches q' p' t) (up_to (devices q')) (device-there i h)
      (in_map (cell_breach t (r.to i)) (failing (cell_tests q' p' t (r.to i))) (rw (cell-failing t i h) e))))))

  link-carried : (t : ℕ) → t < intervals q → All Carried (link_breaches q p t)
  unfolding Carried link_breaches
  link-carried t l = map-of-all Carried (link_breach t) (failing ((27, link_test q p t) ∷ [])) (all_of _ (failing ((27, link_test q p t) ∷ [])) (λ n e.
      in-interval t l (link_breach t n)
      (Memᴰ.append_right (gather (cell_breaches q' p' t) (up_to (devices q')))
      (in_map (link_breach t) (failing ((27, link_test q' p' t) ∷ [])) (subst (Memᴰ n) (sym (link-failing t)) e)))))

  window-carried : (i w : ℕ) → i < devices q → w < length (device q i).start_windows → All Carried (one_window q p i w)
  unfolding Carried one_window window_breaches breaches
  window-carried i w h l = map-of-all Carried (window_breach i w) (failing ((20, window_test q p i w) ∷ [])) (all_of _ (failing ((20, window_test q p i w) ∷ [])) (λ n e.
      Memᴰ.append_right (all_intervals q' p')
      (in-gather (window_breaches q' p') (up_to (devices q')) (device-there i h)
      (in-gather (one_window q' p' (r.to i)) (up_to (length (device q' (r.to i)).start_windows)) {a = w}
      (in-range 0 _ w (omega arith) (omega (arith, ap (λ d. length d.start_windows) (m.device i h))))
      (in_map (window_breach (r.to i) w) (failing ((20, window_test q' p' (r.to i) w) ∷ [])) (subst (Memᴰ n) (sym (window-failing i w h)) e))))))

  all-carried : All Carried (breaches q p)
  unfolding breaches window_breaches
  all-carried = all_append Carried (all_intervals q p) (all_windows q p)
      (all-gather Carried (interval_breaches q p) (up_to (intervals q)) (all-up_to _ (intervals q) (λ t l.
      all_append Carried (gather (cell_breaches q p t) (up_to (devices q))) (link_breaches q p t)
      (all-gather Carried (cell_breaches q p t) (up_to (devices q)) (all-up_to _ (devices q) (λ i h. cell-carried t i l h)))
      (link-carried t l))))
      (all-gather Carried (window_breaches q p) (up_to (devices q)) (all-up_to _ (devices q) (λ i h.
      all-gather Carried (one_window q p i) (up_to (length (device q i).start_windows)) (all-up_to _ _ (λ w l. window-carried i w h l)))))

  pub breach-carried : (b : Breach) → Memᴰ b (breaches q p) → Memᴰ (carried_breach r.to b) (breaches q' p')
  unfolding Carried
  breach-carried b e = all_in Carried (breaches q p) all-carried e

  -- ---- as many
  cells-long : (t : ℕ) → length (gather (cell_breaches q' p' t) (up_to (devices q'))) ≡ length (gather (cell_breaches q p t) (up_to (devices q)))
  unfolding cell_breaches
  cells-long t =
      length-gather (cell_breaches q' p' t) (up_to (devices q'))
      ∙ over-devicesℕ c p r c' p' m (λ i. length (cell_breaches q p t i)) (λ i. length (cell_breaches q' p' t i))
      (λ i h. length-map (failing (cell_tests q' p' t (r.to i))) (cell_breach t (r.to i)) ∙ ap length (cell-failing t i h) ∙ sym (length-map (failing (cell_tests q p t i)) (cell_breach t i)))
      ∙ sym (length-gather (cell_breaches q p t) (up_to (devices q)))

  link-long : (t : ℕ) → length (link_breaches q' p' t) ≡ length (link_breaches q p t)
  unfolding link_breaches
  link-long t = λ k. length (map (link_breach t) (link-failing t k))

  interval-long : (t : ℕ) → length (interval_breaches q' p' t) ≡ length (interval_breaches q p t)
  interval-long t =
      length-append (gather (cell_breaches q' p' t) (up_to (devices q'))) (link_breaches q' p' t)
      ∙ ap₂ (λ (a b : ℕ). a + b) (cells-long t) (link-long t)
      ∙ sym (length-append (gather (cell_breaches q p t) (up_to (devices q))) (link_breaches q p t))

  intervals-long : length (all_intervals q' p') ≡ length (all_intervals q p)
  intervals-long =
      length-gather (interval_breaches q' p') (up_to (intervals q'))
      ∙ (λ k. sumℕ (λ t. interval-long t k) (up_to (length (m.halves k))))
      ∙ sym (length-gather (interval_breaches q p) (up_to (intervals q)))

  one-long : (i w : ℕ) → i < devices q → length (one_window q' p' (r.to i) w) ≡ length (one_window q p i w)
  unfolding one_window
  one-long i w h =
      length-map (failing ((20, window_test q' p' (r.to i) w) ∷ [])) (window_breach (r.to i) w)
      ∙ ap length (window-failing i w h)
      ∙ sym (length-map (failing ((20, window_test q p i w) ∷ [])) (window_breach i w))

  device-long : (i : ℕ) → i < devices q → length (window_breaches q' p' (r.to i)) ≡ length (window_breaches q p i)
  unfolding window_breaches
  device-long i h =
      length-gather (one_window q' p' (r.to i)) (up_to (length (device q' (r.to i)).start_windows))
      ∙ (λ k. sumℕ (λ w. one-long i w h k) (up_to (length (m.device i h k).start_windows)))
      ∙ sym (length-gather (one_window q p i) (up_to (length (device q i).start_windows)))

  windows-long : length (all_windows q' p') ≡ length (all_windows q p)
  windows-long =
      length-gather (window_breaches q' p') (up_to (devices q'))
      ∙ over-devicesℕ c p r c' p' m (λ i. length (window_breaches q p i)) (λ i. length (window_breaches q' p' i)) device-long
      ∙ sym (length-gather (window_breaches q p) (up_to (devices q)))

  pub as_many : length (breaches q' p') ≡ length (breaches q p)
  unfolding breaches
  as_many = length-append (all_intervals q' p') (all_windows q' p') ∙ ap₂ (λ (a b : ℕ). a + b) intervals-long windows-long ∙ sym (length-append (all_intervals q p) (all_windows q p))

-- ---- and no other

-- a device number of the case, carried there and back
carried-again : {n : ℕ} (r : Renumbering n) (b : Breach) → b.device ≤ n → carried_breach r.to (carried_breach r.back b) ≡ b
carried-again {n} r b h = λ k. record { rule = b.rule; interval = b.interval; device = go b.device h k; window = b.window }
  where
    go : (d : ℕ) → d ≤ n → carried_number r.to (carried_number r.back d) ≡ d
    go zero h = refl
    go (suc i) h = ap suc (r.again i (omega arith))

device-small : (q : System) (p : Plan) (b : Breach) → Failed q p b → b.device ≤ devices q
device-small q p b f = go f.place
  where
    go : Placed q b → b.device ≤ devices q
    go (in_cell t i n l k m e) = omega (arith, ap (λ (a : Breach). a.device) e)
    go (in-link t l e) = omega (arith, ap (λ (a : Breach). a.device) e)
    go (in_window i w l k e) = omega (arith, ap (λ (a : Breach). a.device) e)

module _ (c : Case) (p : Plan) (r : Renumbering (devices c.system)) (c' : Case) (p' : Plan) (m : Moved c p r c' p') where
  -- each entry of the other list is one of these, carried along
  pub breach-came : (b : Breach) → Memᴰ b (breaches c'.system p')
      → Memᴰ (carried_breach r.back b) (breaches c.system p) × (carried_breach r.to (carried_breach r.back b) ≡ b)
  breach-came b e = (
    breach-carried c' p' (undoing c p r c' p' m) c p (moved_back c p r c' p' m) b e,
    carried-again r b (omega (arith, m.count, device-small c'.system p' b (all_in (Failed c'.system p') (breaches c'.system p') (listed-fails c'.system p') e))),
  )

  pub none-carried : breaches c.system p ≡ [] → breaches c'.system p' ≡ []
  none-carried e = go (breaches c'.system p') (as_many c p r c' p' m ∙ ap length e)
    where
      go : (l : List Breach) → length l ≡ 0 → l ≡ []
      go [] h = refl
      go (b ∷ l) h = absurd (omega arith)

  pub none_came : breaches c'.system p' ≡ [] → breaches c.system p ≡ []
  none_came e = go (breaches c.system p) (sym (as_many c p r c' p' m) ∙ ap length e)
    where
      go : (l : List Breach) → length l ≡ 0 → l ≡ []
      go [] h = refl
      go (b ∷ l) h = absurd (omega arith)
