-- Where blocks have no floors, rule 19 and the filling of blocks are those of before.
use Rattle.std.specs.Prelude.{◌≡◌, refl, Bool, true, ◌&&◌, ℕ, ◌+◌, ◌-◌, ◌*◌, ℤ}
use Rattle.std.proofs.Math.Path.{ap, fun_ext}
use Rattle.std.proofs.Common.{◌∙◌, arith, le-leb}
use mathlib.Core.List.{List, [], ◌∷◌, ◌++◌, map}
use Rattle.std.proofs.Math.Nat.{mul-zero}
use Rattle.numbers.specs.Base.{range, up_to}
use Rattle.numbers.specs.Sum.{all}
use Rattle.numbers.specs.Every.{all-or}
use Rattle.numbers.specs.Gather.{gather_cong}
use Rattle.model.specs.declared.Breach.{Breach}
use Rattle.model.specs.Case.{System, Plan, Case, no_block, no_cell, no_device}
use Rattle.model.specs.Forced.{intervals, devices, device, cell, cap, floor, u, least, consuming, power}
use Rattle.model.specs.Rules.{blocks, cell_breach}
use Rattle.model.specs.Breaches.{floors_kept, caps_kept, first_tests, real_tests, reactive_tests, cell_tests, failing, cell_breaches, all_windows}
use Rattle.model.specs.Completion.{block_price}
use Rattle.model.specs.Ours.{filling, filling_above, with_blocks, ours}
use Rattle.model.specs.OneBar as O
use Rattle.model.specs.BeforeFloors as P
use Rattle.ranges.specs.Floorless.{BlockFloorless, CellFloorless, DeviceFloorless, SystemFloorless}

module _ (q : System) (p : Plan) (h : SystemFloorless q) where
  no-floor : (t i k : ℕ) → floor q t i k ≡ 0
  no-floor t i k = all-or BlockFloorless no_block refl (cell q t i).blocks
      (all-or CellFloorless no_cell tt (device q i).cells (all-or DeviceFloorless no_device tt q.devices h.devices i) t) k

  none-least : (t i : ℕ) → least q p t i ≡ (λ (k : ℕ). 0)
  unfolding least
  none-least t i = fun_ext (λ k. ap (λ (f : ℕ). u q p t i * f) (no-floor t i k) ∙ mul-zero (u q p t i))

  floors-hold : (t i : ℕ) → floors_kept q p t i ≡ true
  unfolding range
  floors-hold t i = rw (none-least t i) (le-leb 0 (power q p t i) (omega arith))

  tests-as-before : (t i : ℕ) → real_tests q p t i ≡ P.real_tests q p t i
  unfolding real_tests P.real_tests
  tests-as-before t i = ap (λ (b : Bool). first_tests q p t i ++ ((19, b && caps_kept q p t i) ∷ [])) (floors-hold t i)

  cells-as-before : (t i : ℕ) → cell_breaches q p t i ≡ P.cell_breaches q p t i
  unfolding cell_breaches P.cell_breaches cell_tests
  cells-as-before t i = ap (λ (ns : List (ℕ × Bool)). map (cell_breach t i) (failing (ns ++ reactive_tests q p t i))) (tests-as-before t i)

  pub breaches-as-before : O.breaches q p ≡ P.breaches q p
  unfolding O.breaches P.breaches
  breaches-as-before = ap (λ (bs : List Breach). bs ++ all_windows q p)
      (gather_cong _ _ (up_to (intervals q)) (all (λ t. gather_cong (cell_breaches q p t) (P.cell_breaches q p t) (up_to (devices q)) (all (cells-as-before t) (up_to (devices q)))) (up_to (intervals q))))

-- filling above floors of 0 is filling
above-none : (b : Bool) (price : ℕ → ℤ) (most : ℕ → ℕ) (p : ℕ) → filling_above b price (λ k. 0) most p ≡ filling b price most p
unfolding filling_above range
above-none b price most p = fun_ext (λ k. ap (λ (room : ℕ → ℕ). 0 + filling b price room (p - 0) k) (fun_ext (λ j. less_none (most j)))
    ∙ ap (λ (n : ℕ). 0 + filling b price most n k) (less_none p) ∙ omega arith)
  where
    less_none : (n : ℕ) → n - 0 ≡ n
    less_none n = omega arith

pub ours-as-before : (c : Case) (p : Plan) → SystemFloorless c.system → O.ours c p ≡ P.ours c p
unfolding ours O.ours P.ours
ours-as-before c p h = ap (λ (b : ℕ → ℕ → ℕ → ℕ). with_blocks b (O.ours c p)) (fun_ext (λ t. fun_ext (λ i.
    ap (λ (low : ℕ → ℕ). filling_above (consuming c.system i) (block_price c t i) low (cap c.system t i) (power c.system p t i)) (none-least c.system p h t i)
    ∙ above-none (consuming c.system i) (block_price c t i) (cap c.system t i) (power c.system p t i))))
