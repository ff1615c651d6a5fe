-- Whether no reactive test fails, by the code's answers, which are the tests'.
use Rattle.std.specs.Prelude.{◌≡◌, Bool, true, false, not, ◌↔◌, List, [], ◌∷◌, ◌++◌, ℕ, eqb}
use Rattle.std.proofs.Common.{sym, ◌∙◌}
use Rattle.std.proofs.lemmas.Bool.{not-true, not-false}
use Rattle.model.specs.Case as M
use Rattle.model.specs.Rules.{two_lines, equality}
use Rattle.model.specs.Breaches.{failing}
use Rattle.cell_bounds.specs.Word.{no_test, test-holds, all_hold, each-held, parts_held, word_none}
use Rattle.reactive_tests.specs.Tests.{limit_tests, line_tests, equality_tests, tests, no_lines, no-equality}

-- two tests in turn: `if !first(..) { return false; }`, then the second's answer
pub first-fails : (m : ℕ) (ns : List (ℕ × Bool)) {k a : Bool} → k ≡ a → not k ≡ true → failing ((m, a) ∷ ns) ≡ [] → false ≡ true
first-fails m ns {k} {a} e f h = sym (not-true k f) ∙ e ∙ (each-held ((m, a) ∷ ns) h).0

pub second-tells : (m n : ℕ) {k l a b : Bool} → k ≡ a → not k ≡ false → l ≡ b → (l ≡ true) ↔ (failing ((m, a) ∷ (n, b) ∷ []) ≡ [])
second-tells m n {k} {a = a} {b = b} e f g = (
  λ h. test-holds m ((n, b) ∷ []) (sym e ∙ not-false k f) (test-holds n [] (sym g ∙ h) no_test),
  λ h. g ∙ (each-held ((m, a) ∷ (n, b) ∷ []) h).1.0,
)

module _ (consuming : Bool) (n p : ℕ) (link : M.Link) (c : M.ReactiveLimits) (x : M.Reactive) where
  -- a link of another kind
  pub lines-free : eqb link.kind two_lines ≡ false → failing (line_tests consuming n p link c x) ≡ []
  lines-free e = word_none (line_tests consuming n p link c x) (no_lines consuming n p link c x e)

  pub equality-free : eqb link.kind equality ≡ false → failing (equality_tests consuming n p link c x) ≡ []
  equality-free e = word_none (equality_tests consuming n p link c x) (no-equality consuming n p link c x e)

  -- the groups, where none of all fails
  pub record Groups : Type 0 where
    pub limits : failing (limit_tests consuming n p link c x) ≡ []
    pub lines : failing (line_tests consuming n p link c x) ≡ []
    pub equal : failing (equality_tests consuming n p link c x) ≡ []

  pub groups : failing (tests consuming n p link c x) ≡ [] → Groups
  unfolding tests
  groups h =
      let a : _ = parts_held (limit_tests consuming n p link c x) (line_tests consuming n p link c x ++ equality_tests consuming n p link c x) h in
      let b : _ = parts_held (line_tests consuming n p link c x) (equality_tests consuming n p link c x) a.1 in
      record { limits = a.0; lines = b.0; equal = b.1 }

  pub tests-hold : Groups → failing (tests consuming n p link c x) ≡ []
  unfolding tests
  tests-hold g = all_hold _ _ g.limits (all_hold _ _ g.lines g.equal)
