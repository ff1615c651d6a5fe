-- Which rule a number and its place name: a breach is listed exactly when its rule fails, the list stands in the paper's order, and the first of it is the
-- first rule that fails.
use mathlib.Core.List.Memᴰ
use Rattle.model.specs.declared.Breach.{Breach}
use Rattle.model.specs.Case.{System, Plan}
use Rattle.model.specs.Rules.{Placed, RuleAt, Before}

-- ---- numbered tests

-- a rule holds or fails
pub data Known (A : Type 0) : Type 0 where
  holds : A → Known A
  fails : (A → ⊥) → Known A

module _ (q : System) (p : Plan) where
  -- ---- the day

  -- a rule of the case that fails
  pub record Failed (b : Breach) : Type 0 where
    pub place : Placed q b
    pub not : RuleAt q p b → ⊥

  -- the first entry: its rule fails, and every rule ahead of it holds
  pub record First (b : Breach) : Type 0 where
    pub fails : Failed b
    pub earlier : (a : Breach) → Placed q a → Before a b → RuleAt q p a
