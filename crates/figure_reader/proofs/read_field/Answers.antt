-- A reading that was cut stands; a field that is cut is noted; else its figure is stored.
use mathlib.Core.Path.{sym, ◌∙◌}
use native.Mathlib.Omega.{arith}
use Rattle.figure_reader.specs.Walks.{field-ends, stands, cuts, steps}
use Rattle.figure_reader.proofs.read_field.Goals as goal

pub returns-then-cut : goal.returns-then-cut
returns-then-cut c = let start = c in stands _ _ _ start.requires.0 c.if-cut.true

pub returns-in_default : goal.returns-in_default
returns-in_default c =
    let read = c in
    let start = read in
    cuts _ _ _ start.requires.0 read.if-cut.false (sym read.field.ensures ∙ c.in_default.is)

pub overflow_add-result : goal.overflow_add-result
overflow_add-result c =
    let told = c in
    let read = told in
    let start = read in
    omega (arith, start.requires.0, start.requires.1, field-ends _ _ _ (sym read.field.ensures ∙ told.in-Value.is))

pub returns : goal.returns
returns c =
    let told = c in
    let read = told in
    let start = read in
    steps _ _ _ start.requires.0 start.requires.1 read.if-cut.false (sym read.field.ensures ∙ told.in-Value.is) c.store.ensures
