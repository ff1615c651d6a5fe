-- Part by part: the first that is refused answers.
use mathlib.Core.Path.{refl}
use Rattle.item_reader.specs.declared.Listed.TheVariants.{States, Starts, Energies}
use Rattle.fields.proofs.Chains.{then-off, then-late, then-on}
use Rattle.device_figures.specs.Naturals.{sides-natural, figures-natural, linked-natural}
use Rattle.device_reader.proofs.HeadSteps.{items-natural, energies-natural, windows-natural, lists-natural, rest-natural, head-none, head_done}
use Rattle.device_reader.proofs.read_head.Goals as goal

pub returns-in_err-sides : goal.returns-in_err-sides
returns-in_err-sides c = head-none _ _ _ _ _ _ c.from_residual.ensures (then-off (sides-natural _) _ _ _ c.in_err-sides.ensures)

pub returns-in_err-figures : goal.returns-in_err-figures
returns-in_err-figures c =
    let a = c.args in
    head-none _ _ _ _ _ _ c.from_residual-in_err-figures.ensures
    (then-late (sides-natural _) _ _ _ (rest-natural a.edition a.last) c.in_ok-sides.ensures
    (then-off figures-natural _ _ _ c.in_err-figures.ensures))

pub returns-in_err-states : goal.returns-in_err-states
returns-in_err-states c =
    let a = c.args in
    head-none _ _ _ _ _ _ c.from_residual-in_err-states.ensures
    (then-late (sides-natural _) _ _ _ (rest-natural a.edition a.last) c.in_ok-sides.ensures
    (then-late figures-natural _ _ _ (lists-natural a.edition a.last) c.in_ok-figures.ensures
    (then-off (items-natural a.edition a.last States) _ _ _ c.in_err-states.ensures.is)))

pub returns-in_err-starts : goal.returns-in_err-starts
returns-in_err-starts c =
    let a = c.args in
    head-none _ _ _ _ _ _ c.from_residual-in_err-starts.ensures
    (then-late (sides-natural _) _ _ _ (rest-natural a.edition a.last) c.in_ok-sides.ensures
    (then-late figures-natural _ _ _ (lists-natural a.edition a.last) c.in_ok-figures.ensures
    (then-late (items-natural a.edition a.last States) _ _ _ (windows-natural a.edition a.last) c.in_ok-states.ensures.is
    (then-off (items-natural a.edition a.last Starts) _ _ _ c.in_err-starts.ensures.is))))

pub returns-in_err-energies : goal.returns-in_err-energies
returns-in_err-energies c =
    let a = c.args in
    head-none _ _ _ _ _ _ c.from_residual-in_err-energies.ensures
    (then-late (sides-natural _) _ _ _ (rest-natural a.edition a.last) c.in_ok-sides.ensures
    (then-late figures-natural _ _ _ (lists-natural a.edition a.last) c.in_ok-figures.ensures
    (then-late (items-natural a.edition a.last States) _ _ _ (windows-natural a.edition a.last) c.in_ok-states.ensures.is
    (then-late (items-natural a.edition a.last Starts) _ _ _ (energies-natural a.edition a.last) c.in_ok-starts.ensures.is
    (then-off (items-natural a.edition a.last Energies) _ _ _ c.in_err-energies.ensures.is)))))

pub returns-in_err-linked : goal.returns-in_err-linked
returns-in_err-linked c =
    let a = c.args in
    head-none _ _ _ _ _ _ c.from_residual-in_err-linked.ensures
    (then-late (sides-natural _) _ _ _ (rest-natural a.edition a.last) c.in_ok-sides.ensures
    (then-late figures-natural _ _ _ (lists-natural a.edition a.last) c.in_ok-figures.ensures
    (then-late (items-natural a.edition a.last States) _ _ _ (windows-natural a.edition a.last) c.in_ok-states.ensures.is
    (then-late (items-natural a.edition a.last Starts) _ _ _ (energies-natural a.edition a.last) c.in_ok-starts.ensures.is
    (then-late (items-natural a.edition a.last Energies) _ _ _ (linked-natural a.edition) c.in_ok-energies.ensures.is c.in_err-linked.ensures)))))

pub returns : goal.returns
returns c =
    let a = c.args in
    let h = c.in_ok-states.ensures in
    let i = c.in_ok-starts.ensures in
    let j = c.in_ok-energies.ensures in
    head_done _ _ _ _ _ c.in_ok-sides.sides c.in_ok-figures.figures c.in_ok-states.states c.in_ok-starts.starts c.in_ok-energies.energies
    (h.fit _ _ refl) (i.fit _ _ refl) (j.fit _ _ refl) c.in_ok-linked.linked
    (then-on (sides-natural _) _ _ _ (rest-natural a.edition a.last) c.in_ok-sides.ensures
    (then-on figures-natural _ _ _ (lists-natural a.edition a.last) c.in_ok-figures.ensures
    (then-on (items-natural a.edition a.last States) _ _ _ (windows-natural a.edition a.last) h.is
    (then-on (items-natural a.edition a.last Starts) _ _ _ (energies-natural a.edition a.last) i.is
    (then-on (items-natural a.edition a.last Energies) _ _ _ (linked-natural a.edition) j.is c.in_ok-linked.ensures)))))
    c.device_of-device.ensures
