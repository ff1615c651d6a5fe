-- The arrays hold the bounds and the powers of the definition.
use mathlib.Core.Path.{sym, ◌∙◌}
use Rattle.settled_powers.specs.Settled.{small-high, startable, named_in, powers-are, settled_on, settled-off}
use Rattle.settled_powers.proofs.settle_powers.Goals as goal

pub can_meet-requires : goal.can_meet-requires
can_meet-requires c =
    let s : _ = c in
    let l : _ = c.limits_of-limits in small-high s.well_formed.1.1.1.1.1.1.1.1.1.0.1.0.1 s.requires l.ensures s.args.target

pub powers_by-figures-requires : goal.powers_by-figures-requires
powers_by-figures-requires c =
    let s : _ = c in
    let l : _ = c.limits_of-limits in
    startable s.well_formed.1.1.1.1.1.1.1.1.1.0.1.0.1 s.requires l.ensures s.args.target (sym c.can_meet.ensures ∙ c.if-can_meet.true)

pub write_powers-requires : goal.write_powers-requires
write_powers-requires c =
    let s : _ = c in
    let l : _ = c.limits_of-limits in named_in s.well_formed.1.1.1.1.1.1.1.1.1.0.1.0.1 s.requires l.ensures s.args.target

pub returns-then-can_meet : goal.returns-then-can_meet
returns-then-can_meet c =
    let s : _ = c in
    let l : _ = c.limits_of-limits in
    settled_on s.well_formed.1.1.1.1.1.1.1.1.1.0.1.0.1 s.requires l.ensures s.args.target _ (sym c.can_meet.ensures
    ∙ c.if-can_meet.true)
    (c.write_powers.ensures ∙ powers-are s.well_formed.1.1.1.1.1.1.1.1.1.0.1.0.1 s.requires l.ensures s.args.target
    c.powers_by-figures.result c.powers_by-figures.ensures)

pub returns : goal.returns
returns c =
    let s : _ = c in
    let l : _ = c.limits_of-limits in
    settled-off s.well_formed.1.1.1.1.1.1.1.1.1.0.1.0.1 s.requires l.ensures s.args.target (sym c.can_meet.ensures ∙ c.if-can_meet.false)
