-- The four parts of a choice, for whatever case the records are of.
use native.Mathlib.Omega.{arith}
use Rattle.row_places.specs.Figures.{device_at}
use Rattle.choices.specs.Cells.{sized, on-small, offered}
use Rattle.choices.specs.Rests.{looks}
use Rattle.choices.specs.Blocks.{floors-fit}
use Rattle.choices.specs.Choices.{choice-of}
use Rattle.choices.proofs.choose.Goals as goal

pub state_at-state-requires : goal.state_at-state-requires
state_at-state-requires c =
    (c.requires.0, (sized c.requires.1).few-states, looks c.requires.1)

pub blocks_of-blocks-requires : goal.blocks_of-blocks-requires
blocks_of-blocks-requires c =
    let e : _ = c.on_at-on.ensures in
    (omega (arith, e, on-small c.requires.1), floors-fit c.requires.1 c.requires.2 e, offered c.requires.1)

pub returns : goal.returns
returns c =
    let a : _ = c.args in
    choice-of (device_at a.devices.now a.i) a.cell a.settings.now a.starts.now a.p.0 a.t
    c.on0_at-on0.ensures c.side_at.ensures c.started_at-started.ensures c.stopped_at-stopped.ensures c.state_at-state.ensures
    c.on_at-on.ensures c.blocks_of-blocks.ensures
