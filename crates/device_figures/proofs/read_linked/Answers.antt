-- The link, then the bar.
use Rattle.layouts.specs.Layout.{◌then◌}
use Rattle.fields.proofs.Steps.{on, off, seen-exits}
use Rattle.link_reader.proofs.Links.{link-natural}
use Rattle.device_figures.specs.Naturals.{bar-natural}
use Rattle.device_figures.proofs.read_linked.Goals as goal

pub returns-in_err-link : goal.returns-in_err-link
unfolding ◌then◌
returns-in_err-link c = seen-exits _ _ c.from_residual.ensures (search (off, link-natural, c.in_err-link.ensures))

pub returns-in_err-bar : goal.returns-in_err-bar
unfolding ◌then◌
returns-in_err-bar c = seen-exits _ _ c.from_residual-in_err-bar.ensures (search (on, off, link-natural, bar-natural, c.in_ok-link.ensures, c.in_err-bar.ensures))

pub returns : goal.returns
unfolding ◌then◌
returns c = search (on, link-natural, bar-natural, c.in_ok-link.ensures, c.in_ok-bar.ensures)
