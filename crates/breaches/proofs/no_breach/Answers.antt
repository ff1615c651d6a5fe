-- Neither the link nor a device breaks a rule.
use mathlib.Core.Path.{sym, ◌∙◌}
use lib.ListN.{length}
use Rattle.numbers.specs.Tests.{never}
use Rattle.records.specs.Views.{system_in, plan_in}
use Rattle.records.specs.Viewed.{intervals-are, devices-are}
use Rattle.link_rules.specs.Link.{link-rows, link-none, link-back}
use Rattle.breaches.specs.Day.{none_at_all, none-anywhere}
use Rattle.breaches.proofs.no_breach.Goals as goal

pub link_held-requires : goal.link_held-requires
link_held-requires c = link-rows c.requires

pub returns-then-not-link_held : goal.returns-then-not-link_held
returns-then-not-link_held c = let a : _ = c.args in (
  λ e. never e,
  λ k. sym c.if-not-link_held.true ∙ c.link_held.ensures.1 (record {
    at = λ t h. link-back c.requires t h ((none-anywhere (system_in a.halves.now a.zones.now a.minima.now a.devices.now a.cells.now)
        (plan_in (length a.devices.now) (length a.halves.now) a.settings.now)
        (intervals-are a.halves.now a.zones.now a.minima.now a.devices.now a.cells.now)
        (devices-are a.halves.now a.zones.now a.minima.now a.devices.now a.cells.now) k).links t h);
  }),
)

pub returns : goal.returns
returns c = let a : _ = c.args in (
  λ e. none_at_all (system_in a.halves.now a.zones.now a.minima.now a.devices.now a.cells.now)
      (plan_in (length a.devices.now) (length a.halves.now) a.settings.now)
      (intervals-are a.halves.now a.zones.now a.minima.now a.devices.now a.cells.now)
      (devices-are a.halves.now a.zones.now a.minima.now a.devices.now a.cells.now)
      (λ t h. link-none c.requires t h ((c.link_held.ensures.0 c.if-not-link_held.false).at t h)) (c.devices_held.ensures.0 e),
  λ k. c.devices_held.ensures.1 (none-anywhere (system_in a.halves.now a.zones.now a.minima.now a.devices.now a.cells.now)
      (plan_in (length a.devices.now) (length a.halves.now) a.settings.now)
      (intervals-are a.halves.now a.zones.now a.minima.now a.devices.now a.cells.now)
      (devices-are a.halves.now a.zones.now a.minima.now a.devices.now a.cells.now) k).devices-hold,
)
