-- The old power is put back.
use Rattle.mend_tries.specs.Tries.{inside, rows-mid, inside-mid, tests-done}
use Rattle.mend_tries.proofs.try_power.Goals as goal

pub online_at-old-requires : goal.online_at-old-requires
online_at-old-requires c =
    inside c.args.front c.args.halves.now c.args.zones.now c.args.minima.now c.args.devices.now c.args.cells.now c.args.settings.now
    c.requires.0.plan-rows c.args.i c.args.t c.requires.1 c.requires.2 c.requires.3

pub put_online-requires : goal.put_online-requires
put_online-requires c =
    inside c.args.front c.args.halves.now c.args.zones.now c.args.minima.now c.args.devices.now c.args.cells.now c.args.settings.now
    c.requires.0.plan-rows c.args.i c.args.t c.requires.1 c.requires.2 c.requires.3

pub unbroken-r-requires : goal.unbroken-r-requires
unbroken-r-requires c = record {
  case_rows = c.requires.0.case_rows;
  plan-rows = rows-mid c.args.front c.args.halves.now c.args.zones.now c.args.minima.now c.args.devices.now c.args.cells.now c.args.settings.now
      c.requires.0.plan-rows c.args.i c.args.t c.requires.1 c.requires.2 c.requires.3 c.put_online.ensures c.requires.4;
  starts-full = c.requires.0.starts-full;
  powers-full = c.requires.0.powers-full;
}

pub put_online-requires-2 : goal.put_online-requires-2
put_online-requires-2 c =
    inside-mid c.args.front c.args.halves.now c.args.zones.now c.args.minima.now c.args.devices.now c.args.cells.now c.args.settings.now
    c.requires.0.plan-rows c.args.i c.args.t c.requires.1 c.requires.2 c.requires.3 c.args.x.0 c.put_online.ensures

pub returns : goal.returns
returns c =
    tests-done c.args.front c.args.halves.now c.args.zones.now c.args.minima.now c.args.devices.now c.args.cells.now c.args.settings.now
    c.requires.0.plan-rows c.args.i c.args.t c.requires.1 c.requires.2 c.requires.3 c.requires.4 c.online_at-old.ensures c.put_online.ensures
    c.unbroken-r.ensures c.put_online-2.ensures
