use native.Mathlib.Omega.{arith}
use Rattle.completion_size.specs.Size.{counts-few}
use Rattle.field_groups.specs.Groups.{holds_pushed}
use Rattle.front_writer.proofs.put_front.Goals as goal

pub push-requires : goal.push-requires
push-requires c =
    let s = c in
    let f = c.front_of-front.ensures in
    (s.requires.0, omega (arith, f.wide), omega (arith, f.wide, counts-few s.args.edition), f.small, omega (arith, f.wide, s.requires.1))

pub returns : goal.returns
returns c = holds_pushed c.front_of-front.ensures c.push.ensures
