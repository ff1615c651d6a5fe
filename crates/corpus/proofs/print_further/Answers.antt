-- The table that a plan is read into keeps its length.
use Rattle.decoded_cases.specs.Plans.{plan-room}
use Rattle.corpus.proofs.Works.{work-kept}
use Rattle.corpus.proofs.print_further.Goals as goal

pub print_plan-requires : goal.print_plan-requires
print_plan-requires g c =
    let k = c.print_breaches.auto in
    plan-room c.requires.0 (work-kept c.requires.1 k.settings k.starts k.powers)
