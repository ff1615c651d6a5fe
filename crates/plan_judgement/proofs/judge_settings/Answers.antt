-- The forced figures are computed first; a plan that breaks no rule is completed.
use Rattle.decoded_cases.specs.Plans.{ready_of}
use Rattle.plan_judgement.specs.Steps.{kept_of, decides-broken}
use Rattle.plan_judgement.proofs.judge_settings.Goals as goal

pub first_breach-first-requires : goal.first_breach-first-requires
first_breach-first-requires c = let earlier : _ = c in
    let entry : _ = earlier in ready_of _ _ _ _ _ _ _ entry.requires c.force.ensures

pub accept-requires : goal.accept-requires
accept-requires c = let earlier : _ = c in
    let entry : _ = earlier in
    kept_of _ _ _ _ _ _ _ entry.requires.decoded (ready_of _ _ _ _ _ _ _ entry.requires
    c.force.ensures)
    c.first_breach-first.ensures c.in-None.is

pub returns-in-Some : goal.returns-in-Some
returns-in-Some c = decides-broken _ _ _ _ _ _ _ _ c.first_breach-first.ensures c.in-Some.is
