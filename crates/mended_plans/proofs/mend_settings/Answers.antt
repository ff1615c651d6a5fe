-- The forced figures are computed first; the surplus of a plan that breaks no rule, or the smallest change.
use mathlib.Core.Path.{sym, ◌∙◌}
use mir.Syntax.{w64}
use mir.ValLaws.{to_z-of_z}
use native.Mathlib.Omega.{arith}
use Rattle.decoded_cases.specs.Plans.{ready_of}
use Rattle.acceptance.specs.Decided.{few-of}
use Rattle.plan_judgement.specs.Steps.{kept_of}
use Rattle.mended_plans.specs.Steps.{most-needed, judgeable, mends-accepted, mends-broken}
use Rattle.mended_plans.proofs.mend_settings.Goals as goal

pub first_breach-first-requires : goal.first_breach-first-requires
first_breach-first-requires c =
    let forced : _ = c in
    let entry : _ = forced in
    ready_of _ _ _ _ _ _ _ entry.requires.0 forced.force.ensures

pub mend_broken-requires : goal.mend_broken-requires
mend_broken-requires c =
    let match : _ = c in
    let looked : _ = match in
    let forced : _ = looked in
    let entry : _ = forced in
    (judgeable _ _ _ _ _ _ _ entry.requires.0 forced.force.ensures, sym looked.first_breach-first.ensures ∙ match.in-Some.is)

pub complete-z-requires : goal.complete-z-requires
complete-z-requires c =
    let match : _ = c in
    let looked : _ = match in
    let forced : _ = looked in
    let entry : _ = forced in
    let ready = ready_of _ _ _ _ _ _ _ entry.requires.0 forced.force.ensures in
    let kept = kept_of _ _ _ _ _ _ _ entry.requires.0.decoded ready looked.first_breach-first.ensures match.in-None.is in
    (kept.unbroken, kept.countable, omega (arith, most-needed entry.args.front.edition (few-of _ _ _ _ _ _ _ kept), entry.requires.1))

pub returns-in-Some : goal.returns-in-Some
returns-in-Some c =
    let mended : _ = c in
    let match : _ = mended in
    let looked : _ = match in
    mends-broken _ _ _ _ _ _ _ looked.first_breach-first.ensures match.in-Some.is mended.mend_broken.ensures

pub returns-in-None : goal.returns-in-None
returns-in-None c =
    let completed : _ = c in
    let match : _ = completed in
    let looked : _ = match in
    let e = to_z-of_z w64 completed.complete-z.result (record { sfits = completed.complete-z.type_inv }) in
    mends-accepted _ _ _ _ _ _ _ looked.first_breach-first.ensures match.in-None.is (e ∙ completed.complete-z.ensures.surplus)
