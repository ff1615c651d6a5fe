-- By the verdict's cases.
use mathlib.Core.Path.{sym, ap, ◌∙◌}
use mir.Syntax.{w64}
use mir.ValLaws.{to_z-of_z}
use Rattle.model.specs.declared.Verdict.TheVariants.{Accepted}
use Rattle.wording.proofs.Spelling.{answered}
use borrow.Author.Rules.{rules}
use Rattle.verdict_lines.proofs.put_answer.Goals as goal

pub returns-in-Accepted : goal.returns-in-Accepted
returns-in-Accepted c = answered _ (c.in-Accepted.is ∙ sym (ap Accepted (to_z-of_z w64 c.in-Accepted.z (search rules)))) c.put_accepted.ensures

pub returns-in-Broken : goal.returns-in-Broken
returns-in-Broken c = answered _ c.in-Broken.is c.put_broken.ensures

pub returns-in-Refused : goal.returns-in-Refused
returns-in-Refused c = answered _ c.in-Refused.is c.put_refused.ensures
