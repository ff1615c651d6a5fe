-- By the kind of the link.
use Rattle.line_spans.specs.Lines.{unlinked-done}
use borrow.Author.Rules.{rules}
use Rattle.line_spans.proofs.within_lines.Goals as goal

pub returns : goal.returns
returns c = search (rules, unlinked-done)
