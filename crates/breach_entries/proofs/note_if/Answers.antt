-- Noted where it fails.
use Rattle.breach_entries.specs.Noted.{notes-not, notes-one, one-asked}
use Rattle.breach_entries.proofs.note_if.Goals as goal

pub returns-then-not-fails : goal.returns-then-not-fails
returns-then-not-fails c = notes-not {fails = c.args.fails} c.args.b c.if-not-fails.true

pub enter-requires : goal.enter-requires
enter-requires c = let a : _ = c.args in one-asked {fails = a.fails} a.b c.if-not-fails.false c.requires

pub returns : goal.returns
returns c = let a : _ = c.args in notes-one {fails = a.fails} a.b c.if-not-fails.false c.enter.ensures
