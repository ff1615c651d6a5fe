-- The window's starts are at most the day's.
use native.Mathlib.Omega.{arith}
use mathlib.Core.Path.{sym}
use borrow.Author.Tests.{le-leb}
use Rattle.start_windows.specs.Windows.{starts_at, some-starts}
use Rattle.start_windows.proofs.window_kept.Goals as goal

pub returns-then-all-w : goal.returns-then-all-w
returns-then-all-w c = let a : _ = c.args in
    sym (le-leb (starts_at a.w a.on0 a.settings.now a.starts.now) a.w.most
    (omega (arith, some-starts a.w a.on0 a.settings.now a.starts.now, c.requires.0, c.if-all-w.true)))
