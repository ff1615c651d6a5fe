-- By the answer's cases: a refusal is told as a verdict's is.
use mathlib.Core.Path.{sym, ap, ◌∙◌}
use Prim.Native.Nat.{ℕ}
use Rattle.layouts.specs.declared.Fault.TheVariants.{TooShort}
use Rattle.tellings.specs.Told.{told_fault}
use Rattle.stack_tellings.specs.Told.{told_stack}
use Rattle.stack_tellings.proofs.tell_stack.Goals as goal

pub returns-in-Judged : goal.returns-in-Judged
returns-in-Judged c = ap told_stack (sym c.in-Judged.is)

pub returns-in-RefusedCase : goal.returns-in-RefusedCase
returns-in-RefusedCase c = c.tell.ensures ∙ ap told_stack (sym c.in-RefusedCase.is)

pub returns-in-RefusedBatch : goal.returns-in-RefusedBatch
returns-in-RefusedBatch c = c.tell-in-RefusedBatch.ensures ∙ ap told_stack (sym c.in-RefusedBatch.is)

pub returns-in-Short : goal.returns-in-Short
returns-in-Short c = c.tell-in-Short.ensures ∙ ap (λ (n : ℕ). told_fault 4 (TooShort n)) c.table_bytes-needed.ensures ∙ ap told_stack (sym c.in-Short.is)
