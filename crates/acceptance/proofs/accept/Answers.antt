-- The buffer is measured before anything is written.
use mir.Syntax.{w64}
use mir.ValLaws.{to_z-of_z}
use native.Mathlib.Omega.{arith}
use Rattle.acceptance.specs.Decided.{few-of, decides-short, decides-accepted}
use Rattle.acceptance.proofs.accept.Goals as goal

pub completion_bytes-needed-requires : goal.completion_bytes-needed-requires
completion_bytes-needed-requires c = few-of _ _ _ _ _ _ _ c.requires

pub returns-then-res-needed : goal.returns-then-res-needed
returns-then-res-needed c = decides-short _ _ _ _ _ _ _ c.requires _ c.completion_bytes-needed.ensures c.if-res-needed.true

pub complete-z-requires : goal.complete-z-requires
complete-z-requires c = (
  c.requires.unbroken,
  c.requires.countable,
  omega (arith, c.completion_bytes-needed.ensures, c.if-res-needed.false),
)

pub returns : goal.returns
returns c = let e = to_z-of_z w64 c.complete-z.result (record { sfits = c.complete-z.type_inv }) in
    decides-accepted _ _ _ _ _ _ _ c.requires _
    (omega (arith, c.completion_bytes-needed.ensures, c.if-res-needed.false)) (rw e c.complete-z.ensures)
