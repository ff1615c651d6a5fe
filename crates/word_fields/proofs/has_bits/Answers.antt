-- So many bytes from the first on hold the bits, whatever bit of the first they begin at.
use native.Mathlib.Omega.{arith}
use borrow.Author.Tests.{leb-true}
use Rattle.word_fields.proofs.has_bits.Goals as goal

pub returns : goal.returns
returns c e = omega (arith, leb-true)
