use native.Mathlib.Omega.{arith}
use Rattle.pen.proofs.Words.{stay-sum, stays, word_sum, fills}
use Rattle.pen.proofs.push.Goals as goal

pub overflow_add-result : goal.overflow_add-result
overflow_add-result c = let s = c in let a = s.args in record { fits = stay-sum a.p a.width a.value s.requires.0 (omega arith) (omega arith) }

pub returns-then-n-lt64 : goal.returns-then-n-lt64
returns-then-n-lt64 c = let s = c in let a = s.args in stays a.p a.width a.value s.requires.0 (omega arith) (omega arith) a.buf.now

pub overflow_add-word : goal.overflow_add-word
overflow_add-word c = let s = c in let a = s.args in record { fits = word_sum a.p a.width a.value s.requires.0 (omega arith) (omega arith) (omega arith) }

pub returns : goal.returns
returns c = let s = c in let a = s.args in
    fills a.p a.width a.value s.requires.0 (omega arith) (omega arith) (omega arith) a.buf.now _ (omega arith) c.store_word.ensures
