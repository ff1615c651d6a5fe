-- The messages of a batch, counted.
use Rattle.std.specs.Prelude.{◌≡◌, refl, List, ℕ, ◌+◌, ◌*◌, ◌^◌, ◌≤◌, ◌<◌, length}
use Rattle.std.proofs.Common.{sym, ap, ◌∙◌, arith}
use Rattle.bits.specs.Bits.{reach}
use Rattle.bits.proofs.Laws.{reaches}
use Rattle.layouts.specs.declared.Fault.{Fault}
use Rattle.layouts.specs.declared.Framed.{Framed}
use Rattle.layouts.specs.declared.Framed.TheVariants as B
use Rattle.layouts.specs.Framing.{framed_at, part}
use Rattle.layouts.specs.Layout.{Whole, passes, fails}
use Rattle.layouts.proofs.Frames.{lies}
use Rattle.tellings.specs.Splitting.{host_limit}
use Rattle.stacks.specs.declared.Counted.{Counted}
use Rattle.stacks.specs.declared.Counted.TheVariants.{Messages, Refused}
use Rattle.stacks.specs.Messages.{ahead, messages_from, messages_of, counted}
use Rattle.stacks.proofs.Messages.{from_end, from-refused, from-message}

-- the definition's count, which is small: each message has three bytes of its length
pub record Counts (s : List ℕ) (r : Counted) : Type 0 where
  pub is : r ≡ counted (messages_of host_limit s)
  pub few : (n : ℕ) → r ≡ Messages n → 3 * n < 2 ^ 61

-- ---- the loop

-- so many more
abbrev plus : ℕ → Counted → Counted
plus k (Messages n) = Messages (k + n)
plus k (Refused f) = Refused f

one_more : (k : ℕ) (m : List ℕ) (w : Whole (List (List ℕ))) → plus k (counted (ahead m w)) ≡ plus (k + 1) (counted w)
one_more k m (passes ms) = ap Messages (omega arith)
one_more k m (fails f) = refl

-- those ahead of byte `at` are counted
pub record Counting (s : List ℕ) (at count : ℕ) : Type 0 where
  pub same : plus count (counted (messages_from host_limit s at)) ≡ counted (messages_of host_limit s)
  pub apart : 3 * count ≤ at
  pub inside : at ≤ reach s

none_more : (w : Whole (List (List ℕ))) → plus 0 (counted w) ≡ counted w
none_more (passes ms) = ap Messages (omega arith)
none_more (fails f) = refl

pub counting-none : (s : List ℕ) → Counting s 0 0
counting-none s = record { same = none_more (messages_of host_limit s); apart = omega arith; inside = omega arith }

module _ {s : List ℕ} {at count : ℕ} (c : Counting s at count) {x : Framed} (e : x ≡ framed_at host_limit s at) where
  pub counting-end : x ≡ B.End → Counts s (Messages count)
  counting-end t = record {
    is = ap Messages (omega arith) ∙ ap (λ w. plus count (counted w)) (sym (from_end host_limit s at e t)) ∙ c.same;
    few = λ n k. let m : count ≡ n = cc in omega (arith, c.apart, c.inside, reaches s);
  }

  pub counting-refused : {f : Fault} → x ≡ B.Refused f → Counts s (Refused f)
  counting-refused t = record {
    is = ap (λ w. plus count (counted w)) (sym (from-refused host_limit s at e t)) ∙ c.same;
    few = λ n k. absurd (let z : ◌≡◌ {A = ℕ} 0 1 = cc in omega arith);
  }

  pub counting_more : {from until : ℕ} → x ≡ B.Message from until → Counting s until (count + 1)
  counting_more {from} {until} t =
      let l = lies host_limit s at e t in
      record {
        same = sym (one_more count (part s from until) (messages_from host_limit s until)) ∙ ap (λ w. plus count (counted w)) (sym (from-message host_limit s at e t)) ∙ c.same;
        apart = omega (arith, c.apart, l.behind, l.ordered);
        inside = l.reached;
      }
