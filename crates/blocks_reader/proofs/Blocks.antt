-- One block, and the turns of the loop that reads a cell's blocks.
use mathlib.Core.Path.{◌≡◌, refl, ap, sym, ◌∙◌}
use mathlib.Core.List.{List}
use Prim.Native.Nat.{ℕ, zero, suc, ◌+◌, ◌*◌, ◌/◌, ◌%◌, ◌^◌, ◌≤◌, ◌<◌}
use native.Mathlib.Omega.{arith}
use borrow.Author.Tests.{le-leb}
use lib.IntN.{ℤ}
use lib.ListN.{length, get_or, set, length-set, replicate}
use lib.Seq.{get_or-set_other}
use Rattle.std.specs.Prelude.{Option, None, Some, Ok, IfSome}
use Rattle.bits.specs.Bits.{field_at, reach}
use Rattle.layouts.specs.declared.Fault.{Fault}
use Rattle.layouts.specs.declared.Place.{Place}
use Rattle.layouts.specs.Layout.{nat, int, count_of, advanced}
use Rattle.model.specs.Case as M
use Rattle.records.specs.Views.{price_offset}
use Rattle.fields.specs.Got.{Got, good, bad, got, seen, never, Natural, int-natural, then-natural, nat-within, counted-on, counted-off}
use Rattle.field_rows.specs.Going.{Storing, storing-none, storing-more, storing-off, storing-done}
use Rattle.fields.proofs.Steps.{Exits, exits, noted-none}
use Rattle.fields.proofs.Chains.{then-on}
use Rattle.floor_reader.proofs.Floors.{block-natural as bounds-natural, cap-only, bounds-done}
use Rattle.word_fields.proofs.Words.{word-figure, word-offset}
use Rattle.cell_groups.specs.declared.Block.{Block}
use Rattle.cell_groups.specs.declared.Blocks.{Blocks}
use Rattle.cell_groups.specs.Groups.{block, blocks, block_in, blocks_in, no_block, Empty, BlocksDone}
use Rattle.blocks_reader.specs.Words.{plain_bits, floor_bits, block_with, BlockFits}

-- ---- one block

pub price-natural : Natural (int 15 10000)
price-natural = int-natural 15 10000

pub block-natural : (e : ℕ) → Natural (block e)
block-natural e = then-natural (bounds-natural e) (λ a. price-natural)

-- ---- by a word

-- where it fits, it is what reading gives
pub fitting : (r : Option (Block × Place)) {cap floor price : ℕ} {q : Place} {g : Got (M.Block × ℤ)} → IfSome r (λ x. (x ≡ (block_with cap floor price, q)) × BlockFits cap floor price)
    → (BlockFits cap floor price → good (block_in (block_with cap floor price)) q ≡ g) → IfSome r (λ x. seen block_in (Ok x) ≡ g)
fitting None h k = h
fitting (Some x) h k = ap (λ (z : Block × Place). seen block_in (Ok z)) h.0 ∙ k h.1

module _ (e : ℕ) (s : List ℕ) (p : Place) {word cap price : ℕ} where
  pub plain-found : e < 3 → p.at + plain_bits ≤ 8 * reach s → word ≡ field_at s p.at plain_bits → cap ≡ word / 2 ^ 15 % 2 ^ 17
      → price ≡ (word / 2 ^ 0 % 2 ^ 15 + price_offset) % 2 ^ 15 → BlockFits cap 0 price → good (block_in (block_with cap 0 price)) (advanced p (p.at + plain_bits)) ≡ got (block e) s p
  plain-found h there w a c f =
      let q = advanced p (p.at + 17) in
      let end : p.at + plain_bits ≡ p.at + 17 + 15 = omega arith in
      let high = sym (word-figure s p 0 17 15 p (omega arith) there w 100000 a f.cap-fits) in
      let last = sym (word-offset s p 17 15 0 q refl there w 16384 price_offset refl (omega arith) c f.price-fits) in
      ap (λ (n : ℕ). good (block_in (block_with cap 0 price)) (advanced p n)) end
      ∙ then-on (bounds-natural e) _ s p price-natural (cap-only e s p high h) last

  pub floor-found : {floor : ℕ} → 3 ≤ e → p.at + floor_bits ≤ 8 * reach s → word ≡ field_at s p.at floor_bits → cap ≡ word / 2 ^ 32 % 2 ^ 17 → floor ≡ word / 2 ^ 15 % 2 ^ 17
      → price ≡ (word / 2 ^ 0 % 2 ^ 15 + price_offset) % 2 ^ 15 → BlockFits cap floor price
      → good (block_in (block_with cap floor price)) (advanced p (p.at + floor_bits)) ≡ got (block e) s p
  floor-found {floor} h there w a b c f =
      let q = advanced p (p.at + 17) in
      let z = advanced p (p.at + 17 + 17) in
      let end : p.at + floor_bits ≡ p.at + 17 + 17 + 15 = omega arith in
      let high = sym (word-figure s p 0 17 32 p (omega arith) there w 100000 a f.cap-fits) in
      let low = sym (word-figure s p 17 17 15 q refl there w 100000 b (omega (arith, f.floor-fits, f.cap-fits))) in
      let last = sym (word-offset s p 34 15 0 z (omega arith) there w 16384 price_offset refl (omega arith) c f.price-fits) in
      ap (λ (n : ℕ). good (block_in (block_with cap floor price)) (advanced p n)) end
      ∙ then-on (bounds-natural e) _ s p price-natural (bounds-done e s p high h low (noted-none q.at z (le-leb floor cap f.floor-fits))) last

-- ---- the blocks

-- i of n blocks have been read, and the others have cap 0 and floor 0
pub record Blocking (e : ℕ) (s : List ℕ) (n : ℕ) (start : Place) (i : ℕ) (bs : List Block) (p : Place) : Type 0 where
  pub few : n ≤ 4
  pub long : length bs ≡ 4
  pub storing : Storing (block e) block_in s n start i bs p
  pub rest : (k : ℕ) → i ≤ k → k < 4 → Empty (get_or bs k no_block)

none-there : (k : ℕ) → k < 4 → Empty (get_or (replicate 4 no_block) k no_block)
none-there zero h = (refl, refl)
none-there (suc zero) h = (refl, refl)
none-there (suc (suc zero)) h = (refl, refl)
none-there (suc (suc (suc zero))) h = (refl, refl)
none-there (suc (suc (suc (suc k)))) h = absurd (omega arith)

module _ (e : ℕ) (s : List ℕ) (p : Place) where
  pub blocks-off : {r : Got Blocks} {f : Fault} → Exits r f → bad f ≡ got (blocks e) s p → BlocksDone e s p r
  blocks-off {r} h o = let x = exits r h refl in record {
    is = ap (seen blocks_in) x ∙ o;
    long = λ b q k. never (sym x ∙ k);
    absent = λ b q k. never (sym x ∙ k);
  }

  pub no-count : {f : Fault} → bad f ≡ got (nat (count_of 3 0 4)) s p → bad f ≡ got (blocks e) s p
  no-count h = sym (counted-off (count_of 3 0 4) (block e) s p (sym h))

  pub blocking-none : {n : ℕ} {start : Place} → good n start ≡ got (nat (count_of 3 0 4)) s p → Blocking e s n start 0 (replicate 4 no_block) start
  blocking-none h = let few = (nat-within (count_of 3 0 4) s p (sym h)).1 in record { few = few; long = refl; storing = storing-none (omega arith); rest = λ k l m. none-there k m }

-- the values of two answers that are the same
pub same : {A : Type 0} {a b : A} {p q : Place} → good a p ≡ good b q → a ≡ b
same {A} {a} {b} {p} {q} e = let pair : ◌≡◌ {A = A × Place} (a, p) (b, q) = cc in ap (λ (z : A × Place). z.0) pair

module _ {e : ℕ} {s : List ℕ} {n : ℕ} {start : Place} {i : ℕ} {bs : List Block} {p : Place} (u : Blocking e s n start i bs p) where
  pub blocking-more : (b : Block) {q : Place} → i < n → good (block_in b) q ≡ got (block e) s p → Blocking e s n start (i + 1) (set bs i b) q
  blocking-more b h g = record {
    few = u.few;
    long = simp length-set u.long;
    storing = storing-more u.storing (block-natural e) h g;
    rest = λ k l m. rw (get_or-set_other bs i k b no_block (λ z. omega (arith, z))) (u.rest k (omega arith) m);
  }

  module _ (o : Place) (h : good n start ≡ got (nat (count_of 3 0 4)) s o) where
    pub blocking-off : {f : Fault} → i < n → bad f ≡ got (block e) s p → bad f ≡ got (blocks e) s o
    blocking-off l g = storing-off u.storing (block-natural e) l g ∙ sym (counted-on (count_of 3 0 4) (block e) s o (sym h))

    pub blocking-done : n ≤ i → BlocksDone e s o (good (record { count = n; blocks = bs }) p)
    blocking-done l = record {
      is = storing-done u.storing l ∙ sym (counted-on (count_of 3 0 4) (block e) s o (sym h));
      long = λ x q k. rw (← same k) u.long;
      absent = λ x q k. rw (← same k) (record { few = u.few; rest = λ k m o. u.rest k (omega (arith, u.storing.within)) o });
    }
