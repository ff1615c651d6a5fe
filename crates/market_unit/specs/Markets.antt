-- The promises of the market's copy, for any bytes of a case and a plan and any result buffer; nothing is required of the caller.
use Rattle.std.specs.Prelude.{◌≡◌, List, ℕ, ◌≤◌}
use Rattle.std.proofs.Common.{sym, ap₂, subst}
use Rattle.model.specs.Editions.{Largest, most_devices, most_intervals}
use Rattle.market.specs.declared.Copying.{Copying}
use Rattle.market.specs.Copy.{Copies, market_copy}
use Rattle.market.specs.Promise.{MarketPromise}
use Rattle.market.proofs.Promise.{market-promised}

-- `l` are the largest counts that the reader takes; `before` and `after` are the result buffer as it came and as it is left
pub record CopiesForMarket (l : Largest) (cs ps before after : List ℕ) (r : Copying) : Type 0 where
  -- the definition's answer, and the buffer as the definition leaves it
  pub answer : r ≡ (market_copy l cs ps before).answer
  pub result : after ≡ (market_copy l cs ps before).result
  -- refused as judging is, broken with its place, 7 with the copy's own length, with no byte touched; the copy reads back as our completion less startup states,
  -- block powers and surplus; and it cannot leak: cases that differ in prices and costs only give the same answer and the same buffer
  pub promise : MarketPromise l cs ps before (record { answer = r; result = after })

same-copies : {r : Copying} {after : List ℕ} {j : Copies} → r ≡ j.answer → after ≡ j.result → j ≡ record { answer = r; result = after }
same-copies e f = ap₂ (λ (x : Copying) (y : List ℕ). record { answer = x; result = y }) (sym e) (sym f)

pub copies : (l : Largest) → l.devices ≤ most_devices → l.intervals ≤ most_intervals → {cs ps before after : List ℕ} {r : Copying}
    → r ≡ (market_copy l cs ps before).answer → after ≡ (market_copy l cs ps before).result → CopiesForMarket l cs ps before after r
copies l most long {cs} {ps} {before} e f = record {
  answer = e;
  result = f;
  promise = subst (MarketPromise l cs ps before) (same-copies e f) (market-promised l most long cs ps before);
}
