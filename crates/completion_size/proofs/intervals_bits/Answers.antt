-- The product of counts stays small by their largest.
-- the code's sum, of a zone's bits and of mismatches'
use mathlib.Core.Path.{◌≡◌, ap}
use Prim.Native.Nat.{ℕ, ◌+◌, ◌*◌, ◌^◌, ◌≤◌, ◌<◌}
use native.Mathlib.Omega.{arith}
use native.Mathlib.Nat.{mul-le-mul}
use Rattle.model.specs.Editions.{most_devices, most_intervals, most_zones}
use Rattle.completion_size.specs.Size.{device_width, zone_width, mismatches_width, interval_width}
use Rattle.completion_size.proofs.intervals_bits.Goals as goal

abbrev summed : ℕ → ℕ → ℕ → ℕ → ℕ
summed d z w x = d * device_width + z * w + x

abbrev most : ℕ
most = summed most_devices most_zones 264 92

summed-few : (d z w x : ℕ) → d ≤ most_devices → z ≤ most_zones → w ≤ 264 → x ≤ 92 → summed d z w x ≤ most
summed-few d z w x hd hz hw hx = omega (arith, mul-le-mul hz hw)

intervals-are : (e d i z w x : ℕ) → d ≤ most_devices → i ≤ most_intervals → z ≤ most_zones → (w ≡ zone_width e) × (w ≤ 264) → (x ≡ mismatches_width e) × (x ≤ 92)
    → (i * summed d z w x ≡ i * interval_width e d z) × (i * summed d z w x < 2 ^ 32)
intervals-are e d i z w x hd hi hz hw hx =
    let s : summed d z w x ≡ interval_width e d z = rw (hw.0, hx.0) (omega arith) in
    let m : i * summed d z w x ≤ most_intervals * most = mul-le-mul {m₁ = summed d z w x} {m₂ = most} hi (summed-few d z w x hd hz hw.1 hx.1) in
    (ap (λ (v : ℕ). i * v) s, omega arith)

pub overflow_mul-result-2 : goal.overflow_mul-result-2
overflow_mul-result-2 c =
    let a = c.args in
    let w = c.zone_bits-zone.result in
    omega (arith, mul-le-mul {m₁ = w} {m₂ = 264} c.requires.2 c.zone_bits-zone.ensures.1)

pub overflow_add-result : goal.overflow_add-result
overflow_add-result c =
    let w = c.zone_bits-zone.result in
    omega (arith, c.requires.0, mul-le-mul {m₁ = w} {m₂ = 264} c.requires.2 c.zone_bits-zone.ensures.1)

pub overflow_add-result-2 : goal.overflow_add-result-2
overflow_add-result-2 c =
    let w = c.zone_bits-zone.result in
    omega (arith, c.requires.0, mul-le-mul {m₁ = w} {m₂ = 264} c.requires.2 c.zone_bits-zone.ensures.1, c.mismatches_bits-mismatches.ensures.1)

pub overflow_mul-result-3 : goal.overflow_mul-result-3
overflow_mul-result-3 c =
    let a = c.args in
    let p = c.requires in
    omega (arith, intervals-are a.edition a.devices a.intervals a.zones _ _ p.0 p.1 p.2 c.zone_bits-zone.ensures c.mismatches_bits-mismatches.ensures)

pub returns : goal.returns
returns c =
    let a = c.args in
    let p = c.requires in
    intervals-are a.edition a.devices a.intervals a.zones _ _ p.0 p.1 p.2 c.zone_bits-zone.ensures c.mismatches_bits-mismatches.ensures
