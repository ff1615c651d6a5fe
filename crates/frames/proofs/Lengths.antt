-- A frame's bytes by its cases: a length cut short, a length above the limit, a message.
use Rattle.std.specs.Prelude.{◌≡◌, List, ℕ, ◌+◌, ◌≤◌, ◌<◌, length}
use Rattle.std.proofs.Math.Path.{refl}
use Rattle.std.proofs.Common.{ap, arith}
use borrow.Author.Tests.{lt-ltb, le-ltb}
use Rattle.bits.specs.Bits.{field_at}
use Rattle.frames.specs.Frames.{limit, frame_bytes, frame_room}

module _ (head : List ℕ) where
  pub cut-bytes : length head < 3 → (length head ≡ frame_bytes head) × (length head ≤ frame_room)
  unfolding frame_bytes
  cut-bytes h = (rw (lt-ltb (length head) 3 h) refl, omega arith)

  module _ {n : ℕ} (e : n ≡ field_at head 0 24) (h : 3 ≤ length head) where
    pub head-bytes : limit < n → (3 ≡ frame_bytes head) × (3 ≤ frame_room)
    unfolding frame_bytes
    head-bytes g = (rw (le-ltb (length head) 3 h, lt-ltb limit (field_at head 0 24) (omega arith)) refl, omega arith)

    pub all-bytes : n ≤ limit → (3 + n ≡ frame_bytes head) × (3 + n ≤ frame_room)
    unfolding frame_bytes
    all-bytes g = (rw (le-ltb (length head) 3 h, le-ltb limit (field_at head 0 24) (omega arith)) (ap (λ (k : ℕ). 3 + k) e), omega arith)
