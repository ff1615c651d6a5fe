-- What writing text into a buffer leaves, and its laws.
use Rattle.std.specs.Prelude.{◌≡◌, List, ◌++◌, ℕ, ◌+◌, ◌≤◌, length, take, drop}

-- The longest line: an index of 20 digits, " broken", four numbers of 20 digits behind a space each, the line's end.
abbrev pub line_room : ℕ
line_room = 112

-- a line's text at the front of a buffer: n is its length, and the rest of the buffer is as before
pub record Writes (t before after : List ℕ) (n : ℕ) : Type 0 where
  pub count : n ≡ length t
  pub short : n ≤ line_room
  pub bytes : after ≡ t ++ drop n before

-- text of at most `room` bytes from the place `at` on, up to the place `next`
pub record Puts (room : ℕ) (t before after : List ℕ) (at next : ℕ) : Type 0 where
  pub moved : next ≡ at + length t
  pub short : length t ≤ room
  pub bytes : after ≡ take at before ++ (t ++ drop (at + length t) before)
