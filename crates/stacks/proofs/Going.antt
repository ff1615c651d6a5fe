-- The plans of a batch, one after the other: what the loop over them keeps.
use Rattle.std.specs.Prelude.{◌≡◌, refl, List, [], ◌∷◌, ◌++◌, ℕ, ◌+◌, ◌-◌, ◌*◌, ◌≤◌, ◌<◌, length, take, drop}
use Rattle.std.proofs.Common.{sym, ap, ◌∙◌, append-nil, arith, length-append, length-drop, length-take-le}
use Rattle.std.proofs.Math.Seq.{take-length, drop-length}
use Rattle.layouts.specs.declared.Fault.{Fault}
use Rattle.layouts.specs.declared.Framed.{Framed}
use Rattle.layouts.specs.declared.Framed.TheVariants as B
use Rattle.layouts.specs.Framing.{framed_at, part}
use Rattle.layouts.specs.Layout.{Whole, passes, fails}
use Rattle.model.specs.ByEdition.{Stated}
use Rattle.tellings.specs.Splitting.{host_limit}
use Rattle.stacks.specs.declared.Counted.TheVariants.{Messages}
use Rattle.stacks.specs.Messages.{ahead, messages_from, messages_of, counted, plans_in}
use Rattle.stacks.proofs.Messages.{from_end, from-refused, from-message}
use Rattle.stacks.specs.Stack.{row_numbers, row_of, turn, turn_bytes}
use Rattle.stacks.specs.Turns.{TakesTurn}
use Rattle.stacks.proofs.Turns.{turn-leaves}
use Rattle.stacks.specs.Left.{Left, left}
use Rattle.stacks.proofs.Left.{left-next, left-done, left-all}
use Rattle.stacks.specs.Going.{Going, Moved, Moves, TakesTurns}

-- a turn with the parts of the buffer and the table from there on
pub moved-of : (y : Stated) (ps : List ℕ) (bytes place : ℕ) (buffer rows : List ℕ) {end row : List ℕ} {n : ℕ}
    → TakesTurn y ps (take (length buffer - bytes) (drop bytes buffer)) end (take (length rows - place) (drop place rows)) row n
    → Moved y ps bytes place buffer (take bytes buffer ++ (end ++ drop (length buffer - bytes) (drop bytes buffer))) rows (take place rows ++ (row ++ drop (length rows - place) (drop place rows)))
    (bytes + n)
moved-of y ps bytes place buffer rows {end} {row} t =
    let n : length buffer - bytes ≡ length (drop bytes buffer) = sym (length-drop bytes buffer) in
    let m : length rows - place ≡ length (drop place rows) = sym (length-drop place rows) in
    let a : take (length buffer - bytes) (drop bytes buffer) ≡ drop bytes buffer = rw n (take-length (drop bytes buffer)) in
    let b : take (length rows - place) (drop place rows) ≡ drop place rows = rw m (take-length (drop place rows)) in
    let u : TakesTurn y ps (drop bytes buffer) end (drop place rows) row _ = rw (a, b) at t in
    record {
      bytes_next = ap (λ (k : ℕ). bytes + k) u.bytes;
      result = rw (n, drop-length (drop bytes buffer), append-nil end) (ap (λ (x : List ℕ). take bytes buffer ++ x) u.result);
      numbers = rw (m, drop-length (drop place rows), append-nil row) (ap (λ (x : List ℕ). take place rows ++ x) u.numbers);
    }

module _ {y : Stated} {s : List ℕ} {at bytes place : ℕ} {buffer after rows told : List ℕ} {r : ℕ} {x : Framed} (e : x ≡ framed_at host_limit s at) where
  pub moves-end : {next : ℕ} → x ≡ B.End → Moves y s at bytes place buffer after rows told next r
  moves-end t = record { moved = λ from until f. absurd (let z : ◌≡◌ {A = ℕ} 0 1 = cc in omega arith) }

  pub moves-refused : {next : ℕ} {f : Fault} → x ≡ B.Refused f → Moves y s at bytes place buffer after rows told next r
  moves-refused t = record { moved = λ from until f. absurd (let z : ◌≡◌ {A = ℕ} 0 1 = cc in omega arith) }

  pub moves-message : {from until : ℕ} → x ≡ B.Message from until → Moved y (part s from until) bytes place buffer after rows told r → Moves y s at bytes place buffer after rows told until r
  moves-message {from} {until} t m = record {
    moved = λ from' until' f.
        let a : from ≡ from' = cc in
        let b : until ≡ until' = cc in
        (b, rw (a, b) at m);
  }

going_start : (y : Stated) (s before table : List ℕ) (plans : List (List ℕ)) {places : ℕ} → messages_of host_limit s ≡ passes plans → places ≡ row_numbers * length plans → places ≤ length table
    → Going y s before table places 0 0 0 before table
going_start y s before table plans e p h = record {
  more = plans;
  messages = e;
  same = ap (λ w. left y before table 0 0 (plans_in w)) (sym e);
  inside = omega arith;
  ends = omega arith;
  room = h;
  long = refl;
  table-long = refl;
}

module _ {y : Stated} {s before table : List ℕ} {places at bytes place : ℕ} {buffer rows : List ℕ} (g : Going y s before table places at bytes place buffer rows) where
  -- a plan is left, and has places for its numbers
  pub going-room : place < places → place + row_numbers ≤ length rows
  going-room h = go g.more g.ends
    where
      go : (ms : List (List ℕ)) → place + row_numbers * length ms ≡ places → place + row_numbers ≤ length rows
      go [] e = absurd (omega arith)
      go (m ∷ ms) e = omega (arith, g.room)

  pub going_done : places ≤ place → TakesTurns y (plans_in (messages_of host_limit s)) before buffer table rows bytes
  going_done h = go g.more g.ends g.same
    where
      go : (ms : List (List ℕ)) → place + row_numbers * length ms ≡ places → left y buffer rows bytes place ms ≡ left y before table 0 0 (plans_in (messages_of host_limit s))
          → TakesTurns y (plans_in (messages_of host_limit s)) before buffer table rows bytes
      go (m ∷ ms) e f = absurd (omega arith)
      go [] e f =
          let k = sym (left-done y buffer rows bytes place) ∙ f ∙ left-all y before table (plans_in (messages_of host_limit s)) in
          record { bytes = ap (λ (x : Left). x.bytes) k; result = ap (λ (x : Left). x.result) k; numbers = ap (λ (x : Left). x.table) k }

  -- one plan more, by what the splitter finds
  module _ (h : place < places) where
    none_left : messages_from host_limit s at ≡ passes [] → ⊥
    none_left f = go g.more g.ends (sym g.messages ∙ f)
      where
        go : (ms : List (List ℕ)) → place + row_numbers * length ms ≡ places → passes ms ≡ passes [] → ⊥
        go [] e f = omega arith
        go (m ∷ ms) e f = let z : ◌≡◌ {A = ℕ} 0 1 = cc in omega arith

    module _ (ps : List ℕ) (ms : List (List ℕ)) (e : ps ∷ ms ≡ g.more) {after told : List ℕ} {r : ℕ} (m : Moved y ps bytes place buffer after rows told r) where
      abbrev row : List ℕ
      row = row_of (turn y (drop bytes buffer) ps).verdict (turn_bytes y (drop bytes buffer) ps)

      after-long : length after ≡ length buffer
      after-long = let l = turn-leaves y (drop bytes buffer) ps in omega (
        arith,
        ap length m.result,
        length-append (take bytes buffer) (turn y (drop bytes buffer) ps).result,
        length-take-le bytes buffer g.inside,
        length-drop bytes buffer,
        l.long,
        g.inside,
      )

      told-long : length told ≡ length rows
      told-long = omega (
        arith,
        ap length m.numbers,
        length-append (take place rows) (row ++ drop row_numbers (drop place rows)),
        length-take-le place rows (omega (arith, going-room h)),
        length-append row (drop row_numbers (drop place rows)),
        length-drop row_numbers (drop place rows),
        length-drop place rows,
        going-room h,
      )

      turn-going : {until : ℕ} → messages_from host_limit s until ≡ passes ms → Going y s before table places until r (place + row_numbers) after told
      turn-going k = record {
        more = ms;
        messages = k;
        same = rw (m.bytes_next, m.result, m.numbers)
            (sym (left-next y buffer rows bytes place g.inside (omega (arith, going-room h)) ps ms) ∙ ap (left y buffer rows bytes place) e ∙ g.same);
        inside = omega (arith, m.bytes_next, after-long, (turn-leaves y (drop bytes buffer) ps).fits, length-drop bytes buffer, g.inside);
        ends = omega (arith, g.ends, ap length e);
        room = omega (arith, told-long, g.room);
        long = after-long ∙ g.long;
        table-long = told-long ∙ g.table-long;
      }

    going-message : (from until : ℕ) → framed_at host_limit s at ≡ B.Message from until → {after told : List ℕ} {r : ℕ} → Moved y (part s from until) bytes place buffer after rows told r
        → Going y s before table places until r (place + row_numbers) after told
    going-message from until e {after} {told} {r} m = go (messages_from host_limit s until) refl (sym (from-message host_limit s at (sym e) refl) ∙ g.messages)
      where
        go : (w : Whole (List (List ℕ))) → messages_from host_limit s until ≡ w → ahead (part s from until) w ≡ passes g.more → Going y s before table places until r (place + row_numbers) after told
        go (fails f) k v = absurd (let z : ◌≡◌ {A = ℕ} 0 1 = cc in omega arith)
        go (passes ms) k v = turn-going (part s from until) ms (cc) m k

    -- the splitter finds a message: one is left
    pub going_more : {next : ℕ} {after told : List ℕ} {r : ℕ} → Moves y s at bytes place buffer after rows told next r → Going y s before table places next r (place + row_numbers) after told
    going_more {next} {after} {told} {r} m = go (framed_at host_limit s at) refl
      where
        go : (x : Framed) → framed_at host_limit s at ≡ x → Going y s before table places next r (place + row_numbers) after told
        go B.End e = absurd (none_left (from_end host_limit s at (sym e) refl))
        go (B.Refused f) e =
            let k : passes g.more ≡ fails f = sym g.messages ∙ from-refused host_limit s at (sym e) refl in
            absurd (let z : ◌≡◌ {A = ℕ} 0 1 = cc in omega arith)
        go (B.Message from until) e = let k = m.moved from until e in rw k.0 (going-message from until e k.1)

-- so many messages, counted
pub going-counted : (y : Stated) (s before table : List ℕ) {count places : ℕ} → counted (messages_of host_limit s) ≡ Messages count → places ≡ row_numbers * count → places ≤ length table
    → Going y s before table places 0 0 0 before table
going-counted y s before table {count} {places} e p h = go (messages_of host_limit s) refl e
  where
    go : (w : Whole (List (List ℕ))) → messages_of host_limit s ≡ w → counted w ≡ Messages count → Going y s before table places 0 0 0 before table
    go (passes ms) k v = let n : length ms ≡ count = cc in going_start y s before table ms k (omega arith) h
    go (fails f) k v = absurd (let z : ◌≡◌ {A = ℕ} 0 1 = cc in omega arith)
