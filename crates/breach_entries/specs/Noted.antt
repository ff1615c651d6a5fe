-- Breaches noted one behind the other in a lent list, entry k at the four bytes from 4·k on, each where the list has room for it.
use Rattle.std.specs.Prelude.{◌≡◌, refl, Bool, true, false, List, [], ◌∷◌, ◌++◌, ℕ, suc, ◌+◌, ◌*◌, ◌≤◌, ◌<◌, leb, length, take, drop}
use Rattle.std.proofs.Common.{sym, ap, ◌∙◌, append_assoc, arith, le-leb, length-append, length-drop, take_at, drop_at, drop-drop}
use Rattle.std.proofs.lemmas.Bool.{lt-leb}
use Rattle.bits.specs.Pick.{pick}
use Rattle.numbers.specs.Base.{up_to, gather}
use Rattle.numbers.specs.Gather.{from, from_all, from_end, gather-next}
use Rattle.model.specs.declared.Breach.{Breach}
use Rattle.model.specs.Lists.{breach_bytes, list_bytes}

-- entry k
unfoldable pub entered : ℕ → Breach → List ℕ → List ℕ
entered k b list = pick (leb (4 * k + 4) (length list)) (take (4 * k) list ++ (breach_bytes b ++ drop 4 (drop (4 * k) list))) list

-- nothing is done where there is no room
pub entered-not : (k : ℕ) (b : Breach) (list : List ℕ) → length list < 4 * k + 4 → list ≡ entered k b list
unfolding entered
entered-not k b list h = rw (lt-leb (4 * k + 4) (length list) h) refl

-- entries from k on
unfoldable pub noted : ℕ → List Breach → List ℕ → List ℕ
noted k [] list = list
noted k (b ∷ bs) list = noted (suc k) bs (entered k b list)

pub noted-append : (k : ℕ) (xs ys : List Breach) (list : List ℕ) → noted k (xs ++ ys) list ≡ noted (k + length xs) ys (noted k xs list)
unfolding noted
noted-append k [] ys list = let e : k + 0 ≡ k = omega arith in rw e refl
noted-append k (x ∷ xs) ys list = let e : k + suc (length xs) ≡ suc k + length xs = omega arith in rw e (noted-append (suc k) xs ys (entered k x list))

-- ---- a list too short for an entry, and one with room for all

pub noted-none : (k : ℕ) (bs : List Breach) (list : List ℕ) → length list < 4 → noted k bs list ≡ list
unfolding noted entered
noted-none k [] list h = refl
noted-none k (b ∷ bs) list h = rw (lt-leb (4 * k + 4) (length list) (omega arith)) (noted-none (suc k) bs list h)

-- the entry behind k others
entered-behind : (k : ℕ) (b : Breach) (front rest : List ℕ) → length front ≡ 4 * k → 4 ≤ length rest → entered k b (front ++ rest) ≡ (front ++ breach_bytes b) ++ drop 4 rest
unfolding entered
entered-behind k b front rest e h =
    rw (
      le-leb (4 * k + 4) (length (front ++ rest)) (omega (arith, length-append front rest)),
      take_at front rest (4 * k) e,
      drop_at front rest (4 * k) e,
    ) (sym (append_assoc front (breach_bytes b) (drop 4 rest)))

pub list-long : (bs : List Breach) → length (list_bytes bs) ≡ 4 * length bs
unfolding list_bytes gather
list-long [] = refl
list-long (b ∷ bs) = omega (arith, list-long bs)

noted-behind : (k : ℕ) (bs : List Breach) (front rest : List ℕ) → length front ≡ 4 * k → 4 * length bs ≤ length rest
    → noted k bs (front ++ rest) ≡ front ++ (list_bytes bs ++ drop (4 * length bs) rest)
unfolding noted list_bytes gather
noted-behind k [] front rest e h = refl
noted-behind k (b ∷ bs) front rest e h =
    let n : 4 * suc (length bs) ≡ 4 + 4 * length bs = omega arith in
    ap (noted (suc k) bs) (entered-behind k b front rest e (omega arith))
    ∙ noted-behind (suc k) bs (front ++ breach_bytes b) (drop 4 rest) (omega (arith, length-append front (breach_bytes b))) (omega (arith, length-drop 4 rest))
    ∙ append_assoc front (breach_bytes b) (list_bytes bs ++ drop (4 * length bs) (drop 4 rest))
    ∙ rw (n, drop-drop (4 * length bs) 4 rest) refl

-- "Write every broken rule .. the rest of the buffer unchanged"
pub noted-all : (bs : List Breach) (list : List ℕ) → length (list_bytes bs) ≤ length list → noted 0 bs list ≡ list_bytes bs ++ drop (length (list_bytes bs)) list
noted-all bs list h = noted-behind 0 bs [] list refl (omega (arith, list-long bs)) ∙ rw (list-long bs) refl

-- ---- what is noted, and how far

pub record Notes (k : ℕ) (bs : List Breach) (before after : List ℕ) (r : ℕ) : Type 0 where
  pub count : r ≡ k + length bs
  pub list : after ≡ noted k bs before

-- no more entries than this in a list
abbrev pub most_entries : ℕ
most_entries = 4294967296

-- one breach where its rule fails
abbrev pub note_if : Bool → Breach → List Breach
note_if true b = b ∷ []
note_if false b = []

pub notes-not : {k : ℕ} {before : List ℕ} {fails : Bool} (b : Breach) → fails ≡ false → Notes k (note_if fails b) before before k
unfolding noted
notes-not {k} b e = rw e (record { count = omega arith; list = refl })

pub notes-one : {k : ℕ} {before after : List ℕ} {fails : Bool} (b : Breach) → fails ≡ true → after ≡ entered k b before → Notes k (note_if fails b) before after (k + 1)
unfolding noted
notes-one b e f = rw e (record { count = refl; list = f })

-- a loop has noted some of `whole` from k₀ on: what is left is still to be noted from k on
pub record NotesLeft (whole : List Breach) (k₀ : ℕ) (before : List ℕ) (left : List Breach) (k : ℕ) (list : List ℕ) : Type 0 where
  pub count : k + length left ≡ k₀ + length whole
  pub same : noted k left list ≡ noted k₀ whole before

pub left-start : (whole : List Breach) (k₀ : ℕ) (before : List ℕ) → NotesLeft whole k₀ before whole k₀ before
left-start whole k₀ before = record { count = refl; same = refl }

pub left-part : {whole : List Breach} {k₀ : ℕ} {before : List ℕ} {left : List Breach} {k : ℕ} {list : List ℕ} (part rest : List Breach) → left ≡ part ++ rest
    → NotesLeft whole k₀ before left k list → {after : List ℕ} {r : ℕ} → Notes k part list after r → NotesLeft whole k₀ before rest r after
left-part {k = k} {list = list} part rest e n m = record {
  count = omega (arith, n.count, m.count, ap length e, length-append part rest);
  same = rw (m.count, m.list) (sym (noted-append k part rest list) ∙ rw e at n.same);
}

pub left-done : {whole : List Breach} {k₀ : ℕ} {before : List ℕ} {left : List Breach} {k : ℕ} {list : List ℕ} → left ≡ []
    → NotesLeft whole k₀ before left k list → Notes k₀ whole before list k
unfolding noted
left-done e n = record { count = omega (arith, n.count, ap length e); list = rw e at n.same }

-- ---- each field fits its byte

pub record InBytes (b : Breach) : Type 0 where
  pub rule : b.rule < 256
  pub interval : b.interval < 256
  pub device : b.device < 256
  pub window : b.window < 256

-- ---- a loop over the lists that a function gives, one behind the other

module _ (f : ℕ → List Breach) (n : ℕ) where
  -- those of the places from i on are left
  pub record GatherLeft (k₀ : ℕ) (before : List ℕ) (i k : ℕ) (list : List ℕ) : Type 0 where
    pub left : NotesLeft (gather f (up_to n)) k₀ before (gather f (from i n)) k list

  pub gather-start : (k₀ : ℕ) (before : List ℕ) → GatherLeft k₀ before 0 k₀ before
  gather-start k₀ before = record { left = rw (from_all n) (left-start (gather f (up_to n)) k₀ before) }

  module _ {k₀ : ℕ} {before : List ℕ} {i k : ℕ} {list : List ℕ} (g : GatherLeft k₀ before i k list) where
    -- there is room for the next
    pub gather-room : i < n → {most : ℕ} → k₀ + length (gather f (up_to n)) ≤ most → k + length (f i) ≤ most
    gather-room h l = omega (arith, g.left.count, ap length (gather-next f i n h), length-append (f i) (gather f (from (i + 1) n)))

    pub gather-more : i < n → {after : List ℕ} {r : ℕ} → Notes k (f i) list after r → GatherLeft k₀ before (i + 1) r after
    gather-more h m = record { left = left-part (f i) (gather f (from (i + 1) n)) (gather-next f i n h) g.left m }

    pub gather-done : n ≤ i → Notes k₀ (gather f (up_to n)) before list k
    unfolding gather
    gather-done h = left-done (rw (from_end i n h) refl) g.left

-- what a breach that is to be noted asks of its place
pub one-asked : {fails : Bool} (b : Breach) {k : ℕ} → fails ≡ true → InBytes b × (k + length (note_if fails b) ≤ most_entries) → InBytes b × (k < most_entries)
one-asked b e h = (h.0, omega (arith, rw e at h.1))

-- some, then others
pub notes-append : {k : ℕ} {xs ys : List Breach} {before between after : List ℕ} {n r : ℕ} → Notes k xs before between n → Notes n ys between after r → Notes k (xs ++ ys) before after r
notes-append {k} {xs} {ys} {before} a b = record {
  count = omega (arith, a.count, b.count, length-append xs ys);
  list = b.list ∙ rw (a.count, a.list) (sym (noted-append k xs ys before));
}

-- the same breaches under another name
pub notes-as : {k : ℕ} {xs ys : List Breach} {before after : List ℕ} {r : ℕ} → xs ≡ ys → Notes k xs before after r → Notes k ys before after r
notes-as e n = rw e at n
