-- Messages "packed most significant bit first": a layout says which fields follow one another, once for reading and writing.
use Rattle.std.specs.Prelude.{Bool, true, false, List, [], ◌∷◌, ◌++◌, ℕ, zero, suc, ◌+◌, ◌-◌, ◌*◌, ◌/◌, ◌%◌, ◌^◌, ltb, leb, eqb, length, ℤ, nat_abs}
use Rattle.bits.specs.Bits.{bit_at, read_field}
use Rattle.bits.specs.Twos.{from_twos, to_twos}
use Rattle.layouts.specs.declared.Fault.{Fault}
use Rattle.layouts.specs.declared.Fault.TheVariants as F
use Rattle.layouts.specs.declared.Clash.{Clash}
use Rattle.layouts.specs.declared.Clash.TheVariants.{Clear, At}
use Rattle.layouts.specs.declared.Place.{Place}
use Rattle.bits.specs.declared.Field.{Field as Raw}
use Rattle.bits.specs.declared.Field.TheVariants.{Value, Cut}
use Rattle.bits.specs.Pick.{pick}
use Rattle.numbers.specs.Base.{gather}

-- the low w bits of v, highest first
unfoldable pub bits_of : ℕ → ℕ → List ℕ
bits_of zero v = []
bits_of (suc w) v = bits_of w (v / 2) ++ (v % 2 ∷ [])

-- one field: "Width in bits, then range", and the fault of a value out of it
pub record Field : Type 0 where
  pub width : ℕ
  pub low : ℕ
  pub high : ℕ
  pub wrong : ℕ → Fault

-- ---- layouts

-- the first of two, where there is one
abbrev pub or_else : Clash → Clash → Clash
or_else (At b) o = At b
or_else Clear o = o

abbrev pub begin : Place
begin = record { at = 0; clash = Clear }

abbrev pub advanced : Place → ℕ → Place
advanced p at = record { at = at; clash = p.clash }

-- A layout of values of A. It is read from a place: a fault is handed to `bad`, and the value with the place after it to `next`, so that
-- "reading goes on only after a field that was in range". It is written as bits.
pub record Layout (A : Type 0) : Type 1 where
  pub read : {X : Type 0} → List ℕ → Place → (Fault → X) → (A → Place → X) → X
  pub write : A → List ℕ

-- w bits, or number 1: "message ends before or inside the field"
abbrev pub raw : {X : Type 0} → Raw → Place → (Fault → X) → (ℕ → Place → X) → X
raw (Value v c) p bad next = next v (advanced p c.at)
raw (Cut b) p bad next = bad (F.Cut p.at)

-- a field of whole numbers from `low` to `high`
unfoldable pub nat : Field → Layout ℕ
nat f = record {
  read = λ s p bad next. raw (read_field s p.at f.width) p bad (λ v after. pick (leb f.low v) (pick (leb v f.high) (next v after) (bad (f.wrong p.at))) (bad (f.wrong p.at)));
  write = λ v. bits_of f.width v;
}

-- a field of whole numbers of a size up to `most`
unfoldable pub int : ℕ → ℕ → Layout ℤ
int w most = record {
  read = λ s p bad next. raw (read_field s p.at w) p bad (λ v after. pick (leb (nat_abs (from_twos w v)) most) (next (from_twos w v) after) (bad (F.OutOfRange p.at)));
  write = λ z. bits_of w (to_twos w z);
}

-- one behind the other; the second may depend on what the first holds
infixr 5 ◌then◌ ◌▸◌
unfoldable pub ◌then◌ : {A B : Type 0} → Layout A → (A → Layout B) → Layout (A × B)
l then m = record {
  read = λ s p bad next. l.read s p bad (λ a p. (m a).read s p bad (λ b p. next (a, b) p));
  write = λ x. l.write x.0 ++ (m x.0).write x.1;
}

abbrev pub ◌▸◌ : {A B : Type 0} → Layout A → Layout B → Layout (A × B)
l ▸ m = l then (λ a. m)

-- n of them
unfoldable pub repeated : {A X : Type 0} → Layout A → List ℕ → ℕ → Place → (Fault → X) → (List A → Place → X) → X
repeated l s zero p bad next = next [] p
repeated l s (suc n) p bad next = l.read s p bad (λ a p. repeated l s n p bad (λ r p. next (a ∷ r) p))

unfoldable pub list : {A : Type 0} → ℕ → Layout A → Layout (List A)
list n l = record { read = λ s p bad next. repeated l s n p bad next; write = λ xs. gather l.write xs }

-- a value that fails the test contradicts what was read before it, at its first bit
abbrev pub noted : Bool → ℕ → Place → Place
noted true b p = p
noted false b p = record { at = p.at; clash = or_else p.clash (At b) }

unfoldable pub such : {A : Type 0} → (A → Bool) → Layout A → Layout A
such ok l = record {
  read = λ s p bad next. l.read s p bad (λ a after. next a (noted (ok a) p.at after));
  write = l.write;
}

-- the same fields, held as another type
unfoldable pub held : {A B : Type 0} → (A → B) → (B → A) → Layout A → Layout B
held to from l = record {
  read = λ s p bad next. l.read s p bad (λ a p. next (to a) p);
  write = λ b. l.write (from b);
}

-- a count and that many
unfoldable pub counted : {A : Type 0} → Field → Layout A → Layout (List A)
counted {A} f l = held {A = ℕ × List A} (λ x. x.1) (λ xs. (length xs, xs)) (nat f then (λ n. list n l))

-- ---- kinds of fields

abbrev pub figure : ℕ → ℕ → ℕ → Layout ℕ
figure w low high = nat (record { width = w; low = low; high = high; wrong = F.OutOfRange })

-- every value of the width
abbrev pub any : ℕ → Layout ℕ
any w = figure w 0 (2 ^ w - 1)

abbrev pub count_of : ℕ → ℕ → ℕ → Field
count_of w low high = record { width = w; low = low; high = high; wrong = F.WrongCount }

-- kind and edition
abbrev pub fixed : ℕ → Layout ℕ
fixed v = nat (record { width = 4; low = v; high = v; wrong = F.WrongKind })

-- number 6, "first wrong bit: fill bit not 0, or first bit of a surplus byte": the first 1 of n bits from at
unfoldable pub first_one : List ℕ → ℕ → ℕ → Clash
first_one s at zero = Clear
first_one s at (suc n) = let r = first_one s (suc at) n in pick (eqb (bit_at s at) 0) r (At at)

-- the bytes that n bits take
abbrev pub bytes_for : ℕ → ℕ
bytes_for n = (n + 7) / 8

unfoldable pub tail_fault : List ℕ → ℕ → Clash
tail_fault s at = or_else (first_one s at (8 * bytes_for at - at)) (pick (ltb (bytes_for at) (length s)) (At (8 * bytes_for at)) Clear)

-- "fields in message order (1 to 4), then 6, then 5 in message order"
pub data Whole (A : Type 0) : Type 0 where
  passes : A → Whole A
  fails : Fault → Whole A

unfoldable pub settle : {A : Type 0} → A → Clash → Clash → Whole A
settle a (At b) c = fails (F.Tail b)
settle a Clear (At b) = fails (F.Contradiction b)
settle a Clear Clear = passes a

unfoldable pub read_whole : {A : Type 0} → Layout A → List ℕ → Whole A
read_whole l s = l.read s begin fails (λ a p. settle a (tail_fault s p.at) p.clash)

-- eight bits as a byte
abbrev pub byte : ℕ → ℕ → ℕ → ℕ → ℕ → ℕ → ℕ → ℕ → ℕ
byte a b c d e f g h = a * 128 + b * 64 + c * 32 + d * 16 + e * 8 + f * 4 + g * 2 + h

-- "Zero bits fill the last byte"
unfoldable pub bytes : List ℕ → List ℕ
bytes [] = []
bytes (a ∷ []) = byte a 0 0 0 0 0 0 0 ∷ []
bytes (a ∷ b ∷ []) = byte a b 0 0 0 0 0 0 ∷ []
bytes (a ∷ b ∷ c ∷ []) = byte a b c 0 0 0 0 0 ∷ []
bytes (a ∷ b ∷ c ∷ d ∷ []) = byte a b c d 0 0 0 0 ∷ []
bytes (a ∷ b ∷ c ∷ d ∷ e ∷ []) = byte a b c d e 0 0 0 ∷ []
bytes (a ∷ b ∷ c ∷ d ∷ e ∷ f ∷ []) = byte a b c d e f 0 0 ∷ []
bytes (a ∷ b ∷ c ∷ d ∷ e ∷ f ∷ g ∷ []) = byte a b c d e f g 0 ∷ []
bytes (a ∷ b ∷ c ∷ d ∷ e ∷ f ∷ g ∷ h ∷ r) = byte a b c d e f g h ∷ bytes r
