-- Reading the value at the front of bytes, built from readers of its parts.
use Rattle.std.specs.Prelude.{◌≡◌, ℕ, zero, suc, List, [], ◌∷◌, length, take, drop, Option, Some, None, Bool, nat_lt, if◌then◌else◌, Result, Ok, Err}
use Rattle.std.specs.Int.{Width, w32, byte_len, from_be_bytes}
use Rattle.e3_codec.specs.declared.faults.Fault.{Fault}
use Rattle.e3_codec.specs.declared.faults.Fault.TheVariants.{Bad, NoMemory}

-- the value and the bytes behind it; none where no such value begins
abbrev pub Reader : Type 0 → Type 0
Reader A = List ℕ → Option (A × List ℕ)

infixl 10 ◌>>=◌
-- what follows, where there was something
abbrev pub ◌>>=◌ : {A B : Type 0} → Option A → (A → Option B) → Option B
(Some x) >>= f = f x
None >>= f = None

-- one value behind the other
abbrev pub pair_at : {A B : Type 0} → Reader A → Reader B → Reader (A × B)
pair_at a b bytes = a bytes >>= λ x. b x.1 >>= λ y. Some ((x.0, y.0), y.1)

-- a value made of the one that is read
abbrev pub mapped_at : {A B : Type 0} → (A → B) → Reader A → Reader B
mapped_at f a bytes = a bytes >>= λ x. Some (f x.0, x.1)

-- a value that passes a test
abbrev pub tested_at : {A : Type 0} → (A → Bool) → Reader A → Reader A
tested_at test a bytes = a bytes >>= λ x. if test x.0 then Some x else None

-- a number of two, four or eight bytes, the high byte first
unfoldable pub number_at : Width → Reader ℕ
number_at w bytes = if nat_lt (length bytes) (byte_len w) then None else Some (from_be_bytes w (take (byte_len w) bytes), drop (byte_len w) bytes)

-- one byte
unfoldable pub byte_at : Reader ℕ
byte_at [] = None
byte_at (b ∷ rest) = Some (b, rest)

-- so many bytes
unfoldable pub text_at : ℕ → Reader (List ℕ)
text_at n bytes = if nat_lt (length bytes) n then None else Some (take n bytes, drop n bytes)

-- a length, and so many bytes
abbrev pub counted_at : Reader ℕ → Reader (List ℕ)
counted_at a bytes = a bytes >>= λ n. text_at n.0 n.1

-- so many values
unfoldable pub times_at : {A : Type 0} → Reader A → ℕ → Reader (List A)
times_at a zero bytes = Some ([], bytes)
times_at a (suc n) bytes = a bytes >>= λ x. times_at a n x.1 >>= λ xs. Some (x.0 ∷ xs.0, xs.1)

-- a count of four bytes, and so many values
abbrev pub listed_at : {A : Type 0} → Reader A → Reader (List A)
listed_at a bytes = number_at w32 bytes >>= λ n. times_at a n.0 n.1

-- what a fault says of what was to be read: nothing where memory ran out
abbrev pub Fails : {Y : Type 0} → Fault → Option Y → Type 0
Fails NoMemory read = Unit {0}
Fails Bad read = read ≡ None

-- what a function returned, seen by the view, is what is read, unless memory ran out
abbrev pub Gives : {X Y : Type 0} → (X → Y) → Result X Fault → Option Y → Type 0
Gives view (Ok x) read = read ≡ Some (view x)
Gives view (Err e) read = Fails e read
