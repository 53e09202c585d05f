-- The bytes that part a text, and the pieces between them.
use Rattle.std.specs.Prelude.{ℕ, ◌==◌, List, [], ◌∷◌, if◌then◌else◌}

-- the byte between two words
abbrev pub space : ℕ
space = 32

-- the byte between the parts of a transaction's name, and between the site and the name of a key
abbrev pub point : ℕ
point = 46

-- the byte between two numbers of a list
abbrev pub comma : ℕ
comma = 44

-- the byte between two parts of the network
abbrev pub bar : ℕ
bar = 124

-- the byte that ends a line
abbrev pub feed : ℕ
feed = 10

-- the pieces with one byte more in front of the first
abbrev pub in_front : ℕ → List (List ℕ) → List (List ℕ)
in_front b [] = (b ∷ []) ∷ []
in_front b (piece ∷ more) = (b ∷ piece) ∷ more

-- the pieces of a text between the bytes of this kind; a text without one is a piece itself
abbrev pub pieces : ℕ → List ℕ → List (List ℕ)
pieces mark [] = [] ∷ []
pieces mark (b ∷ text) = if b == mark then [] ∷ pieces mark text else in_front b (pieces mark text)
