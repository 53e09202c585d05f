-- Writes that are to be made one after the other.
use Rattle.std.specs.Prelude.{ℕ, List, length, map}
use Rattle.e3_disk.specs.declared.law.Piece.{Piece}

-- The ranges of these writes, each by its place and its length.
abbrev pub ranges_of : List Piece → List (ℕ × ℕ)
ranges_of pieces = map (λ p. (p.place, length p.bytes)) pieces
