-- The ranges of writes that are made one after the other.
use Rattle.std.proofs.Common.{◌≡◌, ℕ, suc, arith, ◌+◌, ◌<◌, List, [], ◌∷◌, ◌++◌, length, get_or, take, drop, sym, subst, ◌∙◌, ap, take-append-drop}
use Rattle.std.proofs.Math.Seq.{take-suc}
use Rattle.std.proofs.lemmas.List.{map_push, map-append}
use Rattle.e3_disk.specs.declared.law.Piece.{Piece}
use Rattle.e3_disk.specs.Images.{Tears, TearsBy}
use Rattle.e3_disk.specs.Pieces.{ranges_of}
use Rattle.e3_disk.proofs.Tearing.{tears_push, tears_rest}

abbrev range_of : Piece → ℕ × ℕ
range_of p = (p.place, length p.bytes)

-- one more
ranges_next : (pieces : List Piece) (i : ℕ) (p : Piece) → i < length pieces → p ≡ get_or pieces i p
    → ranges_of (take (i + 1) pieces) ≡ ranges_of (take i pieces) ++ range_of p ∷ []
ranges_next pieces i p lt is =
    let one : i + 1 ≡ suc i = omega arith in
    ap (λ (k : ℕ). ranges_of (take k pieces)) one ∙ ap ranges_of (take-suc pieces i p lt) ∙ map_push range_of (take i pieces) (get_or pieces i p)
    ∙ ap (λ (q : Piece). ranges_of (take i pieces) ++ range_of q ∷ []) (sym is)

-- some, and those behind them
ranges_split : (pieces : List Piece) (k : ℕ) → ranges_of (take k pieces) ++ ranges_of (drop k pieces) ≡ ranges_of pieces
ranges_split pieces k = sym (map-append range_of (take k pieces) (drop k pieces)) ∙ ap ranges_of (take-append-drop k pieces)

-- a write more was made
pub torn_next : (pieces : List Piece) (i : ℕ) (p : Piece) (bytes : List ℕ) (a b c : List ℕ → Type 0) → i < length pieces → p ≡ get_or pieces i p → bytes ≡ p.bytes
    → TearsBy (ranges_of (take i pieces)) a b → Tears p.place (length bytes) b c → TearsBy (ranges_of (take (i + 1) pieces)) a c
torn_next pieces i p bytes a b c lt is same before last =
    let last2 = subst (λ (bs : List ℕ). Tears p.place (length bs) b c) same last in
    subst (λ (ws : List (ℕ × ℕ)). TearsBy ws a c) (sym (ranges_next pieces i p lt is)) (tears_push (ranges_of (take i pieces)) p.place (length p.bytes) a b c before last2)

-- the writes behind were not made
pub torn_all : (pieces : List Piece) (k : ℕ) (a c : List ℕ → Type 0) → TearsBy (ranges_of (take k pieces)) a c → TearsBy (ranges_of pieces) a c
torn_all pieces k a c made =
    subst (λ (ws : List (ℕ × ℕ)). TearsBy ws a c) (ranges_split pieces k) (tears_rest (ranges_of (take k pieces)) (ranges_of (drop k pieces)) a c made)
