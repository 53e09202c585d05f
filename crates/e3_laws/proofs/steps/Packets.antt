-- Packets among others, by places and by turns.
use Rattle.std.proofs.Common.{◌≡◌, ◌⊎◌, inl, inr, zero, suc, List, [], ◌∷◌, arith}
use Rattle.std.specs.Prelude.{Contains}
use Rattle.std.proofs.lemmas.List.Elements.{Contains-append_right}
use Rattle.e3_types.specs.declared.messages.Packet.{Packet}

-- the packet is one of these
abbrev pub Among : Packet → List Packet → Type 0
Among p [] = ⊥
Among p (x ∷ xs) = (x ≡ p) ⊎ Among p xs

pub among : (p : Packet) (xs : List Packet) → Contains xs p → Among p xs
among p [] has = absurd (omega (arith, has.1))
among p (x ∷ xs) (zero, low, is) = inl is
among p (x ∷ xs) (suc k, low, is) = inr (among p xs (k, omega (arith, low), is))

pub contains : (p : Packet) (xs : List Packet) → Among p xs → Contains xs p
contains p [] has = absurd has
contains p (x ∷ xs) (inl is) = (0, omega arith, is)
contains p (x ∷ xs) (inr more) = Contains-append_right (x ∷ []) xs p (contains p xs more)

-- the only element of a list
pub only_one : {X : Type 0} (y x : X) → Contains (y ∷ []) x → y ≡ x
only_one y x (zero, low, is) = is
only_one y x (suc k, low, is) = absurd (omega (arith, low))
