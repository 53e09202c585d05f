-- Packets numbered one further.
use Rattle.std.proofs.Common.{◌≡◌, ◌+◌, ℕ, suc, List, [], ◌∷◌, ◌++◌, length, ap, sym, arith, ◌∙◌, ◌<◌, get_or, take}
use Rattle.std.proofs.Math.Seq.{take-suc}
use Rattle.std.proofs.lemmas.Grind.{common_steps}
use Rattle.e3_types.specs.declared.messages.Packet.{Packet}
use Rattle.e3_world.specs.Legal.{numbered}

numbered_append : (n : ℕ) (xs : List Packet) (p : Packet) →
    numbered n (xs ++ p ∷ []) ≡ numbered n xs ++ record p { number = n + length xs } ∷ []
numbered_append n [] p = ap (λ (k : ℕ). let q : Packet = record p { number = k } in q ∷ []) (omega arith)
numbered_append n (x ∷ xs) p =
    ap (λ l. record x { number = n } ∷ l) (numbered_append (suc n) xs p)
    ∙ ap (λ (k : ℕ). record x { number = n } ∷ (numbered (suc n) xs ++ (let q : Packet = record p { number = k } in q) ∷ [])) (omega arith)

length_front : {X : Type 0} (i : ℕ) (xs : List X) → i < length xs → length (take i xs) ≡ i
length_front i xs low = grind (arith, common_steps, low)

-- the front with one more packet
pub numbered_next : (first : ℕ) (outs : List Packet) (i : ℕ) (p : Packet) → i < length outs → p ≡ get_or outs i p →
    numbered first (take (suc i) outs) ≡ numbered first (take i outs) ++ record p { number = first + i } ∷ []
numbered_next first outs i p low is =
    ap (numbered first) (take-suc outs i p low ∙ ap (λ q. take i outs ++ q ∷ []) (sym is))
    ∙ numbered_append first (take i outs) p
    ∙ ap (λ (k : ℕ). numbered first (take i outs) ++ (let q : Packet = record p { number = first + k } in q) ∷ []) (length_front i outs low)
