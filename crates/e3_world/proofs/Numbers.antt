-- The move of a step that is entered is the step itself: numbers are all that the entry adds.
use Rattle.std.proofs.Common.{◌≡◌, ℕ, suc, List, [], ◌∷◌, ap, refl, map}
use Rattle.e3_types.specs.declared.entries.Entry.{Entry}
use Rattle.e3_types.specs.declared.entries.Input.{Input}
use Rattle.e3_types.specs.declared.entries.Input.TheVariants as input
use Rattle.e3_types.specs.declared.messages.Packet.{Packet}
use Rattle.e3_types.specs.declared.scenarios.Scenario.{Scenario}
use Rattle.e3_world.specs.Moves.{Move, Stepped, own_entries, past_of, moves_of, moves_of_act, unnumbered, unnumbered_input}
use Rattle.e3_world.specs.Sound.{step_move}
use Rattle.e3_world.specs.Legal.{numbered, entry_of, made_by}

-- numbers are nothing to packets that are taken without them
pub unnumber_numbered : (n : ℕ) (ps : List Packet) → map unnumbered (numbered n ps) ≡ map unnumbered ps
unnumber_numbered n [] = refl
unnumber_numbered n (p ∷ ps) = ap (λ rest. unnumbered p ∷ rest) (unnumber_numbered (suc n) ps)

pub entered_move : (sc : Scenario) (h : List Entry) (site : ℕ) (i : Input) →
    moves_of_act sc site (past_of sc site (own_entries site h)) (entry_of sc h site i).act ≡ step_move sc site (moves_of sc h site) i ∷ []
entered_move sc h site i =
    ap (λ outs. record { site = site; did = Stepped (record { input = unnumbered_input i; records = (made_by sc h site i).records; outs = outs; told = (made_by sc h site i).told }) } ∷ [])
    (unnumber_numbered _ (made_by sc h site i).outs)

-- and so it is for the input without its packet's number
pub step_move_unnumbered : (sc : Scenario) (site : ℕ) (mine : List Move) (i : Input) → step_move sc site mine (unnumbered_input i) ≡ step_move sc site mine i
step_move_unnumbered sc site mine (input.Begin sites) = refl
step_move_unnumbered sc site mine (input.Do t op) = refl
step_move_unnumbered sc site mine (input.Commit t) = refl
step_move_unnumbered sc site mine (input.Cancel t) = refl
step_move_unnumbered sc site mine (input.Expire t) = refl
step_move_unnumbered sc site mine (input.Elect t group) = refl
step_move_unnumbered sc site mine (input.Deliver packet) = refl
