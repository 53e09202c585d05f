-- The moves of a sound trail are what their inputs make.
use Rattle.std.proofs.Common.{◌≡◌, ◌∷◌, [], ◌++◌, true, ℕ, List, sym, subst, nat_le, length, ◌&&◌}
use Rattle.std.specs.Prelude.{Contains}
use Rattle.std.specs.List.{flat_map, list_all}
use Rattle.std.proofs.lemmas.Bool.{and_parts}
use Rattle.std.proofs.lemmas.List.Elements.{Contains-append_left}
use Rattle.e3_types.specs.declared.entries.Input.{Input}
use Rattle.e3_types.specs.declared.entries.Input.TheVariants as input
use Rattle.e3_types.specs.declared.messages.Packet.{Packet}
use Rattle.e3_types.specs.declared.scenarios.Scenario.{Scenario}
use Rattle.e3_types.specs.Sets.{has_site}
use Rattle.e3_world.specs.declared.lives.Life.{Life}
use Rattle.e3_world.specs.Lives.{life_at}
use Rattle.e3_world.specs.Moves.{Did, Stepped, Silent, Rose, Move, moves_at}
use Rattle.e3_world.specs.Orderly.{is_among}
use Rattle.e3_world.specs.Safe.{Agrees, AllVoted}
use Rattle.e3_world.specs.Sound.{Fits, FitInTurn, IsSound, IsSoundMove, SoundAfter, WasSent, sends, step_move}
use Rattle.e3_laws.specs.agreement.Rows.{MayTake}
use Rattle.e3_laws.specs.agreement.Trails.{IsMade, IsMadeMove, MadeAfter, TakenInTurn}
use Rattle.e3_laws.proofs.agreement.Refinement.Agreeing.{made_agrees}
use Rattle.e3_laws.proofs.agreement.Refinement.Following.{sends_with}
use Rattle.e3_laws.proofs.agreement.Refinement.Voting.{made_voted}

member : (x : ℕ) (weights sites : List ℕ) → is_among x weights sites ≡ true → has_site sites x ≡ true
member x weights sites among = (and_parts (has_site sites x) (list_all (λ s. nat_le 1 s && nat_le s (length weights)) sites) among).0

-- an input that fits may be taken
fits_taken : (weights : List ℕ) (x : ℕ) (life : Life) (i : Input) → Fits weights x life i → MayTake x i
fits_taken weights x life (input.Begin sites) f = tt
fits_taken weights x life (input.Do u op) f = (member x weights u.sites f.among, f.there)
fits_taken weights x life (input.Commit u) f = (member x weights u.sites f.0, f.1)
fits_taken weights x life (input.Cancel u) f = f.1
fits_taken weights x life (input.Expire u) f = member x weights u.sites f
fits_taken weights x life (input.Elect u group) f = (member x weights u.sites f.0, f.1, f.2)
fits_taken weights x life (input.Deliver packet) f = f.to

-- what was sent before was sent before with more moves
abbrev Covers : List Move → List Move → Type 0
Covers before later = (p : Packet) → Contains (flat_map sends before) p → Contains (flat_map sends later) p

sent_later : (before later : List Move) (i : Input) → Covers before later → WasSent before i → WasSent later i
sent_later before later (input.Deliver packet) covers was = covers packet was
sent_later before later (input.Begin sites) covers was = tt
sent_later before later (input.Do u op) covers was = tt
sent_later before later (input.Commit u) covers was = tt
sent_later before later (input.Cancel u) covers was = tt
sent_later before later (input.Expire u) covers was = tt
sent_later before later (input.Elect u group) covers was = tt

covers_more : (before later : List Move) (m : Move) → Covers before later → Covers before (later ++ m ∷ [])
covers_more before later m covers p k =
    subst (λ z. Contains z p) (sym (sends_with later m)) (Contains-append_left (flat_map sends later) (sends m) p (covers p k))

taken_in_turn : (sc : Scenario) (before later : List Move) (x : ℕ) (mine : List Move) (inputs : List Input) → Covers before later
    → FitInTurn sc before x mine inputs → TakenInTurn sc later x mine inputs
taken_in_turn sc before later x mine [] covers f = tt
taken_in_turn sc before later x mine (i ∷ inputs) covers f = (
  fits_taken sc.weights x (life_at mine) i f.0,
  sent_later before later i covers f.1,
  taken_in_turn sc before (later ++ step_move sc x mine i ∷ []) x (mine ++ step_move sc x mine i ∷ []) inputs (covers_more before later (step_move sc x mine i) covers) f.2,
)

move_made : (sc : Scenario) (before : List Move) (x : ℕ) (d : Did) → IsSoundMove sc before (record { site = x; did = d }) → IsMadeMove sc before (record { site = x; did = d })
move_made sc before x (Stepped s) k =
    record { takes = fits_taken sc.weights x (life_at (moves_at x before)) s.input k.fits; was_sent = k.was_sent; made = k.made }
move_made sc before x (Silent [] records) k = (k.0, k.1.made)
move_made sc before x (Silent (i ∷ inputs) records) k =
    record { takes = taken_in_turn sc before before x (moves_at x before) (i ∷ inputs) (λ p q. q) k.fits; made = k.made }
move_made sc before x (Rose inc records) k = k.made

made_after : (sc : Scenario) (before rest : List Move) → SoundAfter sc before rest → MadeAfter sc before rest
made_after sc before [] k = tt
made_after sc before (m ∷ rest) k = (move_made sc before m.site m.did k.0, made_after sc (before ++ m ∷ []) rest k.1)

-- a sound trail is made
pub sound_made : (sc : Scenario) (trail : List Move) → IsSound sc trail → IsMade sc trail
sound_made sc trail k = made_after sc [] trail k

-- so it agrees
pub sound_agrees : (sc : Scenario) (trail : List Move) → IsSound sc trail → Agrees trail
sound_agrees sc trail k = made_agrees sc trail (sound_made sc trail k)

-- and its commits have every vote
pub sound_voted : (sc : Scenario) (trail : List Move) → IsSound sc trail → AllVoted trail
sound_voted sc trail k = made_voted sc trail (sound_made sc trail k)
