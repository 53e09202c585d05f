-- Trails whose moves are what their inputs make, and the marks of one transaction in them. A silent move has a mark for each
-- of its inputs, without letters.
use Rattle.std.specs.Prelude.{◌≡◌, ◌++◌, ◌∷◌, [], ℕ, List}
use Rattle.e3_types.specs.declared.entries.Input.{Input}
use Rattle.e3_types.specs.declared.records.Record.{Record}
use Rattle.e3_types.specs.declared.scenarios.Scenario.{Scenario}
use Rattle.e3_types.specs.declared.transactions.Txn.{Txn}
use Rattle.e3_world.specs.Moves.{Move, Did, Stepped, Silent, Rose, moves_at, recorded, log_by, rise_records}
use Rattle.e3_world.specs.Sound.{WasSent, step_move, records_in_turn}
use Rattle.e3_laws.specs.agreement.Marks.{Mark}
use Rattle.e3_laws.specs.agreement.Rows.{MayTake}
use Rattle.e3_laws.specs.agreement.Views.{notes_of, leader_of, letters_of}

-- the marks of inputs, one after the other behind the steps that they would make
abbrev pub silent_marks : Scenario → Txn → ℕ → List Move → List Input → List Mark
silent_marks sc t site mine [] = []
silent_marks sc t site mine (i ∷ inputs) =
    record { site = site; notes = notes_of t (leader_of site i) (recorded (step_move sc site mine i)); sends = [] }
    ∷ silent_marks sc t site (mine ++ step_move sc site mine i ∷ []) inputs

-- the marks of a move, behind the moves before it; a rise writes nothing of a transaction
abbrev pub marks_in : Scenario → Txn → List Move → Move → List Mark
marks_in sc t before m = by m.did
  where
    by : Did → List Mark
    by (Stepped s) = record { site = m.site; notes = notes_of t (leader_of m.site s.input) s.records; sends = letters_of t s.outs } ∷ []
    by (Silent inputs records) = silent_marks sc t m.site (moves_at m.site before) inputs
    by (Rose inc records) = []

-- the marks of moves behind others
abbrev pub marks_after : Scenario → Txn → List Move → List Move → List Mark
marks_after sc t before [] = []
marks_after sc t before (m ∷ rest) = marks_in sc t before m ++ marks_after sc t (before ++ m ∷ []) rest

-- the marks of a trail
abbrev pub marks_of : Scenario → Txn → List Move → List Mark
marks_of sc t trail = marks_after sc t [] trail

-- a step: the site may take its input, a packet was sent by an earlier move, and the step is what the input makes
pub record IsMadeStep (sc : Scenario) (before : List Move) (m : Move) (i : Input) : Type 0 where
  pub takes : MayTake m.site i
  pub was_sent : WasSent before i
  pub made : m ≡ step_move sc m.site (moves_at m.site before) i

-- the site may take the inputs, one after the other behind the steps that they would make
abbrev pub TakenInTurn : Scenario → List Move → ℕ → List Move → List Input → Type 0
TakenInTurn sc before site mine [] = Unit {0}
TakenInTurn sc before site mine (i ∷ inputs) =
    MayTake site i × WasSent before i
    × TakenInTurn sc (before ++ step_move sc site mine i ∷ []) site (mine ++ step_move sc site mine i ∷ []) inputs

-- a tail that was kept: its records are those of the steps that its inputs would make
pub record IsMadeTail (sc : Scenario) (before : List Move) (site : ℕ) (inputs : List Input) (records : List Record) : Type 0 where
  pub takes : TakenInTurn sc before site (moves_at site before) inputs
  pub made : records ≡ records_in_turn sc site (moves_at site before) inputs

-- the records are those of a rise with this incarnation
abbrev pub IsMadeRise : Scenario → List Move → ℕ → ℕ → List Record → Type 0
IsMadeRise sc before site inc records = records ≡ rise_records sc site inc (log_by (moves_at site before))

-- the move is what its inputs make; a tail without inputs is that of a rise that failed
abbrev pub IsMadeMove : Scenario → List Move → Move → Type 0
IsMadeMove sc before m = by m.did
  where
    by : Did → Type 0
    by (Stepped s) = IsMadeStep sc before m s.input
    by (Silent [] records) = (inc : ℕ) × IsMadeRise sc before m.site inc records
    by (Silent (i ∷ inputs) records) = IsMadeTail sc before m.site (i ∷ inputs) records
    by (Rose inc records) = IsMadeRise sc before m.site inc records

-- each of these moves is, over those before it
abbrev pub MadeAfter : Scenario → List Move → List Move → Type 0
MadeAfter sc before [] = Unit {0}
MadeAfter sc before (m ∷ rest) = IsMadeMove sc before m × MadeAfter sc (before ++ m ∷ []) rest

-- each move of the trail is what its inputs make
abbrev pub IsMade : Scenario → List Move → Type 0
IsMade sc trail = MadeAfter sc [] trail
