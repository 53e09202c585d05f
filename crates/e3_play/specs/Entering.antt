-- What a run enters next, where more than one thing may come of it.
use Rattle.std.specs.Prelude.{◌≡◌, ◌≢◌, ◌⊎◌, ◌++◌, ◌∷◌, [], ℕ, Bool, true, false, List, Some}
use Rattle.e3_types.specs.declared.entries.Act.TheVariants.{Fall, Rise, RiseFall, Miss, Drop}
use Rattle.e3_types.specs.declared.entries.Entry.{Entry}
use Rattle.e3_types.specs.declared.entries.Input.{Input}
use Rattle.e3_types.specs.declared.entries.Input.TheVariants as input
use Rattle.e3_types.specs.declared.entries.Why.{Why}
use Rattle.e3_types.specs.declared.messages.Packet.{Packet}
use Rattle.e3_types.specs.declared.scenarios.Scenario.{Scenario}
use Rattle.e3_world.specs.Items.{is_up_at}
use Rattle.e3_world.specs.Legal.{IsRise, entry_of, first_pending, made_by}

-- the input, where it is a delivery, is that of the first pending packet
abbrev pub IsFirst : Scenario → List Entry → Input → Type 0
IsFirst sc history (input.Deliver packet) = first_pending sc history ≡ Some packet
IsFirst sc history i = Unit {0}

-- the fall of a site whose disk failed while it logged the step of an input
abbrev pub fall_of : Scenario → List Entry → ℕ → Input → Why → Entry
fall_of sc history site i why = record { owner = site; act = Fall (i ∷ []) (made_by sc history site i).records why }

-- the site fell over an input, whose step records something
pub record IsFallen (sc : Scenario) (history : List Entry) (site : ℕ) (i : Input) (more : List Entry) : Type 0 where
  pub why : Why
  pub some : (made_by sc history site i).records ≢ []
  pub entered : more ≡ history ++ fall_of sc history site i why ∷ []

-- what comes of an input at a site that is up: its step, or a fall
abbrev pub AfterInput : Scenario → List Entry → ℕ → Input → List Entry → Type 0
AfterInput sc history site i more = (more ≡ history ++ entry_of sc history site i ∷ []) ⊎ IsFallen sc history site i more

-- the site rose in its next incarnation; its open tail was kept or not
pub record IsRisen (sc : Scenario) (history : List Entry) (site : ℕ) (more : List Entry) : Type 0 where
  pub kept : Bool
  pub inc : ℕ
  pub allowed : IsRise sc history site kept inc
  pub entered : more ≡ history ++ record { owner = site; act = Rise kept inc } ∷ []

-- its rise failed
pub record IsRiseFailed (sc : Scenario) (history : List Entry) (site : ℕ) (more : List Entry) : Type 0 where
  pub kept : Bool
  pub inc : ℕ
  pub why : Why
  pub allowed : IsRise sc history site kept inc
  pub entered : more ≡ history ++ record { owner = site; act = RiseFall kept inc why } ∷ []

-- what comes of a rise: the site is up, or its rise failed or was missed
abbrev pub AfterRise : Scenario → List Entry → ℕ → List Entry → Type 0
AfterRise sc history site more = IsRisen sc history site more ⊎ IsRiseFailed sc history site more
    ⊎ (more ≡ history ++ record { owner = site; act = Miss } ∷ [])

-- what comes of the first pending packet: it is delivered where its site is up, else dropped
pub record IsDelivered (sc : Scenario) (history : List Entry) (p : Packet) (more : List Entry) : Type 0 where
  pub up : is_up_at history p.to ≡ true
  pub after : AfterInput sc history p.to (input.Deliver p) more

pub record IsDropped (history : List Entry) (p : Packet) (more : List Entry) : Type 0 where
  pub down : is_up_at history p.to ≡ false
  pub after : more ≡ history ++ record { owner = 0; act = Drop p.number } ∷ []

abbrev pub AfterPacket : Scenario → List Entry → Packet → List Entry → Type 0
AfterPacket sc history p more = IsDelivered sc history p more ⊎ IsDropped history p more
