-- An entry of a site stays allowed behind entries of other sites.
use Rattle.std.specs.Prelude.{◌≡◌, ◌≤◌, ◌++◌, ◌∷◌, [], ℕ, suc, false, List, Some, slice_get, Contains}
use Rattle.e3_types.specs.declared.entries.Entry.{Entry}
use Rattle.e3_types.specs.declared.scenarios.Scenario.{Scenario}
use Rattle.e3_world.specs.Given.{IsGiven}
use Rattle.e3_types.specs.declared.entries.Input.{Input}
use Rattle.e3_types.specs.declared.entries.Input.TheVariants as input
use Rattle.e3_types.specs.declared.messages.Packet.{Packet}
use Rattle.e3_world.specs.Items.{inputs_of, is_delivery}
use Rattle.e3_world.specs.Legal.{Guard, IsDue, IsLegal, entry_of, first_pending}
use Rattle.e3_world.specs.Packets.{is_calm, pending, present_items}
use Rattle.e3_laws.specs.local.Drafts.{MayEnter, MayTake}
use Rattle.e3_laws.specs.local.Least.{AreFirstTo, AreOfSites, IsLeastTo, queue_to}
use Rattle.e3_laws.specs.local.Workers.{AtItems, ReadsAlike}
use Rattle.e3_laws.specs.local.Others.{numbered_on, Allows, AreOthers, AreWaiting}

-- An entry that is allowed behind a history stays allowed behind more entries of other sites.
abbrev pub Local : Type 0
Local = (sc : Scenario) (h more : List Entry) (e : Entry) → IsGiven sc → IsLegal sc (h ++ more) → 1 ≤ e.owner →
    is_calm (present_items sc h) ≡ false → AreOthers e.owner more → Allows sc h e →
    AreWaiting sc (h ++ more) e.owner (inputs_of e.act) → Allows sc (h ++ more) e

-- So the history is legal with this entry at its end, its packets numbered on from there.
abbrev pub LocalKeepsLegal : Type 0
LocalKeepsLegal = (sc : Scenario) (h more : List Entry) (e : Entry) → IsGiven sc → IsLegal sc (h ++ more) → 1 ≤ e.owner →
    is_calm (present_items sc h) ≡ false → AreOthers e.owner more → Allows sc h e →
    AreWaiting sc (h ++ more) e.owner (inputs_of e.act) → IsLegal sc ((h ++ more) ++ numbered_on (h ++ more) e ∷ [])

-- What a site may enter it may still enter behind entries of others, whatever is pending then.
abbrev pub DraftsStay : Type 0
DraftsStay = (sc : Scenario) (h more : List Entry) (e : Entry) → IsGiven sc → IsLegal sc (h ++ more) → AreOthers e.owner more →
    MayEnter sc h e → MayEnter sc (h ++ more) e

-- It is allowed, with the next numbers, where its packets are pending and no recover step is on.
abbrev pub DraftsAreAllowed : Type 0
DraftsAreAllowed = (sc : Scenario) (h : List Entry) (e : Entry) → is_calm (present_items sc h) ≡ false → MayEnter sc h e →
    AreWaiting sc h e.owner (inputs_of e.act) → Guard sc h (numbered_on h e)

-- What a site reads of its own stands still behind entries of others, and items that are through stay so.
abbrev pub ReadingsStay : Type 0
ReadingsStay = (sc : Scenario) (site : ℕ) (h more : List Entry) → IsGiven sc → IsLegal sc (h ++ more) → AreOthers site more →
    ReadsAlike sc site h (h ++ more)

-- So how far a site is with its items stands still.
abbrev pub ItemsStay : Type 0
ItemsStay = (sc : Scenario) (site : ℕ) (h more : List Entry) (items : List Input) (done : ℕ) → IsGiven sc → IsLegal sc (h ++ more) →
    AreOthers site more → AtItems sc h site items done → AtItems sc (h ++ more) site items done

-- The next of its items is due, and with its step the site is one further.
abbrev pub NextItem : Type 0
NextItem = (sc : Scenario) (site : ℕ) (h : List Entry) (items : List Input) (done : ℕ) (i : Input) → AtItems sc h site items done →
    slice_get items done ≡ Some i → is_delivery i ≡ false →
    IsDue sc h site i × MayTake sc h site i × AtItems sc (h ++ entry_of sc h site i ∷ []) site items (suc done)

-- What is due outside of a recover step, the site may take.
abbrev pub DueMayBeTaken : Type 0
DueMayBeTaken = (sc : Scenario) (h : List Entry) (site : ℕ) (i : Input) → is_calm (present_items sc h) ≡ false → IsDue sc h site i → MayTake sc h site i

-- The least packet to a site stays the least behind entries of other sites: they take none of its packets.
abbrev pub LeastStays : Type 0
LeastStays = (sc : Scenario) (h more : List Entry) (site : ℕ) (p : Packet) → IsLegal sc (h ++ more) → AreOthers site more → AreOfSites more →
    IsLeastTo sc h site p → IsLeastTo sc (h ++ more) site p

-- It is pending, and goes there.
abbrev pub LeastIsPending : Type 0
LeastIsPending = (sc : Scenario) (h : List Entry) (site : ℕ) (p : Packet) → IsLeastTo sc h site p → Contains (pending sc h) p × (p.to ≡ site)

-- The first of all pending packets is the least to its receiver.
abbrev pub FirstIsLeast : Type 0
FirstIsLeast = (sc : Scenario) (h : List Entry) (p : Packet) → first_pending sc h ≡ Some p → IsLeastTo sc h p.to p

-- Behind entries of other sites the packets to a site are those of before, and then others.
abbrev pub QueueStays : Type 0
QueueStays = (sc : Scenario) (h more : List Entry) (site : ℕ) → IsLegal sc (h ++ more) → AreOthers site more → AreOfSites more →
    (new : List Packet) × (queue_to sc (h ++ more) site ≡ queue_to sc h site ++ new)

-- The first of them is the least.
abbrev pub FrontIsLeast : Type 0
FrontIsLeast = (sc : Scenario) (h : List Entry) (site : ℕ) (p : Packet) (rest : List Packet) → queue_to sc h site ≡ p ∷ rest → IsLeastTo sc h site p

-- Behind the step that takes it the others are the first.
abbrev pub QueueGoesOn : Type 0
QueueGoesOn = (sc : Scenario) (h : List Entry) (site : ℕ) (p : Packet) (rest : List Packet) → IsLegal sc h → queue_to sc h site ≡ p ∷ rest →
    (new : List Packet) × (queue_to sc (h ++ entry_of sc h site (input.Deliver p) ∷ []) site ≡ rest ++ new)

-- So each of the first packets to a site is pending behind the steps that those before it would make.
abbrev pub FirstAreWaiting : Type 0
FirstAreWaiting = (sc : Scenario) (h : List Entry) (site : ℕ) (inputs : List Input) → IsLegal sc h → AreFirstTo sc h site inputs → AreWaiting sc h site inputs
