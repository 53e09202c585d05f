-- Which histories a scenario allows: each entry meets its guard over the entries before it.
use Rattle.e3_world.specs.declared.lives.Made.{Made}
use Rattle.std.specs.Prelude.{◌≡◌, ◌≢◌, ◌⊎◌, ◌≤◌, ◌==◌, ◌&&◌, ◌||◌, ◌++◌, ◌∷◌, [], ℕ, zero, suc, nat_lt, Bool, true, false, not, List, length, Option, Some, None, slice_get, is_none, Contains}
use Rattle.std.specs.List.{list_any, list_all}
use Rattle.e3_types.specs.declared.entries.Act.{Act}
use Rattle.e3_types.specs.declared.entries.Act.TheVariants.{Step, Fall, Rise, RiseFall, Miss, Cut, Drop, Parts, Line}
use Rattle.e3_types.specs.declared.entries.Entry.{Entry}
use Rattle.e3_types.specs.declared.entries.Input.{Input}
use Rattle.e3_types.specs.declared.scenarios.Item.{Item}
use Rattle.e3_types.specs.declared.messages.Packet.{Packet}
use Rattle.e3_types.specs.declared.records.Record.{Record}
use Rattle.e3_types.specs.declared.scenarios.Scenario.{Scenario}
use Rattle.e3_types.specs.declared.transactions.Txn.{Txn}
use Rattle.e3_types.specs.declared.entries.Input.TheVariants as input
use Rattle.e3_types.specs.declared.scenarios.Item.TheVariants as item
use Rattle.e3_world.specs.Items.{since_line, inputs_at, is_delivery, taken_at, turn_of, is_up_at, items_through, due_round}
use Rattle.e3_world.specs.Logs.{logged_inc}
use Rattle.e3_world.specs.Moves.{own_entries, log_by, kept_moves, moves_of, log_of, open_tail}
use Rattle.e3_world.specs.Packets.{sent, lines, present_items, all_sites, is_calm, pending}
use Rattle.e3_world.specs.Lives.{incarnation_of}
use Rattle.e3_world.specs.Steps.{step_of}

-- the packets with their numbers, from the first free one on
abbrev pub numbered : ℕ → List Packet → List Packet
numbered n [] = []
numbered n (p ∷ ps) = record p { number = n } ∷ numbered (suc n) ps

-- the step of a site in a history: what `step_of` makes of the site's moves, with numbers
abbrev pub made_by : Scenario → List Entry → ℕ → Input → Made
made_by sc history site i = step_of sc.weights site (incarnation_of (moves_of sc history site)) i

-- the step entry of an input that comes to the site now
abbrev pub entry_of : Scenario → List Entry → ℕ → Input → Entry
entry_of sc history site i = by (made_by sc history site i)
  where
    by : Made → Entry
    by made = record { owner = site; act = Step i made.records (numbered (suc (length (sent history))) made.outs) made.told }

-- a rise, a failed one or a missed one
abbrev pub is_rising : Entry → Bool
is_rising e = by e.act
  where
    by : Act → Bool
    by (Rise kept inc) = true
    by (RiseFall kept inc why) = true
    by Miss = true
    by _ = false

-- the site has such an entry among these
abbrev pub has_rising : List Entry → ℕ → Bool
has_rising entries site = list_any is_rising (own_entries site entries)

-- the parts that a split or a merge asks for
abbrev pub parts_due : Scenario → List Item → Option (List (List ℕ))
parts_due sc (item.Split parts ∷ items) = Some parts
parts_due sc (item.Merge ∷ items) = Some (all_sites sc ∷ [])
parts_due sc _ = None

-- the first of these entries is a Parts entry
abbrev pub begins_with_parts : List Entry → Bool
begins_with_parts [] = false
begins_with_parts (e ∷ rest) = by e.act
  where
    by : Act → Bool
    by (Parts parts) = true
    by _ = false

-- the one item of the present step had its entry, or is skipped; in a group or a recover step: all of it
abbrev pub is_made : Scenario → List Entry → Bool
is_made sc history = by (present_items sc history)
  where
    by : List Item → Bool
    by (item.Recover group ∷ items) = is_none (due_round sc history)
    by (item.Split parts ∷ items) = begins_with_parts (since_line history)
    by (item.Merge ∷ items) = begins_with_parts (since_line history)
    by (item.Crash site ∷ items) = not (is_up_at history site)
    by (item.Restart site ∷ items) = is_up_at history site || has_rising (since_line history) site
    by (item.Stop site count leave ∷ items) = true
    by _ = items_through sc history

-- all before the next line is through
abbrev pub is_through : Scenario → List Entry → Bool
is_through sc history = by (lines history)
  where
    is_empty : List Packet → Bool
    is_empty [] = true
    is_empty (p ∷ ps) = false

    by : ℕ → Bool
    by zero = list_all (has_rising history) (all_sites sc)
    by (suc n) = is_empty (pending sc history) && is_made sc history

-- the next line, once all before is through
pub record IsLine (sc : Scenario) (history : List Entry) (number : ℕ) : Type 0 where
  pub next : number ≡ suc (lines history)
  pub exists : number ≤ length sc.steps
  pub through : is_through sc history ≡ true

-- directly behind the line of a split or a merge, with its parts
pub record IsParts (sc : Scenario) (history : List Entry) (parts : List (List ℕ)) : Type 0 where
  pub behind_line : since_line history ≡ []
  pub due : parts_due sc (present_items sc history) ≡ Some parts

-- the site's next item, before any delivery of it
pub record IsNextItem (sc : Scenario) (history : List Entry) (site : ℕ) (i : Input) : Type 0 where
  pub next : slice_get (inputs_at sc history site) (turn_of history site) ≡ Some i
  pub no_delivery : list_any is_delivery (taken_at history site) ≡ false

-- the least pending packet
abbrev pub first_pending : Scenario → List Entry → Option Packet
first_pending sc history = slice_get (pending sc history) 0

-- a pending packet to the site, once all items are through; in a recover step the least
pub record IsDelivery (sc : Scenario) (history : List Entry) (site : ℕ) (packet : Packet) : Type 0 where
  pub to : packet.to ≡ site
  pub is_pending : Contains (pending sc history) packet
  pub behind_items : items_through sc history ≡ true
  pub in_order : is_calm (present_items sc history) ≡ true → first_pending sc history ≡ Some packet

-- the Elect of the round that is due in a recover step, when nothing is pending
pub record IsRound (sc : Scenario) (history : List Entry) (site : ℕ) (t : Txn) (group : List ℕ) : Type 0 where
  pub due : due_round sc history ≡ Some (record { txn = t; members = group; elector = site })
  pub settled : pending sc history ≡ []

-- the input is due at the site
abbrev pub IsDue : Scenario → List Entry → ℕ → Input → Type 0
IsDue sc history site (input.Deliver packet) = IsDelivery sc history site packet
IsDue sc history site (input.Elect t group) =
    IsNextItem sc history site (input.Elect t group) ⊎ IsRound sc history site t group
IsDue sc history site i = IsNextItem sc history site i

-- a step of a site that is up: its input is due, and its records, packets and events are those that the input makes
pub record IsStep (sc : Scenario) (history : List Entry) (site : ℕ) (i : Input) (act : Act) : Type 0 where
  pub up : is_up_at history site ≡ true
  pub due : IsDue sc history site i
  pub made : record { owner = site; act = act } ≡ entry_of sc history site i

-- the inputs of a fall, each due behind the steps that those before it would make
abbrev pub AreDue : Scenario → List Entry → ℕ → List Input → Type 0
AreDue sc history site [] = Unit {0}
AreDue sc history site (i ∷ inputs) =
    IsDue sc history site i × AreDue sc (history ++ entry_of sc history site i ∷ []) site inputs

-- the records of the steps that the inputs would make, one after the other
abbrev pub records_by : Scenario → List Entry → ℕ → List Input → List Record
records_by sc history site [] = []
records_by sc history site (i ∷ inputs) =
    (made_by sc history site i).records ++ records_by sc (history ++ entry_of sc history site i ∷ []) site inputs

-- a fall of a site that is up: its records are those that the inputs would make, and there are some
pub record IsFall (sc : Scenario) (history : List Entry) (site : ℕ) (inputs : List Input) (records : List Record) : Type 0 where
  pub up : is_up_at history site ≡ true
  pub due : AreDue sc history site inputs
  pub some : records ≢ []
  pub made : records ≡ records_by sc history site inputs

-- the step is the site's crash
pub record IsCut (sc : Scenario) (history : List Entry) (site : ℕ) : Type 0 where
  pub up : is_up_at history site ≡ true
  pub crash : present_items sc history ≡ item.Crash site ∷ []

-- Before the first line each site has one rise, failed or missed, in ascending order; later one in its restart step.
abbrev pub may_rise : Scenario → List Entry → ℕ → Bool
may_rise sc history site = by (lines history) (present_items sc history)
  where
    by : ℕ → List Item → Bool
    by zero items = not (has_rising history site)
        && list_all (λ s. not (nat_lt s site) || has_rising history s) (all_sites sc)
    by (suc n) (item.Restart s ∷ items) = s == site && not (has_rising (since_line history) site)
    by (suc n) items = false

-- a site that is down has its turn to rise
pub record IsRising (sc : Scenario) (history : List Entry) (site : ℕ) : Type 0 where
  pub exists : site ≤ length sc.weights
  pub down : is_up_at history site ≡ false
  pub turn : may_rise sc history site ≡ true

-- a tail is kept only where one is open; the incarnation is one more than the last, the tail counted where kept
pub record IsRise (sc : Scenario) (history : List Entry) (site : ℕ) (kept : Bool) (inc : ℕ) : Type 0 where
  pub rising : IsRising sc history site
  pub has_tail : kept ≡ true → open_tail sc history site ≢ None
  pub next : inc ≡ suc (logged_inc
      (log_of sc history site ++ log_by (kept_moves site kept (open_tail sc history site))))

-- some packet of this number is pending, and its receiver is down; in a recover step the least
pub record IsDrop (sc : Scenario) (history : List Entry) (number : ℕ) : Type 0 where
  pub packet : Packet
  pub is_pending : Contains (pending sc history) packet
  pub is_its : packet.number ≡ number
  pub down : is_up_at history packet.to ≡ false
  pub in_order : is_calm (present_items sc history) ≡ true → first_pending sc history ≡ Some packet

-- the guard of an entry over the entries before it
abbrev pub Guard : Scenario → List Entry → Entry → Type 0
Guard sc history e = guard e.owner e.act
  where
    guard : ℕ → Act → Type 0
    guard zero (Line number) = IsLine sc history number
    guard zero (Parts parts) = IsParts sc history parts
    guard zero (Drop number) = IsDrop sc history number
    guard zero _ = ⊥
    guard (suc s) (Step i records outs events) = IsStep sc history (suc s) i (Step i records outs events)
    guard (suc s) (Fall inputs records why) = IsFall sc history (suc s) inputs records
    guard (suc s) Cut = IsCut sc history (suc s)
    guard (suc s) (Rise kept inc) = IsRise sc history (suc s) kept inc
    guard (suc s) (RiseFall kept inc why) = IsRise sc history (suc s) kept inc
    guard (suc s) Miss = IsRising sc history (suc s)
    guard (suc s) _ = ⊥

-- each of these entries meets its guard over those before it
abbrev pub LegalAfter : Scenario → List Entry → List Entry → Type 0
LegalAfter sc before [] = Unit {0}
LegalAfter sc before (e ∷ rest) = Guard sc before e × LegalAfter sc (before ++ e ∷ []) rest

-- the history is legal
abbrev pub IsLegal : Scenario → List Entry → Type 0
IsLegal sc history = LegalAfter sc [] history

-- it is legal and went through the whole scenario
pub record IsWhole (sc : Scenario) (history : List Entry) : Type 0 where
  pub legal : IsLegal sc history
  pub last : lines history ≡ length sc.steps
  pub through : is_through sc history ≡ true
