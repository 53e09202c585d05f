-- What is kept of each site and of the network, and when it stands for a history.
use Rattle.std.specs.Prelude.{◌≡◌, ◌≤◌, ◌+◌, ◌||◌, ◌++◌, ◌∷◌, [], ℕ, suc, nat_le, not, count_by, Bool, true, false, List, length, Some, slice_get, is_none}
use Rattle.std.specs.List.{list_any}
use Rattle.e3_types.specs.declared.entries.Act.TheVariants.{Line, Rise}
use Rattle.e3_types.specs.declared.entries.Entry.{Entry}
use Rattle.e3_types.specs.declared.entries.Input.{Input}
use Rattle.e3_types.specs.declared.messages.Packet.{Packet}
use Rattle.e3_types.specs.declared.scenarios.Item.{Item}
use Rattle.e3_types.specs.declared.scenarios.Item.TheVariants as item
use Rattle.e3_types.specs.declared.scenarios.Scenario.{Scenario}
use Rattle.e3_net.specs.Stands.{AreNext, NetStands, behind_inputs}
use Rattle.e3_net.specs.Traffic.{Traffic, packet_to}
use Rattle.e3_site.specs.SiteView.{SiteView}
use Rattle.e3_site.specs.StandsFor.{StandsFor}
use Rattle.e3_world.specs.Items.{due_round, inputs_at, is_delivery, is_up_at, since_line, taken_at, turn_of}
use Rattle.e3_world.specs.Legal.{IsLegal, begins_with_parts, first_pending, has_rising, may_rise}
use Rattle.e3_world.specs.Packets.{is_calm, lines, present_items}
use Rattle.e3_judge.specs.declared.audit.auditor.Auditor.{Auditor}
use Rattle.e3_judge.specs.declared.audit.seat.Being.{Being}
use Rattle.e3_judge.specs.declared.audit.seat.Being.TheVariants.{Up, Down}
use Rattle.e3_judge.specs.declared.audit.seat.Seat.{Seat}

-- the site is up, and this value stands for it
pub record IsUp (sc : Scenario) (history : List Entry) (site : ℕ) (s : SiteView) : Type 0 where
  pub up : is_up_at history site ≡ true
  pub stands : StandsFor sc history site s

abbrev pub BeingStands : Scenario → List Entry → ℕ → Being → Type 0
BeingStands sc history site (Up s) = IsUp sc history site s
BeingStands sc history site Down = is_up_at history site ≡ false

-- What is kept of a site is so in the history: what it is, what the present step asks of it, how many of these inputs it
-- took, and whether it took a packet, or rose or tried to, in that step.
pub record SeatStands (sc : Scenario) (history : List Entry) (site : ℕ) (seat : Seat) : Type 0 where
  pub being : BeingStands sc history site seat.being
  pub asked : inputs_at sc history site ≡ seat.inputs
  pub turn : turn_of history site ≡ seat.turn
  pub delivered : list_any is_delivery (taken_at history site) ≡ seat.delivered
  pub rising : has_rising (since_line history) site ≡ seat.rising

-- the seat at each place, counted from 0, stands for the next site
abbrev pub SeatsStand : Scenario → List Entry → List Seat → Type 0
SeatsStand sc history seats = (at : ℕ) (seat : Seat) → slice_get seats at ≡ Some seat → SeatStands sc history (suc at) seat

-- the history is legal, and all that is kept of it is so
pub record Stands (sc : Scenario) (history : List Entry) (a : Auditor) : Type 0 where
  pub legal : IsLegal sc history
  pub lines_are : lines history ≡ a.lines
  pub net : NetStands sc history a.net.traffic
  pub count : length a.seats.items ≡ length sc.weights
  pub few : length sc.weights ≤ 64
  pub seats : SeatsStand sc history a.seats.items

-- what is kept of a site without entries
abbrev pub empty_seat : Seat
empty_seat = record { being = Down; inputs = []; turn = 0; delivered = false; rising = false }

-- the site took all that the present step asks of it, or is down
abbrev pub is_done : Seat → Bool
is_done seat = by seat.being
  where
    by : Being → Bool
    by (Up s) = nat_le (length seat.inputs) seat.turn
    by Down = true

-- the site took one more input
abbrev pub noted : Seat → Input → Seat
noted seat i = record seat {
  turn = seat.turn + count_by (λ j. not (is_delivery j)) (i ∷ []);
  delivered = seat.delivered || list_any is_delivery (i ∷ []);
}

-- the entry of the line of a step
abbrev pub line_of : ℕ → Entry
line_of number = record { owner = 0; act = Line number }

-- the last entry is a rise of the site
pub record RoseLast (history : List Entry) (site : ℕ) : Type 0 where
  pub before : List Entry
  pub kept : Bool
  pub inc : ℕ
  pub is : history ≡ before ++ record { owner = site; act = Rise kept inc } ∷ []

-- the site of the seat is down
abbrev pub is_down : Seat → Bool
is_down seat = by seat.being
  where
    by : Being → Bool
    by (Up s) = false
    by Down = true

-- The packet of this number is the least that waits for the site, which is down; in a recover step it is the least of all
-- that are pending.
pub record IsLost (sc : Scenario) (history : List Entry) (net : Traffic) (number site : ℕ) : Type 0 where
  pub packet : Packet
  pub next : packet_to site net ≡ Some packet
  pub is_its : packet.number ≡ number
  pub down : is_up_at history site ≡ false
  pub in_order : is_calm (present_items sc history) ≡ true → first_pending sc history ≡ Some packet

-- the one item of a step that is no group had its entry, or is skipped; a recovery made all its rounds
abbrev pub is_alone_made : Scenario → List Entry → Item → Bool
is_alone_made sc history (item.Recover group) = is_none (due_round sc history)
is_alone_made sc history (item.Split parts) = begins_with_parts (since_line history)
is_alone_made sc history item.Merge = begins_with_parts (since_line history)
is_alone_made sc history (item.Crash site) = not (is_up_at history site)
is_alone_made sc history (item.Restart site) = is_up_at history site || not (may_rise sc history site)
is_alone_made sc history (item.Stop site count leave) = true
is_alone_made sc history _ = false

-- the inputs take their packets one after the other, each the least to its site then
pub record TakesAll (old : Traffic) (inputs : List Input) (new : Traffic) : Type 0 where
  pub next : AreNext old inputs
  pub behind : new ≡ behind_inputs old inputs
