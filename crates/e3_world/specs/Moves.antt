-- What a site has done, as a list of moves. A record in doubt is no move until a later rise has kept it.
use Rattle.std.specs.Prelude.{◌==◌, ◌++◌, ◌∷◌, [], if◌then◌else◌, ℕ, Bool, true, false, List, fold, map, filter, Option, Some, None}
use Rattle.std.specs.List.{flat_map}
use Rattle.e3_types.specs.declared.entries.Act.{Act}
use Rattle.e3_types.specs.declared.entries.Act.TheVariants.{Step, Fall, Rise, RiseFall, Miss, Cut}
use Rattle.e3_types.specs.declared.entries.Entry.{Entry}
use Rattle.e3_types.specs.declared.entries.Input.{Input}
use Rattle.e3_types.specs.declared.scenarios.KeyRow.{KeyRow}
use Rattle.e3_types.specs.declared.messages.Packet.{Packet}
use Rattle.e3_types.specs.declared.records.Record.{Record}
use Rattle.e3_types.specs.declared.transactions.Row.{Row}
use Rattle.e3_types.specs.declared.scenarios.Scenario.{Scenario}
use Rattle.e3_world.specs.declared.lives.SiteStep.{SiteStep}
use Rattle.e3_types.specs.declared.entries.Why.{Why}
use Rattle.e3_types.specs.declared.entries.Why.TheVariants.{Fault}
use Rattle.e3_types.specs.declared.entries.Input.TheVariants as input
use Rattle.e3_types.specs.declared.records.Record.TheVariants as log
use Rattle.e3_world.specs.Logs.{set_row}

-- A step, with packets that have number 0. A silent move: a fall's inputs and records that a later rise kept, or the
-- records of a failed rise (no inputs). A rise with its incarnation and its records.
pub data Did : Type 0 where
  Stepped : SiteStep → Did
  Silent : List Input → List Record → Did
  Rose : ℕ → List Record → Did

-- a move of a site
pub record Move : Type 0 where
  pub site : ℕ
  pub did : Did

-- the entries of a site; owner 0 of an entry is the driver
abbrev pub own_entries : ℕ → List Entry → List Entry
own_entries site history = filter (λ e. e.owner == site) history

-- the moves of a site
abbrev pub moves_at : ℕ → List Move → List Move
moves_at site moves = filter (λ m. m.site == site) moves

-- the records of a move
abbrev pub recorded : Move → List Record
recorded m = by m.did
  where
    by : Did → List Record
    by (Stepped s) = s.records
    by (Silent inputs records) = records
    by (Rose inc records) = records

-- the log that moves make
abbrev pub log_by : List Move → List Record
log_by moves = flat_map recorded moves

-- the scenario's rows of a site, in byte order of their names
abbrev pub rows_at : ℕ → List KeyRow → List Row
rows_at site [] = []
rows_at site (row ∷ rows) =
    if row.key.site == site then set_row (record { name = row.key.name; val = row.val }) (rows_at site rows)
    else rows_at site rows

-- the first record of a site's log
abbrev pub birth : Scenario → ℕ → Record
birth sc site = log.Birth 1 site sc.weights (rows_at site sc.rows)

-- the records of a rise: its incarnation, with the birth before it where the log was empty
abbrev pub rise_records : Scenario → ℕ → ℕ → List Record → List Record
rise_records sc site inc [] = birth sc site ∷ log.Inc inc ∷ []
rise_records sc site inc (r ∷ rs) = log.Inc inc ∷ []

-- the packet without its number
abbrev pub unnumbered : Packet → Packet
unnumbered packet = record packet { number = 0 }

-- the input without its packet's number
abbrev pub unnumbered_input : Input → Input
unnumbered_input (input.Deliver packet) = input.Deliver (unnumbered packet)
unnumbered_input i = i

-- records that may or may not be on the disk, with the inputs that made them
pub record Tail : Type 0 where
  pub inputs : List Input
  pub records : List Record

-- what a site's entries come to: its moves, and the open tail
pub record Past : Type 0 where
  pub moves : List Move
  pub tail : Option Tail

-- a tail that is kept is a silent move
abbrev pub kept_moves : ℕ → Bool → Option Tail → List Move
kept_moves site true (Some tail) = record { site = site; did = Silent tail.inputs tail.records } ∷ []
kept_moves site _ _ = []

-- a fault leaves its records in doubt; a frame that did not fit leaves nothing
abbrev pub left_by : Why → List Input → List Record → Option Tail
left_by Fault inputs records = Some (record { inputs = inputs; records = records })
left_by _ inputs records = None

-- the moves that an act of a site adds to those it has
abbrev pub moves_of_act : Scenario → ℕ → Past → Act → List Move
moves_of_act sc site w (Step i records outs events) =
    record { site = site; did = Stepped (record { input = unnumbered_input i; records = records; outs = map unnumbered outs; told = events }) } ∷ []
moves_of_act sc site w (Rise kept inc) = rise (kept_moves site kept w.tail)
  where
    rise : List Move → List Move
    rise silent =
        silent ++ record { site = site; did = Rose inc (rise_records sc site inc (log_by (w.moves ++ silent))) } ∷ []
moves_of_act sc site w (RiseFall kept inc why) = kept_moves site kept w.tail
moves_of_act sc site w _ = []

-- the tail that is open behind an act
abbrev pub tail_of_act : Scenario → ℕ → Past → Act → Option Tail
tail_of_act sc site w (Fall inputs records why) = left_by why (map unnumbered_input inputs) records
tail_of_act sc site w (Rise kept inc) = None
tail_of_act sc site w (RiseFall kept inc why) =
    left_by why [] (rise_records sc site inc (log_by (w.moves ++ kept_moves site kept w.tail)))
tail_of_act sc site w _ = w.tail

-- what the entries come to with one more
abbrev pub past_by : Scenario → ℕ → Past → Entry → Past
past_by sc site w e = record {
  moves = w.moves ++ moves_of_act sc site w e.act;
  tail = tail_of_act sc site w e.act;
}

-- what the own entries of a site come to
abbrev pub past_of : Scenario → ℕ → List Entry → Past
past_of sc site mine = fold (past_by sc site) (record { moves = []; tail = None }) mine

-- the moves, the log and the open tail of a site in a history
abbrev pub moves_of : Scenario → List Entry → ℕ → List Move
moves_of sc history site = (past_of sc site (own_entries site history)).moves

-- the log of a site in a history
abbrev pub log_of : Scenario → List Entry → ℕ → List Record
log_of sc history site = log_by (moves_of sc history site)

-- the open tail of a site in a history
abbrev pub open_tail : Scenario → List Entry → ℕ → Option Tail
open_tail sc history site = (past_of sc site (own_entries site history)).tail

-- the trail of a history: the moves of all sites, in the order of the entries that make them
abbrev pub trail_after : Scenario → List Entry → List Entry → List Move
trail_after sc before [] = []
trail_after sc before (e ∷ rest) =
    moves_of_act sc e.owner (past_of sc e.owner (own_entries e.owner before)) e.act ++ trail_after sc (before ++ e ∷ []) rest

-- the trail of a history
abbrev pub trail_of : Scenario → List Entry → List Move
trail_of sc history = trail_after sc [] history

-- a record and the site whose log has it
pub record Placed : Type 0 where
  pub site : ℕ
  pub entered : Record

-- all records of all logs, in the order of their places: a kept tail's stand at the rise that keeps it, before its own
abbrev pub all_records : List Move → List Placed
all_records moves = flat_map (λ m. map (λ r. record { site = m.site; entered = r }) (recorded m)) moves

-- the site's last entry that is a rise, a failed or missed one, a fall or a cut is a rise
abbrev pub is_up : List Entry → Bool
is_up mine = fold (λ was e. by was e.act) false mine
  where
    by : Bool → Act → Bool
    by was (Rise kept inc) = true
    by was (RiseFall kept inc why) = false
    by was Miss = false
    by was Cut = false
    by was (Fall inputs records why) = false
    by was _ = was
