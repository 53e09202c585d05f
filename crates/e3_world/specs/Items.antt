-- The items of a step: what their names stand for, which site takes them, and how far each site has come.
use Rattle.std.specs.Prelude.{◌==◌, ◌||◌, ◌++◌, ◌∷◌, [], if◌then◌else◌, ℕ, nat_le, Bool, true, false, not, List, length, fold, map, filter, count_by, Option, Some, None, slice_get, option_map, filter_map, find}
use Rattle.std.specs.List.{list_all, flat_map}
use Rattle.e3_types.specs.declared.entries.Act.{Act}
use Rattle.e3_types.specs.declared.entries.Act.TheVariants.{Step, Fall, Line}
use Rattle.e3_types.specs.declared.entries.Entry.{Entry}
use Rattle.e3_types.specs.declared.entries.Input.{Input}
use Rattle.e3_types.specs.declared.scenarios.Item.{Item}
use Rattle.e3_types.specs.declared.transactions.Op.TheVariants.{Read, Write}
use Rattle.e3_types.specs.declared.records.Record.{Record}
use Rattle.e3_types.specs.declared.scenarios.Scenario.{Scenario}
use Rattle.e3_types.specs.declared.entries.Told.{Told}
use Rattle.e3_types.specs.declared.transactions.Txn.{Txn}
use Rattle.e3_types.specs.declared.entries.Input.TheVariants as input
use Rattle.e3_types.specs.declared.scenarios.Item.TheVariants as item
use Rattle.e3_types.specs.declared.records.Record.TheVariants as log
use Rattle.e3_types.specs.declared.entries.Told.TheVariants as told
use Rattle.e3_types.specs.Same.{same_numbers, same_txn, is_older}
use Rattle.e3_types.specs.Sets.{has_site}
use Rattle.e3_world.specs.declared.lives.Life.{Life}
use Rattle.e3_world.specs.declared.names.Addressed.{Addressed}
use Rattle.e3_world.specs.declared.names.Binding.{Binding}
use Rattle.e3_world.specs.declared.names.Bound.{Bound}
use Rattle.e3_world.specs.Lives.{life_at}
use Rattle.e3_world.specs.Logs.{is_undecided}
use Rattle.e3_world.specs.Moves.{own_entries, moves_of, is_up}
use Rattle.e3_world.specs.Operations.{arrivals}
use Rattle.e3_world.specs.Packets.{is_line, step_items, present_items, all_sites}

-- a history in two: up to its last line, and behind it
pub record AroundLine : Type 0 where
  pub to : List Entry
  pub since : List Entry

-- one more entry of it
abbrev pub around_by : AroundLine → Entry → AroundLine
around_by w e =
    if is_line e then record { to = w.to ++ w.since ++ e ∷ []; since = [] }
    else record { to = w.to; since = w.since ++ e ∷ [] }

-- a history in two
abbrev pub around_line : List Entry → AroundLine
around_line history = fold around_by (record { to = []; since = [] }) history

-- the entries behind the last line
abbrev pub since_line : List Entry → List Entry
since_line history = (around_line history).since

-- the entries up to the last line
abbrev pub to_line : List Entry → List Entry
to_line history = (around_line history).to

-- the name of a begin item that goes to this site
abbrev pub begin_name : ℕ → Item → List (List ℕ)
begin_name site (item.Begin name s sites) = if s == site then name ∷ [] else []
begin_name site _ = []

-- the names of the begin items of a step that go to this site
abbrev pub begin_names : ℕ → List Item → List (List ℕ)
begin_names site items = flat_map (begin_name site) items

-- the name that a begin binds, where its step tells the transaction that it began
abbrev pub binds : Option (List ℕ) → List Told → List Bound
binds (Some name) (told.Began t ∷ events) = record { name = name; txn = t } ∷ []
binds _ _ = []

-- what is bound behind one more entry: the k-th begin of a site in a step is that of the step's k-th begin item for it
abbrev pub binding_by : Scenario → Binding → Entry → Binding
binding_by sc was e = by e.act
  where
    by : Act → Binding
    by (Line number) = record { number = number; begun_at = []; bound = was.bound }
    by (Step (input.Begin sites) records outs events) = record {
      number = was.number;
      begun_at = was.begun_at ++ e.owner ∷ [];
      bound = was.bound ++ binds (slice_get (begin_names e.owner (step_items sc was.number))
          (count_by (λ s. s == e.owner) was.begun_at)) events;
    }
    by _ = was

-- the last transaction that is bound to a name
abbrev pub last_bound : List ℕ → Option Txn → Bound → Option Txn
last_bound name was b = if same_numbers name b.name then Some b.txn else was

-- the transaction of a name
abbrev pub txn_of : Scenario → List Entry → List ℕ → Option Txn
txn_of sc history name =
    fold (last_bound name) None (fold (binding_by sc) (record { number = 0; begun_at = []; bound = [] }) history).bound

-- The site and the input of an item of the group kind; none where its name is not bound.
abbrev pub input_of : Scenario → List Entry → Item → Option Addressed
input_of sc history (item.Begin name site sites) = Some (record { site = site; input = input.Begin sites })
input_of sc history (item.Read name key) =
    option_map (λ t. record { site = t.site; input = input.Do t (Read key) }) (txn_of sc history name)
input_of sc history (item.Write name key val) =
    option_map (λ t. record { site = t.site; input = input.Do t (Write key val) }) (txn_of sc history name)
input_of sc history (item.Commit name) = option_map (λ t. record { site = t.site; input = input.Commit t }) (txn_of sc history name)
input_of sc history (item.Cancel name) = option_map (λ t. record { site = t.site; input = input.Cancel t }) (txn_of sc history name)
input_of sc history (item.Expire site name) = option_map (λ t. record { site = site; input = input.Expire t }) (txn_of sc history name)
input_of sc history (item.Elect site name sites) =
    option_map (λ t. record { site = site; input = input.Elect t sites }) (txn_of sc history name)
input_of sc history _ = None

-- what the present step asks of the sites, in the order of its items: it is fixed at the step's line
abbrev pub plan_of : Scenario → List Entry → List Addressed
plan_of sc history = filter_map (input_of sc (to_line history)) (present_items sc (to_line history))

-- the inputs of a plan that go to a site
abbrev pub inputs_to : ℕ → List Addressed → List Input
inputs_to site plan = map (λ a. a.input) (filter (λ a. a.site == site) plan)

-- the inputs of the present step that go to a site
abbrev pub inputs_at : Scenario → List Entry → ℕ → List Input
inputs_at sc history site = inputs_to site (plan_of sc history)

-- the inputs that an act took
abbrev pub inputs_of : Act → List Input
inputs_of (Step i records outs events) = i ∷ []
inputs_of (Fall inputs records why) = inputs
inputs_of _ = []

-- the input is a delivery
abbrev pub is_delivery : Input → Bool
is_delivery (input.Deliver packet) = true
is_delivery _ = false

-- the inputs that a site took in the present step
abbrev pub taken_at : List Entry → ℕ → List Input
taken_at history site = flat_map (λ e. inputs_of e.act) (own_entries site (since_line history))

-- how many of its items a site took in the present step
abbrev pub turn_of : List Entry → ℕ → ℕ
turn_of history site = count_by (λ i. not (is_delivery i)) (taken_at history site)

-- the site is up
abbrev pub is_up_at : List Entry → ℕ → Bool
is_up_at history site = is_up (own_entries site history)

-- every site has taken all its items, or is down
abbrev pub items_through : Scenario → List Entry → Bool
items_through sc history =
    list_all (λ s. not (is_up_at history s) || nat_le (length (inputs_at sc history s)) (turn_of history s)) (all_sites sc)

-- the transaction of a record
abbrev pub txn_of_record : Record → List Txn
txn_of_record (log.Vote t ops) = t ∷ []
txn_of_record (log.Join t n) = t ∷ []
txn_of_record (log.Attempt t n dir) = t ∷ []
txn_of_record (log.Decision t dir) = t ∷ []
txn_of_record _ = []

-- the transaction that an event tells as begun
abbrev pub began_in : Told → List Txn
began_in (told.Began t) = t ∷ []
began_in _ = []

-- all transactions that a site knows, some more than once: those of its records, of operations that came to it in the
-- present incarnation, and those that it began in it
abbrev pub known_txns : ℕ → Life → List Txn
known_txns site life =
    flat_map txn_of_record life.log ++ map (λ a. a.txn) (arrivals site life.steps)
    ++ flat_map (λ m. flat_map began_in m.told) life.steps

-- those of them that are undecided
abbrev pub undecided_in : ℕ → Life → List Txn
undecided_in site life = filter (λ t. is_undecided t life.log) (known_txns site life)

-- the transaction among these, which ascend
abbrev pub add_txn : List Txn → Txn → List Txn
add_txn [] new = new ∷ []
add_txn (t ∷ ts) new = if same_txn t new then t ∷ ts else if is_older new t then new ∷ t ∷ ts else t ∷ add_txn ts new

-- the undecided transactions that a site knows
abbrev pub open_at : Scenario → List Entry → ℕ → List Txn
open_at sc history site = undecided_in site (life_at (moves_of sc history site))

-- a recovery round: a transaction, the members of the group that are its sites, and the least of them
pub record RecoveryRound : Type 0 where
  pub txn : Txn
  pub members : List ℕ
  pub elector : ℕ

-- the rounds that a recover step with this group lists at its start: for each transaction that is open at a member
-- that is up, in ascending order
abbrev pub listed : Scenario → List Entry → List ℕ → List RecoveryRound
listed sc start group = rounds (filter (is_up_at start) group)
  where
    round : Txn → List ℕ → List RecoveryRound
    round t [] = []
    round t (r ∷ more) = record { txn = t; members = r ∷ more; elector = r } ∷ []

    rounds : List ℕ → List RecoveryRound
    rounds up = flat_map (λ t. round t (filter (has_site t.sites) up)) (fold add_txn [] (flat_map (open_at sc start) up))

-- the group of a recover step
abbrev pub recover_group : List Item → Option (List ℕ)
recover_group (item.Recover sites ∷ items) = Some sites
recover_group _ = None

-- the transaction of an Elect
abbrev pub elected_txn : Input → List Txn
elected_txn (input.Elect t group) = t ∷ []
elected_txn _ = []

-- the rounds that are left behind the Elects of these transactions, in turn; those passed over had their elector down
abbrev pub rounds_left : List Txn → List RecoveryRound → List RecoveryRound
rounds_left [] rounds = rounds
rounds_left (t ∷ ts) [] = []
rounds_left (t ∷ ts) (r ∷ rounds) = if same_txn t r.txn then rounds_left ts rounds else rounds_left (t ∷ ts) rounds

-- the next round to be made: the first that is left whose elector is up
abbrev pub due_round : Scenario → List Entry → Option RecoveryRound
due_round sc history = by (recover_group (present_items sc history))
  where
    made : List Txn
    made = flat_map elected_txn (flat_map (λ e. inputs_of e.act) (since_line history))

    by : Option (List ℕ) → Option RecoveryRound
    by None = None
    by (Some group) = find (λ r. is_up_at history r.elector) (rounds_left made (listed sc (to_line history) group))
