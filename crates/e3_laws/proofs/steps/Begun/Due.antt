-- What is due at a site mentions only transactions that are bound or known where the present step began, packets that were
-- sent, and values of the scenario.
use Rattle.std.proofs.Common.{◌≡◌, ◌==◌, ◌∷◌, [], ℕ, zero, suc, Bool, true, false, List, Option, Some, None, refl, inl, inr, fold, map, filter, if◌then◌else◌}
use Rattle.std.specs.Prelude.{slice_get, filter_map, option_map}
use Rattle.std.specs.List.{flat_map, cons_option, AllByRecursion as Each}
use Rattle.e3_types.specs.declared.entries.Entry.{Entry}
use Rattle.e3_types.specs.declared.entries.Input.{Input}
use Rattle.e3_types.specs.declared.entries.Input.TheVariants as input
use Rattle.e3_types.specs.declared.entries.Told.{Told}
use Rattle.e3_types.specs.declared.records.Record.{Record}
use Rattle.e3_types.specs.declared.records.Record.TheVariants as log
use Rattle.e3_types.specs.declared.scenarios.Item.{Item}
use Rattle.e3_types.specs.declared.scenarios.Item.TheVariants as item
use Rattle.e3_types.specs.declared.scenarios.Scenario.{Scenario}
use Rattle.e3_types.specs.declared.transactions.Txn.{Txn}
use Rattle.e3_types.specs.Same.{same_numbers, same_txn, is_older}
use Rattle.e3_types.specs.Sets.{has_site}
use Rattle.e3_world.specs.declared.lives.Life.{Life}
use Rattle.e3_world.specs.declared.names.Addressed.{Addressed}
use Rattle.e3_world.specs.declared.names.Bound.{Bound}
use Rattle.e3_world.specs.Items.{RecoveryRound, last_bound, txn_of, input_of, plan_of, inputs_at, to_line, turn_of, is_up_at, txn_of_record, began_in, known_txns, add_txn, open_at, listed, recover_group, elected_txn, rounds_left, due_round, since_line, inputs_of}
use Rattle.e3_world.specs.Legal.{IsDue, IsNextItem, IsRound}
use Rattle.e3_world.specs.Lives.{life_at}
use Rattle.e3_world.specs.Logs.{is_undecided}
use Rattle.e3_world.specs.Moves.{moves_of}
use Rattle.e3_world.specs.Operations.{arrivals}
use Rattle.e3_world.specs.Packets.{lines, sent, items_or, step_items, present_items}
use Rattle.e3_world.proofs.InTrail.{pending_sent}
use Rattle.e3_laws.proofs.steps.Each.{each-append, each-filter, each-flat, each-map, each-at, each-weaker, each-of, IfAny}
use Rattle.e3_laws.specs.steps.Mentions.{Mention, OfTxn, OfVal, of_input, values_in}
use Rattle.e3_laws.proofs.steps.Begun.Lists.{any-get, any-find, held}
use Rattle.e3_laws.proofs.steps.Begun.Reading.{RecordIs, PacketIs, AskedIs, MomentIs, InputIs, arrivals_are}
use Rattle.e3_laws.proofs.steps.Items.{binding}

-- the values of an item, and of a scenario, may be mentioned
abbrev pub ItemIs : (Mention → Type 0) → Item → Type 0
ItemIs P it = Each (λ v. P (OfVal v)) (values_in it)

pub record ValuesAre (P : Mention → Type 0) (sc : Scenario) : Type 0 where
  pub rows : Each (λ row. P (OfVal row.val)) sc.rows
  pub steps : Each (Each (ItemIs P)) sc.steps

-- an event whose begin may be mentioned
abbrev pub BeginsKnown : (Mention → Type 0) → Told → Type 0
BeginsKnown P e = Each (λ t. P (OfTxn t)) (began_in e)

-- a site's life, where what it told meets D too
pub record LifeIs (P : Mention → Type 0) (D : Told → Type 0) (life : Life) : Type 0 where
  pub steps : Each (MomentIs P) life.steps
  pub told : Each (λ m. Each D m.told) life.steps
  pub log : Each (RecordIs P) life.log

abbrev pub BoundIs : (Mention → Type 0) → Bound → Type 0
BoundIs P b = P (OfTxn b.txn)

-- what is known where a step began
pub record LineIs (P : Mention → Type 0) (sc : Scenario) (k : List Entry) : Type 0 where
  pub lives : (s : ℕ) → LifeIs P (BeginsKnown P) (life_at (moves_of sc k s))
  pub bound : Each (BoundIs P) (binding sc k).bound

module _ (P : Mention → Type 0) where
  abbrev KnownTxn : Txn → Type 0
  KnownTxn t = P (OfTxn t)

  abbrev InputKnown : Input → Type 0
  InputKnown i = Each P (of_input i)

  items_are : (sc : Scenario) (n : ℕ) → ValuesAre P sc → Each (ItemIs P) (step_items sc n)
  items_are sc zero vals = tt
  items_are sc (suc k) vals = by (slice_get sc.steps k) (any-get (Each (ItemIs P)) sc.steps k vals.steps)
    where
      by : (o : Option (List Item)) → IfAny (Each (ItemIs P)) o → Each (ItemIs P) (items_or o)
      by None this = tt
      by (Some items) this = this

  last_is : (name : List ℕ) (was : Option Txn) (bs : List Bound) → IfAny KnownTxn was → Each (BoundIs P) bs → IfAny KnownTxn (fold (last_bound name) was bs)
  last_is name was [] first all = first
  last_is name was (b ∷ bs) first all = last_is name (last_bound name was b) bs (by (same_numbers name b.name)) all.1
    where
      by : (c : Bool) → IfAny KnownTxn (if c then Some b.txn else was)
      by true = all.0
      by false = first

  bound_is : (sc : Scenario) (k : List Entry) (name : List ℕ) → Each (BoundIs P) (binding sc k).bound → IfAny KnownTxn (txn_of sc k name)
  bound_is sc k name all = last_is name None (binding sc k).bound tt all

  mapped : (f : Txn → Addressed) (o : Option Txn) → ((t : Txn) → KnownTxn t → InputKnown (f t).input) → IfAny KnownTxn o → IfAny (λ a. InputKnown a.input) (option_map f o)
  mapped f None each is = tt
  mapped f (Some t) each is = each t is

  item_is : (sc : Scenario) (k : List Entry) (it : Item) → Each (BoundIs P) (binding sc k).bound → ItemIs P it → IfAny (λ a. InputKnown a.input) (input_of sc k it)
  item_is sc k (item.Begin name site sites) all vals = tt
  item_is sc k (item.Read name key) all vals = mapped _ (txn_of sc k name) (λ t known. (known, tt)) (bound_is sc k name all)
  item_is sc k (item.Write name key val) all vals = mapped _ (txn_of sc k name) (λ t known. (known, vals)) (bound_is sc k name all)
  item_is sc k (item.Commit name) all vals = mapped _ (txn_of sc k name) (λ t known. (known, tt)) (bound_is sc k name all)
  item_is sc k (item.Cancel name) all vals = mapped _ (txn_of sc k name) (λ t known. (known, tt)) (bound_is sc k name all)
  item_is sc k (item.Expire site name) all vals = mapped _ (txn_of sc k name) (λ t known. (known, tt)) (bound_is sc k name all)
  item_is sc k (item.Elect site name sites) all vals = mapped _ (txn_of sc k name) (λ t known. (known, tt)) (bound_is sc k name all)
  item_is sc k it all vals = tt

  consed : {X : Type 0} (Q : X → Type 0) (o : Option X) (xs : List X) → IfAny Q o → Each Q xs → Each Q (cons_option o xs)
  consed Q None xs this more = more
  consed Q (Some x) xs this more = (this, more)

  plan_is : (sc : Scenario) (k : List Entry) (items : List Item) → Each (BoundIs P) (binding sc k).bound → Each (ItemIs P) items →
      Each (λ a. InputKnown a.input) (filter_map (input_of sc k) items)
  plan_is sc k [] all vals = tt
  plan_is sc k (it ∷ items) all vals =
      consed (λ a. InputKnown a.input) (input_of sc k it) (filter_map (input_of sc k) items) (item_is sc k it all vals.0) (plan_is sc k items all vals.1)

  -- a site's next item
  next_is : (sc : Scenario) (h : List Entry) (site : ℕ) (i : Input) → ValuesAre P sc → LineIs P sc (to_line h) → IsNextItem sc h site i → InputKnown i
  next_is sc h site i vals line next = held InputKnown (slice_get (inputs_at sc h site) (turn_of h site)) i next.next
      (any-get InputKnown (inputs_at sc h site) (turn_of h site)
      (each-map InputKnown (λ a. a.input) (filter (λ a. a.site == site) (plan_of sc h))
      (each-filter (λ a. InputKnown a.input) (λ a. a.site == site) (plan_of sc h)
      (plan_is sc (to_line h) (present_items sc (to_line h)) line.bound (items_are sc (lines (to_line h)) vals)))))

  -- transactions that a site knows
  record_txns : (r : Record) → RecordIs P r → Each KnownTxn (txn_of_record r)
  record_txns (log.Vote t ops) this = (this.0, tt)
  record_txns (log.Join t n) this = (this.0, tt)
  record_txns (log.Attempt t n dir) this = (this.0, tt)
  record_txns (log.Decision t dir) this = (this.0, tt)
  record_txns r this = tt

  known_are : (site : ℕ) (life : Life) → LifeIs P (BeginsKnown P) life → Each KnownTxn (known_txns site life)
  known_are site life is =
      each-append KnownTxn _ (flat_map (λ m. flat_map began_in m.told) life.steps)
      (each-append KnownTxn (flat_map txn_of_record life.log) (map (λ a. a.txn) (arrivals site life.steps))
      (each-flat (RecordIs P) KnownTxn txn_of_record record_txns life.log is.log)
      (each-map KnownTxn (λ a. a.txn) (arrivals site life.steps)
      (each-weaker (AskedIs P) (λ a. KnownTxn a.txn) (λ a this. this.0) (arrivals site life.steps)
      (arrivals_are P site life.steps (each-weaker (MomentIs P) (InputIs P) (λ m this. this.input) life.steps is.steps)))))
      (each-flat (λ m. Each (BeginsKnown P) m.told) KnownTxn (λ m. flat_map began_in m.told)
      (λ m all. each-flat (BeginsKnown P) KnownTxn began_in (λ e this. this) m.told all) life.steps is.told)

  add_is : (ts : List Txn) (new : Txn) → Each KnownTxn ts → KnownTxn new → Each KnownTxn (add_txn ts new)
  add_is [] new all this = (this, tt)
  add_is (t ∷ ts) new all this = by (same_txn t new) (is_older new t) (add_is ts new all.1 this)
    where
      by : (b c : Bool) → Each KnownTxn (add_txn ts new) → Each KnownTxn (if b then t ∷ ts else if c then new ∷ t ∷ ts else t ∷ add_txn ts new)
      by true c more = all
      by false true more = (this, all)
      by false false more = (all.0, more)

  added_are : (ts more : List Txn) → Each KnownTxn ts → Each KnownTxn more → Each KnownTxn (fold add_txn ts more)
  added_are ts [] all these = all
  added_are ts (t ∷ more) all these = added_are (add_txn ts t) more (add_is ts t all these.0) these.1

  abbrev RoundIs : RecoveryRound → Type 0
  RoundIs r = P (OfTxn r.txn)

  abbrev round_of : Txn → List ℕ → List RecoveryRound
  round_of t [] = []
  round_of t (r ∷ more) = record { txn = t; members = r ∷ more; elector = r } ∷ []

  round_is : (t : Txn) (members : List ℕ) → KnownTxn t → Each RoundIs (round_of t members)
  round_is t [] known = tt
  round_is t (r ∷ more) known = (known, tt)

  open_are : (sc : Scenario) (start : List Entry) (s : ℕ) → LifeIs P (BeginsKnown P) (life_at (moves_of sc start s)) → Each KnownTxn (open_at sc start s)
  open_are sc start s is = let life : Life = life_at (moves_of sc start s) in
      each-filter KnownTxn (λ t. is_undecided t life.log) (known_txns s life) (known_are s life is)

  listed_are : (sc : Scenario) (start : List Entry) (group : List ℕ) → ((s : ℕ) → LifeIs P (BeginsKnown P) (life_at (moves_of sc start s))) → Each RoundIs (listed sc start group)
  listed_are sc start group lives =
      let up : List ℕ = filter (is_up_at start) group in
      let txns : List Txn = fold add_txn [] (flat_map (open_at sc start) up) in
      each-flat KnownTxn RoundIs (λ t. round_of t (filter (has_site t.sites) up))
      (λ t known. round_is t (filter (has_site t.sites) up) known) txns
      (added_are [] (flat_map (open_at sc start) up) tt
      (each-flat (λ (s : ℕ). Unit {0}) KnownTxn (open_at sc start) (λ s is. open_are sc start s (lives s)) up (each-of (λ (s : ℕ). Unit {0}) (λ s. tt) up)))

  left_are : (made : List Txn) (rounds : List RecoveryRound) → Each RoundIs rounds → Each RoundIs (rounds_left made rounds)
  left_are [] rounds all = all
  left_are (t ∷ ts) [] all = tt
  left_are (t ∷ ts) (r ∷ rounds) all = by (same_txn t r.txn) (left_are ts rounds all.1) (left_are (t ∷ ts) rounds all.1)
    where
      by : (b : Bool) → Each RoundIs (rounds_left ts rounds) → Each RoundIs (rounds_left (t ∷ ts) rounds) → Each RoundIs (if b then rounds_left ts rounds else rounds_left (t ∷ ts) rounds)
      by true taken passed = taken
      by false taken passed = passed

  -- the round that is due
  round_due : (sc : Scenario) (h : List Entry) → LineIs P sc (to_line h) → IfAny RoundIs (due_round sc h)
  round_due sc h line = by (recover_group (present_items sc h)) refl
    where
      by : (o : Option (List ℕ)) → recover_group (present_items sc h) ≡ o → IfAny RoundIs (due_round sc h)
      by None is = rw is tt
      by (Some group) is = rw is (any-find RoundIs (λ r. is_up_at h r.elector) _ (left_are (flat_map elected_txn (flat_map (λ e. inputs_of e.act) (since_line h)))
          (listed sc (to_line h) group) (listed_are sc (to_line h) group line.lives)))

  elect_is : (sc : Scenario) (h : List Entry) (site : ℕ) (t : Txn) (group : List ℕ) → LineIs P sc (to_line h) → IsRound sc h site t group → InputKnown (input.Elect t group)
  elect_is sc h site t group line round =
      (held RoundIs (due_round sc h) (record { txn = t; members = group; elector = site }) round.due (round_due sc h line), tt)

  -- what is due
  pub due_is : (sc : Scenario) (h : List Entry) (site : ℕ) (i : Input) → ValuesAre P sc → LineIs P sc (to_line h) → Each (PacketIs P) (sent h) → IsDue sc h site i →
      Each P (of_input i)
  due_is sc h site (input.Deliver p) vals line all due = each-at (PacketIs P) (sent h) p all (pending_sent sc h p due.is_pending)
  due_is sc h site (input.Elect t group) vals line all (inl next) = next_is sc h site (input.Elect t group) vals line next
  due_is sc h site (input.Elect t group) vals line all (inr round) = elect_is sc h site t group line round
  due_is sc h site i vals line all due = next_is sc h site i vals line due
