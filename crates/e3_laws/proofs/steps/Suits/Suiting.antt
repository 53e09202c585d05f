-- What is due at a site suits it.
use Rattle.std.proofs.Common.{◌≡◌, ◌==◌, ◌∷◌, [], ℕ, zero, suc, Bool, true, false, List, Option, Some, None, refl, sym, subst, inl, inr, fold, map, filter, eqb-true, eq-eqb, if◌then◌else◌, ◌&&◌, nat_le, length}
use Rattle.std.specs.Prelude.{slice_get, filter_map, option_map, find}
use Rattle.std.specs.List.{flat_map, cons_option, list_all, AllByRecursion as Each}
use Rattle.std.proofs.lemmas.Bool.{and_parts, and_from, or_left}
use Rattle.std.proofs.lemmas.Option.{same_Some}
use Rattle.e3_types.specs.declared.entries.Input.{Input}
use Rattle.e3_types.specs.declared.entries.Input.TheVariants as input
use Rattle.e3_types.specs.declared.entries.Entry.{Entry}
use Rattle.e3_types.specs.declared.entries.Told.{Told}
use Rattle.e3_types.specs.declared.entries.Told.TheVariants as told
use Rattle.e3_types.specs.declared.messages.Packet.{Packet}
use Rattle.e3_types.specs.declared.records.Record.{Record}
use Rattle.e3_types.specs.declared.records.Record.TheVariants as log
use Rattle.e3_types.specs.declared.scenarios.Item.{Item}
use Rattle.e3_types.specs.declared.scenarios.Item.TheVariants as item
use Rattle.e3_types.specs.declared.scenarios.Scenario.{Scenario}
use Rattle.e3_types.specs.declared.transactions.Txn.{Txn}
use Rattle.e3_types.specs.Same.{same_numbers, same_txn, is_older}
use Rattle.e3_types.specs.Sets.{has_site, is_within}
use Rattle.e3_types.proofs.SameSites.{same_numbers_eq}
use Rattle.e3_world.specs.declared.lives.Life.{Life}
use Rattle.e3_world.specs.declared.names.Addressed.{Addressed}
use Rattle.e3_world.specs.declared.names.Bound.{Bound}
use Rattle.e3_world.specs.Given.{IsGiven}
use Rattle.e3_world.specs.Items.{RecoveryRound, last_bound, txn_of, input_of, plan_of, inputs_to, inputs_at, to_line, turn_of, is_up_at, txn_of_record, began_in, known_txns, add_txn, open_at, listed, recover_group, elected_txn, rounds_left, due_round, since_line, inputs_of}
use Rattle.e3_world.specs.Legal.{IsDue, IsNextItem, IsDelivery, IsRound}
use Rattle.e3_world.specs.Lives.{life_at}
use Rattle.e3_world.specs.Logs.{is_undecided}
use Rattle.e3_world.specs.Moves.{moves_of}
use Rattle.e3_world.specs.Operations.{arrivals}
use Rattle.e3_world.specs.Orderly.{is_among}
use Rattle.e3_world.specs.Packets.{lines, sent, present_items}
use Rattle.e3_world.proofs.InTrail.{pending_sent}
use Rattle.e3_laws.specs.steps.Bounds.{Suits, SuitsLog, BeginsOwn, MayHear, GoesBetween}
use Rattle.e3_laws.proofs.steps.Suits.Among.{among_other, within_has}
use Rattle.e3_laws.proofs.steps.Suits.Arriving.{AllSuit, arrivals_here}
use Rattle.e3_laws.proofs.steps.Each.{each-append, each-filter, each-flat, each-map, each-at, each-weaker, each-of, IfAny}
use Rattle.e3_laws.proofs.steps.Suits.Keeping.{AskedHere}
use Rattle.e3_laws.proofs.steps.Suits.Scenarios.{HasRules, Named, NamesOnce, begins, items_given, names_once, group_among}
use Rattle.e3_laws.proofs.steps.Suits.Binding.{IsBound, Binds}
use Rattle.e3_laws.proofs.steps.Items.{round_of, binding}

-- the transaction of a name is that of its begin
bound_last : (sc : Scenario) (name : List ℕ) (was : Option Txn) (bs : List Bound) → IfAny (λ t. IsBound sc (record { name = name; txn = t })) was → Each (IsBound sc) bs →
    IfAny (λ t. IsBound sc (record { name = name; txn = t })) (fold (last_bound name) was bs)
bound_last sc name was [] first all = first
bound_last sc name was (b ∷ bs) first all = bound_last sc name (last_bound name was b) bs (by (same_numbers name b.name) refl) all.1
  where
    by : (c : Bool) → same_numbers name b.name ≡ c → IfAny (λ t. IsBound sc (record { name = name; txn = t })) (if same_numbers name b.name then Some b.txn else was)
    by true is = rw is (let P : List ℕ → Type 0 = λ l. IsBound sc (record { name = l; txn = b.txn }) in subst P (sym (same_numbers_eq name b.name is)) all.0)
    by false is = rw is first

pub txn_bound : (sc : Scenario) (k : List Entry) (name : List ℕ) → Binds sc k → IfAny (λ t. IsBound sc (record { name = name; txn = t })) (txn_of sc k name)
txn_bound sc k name binds = bound_last sc name None (binding sc k).bound tt binds.bound

-- the sites that an item names are the transaction's
pub names_sites : (sc : Scenario) (name sites : List ℕ) (t : Txn) → NamesOnce (begins sc) → Named (begins sc) name sites → IsBound sc (record { name = name; txn = t }) →
    is_within sites t.sites ≡ true
names_sites sc name sites t once named bound =
    let same : named.0.sites ≡ t.sites = once named.0 (record { name = name; sites = t.sites }) named.1 bound.begun (sym named.2) in
    let P : List ℕ → Type 0 = λ l. is_within sites l ≡ true in subst P same named.3

one_site : (site : ℕ) (sites : List ℕ) → is_within (site ∷ []) sites ≡ true → has_site sites site ≡ true
one_site site sites within = (and_parts (has_site sites site) true within).0

pub mapped : {X Y : Type 0} (P : X → Type 0) (Q : Y → Type 0) (f : X → Y) (o : Option X) → ((x : X) → P x → Q (f x)) → IfAny P o → IfAny Q (option_map f o)
mapped P Q f None each is = tt
mapped P Q f (Some x) each is = each x is

item_suits : (sc : Scenario) (k : List Entry) (it : Item) → NamesOnce (begins sc) → Binds sc k → HasRules sc (begins sc) it →
    IfAny (λ a. Suits sc.weights a.site a.input) (input_of sc k it)
item_suits sc k (item.Begin name site sites) once binds has = group_among sc site sites has.1 has.2
item_suits sc k (item.Read name key) once binds has =
    mapped (λ t. IsBound sc (record { name = name; txn = t })) (λ a. Suits sc.weights a.site a.input) _ (txn_of sc k name)
    (λ t bound. (bound.home, refl, one_site key.site t.sites (names_sites sc name (key.site ∷ []) t once has bound))) (txn_bound sc k name binds)
item_suits sc k (item.Write name key val) once binds has =
    mapped (λ t. IsBound sc (record { name = name; txn = t })) (λ a. Suits sc.weights a.site a.input) _ (txn_of sc k name)
    (λ t bound. (bound.home, refl, one_site key.site t.sites (names_sites sc name (key.site ∷ []) t once has bound))) (txn_bound sc k name binds)
item_suits sc k (item.Commit name) once binds has =
    mapped (λ t. IsBound sc (record { name = name; txn = t })) (λ a. Suits sc.weights a.site a.input) _ (txn_of sc k name)
    (λ t bound. (bound.home, refl)) (txn_bound sc k name binds)
item_suits sc k (item.Cancel name) once binds has =
    mapped (λ t. IsBound sc (record { name = name; txn = t })) (λ a. Suits sc.weights a.site a.input) _ (txn_of sc k name)
    (λ t bound. (bound.home, refl)) (txn_bound sc k name binds)
item_suits sc k (item.Expire site name) once binds has =
    mapped (λ t. IsBound sc (record { name = name; txn = t })) (λ a. Suits sc.weights a.site a.input) _ (txn_of sc k name)
    (λ t bound. among_other sc.weights t.site site t.sites bound.home (one_site site t.sites (names_sites sc name (site ∷ []) t once has bound))) (txn_bound sc k name binds)
item_suits sc k (item.Elect site name sites) once binds has =
    mapped (λ t. IsBound sc (record { name = name; txn = t })) (λ a. Suits sc.weights a.site a.input) _ (txn_of sc k name)
    (λ t bound. let within : is_within sites t.sites ≡ true = names_sites sc name sites t once has.0 bound in
    (among_other sc.weights t.site site t.sites bound.home (within_has sites t.sites site within has.1), has.1, within)) (txn_bound sc k name binds)
item_suits sc k it once binds has = tt

pub consed : {X : Type 0} (P : X → Type 0) (o : Option X) (xs : List X) → IfAny P o → Each P xs → Each P (cons_option o xs)
consed P None xs this more = more
consed P (Some x) xs this more = (this, more)

plan_suits : (sc : Scenario) (k : List Entry) (items : List Item) → NamesOnce (begins sc) → Binds sc k → Each (HasRules sc (begins sc)) items →
    Each (λ a. Suits sc.weights a.site a.input) (filter_map (input_of sc k) items)
plan_suits sc k [] once binds has = tt
plan_suits sc k (it ∷ items) once binds has = consed (λ a. Suits sc.weights a.site a.input) (input_of sc k it) (filter_map (input_of sc k) items)
    (item_suits sc k it once binds has.0) (plan_suits sc k items once binds has.1)

to_suits : (weights : List ℕ) (s : ℕ) (plan : List Addressed) → Each (λ a. Suits weights a.site a.input) plan → Each (Suits weights s) (inputs_to s plan)
to_suits weights s [] all = tt
to_suits weights s (a ∷ plan) all = by (a.site == s) refl (to_suits weights s plan all.1)
  where
    by : (b : Bool) → (a.site == s) ≡ b → Each (Suits weights s) (inputs_to s plan) → Each (Suits weights s) (inputs_to s (a ∷ plan))
    by true is more = rw is ((let P : ℕ → Type 0 = λ x. Suits weights x a.input in subst P (eqb-true a.site s is) all.0), more)
    by false is more = rw is more

pub each-get : {X : Type 0} (P : X → Type 0) (xs : List X) (n : ℕ) (x : X) → Each P xs → slice_get xs n ≡ Some x → P x
each-get P [] n x all is = absurd cc
each-get P (y ∷ xs) zero x all is = let Q : _ → Type 0 = P in subst Q (same_Some y x is) all.0
each-get P (y ∷ xs) (suc n) x all is = each-get P xs n x all.1 is

-- a site's next item suits it
pub next_suits : (sc : Scenario) (h : List Entry) (site : ℕ) (i : Input) → IsGiven sc → Binds sc (to_line h) → IsNextItem sc h site i → Suits sc.weights site i
next_suits sc h site i given binds next =
    each-get (Suits sc.weights site) (inputs_at sc h site) (turn_of h site) i
    (to_suits sc.weights site (plan_of sc h)
    (plan_suits sc (to_line h) (present_items sc (to_line h)) (names_once sc given) binds (items_given sc (lines (to_line h)) given))) next.next

-- a packet that was sent suits its receiver
pub packet_suits : (sc : Scenario) (h : List Entry) (site : ℕ) (p : Packet) → Each (GoesBetween sc.weights) (sent h) → IsDelivery sc h site p →
    Suits sc.weights site (input.Deliver p)
packet_suits sc h site p all due =
    let goes : GoesBetween sc.weights p = each-at (GoesBetween sc.weights) (sent h) p all (pending_sent sc h p due.is_pending) in
    let P : ℕ → Type 0 = λ x. (p.«from» == x) ≡ false in
    let Q : ℕ → Type 0 = λ x. MayHear sc.weights x p.«from» p.msg in
    (due.to, subst P due.to goes.other, subst Q due.to goes.heard)

-- what holds of a life: its steps' inputs suit the site, its transactions are the site's
pub record LifeSuits (weights : List ℕ) (site : ℕ) (life : Life) : Type 0 where
  pub steps : AllSuit weights site life.steps
  pub told : Each (λ m. Each (BeginsOwn weights site) m.told) life.steps
  pub log : Each (SuitsLog weights site) life.log

-- all the sites of the transaction have a weight
abbrev pub Weighed : List ℕ → Txn → Type 0
Weighed weights t = list_all (λ s. nat_le 1 s && nat_le s (length weights)) t.sites ≡ true

among_weighed : (weights : List ℕ) (site : ℕ) (t : Txn) → is_among site weights t.sites ≡ true → Weighed weights t
among_weighed weights site t among = (and_parts (has_site t.sites site) _ among).1

record_weighed : (weights : List ℕ) (site : ℕ) (r : Record) → SuitsLog weights site r → Each (Weighed weights) (txn_of_record r)
record_weighed weights site (log.Vote t ops) is = (among_weighed weights site t is.0, tt)
record_weighed weights site (log.Join t n) is = (among_weighed weights site t is, tt)
record_weighed weights site (log.Attempt t n dir) is = (among_weighed weights site t is, tt)
record_weighed weights site (log.Decision t dir) is = (among_weighed weights site t is, tt)
record_weighed weights site r is = tt

began_weighed : (weights : List ℕ) (site : ℕ) (e : Told) → BeginsOwn weights site e → Each (Weighed weights) (began_in e)
began_weighed weights site (told.Began t) is = (among_weighed weights site t is.0, tt)
began_weighed weights site e is = tt

known_weighed : (weights : List ℕ) (site : ℕ) (life : Life) → LifeSuits weights site life → Each (Weighed weights) (known_txns site life)
known_weighed weights site life suits =
    each-append (Weighed weights) _ (flat_map (λ m. flat_map began_in m.told) life.steps)
    (each-append (Weighed weights) (flat_map txn_of_record life.log) (map (λ a. a.txn) (arrivals site life.steps))
    (each-flat (SuitsLog weights site) (Weighed weights) txn_of_record (record_weighed weights site) life.log suits.log)
    (each-map (Weighed weights) (λ a. a.txn) (arrivals site life.steps)
    (each-weaker (AskedHere weights site) (λ a. Weighed weights a.txn) (λ a here. among_weighed weights site a.txn here.known) (arrivals site life.steps) (arrivals_here weights site life.steps suits.steps))))
    (each-flat (λ m. Each (BeginsOwn weights site) m.told) (Weighed weights) (λ m. flat_map began_in m.told)
    (λ m all. each-flat (BeginsOwn weights site) (Weighed weights) began_in (began_weighed weights site) m.told all) life.steps suits.told)

add_weighed : (weights : List ℕ) (ts : List Txn) (new : Txn) → Each (Weighed weights) ts → Weighed weights new → Each (Weighed weights) (add_txn ts new)
add_weighed weights [] new all this = (this, tt)
add_weighed weights (t ∷ ts) new all this = by (same_txn t new) (is_older new t) (add_weighed weights ts new all.1 this)
  where
    by : (b c : Bool) → Each (Weighed weights) (add_txn ts new) → Each (Weighed weights) (if b then t ∷ ts else if c then new ∷ t ∷ ts else t ∷ add_txn ts new)
    by true c more = all
    by false true more = (this, all)
    by false false more = (all.0, more)

added_weighed : (weights : List ℕ) (ts more : List Txn) → Each (Weighed weights) ts → Each (Weighed weights) more → Each (Weighed weights) (fold add_txn ts more)
added_weighed weights ts [] all this = all
added_weighed weights ts (t ∷ more) all this = added_weighed weights (add_txn ts t) more (add_weighed weights ts t all this.0) this.1

-- a round's election suits its elector
abbrev RoundSuits : List ℕ → RecoveryRound → Type 0
RoundSuits weights r = Suits weights r.elector (input.Elect r.txn r.members)

filtered_within : (xs ys : List ℕ) → is_within (filter (has_site ys) xs) ys ≡ true
filtered_within [] ys = refl
filtered_within (x ∷ xs) ys = by (has_site ys x) refl (filtered_within xs ys)
  where
    by : (b : Bool) → has_site ys x ≡ b → is_within (filter (has_site ys) xs) ys ≡ true → is_within (filter (has_site ys) (x ∷ xs)) ys ≡ true
    by true is more = rw is (and_from (has_site ys x) _ is more)
    by false is more = rw is more

round_suits : (weights : List ℕ) (t : Txn) (members : List ℕ) → Weighed weights t → is_within members t.sites ≡ true → Each (RoundSuits weights) (round_of t members)
round_suits weights t [] weighed within = tt
round_suits weights t (r ∷ more) weighed within =
    let first : _ = and_parts (has_site t.sites r) (is_within more t.sites) within in
    ((and_from (has_site t.sites r) _ first.0 weighed, or_left (r == r) (has_site more r) (eq-eqb r r refl), within), tt)

open_weighed : (sc : Scenario) (start : List Entry) (s : ℕ) → LifeSuits sc.weights s (life_at (moves_of sc start s)) → Each (Weighed sc.weights) (open_at sc start s)
open_weighed sc start s suits = let life : Life = life_at (moves_of sc start s) in
    each-filter (Weighed sc.weights) (λ t. is_undecided t life.log) (known_txns s life) (known_weighed sc.weights s life suits)

listed_suit : (sc : Scenario) (start : List Entry) (group : List ℕ) → ((s : ℕ) → LifeSuits sc.weights s (life_at (moves_of sc start s))) →
    Each (RoundSuits sc.weights) (listed sc start group)
listed_suit sc start group suits =
    let up : List ℕ = filter (is_up_at start) group in
    let txns : List Txn = fold add_txn [] (flat_map (open_at sc start) up) in
    each-flat (Weighed sc.weights) (RoundSuits sc.weights) (λ t. round_of t (filter (has_site t.sites) up))
    (λ t weighed. round_suits sc.weights t (filter (has_site t.sites) up) weighed (filtered_within up t.sites)) txns
    (added_weighed sc.weights [] (flat_map (open_at sc start) up) tt
    (each-flat (λ (s : ℕ). Unit {0}) (Weighed sc.weights) (open_at sc start) (λ s is. open_weighed sc start s (suits s)) up (each-of (λ (s : ℕ). Unit {0}) (λ s. tt) up)))

left_suit : (P : RecoveryRound → Type 0) (made : List Txn) (rounds : List RecoveryRound) → Each P rounds → Each P (rounds_left made rounds)
left_suit P [] rounds all = all
left_suit P (t ∷ ts) [] all = tt
left_suit P (t ∷ ts) (r ∷ rounds) all = by (same_txn t r.txn) (left_suit P ts rounds all.1) (left_suit P (t ∷ ts) rounds all.1)
  where
    by : (b : Bool) → Each P (rounds_left ts rounds) → Each P (rounds_left (t ∷ ts) rounds) → Each P (if b then rounds_left ts rounds else rounds_left (t ∷ ts) rounds)
    by true taken passed = taken
    by false taken passed = passed

found_suits : (P : RecoveryRound → Type 0) (p : RecoveryRound → Bool) (rounds : List RecoveryRound) → Each P rounds → IfAny P (find p rounds)
found_suits P p [] all = tt
found_suits P p (r ∷ rounds) all = by (p r) (found_suits P p rounds all.1)
  where
    by : (b : Bool) → IfAny P (find p rounds) → IfAny P (if b then Some r else find p rounds)
    by true more = all.0
    by false more = more

-- the round that is due suits its elector
due_suits : (sc : Scenario) (h : List Entry) → ((s : ℕ) → LifeSuits sc.weights s (life_at (moves_of sc (to_line h) s))) → IfAny (RoundSuits sc.weights) (due_round sc h)
due_suits sc h suits = by (recover_group (present_items sc h)) refl
  where
    by : (o : Option (List ℕ)) → recover_group (present_items sc h) ≡ o → IfAny (RoundSuits sc.weights) (due_round sc h)
    by None is = rw is tt
    by (Some group) is = rw is (found_suits (RoundSuits sc.weights) (λ r. is_up_at h r.elector) _ (left_suit (RoundSuits sc.weights) (flat_map elected_txn (flat_map (λ e. inputs_of e.act) (since_line h)))
        (listed sc (to_line h) group) (listed_suit sc (to_line h) group suits)))

round_due_suits : (sc : Scenario) (h : List Entry) (site : ℕ) (t : Txn) (group : List ℕ) → ((s : ℕ) → LifeSuits sc.weights s (life_at (moves_of sc (to_line h) s))) →
    IsRound sc h site t group → Suits sc.weights site (input.Elect t group)
round_due_suits sc h site t group suits round = let P : Option RecoveryRound → Type 0 = IfAny (RoundSuits sc.weights) in
    subst P round.due (due_suits sc h suits)

pub due_input_suits : (sc : Scenario) (h : List Entry) (site : ℕ) (i : Input) → IsGiven sc → Binds sc (to_line h) → Each (GoesBetween sc.weights) (sent h) →
    ((s : ℕ) → LifeSuits sc.weights s (life_at (moves_of sc (to_line h) s))) → IsDue sc h site i → Suits sc.weights site i
due_input_suits sc h site (input.Deliver p) given binds all suits due = packet_suits sc h site p all due
due_input_suits sc h site (input.Elect t group) given binds all suits (inl next) = next_suits sc h site (input.Elect t group) given binds next
due_input_suits sc h site (input.Elect t group) given binds all suits (inr round) = round_due_suits sc h site t group suits round
due_input_suits sc h site i given binds all suits due = next_suits sc h site i given binds due
