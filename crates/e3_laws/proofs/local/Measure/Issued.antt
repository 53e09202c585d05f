-- An operation that a site issued is of a transaction that was begun.
use Rattle.std.proofs.Common.{◌≡◌, ◌≢◌, ◌==◌, ◌∷◌, ◌++◌, [], ℕ, zero, suc, Bool, true, false, List, Option, Some, None, refl, ap, sym, subst, ◌∙◌, fold, filter, append-nil, append_assoc, if◌then◌else◌}
use Rattle.std.specs.Prelude.{Contains, slice_get, filter_map, option_map}
use Rattle.std.specs.List.{cons_option, AllByRecursion as Each}
use Rattle.std.proofs.lemmas.Option.{same_Some}
use Rattle.e3_types.specs.declared.entries.Act.{Act}
use Rattle.e3_types.specs.declared.entries.Act.TheVariants.{Step, Fall, Rise, RiseFall, Miss, Cut, Drop, Parts, Line}
use Rattle.e3_types.specs.declared.entries.Entry.{Entry}
use Rattle.e3_types.specs.declared.entries.Input.{Input}
use Rattle.e3_types.specs.declared.entries.Input.TheVariants as input
use Rattle.e3_types.specs.declared.entries.Told.{Told}
use Rattle.e3_types.specs.declared.scenarios.Item.{Item}
use Rattle.e3_types.specs.declared.scenarios.Item.TheVariants as item
use Rattle.e3_types.specs.declared.scenarios.Scenario.{Scenario}
use Rattle.e3_types.specs.declared.transactions.Op.{Op}
use Rattle.e3_types.specs.declared.transactions.Txn.{Txn}
use Rattle.e3_types.specs.Same.{same_numbers, same_txn}
use Rattle.e3_world.specs.declared.lives.Incarnation.{Incarnation}
use Rattle.e3_world.specs.declared.lives.Life.{Life}
use Rattle.e3_world.specs.declared.lives.Moment.{Moment}
use Rattle.e3_world.specs.declared.lives.SiteStep.{SiteStep}
use Rattle.e3_world.specs.declared.names.Addressed.{Addressed}
use Rattle.e3_world.specs.declared.names.Bound.{Bound}
use Rattle.e3_world.specs.Items.{input_of, inputs_at, last_bound, plan_of, since_line, to_line, turn_of, txn_of}
use Rattle.e3_world.specs.Legal.{Guard, IsDue, IsLegal, IsNextItem, LegalAfter}
use Rattle.e3_world.specs.Lives.{incarnation_by, incarnation_of, life_at, life_by}
use Rattle.e3_world.specs.Moves.{Did, Move, Past, Rose, Silent, Stepped, Tail, kept_moves, moves_of, moves_of_act, own_entries, past_of, unnumbered_input}
use Rattle.e3_world.specs.Operations.{issued, issued_in}
use Rattle.e3_world.specs.Packets.{present_items}
use Rattle.e3_world.proofs.Pushes.{past_push}
use Rattle.e3_world.proofs.Readings.{own_other, own_same}
use Rattle.e3_laws.proofs.steps.Each.{each-append, each-filter, each-map, each-push, each-weaker}
use Rattle.e3_laws.proofs.steps.Suits.Holding.{split_from}
use Rattle.e3_laws.specs.local.Measures.{begun}
use Rattle.e3_laws.proofs.local.Measure.Begun.{IsBegun, begun_later, begun_more, bound_begun, bound_in}
use Rattle.e3_laws.proofs.steps.Tests.{same_is}

-- an operation is of a transaction among these
abbrev KnownInput : List Txn → Input → Type 0
KnownInput txns (input.Do t op) = Contains txns t
KnownInput txns i = Unit {0}

abbrev KnownDid : List Txn → Did → Type 0
KnownDid txns (Stepped s) = KnownInput txns s.input
KnownDid txns (Silent inputs records) = Unit {0}
KnownDid txns (Rose inc records) = Unit {0}

abbrev Known : List Txn → List Move → Type 0
Known txns moves = Each (λ m. KnownDid txns m.did) moves

-- the steps of the life that moves make
since_known : (txns : List Txn) (mine : List Move) (was : Incarnation) → Each (λ s. KnownInput txns s.input) was.since → Known txns mine →
    Each (λ s. KnownInput txns s.input) (fold incarnation_by was mine).since
since_known txns [] was first all = first
since_known txns (m ∷ mine) was first all = since_known txns mine (incarnation_by was m) (by m.did refl all.0) all.1
  where
    by : (did : Did) → m.did ≡ did → KnownDid txns did → Each (λ s. KnownInput txns s.input) (incarnation_by was m).since
    by (Stepped s) is known = rw is (each-push (λ s. KnownInput txns s.input) was.since s first known)
    by (Silent inputs records) is known = rw is tt
    by (Rose inc records) is known = rw is tt

steps_known : (txns : List Txn) (ss : List SiteStep) (life : Life) → Each (λ m. KnownInput txns m.input) life.steps → Each (λ s. KnownInput txns s.input) ss →
    Each (λ m. KnownInput txns m.input) (fold life_by life ss).steps
steps_known txns [] life first all = first
steps_known txns (s ∷ ss) life first all =
    steps_known txns ss (life_by life s) (each-push (λ m. KnownInput txns m.input) life.steps _ first all.0) all.1

life_known : (txns : List Txn) (mine : List Move) → Known txns mine → Each (λ m. KnownInput txns m.input) (life_at mine).steps
life_known txns mine all = steps_known txns (incarnation_of mine).since _ tt (since_known txns mine (record { rose = []; since = [] }) tt all)

-- the transaction of a name was begun
abbrev IfBegun : List Txn → Option Txn → Type 0
IfBegun txns None = Unit {0}
IfBegun txns (Some t) = Contains txns t

abbrev IfKnown : List Txn → Option Addressed → Type 0
IfKnown txns None = Unit {0}
IfKnown txns (Some a) = KnownInput txns a.input

last_begun : (k : List Entry) (name : List ℕ) (was : Option Txn) (bs : List Bound) → IfBegun (begun k) was → Each (IsBegun k) bs →
    IfBegun (begun k) (fold (last_bound name) was bs)
last_begun k name was [] first all = first
last_begun k name was (b ∷ bs) first all = last_begun k name (last_bound name was b) bs (by (same_numbers name b.name)) all.1
  where
    by : (c : Bool) → IfBegun (begun k) (if c then Some b.txn else was)
    by true = all.0
    by false = first

name_begun : (sc : Scenario) (k : List Entry) (name : List ℕ) → IfBegun (begun k) (txn_of sc k name)
name_begun sc k name = last_begun k name None (bound_in sc k) tt (bound_begun sc k)

-- so what a step asks of the sites is known
known_by : (txns : List Txn) (f : Txn → Addressed) (o : Option Txn) → ((t : Txn) → Contains txns t → KnownInput txns (f t).input) → IfBegun txns o → IfKnown txns (option_map f o)
known_by txns f None to is = tt
known_by txns f (Some t) to is = to t is

item_known : (sc : Scenario) (k : List Entry) (it : Item) → IfKnown (begun k) (input_of sc k it)
item_known sc k (item.Read name key) = known_by (begun k) _ (txn_of sc k name) (λ t has. has) (name_begun sc k name)
item_known sc k (item.Write name key val) = known_by (begun k) _ (txn_of sc k name) (λ t has. has) (name_begun sc k name)
item_known sc k (item.Commit name) = known_by (begun k) _ (txn_of sc k name) (λ t has. tt) (name_begun sc k name)
item_known sc k (item.Cancel name) = known_by (begun k) _ (txn_of sc k name) (λ t has. tt) (name_begun sc k name)
item_known sc k (item.Expire site name) = known_by (begun k) _ (txn_of sc k name) (λ t has. tt) (name_begun sc k name)
item_known sc k (item.Elect site name sites) = known_by (begun k) _ (txn_of sc k name) (λ t has. tt) (name_begun sc k name)
item_known sc k it = tt

consed : (txns : List Txn) (o : Option Addressed) (xs : List Addressed) → IfKnown txns o → Each (λ a. KnownInput txns a.input) xs →
    Each (λ a. KnownInput txns a.input) (cons_option o xs)
consed txns None xs this more = more
consed txns (Some a) xs this more = (this, more)

plan_known : (sc : Scenario) (k : List Entry) (items : List Item) → Each (λ a. KnownInput (begun k) a.input) (filter_map (input_of sc k) items)
plan_known sc k [] = tt
plan_known sc k (it ∷ items) = consed (begun k) (input_of sc k it) (filter_map (input_of sc k) items) (item_known sc k it) (plan_known sc k items)

nth_known : (txns : List Txn) (xs : List Input) (n : ℕ) (i : Input) → Each (KnownInput txns) xs → slice_get xs n ≡ Some i → KnownInput txns i
nth_known txns [] n i all is = absurd cc
nth_known txns (y ∷ xs) zero i all is = let P : Input → Type 0 = KnownInput txns in subst P (same_Some y i is) all.0
nth_known txns (y ∷ xs) (suc n) i all is = nth_known txns xs n i all.1 is

-- an operation that is due
next_known : (sc : Scenario) (h : List Entry) (site : ℕ) (t : Txn) (op : Op) → IsNextItem sc h site (input.Do t op) → Contains (begun h) t
next_known sc h site t op next =
    let k : List Entry = to_line h in
    let P : List Entry → Type 0 = λ l. Contains (begun l) t in
    let was : Contains (begun k) t = nth_known (begun k) (inputs_at sc h site) (turn_of h site) (input.Do t op)
    (each-map (KnownInput (begun k)) (λ a. a.input) (filter (λ a. a.site == site) (plan_of sc h))
    (each-filter (λ a. KnownInput (begun k) a.input) (λ a. a.site == site) (plan_of sc h) (plan_known sc k (present_items sc k)))) next.next in
    subst P (split_from (record { to = []; since = [] }) h) (begun_later k (since_line h) t was)

due_known : (sc : Scenario) (h : List Entry) (e : Entry) (site : ℕ) (i : Input) → IsDue sc h site i → KnownInput (begun (h ++ e ∷ [])) (unnumbered_input i)
due_known sc h e site (input.Do t op) due = begun_more h e t (next_known sc h site t op due)
due_known sc h e site (input.Begin sites) due = tt
due_known sc h e site (input.Commit t) due = tt
due_known sc h e site (input.Cancel t) due = tt
due_known sc h e site (input.Expire t) due = tt
due_known sc h e site (input.Elect t group) due = tt
due_known sc h e site (input.Deliver p) due = tt

kept_known : (txns : List Txn) (site : ℕ) (kept : Bool) (o : Option Tail) → Known txns (kept_moves site kept o)
kept_known txns site true (Some tail) = (tt, tt)
kept_known txns site true None = tt
kept_known txns site false o = tt

-- the moves that an entry adds
act_known : (sc : Scenario) (h : List Entry) (owner : ℕ) (act : Act) (s : ℕ) (w : Past) → Guard sc h (record { owner = owner; act = act }) →
    Known (begun (h ++ record { owner = owner; act = act } ∷ [])) (moves_of_act sc s w act)
act_known sc h zero (Step i records outs events) s w guard = absurd guard
act_known sc h (suc n) (Step i records outs events) s w guard = (due_known sc h _ (suc n) i guard.due, tt)
act_known sc h owner (Rise kept inc) s w guard = each-append (λ m. KnownDid (begun (h ++ _ ∷ [])) m.did) (kept_moves s kept w.tail) _ (kept_known _ s kept w.tail) (tt, tt)
act_known sc h owner (RiseFall kept inc why) s w guard = kept_known _ s kept w.tail
act_known sc h owner (Fall inputs records why) s w guard = tt
act_known sc h owner Miss s w guard = tt
act_known sc h owner Cut s w guard = tt
act_known sc h owner (Drop number) s w guard = tt
act_known sc h owner (Parts parts) s w guard = tt
act_known sc h owner (Line number) s w guard = tt

known_later : (h : List Entry) (e : Entry) (i : Input) → KnownInput (begun h) i → KnownInput (begun (h ++ e ∷ [])) i
known_later h e (input.Do t op) has = begun_more h e t has
known_later h e (input.Begin sites) has = tt
known_later h e (input.Commit t) has = tt
known_later h e (input.Cancel t) has = tt
known_later h e (input.Expire t) has = tt
known_later h e (input.Elect t group) has = tt
known_later h e (input.Deliver p) has = tt

did_later : (h : List Entry) (e : Entry) (did : Did) → KnownDid (begun h) did → KnownDid (begun (h ++ e ∷ [])) did
did_later h e (Stepped s) known = known_later h e s.input known
did_later h e (Silent inputs records) known = tt
did_later h e (Rose inc records) known = tt

entry_known : (sc : Scenario) (h : List Entry) (e : Entry) → ((s : ℕ) → Known (begun h) (moves_of sc h s)) → Guard sc h e → (s : ℕ) →
    Known (begun (h ++ e ∷ [])) (moves_of sc (h ++ e ∷ []) s)
entry_known sc h e was guard s = by (e.owner == s) refl
  where
    P : List Move → Type 0
    P l = Known (begun (h ++ e ∷ [])) l

    older : P (moves_of sc h s)
    older = each-weaker (λ m. KnownDid (begun h) m.did) (λ m. KnownDid (begun (h ++ e ∷ [])) m.did) (λ m known. did_later h e m.did known) (moves_of sc h s) (was s)

    by : (b : Bool) → (e.owner == s) ≡ b → P (moves_of sc (h ++ e ∷ []) s)
    by true is = subst P (sym (ap (λ l. (past_of sc s l).moves) (own_same s h e is) ∙ ap (λ p. p.moves) (past_push sc s (own_entries s h) e)))
        (each-append (λ m. KnownDid (begun (h ++ e ∷ [])) m.did) (moves_of sc h s) _ older (act_known sc h e.owner e.act s (past_of sc s (own_entries s h)) guard))
    by false is = subst P (sym (ap (λ l. (past_of sc s l).moves) (own_other s h e is))) older

after_known : (sc : Scenario) (before rest : List Entry) → ((s : ℕ) → Known (begun before) (moves_of sc before s)) → LegalAfter sc before rest →
    (s : ℕ) → Known (begun (before ++ rest)) (moves_of sc (before ++ rest) s)
after_known sc before [] was legal s = let P : List Entry → Type 0 = λ l. Known (begun l) (moves_of sc l s) in subst P (sym (append-nil before)) (was s)
after_known sc before (e ∷ rest) was legal s = let P : List Entry → Type 0 = λ l. Known (begun l) (moves_of sc l s) in
    subst P (append_assoc before (e ∷ []) rest) (after_known sc (before ++ e ∷ []) rest (entry_known sc before e was legal.0) legal.1 s)

input_known : (txns : List Txn) (t : Txn) (i : Input) (events : List Told) → KnownInput txns i → (issued_in t i events ≢ []) → Contains txns t
input_known txns t (input.Do u op) events known some = by (same_txn t u) refl
  where
    by : (b : Bool) → same_txn t u ≡ b → Contains txns t
    by true is = let P : Txn → Type 0 = λ v. Contains txns v in subst P (sym (same_is t u is)) known
    by false is = absurd (some (rw is refl))
input_known txns t i events known some = absurd (some refl)

issued_known : (txns : List Txn) (t : Txn) (steps : List Moment) → Each (λ m. KnownInput txns m.input) steps → (issued t steps ≢ []) → Contains txns t
issued_known txns t [] known some = absurd (some refl)
issued_known txns t (m ∷ steps) known some = by (issued_in t m.input m.told) refl (λ more. issued_known txns t steps known.1 more)
  where
    by : (l : List Op) → issued_in t m.input m.told ≡ l → ((issued t steps ≢ []) → Contains txns t) → Contains txns t
    by [] is rest = rest (λ none. some (ap (λ l. l ++ issued t steps) is ∙ none))
    by (o ∷ os) is rest = input_known txns t m.input m.told known.0 (λ none. (let both : o ∷ os ≡ [] = sym is ∙ none in absurd cc))

-- in a legal history
pub issued_begun : (sc : Scenario) (h : List Entry) (site : ℕ) (t : Txn) → IsLegal sc h → (issued t (life_at (moves_of sc h site)).steps ≢ []) → Contains (begun h) t
issued_begun sc h site t legal some =
    issued_known (begun h) t (life_at (moves_of sc h site)).steps (life_known (begun h) (moves_of sc h site) (after_known sc [] h (λ s. tt) legal site)) some
