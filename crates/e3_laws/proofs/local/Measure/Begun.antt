-- What was begun: an entry that takes a packet begins nothing, and what is bound to a name was begun.
use Rattle.std.proofs.Common.{◌≡◌, arith, ◌∷◌, ◌++◌, [], ℕ, List, Option, Some, None, refl, ap, sym, subst, ◌∙◌, inl, inr, fold, append-nil, append_assoc}
use Rattle.std.specs.Prelude.{Contains}
use Rattle.std.specs.List.{flat_map, AllByRecursion as Each}
use Rattle.std.proofs.lemmas.Grind.{flat_map-append}
use Rattle.std.proofs.lemmas.List.Elements.{Contains-append_left, Contains-append_right}
use Rattle.e3_types.specs.declared.entries.Act.{Act}
use Rattle.e3_types.specs.declared.entries.Act.TheVariants.{Step}
use Rattle.e3_types.specs.declared.entries.Entry.{Entry}
use Rattle.e3_types.specs.declared.entries.Input.{Input}
use Rattle.e3_types.specs.declared.entries.Input.TheVariants as input
use Rattle.e3_types.specs.declared.entries.Told.{Told}
use Rattle.e3_types.specs.declared.entries.Told.TheVariants as told
use Rattle.e3_types.specs.declared.messages.Packet.{Packet}
use Rattle.e3_types.specs.declared.scenarios.Scenario.{Scenario}
use Rattle.e3_types.specs.declared.transactions.Txn.{Txn}
use Rattle.e3_world.specs.declared.lives.At.{At}
use Rattle.e3_world.specs.declared.lives.Incarnation.{Incarnation}
use Rattle.e3_world.specs.declared.names.Binding.{Binding}
use Rattle.e3_world.specs.declared.names.Bound.{Bound}
use Rattle.e3_world.specs.Given.{IsGiven}
use Rattle.e3_world.specs.Items.{began_in, binding_by, binds}
use Rattle.e3_world.specs.Legal.{IsDue, IsLegal, entry_of, made_by}
use Rattle.e3_world.specs.Lives.{incarnation_of, life_of}
use Rattle.e3_world.specs.Moves.{moves_of, unnumbered_input}
use Rattle.e3_laws.proofs.steps.Sound.Clocks.{due_says}
use Rattle.e3_laws.proofs.steps.Each.{each-append, each-weaker}
use Rattle.e3_laws.proofs.steps.Suits.Holding.{legal_holds}
use Rattle.e3_laws.proofs.steps.Operations.Tracing.{Says, Tells}
use Rattle.e3_laws.specs.steps.Mentions.{begun_in}
use Rattle.e3_laws.specs.local.Measures.{begun}

pub begun_push : (h : List Entry) (e : Entry) → begun (h ++ e ∷ []) ≡ begun h ++ begun_in e.act
begun_push h e = flat_map-append (λ e. begun_in e.act) h (e ∷ []) ∙ ap (λ l. begun h ++ l) (append-nil (begun_in e.act))

pub begun_none : (h : List Entry) (e : Entry) → begun_in e.act ≡ [] → begun (h ++ e ∷ []) ≡ begun h
begun_none h e none = begun_push h e ∙ ap (λ l. begun h ++ l) none ∙ append-nil (begun h)

pub begun_more : (h : List Entry) (e : Entry) (t : Txn) → Contains (begun h) t → Contains (begun (h ++ e ∷ [])) t
begun_more h e t has = let P : List Txn → Type 0 = λ l. Contains l t in
    subst P (sym (begun_push h e)) (Contains-append_left (begun h) (begun_in e.act) t has)

pub begun_later : (h es : List Entry) (t : Txn) → Contains (begun h) t → Contains (begun (h ++ es)) t
begun_later h es t has = let P : List Txn → Type 0 = λ l. Contains l t in
    subst P (sym (flat_map-append (λ e. begun_in e.act) h es)) (Contains-append_left (begun h) (begun es) t has)

-- the place of a step
abbrev place : List ℕ → ℕ → Incarnation → Input → At
place weights site now i = record { weights = weights; site = site; life = life_of now; input = unnumbered_input i }

-- what a delivery tells
none_told : (sc : Scenario) (h : List Entry) (site : ℕ) (p : Packet) → Says (place sc.weights site (incarnation_of (moves_of sc h site)) (input.Deliver p)) (made_by sc h site (input.Deliver p)) →
    flat_map began_in (made_by sc h site (input.Deliver p)).told ≡ []
none_told sc h site p (inl refuses) = ap (flat_map began_in) refuses.told.2
none_told sc h site p (inr traces) = each_none (made_by sc h site (input.Deliver p)).told traces.told
  where
    each_none : (l : List Told) → Each (Tells (place sc.weights site (incarnation_of (moves_of sc h site)) (input.Deliver p))) l → flat_map began_in l ≡ []
    each_none [] all = refl
    each_none (told.Began t ∷ l) all = (let is : _ = all.0.1 in absurd cc)
    each_none (e ∷ l) all = each_none l all.1

pub delivery_begins_none : (sc : Scenario) (h : List Entry) (site : ℕ) (p : Packet) → IsGiven sc → IsLegal sc h → IsDue sc h site (input.Deliver p) →
    begun (h ++ entry_of sc h site (input.Deliver p) ∷ []) ≡ begun h
delivery_begins_none sc h site p given legal due =
    begun_none h (entry_of sc h site (input.Deliver p)) (none_told sc h site p (due_says sc h site (input.Deliver p) given due (legal_holds sc h given legal)))

-- the transaction of a bound name was begun
abbrev pub IsBegun : List Entry → Bound → Type 0
IsBegun h b = Contains (begun h) b.txn

binds_begun : (h : List Entry) (o : Option (List ℕ)) (events : List Told) → ((t : Txn) → Contains (flat_map began_in events) t → Contains (begun h) t) →
    Each (IsBegun h) (binds o events)
binds_begun h None events has = tt
binds_begun h (Some name) [] has = tt
binds_begun h (Some name) (told.Began t ∷ events) has = (has t (Contains-append_left (t ∷ []) (flat_map began_in events) t (0, omega arith, refl)), tt)
binds_begun h (Some name) (e ∷ events) has = tt

act_bound : (sc : Scenario) (w : Binding) (h : List Entry) (owner : ℕ) (act : Act) → Each (IsBegun h) w.bound →
    Each (IsBegun (h ++ record { owner = owner; act = act } ∷ [])) (binding_by sc w (record { owner = owner; act = act })).bound
act_bound sc w h owner act was = by act
  where
    later : (e : Entry) → Each (IsBegun (h ++ e ∷ [])) w.bound
    later e = each-weaker (IsBegun h) (IsBegun (h ++ e ∷ [])) (λ b has. begun_more h e b.txn has) w.bound was

    by : (act : Act) → Each (IsBegun (h ++ record { owner = owner; act = act } ∷ [])) (binding_by sc w (record { owner = owner; act = act })).bound
    by (Step (input.Begin sites) records outs events) =
        let e : Entry = record { owner = owner; act = Step (input.Begin sites) records outs events } in
        each-append (IsBegun (h ++ e ∷ [])) w.bound _ (later e) (binds_begun (h ++ e ∷ []) _ events (λ t has. (let P : List Txn → Type 0 = λ l. Contains l t in
        subst P (sym (begun_push h e)) (Contains-append_right (begun h) (begun_in e.act) t has))))
    by (Step i records outs events) = later (record { owner = owner; act = Step i records outs events })
    by act = later (record { owner = owner; act = act })

bound_after : (sc : Scenario) (w : Binding) (h es : List Entry) → Each (IsBegun h) w.bound → Each (IsBegun (h ++ es)) (fold (binding_by sc) w es).bound
bound_after sc w h [] was = let P : List Entry → Type 0 = λ l. Each (IsBegun l) w.bound in subst P (sym (append-nil h)) was
bound_after sc w h (e ∷ es) was = let P : List Entry → Type 0 = λ l. Each (IsBegun l) (fold (binding_by sc) (binding_by sc w e) es).bound in
    subst P (append_assoc h (e ∷ []) es) (bound_after sc (binding_by sc w e) (h ++ e ∷ []) es (act_bound sc w h e.owner e.act was))

-- what the entries have bound to names
abbrev pub bound_in : Scenario → List Entry → List Bound
bound_in sc h = (fold (binding_by sc) (record { number = 0; begun_at = []; bound = [] }) h).bound

pub bound_begun : (sc : Scenario) (h : List Entry) → Each (IsBegun h) (bound_in sc h)
bound_begun sc h = bound_after sc (record { number = 0; begun_at = []; bound = [] }) [] h tt
