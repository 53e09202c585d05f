-- The moves of a site in the trail of a history are those that its own entries come to.
use Rattle.std.proofs.Common.{◌≡◌, ℕ, Bool, true, false, List, [], ◌∷◌, ◌++◌, append_assoc, append-nil, sym, subst, ◌∙◌, ap, refl, ◌==◌, eqb-true, Option, Some, None}
use Rattle.std.proofs.lemmas.List.Elements.{filter-append}
use Rattle.e3_types.specs.declared.entries.Entry.{Entry}
use Rattle.e3_types.specs.declared.entries.Act.{Act}
use Rattle.e3_types.specs.declared.entries.Act.TheVariants.{Step, Fall, Rise, RiseFall, Miss, Cut, Drop, Parts, Line}
use Rattle.e3_types.specs.declared.scenarios.Scenario.{Scenario}
use Rattle.e3_world.specs.Moves.{Move, Did, Silent, Past, Tail, own_entries, moves_at, past_of, moves_of, moves_of_act, kept_moves, trail_after, trail_of}
use Rattle.e3_world.proofs.Pushes.{past_push}

-- all of these moves, or none of them
abbrev all_if : Bool → List Move → List Move
all_if true moves = moves
all_if false moves = []

one : (site owner : ℕ) (did : Did) (b : Bool) → (owner == site) ≡ b →
    moves_at site (record { site = owner; did = did } ∷ []) ≡ all_if b (record { site = owner; did = did } ∷ [])
one site owner did true is = rw is refl
one site owner did false is = rw is refl

kept_if : (site owner : ℕ) (kept : Bool) (tail : Option Tail) (b : Bool) → (owner == site) ≡ b →
    moves_at site (kept_moves owner kept tail) ≡ all_if b (kept_moves owner kept tail)
kept_if site owner true (Some tail) b is = one site owner (Silent tail.inputs tail.records) b is
kept_if site owner true None true is = refl
kept_if site owner true None false is = refl
kept_if site owner false tail true is = refl
kept_if site owner false tail false is = refl

both : (site : ℕ) (b : Bool) (xs ys : List Move) → moves_at site xs ≡ all_if b xs → moves_at site ys ≡ all_if b ys →
    moves_at site (xs ++ ys) ≡ all_if b (xs ++ ys)
both site true xs ys p q = rw (filter-append, p, q) refl
both site false xs ys p q = rw (filter-append, p, q) refl

none : (site : ℕ) (b : Bool) → moves_at site [] ≡ all_if b []
none site true = refl
none site false = refl

act_if : (sc : Scenario) (site owner : ℕ) (w : Past) (act : Act) (b : Bool) → (owner == site) ≡ b →
    moves_at site (moves_of_act sc owner w act) ≡ all_if b (moves_of_act sc owner w act)
act_if sc site owner w (Step i records outs events) b is = one site owner _ b is
act_if sc site owner w (Rise kept inc) b is = both site b _ _ (kept_if site owner kept w.tail b is) (one site owner _ b is)
act_if sc site owner w (RiseFall kept inc why) b is = kept_if site owner kept w.tail b is
act_if sc site owner w (Fall inputs records why) b is = none site b
act_if sc site owner w Miss b is = none site b
act_if sc site owner w Cut b is = none site b
act_if sc site owner w (Drop packet) b is = none site b
act_if sc site owner w (Parts parts) b is = none site b
act_if sc site owner w (Line number) b is = none site b

-- the moves that an entry of this owner makes
abbrev made_by : Scenario → List Entry → Act → ℕ → List Move
made_by sc before act owner = moves_of_act sc owner (past_of sc owner (own_entries owner before)) act

-- the own moves of one more entry
step_moves : (sc : Scenario) (site : ℕ) (before : List Entry) (e : Entry) (b : Bool) → (e.owner == site) ≡ b →
    moves_of sc (before ++ e ∷ []) site ≡ moves_of sc before site ++ moves_at site (made_by sc before e.act e.owner)
step_moves sc site before e true is =
    let same : e.owner ≡ site = eqb-true e.owner site is in
    let mine : own_entries site (before ++ e ∷ []) ≡ own_entries site before ++ e ∷ [] = rw (filter-append, is) refl in
    let P : ℕ → Type 0 = λ o. (o == site) ≡ true in
    let acts : moves_at site (made_by sc before e.act site) ≡ made_by sc before e.act site = act_if sc site site (past_of sc site (own_entries site before)) e.act true (subst P same is) in
    ap (λ l. (past_of sc site l).moves) mine ∙ ap (λ p. p.moves) (past_push sc site (own_entries site before) e)
    ∙ ap (λ l. moves_of sc before site ++ l) (sym acts)
    ∙ ap (λ o. moves_of sc before site ++ moves_at site (made_by sc before e.act o)) (sym same)
step_moves sc site before e false is =
    let mine : own_entries site (before ++ e ∷ []) ≡ own_entries site before = rw (filter-append, is) (append-nil (own_entries site before)) in
    let acts : moves_at site (made_by sc before e.act e.owner) ≡ [] = act_if sc site e.owner (past_of sc e.owner (own_entries e.owner before)) e.act false is in
    ap (λ l. (past_of sc site l).moves) mine ∙ sym (append-nil (moves_of sc before site))
    ∙ ap (λ l. moves_of sc before site ++ l) (sym acts)

after : (sc : Scenario) (site : ℕ) (before rest : List Entry) →
    moves_of sc (before ++ rest) site ≡ moves_of sc before site ++ moves_at site (trail_after sc before rest)
after sc site before [] = ap (λ l. moves_of sc l site) (append-nil before) ∙ sym (append-nil (moves_of sc before site))
after sc site before (e ∷ rest) =
    ap (λ l. moves_of sc l site) (sym (append_assoc before (e ∷ []) rest))
    ∙ after sc site (before ++ e ∷ []) rest
    ∙ ap (λ l. l ++ moves_at site (trail_after sc (before ++ e ∷ []) rest)) (step_moves sc site before e (e.owner == site) refl)
    ∙ append_assoc (moves_of sc before site) (moves_at site (made_by sc before e.act e.owner)) (moves_at site (trail_after sc (before ++ e ∷ []) rest))
    ∙ ap (λ l. moves_of sc before site ++ l) (sym (filter-append _ (made_by sc before e.act e.owner) (trail_after sc (before ++ e ∷ []) rest)))

-- the moves of a site in the trail are those of its own entries; so its log in the trail is its log
pub trail_moves : (sc : Scenario) (site : ℕ) (h : List Entry) → moves_at site (trail_of sc h) ≡ moves_of sc h site
trail_moves sc site h = sym (after sc site [] h)
