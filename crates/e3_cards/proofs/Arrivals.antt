-- The operations of a transaction that came to a site, behind one more step.
use Rattle.std.specs.Prelude.{◌≡◌, ◌==◌, ◌&&◌, ◌||◌, ◌++◌, ◌∷◌, [], if◌then◌else◌, ℕ, suc, Bool, true, false, not, List, length, filter, Option, Some, None}
use Rattle.std.specs.List.{list_any}
use Rattle.std.proofs.Common.{refl, ap, sym, subst, ◌∙◌, arith}
use Rattle.std.proofs.lemmas.Grind.{common_steps}
use Rattle.std.proofs.lemmas.List.Elements.{filter-append}
use Rattle.e3_types.specs.declared.entries.Input.{Input}
use Rattle.e3_types.specs.declared.records.Record.{Record}
use Rattle.e3_types.specs.declared.transactions.Op.{Op}
use Rattle.e3_types.specs.declared.transactions.State.{State}
use Rattle.e3_types.specs.declared.transactions.State.TheVariants.{Q}
use Rattle.e3_types.specs.declared.transactions.Txn.{Txn}
use Rattle.e3_types.specs.declared.entries.Input.TheVariants as input
use Rattle.e3_types.specs.Same.{same_txn, same_state}
use Rattle.e3_world.specs.declared.lives.Asked.{Asked}
use Rattle.e3_world.specs.declared.lives.Moment.{Moment}
use Rattle.e3_world.specs.Logs.{key_of, state_of}
use Rattle.e3_world.specs.Operations.{is_refusal, issued, taken_up, arrivals, and_arrived, same_asked, is_fresh}
pub use Rattle.e3_readings.proofs.Arriving.{arrivals_push}
pub use Rattle.e3_readings.proofs.Equal.{same_txn_refl, same_txn_eq}
use Rattle.e3_readings.proofs.States.{state_is}
use Rattle.e3_cards.specs.Seeing.{seen_of, seen_state}
use Rattle.e3_cards.specs.Arriving.{came_of, came_by, mine, taken_of}
use Rattle.e3_readings.specs.Bringing.{brought, issued_before}
use Rattle.e3_readings.proofs.Bringing.{taken_is}

-- the state that was seen is the log's
pub state_seen : (t : Txn) (log : List Record) → seen_state (seen_of t log) ≡ state_of t log
state_seen t log = sym (state_is t log)

-- an operation is among all where it is among its transaction's
pub among_own : (t : Txn) (a : Asked) (asked : List Asked) → same_txn t a.txn ≡ true → list_any (same_asked a) asked ≡ list_any (same_asked a) (filter (λ b. same_txn t b.txn) asked)
among_own t a [] e = refl
among_own t a (b ∷ bs) e = by (among_own t a bs e) (same_txn t b.txn) refl
  where
    by : list_any (same_asked a) bs ≡ list_any (same_asked a) (filter (λ b. same_txn t b.txn) bs) → (c : Bool) → same_txn t b.txn ≡ c
        → list_any (same_asked a) (b ∷ bs) ≡ list_any (same_asked a) (filter (λ b. same_txn t b.txn) (b ∷ bs))
    by ih true is = rw is (ap (λ x. same_asked a b || x) ih)
    by ih false is =
        let other : same_txn a.txn b.txn ≡ false = subst (λ (u : Txn). same_txn u b.txn ≡ false) (same_txn_eq t a.txn e) is in
        rw is (grind (arith, common_steps, other, ih))

-- of the arrivals behind a step those of the transaction
came_mine : (t : Txn) (asked : List Asked) (m : Moment) (o : Option Asked)
    → filter (λ b. same_txn t b.txn) (and_arrived asked m o) ≡ came_by (seen_of t m.before) (filter (λ b. same_txn t b.txn) asked) (mine t o)
came_mine t asked m None = refl
came_mine t asked m (Some a) = by (same_txn t a.txn) refl
  where
    own : Asked → Bool
    own b = same_txn t b.txn

    by : (c : Bool) → same_txn t a.txn ≡ c → filter (λ b. same_txn t b.txn) (and_arrived asked m (Some a)) ≡ came_by (seen_of t m.before) (filter (λ b. same_txn t b.txn) asked) (mine t (Some a))
    by false is = rw is (pick (is_fresh asked m a))
      where
        pick : (f : Bool) → filter (λ b. same_txn t b.txn) (if f then asked ++ a ∷ [] else asked) ≡ filter (λ b. same_txn t b.txn) asked
        pick true = grind (arith, common_steps, filter-append, is)
        pick false = refl
    by true is =
        let state : state_of a.txn m.before ≡ seen_state (seen_of t m.before) =
        ap (λ (u : Txn). state_of u m.before) (sym (same_txn_eq t a.txn is)) ∙ sym (state_seen t m.before) in
        let fresh : is_fresh asked m a ≡ (same_state (seen_state (seen_of t m.before)) Q && not (list_any (same_asked a) (filter (λ b. same_txn t b.txn) asked))) =
        ap (λ (s : State). same_state s Q && not (list_any (same_asked a) asked)) state
        ∙ ap (λ (b : Bool). same_state (seen_state (seen_of t m.before)) Q && not b) (among_own t a asked is) in
        rw is (rw fresh (pick (same_state (seen_state (seen_of t m.before)) Q && not (list_any (same_asked a) (filter (λ b. same_txn t b.txn) asked)))))
      where
        pick : (f : Bool) → filter (λ b. same_txn t b.txn) (if f then asked ++ a ∷ [] else asked) ≡ (if f then filter (λ b. same_txn t b.txn) asked ++ a ∷ [] else filter (λ b. same_txn t b.txn) asked)
        pick true = grind (arith, common_steps, filter-append, is)
        pick false = refl

-- what a step takes up of the transaction: of another one the number is nothing to it
pub taken_mine : (site : ℕ) (t : Txn) (steps : List Moment) (m : Moment) → mine t (taken_up site steps m) ≡ taken_of site t (length (issued t steps)) m.input m.told
taken_mine site t steps m = ap (mine t) (taken_is site steps m) ∙ by m.input
  where
    other : (u : Txn) (op : Op) (n k : ℕ) (x : Bool) → same_txn t u ≡ false
        → mine t (if x then Some (record { txn = u; n = suc n; op = op }) else None) ≡ mine t (if x then Some (record { txn = u; n = suc k; op = op }) else None)
    other u op n k true e = rw e refl
    other u op n k false e = refl

    told_by : (u : Txn) (op : Op) (c : Bool) → same_txn t u ≡ c
        → mine t (brought site (length (issued u steps)) (input.Do u op) m.told) ≡ mine t (brought site (length (issued t steps)) (input.Do u op) m.told)
    told_by u op true e = ap (λ (v : Txn). mine t (brought site (length (issued v steps)) (input.Do u op) m.told)) (sym (same_txn_eq t u e))
    told_by u op false e = other u op (length (issued u steps)) (length (issued t steps)) (not (list_any is_refusal m.told) && (key_of op).site == site) e

    by : (i : Input) → mine t (brought site (issued_before i steps) i m.told) ≡ mine t (brought site (length (issued t steps)) i m.told)
    by (input.Do u op) = told_by u op (same_txn t u) refl
    by _ = refl

-- the operations of the transaction that came, behind one more moment
pub came_push : (site : ℕ) (t : Txn) (steps : List Moment) (m : Moment)
    → came_of site t (steps ++ m ∷ []) ≡ came_by (seen_of t m.before) (came_of site t steps) (taken_of site t (length (issued t steps)) m.input m.told)
came_push site t steps m =
    ap (filter (λ a. same_txn t a.txn)) (arrivals_push site steps m)
    ∙ came_mine t (arrivals site steps) m (taken_up site steps m)
    ∙ ap (came_by (seen_of t m.before) (came_of site t steps)) (taken_mine site t steps m)
