-- The sites that are missing, where the definitions keep those whose yes came.
use Rattle.std.specs.Prelude.{◌≡◌, ◌+◌, ◌<◌, ◌++◌, ◌∷◌, ◌&&◌, [], ℕ, Bool, true, false, not, List, Option, Some, None, option_map, fold, length, take}
use Rattle.std.specs.List.{list_any}
use Rattle.std.proofs.Common.{refl, ap, sym, ◌∙◌, get_or}
use Rattle.std.proofs.lemmas.List.{take_more}
use Rattle.std.proofs.lemmas.List.Sums.{fold-append}
use Rattle.e3_types.specs.declared.entries.Input.{Input}
use Rattle.e3_types.specs.declared.entries.Input.TheVariants as input
use Rattle.e3_types.specs.declared.entries.Told.{Told}
use Rattle.e3_types.specs.declared.messages.Message.{Message}
use Rattle.e3_types.specs.declared.messages.Message.TheVariants as msg
use Rattle.e3_types.specs.declared.messages.Packet.{Packet}
use Rattle.e3_types.specs.declared.transactions.Txn.{Txn}
use Rattle.e3_types.specs.Same.{same_txn}
use Rattle.e3_types.specs.Sets.{others}
use Rattle.e3_world.specs.declared.lives.Moment.{Moment}
use Rattle.e3_world.specs.Operations.{is_refusal}
use Rattle.e3_world.specs.Votes.{yes_by}
use Rattle.e3_commit.specs.Missing.{missing}
use Rattle.e3_commit.proofs.Gathering.{missing_none, one_less, within_missing}
use Rattle.e3_readings.specs.Gathering.{are_complete, have_come, missing_yes, votes_by}

-- one more that came
with_one : (all : List ℕ) (f : ℕ) (o : Option (List ℕ)) → option_map (missing all) (option_map (λ sites. sites ++ f ∷ []) o) ≡ option_map (others f) (option_map (missing all) o)
with_one all f None = refl
with_one all f (Some came) = ap (λ (l : List ℕ). Some l) (sym (one_less all came f))

-- those that are missing behind one more step are told by those that were missing
pub votes_step : (site : ℕ) (t : Txn) (o : Option (List ℕ)) (m : Moment) → missing_yes site t (yes_by t o m) ≡ votes_by site t (missing_yes site t o) m.input m.told
votes_step site t o m = by m.input
  where
    vote : (packet : Packet) (u : Txn) (b : Bool) → same_txn t u ≡ b
        → missing_yes site t (yes_by t o (record m { input = input.Deliver (record packet { msg = msg.Vote u true }) }))
        ≡ votes_by site t (missing_yes site t o) (input.Deliver (record packet { msg = msg.Vote u true })) m.told
    vote packet u true e = rw e (with_one (others site t.sites) packet.«from» o)
    vote packet u false e = rw e refl

    commit : (u : Txn) (b : Bool) → (same_txn t u && not (list_any is_refusal m.told)) ≡ b
        → missing_yes site t (yes_by t o (record m { input = input.Commit u })) ≡ votes_by site t (missing_yes site t o) (input.Commit u) m.told
    commit u true e = rw e (ap (λ (l : List ℕ). Some l) (sym (missing_none (others site t.sites))))
    commit u false e = rw e refl

    by_msg : (packet : Packet) (k : Message)
        → missing_yes site t (yes_by t o (record m { input = input.Deliver (record packet { msg = k }) }))
        ≡ votes_by site t (missing_yes site t o) (input.Deliver (record packet { msg = k })) m.told
    by_msg packet (msg.Vote u true) = vote packet u (same_txn t u) refl
    by_msg packet (msg.Vote u false) = refl
    by_msg packet _ = refl

    by : (i : Input) → missing_yes site t (yes_by t o (record m { input = i })) ≡ votes_by site t (missing_yes site t o) i m.told
    by (input.Commit u) = commit u (same_txn t u && not (list_any is_refusal m.told)) refl
    by (input.Deliver packet) = by_msg packet packet.msg
    by _ = refl

-- so they are behind one more of some steps
pub votes_more : (site : ℕ) (t : Txn) (steps : List Moment) (i : ℕ) (m : Moment) (was next : Option (List ℕ)) (events : List Told) → i < length steps → m ≡ get_or steps i m
    → was ≡ missing_yes site t (fold (yes_by t) None (take i steps)) → events ≡ m.told → next ≡ votes_by site t was m.input events
    → next ≡ missing_yes site t (fold (yes_by t) None (take (i + 1) steps))
votes_more site t steps i m was next events low is before same after =
    let none : Option (List ℕ) = None in
    let more : take (i + 1) steps ≡ take i steps ++ m ∷ [] = take_more steps i m low ∙ ap (λ (x : Moment). take i steps ++ x ∷ []) (sym is) in
    after ∙ ap (λ (l : List Told). votes_by site t was m.input l) same
    ∙ ap (λ (o : Option (List ℕ)). votes_by site t o m.input m.told) before
    ∙ sym (votes_step site t (fold (yes_by t) none (take i steps)) m)
    ∙ ap (missing_yes site t) (sym (fold-append (yes_by t) none (take i steps) (m ∷ [])))
    ∙ ap (λ (l : List Moment). missing_yes site t (fold (yes_by t) none l)) (sym more)

-- none is missing where all came
pub all_came : (all : List ℕ) (o : Option (List ℕ)) → are_complete (option_map (missing all) o) ≡ have_come all o
all_came all None = refl
all_came all (Some came) = sym (within_missing all came)
