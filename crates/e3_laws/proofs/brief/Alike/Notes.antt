-- What two logs say of each transaction is the same behind more records too, whatever these are.
use Rattle.std.proofs.Common.{◌≡◌, ◌++◌, ◌||◌, true, List, None, is_none, sym, ap, ◌∙◌, fold}
use Rattle.std.specs.List.{flat_map, list_any}
use Rattle.std.proofs.lemmas.Grind.{fold-append, flat_map-append}
use Rattle.std.proofs.lemmas.List.Folds.{list_any-append}
use Rattle.e3_types.specs.declared.records.Record.{Record}
use Rattle.e3_types.specs.declared.transactions.NumOp.{NumOp}
use Rattle.e3_types.specs.declared.transactions.Txn.{Txn}
use Rattle.e3_world.specs.Logs.{last_elected_by, last_elected, last_attempt_by, last_attempt, attempted_by, attempted, decision_by, decision, is_vote, has_voted, is_undecided, ops_of_vote, state_of, voted_ops}
use Rattle.e3_laws.specs.brief.Alike.{ReadAlike}
use Rattle.e3_laws.proofs.brief.Locks.{state_alike}
use Rattle.e3_laws.proofs.steps.Undecided.{open_before}

-- the same counters, attempt, decision and vote of each transaction, and the same operations where it is undecided
pub record NotesAlike (a b : List Record) : Type 0 where
  pub elected : (t : Txn) → last_elected t a ≡ last_elected t b
  pub attempt : (t : Txn) → last_attempt t a ≡ last_attempt t b
  pub attempted : (t : Txn) → attempted t a ≡ attempted t b
  pub decided : (t : Txn) → decision t a ≡ decision t b
  pub voted : (t : Txn) → has_voted t a ≡ has_voted t b
  pub ops : (t : Txn) → is_undecided t a ≡ true → voted_ops t a ≡ voted_ops t b

pub notes_of : (a b : List Record) → ReadAlike a b → NotesAlike a b
notes_of a b alike = record {
  elected = alike.elected;
  attempt = alike.attempt;
  attempted = alike.attempted;
  decided = alike.decided;
  voted = alike.voted;
  ops = alike.ops;
}

-- a fold that agrees on two lists agrees behind them
fold_both : {A B : Type 0} (f : B → A → B) (x : B) (a b more : List A) → fold f x a ≡ fold f x b → fold f x (a ++ more) ≡ fold f x (b ++ more)
fold_both f x a b more same = fold-append f x a more ∙ ap (λ y. fold f y more) same ∙ sym (fold-append f x b more)

pub notes_more : (a b more : List Record) → NotesAlike a b → NotesAlike (a ++ more) (b ++ more)
notes_more a b more s = record {
  elected = λ t. fold_both (last_elected_by t) 1 a b more (s.elected t);
  attempt = λ t. fold_both (last_attempt_by t) 0 a b more (s.attempt t);
  attempted = λ t. fold_both (attempted_by t) None a b more (s.attempted t);
  decided = λ t. fold_both (decision_by t) None a b more (s.decided t);
  voted = λ t. list_any-append (is_vote t) a more ∙ ap (λ x. x || list_any (is_vote t) more) (s.voted t) ∙ sym (list_any-append (is_vote t) b more);
  ops = λ t is. flat_map-append (ops_of_vote t) a more ∙ ap (λ (x : List NumOp). x ++ flat_map (ops_of_vote t) more) (s.ops t (open_before t a more is))
      ∙ sym (flat_map-append (ops_of_vote t) b more);
}

pub notes_open : (a b : List Record) → NotesAlike a b → (t : Txn) → is_undecided t a ≡ is_undecided t b
notes_open a b s t = ap is_none (s.decided t)

pub notes_back : (a b : List Record) → NotesAlike a b → NotesAlike b a
notes_back a b s = record {
  elected = λ t. sym (s.elected t);
  attempt = λ t. sym (s.attempt t);
  attempted = λ t. sym (s.attempted t);
  decided = λ t. sym (s.decided t);
  voted = λ t. sym (s.voted t);
  ops = λ t is. sym (s.ops t (notes_open a b s t ∙ is));
}

pub notes_state : (a b : List Record) → NotesAlike a b → (t : Txn) → state_of t a ≡ state_of t b
notes_state a b s t = state_alike t a b (s.decided t) (s.attempted t) (s.voted t)
