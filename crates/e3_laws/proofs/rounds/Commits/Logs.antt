-- What a log says of the transaction, one record more at a time.
use Rattle.std.proofs.Common.{◌≡◌, ◌⊎◌, ◌||◌, ◌∷◌, ◌++◌, [], ℕ, Bool, true, false, List, Option, Some, None, refl, ap, sym, ◌∙◌, append-nil, fold, inl, inr, if◌then◌else◌}
use Rattle.std.proofs.lemmas.Grind.{fold-append}
use Rattle.std.proofs.lemmas.List.Folds.{list_any-append}
use Rattle.e3_types.specs.declared.records.Record.{Record}
use Rattle.e3_types.specs.declared.records.Record.TheVariants as log
use Rattle.e3_types.specs.declared.transactions.Dir.{Dir}
use Rattle.e3_types.specs.declared.transactions.Dir.TheVariants.{Abort, Commit}
use Rattle.e3_types.specs.declared.transactions.NumOp.{NumOp}
use Rattle.e3_types.specs.declared.transactions.State.TheVariants.{Q, W, Pc, Pa, C, A}
use Rattle.e3_types.specs.declared.transactions.Txn.{Txn}
use Rattle.e3_types.specs.Same.{same_txn}
use Rattle.e3_world.specs.Logs.{attempted, attempted_by, decision, decision_by, has_voted, is_vote, last_attempt, last_attempt_by, last_elected, last_elected_by, state_of}
use Rattle.e3_laws.proofs.steps.Tests.{or_false, same_self}

-- the decision, the direction of the last attempt, and whether the site voted; it joined no election
pub record Says (t : Txn) (l : List Record) (d a : Option Dir) (v : Bool) : Type 0 where
  pub decided : decision t l ≡ d
  pub tried : attempted t l ≡ a
  pub voted : has_voted t l ≡ v
  pub joined : last_elected t l ≡ 1

pub says_on : (t : Txn) (l : List Record) (d a : Option Dir) (v : Bool) (r : Record) → last_elected_by t 1 r ≡ 1 → Says t l d a v →
    Says t (l ++ r ∷ []) (decision_by t d r) (attempted_by t a r) (v || is_vote t r)
says_on t l d a v r none says = record {
  decided = fold-append (decision_by t) None l (r ∷ []) ∙ ap (λ x. decision_by t x r) says.decided;
  tried = fold-append (attempted_by t) None l (r ∷ []) ∙ ap (λ x. attempted_by t x r) says.tried;
  voted = list_any-append (is_vote t) l (r ∷ []) ∙ ap (λ b. b || (is_vote t r || false)) says.voted ∙ ap (λ b. v || b) (or_false (is_vote t r));
  joined = fold-append (last_elected_by t) 1 l (r ∷ []) ∙ ap (λ n. last_elected_by t n r) says.joined ∙ none;
}

-- a vote, an attempt, a decision
pub says_voted : (t : Txn) (l : List Record) (ops : List NumOp) (d a : Option Dir) (v : Bool) → Says t l d a v → Says t (l ++ log.Vote t ops ∷ []) d a true
says_voted t l ops d a v says = let more = says_on t l d a v (log.Vote t ops) refl says in record {
  decided = more.decided;
  tried = more.tried;
  voted = more.voted ∙ rw (same_self t) (any_true v);
  joined = more.joined;
}
  where
    any_true : (b : Bool) → (b || true) ≡ true
    any_true true = refl
    any_true false = refl

pub says_tried : (t : Txn) (l : List Record) (n : ℕ) (dir : Dir) (d a : Option Dir) (v : Bool) → Says t l d a v → Says t (l ++ log.Attempt t n dir ∷ []) d (Some dir) v
says_tried t l n dir d a v says = let more = says_on t l d a v (log.Attempt t n dir) refl says in record {
  decided = more.decided;
  tried = more.tried ∙ rw (same_self t) refl;
  voted = more.voted ∙ or_false v;
  joined = more.joined;
}

pub decided_on : (t : Txn) (l : List Record) (dir : Dir) → decision t (l ++ log.Decision t dir ∷ []) ≡ Some dir
decided_on t l dir = fold-append (decision_by t) None l (log.Decision t dir ∷ []) ∙ rw (same_self t) refl

-- records of another transaction: none, or a decision
abbrev pub OfOther : Txn → List Record → Type 0
OfOther t rs = (rs ≡ []) ⊎ ((u : Txn) × (dir : Dir) × (same_txn t u ≡ false) × (rs ≡ log.Decision u dir ∷ []))

pub says_still : (t : Txn) (l rs : List Record) (d a : Option Dir) (v : Bool) → OfOther t rs → Says t l d a v → Says t (l ++ rs) d a v
says_still t l rs d a v (inl none) says = let same : l ++ rs ≡ l = ap (λ r. l ++ r) none ∙ append-nil l in record {
  decided = ap (decision t) same ∙ says.decided;
  tried = ap (attempted t) same ∙ says.tried;
  voted = ap (has_voted t) same ∙ says.voted;
  joined = ap (last_elected t) same ∙ says.joined;
}
says_still t l rs d a v (inr (u, dir, other, is)) says =
    let more = says_on t l d a v (log.Decision u dir) refl says in
    let same : l ++ rs ≡ l ++ log.Decision u dir ∷ [] = ap (λ r. l ++ r) is in record {
      decided = ap (decision t) same ∙ more.decided ∙ rw other refl;
      tried = ap (attempted t) same ∙ more.tried;
      voted = ap (has_voted t) same ∙ more.voted ∙ or_false v;
      joined = ap (last_elected t) same ∙ more.joined;
    }

pub decided_still : (t : Txn) (l rs : List Record) (d : Option Dir) → OfOther t rs → decision t l ≡ d → decision t (l ++ rs) ≡ d
decided_still t l rs d (inl none) is = ap (decision t) (ap (λ r. l ++ r) none ∙ append-nil l) ∙ is
decided_still t l rs d (inr (u, dir, other, same)) is = ap (λ r. decision t (l ++ r)) same ∙ fold-append (decision_by t) None l (log.Decision u dir ∷ []) ∙ rw other is

pub attempt_still : (t : Txn) (l rs : List Record) (n : ℕ) → OfOther t rs → last_attempt t l ≡ n → last_attempt t (l ++ rs) ≡ n
attempt_still t l rs n (inl none) is = ap (last_attempt t) (ap (λ r. l ++ r) none ∙ append-nil l) ∙ is
attempt_still t l rs n (inr (u, dir, other, same)) is = ap (λ r. last_attempt t (l ++ r)) same ∙ fold-append (last_attempt_by t) 0 l (log.Decision u dir ∷ []) ∙ is

-- states
pub is_q : (t : Txn) (l : List Record) → Says t l None None false → state_of t l ≡ Q
is_q t l says = rw (says.decided, says.tried, says.voted) refl

pub is_w : (t : Txn) (l : List Record) → Says t l None None true → state_of t l ≡ W
is_w t l says = rw (says.decided, says.tried, says.voted) refl

pub is_pc : (t : Txn) (l : List Record) → Says t l None (Some Commit) true → state_of t l ≡ Pc
is_pc t l says = rw (says.decided, says.tried) refl

pub is_pa : (t : Txn) (l : List Record) → Says t l None (Some Abort) true → state_of t l ≡ Pa
is_pa t l says = rw (says.decided, says.tried) refl

pub is_c : (t : Txn) (l : List Record) → decision t l ≡ Some Commit → state_of t l ≡ C
is_c t l is = rw is refl

-- in q nothing was decided, attempted or voted
pub from_q : (t : Txn) (l : List Record) → state_of t l ≡ Q → last_elected t l ≡ 1 → Says t l None None false
from_q t l is joined = by (decision t l) (attempted t l) (has_voted t l) refl refl refl
  where
    by : (d a : Option Dir) (v : Bool) → decision t l ≡ d → attempted t l ≡ a → has_voted t l ≡ v → Says t l None None false
    by None None false x y z = record { decided = x; tried = y; voted = z; joined = joined }
    by None None true x y z = absurd (let w : state_of t l ≡ W = rw (x, y, z) refl in let clash : W ≡ Q = sym w ∙ is in cc)
    by None (Some Commit) v x y z = absurd (let w : state_of t l ≡ Pc = rw (x, y) refl in let clash : Pc ≡ Q = sym w ∙ is in cc)
    by None (Some Abort) v x y z = absurd (let w : state_of t l ≡ Pa = rw (x, y) refl in let clash : Pa ≡ Q = sym w ∙ is in cc)
    by (Some Commit) a v x y z = absurd (let w : state_of t l ≡ C = rw x refl in let clash : C ≡ Q = sym w ∙ is in cc)
    by (Some Abort) a v x y z = absurd (let w : state_of t l ≡ A = rw x refl in let clash : A ≡ Q = sym w ∙ is in cc)

-- where no direction was attempted the last attempt is 0
some_stays : (t : Txn) (d : Dir) (rs : List Record) → fold (attempted_by t) (Some d) rs ≡ None → ⊥
some_stays t d [] is = cc
some_stays t d (log.Attempt u n dir ∷ rs) is = by (λ x more. some_stays t x rs more) (same_txn t u) refl
  where
    by : ((x : Dir) → fold (attempted_by t) (Some x) rs ≡ None → ⊥) → (b : Bool) → same_txn t u ≡ b → ⊥
    by again true same = again dir (ap (λ b. fold (attempted_by t) (if b then Some dir else Some d) rs) (sym same) ∙ is)
    by again false same = again d (ap (λ b. fold (attempted_by t) (if b then Some dir else Some d) rs) (sym same) ∙ is)
some_stays t d (log.Birth format site weights born ∷ rs) is = some_stays t d rs is
some_stays t d (log.Inc n ∷ rs) is = some_stays t d rs is
some_stays t d (log.Vote u ops ∷ rs) is = some_stays t d rs is
some_stays t d (log.Join u n ∷ rs) is = some_stays t d rs is
some_stays t d (log.Decision u dir ∷ rs) is = some_stays t d rs is

pub none_attempted : (t : Txn) (rs : List Record) (m : ℕ) → fold (attempted_by t) None rs ≡ None → fold (last_attempt_by t) m rs ≡ m
none_attempted t [] m is = refl
none_attempted t (log.Attempt u n dir ∷ rs) m is = by (λ same. none_attempted t rs m same) (same_txn t u) refl
  where
    by : (fold (attempted_by t) None rs ≡ None → fold (last_attempt_by t) m rs ≡ m) → (b : Bool) → same_txn t u ≡ b → fold (last_attempt_by t) m (log.Attempt u n dir ∷ rs) ≡ m
    by more true same = absurd (some_stays t dir rs (ap (λ b. fold (attempted_by t) (if b then Some dir else None) rs) (sym same) ∙ is))
    by more false same = rw same (more (ap (λ b. fold (attempted_by t) (if b then Some dir else None) rs) (sym same) ∙ is))
none_attempted t (log.Birth format site weights born ∷ rs) m is = none_attempted t rs m is
none_attempted t (log.Inc n ∷ rs) m is = none_attempted t rs m is
none_attempted t (log.Vote u ops ∷ rs) m is = none_attempted t rs m is
none_attempted t (log.Join u n ∷ rs) m is = none_attempted t rs m is
none_attempted t (log.Decision u dir ∷ rs) m is = none_attempted t rs m is
