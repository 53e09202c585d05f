-- What a log has of a transaction, the transaction's own records have.
use Rattle.std.proofs.Common.{◌≡◌, ◌∷◌, [], ◌++◌, ◌||◌, ℕ, Bool, true, false, cond, List, Option, None, refl, sym, ap, ◌∙◌, fold, filter, append-nil}
use Rattle.std.specs.List.{flat_map, list_any, AllByRecursion as Each}
use Rattle.std.proofs.lemmas.Bool.{or_parts, true≢false}
use Rattle.std.proofs.lemmas.List.Elements.{filter-append}
use Rattle.e3_types.specs.declared.records.Record.{Record}
use Rattle.e3_types.specs.declared.records.Record.TheVariants as log
use Rattle.e3_types.specs.declared.transactions.Dir.{Dir}
use Rattle.e3_types.specs.declared.transactions.Txn.{Txn}
use Rattle.e3_types.specs.Same.{same_txn}
use Rattle.e3_world.specs.Items.{txn_of_record}
use Rattle.e3_world.specs.Logs.{last_elected_by, last_elected, last_attempt_by, last_attempt, attempted_by, attempted, decision_by, decision, is_vote, has_voted, ops_of_vote, voted_ops}
use Rattle.e3_laws.proofs.brief.Lists.{all_pass, none_pass}
use Rattle.e3_laws.proofs.steps.Ascending.{Ascends, off_later}
use Rattle.e3_laws.proofs.steps.Tests.{same_is}

-- the record is of this transaction
abbrev pub is_of : Txn → Record → Bool
is_of t (log.Vote u ops) = same_txn t u
is_of t (log.Join u n) = same_txn t u
is_of t (log.Attempt u n dir) = same_txn t u
is_of t (log.Decision u dir) = same_txn t u
is_of t _ = false

-- its own records
abbrev pub own_of : Txn → List Record → List Record
own_of t l = filter (is_of t) l

fold_of : {A : Type 0} (t : Txn) (f : A → Record → A) → ((r : Record) (a : A) → is_of t r ≡ false → f a r ≡ a) → (l : List Record) (a : A) → fold f a l ≡ fold f a (own_of t l)
fold_of t f leaves [] a = refl
fold_of t f leaves (r ∷ rs) a = by (λ b. fold_of t f leaves rs b) (is_of t r) refl
  where
    by : ((b : _) → fold f b rs ≡ fold f b (own_of t rs)) → (c : Bool) → is_of t r ≡ c → fold f a (r ∷ rs) ≡ fold f a (own_of t (r ∷ rs))
    by more true is = rw is (more (f a r))
    by more false is = rw is (ap (λ b. fold f b rs) (leaves r a is) ∙ more a)

any_of : (t : Txn) (p : Record → Bool) → ((r : Record) → is_of t r ≡ false → p r ≡ false) → (l : List Record) → list_any p l ≡ list_any p (own_of t l)
any_of t p leaves [] = refl
any_of t p leaves (r ∷ rs) = by (any_of t p leaves rs) (is_of t r) refl
  where
    by : list_any p rs ≡ list_any p (own_of t rs) → (c : Bool) → is_of t r ≡ c → list_any p (r ∷ rs) ≡ list_any p (own_of t (r ∷ rs))
    by more true is = rw is (ap (λ b. p r || b) more)
    by more false is = rw is (ap (λ b. b || list_any p rs) (leaves r is) ∙ more)

flat_of : {A : Type 0} (t : Txn) (f : Record → List A) → ((r : Record) → is_of t r ≡ false → f r ≡ []) → (l : List Record) → flat_map f l ≡ flat_map f (own_of t l)
flat_of t f leaves [] = refl
flat_of t f leaves (r ∷ rs) = by (flat_of t f leaves rs) (is_of t r) refl
  where
    by : flat_map f rs ≡ flat_map f (own_of t rs) → (c : Bool) → is_of t r ≡ c → flat_map f (r ∷ rs) ≡ flat_map f (own_of t (r ∷ rs))
    by more true is = rw is (ap (λ b. f r ++ b) more)
    by more false is = rw is (ap (λ b. b ++ flat_map f rs) (leaves r is) ∙ more)

pub elected_leaves : (t : Txn) (r : Record) (n : ℕ) → is_of t r ≡ false → last_elected_by t n r ≡ n
elected_leaves t (log.Join u m) n is = rw is refl
elected_leaves t (log.Birth format site weights rows) n is = refl
elected_leaves t (log.Inc m) n is = refl
elected_leaves t (log.Vote u ops) n is = refl
elected_leaves t (log.Attempt u m dir) n is = refl
elected_leaves t (log.Decision u dir) n is = refl

pub attempt_leaves : (t : Txn) (r : Record) (n : ℕ) → is_of t r ≡ false → last_attempt_by t n r ≡ n
attempt_leaves t (log.Attempt u m dir) n is = rw is refl
attempt_leaves t (log.Birth format site weights rows) n is = refl
attempt_leaves t (log.Inc m) n is = refl
attempt_leaves t (log.Vote u ops) n is = refl
attempt_leaves t (log.Join u m) n is = refl
attempt_leaves t (log.Decision u dir) n is = refl

pub attempted_leaves : (t : Txn) (r : Record) (was : Option Dir) → is_of t r ≡ false → attempted_by t was r ≡ was
attempted_leaves t (log.Attempt u m dir) was is = rw is refl
attempted_leaves t (log.Birth format site weights rows) was is = refl
attempted_leaves t (log.Inc m) was is = refl
attempted_leaves t (log.Vote u ops) was is = refl
attempted_leaves t (log.Join u m) was is = refl
attempted_leaves t (log.Decision u dir) was is = refl

pub decision_leaves : (t : Txn) (r : Record) (was : Option Dir) → is_of t r ≡ false → decision_by t was r ≡ was
decision_leaves t (log.Decision u dir) was is = rw is refl
decision_leaves t (log.Birth format site weights rows) was is = refl
decision_leaves t (log.Inc m) was is = refl
decision_leaves t (log.Vote u ops) was is = refl
decision_leaves t (log.Join u m) was is = refl
decision_leaves t (log.Attempt u m dir) was is = refl

pub vote_leaves : (t : Txn) (r : Record) → is_of t r ≡ false → is_vote t r ≡ false
vote_leaves t (log.Vote u ops) is = is
vote_leaves t (log.Birth format site weights rows) is = refl
vote_leaves t (log.Inc m) is = refl
vote_leaves t (log.Join u m) is = refl
vote_leaves t (log.Attempt u m dir) is = refl
vote_leaves t (log.Decision u dir) is = refl

pub ops_leaves : (t : Txn) (r : Record) → is_of t r ≡ false → ops_of_vote t r ≡ []
ops_leaves t (log.Vote u ops) is = rw is refl
ops_leaves t (log.Birth format site weights rows) is = refl
ops_leaves t (log.Inc m) is = refl
ops_leaves t (log.Join u m) is = refl
ops_leaves t (log.Attempt u m dir) is = refl
ops_leaves t (log.Decision u dir) is = refl

-- a log in which the transaction has these records of its own says this of it
pub elected_from : (t : Txn) (l own : List Record) → own_of t l ≡ own → last_elected t l ≡ last_elected t own
elected_from t l own is = fold_of t (last_elected_by t) (elected_leaves t) l 1 ∙ ap (λ x. last_elected t x) is

pub attempt_from : (t : Txn) (l own : List Record) → own_of t l ≡ own → last_attempt t l ≡ last_attempt t own
attempt_from t l own is = fold_of t (last_attempt_by t) (attempt_leaves t) l 0 ∙ ap (λ x. last_attempt t x) is

pub attempted_from : (t : Txn) (l own : List Record) → own_of t l ≡ own → attempted t l ≡ attempted t own
attempted_from t l own is = fold_of t (attempted_by t) (attempted_leaves t) l None ∙ ap (λ x. attempted t x) is

pub decision_from : (t : Txn) (l own : List Record) → own_of t l ≡ own → decision t l ≡ decision t own
decision_from t l own is = fold_of t (decision_by t) (decision_leaves t) l None ∙ ap (λ x. decision t x) is

pub voted_from : (t : Txn) (l own : List Record) → own_of t l ≡ own → has_voted t l ≡ has_voted t own
voted_from t l own is = any_of t (is_vote t) (vote_leaves t) l ∙ ap (λ x. has_voted t x) is

pub ops_from : (t : Txn) (l own : List Record) → own_of t l ≡ own → voted_ops t l ≡ voted_ops t own
ops_from t l own is = flat_of t (ops_of_vote t) (ops_leaves t) l ∙ ap (λ x. voted_ops t x) is

-- a transaction that no record is of
pub none_of : (t : Txn) (l : List Record) → list_any (same_txn t) (flat_map txn_of_record l) ≡ false → own_of t l ≡ []
none_of t [] off = refl
none_of t (log.Birth format site weights rows ∷ rs) off = none_of t rs off
none_of t (log.Inc m ∷ rs) off = none_of t rs off
none_of t (log.Vote u ops ∷ rs) off = let p = or_parts (same_txn t u) (list_any (same_txn t) (flat_map txn_of_record rs)) off in rw p.0 (none_of t rs p.1)
none_of t (log.Join u m ∷ rs) off = let p = or_parts (same_txn t u) (list_any (same_txn t) (flat_map txn_of_record rs)) off in rw p.0 (none_of t rs p.1)
none_of t (log.Attempt u m dir ∷ rs) off = let p = or_parts (same_txn t u) (list_any (same_txn t) (flat_map txn_of_record rs)) off in rw p.0 (none_of t rs p.1)
none_of t (log.Decision u dir ∷ rs) off = let p = or_parts (same_txn t u) (list_any (same_txn t) (flat_map txn_of_record rs)) off in rw p.0 (none_of t rs p.1)

-- of blocks of transactions that ascend, a transaction's own records are its block
pub own_of_blocks : (f : Txn → List Record) (t : Txn) → ((b : Bool) (u : Txn) → same_txn t u ≡ b → Each (λ r. is_of t r ≡ b) (f u)) → (ts : List Txn) → Ascends ts
    → (b : Bool) → list_any (same_txn t) ts ≡ b → own_of t (flat_map f ts) ≡ (cond b (f t) [])
own_of_blocks f t of [] up true is = absurd cc
own_of_blocks f t of [] up false is = refl
own_of_blocks f t of (u ∷ us) up b is = filter-append (is_of t) (f u) (flat_map f us) ∙ by (λ c e. own_of_blocks f t of us up.1 c e) (same_txn t u) refl b is
  where
    by : ((c : Bool) → list_any (same_txn t) us ≡ c → own_of t (flat_map f us) ≡ cond c (f t) [])
        → (c : Bool) → same_txn t u ≡ c → (b : Bool) → list_any (same_txn t) (u ∷ us) ≡ b → own_of t (f u) ++ own_of t (flat_map f us) ≡ cond b (f t) []
    by more true same true any =
        let first : own_of t (f u) ≡ f t = all_pass (is_of t) (f u) (of true u same) ∙ ap f (sym (same_is t u same)) in
        let rest : own_of t (flat_map f us) ≡ [] = more false (off_later t u us (same_is t u same) up.0) in
        (λ i. first i ++ rest i) ∙ append-nil (f t)
    by more true same false any = absurd (true≢false (sym same ∙ (or_parts (same_txn t u) (list_any (same_txn t) us) any).0))
    by more false same b any =
        let first : own_of t (f u) ≡ [] = none_pass (is_of t) (f u) (of false u same) in
        let among : list_any (same_txn t) us ≡ b = ap (λ c. c || list_any (same_txn t) us) (sym same) ∙ any in
        (λ i. first i ++ more b among i)
