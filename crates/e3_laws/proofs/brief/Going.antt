-- Logs that read alike go on alike.
use Rattle.std.proofs.Common.{◌≡◌, ◌≤◌, ◌<◌, ◌∷◌, [], ◌++◌, ◌&&◌, ◌||◌, ℕ, suc, nat_le, Bool, true, false, List, Option, Some, None, is_none, refl, sym, ap, subst, ◌∙◌, fold, append-nil, append_assoc}
use Rattle.std.specs.List.{flat_map}
use Rattle.std.proofs.lemmas.Grind.{fold-append, flat_map-append}
use Rattle.e3_types.specs.declared.records.Record.{Record}
use Rattle.e3_types.specs.declared.records.Record.TheVariants as log
use Rattle.e3_types.specs.declared.transactions.Dir.{Dir}
use Rattle.e3_types.specs.declared.transactions.Dir.TheVariants.{Abort, Commit}
use Rattle.e3_types.specs.declared.transactions.Row.{Row}
use Rattle.e3_types.specs.declared.transactions.Txn.{Txn}
use Rattle.e3_world.specs.Items.{add_txn, txn_of_record}
use Rattle.e3_world.specs.Logs.{last_elected_by, last_attempt_by, attempted_by, decision_by, decision, install_op, is_undecided, is_vote, logged_inc_by, ops_of_vote, table_by, table_of}
use Rattle.e3_world.specs.Orderly.{is_among, is_free, is_known, weights_by, MayFollow, OrderlyAfter}
use Rattle.e3_laws.specs.brief.Alike.{ReadAlike}
use Rattle.e3_world.specs.Brief.{brief, born_by, born_in, inc_in, noted, open_ops, txns_of}
use Rattle.e3_laws.proofs.brief.Lists.{all_map, flat_alike, no_push}
use Rattle.e3_laws.proofs.brief.Locks.{free_alike, state_alike}
use Rattle.e3_laws.proofs.brief.Notes.{notes}
use Rattle.e3_laws.proofs.brief.Shape.{ops_push, voted_push}
use Rattle.e3_laws.proofs.brief.Tables.{table_push}
use Rattle.e3_laws.proofs.steps.Undecided.{stays}

-- the same records may follow
pub may_follow_alike : (site : ℕ) (a b : List Record) (r : Record) → ReadAlike a b → MayFollow site a r → MayFollow site b r
may_follow_alike site a b r alike may = by r may
  where
    known : (t : Txn) → is_known site a t ≡ true → is_known site b t ≡ true
    known t is = sym (λ i. nat_le 1 (alike.inc i) && is_among site (alike.weights i) t.sites) ∙ is

    open_too : (t : Txn) → is_undecided t a ≡ true → is_undecided t b ≡ true
    open_too t is = sym (ap is_none (alike.decided t)) ∙ is

    by : (x : Record) → MayFollow site a x → MayFollow site b x
    by (log.Birth format number weights rows) m = record {
      first = alike.empty m.first;
      one = m.one;
      of_site = m.of_site;
      known = m.known;
      few = m.few;
      weighed = m.weighed;
      ascending = m.ascending;
    }
    by (log.Inc n) m = record {
      born = λ none. m.born (alike.some none);
      first = λ none. m.first (alike.inc ∙ none);
      next = λ some. subst (λ (k : ℕ). n ≡ suc k) alike.inc (m.next (subst (λ (k : ℕ). 1 ≤ k) (sym alike.inc) some));
    }
    by (log.Vote t ops) m = record {
      known = known t m.known;
      fresh = sym (state_alike t a b (alike.decided t) (alike.attempted t) (alike.voted t)) ∙ m.fresh;
      not_joined = sym (alike.elected t) ∙ m.not_joined;
      ascending = m.ascending;
      few = m.few;
      free = all_map (is_free t a) (is_free t b) (λ o is. sym (free_alike a b alike t o) ∙ is) ops m.free;
    }
    by (log.Join t n) m = record { known = known t m.known; rises = subst (λ (k : ℕ). k < n) (alike.elected t) m.rises }
    by (log.Attempt t n dir) m = record {
      known = known t m.known;
      undecided = open_too t m.undecided;
      elected = m.elected ∙ alike.elected t;
      rises = subst (λ (k : ℕ). k < n) (alike.attempt t) m.rises;
      first = λ one. let h = m.first one in (sym (alike.voted t) ∙ h.0, h.1);
    }
    by (log.Decision t dir) m = record {
      known = known t m.known;
      undecided = open_too t m.undecided;
      voted = λ commits. sym (alike.voted t) ∙ m.voted commits;
    }

-- a fold that agrees on two lists agrees behind them
fold_both : {A B : Type 0} (f : B → A → B) (x : B) (a b more : List A) → fold f x a ≡ fold f x b → fold f x (a ++ more) ≡ fold f x (b ++ more)
fold_both f x a b more same = fold-append f x a more ∙ ap (λ y. fold f y more) same ∙ sym (fold-append f x b more)

flat_both : {A B : Type 0} (f : A → List B) (a b more : List A) → flat_map f a ≡ flat_map f b → flat_map f (a ++ more) ≡ flat_map f (b ++ more)
flat_both f a b more same = flat_map-append f a more ∙ ap (λ y. y ++ flat_map f more) same ∙ sym (flat_map-append f b more)

txns_more : (l more : List Record) → txns_of (l ++ more) ≡ fold add_txn (txns_of l) (flat_map txn_of_record more)
txns_more l more =
    ap (λ (x : List Txn). fold add_txn [] x) (flat_map-append txn_of_record l more)
    ∙ fold-append add_txn [] (flat_map txn_of_record l) (flat_map txn_of_record more)

-- what is undecided was so before
pub open_before : (t : Txn) (l : List Record) (r : Record) → is_undecided t (l ++ r ∷ []) ≡ true → is_undecided t l ≡ true
open_before t l r is = by (decision t l) refl
  where
    by : (d : Option Dir) → decision t l ≡ d → is_undecided t l ≡ true
    by None e = ap is_none e
    by (Some d) e =
        let kept : is_undecided t (l ++ r ∷ []) ≡ false =
        ap is_none (fold-append (decision_by t) None l (r ∷ []) ∙ ap (λ (x : Option Dir). fold (decision_by t) x (r ∷ [])) e) ∙ stays t d (r ∷ []) in
        absurd (let no : true ≡ false = sym is ∙ kept in cc)

-- the tables with one more record
table_alike : (site : ℕ) (a b : List Record) (r : Record) → ReadAlike a b → MayFollow site a r → table_by a (table_of a) r ≡ table_by b (table_of b) r
table_alike site a b (log.Birth format number weights rows) alike may = refl
table_alike site a b (log.Inc n) alike may = alike.table
table_alike site a b (log.Vote t ops) alike may = alike.table
table_alike site a b (log.Join t n) alike may = alike.table
table_alike site a b (log.Attempt t n dir) alike may = alike.table
table_alike site a b (log.Decision t Abort) alike may = alike.table
table_alike site a b (log.Decision t Commit) alike may = λ i. fold install_op (alike.table i) (alike.ops t may.undecided i)

pub read_push : (site : ℕ) (a b : List Record) (r : Record) → ReadAlike a b → MayFollow site a r → ReadAlike (a ++ r ∷ []) (b ++ r ∷ [])
read_push site a b r alike may = record {
  empty = λ none. absurd (no_push a r none);
  some = λ none. absurd (no_push b r none);
  born = λ rows. flat_both (born_by rows) a b (r ∷ []) (alike.born rows);
  weights = fold_both weights_by [] a b (r ∷ []) alike.weights;
  inc = fold_both logged_inc_by 0 a b (r ∷ []) alike.inc;
  table = table_push site a r may ∙ table_alike site a b r alike may ∙ sym (table_push site b r (may_follow_alike site a b r alike may));
  txns = txns_more a (r ∷ []) ∙ ap (λ (x : List Txn). fold add_txn x (flat_map txn_of_record (r ∷ []))) alike.txns ∙ sym (txns_more b (r ∷ []));
  elected = λ t. fold_both (last_elected_by t) 1 a b (r ∷ []) (alike.elected t);
  attempt = λ t. fold_both (last_attempt_by t) 0 a b (r ∷ []) (alike.attempt t);
  attempted = λ t. fold_both (attempted_by t) None a b (r ∷ []) (alike.attempted t);
  decided = λ t. fold_both (decision_by t) None a b (r ∷ []) (alike.decided t);
  voted = λ t. voted_push t a r ∙ ap (λ x. x || is_vote t r) (alike.voted t) ∙ sym (voted_push t b r);
  ops = λ t is. ops_push t a r ∙ ap (λ x. x ++ ops_of_vote t r) (alike.ops t (open_before t a r is)) ∙ sym (ops_push t b r);
}

-- and many more
pub read_on : (site : ℕ) (a b more : List Record) → ReadAlike a b → OrderlyAfter site a more → ReadAlike (a ++ more) (b ++ more)
read_on site a b [] alike orderly =
    subst (λ (x : List Record). ReadAlike x (b ++ [])) (sym (append-nil a)) (subst (λ (x : List Record). ReadAlike a x) (sym (append-nil b)) alike)
read_on site a b (r ∷ more) alike orderly =
    subst (λ (x : List Record). ReadAlike x (b ++ r ∷ more)) (append_assoc a (r ∷ []) more)
    (subst (λ (x : List Record). ReadAlike ((a ++ r ∷ []) ++ more) x) (append_assoc b (r ∷ []) more)
    (read_on site (a ++ r ∷ []) (b ++ r ∷ []) more (read_push site a b r alike orderly.0) orderly.1))

pub orderly_on : (site : ℕ) (a b more : List Record) → ReadAlike a b → OrderlyAfter site a more → OrderlyAfter site b more
orderly_on site a b [] alike orderly = tt
orderly_on site a b (r ∷ more) alike orderly =
    (may_follow_alike site a b r alike orderly.0, orderly_on site (a ++ r ∷ []) (b ++ r ∷ []) more (read_push site a b r alike orderly.0) orderly.1)

-- Logs that read alike have the same brief.
open_alike : (a b : List Record) → ReadAlike a b → (t : Txn) → open_ops t a ≡ open_ops t b
open_alike a b alike t = by (is_undecided t a) refl
  where
    by : (c : Bool) → is_undecided t a ≡ c → open_ops t a ≡ open_ops t b
    by true is = let other : is_undecided t b ≡ true = sym (ap is_none (alike.decided t)) ∙ is in rw (is, other) (alike.ops t is)
    by false is = let other : is_undecided t b ≡ false = sym (ap is_none (alike.decided t)) ∙ is in rw (is, other) refl

noted_alike : (a b : List Record) → ReadAlike a b → (t : Txn) → noted a t ≡ noted b t
noted_alike a b alike t = λ i. notes t (record {
  voted = alike.voted t i;
  ops = open_alike a b alike t i;
  attempted = alike.attempted t i;
  attempt = alike.attempt t i;
  elected = alike.elected t i;
  decided = alike.decided t i;
})

pub brief_alike : (a b : List Record) → ReadAlike a b → brief a ≡ brief b
brief_alike a b alike =
    let born : born_in (table_of a) a ≡ born_in (table_of b) b = ap (λ (rows : List Row). born_in rows a) alike.table ∙ alike.born (table_of b) in
    let blocks : flat_map (noted a) (txns_of a) ≡ flat_map (noted b) (txns_of b) =
    flat_alike (noted a) (noted b) (noted_alike a b alike) (txns_of a) ∙ ap (λ (ts : List Txn). flat_map (noted b) ts) alike.txns in
    λ i. born i ++ (inc_in (alike.inc i) ++ blocks i)
