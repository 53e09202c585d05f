-- What an orderly log says of a transaction hangs together.
use Rattle.std.proofs.Common.{◌≡◌, ◌≢◌, ◌≤◌, ◌<◌, ◌∷◌, [], ◌++◌, ◌||◌, max, ℕ, nat_le, Bool, true, false, List, Option, Some, None, is_none, inl, inr, refl, sym, ap, subst, ◌∙◌, append-nil, append_assoc, if◌then◌else◌, arith}
use Rattle.std.specs.List.{list_all}
use Rattle.std.proofs.lemmas.Bool.{cases_lt, and_parts, and_from, or_right, le-leb, leb-true, true≢false}
use Rattle.std.proofs.lemmas.Grind.{fold-append, flat_map-append}
use Rattle.std.proofs.lemmas.List.Elements.{filter-append}
use Rattle.std.proofs.lemmas.List.Folds.{list_any-append}
use Rattle.e3_types.specs.declared.records.Record.{Record}
use Rattle.e3_types.specs.declared.records.Record.TheVariants as log
use Rattle.e3_types.specs.declared.transactions.Dir.{Dir}
use Rattle.e3_types.specs.declared.transactions.Dir.TheVariants.{Abort, Commit}
use Rattle.e3_types.specs.declared.transactions.NumOp.{NumOp}
use Rattle.e3_types.specs.declared.transactions.State.TheVariants.{Q}
use Rattle.e3_types.specs.declared.transactions.Txn.{Txn}
use Rattle.e3_types.specs.Same.{same_txn}
use Rattle.e3_world.specs.Logs.{last_elected_by, last_elected, last_attempt_by, last_attempt, attempted_by, attempted, decision_by, decision, is_vote, has_voted, ops_of_vote, voted_ops, state_of, logged_inc, logged_inc_by}
use Rattle.e3_world.specs.Orderly.{is_among, is_known, ops_ascend, weights_by, weights_in, MayFollow, OrderlyAfter, IsOrderly}
use Rattle.e3_laws.proofs.brief.Readings.{is_of, own_of, elected_leaves, attempt_leaves, attempted_leaves, decision_leaves, vote_leaves, ops_leaves}
use Rattle.e3_laws.proofs.steps.Tests.{or_false, same_is}

-- what a log has of a transaction
pub record LogOf : Type 0 where
  pub voted : Bool
  pub ops : List NumOp
  pub attempted : Option Dir
  pub attempt : ℕ
  pub elected : ℕ
  pub decided : Option Dir

abbrev pub logged_of : Txn → List Record → LogOf
logged_of t l = record {
  voted = has_voted t l;
  ops = voted_ops t l;
  attempted = attempted t l;
  attempt = last_attempt t l;
  elected = last_elected t l;
  decided = decision t l;
}

-- with one more record
abbrev pub logged_with : Txn → LogOf → Record → LogOf
logged_with t s r = record {
  voted = s.voted || is_vote t r;
  ops = s.ops ++ ops_of_vote t r;
  attempted = attempted_by t s.attempted r;
  attempt = last_attempt_by t s.attempt r;
  elected = last_elected_by t s.elected r;
  decided = decision_by t s.decided r;
}

pub voted_push : (t : Txn) (l : List Record) (r : Record) → has_voted t (l ++ r ∷ []) ≡ (has_voted t l || is_vote t r)
voted_push t l r = list_any-append (is_vote t) l (r ∷ []) ∙ ap (λ b. has_voted t l || b) (or_false (is_vote t r))

pub ops_push : (t : Txn) (l : List Record) (r : Record) → voted_ops t (l ++ r ∷ []) ≡ voted_ops t l ++ ops_of_vote t r
ops_push t l r = flat_map-append (ops_of_vote t) l (r ∷ []) ∙ ap (λ x. voted_ops t l ++ x) (append-nil (ops_of_vote t r))

pub logged_push : (t : Txn) (l : List Record) (r : Record) → logged_of t (l ++ r ∷ []) ≡ logged_with t (logged_of t l) r
logged_push t l r =
    let tries : attempted t (l ++ r ∷ []) ≡ attempted_by t (attempted t l) r = fold-append (attempted_by t) None l (r ∷ []) in
    let number : last_attempt t (l ++ r ∷ []) ≡ last_attempt_by t (last_attempt t l) r = fold-append (last_attempt_by t) 0 l (r ∷ []) in
    let elects : last_elected t (l ++ r ∷ []) ≡ last_elected_by t (last_elected t l) r = fold-append (last_elected_by t) 1 l (r ∷ []) in
    let decides : decision t (l ++ r ∷ []) ≡ decision_by t (decision t l) r = fold-append (decision_by t) None l (r ∷ []) in
    λ i. record {
      voted = voted_push t l r i;
      ops = ops_push t l r i;
      attempted = tries i;
      attempt = number i;
      elected = elects i;
      decided = decides i;
    }

-- another transaction's record leaves it
logged_leaves : (t : Txn) (s : LogOf) (r : Record) → is_of t r ≡ false → logged_with t s r ≡ s
logged_leaves t s r is =
    let votes : (s.voted || is_vote t r) ≡ s.voted = ap (λ b. s.voted || b) (vote_leaves t r is) ∙ or_false s.voted in
    let ops : s.ops ++ ops_of_vote t r ≡ s.ops = ap (λ x. s.ops ++ x) (ops_leaves t r is) ∙ append-nil s.ops in
    λ i. record {
      voted = votes i;
      ops = ops i;
      attempted = attempted_leaves t r s.attempted is i;
      attempt = attempt_leaves t r s.attempt is i;
      elected = elected_leaves t r s.elected is i;
      decided = decision_leaves t r s.decided is i;
    }

-- An attempt has the number of a join, or 1; the first one commits what was voted for, and so does a commit. A vote's
-- operations ascend and are few.
pub record Fit (s : LogOf) : Type 0 where
  pub least : 1 ≤ s.elected
  pub most : s.attempt ≤ s.elected
  pub none : s.attempted ≡ None → s.attempt ≡ 0
  pub some : (dir : Dir) → s.attempted ≡ Some dir → 1 ≤ s.attempt
  pub first : (dir : Dir) → s.attempted ≡ Some dir → s.attempt ≡ 1 → (s.voted ≡ true) × (dir ≡ Commit)
  pub commit : s.decided ≡ Some Commit → s.voted ≡ true
  pub unvoted : s.voted ≡ false → s.ops ≡ []
  pub ascending : ops_ascend 0 s.ops ≡ true
  pub few : list_all (λ o. nat_le o.n 64) s.ops ≡ true

-- where none of the others stands, a join does
abbrev pub Heard : LogOf → Type 0
Heard s = s.voted ≡ false → s.attempted ≡ None → s.decided ≡ None → 2 ≤ s.elected

pub record Shape (site : ℕ) (t : Txn) (l : List Record) : Type 0 where
  pub fit : Fit (logged_of t l)
  pub heard : own_of t l ≢ [] → Heard (logged_of t l)
  pub known : own_of t l ≢ [] → is_known site l t ≡ true

-- the state q
pub record Quiet (t : Txn) (l : List Record) : Type 0 where
  pub undecided : decision t l ≡ None
  pub untried : attempted t l ≡ None
  pub unvoted : has_voted t l ≡ false

pub quiet_from : (t : Txn) (l : List Record) → state_of t l ≡ Q → Quiet t l
quiet_from t l q = by (decision t l) refl (attempted t l) refl (has_voted t l) refl
  where
    by : (d : Option Dir) → decision t l ≡ d → (a : Option Dir) → attempted t l ≡ a → (v : Bool) → has_voted t l ≡ v → Quiet t l
    by (Some Commit) de a ae v ve = absurd (let h = rw de at q in cc)
    by (Some Abort) de a ae v ve = absurd (let h = rw de at q in cc)
    by None de (Some Commit) ae v ve = absurd (let h = rw (de, ae) at q in cc)
    by None de (Some Abort) ae v ve = absurd (let h = rw (de, ae) at q in cc)
    by None de None ae true ve = absurd (let h = rw (de, ae, ve) at q in cc)
    by None de None ae false ve = record { undecided = de; untried = ae; unvoted = ve }

pub none_from : (o : Option Dir) → is_none o ≡ true → o ≡ None
none_from None h = refl
none_from (Some d) h = absurd cc

fit_vote : (s : LogOf) (ops : List NumOp) → Fit s → s.voted ≡ false → s.attempted ≡ None → ops_ascend 0 ops ≡ true → list_all (λ o. nat_le o.n 64) ops ≡ true
    → Fit (record s { voted = true; ops = s.ops ++ ops })
fit_vote s ops f unvoted untried up few =
    let all : s.ops ++ ops ≡ ops = ap (λ x. x ++ ops) (f.unvoted unvoted) in
    record {
      least = f.least;
      most = f.most;
      none = f.none;
      some = f.some;
      first = λ dir is one. absurd (let e : None ≡ Some dir = sym untried ∙ is in cc);
      commit = λ is. refl;
      unvoted = λ is. absurd (true≢false is);
      ascending = subst (λ x. ops_ascend 0 x ≡ true) (sym all) up;
      few = subst (λ (x : List NumOp). list_all (λ o. nat_le o.n 64) x ≡ true) (sym all) few;
    }

fit_join : (s : LogOf) (n : ℕ) → Fit s → s.elected < n → Fit (record s { elected = max s.elected n })
fit_join s n f rises = record {
  least = omega (arith, f.least);
  most = omega (arith, f.most);
  none = f.none;
  some = f.some;
  first = f.first;
  commit = f.commit;
  unvoted = f.unvoted;
  ascending = f.ascending;
  few = f.few;
}

fit_attempt : (s : LogOf) (n : ℕ) (dir : Dir) → Fit s → n ≡ s.elected → s.attempt < n → (n ≡ 1 → (s.voted ≡ true) × (dir ≡ Commit))
    → Fit (record s { attempted = Some dir; attempt = max s.attempt n })
fit_attempt s n dir f is rises first = record {
  least = f.least;
  most = omega arith;
  none = λ e. absurd cc;
  some = λ d e. omega arith;
  first = λ d e one.
      let h = first (omega arith) in
      let same : dir ≡ d = cc in
      (h.0, sym same ∙ h.1);
  commit = f.commit;
  unvoted = f.unvoted;
  ascending = f.ascending;
  few = f.few;
}

fit_decision : (s : LogOf) (dir : Dir) → Fit s → (dir ≡ Commit → s.voted ≡ true) → Fit (record s { decided = Some dir })
fit_decision s dir f voted = record {
  least = f.least;
  most = f.most;
  none = f.none;
  some = f.some;
  first = f.first;
  commit = λ e. voted (let same : dir ≡ Commit = cc in same);
  unvoted = f.unvoted;
  ascending = f.ascending;
  few = f.few;
}

-- what one of the transaction's own records makes of it
record OwnStep (site : ℕ) (t : Txn) (l : List Record) (r : Record) : Type 0 where
  fit : Fit (logged_with t (logged_of t l) r)
  heard : Heard (logged_with t (logged_of t l) r)
  known : is_known site l t ≡ true

own_step : (site : ℕ) (t : Txn) (l : List Record) (r : Record) → is_of t r ≡ true → Fit (logged_of t l) → MayFollow site l r → OwnStep site t l r
own_step site t l (log.Birth format number weights rows) is f may = absurd (true≢false (sym is))
own_step site t l (log.Inc n) is f may = absurd (true≢false (sym is))
own_step site t l (log.Vote u ops) is f may =
    let same : t ≡ u = same_is t u is in
    let q : Quiet t l = quiet_from t l (subst (λ (x : Txn). state_of x l ≡ Q) (sym same) may.fresh) in
    let votes : (has_voted t l || same_txn t u) ≡ true = or_right (has_voted t l) (same_txn t u) is in
    let s : LogOf = logged_of t l in
    let e : logged_with t s (log.Vote u ops) ≡ record s { voted = true; ops = s.ops ++ ops } =
    λ i. record { voted = votes i; ops = s.ops ++ own is i; attempted = s.attempted; attempt = s.attempt; elected = s.elected; decided = s.decided } in
    record {
      fit = subst (λ x. Fit x) (sym e) (fit_vote s ops f q.unvoted q.untried may.ascending may.few);
      heard = subst (λ x. Heard x) (sym e) (λ no a d. absurd (true≢false no));
      known = subst (λ (x : Txn). is_known site l x ≡ true) (sym same) may.known;
    }
  where
    own : same_txn t u ≡ true → (if same_txn t u then ops else []) ≡ ops
    own is = rw is refl
own_step site t l (log.Join u n) is f may =
    let same : t ≡ u = same_is t u is in
    let rises : last_elected t l < n = subst (λ (x : Txn). last_elected x l < n) (sym same) may.rises in
    let s : LogOf = logged_of t l in
    let e : logged_with t s (log.Join u n) ≡ record s { elected = max s.elected n } =
    λ i. record { voted = or_false s.voted i; ops = append-nil s.ops i; attempted = s.attempted; attempt = s.attempt; elected = own s.elected is i; decided = s.decided } in
    record {
      fit = subst (λ x. Fit x) (sym e) (fit_join s n f rises);
      heard = subst (λ x. Heard x) (sym e) (λ no a d. omega (arith, f.least));
      known = subst (λ (x : Txn). is_known site l x ≡ true) (sym same) may.known;
    }
  where
    own : (x : ℕ) → same_txn t u ≡ true → (if same_txn t u then max x n else x) ≡ max x n
    own x is = rw is refl
own_step site t l (log.Attempt u n dir) is f may =
    let same : t ≡ u = same_is t u is in
    let elected : n ≡ last_elected t l = subst (λ (x : Txn). n ≡ last_elected x l) (sym same) may.elected in
    let rises : last_attempt t l < n = subst (λ (x : Txn). last_attempt x l < n) (sym same) may.rises in
    let first : n ≡ 1 → (has_voted t l ≡ true) × (dir ≡ Commit) = subst (λ (x : Txn). n ≡ 1 → (has_voted x l ≡ true) × (dir ≡ Commit)) (sym same) may.first in
    let s : LogOf = logged_of t l in
    let e : logged_with t s (log.Attempt u n dir) ≡ record s { attempted = Some dir; attempt = max s.attempt n } =
    λ i. record { voted = or_false s.voted i; ops = append-nil s.ops i; attempted = way s.attempted is i; attempt = own s.attempt is i; elected = s.elected; decided = s.decided } in
    record {
      fit = subst (λ x. Fit x) (sym e) (fit_attempt s n dir f elected rises first);
      heard = subst (λ x. Heard x) (sym e) (λ no a d. absurd cc);
      known = subst (λ (x : Txn). is_known site l x ≡ true) (sym same) may.known;
    }
  where
    own : (x : ℕ) → same_txn t u ≡ true → (if same_txn t u then max x n else x) ≡ max x n
    own x is = rw is refl

    way : (x : Option Dir) → same_txn t u ≡ true → (if same_txn t u then Some dir else x) ≡ Some dir
    way x is = rw is refl
own_step site t l (log.Decision u dir) is f may =
    let same : t ≡ u = same_is t u is in
    let voted : dir ≡ Commit → has_voted t l ≡ true = subst (λ (x : Txn). dir ≡ Commit → has_voted x l ≡ true) (sym same) may.voted in
    let s : LogOf = logged_of t l in
    let e : logged_with t s (log.Decision u dir) ≡ record s { decided = Some dir } =
    λ i. record { voted = or_false s.voted i; ops = append-nil s.ops i; attempted = s.attempted; attempt = s.attempt; elected = s.elected; decided = way s.decided is i } in
    record {
      fit = subst (λ x. Fit x) (sym e) (fit_decision s dir f voted);
      heard = subst (λ x. Heard x) (sym e) (λ no a d. absurd cc);
      known = subst (λ (x : Txn). is_known site l x ≡ true) (sym same) may.known;
    }
  where
    way : (x : Option Dir) → same_txn t u ≡ true → (if same_txn t u then Some dir else x) ≡ Some dir
    way x is = rw is refl

-- the weights with one more record, and the incarnation
pub keeps_weights : (site : ℕ) (l : List Record) (r : Record) → MayFollow site l r → l ≢ [] → weights_in (l ++ r ∷ []) ≡ weights_in l
keeps_weights site l (log.Birth format number weights rows) may some = absurd (some may.first)
keeps_weights site l (log.Inc n) may some = fold-append weights_by [] l (log.Inc n ∷ [])
keeps_weights site l (log.Vote u ops) may some = fold-append weights_by [] l (log.Vote u ops ∷ [])
keeps_weights site l (log.Join u n) may some = fold-append weights_by [] l (log.Join u n ∷ [])
keeps_weights site l (log.Attempt u n dir) may some = fold-append weights_by [] l (log.Attempt u n dir ∷ [])
keeps_weights site l (log.Decision u dir) may some = fold-append weights_by [] l (log.Decision u dir ∷ [])

keeps_inc : (site : ℕ) (l : List Record) (r : Record) → MayFollow site l r → l ≢ [] → logged_inc l ≤ logged_inc (l ++ r ∷ [])
keeps_inc site l (log.Birth format number weights rows) may some = absurd (some may.first)
keeps_inc site l (log.Inc n) may some =
    let e : logged_inc (l ++ log.Inc n ∷ []) ≡ n = fold-append logged_inc_by 0 l (log.Inc n ∷ []) in
    elim (cases_lt 0 (logged_inc l)) [ inl more ↦ omega (arith, e, may.next more) | inr least ↦ omega arith ]
keeps_inc site l (log.Vote u ops) may some = let e : logged_inc (l ++ log.Vote u ops ∷ []) ≡ logged_inc l = fold-append logged_inc_by 0 l (log.Vote u ops ∷ []) in omega arith
keeps_inc site l (log.Join u n) may some = let e : logged_inc (l ++ log.Join u n ∷ []) ≡ logged_inc l = fold-append logged_inc_by 0 l (log.Join u n ∷ []) in omega arith
keeps_inc site l (log.Attempt u n dir) may some = let e : logged_inc (l ++ log.Attempt u n dir ∷ []) ≡ logged_inc l = fold-append logged_inc_by 0 l (log.Attempt u n dir ∷ []) in omega arith
keeps_inc site l (log.Decision u dir) may some = let e : logged_inc (l ++ log.Decision u dir ∷ []) ≡ logged_inc l = fold-append logged_inc_by 0 l (log.Decision u dir ∷ []) in omega arith

pub known_parts : (site : ℕ) (l : List Record) (t : Txn) → is_known site l t ≡ true → (1 ≤ logged_inc l) × (is_among site (weights_in l) t.sites ≡ true)
known_parts site l t known =
    let p = and_parts (nat_le 1 (logged_inc l)) (is_among site (weights_in l) t.sites) known in
    (leb-true 1 (logged_inc l) p.0, p.1)

pub known_from : (site : ℕ) (l : List Record) (t : Txn) → 1 ≤ logged_inc l → is_among site (weights_in l) t.sites ≡ true → is_known site l t ≡ true
known_from site l t some among = and_from (nat_le 1 (logged_inc l)) (is_among site (weights_in l) t.sites) (le-leb 1 (logged_inc l) some) among

known_push : (site : ℕ) (t : Txn) (l : List Record) (r : Record) → MayFollow site l r → is_known site l t ≡ true → is_known site (l ++ r ∷ []) t ≡ true
known_push site t l r may known =
    let p = known_parts site l t known in
    let some : l ≢ [] = some_inc l p.0 in
    known_from site (l ++ r ∷ []) t (omega (arith, p.0, keeps_inc site l r may some))
    (subst (λ w. is_among site w t.sites ≡ true) (sym (keeps_weights site l r may some)) p.1)
  where
    some_inc : (before : List Record) → 1 ≤ logged_inc before → before ≢ []
    some_inc [] low e = absurd (omega arith)
    some_inc (x ∷ xs) low e = absurd cc

own_push : (t : Txn) (l : List Record) (r : Record) → is_of t r ≡ false → own_of t (l ++ r ∷ []) ≡ own_of t l
own_push t l r is = filter-append (is_of t) l (r ∷ []) ∙ last is
  where
    last : is_of t r ≡ false → own_of t l ++ own_of t (r ∷ []) ≡ own_of t l
    last is = rw is (append-nil (own_of t l))

shape_step : (site : ℕ) (t : Txn) (l : List Record) (r : Record) → Shape site t l → MayFollow site l r → Shape site t (l ++ r ∷ [])
shape_step site t l r sh may = by (is_of t r) refl
  where
    by : (b : Bool) → is_of t r ≡ b → Shape site t (l ++ r ∷ [])
    by true is =
        let own : OwnStep site t l r = own_step site t l r is sh.fit may in
        let e : logged_of t (l ++ r ∷ []) ≡ logged_with t (logged_of t l) r = logged_push t l r in
        record {
          fit = subst (λ x. Fit x) (sym e) own.fit;
          heard = λ some. subst (λ x. Heard x) (sym e) own.heard;
          known = λ some. known_push site t l r may own.known;
        }
    by false is =
        let e : logged_of t (l ++ r ∷ []) ≡ logged_of t l = logged_push t l r ∙ logged_leaves t (logged_of t l) r is in
        let had : own_of t (l ++ r ∷ []) ≡ own_of t l = own_push t l r is in
        record {
          fit = subst (λ x. Fit x) (sym e) sh.fit;
          heard = λ some. subst (λ x. Heard x) (sym e) (sh.heard (λ z. some (had ∙ z)));
          known = λ some. known_push site t l r may (sh.known (λ z. some (had ∙ z)));
        }

shape_all : (site : ℕ) (t : Txn) (l rest : List Record) → Shape site t l → OrderlyAfter site l rest → Shape site t (l ++ rest)
shape_all site t l [] sh orderly = subst (λ (x : List Record). Shape site t x) (sym (append-nil l)) sh
shape_all site t l (r ∷ rest) sh orderly =
    subst (λ (x : List Record). Shape site t x) (append_assoc l (r ∷ []) rest) (shape_all site t (l ++ r ∷ []) rest (shape_step site t l r sh orderly.0) orderly.1)

pub shape_of : (site : ℕ) (t : Txn) (l : List Record) → IsOrderly site l → Shape site t l
shape_of site t l orderly = shape_all site t [] l first orderly
  where
    first : Shape site t []
    first = record {
      fit = record {
        least = omega arith;
        most = omega arith;
        none = λ e. refl;
        some = λ dir e. absurd cc;
        first = λ dir e one. absurd cc;
        commit = λ e. absurd cc;
        unvoted = λ e. refl;
        ascending = refl;
        few = refl;
      };
      heard = λ some. absurd (some refl);
      known = λ some. absurd (some refl);
    }
