-- The notes of each transaction follow in order what a brief has before them.
use Rattle.std.proofs.Common.{◌≡◌, ◌≢◌, ◌≤◌, ◌<◌, ◌∷◌, [], ◌++◌, max, ℕ, Bool, true, false, cond, List, Option, Some, None, is_none, refl, sym, ap, subst, ◌∙◌, append_assoc, append-nil, arith}
use Rattle.std.specs.Prelude.{nat_lt}
use Rattle.std.specs.List.{flat_map, list_any, list_all, AllByRecursion as Each}
use Rattle.std.proofs.lemmas.Bool.{ltb-true, ltb-false, le-ltb, or_from}
use Rattle.std.proofs.lemmas.Grind.{fold-append, flat_map-append}
use Rattle.std.proofs.lemmas.List.Elements.{filter-append}
use Rattle.e3_types.specs.declared.records.Record.{Record}
use Rattle.e3_types.specs.declared.records.Record.TheVariants as log
use Rattle.e3_types.specs.declared.transactions.Dir.{Dir}
use Rattle.e3_types.specs.declared.transactions.Row.{Row}
use Rattle.e3_types.specs.declared.transactions.Txn.{Txn}
use Rattle.e3_types.specs.Same.{same_txn}
use Rattle.e3_world.specs.Items.{txn_of_record}
use Rattle.e3_world.specs.Logs.{last_attempt, last_elected, logged_inc, logged_inc_by, table_of}
use Rattle.e3_world.specs.Orderly.{is_among, is_free, is_known, names_ascend, weights_by, weights_in, OrderlyAfter, IsOrderly}
use Rattle.e3_world.specs.Brief.{brief, born_in, inc_in, vote_in, attempt_in, join_in, decision_in, noted, txns_of}
use Rattle.e3_laws.proofs.brief.Briefs.{unlogged, logged_from, each_born, own_of_front, front, blocks, front_weights, front_inc, heard_txns}
use Rattle.e3_laws.proofs.brief.Lists.{fold_leaves, all_pass, no_push}
use Rattle.e3_laws.proofs.brief.Locks.{state_alike}
use Rattle.e3_laws.proofs.brief.Notes.{notes, kept_of, each_note, notes_of, logged_notes, kept_fit}
use Rattle.e3_laws.proofs.brief.Readings.{is_of, own_of}
use Rattle.e3_laws.proofs.brief.Shape.{LogOf, logged_of, Fit, Shape, shape_of, known_parts, known_from}
use Rattle.e3_laws.proofs.brief.Standing.{orderly_append, vote_free}
use Rattle.e3_laws.proofs.brief.Tables.{table_ascends}
use Rattle.e3_laws.proofs.steps.Ascending.{IsLater, Ascends, ascends_fold, other_way}
use Rattle.e3_laws.proofs.steps.Each.{each-left}
use Rattle.e3_laws.proofs.steps.Tests.{same_self}

-- what the log has of the transaction here, and it is known
record At (site : ℕ) (t : Txn) (x : List Record) (s : LogOf) : Type 0 where
  logged : logged_of t x ≡ s
  known : is_known site x t ≡ true

-- behind some of the notes
at_prefix : (site : ℕ) (t : Txn) (before : List Record) (s : LogOf) → own_of t before ≡ [] → is_known site before t ≡ true → Fit s → (x : List Record) → x ≡ before ++ notes t s → At site t x s
at_prefix site t before s none known fit x is =
    let own : own_of t x ≡ notes t s =
    ap (λ (l : List Record). own_of t l) is ∙ filter-append (is_of t) before (notes t s)
    ∙ ap (λ y. y ++ own_of t (notes t s)) none ∙ all_pass (is_of t) (notes t s) (notes_of true t t s (same_self t)) in
    let weights : weights_in x ≡ weights_in before =
    ap (λ (l : List Record). weights_in l) is ∙ fold-append weights_by [] before (notes t s)
    ∙ fold_leaves weights_by (weights_in before) (notes t s)
    (each_note (λ r. weights_by (weights_in before) r ≡ weights_in before) t s (λ ops. refl) (λ n. refl) (λ n dir. refl) (λ dir e. refl)) in
    let inc : logged_inc x ≡ logged_inc before =
    ap (λ (l : List Record). logged_inc l) is ∙ fold-append logged_inc_by 0 before (notes t s)
    ∙ fold_leaves logged_inc_by (logged_inc before) (notes t s)
    (each_note (λ r. logged_inc_by (logged_inc before) r ≡ logged_inc before) t s (λ ops. refl) (λ n. refl) (λ n dir. refl) (λ dir e. refl)) in
    let parts = known_parts site before t known in
    record {
      logged = logged_from t x (notes t s) own ∙ logged_notes t s fit;
      known = known_from site x t (subst (λ (k : ℕ). 1 ≤ k) (sym inc) parts.0) (subst (λ w. is_among site w t.sites ≡ true) (sym weights) parts.1);
    }

-- what the log has behind the vote alone, behind a join that no attempt follows yet, behind the attempt, and without the decision
abbrev by_vote : LogOf → LogOf
by_vote s = record s { attempted = None; attempt = 0; elected = 1; decided = None }

abbrev by_join : LogOf → LogOf
by_join s = record s { attempted = None; attempt = 0; elected = s.attempt; decided = None }

abbrev by_attempt : LogOf → LogOf
by_attempt s = record s { elected = max 1 s.attempt; decided = None }

abbrev undecided : LogOf → LogOf
undecided s = record s { decided = None }

fit_by_vote : (s : LogOf) → Fit s → Fit (by_vote s)
fit_by_vote s f = record {
  least = omega arith;
  most = omega arith;
  none = λ e. refl;
  some = λ dir e. absurd cc;
  first = λ dir e one. absurd cc;
  commit = λ e. absurd cc;
  unvoted = f.unvoted;
  ascending = f.ascending;
  few = f.few;
}

fit_by_join : (s : LogOf) → Fit s → 1 < s.attempt → Fit (by_join s)
fit_by_join s f high = record {
  least = omega arith;
  most = omega arith;
  none = λ e. refl;
  some = λ dir e. absurd cc;
  first = λ dir e one. absurd cc;
  commit = λ e. absurd cc;
  unvoted = f.unvoted;
  ascending = f.ascending;
  few = f.few;
}

fit_by_attempt : (s : LogOf) → Fit s → Fit (by_attempt s)
fit_by_attempt s f = record {
  least = omega arith;
  most = omega arith;
  none = f.none;
  some = f.some;
  first = f.first;
  commit = λ e. absurd cc;
  unvoted = f.unvoted;
  ascending = f.ascending;
  few = f.few;
}

fit_undecided : (s : LogOf) → Fit s → Fit (undecided s)
fit_undecided s f = record {
  least = f.least;
  most = f.most;
  none = f.none;
  some = f.some;
  first = f.first;
  commit = λ e. absurd cc;
  unvoted = f.unvoted;
  ascending = f.ascending;
  few = f.few;
}

-- The notes of a transaction follow where no record is of it yet.
module _ (site : ℕ) (t : Txn) (before : List Record) (s : LogOf) (none : own_of t before ≡ []) (known : is_known site before t ≡ true) (fit : Fit s)
    (free : list_all (is_free t before) s.ops ≡ true) where
  abbrev vote : List Record
  vote = vote_in t s.voted s.ops

  abbrev tries : List Record
  tries = attempt_in t s.attempted s.attempt

  abbrev joins : List Record
  joins = join_in t s.attempt s.elected

  first : (v : Bool) → OrderlyAfter site before (vote_in t v s.ops)
  first false = tt
  first true =
      let logged : logged_of t before ≡ unlogged = logged_from t before [] none in
      let decides = ap (λ (x : LogOf). x.decided) logged in
      let attempts = ap (λ (x : LogOf). x.attempted) logged in
      let votes = ap (λ (x : LogOf). x.voted) logged in (
        record {
          known = known;
          fresh = state_alike t before [] decides attempts votes;
          not_joined = ap (λ (x : LogOf). x.elected) logged;
          ascending = fit.ascending;
          few = fit.few;
          free = free;
        },
        tt,
      )

  behind_vote : At site t (before ++ vote) (by_vote s)
  behind_vote = at_prefix site t before (by_vote s) none known (fit_by_vote s fit) (before ++ vote) (ap (λ y. before ++ y) (sym (append-nil vote)))

  later_attempt : (dir : Dir) → nat_lt 1 s.attempt ≡ true → OrderlyAfter site (before ++ vote) (log.Join t s.attempt ∷ log.Attempt t s.attempt dir ∷ [])
  later_attempt dir is =
      let high : 1 < s.attempt = ltb-true 1 s.attempt is in
      let joined : join_in t 0 s.attempt ++ [] ≡ log.Join t s.attempt ∷ [] = one_join is in
      let place : (before ++ vote) ++ log.Join t s.attempt ∷ [] ≡ before ++ notes t (by_join s) =
      append_assoc before vote (log.Join t s.attempt ∷ []) ∙ ap (λ y. before ++ (vote ++ y)) (sym joined) in
      let here : At site t ((before ++ vote) ++ log.Join t s.attempt ∷ []) (by_join s) =
      at_prefix site t before (by_join s) none known (fit_by_join s fit high) ((before ++ vote) ++ log.Join t s.attempt ∷ []) place in
      let one : last_elected t (before ++ vote) ≡ 1 = ap (λ (x : LogOf). x.elected) behind_vote.logged in
      let number : last_attempt t ((before ++ vote) ++ log.Join t s.attempt ∷ []) ≡ 0 = ap (λ (x : LogOf). x.attempt) here.logged in (
        record { known = behind_vote.known; rises = subst (λ (k : ℕ). k < s.attempt) (sym one) high },
        (
          record {
            known = here.known;
            undecided = ap (λ (x : LogOf). is_none x.decided) here.logged;
            elected = sym (ap (λ (x : LogOf). x.elected) here.logged);
            rises = subst (λ (k : ℕ). k < s.attempt) (sym number) (omega arith);
            first = λ is_one. absurd (omega arith);
          },
          tt,
        ),
      )
    where
      one_join : nat_lt 1 s.attempt ≡ true → join_in t 0 s.attempt ++ [] ≡ log.Join t s.attempt ∷ []
      one_join is = rw is refl

  first_attempt : (dir : Dir) → s.attempted ≡ Some dir → nat_lt 1 s.attempt ≡ false → OrderlyAfter site (before ++ vote) (log.Attempt t s.attempt dir ∷ [])
  first_attempt dir a is =
      let low : s.attempt ≤ 1 = ltb-false 1 s.attempt is in
      let some : 1 ≤ s.attempt = fit.some dir a in
      let one : last_elected t (before ++ vote) ≡ 1 = ap (λ (x : LogOf). x.elected) behind_vote.logged in
      let number : last_attempt t (before ++ vote) ≡ 0 = ap (λ (x : LogOf). x.attempt) behind_vote.logged in (
        record {
          known = behind_vote.known;
          undecided = ap (λ (x : LogOf). is_none x.decided) behind_vote.logged;
          elected = omega arith;
          rises = subst (λ (k : ℕ). k < s.attempt) (sym number) (omega arith);
          first = λ is_one. let h = fit.first dir a is_one in (ap (λ (x : LogOf). x.voted) behind_vote.logged ∙ h.0, h.1);
        },
        tt,
      )

  second : (a : Option Dir) → s.attempted ≡ a → OrderlyAfter site (before ++ vote) (attempt_in t a s.attempt)
  second None a = tt
  second (Some dir) a = by (nat_lt 1 s.attempt) refl
    where
      by : (b : Bool) → nat_lt 1 s.attempt ≡ b → OrderlyAfter site (before ++ vote) (attempt_in t (Some dir) s.attempt)
      by true is = rw is (later_attempt dir is)
      by false is = rw is (first_attempt dir a is)

  behind_attempt : At site t ((before ++ vote) ++ tries) (by_attempt s)
  behind_attempt =
      let nothing : join_in t s.attempt (max 1 s.attempt) ++ [] ≡ [] = no_join (le-ltb (max 1 s.attempt) (max 1 s.attempt) (omega arith)) in
      at_prefix site t before (by_attempt s) none known (fit_by_attempt s fit) ((before ++ vote) ++ tries)
      (append_assoc before vote tries ∙ ap (λ y. before ++ (vote ++ y)) (sym (ap (λ y. tries ++ y) nothing ∙ append-nil tries)))
    where
      no_join : nat_lt (max 1 s.attempt) (max 1 s.attempt) ≡ false → join_in t s.attempt (max 1 s.attempt) ++ [] ≡ []
      no_join is = rw is refl

  third : (b : Bool) → nat_lt (max 1 s.attempt) s.elected ≡ b → OrderlyAfter site ((before ++ vote) ++ tries) joins
  third true is =
      let high : max 1 s.attempt < s.elected = ltb-true (max 1 s.attempt) s.elected is in
      let last : last_elected t ((before ++ vote) ++ tries) ≡ max 1 s.attempt = ap (λ (x : LogOf). x.elected) behind_attempt.logged in
      rw is (record { known = behind_attempt.known; rises = subst (λ (k : ℕ). k < s.elected) (sym last) high }, tt)
  third false is = rw is tt

  behind_join : At site t (((before ++ vote) ++ tries) ++ joins) (undecided s)
  behind_join =
      at_prefix site t before (undecided s) none known (fit_undecided s fit) (((before ++ vote) ++ tries) ++ joins)
      (append_assoc (before ++ vote) tries joins ∙ append_assoc before vote (tries ++ joins) ∙ ap (λ y. before ++ (vote ++ (tries ++ y))) (sym (append-nil joins)))

  fourth : (d : Option Dir) → s.decided ≡ d → OrderlyAfter site (((before ++ vote) ++ tries) ++ joins) (decision_in t d)
  fourth None is = tt
  fourth (Some dir) is = (
    record {
      known = behind_join.known;
      undecided = ap (λ (x : LogOf). is_none x.decided) behind_join.logged;
      voted = λ commits. ap (λ (x : LogOf). x.voted) behind_join.logged ∙ fit.commit (is ∙ ap (λ (x : Dir). Some x) commits);
    },
    tt,
  )

  notes_follow : OrderlyAfter site before (notes t s)
  notes_follow =
      orderly_append site before vote (tries ++ (joins ++ decision_in t s.decided)) (first s.voted)
      (orderly_append site (before ++ vote) tries (joins ++ decision_in t s.decided) (second s.attempted refl)
      (orderly_append site ((before ++ vote) ++ tries) joins (decision_in t s.decided) (third (nat_lt (max 1 s.attempt) s.elected) refl) (fourth s.decided refl)))

-- transactions that ascend, up to one of them
each_at : {A : Type 0} (P : A → Type 0) (xs : List A) (x : A) (ys : List A) → Each P (xs ++ x ∷ ys) → P x
each_at P [] x ys each = each.0
each_at P (z ∷ xs) x ys each = each_at P xs x ys each.1

ascends_front : (xs ys : List Txn) → Ascends (xs ++ ys) → Ascends xs
ascends_front [] ys up = tt
ascends_front (x ∷ xs) ys up = (each-left (IsLater x) xs ys up.0, ascends_front xs ys up.1)

off_front : (t : Txn) (xs ys : List Txn) → Ascends (xs ++ t ∷ ys) → list_any (same_txn t) xs ≡ false
off_front t [] ys up = refl
off_front t (x ∷ xs) ys up =
    let later : IsLater x t = each_at (IsLater x) xs t ys up.0 in
    or_from (same_txn t x) (list_any (same_txn t) xs) (other_way x t later.other) (off_front t xs ys up.1)

front_push : (l : List Record) (ts : List Txn) (t : Txn) → front l ts ++ noted l t ≡ front l (ts ++ t ∷ [])
front_push l ts t =
    let born = born_in (table_of l) l in
    let inc = inc_in (logged_inc l) in
    let last : blocks l ts ++ noted l t ≡ blocks l (ts ++ t ∷ []) =
    ap (λ y. blocks l ts ++ y) (sym (append-nil (noted l t))) ∙ sym (flat_map-append (noted l) ts (t ∷ [])) in
    append_assoc born (inc ++ blocks l ts) (noted l t) ∙ ap (λ y. born ++ y) (append_assoc inc (blocks l ts) (noted l t)) ∙ ap (λ y. born ++ (inc ++ y)) last

one_block : (site : ℕ) (l : List Record) (ts : List Txn) (t : Txn) → IsOrderly site l → Ascends ts → list_any (same_txn t) ts ≡ false → own_of t l ≢ [] → OrderlyAfter site (front l ts) (noted l t)
one_block site l ts t orderly up off heard =
    let shape : Shape site t l = shape_of site t l orderly in
    let parts = known_parts site l t (shape.known heard) in
    let known : is_known site (front l ts) t ≡ true =
    known_from site (front l ts) t (subst (λ (k : ℕ). 1 ≤ k) (sym (front_inc l ts)) parts.0)
    (subst (λ w. is_among site w t.sites ≡ true) (sym (front_weights l ts)) parts.1) in
    let none : own_of t (front l ts) ≡ [] = own_of_front t l ts up ∙ ap (λ c. cond c (noted l t) []) off in
    notes_follow site t (front l ts) (kept_of t l) none known (kept_fit t l shape.fit) (vote_free site l ts t orderly up off)

blocks_follow : (site : ℕ) (l : List Record) (ts rest : List Txn) → IsOrderly site l → Ascends (ts ++ rest) → Each (λ t. own_of t l ≢ []) rest → OrderlyAfter site (front l ts) (blocks l rest)
blocks_follow site l ts [] orderly up heard = tt
blocks_follow site l ts (t ∷ rest) orderly up heard =
    orderly_append site (front l ts) (noted l t) (blocks l rest)
    (one_block site l ts t orderly (ascends_front ts (t ∷ rest) up) (off_front t ts rest up) heard.0)
    (subst (λ (x : List Record). OrderlyAfter site x (blocks l rest)) (sym (front_push l ts t))
    (blocks_follow site l (ts ++ t ∷ []) rest orderly (subst (λ (x : List Txn). Ascends x) (sym (append_assoc ts (t ∷ []) rest)) up) heard.1))

-- one birth stands in an orderly log, and first
no_births : (site : ℕ) (rows : List Row) (before rest : List Record) → before ≢ [] → OrderlyAfter site before rest → born_in rows rest ≡ []
no_births site rows before [] some orderly = refl
no_births site rows before (log.Birth format number weights was ∷ rest) some orderly = absurd (some orderly.0.first)
no_births site rows before (log.Inc n ∷ rest) some orderly = no_births site rows (before ++ log.Inc n ∷ []) rest (no_push before (log.Inc n)) orderly.1
no_births site rows before (log.Vote u ops ∷ rest) some orderly = no_births site rows (before ++ log.Vote u ops ∷ []) rest (no_push before (log.Vote u ops)) orderly.1
no_births site rows before (log.Join u n ∷ rest) some orderly = no_births site rows (before ++ log.Join u n ∷ []) rest (no_push before (log.Join u n)) orderly.1
no_births site rows before (log.Attempt u n dir ∷ rest) some orderly = no_births site rows (before ++ log.Attempt u n dir ∷ []) rest (no_push before (log.Attempt u n dir)) orderly.1
no_births site rows before (log.Decision u dir ∷ rest) some orderly = no_births site rows (before ++ log.Decision u dir ∷ []) rest (no_push before (log.Decision u dir)) orderly.1

born_follows : (site : ℕ) (l : List Record) → IsOrderly site l → (rows : List Row) → names_ascend rows ≡ true → OrderlyAfter site [] (born_in rows l)
born_follows site [] orderly rows up = tt
born_follows site (log.Birth format number weights was ∷ rest) orderly rows up =
    let some : (log.Birth format number weights was ∷ []) ≢ [] = λ e. absurd cc in
    let alone : log.Birth format number weights rows ∷ [] ≡ born_in rows (log.Birth format number weights was ∷ rest) =
    ap (λ y. log.Birth format number weights rows ∷ y) (sym (no_births site rows (log.Birth format number weights was ∷ []) rest some orderly.1)) in
    let m = orderly.0 in
    subst (λ (x : List Record). OrderlyAfter site [] x) alone
    (record { first = refl; one = m.one; of_site = m.of_site; known = m.known; few = m.few; weighed = m.weighed; ascending = up }, tt)
born_follows site (log.Inc n ∷ rest) orderly rows up = absurd (orderly.0.born refl)
born_follows site (log.Vote t ops ∷ rest) orderly rows up = absurd (let h : false ≡ true = orderly.0.known in cc)
born_follows site (log.Join t n ∷ rest) orderly rows up = absurd (let h : false ≡ true = orderly.0.known in cc)
born_follows site (log.Attempt t n dir ∷ rest) orderly rows up = absurd (let h : false ≡ true = orderly.0.known in cc)
born_follows site (log.Decision t dir ∷ rest) orderly rows up = absurd (let h : false ≡ true = orderly.0.known in cc)

-- the birth stands where an incarnation does
born_some : (site : ℕ) (l : List Record) → IsOrderly site l → (rows : List Row) → 1 ≤ logged_inc l → born_in rows l ≢ []
born_some site [] orderly rows some = absurd (omega arith)
born_some site (log.Birth format number weights was ∷ rest) orderly rows some = λ e. absurd cc
born_some site (log.Inc n ∷ rest) orderly rows some = absurd (orderly.0.born refl)
born_some site (log.Vote t ops ∷ rest) orderly rows some = absurd (let h : false ≡ true = orderly.0.known in cc)
born_some site (log.Join t n ∷ rest) orderly rows some = absurd (let h : false ≡ true = orderly.0.known in cc)
born_some site (log.Attempt t n dir ∷ rest) orderly rows some = absurd (let h : false ≡ true = orderly.0.known in cc)
born_some site (log.Decision t dir ∷ rest) orderly rows some = absurd (let h : false ≡ true = orderly.0.known in cc)

inc_follows : (site : ℕ) (before : List Record) (n : ℕ) → (1 ≤ n → before ≢ []) → logged_inc before ≡ 0 → OrderlyAfter site before (inc_in n)
inc_follows site before n some zero = by (nat_lt 0 n) refl
  where
    by : (b : Bool) → nat_lt 0 n ≡ b → OrderlyAfter site before (inc_in n)
    by true is =
        let high : 0 < n = ltb-true 0 n is in
        rw is (record { born = some (omega arith); first = λ e. omega arith; next = λ low. absurd (omega arith) }, tt)
    by false is = rw is tt

pub brief_orderly : (site : ℕ) (l : List Record) → IsOrderly site l → IsOrderly site (brief l)
brief_orderly site l orderly =
    let rows = table_of l in
    let born = born_in rows l in
    let inc = inc_in (logged_inc l) in
    let ts = txns_of l in
    let begins : logged_inc born ≡ 0 =
    fold_leaves logged_inc_by 0 born (each_born (λ r. logged_inc_by 0 r ≡ 0) rows (λ format number weights. refl) l) in
    orderly_append site [] born (inc ++ blocks l ts) (born_follows site l orderly rows (table_ascends site l orderly))
    (orderly_append site born inc (blocks l ts) (inc_follows site born (logged_inc l) (born_some site l orderly rows) begins)
    (subst (λ (x : List Record). OrderlyAfter site (born ++ x) (blocks l ts)) (append-nil inc)
    (blocks_follow site l [] ts orderly (ascends_fold [] (flat_map txn_of_record l) tt) (heard_txns l))))
