-- A log reads as its brief does.
use Rattle.std.proofs.Common.{◌≡◌, ◌≢◌, ◌∷◌, [], ◌++◌, ℕ, Bool, true, false, cond, List, Some, None, is_none, refl, sym, ap, subst, ◌∙◌, fold, append_assoc, append-nil, arith}
use Rattle.std.specs.Prelude.{nat_lt}
use Rattle.std.specs.List.{flat_map, list_any, AllByRecursion as Each}
use Rattle.std.proofs.lemmas.Bool.{ltb-false}
use Rattle.std.proofs.lemmas.Grind.{fold-append, flat_map-append}
use Rattle.std.proofs.lemmas.List.Elements.{filter-append}
use Rattle.e3_types.specs.declared.records.Record.{Record}
use Rattle.e3_types.specs.declared.records.Record.TheVariants as log
use Rattle.e3_types.specs.declared.transactions.Dir.{Dir}
use Rattle.e3_types.specs.declared.transactions.Dir.TheVariants.{Abort, Commit}
use Rattle.e3_types.specs.declared.transactions.NumOp.{NumOp}
use Rattle.e3_types.specs.declared.transactions.Row.{Row}
use Rattle.e3_types.specs.declared.transactions.Txn.{Txn}
use Rattle.e3_types.specs.Same.{same_txn}
use Rattle.e3_world.specs.Items.{add_txn, txn_of_record}
use Rattle.e3_world.specs.Logs.{decision, install_op, is_undecided, logged_inc, logged_inc_by, table_by, table_of, voted_ops}
use Rattle.e3_world.specs.Orderly.{weights_by, weights_in, IsOrderly}
use Rattle.e3_laws.specs.brief.Alike.{ReadAlike}
use Rattle.e3_world.specs.Brief.{brief, born_by, born_in, inc_in, noted, open_ops, txns_of}
use Rattle.e3_laws.proofs.brief.Lists.{fold_leaves, none_pass}
use Rattle.e3_laws.proofs.brief.Notes.{kept_of, each_note, notes_of, logged_notes, kept_fit, no_notes, some_notes, open_cases}
use Rattle.e3_laws.proofs.brief.Readings.{is_of, own_of, none_of, own_of_blocks, elected_from, attempt_from, attempted_from, decision_from, voted_from, ops_from}
use Rattle.e3_laws.proofs.brief.Shape.{LogOf, logged_of, Shape, shape_of}
use Rattle.e3_laws.proofs.steps.Ascending.{IsLater, Ascends, ascends_fold, each_fold, add_blocks, off_fold}
use Rattle.e3_laws.proofs.steps.Each.{each-of, each-append, each-weaker}
use Rattle.e3_laws.proofs.steps.Tests.{same_self}

-- what a list of one transaction's own records says is what the log says
pub logged_from : (t : Txn) (l own : List Record) → own_of t l ≡ own → logged_of t l ≡ logged_of t own
logged_from t l own is = λ i. record {
  voted = voted_from t l own is i;
  ops = ops_from t l own is i;
  attempted = attempted_from t l own is i;
  attempt = attempt_from t l own is i;
  elected = elected_from t l own is i;
  decided = decision_from t l own is i;
}

-- a log has nothing of a transaction that no record is of
abbrev pub unlogged : LogOf
unlogged = record { voted = false; ops = []; attempted = None; attempt = 0; elected = 1; decided = None }

kept_none : (t : Txn) (l : List Record) → own_of t l ≡ [] → kept_of t l ≡ unlogged
kept_none t l none =
    let ops : open_ops t l ≡ [] = open_cases t l (λ x. x ≡ []) refl (ops_from t l [] none) in
    λ i. record {
      voted = voted_from t l [] none i;
      ops = ops i;
      attempted = attempted_from t l [] none i;
      attempt = attempt_from t l [] none i;
      elected = elected_from t l [] none i;
      decided = decision_from t l [] none i;
    }

-- facts of births
pub each_born : (P : Record → Type 0) (rows : List Row) → ((format site : ℕ) (weights : List ℕ) → P (log.Birth format site weights rows)) → (l : List Record) → Each P (born_in rows l)
each_born P rows all [] = tt
each_born P rows all (log.Birth format site weights was ∷ l) = (all format site weights, each_born P rows all l)
each_born P rows all (log.Inc n ∷ l) = each_born P rows all l
each_born P rows all (log.Vote u ops ∷ l) = each_born P rows all l
each_born P rows all (log.Join u n ∷ l) = each_born P rows all l
each_born P rows all (log.Attempt u n dir ∷ l) = each_born P rows all l
each_born P rows all (log.Decision u dir ∷ l) = each_born P rows all l

pub each_inc : (P : Record → Type 0) (n : ℕ) → P (log.Inc n) → Each P (inc_in n)
each_inc P n one = by (nat_lt 0 n) refl
  where
    by : (b : Bool) → nat_lt 0 n ≡ b → Each P (inc_in n)
    by true is = rw is (one, tt)
    by false is = rw is tt

pub each_flat : {A B : Type 0} (P : B → Type 0) (f : A → List B) → ((x : A) → Each P (f x)) → (xs : List A) → Each P (flat_map f xs)
each_flat P f all [] = tt
each_flat P f all (x ∷ xs) = each-append P (f x) (flat_map f xs) (all x) (each_flat P f all xs)

-- the notes of these transactions, and a brief that has these alone
abbrev pub blocks : List Record → List Txn → List Record
blocks l ts = flat_map (noted l) ts

abbrev pub front : List Record → List Txn → List Record
front l ts = born_in (table_of l) l ++ (inc_in (logged_inc l) ++ blocks l ts)

-- facts of the notes of all transactions, where each decision is one of the log
pub each_block : (P : Record → Type 0) (l : List Record) → ((t : Txn) (ops : List NumOp) → P (log.Vote t ops)) → ((t : Txn) (n : ℕ) → P (log.Join t n))
    → ((t : Txn) (n : ℕ) (dir : Dir) → P (log.Attempt t n dir)) → ((t : Txn) (dir : Dir) → decision t l ≡ Some dir → P (log.Decision t dir)) → (ts : List Txn) → Each P (blocks l ts)
each_block P l vote join attempt decide ts = each_flat P (noted l) (λ t. each_note P t (kept_of t l) (vote t) (join t) (attempt t) (decide t)) ts

-- such a brief has of each of its transactions what is noted of it
pub own_of_front : (t : Txn) (l : List Record) (ts : List Txn) → Ascends ts → own_of t (front l ts) ≡ cond (list_any (same_txn t) ts) (noted l t) []
own_of_front t l ts up =
    let rows = table_of l in
    let first : own_of t (born_in rows l) ≡ [] = none_pass (is_of t) (born_in rows l) (each_born (λ r. is_of t r ≡ false) rows (λ format site weights. refl) l) in
    let second : own_of t (inc_in (logged_inc l)) ≡ [] = none_pass (is_of t) (inc_in (logged_inc l)) (each_inc (λ r. is_of t r ≡ false) (logged_inc l) refl) in
    filter-append (is_of t) (born_in rows l) (inc_in (logged_inc l) ++ blocks l ts)
    ∙ ap (λ x. x ++ own_of t (inc_in (logged_inc l) ++ blocks l ts)) first
    ∙ filter-append (is_of t) (inc_in (logged_inc l)) (blocks l ts)
    ∙ ap (λ x. x ++ own_of t (blocks l ts)) second
    ∙ own_of_blocks (noted l) t (λ b u same. notes_of b t u (kept_of u l) same) ts up (list_any (same_txn t) ts) refl

own_of_brief : (t : Txn) (l : List Record) → own_of t (brief l) ≡ noted l t
own_of_brief t l = own_of_front t l (txns_of l) (ascends_fold [] (flat_map txn_of_record l) tt) ∙ by (list_any (same_txn t) (txns_of l)) refl
  where
    by : (b : Bool) → list_any (same_txn t) (txns_of l) ≡ b → cond b (noted l t) [] ≡ noted l t
    by true is = refl
    by false is = sym (no_notes t (kept_of t l) (kept_none t l (none_of t l (off_fold t [] (flat_map txn_of_record l) is).0)))

pub logged_of_brief : (site : ℕ) (t : Txn) (l : List Record) → IsOrderly site l → logged_of t (brief l) ≡ kept_of t l
logged_of_brief site t l orderly =
    logged_from t (brief l) (noted l t) (own_of_brief t l) ∙ logged_notes t (kept_of t l) (kept_fit t l (shape_of site t l orderly).fit)

-- births, behind which nothing is one
none_born : (rows : List Row) (xs : List Record) → Each (λ r. born_by rows r ≡ []) xs → born_in rows xs ≡ []
none_born rows [] each = refl
none_born rows (x ∷ xs) each = ap (λ y. y ++ born_in rows xs) each.0 ∙ none_born rows xs each.1

each_rest : (P : Record → Type 0) (l : List Record) → ((n : ℕ) → P (log.Inc n)) → ((t : Txn) (ops : List NumOp) → P (log.Vote t ops)) → ((t : Txn) (n : ℕ) → P (log.Join t n))
    → ((t : Txn) (n : ℕ) (dir : Dir) → P (log.Attempt t n dir)) → ((t : Txn) (dir : Dir) → decision t l ≡ Some dir → P (log.Decision t dir)) → (ts : List Txn) → Each P (inc_in (logged_inc l) ++ blocks l ts)
each_rest P l inc vote join attempt decide ts =
    each-append P (inc_in (logged_inc l)) (blocks l ts) (each_inc P (logged_inc l) (inc (logged_inc l))) (each_block P l vote join attempt decide ts)

born_again : (rows was : List Row) (l : List Record) → born_in rows (born_in was l) ≡ born_in rows l
born_again rows was [] = refl
born_again rows was (log.Birth format site weights born ∷ l) = ap (λ x. log.Birth format site weights rows ∷ x) (born_again rows was l)
born_again rows was (log.Inc n ∷ l) = born_again rows was l
born_again rows was (log.Vote u ops ∷ l) = born_again rows was l
born_again rows was (log.Join u n ∷ l) = born_again rows was l
born_again rows was (log.Attempt u n dir ∷ l) = born_again rows was l
born_again rows was (log.Decision u dir ∷ l) = born_again rows was l

brief_born : (rows : List Row) (l : List Record) → born_in rows (brief l) ≡ born_in rows l
brief_born rows l =
    let rest = inc_in (logged_inc l) ++ blocks l (txns_of l) in
    flat_map-append (born_by rows) (born_in (table_of l) l) rest
    ∙ ap (λ x. born_in rows (born_in (table_of l) l) ++ x)
    (none_born rows rest (each_rest (λ r. born_by rows r ≡ []) l (λ n. refl) (λ t ops. refl) (λ t n. refl) (λ t n dir. refl) (λ t dir is. refl) (txns_of l)))
    ∙ append-nil (born_in rows (born_in (table_of l) l)) ∙ born_again rows (table_of l) l

born_weights : (rows : List Row) (l : List Record) (was : List ℕ) → fold weights_by was (born_in rows l) ≡ fold weights_by was l
born_weights rows [] was = refl
born_weights rows (log.Birth format site weights born ∷ l) was = born_weights rows l weights
born_weights rows (log.Inc n ∷ l) was = born_weights rows l was
born_weights rows (log.Vote u ops ∷ l) was = born_weights rows l was
born_weights rows (log.Join u n ∷ l) was = born_weights rows l was
born_weights rows (log.Attempt u n dir ∷ l) was = born_weights rows l was
born_weights rows (log.Decision u dir ∷ l) was = born_weights rows l was

pub front_weights : (l : List Record) (ts : List Txn) → weights_in (front l ts) ≡ weights_in l
front_weights l ts =
    let born = born_in (table_of l) l in
    let rest = inc_in (logged_inc l) ++ blocks l ts in
    fold-append weights_by [] born rest
    ∙ fold_leaves weights_by (fold weights_by [] born) rest
    (each_rest (λ r. weights_by (fold weights_by [] born) r ≡ fold weights_by [] born) l (λ n. refl) (λ t ops. refl) (λ t n. refl) (λ t n dir. refl) (λ t dir is. refl) ts)
    ∙ born_weights (table_of l) l []

pub front_inc : (l : List Record) (ts : List Txn) → logged_inc (front l ts) ≡ logged_inc l
front_inc l ts =
    let born = born_in (table_of l) l in
    let n = logged_inc l in
    fold-append logged_inc_by 0 born (inc_in n ++ blocks l ts)
    ∙ ap (λ k. fold logged_inc_by k (inc_in n ++ blocks l ts))
    (fold_leaves logged_inc_by 0 born (each_born (λ r. logged_inc_by 0 r ≡ 0) (table_of l) (λ format site weights. refl) l))
    ∙ fold-append logged_inc_by 0 (inc_in n) (blocks l ts)
    ∙ ap (λ k. fold logged_inc_by k (blocks l ts)) (last n (nat_lt 0 n) refl)
    ∙ fold_leaves logged_inc_by n (blocks l ts)
    (each_block (λ r. logged_inc_by n r ≡ n) l (λ t ops. refl) (λ t k. refl) (λ t k dir. refl) (λ t dir is. refl) ts)
  where
    last : (n : ℕ) (b : Bool) → nat_lt 0 n ≡ b → fold logged_inc_by 0 (inc_in n) ≡ n
    last n true is = rw is refl
    last n false is = let low = ltb-false 0 n is in rw is (omega (arith, low))

-- the table of a brief
first_rows : (site : ℕ) (all l : List Record) (rows : List Row) → IsOrderly site l → (l ≡ [] → rows ≡ []) → fold (table_by all) [] (born_in rows l) ≡ rows
first_rows site all [] rows orderly none = sym (none refl)
first_rows site all (log.Birth format number weights was ∷ l) rows orderly none =
    fold_leaves (table_by all) rows (born_in rows l) (each_born (λ r. table_by all rows r ≡ rows) rows (λ format site weights. refl) l)
first_rows site all (log.Inc n ∷ l) rows orderly none = absurd (orderly.0.born refl)
first_rows site all (log.Vote t ops ∷ l) rows orderly none = absurd (let h : false ≡ true = orderly.0.known in cc)
first_rows site all (log.Join t n ∷ l) rows orderly none = absurd (let h : false ≡ true = orderly.0.known in cc)
first_rows site all (log.Attempt t n dir ∷ l) rows orderly none = absurd (let h : false ≡ true = orderly.0.known in cc)
first_rows site all (log.Decision t dir ∷ l) rows orderly none = absurd (let h : false ≡ true = orderly.0.known in cc)

pub forgotten : (site : ℕ) (l : List Record) (t : Txn) → IsOrderly site l → is_undecided t l ≡ false → voted_ops t (brief l) ≡ []
forgotten site l t orderly decided = ap (λ (s : LogOf). s.ops) (logged_of_brief site t l orderly) ∙ none decided
  where
    none : is_undecided t l ≡ false → open_ops t l ≡ []
    none is = rw is refl

brief_table : (site : ℕ) (l : List Record) → IsOrderly site l → table_of (brief l) ≡ table_of l
brief_table site l orderly =
    let rows = table_of l in
    let all = brief l in
    let rest = inc_in (logged_inc l) ++ blocks l (txns_of l) in
    fold-append (table_by all) [] (born_in rows l) rest
    ∙ ap (λ (x : List Row). fold (table_by all) x rest) (first_rows site all l rows orderly (λ none. ap table_of none))
    ∙ fold_leaves (table_by all) rows rest
    (each_rest (λ r. table_by all rows r ≡ rows) l (λ n. refl) (λ t ops. refl) (λ t n. refl) (λ t n dir. refl) (decides rows) (txns_of l))
  where
    decides : (rows : List Row) (t : Txn) (dir : Dir) → decision t l ≡ Some dir → table_by (brief l) rows (log.Decision t dir) ≡ rows
    decides rows t Abort is = refl
    decides rows t Commit is = ap (λ (ops : List NumOp). fold install_op rows ops) (forgotten site l t orderly (ap is_none is))

-- the transactions of a brief
flat_flat : {A B C : Type 0} (g : B → List C) (f : A → List B) (xs : List A) → flat_map g (flat_map f xs) ≡ flat_map (λ x. flat_map g (f x)) xs
flat_flat g f [] = refl
flat_flat g f (x ∷ xs) = flat_map-append g (f x) (flat_map f xs) ∙ ap (λ y. flat_map g (f x) ++ y) (flat_flat g f xs)

-- each record that is not empty-handed names its transaction
own_txns : (t : Txn) (rs : List Record) → Each (λ r. txn_of_record r ≡ t ∷ []) rs → Each (λ x. x ≡ t) (flat_map txn_of_record rs)
own_txns t [] each = tt
own_txns t (r ∷ rs) each =
    subst (λ (x : List Txn). Each (λ y. y ≡ t) (x ++ flat_map txn_of_record rs)) (sym each.0) (refl, own_txns t rs each.1)

some_txns : (t : Txn) (rs : List Record) → Each (λ r. txn_of_record r ≡ t ∷ []) rs → rs ≢ [] → flat_map txn_of_record rs ≢ []
some_txns t [] each some none = absurd (some refl)
some_txns t (r ∷ rs) each some none =
    let e : t ∷ flat_map txn_of_record rs ≡ [] = ap (λ x. x ++ flat_map txn_of_record rs) (sym each.0) ∙ none in absurd cc

note_txns : (l : List Record) (t : Txn) → Each (λ r. txn_of_record r ≡ t ∷ []) (noted l t)
note_txns l t = each_note (λ r. txn_of_record r ≡ t ∷ []) t (kept_of t l) (λ ops. refl) (λ n. refl) (λ n dir. refl) (λ dir is. refl)

-- a transaction of a record of a log has records there
front_some : {A : Type 0} (front : List A) (x : A) (rest : List A) → (front ++ x ∷ rest) ≢ []
front_some [] x rest none = absurd cc
front_some (y ∷ front) x rest none = absurd cc

own_here : (front : List Record) (r : Record) (rest : List Record) (t : Txn) → is_of t r ≡ true → own_of t (front ++ r ∷ rest) ≢ []
own_here front r rest t is none =
    let here : own_of t (r ∷ rest) ≡ r ∷ own_of t rest = rw is refl in
    front_some (own_of t front) r (own_of t rest) (ap (λ x. own_of t front ++ x) (sym here) ∙ sym (filter-append (is_of t) front (r ∷ rest)) ∙ none)

heard_here : (front : List Record) (r : Record) (rest : List Record) → Each (λ t. own_of t (front ++ r ∷ rest) ≢ []) (txn_of_record r)
heard_here front (log.Birth format site weights rows) rest = tt
heard_here front (log.Inc n) rest = tt
heard_here front (log.Vote t ops) rest = (own_here front (log.Vote t ops) rest t (same_self t), tt)
heard_here front (log.Join t n) rest = (own_here front (log.Join t n) rest t (same_self t), tt)
heard_here front (log.Attempt t n dir) rest = (own_here front (log.Attempt t n dir) rest t (same_self t), tt)
heard_here front (log.Decision t dir) rest = (own_here front (log.Decision t dir) rest t (same_self t), tt)

heard_all : (front back : List Record) → Each (λ t. own_of t (front ++ back) ≢ []) (flat_map txn_of_record back)
heard_all front [] = tt
heard_all front (r ∷ rs) =
    each-append (λ t. own_of t (front ++ r ∷ rs) ≢ []) (txn_of_record r) (flat_map txn_of_record rs) (heard_here front r rs)
    (subst (λ (x : List Record). Each (λ t. own_of t x ≢ []) (flat_map txn_of_record rs)) (append_assoc front (r ∷ []) rs) (heard_all (front ++ r ∷ []) rs))

pub heard_txns : (l : List Record) → Each (λ t. own_of t l ≢ []) (txns_of l)
heard_txns l = each_fold (λ t. own_of t l ≢ []) [] (flat_map txn_of_record l) tt (heard_all [] l)

brief_txns : (site : ℕ) (l : List Record) → IsOrderly site l → txns_of (brief l) ≡ txns_of l
brief_txns site l orderly =
    let rows = table_of l in
    let named : Txn → List Txn = λ t. flat_map txn_of_record (noted l t) in
    let first : flat_map txn_of_record (born_in rows l) ≡ [] = no_txn (born_in rows l) (each_born (λ r. txn_of_record r ≡ []) rows (λ format site weights. refl) l) in
    let second : flat_map txn_of_record (inc_in (logged_inc l)) ≡ [] = no_txn (inc_in (logged_inc l)) (each_inc (λ r. txn_of_record r ≡ []) (logged_inc l) refl) in
    let all : flat_map txn_of_record (brief l) ≡ flat_map named (txns_of l) =
    flat_map-append txn_of_record (born_in rows l) (inc_in (logged_inc l) ++ blocks l (txns_of l))
    ∙ ap (λ x. x ++ flat_map txn_of_record (inc_in (logged_inc l) ++ blocks l (txns_of l))) first
    ∙ flat_map-append txn_of_record (inc_in (logged_inc l)) (blocks l (txns_of l))
    ∙ ap (λ x. x ++ flat_map txn_of_record (blocks l (txns_of l))) second
    ∙ flat_flat txn_of_record (noted l) (txns_of l) in
    ap (λ (x : List Txn). fold add_txn [] x) all
    ∙ add_blocks named (λ t. own_txns t (noted l t) (note_txns l t)) [] (txns_of l)
    (each-weaker (λ t. own_of t l ≢ []) (λ t. named t ≢ []) some (txns_of l) (heard_txns l))
    (each-of (λ v. Each (λ u. IsLater u v) []) (λ v. tt) (txns_of l)) (ascends_fold [] (flat_map txn_of_record l) tt)
  where
    no_txn : (rs : List Record) → Each (λ r. txn_of_record r ≡ []) rs → flat_map txn_of_record rs ≡ []
    no_txn [] each = refl
    no_txn (r ∷ rs) each = ap (λ x. x ++ flat_map txn_of_record rs) each.0 ∙ no_txn rs each.1

    some : (t : Txn) → own_of t l ≢ [] → flat_map txn_of_record (noted l t) ≢ []
    some t heard =
        let shape : Shape site t l = shape_of site t l orderly in
        some_txns t (noted l t) (note_txns l t) (some_notes t (kept_of t l) (kept_fit t l shape.fit) (shape.heard heard))

-- only the empty log has an empty brief
brief_some : (site : ℕ) (l : List Record) → IsOrderly site l → brief l ≡ [] → l ≡ []
brief_some site [] orderly none = refl
brief_some site (log.Birth format number weights rows ∷ l) orderly none = absurd cc
brief_some site (log.Inc n ∷ l) orderly none = absurd (orderly.0.born refl)
brief_some site (log.Vote t ops ∷ l) orderly none = absurd (let h : false ≡ true = orderly.0.known in cc)
brief_some site (log.Join t n ∷ l) orderly none = absurd (let h : false ≡ true = orderly.0.known in cc)
brief_some site (log.Attempt t n dir ∷ l) orderly none = absurd (let h : false ≡ true = orderly.0.known in cc)
brief_some site (log.Decision t dir ∷ l) orderly none = absurd (let h : false ≡ true = orderly.0.known in cc)

pub not_empty : (site : ℕ) (l : List Record) → IsOrderly site l → brief l ≡ [] → l ≡ []
not_empty site l orderly none = brief_some site l orderly none

pub brief_reads : (site : ℕ) (l : List Record) → IsOrderly site l → ReadAlike l (brief l)
brief_reads site l orderly =
    let logged : (t : Txn) → logged_of t (brief l) ≡ kept_of t l = λ t. logged_of_brief site t l orderly in
    record {
      empty = λ none. ap brief none;
      some = brief_some site l orderly;
      born = λ rows. sym (brief_born rows l);
      weights = sym (front_weights l (txns_of l));
      inc = sym (front_inc l (txns_of l));
      table = sym (brief_table site l orderly);
      txns = sym (brief_txns site l orderly);
      elected = λ t. sym (ap (λ (s : LogOf). s.elected) (logged t));
      attempt = λ t. sym (ap (λ (s : LogOf). s.attempt) (logged t));
      attempted = λ t. sym (ap (λ (s : LogOf). s.attempted) (logged t));
      decided = λ t. sym (ap (λ (s : LogOf). s.decided) (logged t));
      voted = λ t. sym (ap (λ (s : LogOf). s.voted) (logged t));
      ops = λ t is. sym (ap (λ (s : LogOf). s.ops) (logged t) ∙ all t is);
    }
  where
    all : (t : Txn) → is_undecided t l ≡ true → open_ops t l ≡ voted_ops t l
    all t is = rw is refl
