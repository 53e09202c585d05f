-- The brief of an orderly log is orderly.
use Rattle.std.proofs.Common.{◌≡◌, ◌∷◌, [], ◌++◌, ◌||◌, ◌&&◌, ℕ, Bool, true, false, cond, List, ◌⊎◌, inl, inr, refl, sym, ap, subst, ◌∙◌, append_assoc, append-nil, if◌then◌else◌}
use Rattle.std.specs.Prelude.{not}
use Rattle.std.specs.List.{list_any, list_all, AllByRecursion as Each}
use Rattle.std.proofs.lemmas.Bool.{or_parts, or_from, and_from, and_parts, not-true, not_from_false, true≢false}
use Rattle.std.proofs.lemmas.List.Folds.{list_any-append}
use Rattle.e3_types.specs.declared.locks.Lock.{Lock}
use Rattle.e3_types.specs.declared.locks.Mode.{Mode}
use Rattle.e3_types.specs.declared.locks.Mode.TheVariants.{Shared, Exclusive}
use Rattle.e3_types.specs.declared.records.Record.{Record}
use Rattle.e3_types.specs.declared.records.Record.TheVariants as log
use Rattle.e3_types.specs.declared.transactions.NumOp.{NumOp}
use Rattle.e3_types.specs.declared.transactions.Txn.{Txn}
use Rattle.e3_types.specs.Locks.{conflicts, opposes}
use Rattle.e3_types.specs.Same.{same_numbers, same_txn}
use Rattle.e3_types.proofs.SameSites.{same_numbers_eq, same_numbers_refl}
use Rattle.e3_world.specs.Logs.{has_voted, is_undecided, key_of, lock_on, ops_of_vote, voted_locks, voted_ops}
use Rattle.e3_world.specs.Orderly.{is_free, MayFollow, OrderlyAfter, IsOrderly}
use Rattle.e3_laws.specs.brief.Alike.{locks_by}
use Rattle.e3_world.specs.Brief.{noted, open_ops}
use Rattle.e3_laws.proofs.brief.Briefs.{logged_from, own_of_front, front}
use Rattle.e3_laws.proofs.brief.Going.{open_before}
use Rattle.e3_laws.proofs.brief.Locks.{any_back, free_is, lock_of, locks_for, locks_own, none_by, equal_tests}
use Rattle.e3_laws.proofs.brief.Notes.{kept_of, logged_notes, kept_fit}
use Rattle.e3_laws.proofs.brief.Readings.{own_of}
use Rattle.e3_laws.proofs.brief.Shape.{LogOf, shape_of, Quiet, quiet_from, ops_push}
use Rattle.e3_laws.proofs.steps.Ascending.{Ascends, same_from}
use Rattle.e3_laws.proofs.steps.Each.{each-weaker}
use Rattle.e3_laws.proofs.steps.Tests.{same_is}

pub orderly_append : (site : ℕ) (before xs ys : List Record) → OrderlyAfter site before xs → OrderlyAfter site (before ++ xs) ys → OrderlyAfter site before (xs ++ ys)
orderly_append site before [] ys first more = subst (λ (l : List Record). OrderlyAfter site l ys) (append-nil before) more
orderly_append site before (x ∷ xs) ys first more =
    (first.0, orderly_append site (before ++ x ∷ []) xs ys first.1 (subst (λ (l : List Record). OrderlyAfter site l ys) (sym (append_assoc before (x ∷ []) xs)) more))

-- Operations of two transactions that don't conflict.
abbrev hits : Txn → NumOp → Txn → NumOp → Bool
hits t o u p = list_any (opposes (lock_of t o)) (lock_on (key_of o.op).name u p.op)

abbrev Apart : Txn → List NumOp → Txn → List NumOp → Type 0
Apart t xs u ys = Each (λ o. Each (λ p. hits t o u p ≡ false) ys) xs

same_sym : (t u : Txn) → same_txn t u ≡ same_txn u t
same_sym t u = equal_tests (same_txn t u) (same_txn u t) (λ is. same_from u t (sym (same_is t u is))) (λ is. same_from t u (sym (same_is u t is)))

conflicts_sym : (m n : Mode) → conflicts m n ≡ conflicts n m
conflicts_sym Shared Shared = refl
conflicts_sym Shared Exclusive = refl
conflicts_sym Exclusive Shared = refl
conflicts_sym Exclusive Exclusive = refl

opposes_sym : (a b : Lock) → opposes a b ≡ opposes b a
opposes_sym a b = λ i. not (same_sym b.txn a.txn i) && conflicts_sym b.mode a.mode i

hits_sym : (t : Txn) (o : NumOp) (u : Txn) (p : NumOp) → hits t o u p ≡ false → hits u p t o ≡ false
hits_sym t o u p free = by (same_numbers (key_of p.op).name (key_of o.op).name) refl
  where
    by : (b : Bool) → same_numbers (key_of p.op).name (key_of o.op).name ≡ b → hits u p t o ≡ false
    by false is = rw is refl
    by true is =
        let names : (key_of p.op).name ≡ (key_of o.op).name = same_numbers_eq (key_of p.op).name (key_of o.op).name is in
        let other : same_numbers (key_of o.op).name (key_of p.op).name ≡ true =
        subst (λ (n : List ℕ). same_numbers (key_of o.op).name n ≡ true) (sym names) (same_numbers_refl (key_of o.op).name) in
        let h : (opposes (lock_of t o) (lock_of u p) || false) ≡ false = rw other at free in
        let here : opposes (lock_of u p) (lock_of t o) ≡ false =
        opposes_sym (lock_of u p) (lock_of t o) ∙ (or_parts (opposes (lock_of t o) (lock_of u p)) false h).0 in
        rw is (or_from (opposes (lock_of u p) (lock_of t o)) false here refl)

each_swap : {A B : Type 0} (R S : A → B → Type 0) → ((x : A) (y : B) → R x y → S x y) → (xs : List A) (ys : List B) → Each (λ x. Each (λ y. R x y) ys) xs → Each (λ y. Each (λ x. S x y) xs) ys
each_swap R S to xs [] each = tt
each_swap R S to xs (y ∷ ys) each = (
  each-weaker (λ x. Each (λ z. R x z) (y ∷ ys)) (λ x. S x y) (λ x h. to x y h.0) xs each,
  each_swap R S to xs ys (each-weaker (λ x. Each (λ z. R x z) (y ∷ ys)) (λ x. Each (λ z. R x z) ys) (λ x h. h.1) xs each),
)

apart_sym : (t : Txn) (xs : List NumOp) (u : Txn) (ys : List NumOp) → Apart t xs u ys → Apart u ys t xs
apart_sym t xs u ys apart = each_swap (λ o p. hits t o u p ≡ false) (λ o p. hits u p t o ≡ false) (λ o p h. hits_sym t o u p h) xs ys apart

-- a test that no lock of operations passes
any_locks : (q : Lock → Bool) (name : List ℕ) (u : Txn) (ys : List NumOp) → list_any q (locks_for name u ys) ≡ false → Each (λ p. list_any q (lock_on name u p.op) ≡ false) ys
any_locks q name u [] none = tt
any_locks q name u (p ∷ ys) none =
    let h = or_parts (list_any q (lock_on name u p.op)) (list_any q (locks_for name u ys)) (sym (list_any-append q (lock_on name u p.op) (locks_for name u ys)) ∙ none) in
    (h.0, any_locks q name u ys h.1)

no_locks : (q : Lock → Bool) (name : List ℕ) (u : Txn) (ys : List NumOp) → Each (λ p. list_any q (lock_on name u p.op) ≡ false) ys → list_any q (locks_for name u ys) ≡ false
no_locks q name u [] each = refl
no_locks q name u (p ∷ ys) each =
    list_any-append q (lock_on name u p.op) (locks_for name u ys) ∙ or_from (list_any q (lock_on name u p.op)) (list_any q (locks_for name u ys)) each.0 (no_locks q name u ys each.1)

-- what a free lock says of the votes of an undecided transaction
free_of : (t : Txn) (l : List Record) (o : NumOp) (u : Txn) → is_undecided u l ≡ true → is_free t l o ≡ true → Each (λ p. hits t o u p ≡ false) (voted_ops u l)
free_of t l o u undecided free =
    let name = (key_of o.op).name in
    let q = opposes (lock_of t o) in
    let none : list_any q (voted_locks name l) ≡ false = not-true (list_any q (voted_locks name l)) (sym (free_is t l o) ∙ free) in
    any_locks q name u (voted_ops u l) (ap (λ (x : List Lock). list_any q x) (sym (locks_own name u l ∙ its undecided name)) ∙ own q name none)
  where
    its : is_undecided u l ≡ true → (name : List ℕ) → (if is_undecided u l then locks_for name u (voted_ops u l) else []) ≡ locks_for name u (voted_ops u l)
    its is name = rw is refl

    own : (q : Lock → Bool) (name : List ℕ) → list_any q (voted_locks name l) ≡ false → list_any q (locks_by u (voted_locks name l)) ≡ false
    own q name none = by (list_any q (locks_by u (voted_locks name l))) refl
      where
        by : (b : Bool) → list_any q (locks_by u (voted_locks name l)) ≡ b → b ≡ false
        by false is = refl
        by true is = absurd (true≢false (sym (any_back q u (voted_locks name l) is) ∙ none))

each_free : (t : Txn) (l : List Record) (u : Txn) → is_undecided u l ≡ true → (ops : List NumOp) → list_all (is_free t l) ops ≡ true → Apart t ops u (voted_ops u l)
each_free t l u undecided [] free = tt
each_free t l u undecided (o ∷ ops) free =
    let h = and_parts (is_free t l o) (list_all (is_free t l) ops) free in
    (free_of t l o u undecided h.0, each_free t l u undecided ops h.1)

no_ops : (t : Txn) (l : List Record) → has_voted t l ≡ false → voted_ops t l ≡ []
no_ops t [] none = refl
no_ops t (log.Birth format site weights rows ∷ l) none = no_ops t l none
no_ops t (log.Inc n ∷ l) none = no_ops t l none
no_ops t (log.Join u n ∷ l) none = no_ops t l none
no_ops t (log.Attempt u n dir ∷ l) none = no_ops t l none
no_ops t (log.Decision u dir ∷ l) none = no_ops t l none
no_ops t (log.Vote u ops ∷ l) none = let h = or_parts (same_txn t u) (has_voted t l) none in rw h.0 (no_ops t l h.1)

-- The votes of undecided transactions of a log don't conflict.
abbrev AllApart : List Record → Type 0
AllApart l = (t u : Txn) → same_txn t u ≡ false → is_undecided t l ≡ true → is_undecided u l ≡ true → Apart t (voted_ops t l) u (voted_ops u l)

same_apart : (t u : Txn) (xs xs' ys ys' : List NumOp) → xs ≡ xs' → ys ≡ ys' → Apart t xs u ys → Apart t xs' u ys'
same_apart t u xs xs' ys ys' ex ey apart = subst (λ x. Apart t x u ys') ex (subst (λ y. Apart t xs u y) ey apart)

vote_apart : (site : ℕ) (l : List Record) (w : Txn) (ops : List NumOp) → MayFollow site l (log.Vote w ops) → AllApart l → AllApart (l ++ log.Vote w ops ∷ [])
vote_apart site l w ops may all t u differ t_open u_open = by (same_txn t w) refl (same_txn u w) refl
  where
    adds : (x : Txn) → same_txn x w ≡ true → voted_ops x (l ++ log.Vote w ops ∷ []) ≡ ops
    adds x is =
        let same : x ≡ w = same_is x w is in
        let q : Quiet w l = quiet_from w l may.fresh in
        ops_push x l (log.Vote w ops) ∙ ap (λ y. y ++ ops_of_vote x (log.Vote w ops)) (no_ops x l (subst (λ (y : Txn). has_voted y l ≡ false) (sym same) q.unvoted)) ∙ its is
      where
        its : same_txn x w ≡ true → ops_of_vote x (log.Vote w ops) ≡ ops
        its is = rw is refl

    keeps : (x : Txn) → same_txn x w ≡ false → voted_ops x (l ++ log.Vote w ops ∷ []) ≡ voted_ops x l
    keeps x is = ops_push x l (log.Vote w ops) ∙ ap (λ y. voted_ops x l ++ y) (its is) ∙ append-nil (voted_ops x l)
      where
        its : same_txn x w ≡ false → ops_of_vote x (log.Vote w ops) ≡ []
        its is = rw is refl

    t_was : is_undecided t l ≡ true
    t_was = open_before t l (log.Vote w ops) t_open

    u_was : is_undecided u l ≡ true
    u_was = open_before u l (log.Vote w ops) u_open

    new : (x : Txn) → is_undecided x l ≡ true → (y : Txn) → same_txn y w ≡ true → Apart y ops x (voted_ops x l)
    new x x_was y is = subst (λ (z : Txn). Apart z ops x (voted_ops x l)) (sym (same_is y w is)) (each_free w l x x_was ops may.free)

    by : (b : Bool) → same_txn t w ≡ b → (c : Bool) → same_txn u w ≡ c
        → Apart t (voted_ops t (l ++ log.Vote w ops ∷ [])) u (voted_ops u (l ++ log.Vote w ops ∷ []))
    by true t_is true u_is = absurd (true≢false (sym (same_from t u (same_is t w t_is ∙ sym (same_is u w u_is))) ∙ differ))
    by true t_is false u_is = same_apart t u _ _ _ _ (sym (adds t t_is)) (sym (keeps u u_is)) (new u u_was t t_is)
    by false t_is true u_is = same_apart t u _ _ _ _ (sym (keeps t t_is)) (sym (adds u u_is)) (apart_sym u ops t (voted_ops t l) (new t t_was u u_is))
    by false t_is false u_is = same_apart t u _ _ _ _ (sym (keeps t t_is)) (sym (keeps u u_is)) (all t u differ t_was u_was)

other_apart : (l : List Record) (r : Record) → ((t : Txn) → ops_of_vote t r ≡ []) → AllApart l → AllApart (l ++ r ∷ [])
other_apart l r none all t u differ t_open u_open =
    same_apart t u _ _ _ _ (sym (keeps t)) (sym (keeps u)) (all t u differ (open_before t l r t_open) (open_before u l r u_open))
  where
    keeps : (x : Txn) → voted_ops x (l ++ r ∷ []) ≡ voted_ops x l
    keeps x = ops_push x l r ∙ ap (λ y. voted_ops x l ++ y) (none x) ∙ append-nil (voted_ops x l)

next_apart : (site : ℕ) (l : List Record) (r : Record) → MayFollow site l r → AllApart l → AllApart (l ++ r ∷ [])
next_apart site l (log.Vote w ops) may all = vote_apart site l w ops may all
next_apart site l (log.Birth format number weights rows) may all = other_apart l (log.Birth format number weights rows) (λ t. refl) all
next_apart site l (log.Inc n) may all = other_apart l (log.Inc n) (λ t. refl) all
next_apart site l (log.Join u n) may all = other_apart l (log.Join u n) (λ t. refl) all
next_apart site l (log.Attempt u n dir) may all = other_apart l (log.Attempt u n dir) (λ t. refl) all
next_apart site l (log.Decision u dir) may all = other_apart l (log.Decision u dir) (λ t. refl) all

apart_all : (site : ℕ) (l rest : List Record) → AllApart l → OrderlyAfter site l rest → AllApart (l ++ rest)
apart_all site l [] all orderly = subst (λ (x : List Record). AllApart x) (sym (append-nil l)) all
apart_all site l (r ∷ rest) all orderly =
    subst (λ (x : List Record). AllApart x) (append_assoc l (r ∷ []) rest) (apart_all site (l ++ r ∷ []) rest (next_apart site l r orderly.0 all) orderly.1)

orderly_apart : (site : ℕ) (l : List Record) → IsOrderly site l → AllApart l
orderly_apart site l orderly = apart_all site [] l (λ t u differ t_open u_open. tt) orderly

-- the vote of a transaction that no record before is of, behind a brief that has these transactions
pub vote_free : (site : ℕ) (l : List Record) (ts : List Txn) (t : Txn) → IsOrderly site l → Ascends ts → list_any (same_txn t) ts ≡ false
    → list_all (is_free t (front l ts)) (open_ops t l) ≡ true
vote_free site l ts t orderly up off = by (is_undecided t l) refl
  where
    -- what the brief has of the operations of a transaction
    empty_or : (u : Txn) → (voted_ops u (front l ts) ≡ []) ⊎ ((same_txn t u ≡ false) × (is_undecided u l ≡ true) × (voted_ops u (front l ts) ≡ voted_ops u l))
    empty_or u = at (list_any (same_txn u) ts) refl (is_undecided u l) refl
      where
        own : (b : Bool) → list_any (same_txn u) ts ≡ b → own_of u (front l ts) ≡ cond b (noted l u) []
        own b is = own_of_front u l ts up ∙ ap (λ c. cond c (noted l u) []) is

        kept : list_any (same_txn u) ts ≡ true → voted_ops u (front l ts) ≡ open_ops u l
        kept is =
            ap (λ (s : LogOf). s.ops) (logged_from u (front l ts) (noted l u) (own true is) ∙ logged_notes u (kept_of u l) (kept_fit u l (shape_of site u l orderly).fit))

        others : list_any (same_txn u) ts ≡ true → same_txn t u ≡ false
        others is = differ (same_txn t u) refl
          where
            differ : (b : Bool) → same_txn t u ≡ b → b ≡ false
            differ false e = refl
            differ true e = absurd (true≢false (sym is ∙ subst (λ (x : Txn). list_any (same_txn x) ts ≡ false) (same_is t u e) off))

        opens : (b : Bool) → is_undecided u l ≡ b → open_ops u l ≡ (if b then voted_ops u l else [])
        opens b is = rw is refl

        at : (b : Bool) → list_any (same_txn u) ts ≡ b → (c : Bool) → is_undecided u l ≡ c
            → (voted_ops u (front l ts) ≡ []) ⊎ ((same_txn t u ≡ false) × (is_undecided u l ≡ true) × (voted_ops u (front l ts) ≡ voted_ops u l))
        at false is c open_is = inl (ap (λ (s : LogOf). s.ops) (logged_from u (front l ts) [] (own false is)))
        at true is false open_is = inl (kept is ∙ opens false open_is)
        at true is true open_is = inr (others is, open_is, kept is ∙ opens true open_is)

    none : (o : NumOp) → ((u : Txn) → same_txn t u ≡ false → is_undecided u l ≡ true → Each (λ p. hits t o u p ≡ false) (voted_ops u l)) → is_free t (front l ts) o ≡ true
    none o clear =
        free_is t (front l ts) o
        ∙ not_from_false (list_any (opposes (lock_of t o)) (voted_locks (key_of o.op).name (front l ts)))
        (none_by (opposes (lock_of t o)) (voted_locks (key_of o.op).name (front l ts)) each)
      where
        some : (u : Txn) (c : Bool) → list_any (opposes (lock_of t o)) (locks_for (key_of o.op).name u (voted_ops u (front l ts))) ≡ false
            → list_any (opposes (lock_of t o)) (if c then locks_for (key_of o.op).name u (voted_ops u (front l ts)) else []) ≡ false
        some u true is = is
        some u false is = refl

        ops_free : (u : Txn) → list_any (opposes (lock_of t o)) (locks_for (key_of o.op).name u (voted_ops u (front l ts))) ≡ false
        ops_free u = elim (empty_or u) [
          | inl gone ↦ ap (λ (x : List NumOp). list_any (opposes (lock_of t o)) (locks_for (key_of o.op).name u x)) gone
          | inr stays ↦ ap (λ (x : List NumOp). list_any (opposes (lock_of t o)) (locks_for (key_of o.op).name u x)) stays.2
              ∙ no_locks (opposes (lock_of t o)) (key_of o.op).name u (voted_ops u l) (clear u stays.0 stays.1)
        ]

        each : (u : Txn) → list_any (opposes (lock_of t o)) (locks_by u (voted_locks (key_of o.op).name (front l ts))) ≡ false
        each u = ap (λ (x : List Lock). list_any (opposes (lock_of t o)) x) (locks_own (key_of o.op).name u (front l ts)) ∙ some u (is_undecided u (front l ts)) (ops_free u)

    each_op : (ops : List NumOp) → ((u : Txn) → same_txn t u ≡ false → is_undecided u l ≡ true → Apart t ops u (voted_ops u l)) → list_all (is_free t (front l ts)) ops ≡ true
    each_op [] clear = refl
    each_op (o ∷ ops) clear =
        and_from (is_free t (front l ts) o) (list_all (is_free t (front l ts)) ops)
        (none o (λ u differ opens. (clear u differ opens).0)) (each_op ops (λ u differ opens. (clear u differ opens).1))

    by : (b : Bool) → is_undecided t l ≡ b → list_all (is_free t (front l ts)) (open_ops t l) ≡ true
    by true is = rw is (each_op (voted_ops t l) (λ u differ opens. orderly_apart site l orderly t u differ is opens))
    by false is = rw is refl
