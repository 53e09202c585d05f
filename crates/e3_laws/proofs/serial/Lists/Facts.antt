-- What ordered logs keep, by places: all that the order is proved from.
use Rattle.std.proofs.Common.{◌≡◌, ◌⊎◌, inl, inr, ℕ, ◌==◌, Bool, true, false, cond, ◌||◌, List, [], ◌∷◌, ◌++◌, map, filter, fold, refl, sym, ap, ◌∙◌, subst, Option, Some, None, is_none, Contains}
use Rattle.std.specs.List.{flat_map, list_all}
use Rattle.std.proofs.lemmas.Bool.{true≢false, and_parts, or_left, or_right}
use Rattle.e3_types.specs.declared.locks.Lock.{Lock}
use Rattle.e3_types.specs.declared.locks.Mode.{Mode}
use Rattle.e3_types.specs.declared.locks.Mode.TheVariants.{Shared, Exclusive}
use Rattle.e3_types.specs.declared.records.Record.{Record}
use Rattle.e3_types.specs.declared.records.Record.TheVariants as log
use Rattle.e3_types.specs.declared.transactions.Dir.{Dir}
use Rattle.e3_types.specs.declared.transactions.NumOp.{NumOp}
use Rattle.e3_types.specs.declared.transactions.Op.{Op}
use Rattle.e3_types.specs.declared.transactions.Op.TheVariants.{Read, Write}
use Rattle.e3_types.specs.declared.transactions.Txn.{Txn}
use Rattle.e3_types.specs.Locks.{against, opposes, conflicts}
use Rattle.e3_types.specs.Same.{same_txn}
use Rattle.e3_types.specs.Sets.{has_site}
use Rattle.e3_world.specs.Logs.{has_voted, is_undecided, decision, decision_by, key_of, mode_of, lock_on, vote_locks, voted_locks}
use Rattle.e3_world.specs.Orderly.{is_free}
use Rattle.e3_laws.proofs.agreement.Refinement.Following.{in_from_contains}
use Rattle.e3_laws.proofs.agreement.Refinement.Lists.{same_from}
use Rattle.e3_laws.proofs.agreement.Refinement.Voting.{contains_from_in}
use Rattle.e3_laws.specs.agreement.Logs.{IsIn}
use Rattle.e3_laws.proofs.serial.Lists.Entries.{In, At, Clash, changes, name_of}
use Rattle.e3_laws.proofs.serial.Lists.Names.{eq-same_name}
use Rattle.e3_laws.proofs.serial.Lists.Members.{in_at, at_in, in_front, in_back}
use Rattle.e3_laws.proofs.steps.Tests.{same_is}

pub in_is : {X : Type 0} (x : X) (xs : List X) → In x xs → IsIn x xs
in_is x [] h = absurd h
in_is x (y ∷ xs) (inl e) = inl (sym e)
in_is x (y ∷ xs) (inr k) = inr (in_is x xs k)

pub is_in : {X : Type 0} (x : X) (xs : List X) → IsIn x xs → In x xs
is_in x [] h = absurd h
is_in x (y ∷ xs) (inl e) = inl (sym e)
is_in x (y ∷ xs) (inr k) = inr (is_in x xs k)

pub at_contains : {X : Type 0} (xs : List X) (i : ℕ) (x : X) → At xs i x → Contains xs x
at_contains xs i x h = contains_from_in xs x (in_is x xs (at_in xs i x h))

pub contains_at : {X : Type 0} (xs : List X) (x : X) → Contains xs x → (i : ℕ) × At xs i x
contains_at xs x h = in_at xs x (is_in x xs (in_from_contains xs x h))

-- what a log reads of its votes and decisions
pub vote_has : (t : Txn) (ops : List NumOp) (rs : List Record) → In (log.Vote t ops) rs → has_voted t rs ≡ true
vote_has t ops [] h = absurd h
vote_has t ops (r ∷ rs) (inl e) = subst (λ z. has_voted t (z ∷ rs) ≡ true) (sym e) (or_left (same_txn t t) (has_voted t rs) (same_from t t refl))
vote_has t ops (r ∷ rs) (inr k) = or_right _ (has_voted t rs) (vote_has t ops rs k)

pub has_vote_in : (t : Txn) (rs : List Record) → has_voted t rs ≡ true → (ops : List NumOp) × In (log.Vote t ops) rs
has_vote_in t [] h = absurd (true≢false (sym h))
has_vote_in t (log.Vote u ops ∷ rs) h = go (same_txn t u) refl h (has_vote_in t rs)
  where
    go : (b : Bool) → same_txn t u ≡ b → (b || has_voted t rs) ≡ true → (has_voted t rs ≡ true → (os : List NumOp) × In (log.Vote t os) rs) → (os : List NumOp) × In (log.Vote t os) (log.Vote u ops ∷ rs)
    go true e k ih = (ops, inl (ap (λ z. log.Vote z ops) (sym (same_is t u e))))
    go false e k ih = let z = ih k in (z.0, inr z.1)
has_vote_in t (log.Birth f n w rows ∷ rs) h = let z = has_vote_in t rs h in (z.0, inr z.1)
has_vote_in t (log.Inc m ∷ rs) h = let z = has_vote_in t rs h in (z.0, inr z.1)
has_vote_in t (log.Join u n ∷ rs) h = let z = has_vote_in t rs h in (z.0, inr z.1)
has_vote_in t (log.Attempt u n d ∷ rs) h = let z = has_vote_in t rs h in (z.0, inr z.1)
has_vote_in t (log.Decision u d ∷ rs) h = let z = has_vote_in t rs h in (z.0, inr z.1)

-- a log with a decision stays decided
pub stays_decided : (t : Txn) (d : Dir) (rs : List Record) → (e : Dir) × (fold (decision_by t) (Some d) rs ≡ Some e)
stays_decided t d [] = (d, refl)
stays_decided t d (log.Decision u e ∷ rs) = go (same_txn t u) (stays_decided t e rs) (stays_decided t d rs)
  where
    go : (b : Bool) → (x : Dir) × (fold (decision_by t) (Some e) rs ≡ Some x) → (x : Dir) × (fold (decision_by t) (Some d) rs ≡ Some x) → (x : Dir) × (fold (decision_by t) (cond b (Some e) (Some d)) rs ≡ Some x)
    go true k h = k
    go false k h = h
stays_decided t d (log.Vote u ops ∷ rs) = stays_decided t d rs
stays_decided t d (log.Birth f n w rows ∷ rs) = stays_decided t d rs
stays_decided t d (log.Inc m ∷ rs) = stays_decided t d rs
stays_decided t d (log.Join u n ∷ rs) = stays_decided t d rs
stays_decided t d (log.Attempt u n x ∷ rs) = stays_decided t d rs

-- whatever was decided before, a decision among these records decides
decides_from : (t : Txn) (d : Dir) (was : Option Dir) (rs : List Record) → In (log.Decision t d) rs → (e : Dir) × (fold (decision_by t) was rs ≡ Some e)
decides_from t d was [] h = absurd h
decides_from t d was (r ∷ rs) (inl q) =
    subst (λ z. (e : Dir) × (fold (decision_by t) was (z ∷ rs) ≡ Some e)) (sym q)
    (subst (λ b. (e : Dir) × (fold (decision_by t) (cond b (Some d) was) rs ≡ Some e)) (sym (same_from t t refl)) (stays_decided t d rs))
decides_from t d was (r ∷ rs) (inr k) = decides_from t d (decision_by t was r) rs k

pub decided_not : (t : Txn) (d : Dir) (rs : List Record) → In (log.Decision t d) rs → is_undecided t rs ≡ false
decided_not t d rs h = let z = decides_from t d None rs h in ap is_none z.1

-- what was decided stands, or was decided before
undecided_from : (t : Txn) (rs : List Record) (was : Option Dir) (d : Dir) → fold (decision_by t) was rs ≡ Some d → (was ≡ Some d) ⊎ In (log.Decision t d) rs
undecided_from t [] was d h = inl h
undecided_from t (log.Decision u e ∷ rs) was d h = go (same_txn t u) refl h (undecided_from t rs (Some e) d) (undecided_from t rs was d)
  where
    go : (b : Bool) → same_txn t u ≡ b → fold (decision_by t) (cond b (Some e) was) rs ≡ Some d
        → (fold (decision_by t) (Some e) rs ≡ Some d → (Some e ≡ Some d) ⊎ In (log.Decision t d) rs)
        → (fold (decision_by t) was rs ≡ Some d → (was ≡ Some d) ⊎ In (log.Decision t d) rs)
        → (was ≡ Some d) ⊎ In (log.Decision t d) (log.Decision u e ∷ rs)
    go true q k ih other = elim (ih k) [ inl a ↦ inr (inl (let x : e ≡ d = cc in let y : u ≡ t = sym (same_is t u q) in λ i. log.Decision (y i) (x i))) | inr b ↦ inr (inr b) ]
    go false q k ih other = elim (other k) [ inl a ↦ inl a | inr b ↦ inr (inr b) ]
undecided_from t (log.Vote u ops ∷ rs) was d h = elim (undecided_from t rs was d h) [ inl a ↦ inl a | inr b ↦ inr (inr b) ]
undecided_from t (log.Birth f n w rows ∷ rs) was d h = elim (undecided_from t rs was d h) [ inl a ↦ inl a | inr b ↦ inr (inr b) ]
undecided_from t (log.Inc m ∷ rs) was d h = elim (undecided_from t rs was d h) [ inl a ↦ inl a | inr b ↦ inr (inr b) ]
undecided_from t (log.Join u n ∷ rs) was d h = elim (undecided_from t rs was d h) [ inl a ↦ inl a | inr b ↦ inr (inr b) ]
undecided_from t (log.Attempt u n x ∷ rs) was d h = elim (undecided_from t rs was d h) [ inl a ↦ inl a | inr b ↦ inr (inr b) ]

pub decided_in : (t : Txn) (rs : List Record) → is_undecided t rs ≡ false → (d : Dir) × In (log.Decision t d) rs
decided_in t rs h = go (decision t rs) refl
  where
    go : (o : Option Dir) → decision t rs ≡ o → (d : Dir) × In (log.Decision t d) rs
    go None e = absurd (true≢false (sym (ap is_none e) ∙ h))
    go (Some d) e = elim (undecided_from t rs None d e) [ inl a ↦ absurd (cc) | inr b ↦ (d, b) ]

-- the lock of an operation in a vote that is undecided is held
ops_lock : (name : List ℕ) (t : Txn) (ops : List NumOp) (o : NumOp) → In o ops → name_of o.op ≡ name →
    In (record { txn = t; mode = mode_of o.op }) (flat_map (λ o. lock_on name t o.op) ops)
ops_lock name t [] o h e = absurd h
ops_lock name t (x ∷ ops) o (inl q) e =
    subst (λ z. In (record { txn = t; mode = mode_of o.op }) (lock_on name t z.op ++ flat_map (λ o. lock_on name t o.op) ops)) (sym q)
    (subst (λ b. In (record { txn = t; mode = mode_of o.op }) (cond b (record { txn = t; mode = mode_of o.op } ∷ []) [] ++ flat_map (λ o. lock_on name t o.op) ops))
    (sym (eq-same_name (name_of o.op) name e)) (inl refl))
ops_lock name t (x ∷ ops) o (inr k) e = in_back (lock_on name t x.op) (flat_map (λ o. lock_on name t o.op) ops) (record { txn = t; mode = mode_of o.op }) (ops_lock name t ops o k e)

record_lock : (name : List ℕ) (all : List Record) (t : Txn) (ops : List NumOp) (rs : List Record) (o : NumOp) → is_undecided t all ≡ true → In (log.Vote t ops) rs →
    In o ops → name_of o.op ≡ name → In (record { txn = t; mode = mode_of o.op }) (flat_map (vote_locks name all) rs)
record_lock name all t ops [] o u h k e = absurd h
record_lock name all t ops (r ∷ rs) o u (inl q) k e =
    in_front (vote_locks name all r) (flat_map (vote_locks name all) rs) (record { txn = t; mode = mode_of o.op })
    (subst (λ z. In (record { txn = t; mode = mode_of o.op }) (vote_locks name all z)) (sym q)
    (subst (λ b. In (record { txn = t; mode = mode_of o.op }) (cond b (flat_map (λ o. lock_on name t o.op) ops) [])) (sym u) (ops_lock name t ops o k e)))
record_lock name all t ops (r ∷ rs) o u (inr h) k e =
    in_back (vote_locks name all r) (flat_map (vote_locks name all) rs) (record { txn = t; mode = mode_of o.op }) (record_lock name all t ops rs o u h k e)

pub vote_lock : (name : List ℕ) (t : Txn) (ops : List NumOp) (rs : List Record) (o : NumOp) → is_undecided t rs ≡ true → In (log.Vote t ops) rs →
    In o ops → name_of o.op ≡ name → In (record { txn = t; mode = mode_of o.op }) (voted_locks name rs)
vote_lock name t ops rs o u h k e = record_lock name rs t ops rs o u h k e

-- where nobody is against, no lock opposes
is_empty : List Txn → Bool
is_empty [] = true
is_empty (u ∷ us) = false

pub none_against : (wanted l : Lock) (locks : List Lock) → against wanted locks ≡ [] → In l locks → opposes wanted l ≡ false
none_against wanted l [] e h = absurd h
none_against wanted l (x ∷ locks) e h = go (opposes wanted x) refl e h (none_against wanted l locks)
  where
    go : (b : Bool) → opposes wanted x ≡ b → map (λ l. l.txn) (cond b (x ∷ filter (opposes wanted) locks) (filter (opposes wanted) locks)) ≡ [] → In l (x ∷ locks)
        → (against wanted locks ≡ [] → In l locks → opposes wanted l ≡ false) → opposes wanted l ≡ false
    go true q k m ih = absurd (cc)
    go false q k (inl s) ih = subst (λ z. opposes wanted z ≡ false) s q
    go false q k (inr m) ih = ih k m

pub free_none : (t : Txn) (before : List Record) (o : NumOp) → is_free t before o ≡ true →
    against (record { txn = t; mode = mode_of o.op }) (voted_locks (key_of o.op).name before) ≡ []
free_none t before o h = go (against (record { txn = t; mode = mode_of o.op }) (voted_locks (key_of o.op).name before)) refl
  where
    go : (us : List Txn) → against (record { txn = t; mode = mode_of o.op }) (voted_locks (key_of o.op).name before) ≡ us →
        against (record { txn = t; mode = mode_of o.op }) (voted_locks (key_of o.op).name before) ≡ []
    go [] e = e
    go (u ∷ us) e = absurd (let no : is_free t before o ≡ false = rw (e) refl in true≢false (sym h ∙ no))

pub all_in : {X : Type 0} (p : X → Bool) (xs : List X) (x : X) → list_all p xs ≡ true → In x xs → p x ≡ true
all_in p [] x h k = absurd k
all_in p (y ∷ xs) x h (inl e) = subst (λ z. p z ≡ true) e (and_parts (p y) (list_all p xs) h).0
all_in p (y ∷ xs) x h (inr k) = all_in p xs x (and_parts (p y) (list_all p xs) h).1 k

-- locks of which one is exclusive conflict
mode_exclusive : (o : Op) → changes o ≡ true → mode_of o ≡ Exclusive
mode_exclusive (Read key) h = absurd (true≢false (sym h))
mode_exclusive (Write key val) h = refl

exclusive_left : (m : Mode) → conflicts Exclusive m ≡ true
exclusive_left Shared = refl
exclusive_left Exclusive = refl

exclusive_right : (m : Mode) → conflicts m Exclusive ≡ true
exclusive_right Shared = refl
exclusive_right Exclusive = refl

pub clash_conflicts : (a b : Op) → Clash a b → conflicts (mode_of a) (mode_of b) ≡ true
clash_conflicts a b c = elim c.one_changes [
  | inl h ↦ subst (λ z. conflicts z (mode_of b) ≡ true) (sym (mode_exclusive a h)) (exclusive_left (mode_of b))
  | inr h ↦ subst (λ z. conflicts (mode_of a) z ≡ true) (sym (mode_exclusive b h)) (exclusive_right (mode_of a))
]

pub has_in_sites : (sites : List ℕ) (s : ℕ) → has_site sites s ≡ true → In s sites
has_in_sites [] s h = absurd (true≢false (sym h))
has_in_sites (x ∷ sites) s h = go (x == s) refl h (has_in_sites sites s)
  where
    go : (b : Bool) → (x == s) ≡ b → (b || has_site sites s) ≡ true → (has_site sites s ≡ true → In s sites) → In s (x ∷ sites)
    go true e k ih = inl (Rattle.std.proofs.Common.eqb-true x s e)
    go false e k ih = inr (ih k)
