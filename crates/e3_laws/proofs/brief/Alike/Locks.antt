-- The lock rule says the same where locks by votes stand in another order.
use Rattle.std.proofs.Common.{◌≡◌, ◌&&◌, ◌||◌, ◌++◌, ◌∷◌, [], ℕ, Bool, true, false, not, List, Option, Some, None, refl, sym, ap, ◌∙◌, if◌then◌else◌, map, filter, append_assoc}
use Rattle.std.specs.List.{flat_map, list_all, list_any, AllByRecursion as Each}
use Rattle.std.proofs.lemmas.Grind.{fold-append, flat_map-append}
use Rattle.std.proofs.lemmas.List.{map-append}
use Rattle.std.proofs.lemmas.List.Elements.{filter-append}
use Rattle.std.proofs.lemmas.List.Folds.{list_any-append}
use Rattle.e3_types.specs.declared.locks.Grant.{Grant}
use Rattle.e3_types.specs.declared.locks.Grant.TheVariants.{Held, Waits, Dies}
use Rattle.e3_types.specs.declared.locks.Lock.{Lock}
use Rattle.e3_types.specs.declared.locks.Mode.{Mode}
use Rattle.e3_types.specs.declared.records.Record.{Record}
use Rattle.e3_types.specs.declared.records.Record.TheVariants as log
use Rattle.e3_types.specs.declared.transactions.NumOp.{NumOp}
use Rattle.e3_types.specs.declared.transactions.Op.{Op}
use Rattle.e3_types.specs.declared.transactions.Txn.{Txn}
use Rattle.e3_types.specs.Locks.{against, covers, front, grant_against, is_covered, lock_grant, opposes}
use Rattle.e3_types.specs.Same.{is_older, same_numbers, same_txn}
use Rattle.e3_world.specs.Items.{txn_of_record}
use Rattle.e3_world.specs.Logs.{is_undecided, key_of, lock_on, mode_of, vote_locks, voted_locks, voted_ops}
use Rattle.e3_laws.specs.brief.Alike.{locks_by}
use Rattle.e3_laws.proofs.brief.Lists.{flat_alike}
use Rattle.e3_laws.proofs.brief.Locks.{any_alike, equal_tests, locks_for, locks_own}
use Rattle.e3_laws.proofs.steps.Each.{each-append, each-filter, each-left, each-map, each-right}
use Rattle.e3_laws.proofs.steps.Undecided.{open_before}
use Rattle.e3_world.specs.Transactions.{IsFoundByBits}
use Rattle.e3_laws.proofs.brief.Alike.Notes.{NotesAlike, notes_more, notes_open}
use Rattle.e3_laws.proofs.brief.Alike.Oldest.{SameFound, older_of, oldest_is, oldest_of, oldest_turned}

-- each test finds one among the first where it finds one among the second
abbrev pub SameHeld : List Lock → List Lock → Type 0
SameHeld h k = (p : Lock → Bool) → list_any p h ≡ list_any p k

pub held_behind : (d h k : List Lock) → SameHeld h k → SameHeld (d ++ h) (d ++ k)
held_behind d h k same p = list_any-append p d h ∙ ap (λ (b : Bool). list_any p d || b) (same p) ∙ sym (list_any-append p d k)

pub held_before : (h k d : List Lock) → SameHeld h k → SameHeld (h ++ d) (k ++ d)
held_before h k d same p = list_any-append p h d ∙ ap (λ (b : Bool). b || list_any p d) (same p) ∙ sym (list_any-append p k d)

-- the front of a queue
pub front_same : (h k : List Lock) → SameHeld h k → (q : List Lock) → front h q ≡ front k q
front_same h k same [] = refl
front_same h k same (next ∷ q) = λ i.
    if same (opposes next) i then [] else next ∷ front_same (h ++ next ∷ []) (k ++ next ∷ []) (held_before h k (next ∷ []) same) q i

-- those who are against a lock
any_against : (p : Txn → Bool) (w : Lock) (ls : List Lock) → list_any p (against w ls) ≡ list_any (λ (l : Lock). opposes w l && p l.txn) ls
any_against p w [] = refl
any_against p w (l ∷ ls) = by (any_against p w ls) (opposes w l) refl
  where
    by : list_any p (against w ls) ≡ list_any (λ (x : Lock). opposes w x && p x.txn) ls → (b : Bool) → opposes w l ≡ b
        → list_any p (against w (l ∷ ls)) ≡ list_any (λ (x : Lock). opposes w x && p x.txn) (l ∷ ls)
    by more true is = rw is (ap (λ (c : Bool). p l.txn || c) more)
    by more false is = rw is more

found_against : (w : Lock) (h k : List Lock) → SameHeld h k → SameFound (against w h) (against w k)
found_against w h k same p = any_against p w h ∙ same (λ (l : Lock). opposes w l && p l.txn) ∙ sym (any_against p w k)

against_append : (w : Lock) (xs ys : List Lock) → against w (xs ++ ys) ≡ against w xs ++ against w ys
against_append w xs ys =
    ap (λ (l : List Lock). map (λ (x : Lock). x.txn) l) (filter-append (opposes w) xs ys)
    ∙ map-append (λ (x : Lock). x.txn) (filter (opposes w) xs) (filter (opposes w) ys)

known_against : (w : Lock) (ls : List Lock) → Each (λ (l : Lock). IsFoundByBits l.txn) ls → Each IsFoundByBits (against w ls)
known_against w ls known = each-map IsFoundByBits (λ (l : Lock). l.txn) (filter (opposes w) ls) (each-filter (λ (l : Lock). IsFoundByBits l.txn) (opposes w) ls known)

-- a test that all pass
all_is : (p : Txn → Bool) (ts : List Txn) → list_all p ts ≡ not (list_any (λ (t : Txn). not (p t)) ts)
all_is p [] = refl
all_is p (t ∷ ts) = by (all_is p ts) (p t) refl
  where
    by : list_all p ts ≡ not (list_any (λ (x : Txn). not (p x)) ts) → (b : Bool) → p t ≡ b → list_all p (t ∷ ts) ≡ not (list_any (λ (x : Txn). not (p x)) (t ∷ ts))
    by more true is = rw is more
    by more false is = rw is refl

all_found : (p : Txn → Bool) (us vs : List Txn) → SameFound us vs → list_all p us ≡ list_all p vs
all_found p us vs same = all_is p us ∙ ap not (same (λ (t : Txn). not (p t))) ∙ sym (all_is p vs)

-- what is answered of a transaction that is against these, by whether it is older than all of them and the oldest of them
abbrev answer_of : Bool → Option Txn → Grant
answer_of b None = Held
answer_of b (Some u) = if b then Waits else Dies u

grant_is : (t : Txn) (us : List Txn) → grant_against t us ≡ answer_of (list_all (is_older t) us) (oldest_of None us)
grant_is t [] = refl
grant_is t (u ∷ us) = ap (answer_of (list_all (is_older t) (u ∷ us))) (sym (oldest_is u us))

-- Locks that differ in the order of some in their middle, whose transactions are known.
pub record LocksAlike (h k : List Lock) : Type 0 where
  pub ahead : List Lock
  pub mine : List Lock
  pub theirs : List Lock
  pub behind : List Lock
  pub first : h ≡ ahead ++ (mine ++ behind)
  pub second : k ≡ ahead ++ (theirs ++ behind)
  pub same : SameHeld mine theirs
  pub known : Each (λ (l : Lock). IsFoundByBits l.txn) mine
  pub known_too : Each (λ (l : Lock). IsFoundByBits l.txn) theirs

pub alike_held : (h k : List Lock) → LocksAlike h k → SameHeld h k
alike_held h k a p =
    ap (λ (l : List Lock). list_any p l) a.first
    ∙ held_behind a.ahead (a.mine ++ a.behind) (a.theirs ++ a.behind) (held_before a.mine a.theirs a.behind a.same) p
    ∙ ap (λ (l : List Lock). list_any p l) (sym a.second)

old_append : (o : Option Txn) (w : Lock) (xs ys : List Lock) → oldest_of o (against w (xs ++ ys)) ≡ oldest_of (oldest_of o (against w xs)) (against w ys)
old_append o w xs ys = ap (λ (l : List Txn). oldest_of o l) (against_append w xs ys) ∙ fold-append older_of o (against w xs) (against w ys)

old_parts : (w : Lock) (f m b q : List Lock) →
    oldest_of None (against w ((f ++ (m ++ b)) ++ q)) ≡ oldest_of (oldest_of (oldest_of None (against w f)) (against w m)) (against w (b ++ q))
old_parts w f m b q =
    ap (λ (l : List Lock). oldest_of None (against w l)) (append_assoc f (m ++ b) q ∙ ap (λ (l : List Lock). f ++ l) (append_assoc m b q))
    ∙ old_append None w f (m ++ (b ++ q))
    ∙ old_append (oldest_of None (against w f)) w m (b ++ q)

old_alike : (w : Lock) (h k q : List Lock) → LocksAlike h k → oldest_of None (against w (h ++ q)) ≡ oldest_of None (against w (k ++ q))
old_alike w h k q a =
    ap (λ (l : List Lock). oldest_of None (against w (l ++ q))) a.first
    ∙ old_parts w a.ahead a.mine a.behind q
    ∙ ap (λ (o : Option Txn). oldest_of o (against w (a.behind ++ q)))
    (oldest_turned (oldest_of None (against w a.ahead)) (against w a.mine) (against w a.theirs) (found_against w a.mine a.theirs a.same)
    (known_against w a.mine a.known) (known_against w a.theirs a.known_too))
    ∙ sym (old_parts w a.ahead a.theirs a.behind q)
    ∙ ap (λ (l : List Lock). oldest_of None (against w (l ++ q))) (sym a.second)

-- the lock rule
pub grant_alike : (w : Lock) (h k q : List Lock) → LocksAlike h k → lock_grant w h q ≡ lock_grant w k q
grant_alike w h k q a = λ i. if covered i then Held else grants i
  where
    covered : is_covered w h ≡ is_covered w k
    covered = alike_held h k a (λ (l : Lock). same_txn l.txn w.txn && covers l.mode w.mode)

    found : SameFound (against w (h ++ q)) (against w (k ++ q))
    found = found_against w (h ++ q) (k ++ q) (held_before h k q (alike_held h k a))

    answered : answer_of (list_all (is_older w.txn) (against w (h ++ q))) (oldest_of None (against w (h ++ q)))
        ≡ answer_of (list_all (is_older w.txn) (against w (k ++ q))) (oldest_of None (against w (k ++ q)))
    answered = λ i. answer_of (all_found (is_older w.txn) (against w (h ++ q)) (against w (k ++ q)) found i) (old_alike w h k q a i)

    grants : grant_against w.txn (against w (h ++ q)) ≡ grant_against w.txn (against w (k ++ q))
    grants = grant_is w.txn (against w (h ++ q)) ∙ answered ∙ sym (grant_is w.txn (against w (k ++ q)))

-- Locks by votes of logs that say the same of each transaction.
locks_notes : (x y : List Record) → NotesAlike x y → (name : List ℕ) (t : Txn) → locks_by t (voted_locks name x) ≡ locks_by t (voted_locks name y)
locks_notes x y s name t = locks_own name t x ∙ by (is_undecided t x) refl ∙ sym (locks_own name t y)
  where
    by : (c : Bool) → is_undecided t x ≡ c → (if is_undecided t x then locks_for name t (voted_ops t x) else []) ≡ (if is_undecided t y then locks_for name t (voted_ops t y) else [])
    by true is = let other : is_undecided t y ≡ true = sym (notes_open x y s t) ∙ is in rw (is, other) (ap (locks_for name t) (s.ops t is))
    by false is = let other : is_undecided t y ≡ false = sym (notes_open x y s t) ∙ is in rw (is, other) refl

held_notes : (x y : List Record) → NotesAlike x y → (name : List ℕ) → SameHeld (voted_locks name x) (voted_locks name y)
held_notes x y s name p = equal_tests (list_any p (voted_locks name x)) (list_any p (voted_locks name y))
    (any_alike p (voted_locks name x) (voted_locks name y) (locks_notes x y s name))
    (any_alike p (voted_locks name y) (voted_locks name x) (λ t. sym (locks_notes x y s name t)))

-- what holds of each lock that operations of a transaction take
each_lock : (P : Lock → Type 0) (name : List ℕ) (u : Txn) (op : Op) → ((m : Mode) → P (record { txn = u; mode = m })) → Each P (lock_on name u op)
each_lock P name u op all = by (same_numbers name (key_of op).name) refl
  where
    by : (b : Bool) → same_numbers name (key_of op).name ≡ b → Each P (lock_on name u op)
    by true is = rw is (all (mode_of op), tt)
    by false is = rw is tt

each_for : (P : Lock → Type 0) (name : List ℕ) (u : Txn) (ops : List NumOp) → ((m : Mode) → P (record { txn = u; mode = m })) → Each P (locks_for name u ops)
each_for P name u [] all = tt
each_for P name u (o ∷ ops) all = each-append P (lock_on name u o.op) (locks_for name u ops) (each_lock P name u o.op all) (each_for P name u ops all)

any_each : (p q : Lock → Bool) (ls : List Lock) → Each (λ (l : Lock). p l ≡ q l) ls → list_any p ls ≡ list_any q ls
any_each p q [] each = refl
any_each p q (l ∷ ls) each = λ i. each.0 i || any_each p q ls each.1 i

no_lock : (ls : List Lock) → list_any (λ (l : Lock). false) ls ≡ false
no_lock [] = refl
no_lock (l ∷ ls) = no_lock ls

-- a test of locks whose transactions these records leave undecided
abbrev still : List Record → (Lock → Bool) → Lock → Bool
still all p l = is_undecided l.txn all && p l

-- of the votes of a log those locks stay whose transactions more records leave undecided
one_still : (name : List ℕ) (all was : List Record) (r : Record) → ((u : Txn) → is_undecided u all ≡ true → is_undecided u was ≡ true) → (p : Lock → Bool)
    → list_any p (vote_locks name all r) ≡ list_any (still all p) (vote_locks name was r)
one_still name all was (log.Vote u ops) free p = by (is_undecided u all) refl (is_undecided u was) refl
  where
    by : (b : Bool) → is_undecided u all ≡ b → (c : Bool) → is_undecided u was ≡ c → list_any p (vote_locks name all (log.Vote u ops)) ≡ list_any (still all p) (vote_locks name was (log.Vote u ops))
    by true is c here =
        let there : is_undecided u was ≡ true = free u is in
        rw (is, there) (sym (any_each (still all p) p (locks_for name u ops)
        (each_for (λ (l : Lock). still all p l ≡ p l) name u ops (λ m. ap (λ (b : Bool). b && p (record { txn = u; mode = m })) is))))
    by false is true here = rw (is, here) (sym (any_each (still all p) (λ (l : Lock). false) (locks_for name u ops)
        (each_for (λ (l : Lock). still all p l ≡ false) name u ops (λ m. ap (λ (b : Bool). b && p (record { txn = u; mode = m })) is))
        ∙ no_lock (locks_for name u ops)))
    by false is false here = rw (is, here) refl
one_still name all was r free p = refl

all_still : (name : List ℕ) (all was l : List Record) → ((u : Txn) → is_undecided u all ≡ true → is_undecided u was ≡ true) → (p : Lock → Bool)
    → list_any p (flat_map (vote_locks name all) l) ≡ list_any (still all p) (flat_map (vote_locks name was) l)
all_still name all was [] free p = refl
all_still name all was (r ∷ rs) free p =
    list_any-append p (vote_locks name all r) (flat_map (vote_locks name all) rs)
    ∙ (λ i. one_still name all was r free p i || all_still name all was rs free p i)
    ∙ sym (list_any-append (still all p) (vote_locks name was r) (flat_map (vote_locks name was) rs))

held_still : (name : List ℕ) (x y more : List Record) → NotesAlike x y → SameHeld (flat_map (vote_locks name (x ++ more)) x) (flat_map (vote_locks name (y ++ more)) y)
held_still name x y more s p =
    all_still name (x ++ more) x x (λ u. open_before u x more) p
    ∙ held_notes x y s name (still (x ++ more) p)
    ∙ (λ i. list_any (λ (l : Lock). notes_open (x ++ more) (y ++ more) (notes_more x y more s) l.txn i && p l) (voted_locks name y))
    ∙ sym (all_still name (y ++ more) y y (λ u. open_before u y more) p)

-- their transactions are those of the log
known_vote : (name : List ℕ) (all : List Record) (r : Record) → Each IsFoundByBits (txn_of_record r) → Each (λ (l : Lock). IsFoundByBits l.txn) (vote_locks name all r)
known_vote name all (log.Vote u ops) known = by (is_undecided u all) refl
  where
    by : (b : Bool) → is_undecided u all ≡ b → Each (λ (l : Lock). IsFoundByBits l.txn) (vote_locks name all (log.Vote u ops))
    by true is = rw is (each_for (λ (l : Lock). IsFoundByBits l.txn) name u ops (λ m. known.0))
    by false is = rw is tt
known_vote name all r known = tt

known_votes : (name : List ℕ) (all l : List Record) → Each IsFoundByBits (flat_map txn_of_record l) → Each (λ (l : Lock). IsFoundByBits l.txn) (flat_map (vote_locks name all) l)
known_votes name all [] known = tt
known_votes name all (r ∷ rs) known = each-append (λ (l : Lock). IsFoundByBits l.txn) (vote_locks name all r) (flat_map (vote_locks name all) rs)
    (known_vote name all r (each-left IsFoundByBits (txn_of_record r) (flat_map txn_of_record rs) known))
    (known_votes name all rs (each-right IsFoundByBits (txn_of_record r) (flat_map txn_of_record rs) known))

vote_same : (name : List ℕ) (x y : List Record) → NotesAlike x y → (r : Record) → vote_locks name x r ≡ vote_locks name y r
vote_same name x y s (log.Vote u ops) = λ i. if notes_open x y s u i then locks_for name u ops else []
vote_same name x y s r = refl

-- locks that are held for the same operations done, and for the votes of both logs behind the same records
pub locks_alike : (name : List ℕ) (x y more : List Record) → NotesAlike x y → Each IsFoundByBits (flat_map txn_of_record x) → Each IsFoundByBits (flat_map txn_of_record y)
    → (d e : List Lock) → d ≡ e → LocksAlike (d ++ voted_locks name (x ++ more)) (e ++ voted_locks name (y ++ more))
locks_alike name x y more s kx ky d e same = record {
  ahead = d;
  mine = flat_map (vote_locks name (x ++ more)) x;
  theirs = flat_map (vote_locks name (y ++ more)) y;
  behind = flat_map (vote_locks name (x ++ more)) more;
  first = ap (λ (l : List Lock). d ++ l) (flat_map-append (vote_locks name (x ++ more)) x more);
  second = (λ i. sym same i ++ voted_locks name (y ++ more))
      ∙ ap (λ (l : List Lock). d ++ l) (flat_map-append (vote_locks name (y ++ more)) y more)
      ∙ ap (λ (l : List Lock). d ++ (flat_map (vote_locks name (y ++ more)) y ++ l))
      (sym (flat_alike (vote_locks name (x ++ more)) (vote_locks name (y ++ more)) (vote_same name (x ++ more) (y ++ more) (notes_more x y more s)) more));
  same = held_still name x y more s;
  known = known_votes name (x ++ more) x kx;
  known_too = known_votes name (y ++ more) y ky;
}
