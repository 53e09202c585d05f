-- A step changes what stands on the names that it touches, and for the transactions that it touches, and nothing else.
use Rattle.std.specs.Prelude.{◌≡◌, ◌==◌, ◌&&◌, ◌||◌, ◌++◌, ◌∷◌, [], ℕ, Bool, true, false, List, filter, map, fold, Option, Some, None}
use Rattle.std.specs.List.{list_any, flat_map}
use Rattle.std.proofs.Common.{refl, ap, sym, subst, ◌∙◌, arith}
use Rattle.std.proofs.lemmas.Grind.{common_steps}
use Rattle.std.proofs.lemmas.List.{append-nil}
use Rattle.std.proofs.lemmas.List.Elements.{filter-append}
use Rattle.std.proofs.lemmas.List.Folds.{list_any-append}
use Rattle.e3_types.specs.declared.entries.Told.{Told}
use Rattle.e3_types.specs.declared.entries.Told.TheVariants as told
use Rattle.e3_types.specs.declared.messages.Message.{Message}
use Rattle.e3_types.specs.declared.messages.Message.TheVariants as msg
use Rattle.e3_types.specs.declared.messages.Packet.{Packet}
use Rattle.e3_types.specs.declared.records.Record.{Record}
use Rattle.e3_types.specs.declared.records.Record.TheVariants as log
use Rattle.e3_types.specs.declared.transactions.Answer.{Answer}
use Rattle.e3_types.specs.declared.transactions.Dir.TheVariants.{Abort, Commit}
use Rattle.e3_types.specs.declared.transactions.Txn.{Txn}
use Rattle.e3_types.specs.Same.{same_numbers, same_txn}
use Rattle.e3_world.specs.declared.lives.Asked.{Asked}
use Rattle.e3_world.specs.declared.lives.Life.{Life}
use Rattle.e3_world.specs.Elections.{is_decision}
use Rattle.e3_world.specs.Logs.{is_undecided}
use Rattle.e3_world.specs.Operations.{arrivals}
use Rattle.e3_world.proofs.Turns.{true_not_false}
use Rattle.e3_readings.proofs.Equal.{same_txn_refl, same_txn_eq}
use Rattle.e3_readings.proofs.Tests.{none_left, none_right}
use Rattle.e3_places.specs.declared.keys.TxnId.{TxnId}
use Rattle.e3_places.specs.declared.places.Claims.{Claims}
use Rattle.e3_places.specs.declared.places.Standing.{Standing}
use Rattle.e3_places.specs.Standing.{is_on, is_of, has_key, stand, standing_one, standing_of, cast_of, is_open, votes_of, claims_of, place_of, row_of, decided_in, is_told, is_sent, is_heard, is_left, again, newly, standing_by, with_cast, votes_by, claims_by, written, row_with, row_by, place_by}
use Rattle.e3_places.specs.Keeping.{txn_id, is_key, claims_at}
use Rattle.e3_readings.specs.Answering.{answered_txns}
use Rattle.e3_places.specs.Touching.{name_of, decided_txns, told_txns, reached, is_moved, moved_names, added, names_touched, keys_touched}
use Rattle.e3_places.proofs.Voting.{filter_both}

-- a test of the items of lists
any_flat : {X Y : Type 0} (p : Y → Bool) (f : X → List Y) (xs : List X) → list_any p (flat_map f xs) ≡ list_any (λ x. list_any p (f x)) xs
any_flat p f [] = refl
any_flat p f (x ∷ xs) = list_any-append p (f x) (flat_map f xs) ∙ ap (λ (b : Bool). list_any p (f x) || b) (any_flat p f xs)

any_map : {X Y : Type 0} (p : Y → Bool) (f : X → Y) (xs : List X) → list_any p (map f xs) ≡ list_any (λ x. p (f x)) xs
any_map p f [] = refl
any_map p f (x ∷ xs) = ap (λ (b : Bool). p (f x) || b) (any_map p f xs)

any_filter : {X : Type 0} (p q : X → Bool) (xs : List X) → list_any p (filter q xs) ≡ list_any (λ x. q x && p x) xs
any_filter p q [] = refl
any_filter p q (x ∷ xs) = by (any_filter p q xs) (q x) refl
  where
    by : list_any p (filter q xs) ≡ list_any (λ x. q x && p x) xs → (b : Bool) → q x ≡ b → list_any p (filter q (x ∷ xs)) ≡ list_any (λ x. q x && p x) (x ∷ xs)
    by ih true e = rw e (ap (λ (c : Bool). p x || c) ih)
    by ih false e = rw e ih

any_alike : {X : Type 0} (p q : X → Bool) → ((x : X) → p x ≡ q x) → (xs : List X) → list_any p xs ≡ list_any q xs
any_alike p q h [] = refl
any_alike p q h (x ∷ xs) = ap (λ (b : Bool). b || list_any p xs) (h x) ∙ ap (λ (b : Bool). q x || b) (any_alike p q h xs)

any_never : {X : Type 0} (xs : List X) → list_any (λ x. false) xs ≡ false
any_never [] = refl
any_never (x ∷ xs) = any_never xs

any_both : {X : Type 0} (p q : X → Bool) (xs : List X) → list_any (λ x. p x || q x) xs ≡ (list_any p xs || list_any q xs)
any_both p q [] = refl
any_both p q (x ∷ xs) = ap (λ (b : Bool). (p x || q x) || b) (any_both p q xs) ∙ by (p x) (q x) (list_any p xs) (list_any q xs)
  where
    by : (b c d e : Bool) → ((b || c) || (d || e)) ≡ ((b || d) || (c || e))
    by true c d e = refl
    by false true true e = refl
    by false true false e = refl
    by false false d e = refl

-- the two searches in either order
any_turned : {X Y : Type 0} (q : X → Y → Bool) (xs : List X) (ys : List Y) → list_any (λ x. list_any (q x) ys) xs ≡ list_any (λ y. list_any (λ x. q x y) xs) ys
any_turned q [] ys = sym (any_never ys)
any_turned q (x ∷ xs) ys = ap (λ (b : Bool). list_any (q x) ys || b) (any_turned q xs ys) ∙ sym (any_both (q x) (λ y. list_any (λ x. q x y) xs) ys)

any_and : {X : Type 0} (p : X → Bool) (b : Bool) (xs : List X) → list_any (λ x. p x && b) xs ≡ (list_any p xs && b)
any_and p b [] = refl
any_and p b (x ∷ xs) = ap (λ (c : Bool). (p x && b) || c) (any_and p b xs) ∙ by (p x) b (list_any p xs)
  where
    by : (c d e : Bool) → ((c && d) || (e && d)) ≡ ((c || e) && d)
    by true true e = refl
    by true false true = refl
    by true false false = refl
    by false d e = refl

-- a transaction that is found passes a test
found : (u : Txn) (p : Txn → Bool) → p u ≡ true → (ts : List Txn) → list_any (same_txn u) ts ≡ true → list_any p ts ≡ true
found u p h [] e = absurd (true_not_false (sym e))
found u p h (t ∷ ts) e = by (found u p h ts) (same_txn u t) refl
  where
    rest : list_any p ts ≡ true → (c : Bool) → (c || list_any p ts) ≡ true
    rest g true = refl
    rest g false = g

    by : (list_any (same_txn u) ts ≡ true → list_any p ts ≡ true) → (b : Bool) → same_txn u t ≡ b → list_any p (t ∷ ts) ≡ true
    by ih true f = ap (λ (b : Bool). b || list_any p ts) (subst (λ (v : Txn). p v ≡ true) (same_txn_eq u t f) h)
    by ih false f = rest (ih (sym (ap (λ (b : Bool). b || list_any (same_txn u) ts) f) ∙ e)) (p t)

-- whom a step decides, or answers, is among those that it reaches
decided_one : (u : Txn) (r : Record) → list_any (same_txn u) (decided_txns r) ≡ is_decision u r
decided_one u (log.Decision t dir) = by (same_txn u t)
  where
    by : (b : Bool) → (b || false) ≡ b
    by true = refl
    by false = refl
decided_one u _ = refl

abbrev Implies : Bool → Bool → Type 0
Implies b c = b ≡ true → c ≡ true

imply_any : {X : Type 0} (p q : X → Bool) → ((x : X) → Implies (p x) (q x)) → (xs : List X) → Implies (list_any p xs) (list_any q xs)
imply_any p q h [] e = e
imply_any p q h (x ∷ xs) e = by (imply_any p q h xs) (p x) (q x) refl refl
  where
    by : Implies (list_any p xs) (list_any q xs) → (b c : Bool) → p x ≡ b → q x ≡ c → list_any q (x ∷ xs) ≡ true
    by ih b true f g = rw g refl
    by ih true false f g = absurd (true_not_false (sym (h x f) ∙ g))
    by ih false false f g = rw g (ih (sym (ap (λ (b : Bool). b || list_any p xs) f) ∙ e))

and_right : (b c : Bool) → (b && c) ≡ true → c ≡ true
and_right true c e = e
and_right false c e = absurd (true_not_false (sym e))

or_false : (b : Bool) → (b || false) ≡ b
or_false true = refl
or_false false = refl

told_one : (a : Asked) (e : Told) → Implies (is_told a e) (list_any (same_txn a.txn) (told_txns e))
told_one a (told.Op t n answer) h = or_false (same_txn a.txn t) ∙ and_right (a.n == n) (same_txn a.txn t) h
told_one a _ h = h

sent_one : (a : Asked) (p : Packet) → Implies (is_sent a p) (list_any (same_txn a.txn) (answered_txns p))
sent_one a p = by p.msg
  where
    by : (k : Message) → Implies (is_sent a (record p { msg = k })) (list_any (same_txn a.txn) (answered_txns (record p { msg = k })))
    by (msg.Done t n inc answer) h = or_false (same_txn a.txn t) ∙ and_right (a.n == n) (same_txn a.txn t) h
    by _ h = absurd (true_not_false (sym h))

or_three : (b c d e : Bool) → Implies b c → Implies d e → Implies (b || d) (c || e)
or_three true c d e f g h = ap (λ (x : Bool). x || e) (f refl)
or_three false true d e f g h = refl
or_three false false d e f g h = g h

reached_is : (u : Txn) (rs : List Record) (events : List Told) (outs : List Packet)
    → list_any (same_txn u) (reached rs events outs) ≡ (list_any (same_txn u) (flat_map decided_txns rs) || (list_any (same_txn u) (flat_map told_txns events) || list_any (same_txn u) (flat_map answered_txns outs)))
reached_is u rs events outs =
    list_any-append (same_txn u) (flat_map decided_txns rs) (flat_map told_txns events ++ flat_map answered_txns outs)
    ∙ ap (λ (b : Bool). list_any (same_txn u) (flat_map decided_txns rs) || b) (list_any-append (same_txn u) (flat_map told_txns events) (flat_map answered_txns outs))

decided_all : (u : Txn) (rs : List Record) → list_any (same_txn u) (flat_map decided_txns rs) ≡ decided_in rs u
decided_all u rs = any_flat (same_txn u) decided_txns rs ∙ any_alike (λ r. list_any (same_txn u) (decided_txns r)) (is_decision u) (decided_one u) rs

reach_decided : (u : Txn) (rs : List Record) (events : List Told) (outs : List Packet) → Implies (decided_in rs u) (list_any (same_txn u) (reached rs events outs))
reach_decided u rs events outs h =
    reached_is u rs events outs
    ∙ ap (λ (b : Bool). b || (list_any (same_txn u) (flat_map told_txns events) || list_any (same_txn u) (flat_map answered_txns outs))) (decided_all u rs ∙ h)

reach_heard : (a : Asked) (events : List Told) (outs : List Packet)
    → Implies (is_heard events outs a) (list_any (same_txn a.txn) (flat_map told_txns events) || list_any (same_txn a.txn) (flat_map answered_txns outs))
reach_heard a events outs =
    or_three (list_any (is_told a) events) (list_any (same_txn a.txn) (flat_map told_txns events)) (list_any (is_sent a) outs) (list_any (same_txn a.txn) (flat_map answered_txns outs))
    (λ h. any_flat (same_txn a.txn) told_txns events ∙ imply_any (is_told a) (λ e. list_any (same_txn a.txn) (told_txns e)) (told_one a) events h)
    (λ h. any_flat (same_txn a.txn) answered_txns outs ∙ imply_any (is_sent a) (λ p. list_any (same_txn a.txn) (answered_txns p)) (sent_one a) outs h)

reach_moved : (rs : List Record) (events : List Told) (outs : List Packet) (s : Standing) → Implies (is_moved rs events outs s) (list_any (same_txn s.asked.txn) (reached rs events outs))
reach_moved rs events outs s h =
    reached_is s.asked.txn rs events outs
    ∙ or_three (decided_in rs s.asked.txn) (list_any (same_txn s.asked.txn) (flat_map decided_txns rs)) (is_heard events outs s.asked) _
    (λ e. decided_all s.asked.txn rs ∙ e) (reach_heard s.asked events outs) h

-- a transaction has its own key
own_key : (t : Txn) → has_key (txn_id t) t ≡ true
own_key t = grind (arith, common_steps)

three_turned : (f m o : Bool) → Implies m f → (f && (m && o)) ≡ (o && m)
three_turned true true true h = refl
three_turned true true false h = refl
three_turned true false true h = refl
three_turned true false false h = refl
three_turned false true o h = absurd (true_not_false (sym (h refl)))
three_turned false false true h = refl
three_turned false false false h = refl

-- what moves on a name is found by the transactions that are reached
touch_any : {X : Type 0} (asked : X → Asked) (m : X → Bool) (ts : List Txn) (name : List ℕ) → ((x : X) → Implies (m x) (list_any (same_txn (asked x).txn) ts)) → (base : List X)
    → list_any (λ t. list_any (λ x. is_of (txn_id t) (asked x) && (m x && is_on name (asked x))) base) ts ≡ list_any (λ x. is_on name (asked x) && m x) base
touch_any asked m ts name h base =
    any_turned (λ t x. is_of (txn_id t) (asked x) && (m x && is_on name (asked x))) ts base
    ∙ any_alike (λ x. list_any (λ t. is_of (txn_id t) (asked x) && (m x && is_on name (asked x))) ts) (λ x. is_on name (asked x) && m x) one base
  where
    one : (x : _) → list_any (λ t. is_of (txn_id t) (asked x) && (m x && is_on name (asked x))) ts ≡ (is_on name (asked x) && m x)
    one x =
        any_and (λ t. is_of (txn_id t) (asked x)) (m x && is_on name (asked x)) ts
        ∙ three_turned (list_any (λ t. is_of (txn_id t) (asked x)) ts) (m x) (is_on name (asked x))
        (λ e. found (asked x).txn (λ t. has_key (txn_id t) (asked x).txn) (own_key (asked x).txn) ts (h x e))

abbrev any_asked : Asked → Bool
any_asked a = true

standing_as : (test : Asked → Bool) (site : ℕ) (life : Life) → standing_of test site life ≡ filter (λ s. test s.asked) (standing_of any_asked site life)
standing_as test site life = all (arrivals site life.steps)
  where
    one : (a : Asked) → standing_one test life.log life.steps a ≡ filter (λ s. test s.asked) (standing_one any_asked life.log life.steps a)
    one a = by (test a) (is_undecided a.txn life.log) refl refl
      where
        by : (b c : Bool) → test a ≡ b → is_undecided a.txn life.log ≡ c → standing_one test life.log life.steps a ≡ filter (λ s. test s.asked) (standing_one any_asked life.log life.steps a)
        by true true e f = rw (e, f) (rw e refl)
        by true false e f = rw (e, f) refl
        by false true e f = rw (e, f) (rw e refl)
        by false false e f = rw (e, f) refl

    all : (xs : List Asked) → flat_map (standing_one test life.log life.steps) xs ≡ filter (λ s. test s.asked) (flat_map (standing_one any_asked life.log life.steps) xs)
    all [] = refl
    all (x ∷ xs) =
        ap (λ (l : List Standing). l ++ flat_map (standing_one test life.log life.steps) xs) (one x)
        ∙ ap (λ (l : List Standing). filter (λ s. test s.asked) (standing_one any_asked life.log life.steps x) ++ l) (all xs)
        ∙ sym (filter-append (λ s. test s.asked) (standing_one any_asked life.log life.steps x) (flat_map (standing_one any_asked life.log life.steps) xs))

votes_as : (test : Asked → Bool) (records : List Record) → votes_of test records ≡ filter test (votes_of any_asked records)
votes_as test records = filter_both (is_open any_asked records) test (is_open test records) one (cast_of records)
  where
    one : (a : Asked) → is_open test records a ≡ (is_open any_asked records a && test a)
    one a = by (test a) (is_undecided a.txn records)
      where
        by : (b c : Bool) → (b && c) ≡ (c && b)
        by true true = refl
        by true false = refl
        by false true = refl
        by false false = refl

-- the names that a step moves of all transactions that it reaches are those on which something moves
moved_on : (name : List ℕ) (site : ℕ) (life : Life) (rs : List Record) (events : List Told) (outs : List Packet)
    → list_any (same_numbers name) (flat_map (λ t. moved_names rs events outs (claims_of (is_of (txn_id t)) site life)) (reached rs events outs))
    ≡ (list_any (is_moved rs events outs) (standing_of (is_on name) site life) || list_any (λ a. decided_in rs a.txn) (votes_of (is_on name) life.log))
moved_on name site life rs events outs =
    any_flat (same_numbers name) (λ t. moved_names rs events outs (claims_of (is_of (txn_id t)) site life)) ts
    ∙ any_alike _ (λ t. some t || voted t) one ts
    ∙ any_both some voted ts
    ∙ ap (λ (b : Bool). b || list_any voted ts) (touch_any (λ s. s.asked) m ts name (reach_moved rs events outs) base ∙ sym (ap (list_any m) (standing_as (is_on name) site life) ∙ any_filter m (λ s. is_on name s.asked) base))
    ∙ ap (λ (b : Bool). list_any m (standing_of (is_on name) site life) || b)
    (touch_any (λ a. a) d ts name (λ a e. reach_decided a.txn rs events outs e) votes ∙ sym (ap (list_any d) (votes_as (is_on name) life.log) ∙ any_filter d (is_on name) votes))
  where
    ts : List Txn
    ts = reached rs events outs

    m : Standing → Bool
    m = is_moved rs events outs

    d : Asked → Bool
    d a = decided_in rs a.txn

    base : List Standing
    base = standing_of any_asked site life

    votes : List Asked
    votes = votes_of any_asked life.log

    some : Txn → Bool
    some t = list_any (λ s. is_of (txn_id t) s.asked && (m s && is_on name s.asked)) base

    voted : Txn → Bool
    voted t = list_any (λ a. is_of (txn_id t) a && (d a && is_on name a)) votes

    one : (t : Txn) → list_any (same_numbers name) (moved_names rs events outs (claims_of (is_of (txn_id t)) site life)) ≡ (some t || voted t)
    one t =
        list_any-append (same_numbers name) (map (λ s. name_of s.asked) (filter m (standing_of (is_of (txn_id t)) site life))) (map name_of (filter d (votes_of (is_of (txn_id t)) life.log)))
        ∙ ap (λ (b : Bool). b || list_any (same_numbers name) (map name_of (filter d (votes_of (is_of (txn_id t)) life.log))))
        (any_map (same_numbers name) (λ s. name_of s.asked) (filter m (standing_of (is_of (txn_id t)) site life))
        ∙ any_filter (λ s. is_on name s.asked) m (standing_of (is_of (txn_id t)) site life)
        ∙ ap (list_any (λ s. m s && is_on name s.asked)) (standing_as (is_of (txn_id t)) site life)
        ∙ any_filter (λ s. m s && is_on name s.asked) (λ s. is_of (txn_id t) s.asked) base)
        ∙ ap (λ (b : Bool). some t || b)
        (any_map (same_numbers name) name_of (filter d (votes_of (is_of (txn_id t)) life.log))
        ∙ any_filter (is_on name) d (votes_of (is_of (txn_id t)) life.log)
        ∙ ap (list_any (λ a. d a && is_on name a)) (votes_as (is_of (txn_id t)) life.log)
        ∙ any_filter (λ a. d a && is_on name a) (is_of (txn_id t)) votes)

-- claims of which nothing moves, and to which nothing comes
filter_none : {X : Type 0} (p : X → Bool) (xs : List X) → list_any p xs ≡ false → filter p xs ≡ []
filter_none p [] e = refl
filter_none p (x ∷ xs) e = rw (none_left (p x) (list_any p xs) e) (filter_none p xs (none_right (p x) (list_any p xs) e))

keep_left : (rs : List Record) (xs : List Asked) → list_any (λ a. decided_in rs a.txn) xs ≡ false → filter (is_left rs) xs ≡ xs
keep_left rs [] e = refl
keep_left rs (x ∷ xs) e =
    rw (none_left (decided_in rs x.txn) (list_any (λ a. decided_in rs a.txn) xs) e) (ap (λ (l : List Asked). x ∷ l) (keep_left rs xs (none_right (decided_in rs x.txn) _ e)))

keep_again : (rs : List Record) (events : List Told) (outs : List Packet) (xs : List Standing) → list_any (is_moved rs events outs) xs ≡ false → flat_map (again rs events outs) xs ≡ xs
keep_again rs events outs [] e = refl
keep_again rs events outs (x ∷ xs) e =
    ap (λ (l : List Standing). l ++ flat_map (again rs events outs) xs) one ∙ ap (λ (l : List Standing). x ∷ l) (keep_again rs events outs xs (none_right (is_moved rs events outs x) _ e))
  where
    still : (is_moved rs events outs x) ≡ false
    still = none_left (is_moved rs events outs x) (list_any (is_moved rs events outs) xs) e

    one : again rs events outs x ≡ x ∷ []
    one = rw (none_left (decided_in rs x.asked.txn) (is_heard events outs x.asked) still, none_right (decided_in rs x.asked.txn) (is_heard events outs x.asked) still)
        (ap (λ (b : Bool). stand x.asked b ∷ []) (or_false x.answered))

no_new : (test : Asked → Bool) (new : Option Standing) (rs : List Record) → list_any test (added new rs) ≡ false → newly test new ≡ []
no_new test None rs e = refl
no_new test (Some s) rs e = rw (none_left (test s.asked) (list_any test (cast_of rs)) e) refl

no_cast : (test : Asked → Bool) (new : Option Standing) (rs : List Record) → list_any test (added new rs) ≡ false → list_any test (cast_of rs) ≡ false
no_cast test None rs e = e
no_cast test (Some s) rs e = none_right (test s.asked) (list_any test (cast_of rs)) e

with_none : (test : Asked → Bool) (votes : List Asked) (rs : List Record) → list_any test (cast_of rs) ≡ false → with_cast test votes rs ≡ votes
with_none test votes rs e = ap (λ (l : List Asked). votes ++ l) (filter_none test (cast_of rs) e) ∙ append-nil votes

pub claims_quiet : (test : Asked → Bool) (claims : Claims) (new : Option Standing) (rs : List Record) (events : List Told) (outs : List Packet) → list_any test (added new rs) ≡ false
    → list_any (is_moved rs events outs) claims.standing ≡ false → list_any (λ a. decided_in rs a.txn) claims.votes ≡ false → claims_by test claims new rs events outs ≡ claims
claims_quiet test claims new rs events outs a b c =
    let standing : standing_by test claims.standing new rs events outs ≡ claims.standing =
    ap (flat_map (again rs events outs)) (ap (λ (l : List Standing). claims.standing ++ l) (no_new test new rs a) ∙ append-nil claims.standing) ∙ keep_again rs events outs claims.standing b in
    let votes : votes_by test claims.votes rs ≡ claims.votes = ap (filter (is_left rs)) (with_none test claims.votes rs (no_cast test new rs a)) ∙ keep_left rs claims.votes c in
    λ i. record { standing = standing i; votes = votes i }

-- a decided transaction has none of these votes
none_own : (t : Txn) (rs : List Record) → decided_in rs t ≡ true → (xs : List Asked) → list_any (λ a. decided_in rs a.txn) xs ≡ false → filter (λ a. same_txn t a.txn) xs ≡ []
none_own t rs d [] e = refl
none_own t rs d (x ∷ xs) e = by (none_own t rs d xs (none_right (decided_in rs x.txn) _ e)) (same_txn t x.txn) refl
  where
    by : filter (λ a. same_txn t a.txn) xs ≡ [] → (b : Bool) → same_txn t x.txn ≡ b → filter (λ a. same_txn t a.txn) (x ∷ xs) ≡ []
    by ih true f = absurd (true_not_false (sym (subst (λ (v : Txn). decided_in rs v ≡ true) (same_txn_eq t x.txn f) d) ∙ none_left (decided_in rs x.txn) _ e))
    by ih false f = rw f ih

or_right : (b c : Bool) → c ≡ true → (b || c) ≡ true
or_right true c e = refl
or_right false c e = e

row_quiet : (votes : List Asked) (rs : List Record) → list_any (λ a. decided_in rs a.txn) votes ≡ false → (row : Answer) (xs : List Record)
    → ((t : Txn) → decided_in xs t ≡ true → decided_in rs t ≡ true) → fold (row_with votes) row xs ≡ row
row_quiet votes rs c row [] w = refl
row_quiet votes rs c row (x ∷ xs) w =
    ap (λ (v : Answer). fold (row_with votes) v xs) (one x w) ∙ row_quiet votes rs c row xs (λ t e. w t (or_right (is_decision t x) (decided_in xs t) e))
  where
    one : (x : Record) → ((t : Txn) → decided_in (x ∷ xs) t ≡ true → decided_in rs t ≡ true) → row_with votes row x ≡ row
    one (log.Decision t Commit) w = ap (fold written row) (none_own t rs (w t (ap (λ (b : Bool). b || decided_in xs t) (same_txn_refl t))) votes c)
    one (log.Decision t Abort) w = refl
    one (log.Birth format site weights born) w = refl
    one (log.Inc inc) w = refl
    one (log.Vote u ops) w = refl
    one (log.Join u n) w = refl
    one (log.Attempt u n dir) w = refl

-- A name that a step does not touch keeps what stands there.
pub name_quiet : (name : List ℕ) (site : ℕ) (life : Life) (txns : List (TxnId × Claims)) (new : Option Standing) (rs : List Record) (events : List Told) (outs : List Packet)
    → ((k : TxnId) → claims_at txns k ≡ claims_of (is_of k) site life) → list_any (same_numbers name) (names_touched txns new rs events outs) ≡ false
    → place_by name (place_of name site life) new rs events outs ≡ place_of name site life
name_quiet name site life txns new rs events outs stand h =
    let parts = sym (list_any-append (same_numbers name) (map name_of (added new rs)) (flat_map (λ t. moved_names rs events outs (claims_at txns (txn_id t))) (reached rs events outs))) ∙ h in
    let a : list_any (is_on name) (added new rs) ≡ false = sym (any_map (same_numbers name) name_of (added new rs)) ∙ none_left _ _ parts in
    let moves =
    sym (moved_on name site life rs events outs) ∙ sym (any_flat (same_numbers name) (λ t. moved_names rs events outs (claims_at txns (txn_id t))) (reached rs events outs)
    ∙ any_alike _ _ (λ t. ap (λ (c : Claims). list_any (same_numbers name) (moved_names rs events outs c)) (stand (txn_id t))) (reached rs events outs)
    ∙ sym (any_flat (same_numbers name) (λ t. moved_names rs events outs (claims_of (is_of (txn_id t)) site life)) (reached rs events outs))) ∙ none_right _ _ parts in
    let b = none_left (list_any (is_moved rs events outs) (standing_of (is_on name) site life)) _ moves in
    let c = none_right (list_any (is_moved rs events outs) (standing_of (is_on name) site life)) _ moves in
    let claims = claims_quiet (is_on name) (claims_of (is_on name) site life) new rs events outs a b c in
    let row : row_by name (place_of name site life) rs ≡ row_of name life.log =
    ap (λ (l : List Asked). fold (row_with l) (row_of name life.log) rs) (with_none (is_on name) (votes_of (is_on name) life.log) rs (no_cast (is_on name) new rs a))
    ∙ row_quiet (votes_of (is_on name) life.log) rs c (row_of name life.log) rs (λ t e. e) in
    λ i. record { claims = claims i; row = row i }

-- so a transaction that it does not touch
any_then : {X : Type 0} (p : X → Bool) (b : Bool) → ((x : X) → Implies (p x) b) → (xs : List X) → Implies (list_any p xs) b
any_then p b h [] e = absurd (true_not_false (sym e))
any_then p b h (x ∷ xs) e = by (any_then p b h xs) (p x) refl
  where
    by : Implies (list_any p xs) b → (c : Bool) → p x ≡ c → b ≡ true
    by ih true f = h x f
    by ih false f = ih (sym (ap (λ (d : Bool). d || list_any p xs) f) ∙ e)

not_then : (b c : Bool) → Implies b c → c ≡ false → b ≡ false
not_then true c h e = absurd (true_not_false (sym (h refl) ∙ e))
not_then false c h e = refl

and_left : (b c : Bool) → (b && c) ≡ true → b ≡ true
and_left true c e = refl
and_left false c e = e

pub key_quiet : (k : TxnId) (site : ℕ) (life : Life) (new : Option Standing) (rs : List Record) (events : List Told) (outs : List Packet)
    → list_any (is_key k) (keys_touched new rs events outs) ≡ false → claims_by (is_of k) (claims_of (is_of k) site life) new rs events outs ≡ claims_of (is_of k) site life
key_quiet k site life new rs events outs h =
    let parts = sym (list_any-append (is_key k) (map (λ a. txn_id a.txn) (added new rs)) (map txn_id (reached rs events outs))) ∙ h in
    let a : list_any (is_of k) (added new rs) ≡ false = sym (any_map (is_key k) (λ a. txn_id a.txn) (added new rs)) ∙ none_left _ _ parts in
    let none : list_any (has_key k) (reached rs events outs) ≡ false = sym (any_map (is_key k) txn_id (reached rs events outs)) ∙ none_right _ _ parts in
    let b : list_any (is_moved rs events outs) (standing_of (is_of k) site life) ≡ false =
    ap (list_any (is_moved rs events outs)) (standing_as (is_of k) site life) ∙ any_filter (is_moved rs events outs) (λ s. is_of k s.asked) (standing_of any_asked site life)
    ∙ not_then _ _ (any_then (λ s. is_of k s.asked && is_moved rs events outs s) (list_any (has_key k) (reached rs events outs))
    (λ s e. found s.asked.txn (has_key k) (and_left (is_of k s.asked) (is_moved rs events outs s) e) (reached rs events outs)
    (reach_moved rs events outs s (and_right (is_of k s.asked) (is_moved rs events outs s) e))) (standing_of any_asked site life)) none in
    let c : list_any (λ a. decided_in rs a.txn) (votes_of (is_of k) life.log) ≡ false =
    ap (list_any (λ a. decided_in rs a.txn)) (votes_as (is_of k) life.log) ∙ any_filter (λ a. decided_in rs a.txn) (is_of k) (votes_of any_asked life.log)
    ∙ not_then _ _ (any_then (λ a. is_of k a && decided_in rs a.txn) (list_any (has_key k) (reached rs events outs))
    (λ a e. found a.txn (has_key k) (and_left (is_of k a) (decided_in rs a.txn) e) (reached rs events outs)
    (reach_decided a.txn rs events outs (and_right (is_of k a) (decided_in rs a.txn) e))) (votes_of any_asked life.log)) none in
    claims_quiet (is_of k) (claims_of (is_of k) site life) new rs events outs a b c
