-- The table of a log at a name is that of the birth with the writes of what the log commits.
use Rattle.std.proofs.Common.{◌≡◌, ◌≢◌, ℕ, ◌==◌, Bool, true, false, cond, List, [], ◌∷◌, ◌++◌, map, filter, fold, refl, sym, ap, ◌∙◌, subst, append_assoc, Ordering, Less, Equal, Greater}
use Rattle.std.specs.List.{AllByRecursion as Each}
use Rattle.std.specs.Ordering.{nat_cmp, match_ordering, is_eq}
use Rattle.std.specs.Cmp.Lexicographic.{slice_cmp, texts_ties}
use Rattle.e3_types.proofs.Orders.{pointwise_same}
use Rattle.std.proofs.lemmas.Bool.{true≢false}
use Rattle.e3_types.specs.declared.records.Record.{Record}
use Rattle.e3_types.specs.declared.records.Record.TheVariants as log
use Rattle.e3_types.specs.declared.scenarios.Scenario.{Scenario}
use Rattle.e3_types.specs.declared.transactions.Answer.{Answer}
use Rattle.e3_types.specs.declared.transactions.Answer.TheVariants.{Value}
use Rattle.e3_types.specs.declared.transactions.Dir.TheVariants.{Abort, Commit}
use Rattle.e3_types.specs.declared.transactions.NumOp.{NumOp}
use Rattle.e3_types.specs.declared.transactions.Op.{Op}
use Rattle.e3_types.specs.declared.transactions.Op.TheVariants.{Read, Write}
use Rattle.e3_types.specs.declared.transactions.Row.{Row}
use Rattle.e3_types.specs.declared.transactions.Txn.{Txn}
use Rattle.e3_types.specs.Same.{same_numbers}
use Rattle.e3_laws.proofs.agreement.Refinement.Lists.{same_numbers_are}
use Rattle.e3_world.specs.Logs.{voted_ops, set_row, install_op, table_by, table_of, row_value}
use Rattle.e3_world.specs.Moves.{Placed, rows_at, birth}
use Rattle.e3_world.specs.Serial.{first_world, is_birth}
use Rattle.e3_laws.specs.serial.Ordered.{Follows, LogFollows}
use Rattle.e3_laws.proofs.serial.Lists.Entries.{Name, same_name, name_of, effect, through, commits, after, table}
use Rattle.e3_laws.proofs.serial.Lists.Placing.{entries, logged}
use Rattle.e3_laws.proofs.serial.Lists.Worlds.{VotesOnce, voted_at}
use Rattle.e3_laws.proofs.agreement.Refinement.Agreeing.{put}

-- names that compare equal are one, and no others
names_tie : (a b : List ℕ) → is_eq (slice_cmp nat_cmp a b) ≡ same_numbers a b
names_tie a b = sym (texts_ties a b) ∙ pointwise_same a b

-- a row that is set has its value, and each other row its own
pub row_set : (n : Name) (new : Row) (rows : List Row) → row_value n (set_row new rows) ≡ cond (same_numbers n new.name) (Value new.val) (row_value n rows)
row_set n new [] = refl
row_set n new (row ∷ rows) = go (slice_cmp nat_cmp new.name row.name) refl (row_set n new rows)
  where
    behind : (b c : Bool) → same_numbers n new.name ≡ b → same_numbers n row.name ≡ c → same_numbers new.name row.name ≡ false →
        cond c (Value row.val) (cond b (Value new.val) (row_value n rows)) ≡ cond b (Value new.val) (cond c (Value row.val) (row_value n rows))
    behind true true e f apart =
        absurd (true≢false (sym (subst (λ z. same_numbers z row.name ≡ true) (same_numbers_are n new.name e) f) ∙ apart))
    behind true false e f apart = refl
    behind false c e f apart = refl

    one : (b : Bool) → same_numbers n new.name ≡ b → new.name ≡ row.name → cond b (Value new.val) (row_value n rows) ≡ cond b (Value new.val) (cond (same_numbers n row.name) (Value row.val) (row_value n rows))
    one true e q = refl
    one false e q = subst (λ z. row_value n rows ≡ cond z (Value row.val) (row_value n rows)) (sym (ap (same_numbers n) (sym q) ∙ e)) refl

    go : (c : Ordering) → slice_cmp nat_cmp new.name row.name ≡ c → row_value n (set_row new rows) ≡ cond (same_numbers n new.name) (Value new.val) (row_value n rows) →
        row_value n (match_ordering c (new ∷ row ∷ rows) (new ∷ rows) (row ∷ set_row new rows))
        ≡ cond (same_numbers n new.name) (Value new.val) (cond (same_numbers n row.name) (Value row.val) (row_value n rows))
    go Less e ih = refl
    go Equal e ih = one (same_numbers n new.name) refl (same_numbers_are new.name row.name (sym (names_tie new.name row.name) ∙ ap is_eq e))
    go Greater e ih =
        ap (λ z. cond (same_numbers n row.name) (Value row.val) z) ih
        ∙ behind (same_numbers n new.name) (same_numbers n row.name) refl refl (sym (names_tie new.name row.name) ∙ ap is_eq e)

-- the writes of operations at a name
pub installed_ops : (n : Name) (ops : List NumOp) (rows : List Row) → row_value n (fold install_op rows ops) ≡ through ops n (row_value n rows)
installed_ops n [] rows = refl
installed_ops n (o ∷ ops) rows = installed_ops n ops (install_op rows o) ∙ ap (λ v. through ops n v) (go o.op)
  where
    same_row : (b : Bool) (v : Answer) → v ≡ cond b v v
    same_row true v = refl
    same_row false v = refl

    go : (op : Op) → row_value n (install_op rows (record o { op = op })) ≡ cond (same_name (name_of op) n) (effect op (row_value n rows)) (row_value n rows)
    go (Read key) = same_row (same_numbers n key.name) (row_value n rows)
    go (Write key val) = row_set n (record { name = key.name; val = val }) rows

-- the transactions that a log commits, in the order of its decisions
abbrev pub commits_in : List Record → List Txn
commits_in [] = []
commits_in (log.Decision t Commit ∷ rs) = t ∷ commits_in rs
commits_in (r ∷ rs) = commits_in rs

-- a name's value behind the writes of these transactions
abbrev pub installed : List Record → Name → List Txn → Answer → Answer
installed all n [] v = v
installed all n (t ∷ ts) v = installed all n ts (through (voted_ops t all) n v)

abbrev pub NoBirth : Record → Type 0
NoBirth r = is_birth r ≡ false

table_steps : (all : List Record) (n : Name) (rs : List Record) (rows : List Row) → Each NoBirth rs → row_value n (fold (table_by all) rows rs) ≡ installed all n (commits_in rs) (row_value n rows)
table_steps all n [] rows h = refl
table_steps all n (log.Decision t Commit ∷ rs) rows h =
    table_steps all n rs (fold install_op rows (voted_ops t all)) h.1 ∙ ap (λ v. installed all n (commits_in rs) v) (installed_ops n (voted_ops t all) rows)
table_steps all n (log.Decision t Abort ∷ rs) rows h = table_steps all n rs rows h.1
table_steps all n (log.Vote t ops ∷ rs) rows h = table_steps all n rs rows h.1
table_steps all n (log.Birth f k w born ∷ rs) rows h = absurd (true≢false h.0)
table_steps all n (log.Inc m ∷ rs) rows h = table_steps all n rs rows h.1
table_steps all n (log.Join t m ∷ rs) rows h = table_steps all n rs rows h.1
table_steps all n (log.Attempt t m d ∷ rs) rows h = table_steps all n rs rows h.1

-- a site's commits among all
commits_at : (s : ℕ) (ps : List Placed) → commits s (entries ps) ≡ commits_in (logged s ps)
commits_at s [] = refl
commits_at s (p ∷ ps) = go p.entered (commits_at s ps)
  where
    skip : (b : Bool) (r : Record) → ((rs : List Record) → commits_in (r ∷ rs) ≡ commits_in rs) → commits s (entries ps) ≡ commits_in (logged s ps) →
        commits s (entries ps) ≡ commits_in (map (λ p. p.entered) (cond b (put p.site r ∷ filter (λ p. p.site == s) ps) (filter (λ p. p.site == s) ps)))
    skip true r e ih = ih ∙ sym (e (logged s ps))
    skip false r e ih = ih

    commit : (b : Bool) (u : Txn) → commits s (entries ps) ≡ commits_in (logged s ps) →
        cond b (u ∷ commits s (entries ps)) (commits s (entries ps))
        ≡ commits_in (map (λ p. p.entered) (cond b (put p.site (log.Decision u Commit) ∷ filter (λ p. p.site == s) ps) (filter (λ p. p.site == s) ps)))
    commit true u ih = ap (λ z. u ∷ z) ih
    commit false u ih = ih

    go : (r : Record) → commits s (entries ps) ≡ commits_in (logged s ps) → commits s (entries (put p.site r ∷ ps)) ≡ commits_in (logged s (put p.site r ∷ ps))
    go (log.Vote u os) ih = skip (p.site == s) (log.Vote u os) (λ rs. refl) ih
    go (log.Decision u Commit) ih = commit (p.site == s) u ih
    go (log.Decision u Abort) ih = skip (p.site == s) (log.Decision u Abort) (λ rs. refl) ih
    go (log.Birth f n w rows) ih = skip (p.site == s) (log.Birth f n w rows) (λ rs. refl) ih
    go (log.Inc m) ih = skip (p.site == s) (log.Inc m) (λ rs. refl) ih
    go (log.Join u n) ih = skip (p.site == s) (log.Join u n) (λ rs. refl) ih
    go (log.Attempt u n d) ih = skip (p.site == s) (log.Attempt u n d) (λ rs. refl) ih

installed_after : (s : ℕ) (ps : List Placed) (n : Name) → ((t : Txn) → VotesOnce ps s t) → (ts : List Txn) (v : Answer) → installed (logged s ps) n ts v ≡ after s (entries ps) n ts v
installed_after s ps n once [] v = refl
installed_after s ps n once (t ∷ ts) v =
    installed_after s ps n once ts (through (voted_ops t (logged s ps)) n v)
    ∙ ap (λ ops. after s (entries ps) n ts (through ops n v)) (voted_at ps s t (once t))

-- behind the first record no other is a birth
not_births : (sc : Scenario) (s : ℕ) (r : Record) (before rest : List Record) → before ≢ [] → LogFollows sc s (before ++ rest) → Each NoBirth rest
not_births sc s r before [] some h = tt
not_births sc s r before (x ∷ rest) some h =
    (go x (h before rest x refl), not_births sc s r (before ++ x ∷ []) rest (λ e. not_empty before e) (subst (λ z. LogFollows sc s z) (sym (append_assoc before (x ∷ []) rest)) h))
  where
    not_empty : (l : List Record) → l ++ x ∷ [] ≡ [] → ⊥
    not_empty [] e = cc
    not_empty (y ∷ l) e = cc

    go : (x : Record) → Follows sc s before x → NoBirth x
    go (log.Birth f n w rows) k = absurd (some k.0)
    go (log.Inc m) k = refl
    go (log.Vote t ops) k = refl
    go (log.Join t n) k = refl
    go (log.Attempt t n d) k = refl
    go (log.Decision t d) k = refl

-- a log that has a record begins with its birth
starts : (sc : Scenario) (s : ℕ) (r : Record) (rest : List Record) → LogFollows sc s (r ∷ rest) → r ≡ birth sc s
starts sc s r rest h = go r (h [] rest r refl)
  where
    go : (x : Record) → Follows sc s [] x → x ≡ birth sc s
    go (log.Birth f n w rows) k = k.1
    go (log.Inc m) k = absurd (k refl)
    go (log.Vote t ops) k = absurd (k.born refl)
    go (log.Join t n) k = absurd (k refl)
    go (log.Attempt t n d) k = absurd (k refl)
    go (log.Decision t d) k = absurd (k.born refl)

-- the table of a log that has records, at a name
pub table_is : (sc : Scenario) (s : ℕ) (ps : List Placed) (n : Name) → LogFollows sc s (logged s ps) → logged s ps ≢ [] → ((t : Txn) → VotesOnce ps s t) →
    row_value n (table_of (logged s ps)) ≡ table s (λ m. first_world sc (record { site = s; name = m })) (entries ps) n
table_is sc s ps n follows some once =
    go (logged s ps) refl
    ∙ installed_after s ps n once (commits_in (logged s ps)) (first_world sc (record { site = s; name = n }))
    ∙ ap (λ ts. after s (entries ps) n ts (first_world sc (record { site = s; name = n }))) (sym (commits_at s ps))
  where
    born : (rest : List Record) → logged s ps ≡ birth sc s ∷ rest → LogFollows sc s (birth sc s ∷ rest) →
        row_value n (table_of (logged s ps)) ≡ installed (logged s ps) n (commits_in (logged s ps)) (first_world sc (record { site = s; name = n }))
    born rest e f =
        ap (λ l. row_value n (fold (table_by (logged s ps)) [] l)) e
        ∙ table_steps (logged s ps) n rest (rows_at s sc.rows) (not_births sc s (birth sc s) (birth sc s ∷ []) rest (λ q. cc) f)
        ∙ ap (λ l. installed (logged s ps) n (commits_in l) (first_world sc (record { site = s; name = n }))) (sym e)

    go : (l : List Record) → logged s ps ≡ l → row_value n (table_of (logged s ps)) ≡ installed (logged s ps) n (commits_in (logged s ps)) (first_world sc (record { site = s; name = n }))
    go [] e = absurd (some e)
    go (r ∷ rest) e =
        let f : LogFollows sc s (r ∷ rest) = subst (λ z. LogFollows sc s z) e follows in
        let b = starts sc s r rest f in
        born rest (e ∙ ap (λ x. x ∷ rest) b) (subst (λ x. LogFollows sc s (x ∷ rest)) b f)
