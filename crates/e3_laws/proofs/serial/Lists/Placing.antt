-- The records of all logs by places, and those of one log before a place.
use Rattle.std.proofs.Common.{◌≡◌, inl, inr, ℕ, zero, suc, ◌<◌, ◌==◌, Bool, true, false, cond, List, [], ◌∷◌, ◌++◌, map, take, drop, filter, refl, sym, ap, ◌∙◌, subst, eqb-true, eq-eqb}
use Rattle.std.specs.List.{flat_map}
use Rattle.e3_types.specs.declared.records.Record.{Record}
use Rattle.e3_types.specs.declared.records.Record.TheVariants as log
use Rattle.e3_types.specs.declared.transactions.Dir.{Dir}
use Rattle.e3_types.specs.declared.transactions.Dir.TheVariants.{Abort, Commit}
use Rattle.e3_types.specs.declared.transactions.NumOp.{NumOp}
use Rattle.e3_types.specs.declared.transactions.Txn.{Txn}
use Rattle.e3_world.specs.Moves.{Move, Placed, moves_at, recorded, log_by, all_records}
use Rattle.e3_laws.proofs.serial.Lists.Entries.{In, At, Entry, Vote, Decide, Other}
use Rattle.e3_laws.proofs.serial.Lists.Members.{at_take, take_at, in_back}
use Rattle.e3_laws.proofs.agreement.Refinement.Agreeing.{put}

pub placed_is : (p : Placed) (s : ℕ) (r : Record) → p.site ≡ s → p.entered ≡ r → p ≡ put s r
placed_is p s r a b = λ i. record { site = a i; entered = b i }

-- what a record counts for the order
abbrev pub entry_in : ℕ → Record → Entry
entry_in s (log.Vote t ops) = Vote s t ops
entry_in s (log.Decision t Commit) = Decide s t true
entry_in s (log.Decision t Abort) = Decide s t false
entry_in s _ = Other

abbrev pub entry_of : Placed → Entry
entry_of p = entry_in p.site p.entered

abbrev pub entries : List Placed → List Entry
entries ps = map entry_of ps

-- the records of one site among all
abbrev pub logged : ℕ → List Placed → List Record
logged s ps = map (λ p. p.entered) (filter (λ p. p.site == s) ps)

abbrev pub dir_of : Bool → Dir
dir_of true = Commit
dir_of false = Abort

pub is_vote_entry : (p : Placed) (s : ℕ) (t : Txn) (ops : List NumOp) → entry_of p ≡ Vote s t ops → p ≡ put s (log.Vote t ops)
is_vote_entry p s t ops e = go p.entered refl (e)
  where
    go : (r : Record) → p.entered ≡ r → entry_in p.site p.entered ≡ Vote s t ops → p ≡ put s (log.Vote t ops)
    go (log.Vote u os) q h = let k : Vote p.site u os ≡ Vote s t ops = subst (λ z. entry_in p.site z ≡ Vote s t ops) q h in
        let a : p.site ≡ s = cc in let b : u ≡ t = cc in let c : os ≡ ops = cc in placed_is p s (log.Vote t ops) a (q ∙ (λ i. log.Vote (b i) (c i)))
    go (log.Decision u Commit) q h = let k : Decide p.site u true ≡ Vote s t ops = subst (λ z. entry_in p.site z ≡ Vote s t ops) q h in absurd (cc)
    go (log.Decision u Abort) q h = let k : Decide p.site u false ≡ Vote s t ops = subst (λ z. entry_in p.site z ≡ Vote s t ops) q h in absurd (cc)
    go (log.Birth f n w rows) q h = let k : Other ≡ Vote s t ops = subst (λ z. entry_in p.site z ≡ Vote s t ops) q h in absurd (cc)
    go (log.Inc m) q h = let k : Other ≡ Vote s t ops = subst (λ z. entry_in p.site z ≡ Vote s t ops) q h in absurd (cc)
    go (log.Join u n) q h = let k : Other ≡ Vote s t ops = subst (λ z. entry_in p.site z ≡ Vote s t ops) q h in absurd (cc)
    go (log.Attempt u n d) q h = let k : Other ≡ Vote s t ops = subst (λ z. entry_in p.site z ≡ Vote s t ops) q h in absurd (cc)

pub is_decide_entry : (p : Placed) (s : ℕ) (t : Txn) (c : Bool) → entry_of p ≡ Decide s t c → p ≡ put s (log.Decision t (dir_of c))
is_decide_entry p s t c e = go p.entered refl (e)
  where
    same : (u : Txn) (d : Dir) (b : Bool) → dir_of b ≡ d → p.entered ≡ log.Decision u d → Decide p.site u b ≡ Decide s t c → p ≡ put s (log.Decision t (dir_of c))
    same u d b f q k = let g : b ≡ c = cc in let h : d ≡ dir_of c = sym f ∙ ap dir_of g in
        let a : p.site ≡ s = cc in let v : u ≡ t = cc in placed_is p s (log.Decision t (dir_of c)) a (q ∙ (λ i. log.Decision (v i) (h i)))

    go : (r : Record) → p.entered ≡ r → entry_in p.site p.entered ≡ Decide s t c → p ≡ put s (log.Decision t (dir_of c))
    go (log.Vote u os) q h = let k : Vote p.site u os ≡ Decide s t c = subst (λ z. entry_in p.site z ≡ Decide s t c) q h in absurd (cc)
    go (log.Decision u Commit) q h = same u Commit true refl q (subst (λ z. entry_in p.site z ≡ Decide s t c) q h)
    go (log.Decision u Abort) q h = same u Abort false refl q (subst (λ z. entry_in p.site z ≡ Decide s t c) q h)
    go (log.Birth f n w rows) q h = let k : Other ≡ Decide s t c = subst (λ z. entry_in p.site z ≡ Decide s t c) q h in absurd (cc)
    go (log.Inc m) q h = let k : Other ≡ Decide s t c = subst (λ z. entry_in p.site z ≡ Decide s t c) q h in absurd (cc)
    go (log.Join u n) q h = let k : Other ≡ Decide s t c = subst (λ z. entry_in p.site z ≡ Decide s t c) q h in absurd (cc)
    go (log.Attempt u n d) q h = let k : Other ≡ Decide s t c = subst (λ z. entry_in p.site z ≡ Decide s t c) q h in absurd (cc)

-- places through a map
pub at_map : {A B : Type 0} (f : A → B) (xs : List A) (i : ℕ) (y : B) → At (map f xs) i y → (x : A) × At xs i x × (f x ≡ y)
at_map f [] i y h = absurd h
at_map f (x ∷ xs) zero y h = (x, refl, h)
at_map f (x ∷ xs) (suc i) y h = at_map f xs i y h

pub map_at : {A B : Type 0} (f : A → B) (xs : List A) (i : ℕ) (x : A) → At xs i x → At (map f xs) i (f x)
map_at f [] i x h = absurd h
map_at f (y ∷ xs) zero x h = ap f h
map_at f (y ∷ xs) (suc i) x h = map_at f xs i x h

pub take_map : {A B : Type 0} (f : A → B) (i : ℕ) (xs : List A) → take i (map f xs) ≡ map f (take i xs)
take_map f zero xs = refl
take_map f (suc i) [] = refl
take_map f (suc i) (x ∷ xs) = ap (λ z. f x ∷ z) (take_map f i xs)

-- the list around a place
pub at_split : {A : Type 0} (xs : List A) (i : ℕ) (x : A) → At xs i x → xs ≡ take i xs ++ x ∷ drop (suc i) xs
at_split [] i x h = absurd h
at_split (y ∷ xs) zero x h = ap (λ z. z ∷ xs) h
at_split (y ∷ xs) (suc i) x h = ap (λ z. y ∷ z) (at_split xs i x h)

pub split_at : {A : Type 0} (xs ys : List A) (x : A) → (i : ℕ) × At (xs ++ x ∷ ys) i x × (take i (xs ++ x ∷ ys) ≡ xs)
split_at [] ys x = (zero, refl, refl)
split_at (z ∷ xs) ys x = let r = split_at xs ys x in (suc r.0, r.1, ap (λ l. z ∷ l) r.2)

pub vote_at : (ps : List Placed) (i s : ℕ) (t : Txn) (ops : List NumOp) → At (entries ps) i (Vote s t ops) → At ps i (put s (log.Vote t ops))
vote_at ps i s t ops h = let r = at_map entry_of ps i (Vote s t ops) h in subst (λ z. At ps i z) (is_vote_entry r.0 s t ops r.2) r.1

pub decide_at : (ps : List Placed) (i s : ℕ) (t : Txn) (c : Bool) → At (entries ps) i (Decide s t c) → At ps i (put s (log.Decision t (dir_of c)))
decide_at ps i s t c h = let r = at_map entry_of ps i (Decide s t c) h in subst (λ z. At ps i z) (is_decide_entry r.0 s t c r.2) r.1

pub entered_vote : (ps : List Placed) (i s : ℕ) (t : Txn) (ops : List NumOp) → At ps i (put s (log.Vote t ops)) → At (entries ps) i (Vote s t ops)
entered_vote ps i s t ops h = map_at entry_of ps i (put s (log.Vote t ops)) h

pub entered_decide : (ps : List Placed) (i s : ℕ) (t : Txn) (d : Dir) → At ps i (put s (log.Decision t d)) → (c : Bool) × At (entries ps) i (Decide s t c) × (dir_of c ≡ d)
entered_decide ps i s t Commit h = (true, map_at entry_of ps i (put s (log.Decision t Commit)) h, refl)
entered_decide ps i s t Abort h = (false, map_at entry_of ps i (put s (log.Decision t Abort)) h, refl)

-- one log of a list of two parts
pub logged-append : (s : ℕ) (xs ys : List Placed) → logged s (xs ++ ys) ≡ logged s xs ++ logged s ys
logged-append s [] ys = refl
logged-append s (p ∷ xs) ys = go (p.site == s) (logged-append s xs ys)
  where
    go : (b : Bool) → logged s (xs ++ ys) ≡ logged s xs ++ logged s ys →
        map (λ p. p.entered) (cond b (p ∷ filter (λ p. p.site == s) (xs ++ ys)) (filter (λ p. p.site == s) (xs ++ ys)))
        ≡ map (λ p. p.entered) (cond b (p ∷ filter (λ p. p.site == s) xs) (filter (λ p. p.site == s) xs)) ++ logged s ys
    go true e = ap (λ z. p.entered ∷ z) e
    go false e = e

pub logged_first : (s : ℕ) (r : Record) (ps : List Placed) → logged s (put s r ∷ ps) ≡ r ∷ logged s ps
logged_first s r ps = subst (λ b. map (λ p. p.entered) (cond b (put s r ∷ filter (λ p. p.site == s) ps) (filter (λ p. p.site == s) ps)) ≡ r ∷ logged s ps) (sym (eq-eqb s s refl)) refl

-- the log of the site of a record, around its place
pub logged_split : (ps : List Placed) (i s : ℕ) (r : Record) → At ps i (put s r) → logged s ps ≡ logged s (take i ps) ++ r ∷ logged s (drop (suc i) ps)
logged_split ps i s r h =
    ap (logged s) (at_split ps i (put s r) h)
    ∙ logged-append s (take i ps) (put s r ∷ drop (suc i) ps)
    ∙ ap (λ z. logged s (take i ps) ++ z) (logged_first s r (drop (suc i) ps))

pub at_logged : (ps : List Placed) (i s : ℕ) (r : Record) → At ps i (put s r) → In r (logged s ps)
at_logged ps i s r h = subst (λ z. In r z) (sym (logged_split ps i s r h)) (in_back (logged s (take i ps)) (r ∷ logged s (drop (suc i) ps)) r (inl refl))

pub logged_at : (ps : List Placed) (s : ℕ) (r : Record) → In r (logged s ps) → (i : ℕ) × At ps i (put s r)
logged_at [] s r h = absurd h
logged_at (p ∷ ps) s r h = go (p.site == s) refl h (logged_at ps s r)
  where
    go : (b : Bool) → (p.site == s) ≡ b → In r (map (λ p. p.entered) (cond b (p ∷ filter (λ p. p.site == s) ps) (filter (λ p. p.site == s) ps)))
        → (In r (logged s ps) → (i : ℕ) × At ps i (put s r)) → (i : ℕ) × At (p ∷ ps) i (put s r)
    go true e (inl q) ih = (zero, placed_is p s r (eqb-true p.site s e) q)
    go true e (inr k) ih = let z = ih k in (suc z.0, z.1)
    go false e k ih = let z = ih k in (suc z.0, z.1)

-- a record of a log's front stands at an earlier place, and so the other way
pub before_at : (ps : List Placed) (j s : ℕ) (r : Record) → In r (logged s (take j ps)) → (i : ℕ) × (i < j) × At ps i (put s r)
before_at ps j s r h = let z = logged_at (take j ps) s r h in let w = at_take j ps z.0 (put s r) z.1 in (z.0, w.1, w.0)

pub at_before : (ps : List Placed) (i j s : ℕ) (r : Record) → At ps i (put s r) → i < j → In r (logged s (take j ps))
at_before ps i j s r h less = at_logged (take j ps) i s r (take_at j ps i (put s r) h less)

-- each record of a log has its place among all
abbrev HasPlaces : List Placed → ℕ → Type 0
HasPlaces ps s = (before after : List Record) (r : Record) → logged s ps ≡ before ++ r ∷ after → (i : ℕ) × At ps i (put s r) × (logged s (take i ps) ≡ before)

-- the place of a record in one log, among all
pub logged_place : (ps : List Placed) (s : ℕ) (before after : List Record) (r : Record) → logged s ps ≡ before ++ r ∷ after →
    (i : ℕ) × At ps i (put s r) × (logged s (take i ps) ≡ before)
logged_place [] s before after r e = absurd (go before e)
  where
    go : (l : List Record) → [] ≡ l ++ r ∷ after → ⊥
    go [] q = cc
    go (x ∷ l) q = cc
logged_place (p ∷ ps) s before after r e = go (p.site == s) refl e (logged_place ps s)
  where
    first : (p.site == s) ≡ true → (l : List Record) → p.entered ∷ logged s ps ≡ l ++ r ∷ after → HasPlaces ps s → (i : ℕ) × At (p ∷ ps) i (put s r) × (logged s (take i (p ∷ ps)) ≡ l)
    first q [] k ih = (zero, placed_is p s r (eqb-true p.site s q) (let g : p.entered ≡ r = cc in g), refl)
    first q (x ∷ l) k ih =
        let g : p.entered ≡ x = cc in
        let rest : logged s ps ≡ l ++ r ∷ after = cc in
        let z = ih l after r rest in
        (suc z.0, z.1, subst (λ b. map (λ p. p.entered) (cond b (p ∷ filter (λ p. p.site == s) (take z.0 ps)) (filter (λ p. p.site == s) (take z.0 ps))) ≡ x ∷ l) (sym q) (λ i. g i ∷ z.2 i))

    go : (b : Bool) → (p.site == s) ≡ b → map (λ p. p.entered) (cond b (p ∷ filter (λ p. p.site == s) ps) (filter (λ p. p.site == s) ps)) ≡ before ++ r ∷ after →
        HasPlaces ps s → (i : ℕ) × At (p ∷ ps) i (put s r) × (logged s (take i (p ∷ ps)) ≡ before)
    go true q k ih = first q before k ih
    go false q k ih =
        let z = ih before after r k in
        (suc z.0, z.1, subst (λ b. map (λ p. p.entered) (cond b (p ∷ filter (λ p. p.site == s) (take z.0 ps)) (filter (λ p. p.site == s) (take z.0 ps))) ≡ before) (sym q) z.2)

-- the log that the moves of a site make is its part of all records
placed_here : (s : ℕ) (rs : List Record) → logged s (map (put s) rs) ≡ rs
placed_here s [] = refl
placed_here s (r ∷ rs) = logged_first s r (map (put s) rs) ∙ ap (λ z. r ∷ z) (placed_here s rs)

placed_there : (y s : ℕ) (rs : List Record) → (y == s) ≡ false → logged s (map (put y) rs) ≡ []
placed_there y s [] e = refl
placed_there y s (r ∷ rs) e =
    subst (λ b. map (λ p. p.entered) (cond b (put y r ∷ filter (λ p. p.site == s) (map (put y) rs)) (filter (λ p. p.site == s) (map (put y) rs))) ≡ []) (sym e) (placed_there y s rs e)

pub logged_all : (s : ℕ) (trail : List Move) → log_by (moves_at s trail) ≡ logged s (all_records trail)
logged_all s [] = refl
logged_all s (m ∷ trail) = go (m.site == s) refl (logged_all s trail) ∙ sym (logged-append s (map (put m.site) (recorded m)) (all_records trail))
  where
    go : (b : Bool) → (m.site == s) ≡ b → log_by (moves_at s trail) ≡ logged s (all_records trail) →
        flat_map recorded (cond b (m ∷ moves_at s trail) (moves_at s trail)) ≡ logged s (map (put m.site) (recorded m)) ++ logged s (all_records trail)
    go true e h =
        subst (λ y. recorded m ++ log_by (moves_at s trail) ≡ logged s (map (put y) (recorded m)) ++ logged s (all_records trail)) (sym (eqb-true m.site s e))
        (ap (λ z. recorded m ++ z) h ∙ ap (λ z. z ++ logged s (all_records trail)) (sym (placed_here s (recorded m))))
    go false e h = h ∙ ap (λ z. z ++ logged s (all_records trail)) (sym (placed_there m.site s (recorded m) e))
