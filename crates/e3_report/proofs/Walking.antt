-- The walk over a history gathers the records of its trail, and what is in doubt at each site.
use Rattle.std.specs.Prelude.{◌≡◌, ◌++◌, ◌∷◌, [], ◌==◌, ◌&&◌, ◌||◌, ℕ, Bool, true, false, List, Option, Some, None, map, filter, fold, if◌then◌else◌, unwrap_or}
use Rattle.std.specs.BTreeMap.{insert_entry}
use Rattle.std.specs.Ordering.{nat_cmp}
use Rattle.std.proofs.Common.{refl, append-nil, append_assoc, ap, sym, subst, ◌∙◌, eqb-true, eq-eqb}
use Rattle.std.proofs.lemmas.Grind.{flat_map-append}
use Rattle.std.proofs.Math.Bool.{or-false, or-true, and-false, and-true}
use Rattle.std.proofs.lemmas.List.{map-append}
use Rattle.std.proofs.lemmas.List.Elements.{filter-append}
use Rattle.e3_types.specs.declared.entries.Act.{Act}
use Rattle.e3_types.specs.declared.entries.Act.TheVariants.{Step, Fall, Rise, RiseFall, Miss, Cut, Drop, Parts, Line}
use Rattle.e3_types.specs.declared.entries.Entry.{Entry}
use Rattle.e3_types.specs.declared.entries.Input.{Input}
use Rattle.e3_types.specs.declared.entries.Why.{Why}
use Rattle.e3_types.specs.declared.entries.Why.TheVariants.{Fault, Full}
use Rattle.e3_types.specs.declared.records.Record.{Record}
use Rattle.e3_types.specs.declared.scenarios.Scenario.{Scenario}
use Rattle.e3_world.specs.Moves.{Rose, Move, Past, Tail, Placed, own_entries, moves_at, recorded, log_by, rise_records, kept_moves, left_by, moves_of_act, tail_of_act, past_of, log_of, open_tail, trail_after, trail_of, all_records}
use Rattle.e3_world.proofs.Pushes.{past_push}
use Rattle.e3_world.proofs.Readings.{own_same, own_other}
use Rattle.e3_world.proofs.Trails.{trail_moves}
use Rattle.e3_order.specs.Keys.{has_number}
use Rattle.e3_readings.specs.Places.{placed_at}
use Rattle.e3_report.specs.Walk.{Walked, no_walk, tail_in, log_in, rise_in, kept_part, doubtful, with_born, and_records, and_kept, walk_act, walk_of}
use Rattle.e3_order.proofs.Maps.{number_inserted, number_added}

self_same : (o : ℕ) → (o == o) ≡ true
self_same o = eq-eqb o o refl

-- the moves that an entry of this owner makes
abbrev made : Scenario → List Entry → Entry → List Move
made sc before e = moves_of_act sc e.owner (past_of sc e.owner (own_entries e.owner before)) e.act

-- one more entry of a trail
trail_push : (sc : Scenario) (b xs : List Entry) (e : Entry) →
    trail_after sc b (xs ++ e ∷ []) ≡ trail_after sc b xs ++ made sc (b ++ xs) e
trail_push sc b [] e = append-nil (made sc b e) ∙ ap (λ l. made sc l e) (sym (append-nil b))
trail_push sc b (x ∷ xs) e =
    ap (λ l. made sc b x ++ l) (trail_push sc (b ++ x ∷ []) xs e)
    ∙ sym (append_assoc (made sc b x) (trail_after sc (b ++ x ∷ []) xs) (made sc ((b ++ x ∷ []) ++ xs) e))
    ∙ ap (λ l. (made sc b x ++ trail_after sc (b ++ x ∷ []) xs) ++ made sc l e) (append_assoc b (x ∷ []) xs)

-- records of one site's log, seen from a site
log_in_if : (s o : ℕ) (rs : List Record) (b : Bool) → (o == s) ≡ b → log_in s (placed_at o rs) ≡ (if b then rs else [])
log_in_if s o [] true is = refl
log_in_if s o [] false is = refl
log_in_if s o (r ∷ rs) true is = rw is (ap (λ l. r ∷ l) (log_in_if s o rs true is))
log_in_if s o (r ∷ rs) false is = rw is (log_in_if s o rs false is)

log_in_append : (s : ℕ) (xs ys : List Placed) → log_in s (xs ++ ys) ≡ log_in s xs ++ log_in s ys
log_in_append s xs ys = ap (λ l. map (λ p. p.entered) l) (filter-append (λ p. p.site == s) xs ys)
    ∙ map-append (λ p. p.entered) (filter (λ p. p.site == s) xs) (filter (λ p. p.site == s) ys)

log_cons : (s : ℕ) (m : Move) (ms : List Move) (b : Bool) → (m.site == s) ≡ b → log_in s (all_records ms) ≡ log_by (moves_at s ms) →
    log_in s (placed_at m.site (recorded m)) ++ log_in s (all_records ms) ≡ log_by (moves_at s (m ∷ ms))
log_cons s m ms true is ih =
    ap (λ l. l ++ log_in s (all_records ms)) (log_in_if s m.site (recorded m) true is)
    ∙ ap (λ l. recorded m ++ l) ih ∙ rw is refl
log_cons s m ms false is ih =
    ap (λ l. l ++ log_in s (all_records ms)) (log_in_if s m.site (recorded m) false is) ∙ ih ∙ rw is refl

-- the log of a site among the records of moves is what its moves make
log_of_records : (s : ℕ) (ms : List Move) → log_in s (all_records ms) ≡ log_by (moves_at s ms)
log_of_records s [] = refl
log_of_records s (m ∷ ms) =
    log_in_append s (placed_at m.site (recorded m)) (all_records ms)
    ∙ log_cons s m ms (m.site == s) refl (log_of_records s ms)

pub trail_log : (sc : Scenario) (h : List Entry) (s : ℕ) → log_in s (all_records (trail_of sc h)) ≡ log_of sc h s
trail_log sc h s = log_of_records s (trail_of sc h) ∙ ap log_by (trail_moves sc s h)

-- whether a list has members
abbrev filled : List Record → Bool
filled [] = false
filled (r ∷ rs) = true

filled_append : (xs ys : List Record) → filled (xs ++ ys) ≡ (filled ys || filled xs)
filled_append [] ys = sym (or-false (filled ys))
filled_append (x ∷ xs) ys = sym (or-true (filled ys))

filled_if : (b : Bool) (rs : List Record) → filled (if b then rs else []) ≡ (b && filled rs)
filled_if true rs = refl
filled_if false rs = refl

-- which logs have records, with more of them
with_born_at : (s o : ℕ) (records : List Record) (born : List ℕ) → has_number s (with_born o records born) ≡ (((o == s) && filled records) || has_number s born)
with_born_at s o [] born = ap (λ b. b || has_number s born) (sym (and-false (o == s)))
with_born_at s o (r ∷ rs) born = number_added s o born ∙ ap (λ b. b || has_number s born) (sym (and-true (o == s)))

-- the walk knows which logs have records
Knows : ℕ → Walked → Type 0
Knows s w = has_number s w.born ≡ filled (log_in s w.placed)

born_records : (s o : ℕ) (records : List Record) (w : Walked) → Knows s w → Knows s (and_records o records w)
unfolding Knows
born_records s o records w k =
    with_born_at s o records w.born
    ∙ ap (λ b. ((o == s) && filled records) || b) k
    ∙ sym (ap filled (log_in_append s w.placed (placed_at o records))
    ∙ filled_append (log_in s w.placed) (log_in s (placed_at o records))
    ∙ ap (λ l. filled l || filled (log_in s w.placed)) (log_in_if s o records (o == s) refl)
    ∙ ap (λ b. b || filled (log_in s w.placed)) (filled_if (o == s) records))

rise_by_log : (sc : Scenario) (s inc : ℕ) (records : List Record) → rise_in sc s inc (filled records) ≡ rise_records sc s inc records
rise_by_log sc s inc [] = refl
rise_by_log sc s inc (r ∷ rs) = refl

rise_same : (sc : Scenario) (s inc : ℕ) (w : Walked) (records : List Record) → Knows s w → log_in s w.placed ≡ records →
    rise_in sc s inc (has_number s w.born) ≡ rise_records sc s inc records
unfolding Knows
rise_same sc s inc w records k e = ap (rise_in sc s inc) (k ∙ ap filled e) ∙ rise_by_log sc s inc records

-- the records of a tail
tail_records : Option Tail → List Record
tail_records (Some t) = t.records
tail_records None = []

-- a tail that is kept
kept_placed : (o : ℕ) (kept : Bool) (tail : Option Tail) →
    all_records (kept_moves o kept tail) ≡ placed_at o (kept_part kept (tail_records tail))
unfolding tail_records
kept_placed o true (Some t) = append-nil (placed_at o t.records)
kept_placed o true None = refl
kept_placed o false (Some t) = refl
kept_placed o false None = refl

kept_log : (o : ℕ) (kept : Bool) (tail : Option Tail) → log_by (kept_moves o kept tail) ≡ kept_part kept (tail_records tail)
unfolding tail_records
kept_log o true (Some t) = append-nil t.records
kept_log o true None = refl
kept_log o false (Some t) = refl
kept_log o false None = refl

-- the walk stands for what a site's entries come to
record Meets (o : ℕ) (w : Past) (walk : Walked) : Type 0 where
  has_born : Knows o walk
  has_log : log_in o walk.placed ≡ log_by w.moves
  has_tail : tail_in o walk.tails ≡ tail_records w.tail

kept_same : (o : ℕ) (kept : Bool) (w : Past) (walk : Walked) → Meets o w walk →
    log_in o (walk.placed ++ placed_at o (kept_part kept (tail_in o walk.tails))) ≡ log_by (w.moves ++ kept_moves o kept w.tail)
kept_same o kept w walk m =
    log_in_append o walk.placed (placed_at o (kept_part kept (tail_in o walk.tails)))
    ∙ ap (λ l. l ++ log_in o (placed_at o (kept_part kept (tail_in o walk.tails)))) m.has_log
    ∙ ap (λ l. log_by w.moves ++ l) (log_in_if o o (kept_part kept (tail_in o walk.tails)) true (self_same o)
    ∙ ap (kept_part kept) m.has_tail ∙ sym (kept_log o kept w.tail))
    ∙ sym (flat_map-append recorded w.moves (kept_moves o kept w.tail))

-- the records that an act adds
act_placed : (sc : Scenario) (o : ℕ) (w : Past) (walk : Walked) (act : Act) → Meets o w walk →
    (walk_act sc o walk act).placed ≡ walk.placed ++ all_records (moves_of_act sc o w act)
act_placed sc o w walk (Step i records outs events) m = ap (λ l. walk.placed ++ l) (sym (append-nil (placed_at o records)))
act_placed sc o w walk (Rise kept inc) m =
    let k : placed_at o (kept_part kept (tail_in o walk.tails)) ≡ all_records (kept_moves o kept w.tail) =
    ap (λ l. placed_at o (kept_part kept l)) m.has_tail ∙ sym (kept_placed o kept w.tail) in
    let rise : List Record = rise_records sc o inc (log_by (w.moves ++ kept_moves o kept w.tail)) in
    let r : rise_in sc o inc (has_number o (and_kept o kept walk).born) ≡ rise =
    rise_same sc o inc (and_kept o kept walk) _ (born_records o o (kept_part kept (tail_in o walk.tails)) walk m.has_born) (kept_same o kept w walk m) in
    ap (λ l. (walk.placed ++ placed_at o (kept_part kept (tail_in o walk.tails))) ++ placed_at o l) r
    ∙ append_assoc walk.placed (placed_at o (kept_part kept (tail_in o walk.tails))) (placed_at o rise)
    ∙ ap (λ l. walk.placed ++ (l ++ placed_at o rise)) k
    ∙ ap (λ l. walk.placed ++ (all_records (kept_moves o kept w.tail) ++ l)) (sym (append-nil (placed_at o rise)))
    ∙ ap (λ l. walk.placed ++ l)
    (sym (flat_map-append _ (kept_moves o kept w.tail) (record { site = o; did = Rose inc rise } ∷ [])))
act_placed sc o w walk (RiseFall kept inc why) m =
    ap (λ l. walk.placed ++ l) (ap (λ l. placed_at o (kept_part kept l)) m.has_tail ∙ sym (kept_placed o kept w.tail))
act_placed sc o w walk (Fall inputs records why) m = sym (append-nil walk.placed)
act_placed sc o w walk Miss m = sym (append-nil walk.placed)
act_placed sc o w walk Cut m = sym (append-nil walk.placed)
act_placed sc o w walk (Drop packet) m = sym (append-nil walk.placed)
act_placed sc o w walk (Parts parts) m = sym (append-nil walk.placed)
act_placed sc o w walk (Line number) m = sym (append-nil walk.placed)

-- one more note of records in doubt
noted : (s o : ℕ) (tails : List (ℕ × List Record)) (records : List Record) (b : Bool) → (o == s) ≡ b →
    tail_in s (insert_entry nat_cmp tails o records) ≡ (if b then records else tail_in s tails)
noted s o tails records true is = ap (λ x. unwrap_or x []) (number_inserted s o records tails) ∙ rw is refl
noted s o tails records false is = ap (λ x. unwrap_or x []) (number_inserted s o records tails) ∙ rw is refl

left_same : (why : Why) (inputs : List Input) (records : List Record) → doubtful why records ≡ tail_records (left_by why inputs records)
unfolding tail_records
left_same Fault inputs records = refl
left_same (Full need room) inputs records = refl

-- what is in doubt behind an act at its own site
act_tail : (sc : Scenario) (o : ℕ) (w : Past) (walk : Walked) (act : Act) → Meets o w walk →
    tail_in o (walk_act sc o walk act).tails ≡ tail_records (tail_of_act sc o w act)
unfolding tail_records
act_tail sc o w walk (Step i records outs events) m = m.has_tail
act_tail sc o w walk (Rise kept inc) m = noted o o walk.tails [] true (self_same o)
act_tail sc o w walk (RiseFall kept inc why) m =
    noted o o walk.tails _ true (self_same o)
    ∙ ap (doubtful why) (rise_same sc o inc (and_kept o kept walk) _ (born_records o o (kept_part kept (tail_in o walk.tails)) walk m.has_born) (kept_same o kept w walk m))
    ∙ left_same why [] (rise_records sc o inc (log_by (w.moves ++ kept_moves o kept w.tail)))
act_tail sc o w walk (Fall inputs records why) m = noted o o walk.tails _ true (self_same o) ∙ left_same why _ records
act_tail sc o w walk Miss m = m.has_tail
act_tail sc o w walk Cut m = m.has_tail
act_tail sc o w walk (Drop packet) m = m.has_tail
act_tail sc o w walk (Parts parts) m = m.has_tail
act_tail sc o w walk (Line number) m = m.has_tail

-- and at another
act_other : (sc : Scenario) (s o : ℕ) (walk : Walked) (act : Act) → (o == s) ≡ false →
    tail_in s (walk_act sc o walk act).tails ≡ tail_in s walk.tails
act_other sc s o walk (Step i records outs events) is = refl
act_other sc s o walk (Rise kept inc) is = noted s o walk.tails [] false is
act_other sc s o walk (RiseFall kept inc why) is = noted s o walk.tails _ false is
act_other sc s o walk (Fall inputs records why) is = noted s o walk.tails _ false is
act_other sc s o walk Miss is = refl
act_other sc s o walk Cut is = refl
act_other sc s o walk (Drop packet) is = refl
act_other sc s o walk (Parts parts) is = refl
act_other sc s o walk (Line number) is = refl

-- what it knows behind one more act
act_born : (sc : Scenario) (s o : ℕ) (walk : Walked) (act : Act) → Knows s walk → Knows s (walk_act sc o walk act)
unfolding Knows
act_born sc s o walk (Step i records outs events) k = born_records s o records walk k
act_born sc s o walk (Rise kept inc) k =
    born_records s o (rise_in sc o inc (has_number o (and_kept o kept walk).born)) (and_kept o kept walk)
    (born_records s o (kept_part kept (tail_in o walk.tails)) walk k)
act_born sc s o walk (RiseFall kept inc why) k = born_records s o (kept_part kept (tail_in o walk.tails)) walk k
act_born sc s o walk (Fall inputs records why) k = k
act_born sc s o walk Miss k = k
act_born sc s o walk Cut k = k
act_born sc s o walk (Drop packet) k = k
act_born sc s o walk (Parts parts) k = k
act_born sc s o walk (Line number) k = k

-- the walk stands for a history
record Stands (sc : Scenario) (before : List Entry) (walk : Walked) : Type 0 where
  has_placed : walk.placed ≡ all_records (trail_of sc before)
  has_tails : (s : ℕ) → tail_in s walk.tails ≡ tail_records (open_tail sc before s)
  has_borns : (s : ℕ) → Knows s walk

meets : (sc : Scenario) (before : List Entry) (walk : Walked) (o : ℕ) → Stands sc before walk → Meets o (past_of sc o (own_entries o before)) walk
meets sc before walk o st = record {
  has_log = ap (log_in o) st.has_placed ∙ trail_log sc before o;
  has_tail = st.has_tails o;
  has_born = st.has_borns o;
}

tail_push : (sc : Scenario) (before : List Entry) (walk : Walked) (e : Entry) (s : ℕ) (b : Bool) → (e.owner == s) ≡ b → Stands sc before walk →
    tail_in s (walk_act sc e.owner walk e.act).tails ≡ tail_records (open_tail sc (before ++ e ∷ []) s)
tail_push sc before walk e s true is st =
    let same : e.owner ≡ s = eqb-true e.owner s is in
    ap (λ o. tail_in s (walk_act sc o walk e.act).tails) same
    ∙ act_tail sc s (past_of sc s (own_entries s before)) walk e.act (meets sc before walk s st)
    ∙ ap (λ p. tail_records p.tail) (sym (past_push sc s (own_entries s before) e))
    ∙ ap (λ l. tail_records (past_of sc s l).tail) (sym (own_same s before e is))
tail_push sc before walk e s false is st =
    act_other sc s e.owner walk e.act is ∙ st.has_tails s
    ∙ ap (λ l. tail_records (past_of sc s l).tail) (sym (own_other s before e is))

stands_push : (sc : Scenario) (before : List Entry) (walk : Walked) (e : Entry) → Stands sc before walk →
    Stands sc (before ++ e ∷ []) (walk_act sc e.owner walk e.act)
stands_push sc before walk e st = record {
  has_placed =
      act_placed sc e.owner (past_of sc e.owner (own_entries e.owner before)) walk e.act (meets sc before walk e.owner st)
      ∙ ap (λ l. l ++ all_records (made sc before e)) st.has_placed
      ∙ sym (flat_map-append _ (trail_of sc before) (made sc before e))
      ∙ ap all_records (sym (trail_push sc [] before e));
  has_tails = λ s. tail_push sc before walk e s (e.owner == s) refl st;
  has_borns = λ s. act_born sc s e.owner walk e.act (st.has_borns s);
}

stands_after : (sc : Scenario) (before rest : List Entry) (walk : Walked) → Stands sc before walk →
    Stands sc (before ++ rest) (fold (λ w e. walk_act sc e.owner w e.act) walk rest)
stands_after sc before [] walk st = let P : List Entry → Type 0 = λ l. Stands sc l walk in subst P (sym (append-nil before)) st
stands_after sc before (e ∷ rest) walk st =
    let P : List Entry → Type 0 = λ l. Stands sc l (fold (λ w x. walk_act sc x.owner w x.act) (walk_act sc e.owner walk e.act) rest) in
    subst P (append_assoc before (e ∷ []) rest)
    (stands_after sc (before ++ e ∷ []) rest (walk_act sc e.owner walk e.act) (stands_push sc before walk e st))

first : (sc : Scenario) → Stands sc [] no_walk
unfolding tail_records Knows
first sc = record { has_placed = refl; has_tails = λ s. refl; has_borns = λ s. refl }

-- the walk over a history gathers the records of its trail
pub walk_placed : (sc : Scenario) (h : List Entry) → (walk_of sc h).placed ≡ all_records (trail_of sc h)
walk_placed sc h = (stands_after sc [] h no_walk (first sc)).has_placed
