-- The records of a trail, entry by entry.
use Rattle.std.proofs.Common.{◌≡◌, ◌++◌, ◌∷◌, [], ℕ, suc, ◌<◌, Bool, true, false, List, Option, Some, None, map, take, drop, length, refl, sym, ap, ◌+◌, get_or, take-suc, arith, eq-eqb, ◌∙◌, append-nil, append_assoc}
use Rattle.std.proofs.lemmas.Grind.{flat_map-append}
use Rattle.e3_types.specs.declared.entries.Act.{Act}
use Rattle.e3_types.specs.declared.entries.Act.TheVariants.{Step, Fall, Rise, RiseFall, Miss, Cut, Drop, Parts, Line}
use Rattle.e3_types.specs.declared.entries.Entry.{Entry}
use Rattle.e3_types.specs.declared.scenarios.Scenario.{Scenario}
use Rattle.e3_world.specs.Moves.{Move, Past, Tail, own_entries, recorded, log_by, kept_moves, moves_of_act, past_of, moves_of, log_of, trail_after, trail_of, all_records}
use Rattle.e3_world.proofs.Pushes.{past_push}
use Rattle.e3_world.proofs.Readings.{own_same}
use Rattle.e3_readings.specs.Places.{placed_at}
use Rattle.e3_judge.specs.Added.{added_by}

-- the moves that an entry makes
abbrev made : Scenario → List Entry → Entry → List Move
made sc before e = moves_of_act sc e.owner (past_of sc e.owner (own_entries e.owner before)) e.act

after_push : (sc : Scenario) (before h : List Entry) (e : Entry) → trail_after sc before (h ++ e ∷ []) ≡ trail_after sc before h ++ made sc (before ++ h) e
after_push sc before [] e = append-nil (made sc before e) ∙ ap (λ z. made sc z e) (sym (append-nil before))
after_push sc before (x ∷ h) e =
    ap (λ z. made sc before x ++ z) (after_push sc (before ++ x ∷ []) h e)
    ∙ sym (append_assoc (made sc before x) (trail_after sc (before ++ x ∷ []) h) (made sc ((before ++ x ∷ []) ++ h) e))
    ∙ ap (λ z. (made sc before x ++ trail_after sc (before ++ x ∷ []) h) ++ made sc z e) (append_assoc before (x ∷ []) h)

drop_front : {X : Type 0} (xs ys : List X) → drop (length xs) (xs ++ ys) ≡ ys
drop_front [] ys = refl
drop_front (x ∷ xs) ys = drop_front xs ys

-- what an entry adds to its owner's log
added_is : (sc : Scenario) (h : List Entry) (e : Entry) → added_by sc h (h ++ e ∷ []) e.owner ≡ log_by (made sc h e)
added_is sc h e =
    ap (λ l. drop (length (log_of sc h e.owner)) l)
    (ap (λ mine. log_by (past_of sc e.owner mine).moves) (own_same e.owner h e (eq-eqb e.owner e.owner refl)) ∙ ap (λ (w : Past). log_by w.moves) (past_push sc e.owner (own_entries e.owner h) e)
    ∙ flat_map-append recorded (moves_of sc h e.owner) (made sc h e))
    ∙ drop_front (log_of sc h e.owner) (log_by (made sc h e))

map_both : {X Y : Type 0} (f : X → Y) (xs ys : List X) → map f (xs ++ ys) ≡ map f xs ++ map f ys
map_both f [] ys = refl
map_both f (x ∷ xs) ys = ap (λ z. f x ∷ z) (map_both f xs ys)

-- moves of one site
abbrev AllOf : ℕ → List Move → Type 0
AllOf site [] = Unit {0}
AllOf site (m ∷ ms) = (m.site ≡ site) × AllOf site ms

of_both : (site : ℕ) (xs ys : List Move) → AllOf site xs → AllOf site ys → AllOf site (xs ++ ys)
of_both site [] ys a b = b
of_both site (m ∷ xs) ys a b = (a.0, of_both site xs ys a.1 b)

records_of : (site : ℕ) (ms : List Move) → AllOf site ms → all_records ms ≡ placed_at site (log_by ms)
records_of site [] all = refl
records_of site (m ∷ ms) all =
    ap (λ z. z ++ all_records ms) (ap (λ s. placed_at s (recorded m)) all.0)
    ∙ ap (λ z. placed_at site (recorded m) ++ z) (records_of site ms all.1)
    ∙ sym (map_both (λ r. record { site = site; entered = r }) (recorded m) (log_by ms))

kept_of : (site : ℕ) (kept : Bool) (tail : Option Tail) → AllOf site (kept_moves site kept tail)
kept_of site true (Some tail) = (refl, tt)
kept_of site true None = tt
kept_of site false (Some tail) = tt
kept_of site false None = tt

made_of : (sc : Scenario) (site : ℕ) (w : Past) (act : Act) → AllOf site (moves_of_act sc site w act)
made_of sc site w (Step i records outs events) = (refl, tt)
made_of sc site w (Rise kept inc) = of_both site (kept_moves site kept w.tail) _ (kept_of site kept w.tail) (refl, tt)
made_of sc site w (RiseFall kept inc why) = kept_of site kept w.tail
made_of sc site w (Fall inputs records why) = tt
made_of sc site w Miss = tt
made_of sc site w Cut = tt
made_of sc site w (Drop packet) = tt
made_of sc site w (Parts parts) = tt
made_of sc site w (Line number) = tt

-- one more entry
pub records_push : (sc : Scenario) (h : List Entry) (e : Entry) → all_records (trail_of sc (h ++ e ∷ [])) ≡ all_records (trail_of sc h) ++ placed_at e.owner (added_by sc h (h ++ e ∷ []) e.owner)
records_push sc h e =
    ap all_records (after_push sc [] h e)
    ∙ flat_map-append (λ m. map (λ r. record { site = m.site; entered = r }) (recorded m)) (trail_of sc h) (made sc h e)
    ∙ ap (λ z. all_records (trail_of sc h) ++ z) (records_of e.owner (made sc h e) (made_of sc e.owner (past_of sc e.owner (own_entries e.owner h)) e.act)
    ∙ ap (placed_at e.owner) (sym (added_is sc h e)))

-- one more entry of the first so many
pub placed_step : (sc : Scenario) (h : List Entry) (at : ℕ) (d : Entry) → at < length h →
    all_records (trail_of sc (take at h)) ++ placed_at (get_or h at d).owner (added_by sc (take at h) (take (at + 1) h) (get_or h at d).owner) ≡ all_records (trail_of sc (take (at + 1) h))
placed_step sc h at d less =
    let more : take (at + 1) h ≡ take at h ++ get_or h at d ∷ [] = ap (λ n. take n h) (let e : at + 1 ≡ suc at = omega arith in e) ∙ take-suc h at d less in
    ap (λ l. all_records (trail_of sc (take at h)) ++ placed_at (get_or h at d).owner (added_by sc (take at h) l (get_or h at d).owner)) more
    ∙ sym (records_push sc (take at h) (get_or h at d))
    ∙ ap (λ l. all_records (trail_of sc l)) (sym more)
