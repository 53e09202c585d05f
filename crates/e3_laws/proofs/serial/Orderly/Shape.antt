-- Where births and incarnations stand in the log of a site, also behind its open tail.
use Rattle.std.proofs.Common.{◌≡◌, ◌≢◌, ◌≤◌, ◌==◌, ◌++◌, ◌∷◌, [], ℕ, zero, suc, Bool, true, false, List, Option, Some, None, refl, sym, subst, ap, ◌∙◌, append-nil, append_assoc, eqb-true, length, arith}
use Rattle.std.specs.List.{AllByRecursion as Each}
use Rattle.std.proofs.lemmas.Option.{same_Some}
use Rattle.e3_types.specs.declared.entries.Act.{Act}
use Rattle.e3_types.specs.declared.entries.Act.TheVariants.{Step, Fall, Rise, RiseFall, Miss, Cut, Drop, Parts, Line}
use Rattle.e3_types.specs.declared.entries.Entry.{Entry}
use Rattle.e3_types.specs.declared.entries.Input.{Input}
use Rattle.e3_types.specs.declared.entries.Why.{Why}
use Rattle.e3_types.specs.declared.entries.Why.TheVariants.{Fault}
use Rattle.e3_types.specs.declared.records.Record.{Record}
use Rattle.e3_types.specs.declared.records.Record.TheVariants as log
use Rattle.e3_types.specs.declared.scenarios.Scenario.{Scenario}
use Rattle.e3_world.specs.Given.{IsGiven}
use Rattle.e3_world.specs.Items.{is_up_at}
use Rattle.e3_world.specs.Legal.{Guard, IsLegal, LegalAfter, made_by}
use Rattle.e3_world.specs.Logs.{logged_inc}
use Rattle.e3_world.specs.Moves.{Move, Rose, Past, Tail, own_entries, past_of, past_by, kept_moves, left_by, log_by, rise_records, birth, open_tail, moves_of}
use Rattle.e3_world.specs.Progress.{up_behind}
use Rattle.e3_world.proofs.Pushes.{past_push, legal_push}
use Rattle.e3_world.proofs.Readings.{own_same, own_other, up_same, up_other}
use Rattle.e3_laws.proofs.steps.Suits.Holding.{Holds, legal_holds}
use Rattle.e3_laws.proofs.steps.Operations.Tracing.{OfTxn}
use Rattle.e3_laws.proofs.steps.Sound.Clocks.{due_says, says_records, fall_of_txn, inc_more, inc_rise}
use Rattle.e3_laws.proofs.steps.Moving.{log_append}

-- the site is one of the scenario's
abbrev pub IsSite : Scenario → ℕ → Type 0
IsSite sc site = (1 ≤ site) × (site ≤ length sc.weights)

-- the birth stands first, each incarnation is one more than the last, and the rest stands behind one
abbrev pub Stands : Scenario → ℕ → List Record → Record → Type 0
Stands sc site before (log.Birth format number weights rows) = (before ≡ []) × (log.Birth format number weights rows ≡ birth sc site) × IsSite sc site
Stands sc site before (log.Inc n) = (before ≢ []) × (n ≡ suc (logged_inc before))
Stands sc site before r = 1 ≤ logged_inc before

abbrev pub StandAfter : Scenario → ℕ → List Record → List Record → Type 0
StandAfter sc site before [] = Unit {0}
StandAfter sc site before (r ∷ rest) = Stands sc site before r × StandAfter sc site (before ++ r ∷ []) rest

stand_append : (sc : Scenario) (site : ℕ) (before xs ys : List Record) → StandAfter sc site before xs → StandAfter sc site (before ++ xs) ys → StandAfter sc site before (xs ++ ys)
stand_append sc site before [] ys first more = let P : List Record → Type 0 = λ l. StandAfter sc site l ys in subst P (append-nil before) more
stand_append sc site before (x ∷ xs) ys first more =
    let P : List Record → Type 0 = λ l. StandAfter sc site l ys in
    (first.0, stand_append sc site (before ++ x ∷ []) xs ys first.1 (subst P (sym (append_assoc before (x ∷ []) xs)) more))

stand_one : (sc : Scenario) (site : ℕ) (before : List Record) (r : Record) → OfTxn r → 1 ≤ logged_inc before → Stands sc site before r
stand_one sc site before (log.Birth format number weights rows) is some = absurd is
stand_one sc site before (log.Inc n) is some = absurd is
stand_one sc site before (log.Vote t ops) is some = some
stand_one sc site before (log.Join t n) is some = some
stand_one sc site before (log.Attempt t n dir) is some = some
stand_one sc site before (log.Decision t dir) is some = some

-- records of transactions stand behind an incarnation
stand_txns : (sc : Scenario) (site : ℕ) (before rs : List Record) → 1 ≤ logged_inc before → Each OfTxn rs → StandAfter sc site before rs
stand_txns sc site before [] some all = tt
stand_txns sc site before (r ∷ rs) some all =
    let same : logged_inc (before ++ r ∷ []) ≡ logged_inc before = inc_more before (r ∷ []) (all.0, tt) in
    (stand_one sc site before r all.0 some, stand_txns sc site (before ++ r ∷ []) rs (omega (arith, some, same)) all.1)

-- so do those of a rise with the next incarnation
stand_rise : (sc : Scenario) (site inc : ℕ) (rs : List Record) → IsSite sc site → inc ≡ suc (logged_inc rs) → StandAfter sc site rs (rise_records sc site inc rs)
stand_rise sc site inc [] here next = ((refl, refl, here), (((λ e. absurd cc), next), tt))
stand_rise sc site inc (r ∷ rs) here next = (((λ e. absurd cc), next), tt)

-- what holds of a site so far
pub record Shaped (sc : Scenario) (site : ℕ) (w : Past) (up : Bool) : Type 0 where
  pub log : StandAfter sc site [] (log_by w.moves)
  pub some : up ≡ true → 1 ≤ logged_inc (log_by w.moves)
  pub shut : up ≡ true → w.tail ≡ None
  pub tail : (tl : Tail) → w.tail ≡ Some tl → StandAfter sc site (log_by w.moves) tl.records

-- the log with a tail that is kept
kept_stands : (sc : Scenario) (site : ℕ) (w : Past) (up kept : Bool) → Shaped sc site w up → StandAfter sc site [] (log_by (w.moves ++ kept_moves site kept w.tail))
kept_stands sc site w up kept was = by kept w.tail refl
  where
    P : List Record → Type 0
    P l = StandAfter sc site [] l

    none : P (log_by (w.moves ++ []))
    none = let Q : List Move → Type 0 = λ l. StandAfter sc site [] (log_by l) in subst Q (sym (append-nil w.moves)) was.log

    by : (k : Bool) (o : Option Tail) → w.tail ≡ o → StandAfter sc site [] (log_by (w.moves ++ kept_moves site k o))
    by true (Some tl) is =
        let Q : List Record → Type 0 = λ l. StandAfter sc site [] l in
        let R : List Record → Type 0 = λ l. StandAfter sc site (log_by w.moves) l in
        subst Q (sym (log_append w.moves (kept_moves site true (Some tl))))
        (stand_append sc site [] (log_by w.moves) (tl.records ++ []) was.log (subst R (sym (append-nil tl.records)) (was.tail tl is)))
    by true None is = none
    by false o is = none

risen : (sc : Scenario) (site : ℕ) (w : Past) (up kept : Bool) (inc : ℕ) → IsSite sc site → inc ≡ suc (logged_inc (log_by (w.moves ++ kept_moves site kept w.tail))) → Shaped sc site w up →
    Shaped sc site (past_by sc site w (record { owner = site; act = Rise kept inc })) true
risen sc site w up kept inc here next was =
    let mine : List Move = w.moves ++ kept_moves site kept w.tail in
    let records : List Record = rise_records sc site inc (log_by mine) in
    let m : Move = record { site = site; did = Rose inc records } in
    let logs : log_by (w.moves ++ (kept_moves site kept w.tail ++ m ∷ [])) ≡ log_by mine ++ records =
    ap log_by (sym (append_assoc w.moves (kept_moves site kept w.tail) (m ∷ []))) ∙ log_append mine (m ∷ []) ∙ ap (λ l. log_by mine ++ l) (append-nil records) in
    let P : List Record → Type 0 = λ l. StandAfter sc site [] l in
    let incs : logged_inc (log_by (w.moves ++ (kept_moves site kept w.tail ++ m ∷ []))) ≡ inc = ap logged_inc logs ∙ inc_rise sc site inc (log_by mine) (log_by mine) in
    record {
      log = subst P (sym logs) (stand_append sc site [] (log_by mine) records (kept_stands sc site w up kept was) (stand_rise sc site inc (log_by mine) here next));
      some = λ is. omega (arith, incs, next);
      shut = λ is. refl;
      tail = λ tl is. absurd cc;
    }

left_stands : (sc : Scenario) (site : ℕ) (l : List Record) (why : Why) (inputs : List Input) (records : List Record) → StandAfter sc site l records →
    (tl : Tail) → left_by why inputs records ≡ Some tl → StandAfter sc site l tl.records
left_stands sc site l Fault inputs records all tl is =
    let left : Tail = record { inputs = inputs; records = records } in
    let same : left ≡ tl = same_Some left tl is in
    let P : Tail → Type 0 = λ t. StandAfter sc site l t.records in subst P same all
left_stands sc site l why inputs records all tl is = absurd cc

rise_failed : (sc : Scenario) (site : ℕ) (w : Past) (up kept : Bool) (inc : ℕ) (why : Why) → IsSite sc site → inc ≡ suc (logged_inc (log_by (w.moves ++ kept_moves site kept w.tail))) →
    Shaped sc site w up → Shaped sc site (past_by sc site w (record { owner = site; act = RiseFall kept inc why })) false
rise_failed sc site w up kept inc why here next was =
    let mine : List Move = w.moves ++ kept_moves site kept w.tail in
    record {
      log = kept_stands sc site w up kept was;
      some = λ is. absurd cc;
      shut = λ is. absurd cc;
      tail = left_stands sc site (log_by mine) why [] (rise_records sc site inc (log_by mine)) (stand_rise sc site inc (log_by mine) here next);
    }

-- an act that makes no move, behind which the site is up where it was, or down
quiet : (sc : Scenario) (site : ℕ) (w : Past) (up next : Bool) → (next ≡ true → up ≡ true) → Shaped sc site w up →
    Shaped sc site (record { moves = w.moves ++ []; tail = w.tail }) next
quiet sc site w up next ups was =
    let P : List Move → Type 0 = λ ms. Shaped sc site (record { moves = ms; tail = w.tail }) next in
    subst P (sym (append-nil w.moves)) (record { log = was.log; some = λ is. was.some (ups is); shut = λ is. was.shut (ups is); tail = was.tail })

-- a step
stepped : (sc : Scenario) (site : ℕ) (w : Past) (ms : List Move) (records : List Record) → log_by ms ≡ records → Each OfTxn records → Shaped sc site w true →
    Shaped sc site (record { moves = w.moves ++ ms; tail = w.tail }) true
stepped sc site w ms records made all was =
    let logs : log_by (w.moves ++ ms) ≡ log_by w.moves ++ records = log_append w.moves ms ∙ ap (λ l. log_by w.moves ++ l) made in
    let P : List Record → Type 0 = λ l. StandAfter sc site [] l in
    let incs : logged_inc (log_by (w.moves ++ ms)) ≡ logged_inc (log_by w.moves) = ap logged_inc logs ∙ inc_more (log_by w.moves) records all in
    let few : 1 ≤ logged_inc (log_by w.moves) = was.some refl in
    record {
      log = subst P (sym logs) (stand_append sc site [] (log_by w.moves) records was.log (stand_txns sc site (log_by w.moves) records few all));
      some = λ is. omega (arith, incs, few);
      shut = was.shut;
      tail = λ tl is. absurd (let none : w.tail ≡ None = was.shut refl in cc);
    }

fallen : (sc : Scenario) (site : ℕ) (w : Past) (inputs : List Input) (records : List Record) (why : Why) → Each OfTxn records → Shaped sc site w true →
    Shaped sc site (record { moves = w.moves ++ []; tail = left_by why inputs records }) false
fallen sc site w inputs records why all was =
    let P : List Move → Type 0 = λ ms. Shaped sc site (record { moves = ms; tail = left_by why inputs records }) false in
    subst P (sym (append-nil w.moves)) (record {
      log = was.log;
      some = λ is. absurd cc;
      shut = λ is. absurd cc;
      tail = left_stands sc site (log_by w.moves) why inputs records (stand_txns sc site (log_by w.moves) records (was.some refl) all);
    })

-- what an act needs: a step and a fall a site that is up, and records of transactions; a rise the next incarnation
abbrev Needs : Scenario → ℕ → Past → Bool → Act → Type 0
Needs sc site w up (Step i records outs events) = (up ≡ true) × Each OfTxn records
Needs sc site w up (Fall inputs records why) = (up ≡ true) × Each OfTxn records
Needs sc site w up (Rise kept inc) = IsSite sc site × (inc ≡ suc (logged_inc (log_by (w.moves ++ kept_moves site kept w.tail))))
Needs sc site w up (RiseFall kept inc why) = IsSite sc site × (inc ≡ suc (logged_inc (log_by (w.moves ++ kept_moves site kept w.tail))))
Needs sc site w up act = Unit {0}

acted : (sc : Scenario) (site owner : ℕ) (w : Past) (up : Bool) (act : Act) → Needs sc site w up act → Shaped sc site w up →
    Shaped sc site (past_by sc site w (record { owner = owner; act = act })) (up_behind up act)
acted sc site owner w up (Step i records outs events) needs was =
    let P : Bool → Type 0 = λ b. Shaped sc site w b → Shaped sc site (past_by sc site w (record { owner = owner; act = Step i records outs events })) b in
    subst P (sym needs.0) (stepped sc site w _ records (append-nil records) needs.1) was
acted sc site owner w up (Fall inputs records why) needs was =
    let P : Bool → Type 0 = λ b. Shaped sc site w b in fallen sc site w _ records why needs.1 (subst P needs.0 was)
acted sc site owner w up (Rise kept inc) needs was = risen sc site w up kept inc needs.0 needs.1 was
acted sc site owner w up (RiseFall kept inc why) needs was = rise_failed sc site w up kept inc why needs.0 needs.1 was
acted sc site owner w up Miss needs was = quiet sc site w up false (λ is. absurd cc) was
acted sc site owner w up Cut needs was = quiet sc site w up false (λ is. absurd cc) was
acted sc site owner w up (Drop number) needs was = quiet sc site w up up (λ is. is) was
acted sc site owner w up (Parts parts) needs was = quiet sc site w up up (λ is. is) was
acted sc site owner w up (Line number) needs was = quiet sc site w up up (λ is. is) was

-- each guard gives what its act needs
guard_needs : (sc : Scenario) (h : List Entry) (owner : ℕ) (act : Act) → IsGiven sc → Holds sc h → Guard sc h (record { owner = owner; act = act }) →
    Needs sc owner (past_of sc owner (own_entries owner h)) (is_up_at h owner) act
guard_needs sc h zero (Step i records outs events) given was guard = absurd guard
guard_needs sc h zero (Fall inputs records why) given was guard = absurd guard
guard_needs sc h zero (Rise kept inc) given was guard = absurd guard
guard_needs sc h zero (RiseFall kept inc why) given was guard = absurd guard
guard_needs sc h (suc o) (Step i records outs events) given was guard =
    let P : Act → Type 0 = λ a. Each OfTxn (act_records a) in
    (guard.up, subst P (sym (ap (λ (e : Entry). e.act) guard.made)) (says_records (made_by sc h (suc o) i) (due_says sc h (suc o) i given guard.due was)))
  where
    act_records : Act → List Record
    act_records (Step j rs os es) = rs
    act_records a = []
guard_needs sc h (suc o) (Fall inputs records why) given was guard =
    let P : List Record → Type 0 = Each OfTxn in
    (guard.up, subst P (sym guard.made) (fall_of_txn sc inputs h (suc o) given guard.up guard.due was))
guard_needs sc h (suc o) (Rise kept inc) given was guard =
    ((omega arith, guard.rising.exists), guard.next ∙ ap (λ l. suc (logged_inc l)) (sym (log_append (moves_of sc h (suc o)) (kept_moves (suc o) kept (open_tail sc h (suc o))))))
guard_needs sc h (suc o) (RiseFall kept inc why) given was guard =
    ((omega arith, guard.rising.exists), guard.next ∙ ap (λ l. suc (logged_inc l)) (sym (log_append (moves_of sc h (suc o)) (kept_moves (suc o) kept (open_tail sc h (suc o))))))
guard_needs sc h owner act given was guard = tt

abbrev ShapedAt : Scenario → List Entry → ℕ → Type 0
ShapedAt sc h s = Shaped sc s (past_of sc s (own_entries s h)) (is_up_at h s)

shaped_push : (sc : Scenario) (h : List Entry) (e : Entry) (s : ℕ) → IsGiven sc → IsLegal sc h → Guard sc h e → ShapedAt sc h s → ShapedAt sc (h ++ e ∷ []) s
shaped_push sc h e s given legal guard was = by (e.owner == s) refl
  where
    by : (b : Bool) → (e.owner == s) ≡ b → ShapedAt sc (h ++ e ∷ []) s
    by true is =
        let w : Past = past_of sc s (own_entries s h) in
        let N : ℕ → Type 0 = λ x. Needs sc x (past_of sc x (own_entries x h)) (is_up_at h x) e.act in
        let needs : Needs sc s w (is_up_at h s) e.act = subst N (eqb-true e.owner s is) (guard_needs sc h e.owner e.act given (legal_holds sc h given legal) guard) in
        let P : Past → Type 0 = λ v. Shaped sc s v (is_up_at (h ++ e ∷ []) s) in
        let Q : Bool → Type 0 = λ b. Shaped sc s (past_by sc s w e) b in
        subst P (sym (ap (past_of sc s) (own_same s h e is) ∙ past_push sc s (own_entries s h) e)) (subst Q (sym (up_same h e s is)) (acted sc s e.owner w (is_up_at h s) e.act needs was))
    by false is =
        let P : Past → Type 0 = λ v. Shaped sc s v (is_up_at (h ++ e ∷ []) s) in
        let Q : Bool → Type 0 = λ b. Shaped sc s (past_of sc s (own_entries s h)) b in
        subst P (sym (ap (past_of sc s) (own_other s h e is))) (subst Q (sym (up_other h e s is)) was)

shaped_after : (sc : Scenario) (before rest : List Entry) (s : ℕ) → IsGiven sc → IsLegal sc before → ShapedAt sc before s → LegalAfter sc before rest → ShapedAt sc (before ++ rest) s
shaped_after sc before [] s given first was legal = let P : List Entry → Type 0 = λ l. ShapedAt sc l s in subst P (sym (append-nil before)) was
shaped_after sc before (e ∷ rest) s given first was legal = let P : List Entry → Type 0 = λ l. ShapedAt sc l s in
    subst P (append_assoc before (e ∷ []) rest)
    (shaped_after sc (before ++ e ∷ []) rest s given (legal_push sc before e first legal.0) (shaped_push sc before e s given first legal.0 was) legal.1)

-- births and incarnations stand in place in the log of each site in a legal history, and behind it in its open tail
pub legal_shaped : (sc : Scenario) (h : List Entry) (site : ℕ) → IsGiven sc → IsLegal sc h → ShapedAt sc h site
legal_shaped sc h site given legal =
    shaped_after sc [] h site given tt (record { log = tt; some = λ is. absurd cc; shut = λ is. absurd cc; tail = λ tl is. absurd cc }) legal
