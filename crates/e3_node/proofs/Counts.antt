-- What 32 bits count of a site: its incarnations, and the turns of its log. It has no more of either than entries.
use Rattle.std.proofs.Common.{◌≡◌, ◌==◌, ◌+◌, ◌<◌, ◌≤◌, ◌^◌, ◌++◌, ◌∷◌, [], ℕ, zero, suc, Bool, true, false, leb, not, List, Option, Some, None, length, length-append, refl, sym, subst, ap, ◌∙◌, append-nil, append_assoc, eqb-true, arith}
use Rattle.std.specs.List.{AllByRecursion as Each, flat_map}
use Rattle.std.proofs.lemmas.List.Filters.{length-filter_both}
use Rattle.std.proofs.lemmas.Bool.{leb-false, leb-true}
use Rattle.std.proofs.lemmas.Option.{same_Some}
use Rattle.e3_codec.proofs.Records.{one_list}
use Rattle.e3_disk.specs.Meaning.{Meaning}
use Rattle.e3_laws.proofs.brief.Laws.{same_alike}
use Rattle.e3_laws.specs.brief.Sets.{LoggedSitesAreSets}
use Rattle.e3_laws.specs.serial.Orderly.{LogsAreOrderly}
use Rattle.e3_laws.specs.steps.Trails.{TrailsAreSound}
use Rattle.e3_laws.proofs.steps.Moving.{log_append}
use Rattle.e3_laws.proofs.steps.Operations.Tracing.{OfTxn}
use Rattle.e3_laws.proofs.steps.Sound.Clocks.{due_says, fall_of_txn, inc_more, inc_rise, says_records}
use Rattle.e3_laws.proofs.steps.Suits.Holding.{Holds, legal_holds}
use Rattle.e3_log.proofs.Unique.{one_text}
use Rattle.e3_log.specs.Reading.{ReadsAs as BytesReadAs}
use Rattle.e3_log.specs.Stands.{LogState}
use Rattle.e3_node.specs.Bodies.{ReadsTold, entries_at, log_with}
use Rattle.e3_node.specs.Briefing.{HasBody}
use Rattle.e3_node.specs.Rising.{MayRise, NextIsCounted}
use Rattle.e3_node.specs.declared.readying.Wish.{Wish}
use Rattle.e3_node.specs.site_log.Bodies.{IsLogged, bodies_in, joined}
use Rattle.e3_node.specs.site_log.Ends.{MayTurn}
use Rattle.e3_node.specs.declared.site_log.writing.Short.{Short}
use Rattle.e3_node.proofs.site_log.Frames.{spells}
use Rattle.e3_types.specs.declared.entries.Act.{Act}
use Rattle.e3_types.specs.declared.entries.Act.TheVariants.{Step, Fall, Rise, RiseFall, Miss, Cut, Drop, Parts, Line}
use Rattle.e3_types.specs.declared.entries.Entry.{Entry}
use Rattle.e3_types.specs.declared.entries.Input.{Input}
use Rattle.e3_types.specs.declared.entries.Why.{Why}
use Rattle.e3_types.specs.declared.entries.Why.TheVariants.{Fault}
use Rattle.e3_types.specs.declared.records.Record.{Record}
use Rattle.e3_types.specs.declared.scenarios.Scenario.{Scenario}
use Rattle.e3_turn.specs.Passes.{GrewByOthers, Owns, seen_by}
use Rattle.e3_wire.proofs.Foreign.{entries_append}
use Rattle.e3_wire.proofs.Staying.{are_others_marks}
use Rattle.e3_wire.proofs.Sums.{one_of_all}
use Rattle.e3_wire.specs.Claims.{APass}
use Rattle.e3_wire.specs.Marks.{belongs, entries_of, last_owner, most_of, note_of, promised, used_of}
use Rattle.e3_wire.specs.Wires.{IsPlayed}
use Rattle.e3_wire.specs.declared.marks.Mark.{Mark}
use Rattle.e3_world.specs.Given.{IsGiven}
use Rattle.e3_world.specs.Items.{is_up_at}
use Rattle.e3_world.specs.Legal.{Guard, IsLegal, LegalAfter, made_by}
use Rattle.e3_world.specs.Logs.{logged_inc}
use Rattle.e3_world.specs.Moves.{Move, Past, Rose, Tail, kept_moves, left_by, log_by, moves_of, open_tail, own_entries, past_by, past_of, rise_records}
use Rattle.e3_world.specs.Progress.{up_behind}
use Rattle.e3_world.proofs.Pushes.{legal_push, past_push}
use Rattle.e3_world.proofs.Readings.{own_other, own_same, up_other, up_same}
use Rattle.e3_node.proofs.Rises.{orderly}

-- The log of a site says no incarnation above a number, also with the open tail behind it; a site that is up has none open.
record Counted (w : Past) (up : Bool) (most : ℕ) : Type 0 where
  pub log : logged_inc (log_by w.moves) ≤ most
  pub shut : up ≡ true → w.tail ≡ None
  pub tail : (tl : Tail) → w.tail ≡ Some tl → logged_inc (log_by w.moves ++ tl.records) ≤ most

kept_counted : (site : ℕ) (w : Past) (up kept : Bool) (most : ℕ) → Counted w up most → logged_inc (log_by (w.moves ++ kept_moves site kept w.tail)) ≤ most
kept_counted site w up kept most was = by kept w.tail refl
  where
    none : logged_inc (log_by (w.moves ++ [])) ≤ most
    none = subst (λ (ms : List Move). logged_inc (log_by ms) ≤ most) (sym (append-nil w.moves)) was.log

    by : (k : Bool) (o : Option Tail) → w.tail ≡ o → logged_inc (log_by (w.moves ++ kept_moves site k o)) ≤ most
    by true (Some tl) is =
        let logs : log_by (w.moves ++ kept_moves site true (Some tl)) ≡ log_by w.moves ++ tl.records =
        log_append w.moves (kept_moves site true (Some tl)) ∙ ap (λ (l : List Record). log_by w.moves ++ l) (append-nil tl.records) in
        subst (λ (l : List Record). logged_inc l ≤ most) (sym logs) (was.tail tl is)
    by true None is = none
    by false o is = none

-- a tail that an act leaves
left_counted : (l : List Record) (why : Why) (inputs : List Input) (records : List Record) (most : ℕ) → logged_inc (l ++ records) ≤ most →
    (tl : Tail) → left_by why inputs records ≡ Some tl → logged_inc (l ++ tl.records) ≤ most
left_counted l Fault inputs records most few tl is =
    let left : Tail = record { inputs = inputs; records = records } in
    subst (λ (t : Tail). logged_inc (l ++ t.records) ≤ most) (same_Some left tl is) few
left_counted l why inputs records most few tl is = absurd cc

-- an act that makes no move
quiet : (w : Past) (up next : Bool) (most : ℕ) → (next ≡ true → up ≡ true) → Counted w up most → Counted (record { moves = w.moves ++ []; tail = w.tail }) next (most + 1)
quiet w up next most ups was =
    subst (λ (ms : List Move). Counted (record { moves = ms; tail = w.tail }) next (most + 1)) (sym (append-nil w.moves)) (record {
      log = (let few = was.log in omega (arith, few));
      shut = λ is. was.shut (ups is);
      tail = λ tl is. (let few = was.tail tl is in omega (arith, few));
    })

stepped : (w : Past) (ms : List Move) (records : List Record) (most : ℕ) → log_by ms ≡ records → Each OfTxn records → Counted w true most →
    Counted (record { moves = w.moves ++ ms; tail = w.tail }) true (most + 1)
stepped w ms records most made all was =
    let logs : log_by (w.moves ++ ms) ≡ log_by w.moves ++ records = log_append w.moves ms ∙ ap (λ (l : List Record). log_by w.moves ++ l) made in
    let incs : logged_inc (log_by (w.moves ++ ms)) ≡ logged_inc (log_by w.moves) = ap logged_inc logs ∙ inc_more (log_by w.moves) records all in
    let few = was.log in
    record {
      log = omega (arith, incs, few);
      shut = was.shut;
      tail = λ tl is. absurd (let none : w.tail ≡ None = was.shut refl in cc);
    }

fallen : (w : Past) (up : Bool) (inputs : List Input) (records : List Record) (why : Why) (most : ℕ) → Each OfTxn records → Counted w up most →
    Counted (record { moves = w.moves ++ []; tail = left_by why inputs records }) false (most + 1)
fallen w up inputs records why most all was =
    let incs : logged_inc (log_by w.moves ++ records) ≡ logged_inc (log_by w.moves) = inc_more (log_by w.moves) records all in
    let few = was.log in
    subst (λ (ms : List Move). Counted (record { moves = ms; tail = left_by why inputs records }) false (most + 1)) (sym (append-nil w.moves)) (record {
      log = omega (arith, few);
      shut = λ is. absurd cc;
      tail = left_counted (log_by w.moves) why inputs records (most + 1) (omega (arith, incs, few));
    })

risen : (sc : Scenario) (site : ℕ) (w : Past) (up kept : Bool) (inc most : ℕ) → inc ≡ suc (logged_inc (log_by (w.moves ++ kept_moves site kept w.tail))) → Counted w up most →
    Counted (past_by sc site w (record { owner = site; act = Rise kept inc })) true (most + 1)
risen sc site w up kept inc most next was =
    let mine : List Move = w.moves ++ kept_moves site kept w.tail in
    let records : List Record = rise_records sc site inc (log_by mine) in
    let m : Move = record { site = site; did = Rose inc records } in
    let logs : log_by (w.moves ++ (kept_moves site kept w.tail ++ m ∷ [])) ≡ log_by mine ++ records =
    ap log_by (sym (append_assoc w.moves (kept_moves site kept w.tail) (m ∷ []))) ∙ log_append mine (m ∷ []) ∙ ap (λ (l : List Record). log_by mine ++ l) (append-nil records) in
    let incs : logged_inc (log_by (w.moves ++ (kept_moves site kept w.tail ++ m ∷ []))) ≡ inc = ap logged_inc logs ∙ inc_rise sc site inc (log_by mine) (log_by mine) in
    let few : logged_inc (log_by mine) ≤ most = kept_counted site w up kept most was in
    record { log = omega (arith, incs, next, few); shut = λ is. refl; tail = λ tl is. absurd cc }

rise_failed : (sc : Scenario) (site : ℕ) (w : Past) (up kept : Bool) (inc : ℕ) (why : Why) (most : ℕ) → inc ≡ suc (logged_inc (log_by (w.moves ++ kept_moves site kept w.tail))) →
    Counted w up most → Counted (past_by sc site w (record { owner = site; act = RiseFall kept inc why })) false (most + 1)
rise_failed sc site w up kept inc why most next was =
    let mine : List Move = w.moves ++ kept_moves site kept w.tail in
    let incs : logged_inc (log_by mine ++ rise_records sc site inc (log_by mine)) ≡ inc = inc_rise sc site inc (log_by mine) (log_by mine) in
    let few : logged_inc (log_by mine) ≤ most = kept_counted site w up kept most was in
    record {
      log = omega (arith, few);
      shut = λ is. absurd cc;
      tail = left_counted (log_by mine) why [] (rise_records sc site inc (log_by mine)) (most + 1) (omega (arith, incs, next, few));
    }

-- what an act needs: a step and a fall records of transactions, a step a site that is up, a rise the next incarnation
abbrev Needs : ℕ → Past → Bool → Act → Type 0
Needs site w up (Step i records outs events) = (up ≡ true) × Each OfTxn records
Needs site w up (Fall inputs records why) = Each OfTxn records
Needs site w up (Rise kept inc) = inc ≡ suc (logged_inc (log_by (w.moves ++ kept_moves site kept w.tail)))
Needs site w up (RiseFall kept inc why) = inc ≡ suc (logged_inc (log_by (w.moves ++ kept_moves site kept w.tail)))
Needs site w up act = Unit {0}

acted : (sc : Scenario) (site owner : ℕ) (w : Past) (up : Bool) (act : Act) (most : ℕ) → Needs site w up act → Counted w up most →
    Counted (past_by sc site w (record { owner = owner; act = act })) (up_behind up act) (most + 1)
acted sc site owner w up (Step i records outs events) most needs was =
    let P : Bool → Type 0 = λ b. Counted w b most → Counted (past_by sc site w (record { owner = owner; act = Step i records outs events })) b (most + 1) in
    subst P (sym needs.0) (stepped w _ records most (append-nil records) needs.1) was
acted sc site owner w up (Fall inputs records why) most needs was = fallen w up _ records why most needs was
acted sc site owner w up (Rise kept inc) most needs was = risen sc site w up kept inc most needs was
acted sc site owner w up (RiseFall kept inc why) most needs was = rise_failed sc site w up kept inc why most needs was
acted sc site owner w up Miss most needs was = quiet w up false most (λ is. absurd cc) was
acted sc site owner w up Cut most needs was = quiet w up false most (λ is. absurd cc) was
acted sc site owner w up (Drop number) most needs was = quiet w up up most (λ is. is) was
acted sc site owner w up (Parts parts) most needs was = quiet w up up most (λ is. is) was
acted sc site owner w up (Line number) most needs was = quiet w up up most (λ is. is) was

guard_needs : (sc : Scenario) (h : List Entry) (owner : ℕ) (act : Act) → IsGiven sc → Holds sc h → Guard sc h (record { owner = owner; act = act }) →
    Needs owner (past_of sc owner (own_entries owner h)) (is_up_at h owner) act
guard_needs sc h zero (Step i records outs events) given was guard = absurd guard
guard_needs sc h zero (Fall inputs records why) given was guard = absurd guard
guard_needs sc h zero (Rise kept inc) given was guard = absurd guard
guard_needs sc h zero (RiseFall kept inc why) given was guard = absurd guard
guard_needs sc h (suc o) (Step i records outs events) given was guard =
    (guard.up, subst (Each OfTxn) (sym (ap (λ (e : Entry). act_records e.act) guard.made)) (says_records (made_by sc h (suc o) i) (due_says sc h (suc o) i given guard.due was)))
  where
    act_records : Act → List Record
    act_records (Step j rs os es) = rs
    act_records a = []
guard_needs sc h (suc o) (Fall inputs records why) given was guard =
    subst (Each OfTxn) (sym guard.made) (fall_of_txn sc inputs h (suc o) given guard.up guard.due was)
guard_needs sc h (suc o) (Rise kept inc) given was guard =
    guard.next ∙ ap (λ (l : List Record). suc (logged_inc l)) (sym (log_append (moves_of sc h (suc o)) (kept_moves (suc o) kept (open_tail sc h (suc o)))))
guard_needs sc h (suc o) (RiseFall kept inc why) given was guard =
    guard.next ∙ ap (λ (l : List Record). suc (logged_inc l)) (sym (log_append (moves_of sc h (suc o)) (kept_moves (suc o) kept (open_tail sc h (suc o)))))
guard_needs sc h owner act given was guard = tt

abbrev CountedAt : Scenario → List Entry → ℕ → Type 0
CountedAt sc h s = Counted (past_of sc s (own_entries s h)) (is_up_at h s) (entries_at h s)

counted_push : (sc : Scenario) (h : List Entry) (e : Entry) (s : ℕ) → IsGiven sc → IsLegal sc h → Guard sc h e → CountedAt sc h s → CountedAt sc (h ++ e ∷ []) s
counted_push sc h e s given legal guard was = by (e.owner == s) refl
  where
    by : (b : Bool) → (e.owner == s) ≡ b → CountedAt sc (h ++ e ∷ []) s
    by true is =
        let w : Past = past_of sc s (own_entries s h) in
        let N : ℕ → Type 0 = λ x. Needs x (past_of sc x (own_entries x h)) (is_up_at h x) e.act in
        let needs : Needs s w (is_up_at h s) e.act = subst N (eqb-true e.owner s is) (guard_needs sc h e.owner e.act given (legal_holds sc h given legal) guard) in
        let one : own_entries s (h ++ e ∷ []) ≡ own_entries s h ++ e ∷ [] = own_same s h e is in
        let P : Past → Type 0 = λ v. Counted v (is_up_at (h ++ e ∷ []) s) (entries_at (h ++ e ∷ []) s) in
        let Q : Bool → Type 0 = λ b. Counted (past_by sc s w e) b (entries_at (h ++ e ∷ []) s) in
        let R : ℕ → Type 0 = λ n. Counted (past_by sc s w e) (up_behind (is_up_at h s) e.act) n in
        subst P (sym (ap (past_of sc s) one ∙ past_push sc s (own_entries s h) e)) (subst Q (sym (up_same h e s is))
        (subst R (sym (ap (λ (l : List Entry). length l) one ∙ length-append (own_entries s h) (e ∷ []))) (acted sc s e.owner w (is_up_at h s) e.act (entries_at h s) needs was)))
    by false is =
        let P : List Entry → Type 0 = λ l. Counted (past_of sc s l) (is_up_at (h ++ e ∷ []) s) (length l) in
        let Q : Bool → Type 0 = λ b. Counted (past_of sc s (own_entries s h)) b (entries_at h s) in
        subst P (sym (own_other s h e is)) (subst Q (sym (up_other h e s is)) was)

counted_after : (sc : Scenario) (before rest : List Entry) (s : ℕ) → IsGiven sc → IsLegal sc before → CountedAt sc before s → LegalAfter sc before rest → CountedAt sc (before ++ rest) s
counted_after sc before [] s given first was legal = subst (λ (l : List Entry). CountedAt sc l s) (sym (append-nil before)) was
counted_after sc before (e ∷ rest) s given first was legal =
    subst (λ (l : List Entry). CountedAt sc l s) (append_assoc before (e ∷ []) rest)
    (counted_after sc (before ++ e ∷ []) rest s given (legal_push sc before e first legal.0) (counted_push sc before e s given first legal.0 was) legal.1)

-- The last incarnation that a site's log says in a legal history is no more than the site has entries, also where a tail is kept.
pub incs_are_few : (sc : Scenario) (h : List Entry) (site : ℕ) (kept : Bool) → IsGiven sc → IsLegal sc h → logged_inc (log_with sc h site kept) ≤ entries_at h site
incs_are_few sc h site kept given legal =
    kept_counted site (past_of sc site (own_entries site h)) (is_up_at h site) kept (entries_at h site)
    (counted_after sc [] h site given tt (record { log = omega arith; shut = λ is. refl; tail = λ tl is. absurd cc }) legal)

-- no site has more entries than the history
own_few : (h : List Entry) (site : ℕ) → entries_at h site ≤ length h
own_few h site =
    let both = length-filter_both (λ (e : Entry). e.owner == site) (λ e. not (e.owner == site)) (λ e. refl) h in
    omega (arith, both)

-- So 32 bits count the incarnation behind what is read of a disk that tells of a history, where they count one entry more.
pub next_is_counted : (sc : Scenario) (h : List Entry) (wish : Wish) (capacity generation logged : ℕ) (bodies : List (List ℕ)) (bytes : List ℕ) → MayRise sc h wish → suc (length h) < 2 ^ 32 →
    ReadsTold wish.site capacity (entries_at h wish.site) logged (moves_of sc h wish.site) (open_tail sc h wish.site) bytes → BytesReadAs capacity generation bodies bytes →
    LogsAreOrderly → LoggedSitesAreSets → TrailsAreSound → NextIsCounted wish.site bodies
next_is_counted sc h wish capacity generation logged bodies bytes may few it reads logs sets sounds = λ read back spelled.
    let are : bodies ≡ bodies_in it.reads.lists = (one_text capacity generation it.reads.generation bodies (bodies_in it.reads.lists) bytes reads it.reads.reads).0 in
    let read_is : read ≡ joined it.reads.lists =
    one_list wish.site read (joined it.reads.lists) back it.reads.hold.back (sym spelled ∙ ap (flat_map (λ body. body)) are ∙ spells it.reads.lists) in
    let before : List Record = log_with sc h wish.site it.kept in
    let alike = same_alike wish.site (joined it.reads.lists) before it.reads.hold.orderly (orderly logs sets sounds sc h wish may it.kept it.some) it.reads.hold.same in
    let same : logged_inc read ≡ logged_inc before = ap logged_inc read_is ∙ alike.inc in
    let own = incs_are_few sc h wish.site it.kept may.given may.legal in
    let all = own_few h wish.site in
    omega (arith, few, same, own, all)

-- A log on a disk that holds the log of a site may be turned, where 32 bits count one entry more.
pub may_turn : {D : Type 0} (meaning : Meaning D) (h : List Entry) (site : ℕ) (log : List Record) (logged : ℕ) (on_disk : LogState D) (short : Option Short) →
    IsLogged meaning site (entries_at h site) log logged on_disk → suc (length h) < 2 ^ 32 → HasBody short → MayTurn on_disk short
may_turn meaning h site log logged on_disk None is few body = tt
may_turn meaning h site log logged on_disk (Some short) is few body =
    let turns = is.few in
    let all = own_few h site in
    (omega (arith, few, turns, all), body)

below : (a b : ℕ) → (a ≤ b → ⊥) → b < a
below a b never = by (leb a b) refl
  where
    by : (t : Bool) → leb a b ≡ t → b < a
    by true is = absurd (never (leb-true a b is))
    by false is = leb-false a b is

-- where so many entries are not all that a history may have, 32 bits count one more
pub one_more_entry : (marks : List Mark) (n : ℕ) → IsPlayed marks → (most_of marks ≤ n → ⊥) → suc n < 2 ^ 32
one_more_entry marks n played not_full =
    let less : n < most_of marks = below (most_of marks) n not_full in
    let few = played.few in
    omega (arith, few, less)

-- so it is where a place is promised to someone
pub promised_entry : (marks : List Mark) (owner : ℕ) → IsPlayed marks → owner ≤ last_owner marks → 1 ≤ (note_of owner marks).places → suc (length (entries_of marks)) < 2 ^ 32
promised_entry marks owner played exists some =
    let within : length (entries_of marks) + promised (last_owner marks) marks ≤ most_of marks = played.within in
    let own : (note_of owner marks).places ≤ promised (last_owner marks) marks = one_of_all (λ o. (note_of o marks).places) owner (last_owner marks) exists in
    one_more_entry marks (length (entries_of marks)) played (λ all. omega (arith, within, own, some, all))

-- and behind what a pass had seen, where a claim was not refused since
pub claimed_entry : (p : APass) (owner : ℕ) (between : List Mark) → Owns p owner → GrewByOthers belongs p between → IsPlayed between →
    (most_of between ≤ used_of between → ⊥) → suc (length (entries_of (seen_by p))) < 2 ^ 32
claimed_entry p owner between owns grew played not_full =
    let since = are_others_marks p owner between owns grew in
    let all : length (entries_of between) ≡ length (entries_of (seen_by p)) + length (entries_of since.0) =
    ap (λ (l : List Mark). length (entries_of l)) since.1 ∙ ap (λ (l : List Entry). length l) (entries_append (seen_by p) since.0) ∙ length-append (entries_of (seen_by p)) (entries_of since.0) in
    let few = one_more_entry between (length (entries_of between)) played (λ most.
    not_full (let used : most_of between ≤ length (entries_of between) + promised (last_owner between) between = omega (arith, most) in used)) in
    omega (arith, few, all)
