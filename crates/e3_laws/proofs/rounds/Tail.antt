-- The end of a round: once the members have decided, what is pending are answers to operations and decisions, and of the
-- round's own packets none. So no entry is its own, no verdict is told, and it stays so.
use Rattle.std.proofs.Common.{◌≡◌, ◌==◌, ◌&&◌, ◌||◌, ◌-◌, ℕ, zero, suc, Bool, true, false, not, List, [], ◌∷◌, ◌++◌, append-nil, append_assoc, Option, Some, None, is_none, ◌∙◌, ap, sym, subst, refl, fold, map, slice_get, if◌then◌else◌, arith, count_by, ◌+◌}
use Rattle.std.specs.List.{list_all, list_any}
use Rattle.std.proofs.lemmas.Bool.{and_parts, or_parts}
use Rattle.std.proofs.lemmas.Grind.{fold-append, flat_map-append}
use Rattle.std.proofs.lemmas.List.{map-append}
use Rattle.e3_types.specs.declared.entries.Act.{Act}
use Rattle.e3_types.specs.declared.entries.Act.TheVariants.{Step, Fall, Rise, RiseFall, Miss, Cut, Drop, Parts, Line}
use Rattle.e3_types.specs.declared.entries.Entry.{Entry}
use Rattle.e3_types.specs.declared.entries.Input.{Input}
use Rattle.e3_types.specs.declared.entries.Input.TheVariants as input
use Rattle.e3_types.specs.declared.entries.Told.{Told}
use Rattle.e3_types.specs.declared.entries.Told.TheVariants as told
use Rattle.e3_types.specs.declared.messages.Message.{Message}
use Rattle.e3_types.specs.declared.messages.Message.TheVariants as msg
use Rattle.e3_types.specs.declared.messages.Packet.{Packet}
use Rattle.e3_types.specs.declared.records.Record.{Record}
use Rattle.e3_types.specs.declared.records.Record.TheVariants as log
use Rattle.e3_types.specs.declared.scenarios.Item.{Item}
use Rattle.e3_types.specs.declared.scenarios.Item.TheVariants as item
use Rattle.e3_types.specs.declared.scenarios.Scenario.{Scenario}
use Rattle.e3_types.specs.declared.transactions.Answer.{Answer}
use Rattle.e3_types.specs.declared.transactions.Dir.{Dir}
use Rattle.e3_types.specs.declared.transactions.Dir.TheVariants.{Abort}
use Rattle.e3_types.specs.declared.transactions.Txn.{Txn}
use Rattle.e3_types.specs.Same.{same_txn}
use Rattle.e3_types.specs.Sets.{has_site, others}
use Rattle.e3_world.specs.declared.lives.At.{At}
use Rattle.e3_world.specs.declared.lives.Expected.{Expected}
use Rattle.e3_world.specs.declared.lives.Made.{Made}
use Rattle.e3_world.specs.Given.{IsGiven}
use Rattle.e3_world.specs.Items.{RecoveryRound, turn_of}
use Rattle.e3_world.specs.Legal.{AreDue, Guard, IsDue, IsNextItem, LegalAfter, entry_of, made_by, numbered}
use Rattle.e3_world.specs.Logs.{decision, decision_by, is_undecided}
use Rattle.e3_world.specs.Making.{nothing, and_abort_for, and_decide, and_record, and_tell, is_coordinator, is_present, may_abort, may_decide, open_now}
use Rattle.e3_world.specs.Messages.{on_message}
use Rattle.e3_world.specs.Moves.{Past, log_by, log_of, moves_of, moves_of_act, own_entries, past_of, recorded}
use Rattle.e3_world.specs.Operations.{expected}
use Rattle.e3_world.specs.Packets.{is_calm, is_line, outs_of, pending, present_items, taken, taken_by}
use Rattle.e3_world.specs.Steps.{step_at}
use Rattle.e3_world.proofs.Pushes.{past_push}
use Rattle.std.proofs.lemmas.List.Sums.{sum_by-append}
use Rattle.e3_world.proofs.Readings.{own_other, own_same}
use Rattle.e3_net.specs.declared.waiting.Waiting.{Waiting}
use Rattle.e3_net.specs.Traffic.{wait}
use Rattle.e3_net.specs.Stands.{given, waiting_of, without}
use Rattle.e3_net.proofs.Pushing.{pending_waits, waiting_push}
use Rattle.e3_laws.specs.rounds.Rounds.{elects, is_elect, is_of_round, is_own, verdicts_at, verdicts_told, verdicts_in}
use Rattle.e3_laws.specs.steps.Waiting.{is_answer}
use Rattle.e3_laws.proofs.steps.Deciding.{AddsAnswers, is_answer_from, step_adds_answers, tells_answer}
use Rattle.e3_laws.proofs.rounds.Deliveries.Forced.{no_inputs}
use Rattle.e3_laws.proofs.steps.Moving.{place, place_log}
use Rattle.e3_laws.proofs.rounds.Phases.Rows.{cast_is, mail}
use Rattle.e3_laws.proofs.steps.Lists.{both_all}
use Rattle.e3_laws.proofs.steps.Tests.{same_is}
use Rattle.e3_laws.proofs.rounds.Deliveries.Walking.{items_on}

-- what may be pending then; a decision of the round's transaction is from no member
abbrev pub is_late : RecoveryRound → Packet → Bool
is_late r p = by p.msg
  where
    by : Message → Bool
    by (msg.Done t n inc answer) = true
    by (msg.Decide u dir) = not (same_txn r.txn u && has_site r.members p.«from»)
    by _ = false

-- all members have decided, and what is pending is late
pub record Tail (sc : Scenario) (r : RecoveryRound) (h : List Entry) : Type 0 where
  pub late : list_all (is_late r) (pending sc h) ≡ true
  pub decided : (s : ℕ) → has_site r.members s ≡ true → is_undecided r.txn (log_of sc h s) ≡ false

-- a test of all that is pending, with one more entry
all_wait : (P : Packet → Bool) (p : Packet) (c : ℕ) (ws : List Waiting) → P p ≡ true → list_all P (map (λ w. w.packet) ws) ≡ true →
    list_all P (map (λ w. w.packet) (wait p c ++ ws)) ≡ true
all_wait P p zero ws here rest = rest
all_wait P p (suc c) ws here rest = rw here rest

all_without : (P : Packet → Bool) (f : ℕ → ℕ) (ws : List Waiting) → list_all P (map (λ w. w.packet) ws) ≡ true →
    list_all P (map (λ w. w.packet) (without f ws)) ≡ true
all_without P f [] all = refl
all_without P f (w ∷ ws) all =
    let parts = and_parts (P w.packet) (list_all P (map (λ w. w.packet) ws)) all in
    all_wait P w.packet (w.copies - f w.packet.number) (without f ws) parts.0 (all_without P f ws parts.1)

packets_given : (sc : Scenario) (h : List Entry) (ps : List Packet) → map (λ w. w.packet) (map (given sc h) ps) ≡ ps
packets_given sc h [] = refl
packets_given sc h (p ∷ ps) = ap (λ l. p ∷ l) (packets_given sc h ps)

pub pending_all : (P : Packet → Bool) (sc : Scenario) (h : List Entry) (e : Entry) → list_all P (pending sc h) ≡ true → list_all P (outs_of e.act) ≡ true →
    list_all P (pending sc (h ++ e ∷ [])) ≡ true
pending_all P sc h e old new =
    ap (list_all P) (sym (pending_waits sc (h ++ e ∷ [])) ∙ ap (map (λ w. w.packet)) (waiting_push sc h e) ∙ map-append (λ w. w.packet) before behind)
    ∙ both_all P (map (λ w. w.packet) before) (map (λ w. w.packet) behind)
    (all_without P (λ n. taken_by n e.act) (waiting_of sc h) (ap (list_all P) (pending_waits sc h) ∙ old))
    (all_without P (λ n. taken n (h ++ e ∷ [])) (map (given sc h) (outs_of e.act)) (ap (list_all P) (packets_given sc h (outs_of e.act)) ∙ new))
  where
    before : List Waiting
    before = without (λ n. taken_by n e.act) (waiting_of sc h)

    behind : List Waiting
    behind = without (λ n. taken n (h ++ e ∷ [])) (map (given sc h) (outs_of e.act))

late_numbered : (r : RecoveryRound) (n : ℕ) (ps : List Packet) → list_all (is_late r) ps ≡ true → list_all (is_late r) (numbered n ps) ≡ true
late_numbered r n [] all = refl
late_numbered r n (p ∷ ps) all =
    let parts = and_parts (is_late r p) (list_all (is_late r) ps) all in
    rw parts.0 (late_numbered r (suc n) ps parts.1)

-- a decision stays in a log
one_stays : (t : Txn) (d : Dir) (r : Record) → is_none (decision_by t (Some d) r) ≡ false
one_stays t d (log.Decision u dir) = by (same_txn t u) refl
  where
    by : (b : Bool) → same_txn t u ≡ b → is_none (if same_txn t u then Some dir else Some d) ≡ false
    by true is = rw is refl
    by false is = rw is refl
one_stays t d (log.Birth format site weights born) = refl
one_stays t d (log.Inc n) = refl
one_stays t d (log.Vote u ops) = refl
one_stays t d (log.Join u n) = refl
one_stays t d (log.Attempt u n dir) = refl

stays : (t : Txn) (was : Option Dir) (rs : List Record) → is_none was ≡ false → is_none (fold (decision_by t) was rs) ≡ false
stays t was [] some = some
stays t None (r ∷ rs) some = absurd cc
stays t (Some d) (r ∷ rs) some = stays t (decision_by t (Some d) r) rs (one_stays t d r)

pub decided_more : (t : Txn) (l rs : List Record) → is_undecided t l ≡ false → is_undecided t (l ++ rs) ≡ false
decided_more t l rs is = ap is_none (fold-append (decision_by t) None l rs) ∙ stays t (decision t l) rs is

-- a log only grows
pub log_grows : (sc : Scenario) (h : List Entry) (e : Entry) (s : ℕ) → (more : List Record) × (log_of sc (h ++ e ∷ []) s ≡ log_of sc h s ++ more)
log_grows sc h e s = by (e.owner == s) refl
  where
    by : (b : Bool) → (e.owner == s) ≡ b → (more : List Record) × (log_of sc (h ++ e ∷ []) s ≡ log_of sc h s ++ more)
    by true is =
        let added = moves_of_act sc s (past_of sc s (own_entries s h)) e.act in (
          log_by added,
          ap (λ l. log_by (past_of sc s l).moves) (own_same s h e is) ∙ ap (λ (p : Past). log_by p.moves) (past_push sc s (own_entries s h) e)
              ∙ flat_map-append recorded (moves_of sc h s) added,
        )
    by false is = ([], ap (λ l. log_by (past_of sc s l).moves) (own_other s h e is) ∙ sym (append-nil (log_of sc h s)))

-- an event that is no verdict
abbrev pub no_verdict : Told → Bool
no_verdict (told.Verdict t n v) = false
no_verdict _ = true

pub none_said : (t : Txn) (o : ℕ) (i : Input) (rs : List Record) (outs : List Packet) (events : List Told) → list_all no_verdict events ≡ true →
    verdicts_in t (Step i rs outs events) ≡ []
none_said t o i rs outs [] all = refl
none_said t o i rs outs (told.Began u ∷ events) all = none_said t o i rs outs events all
none_said t o i rs outs (told.Op u n answer ∷ events) all = none_said t o i rs outs events all
none_said t o i rs outs (told.Ended u dir ∷ events) all = none_said t o i rs outs events all
none_said t o i rs outs (told.Died u older ∷ events) all = none_said t o i rs outs events all
none_said t o i rs outs (told.Doomed u site had now ∷ events) all = none_said t o i rs outs events all
none_said t o i rs outs (told.Refused u why ∷ events) all = none_said t o i rs outs events all
none_said t o i rs outs (told.Kept u st ∷ events) all = none_said t o i rs outs events all
none_said t o i rs outs (told.Verdict u n v ∷ events) all = absurd cc

-- a step that goes on so
pub record Quiet (r : RecoveryRound) (made : Made) : Type 0 where
  pub own : made.own ≡ []
  pub outs : list_all (is_late r) made.outs ≡ true
  pub says : list_all no_verdict made.told ≡ true

pub quiet_choice : (r : RecoveryRound) (b : Bool) (x y : Made) → Quiet r x → Quiet r y → Quiet r (if b then x else y)
quiet_choice r true x y first second = first
quiet_choice r false x y first second = second

pub quiet_nothing : (r : RecoveryRound) → Quiet r nothing
quiet_nothing r = record { own = refl; outs = refl; says = refl }

pub quiet_decide : (r : RecoveryRound) (a : At) (u : Txn) (dir : Dir) → Quiet r (and_decide a u dir nothing)
quiet_decide r a u dir = by (is_coordinator a u && is_present a u) refl
  where
    by : (b : Bool) → (is_coordinator a u && is_present a u) ≡ b → Quiet r (and_decide a u dir nothing)
    by true is = rw is (record { own = refl; outs = refl; says = refl })
    by false is = rw is (record { own = refl; outs = refl; says = refl })

late_mails : (r : RecoveryRound) (s : ℕ) (u : Txn) (xs : List ℕ) → not (same_txn r.txn u && has_site r.members s) ≡ true →
    list_all (is_late r) (map (mail s (msg.Decide u Abort)) xs) ≡ true
late_mails r s u [] is = refl
late_mails r s u (x ∷ xs) is = rw is (late_mails r s u xs is)

quiet_doom : (r : RecoveryRound) (a : At) (u : Txn) (why : Told) → no_verdict why ≡ true → not (same_txn r.txn u && has_site r.members a.site) ≡ true →
    Quiet r (and_abort_for a u why nothing)
quiet_doom r a u why plain_event not_ours =
    subst (Quiet r) (sym (cast_is a (msg.Decide u Abort) u.sites (and_tell why (and_record (log.Decision u Abort) nothing))))
    (record { own = refl; outs = late_mails r a.site u (others a.site u.sites) not_ours; says = rw plain_event refl })

-- what a site that decided, if it is a member, makes of a late packet
quiet_done : (r : RecoveryRound) (a : At) (f : ℕ) (u : Txn) (n inc : ℕ) (answer : Answer) →
    (has_site r.members a.site ≡ true → is_undecided r.txn a.life.log ≡ false) → Quiet r (on_message a f (msg.Done u n inc answer) nothing)
quiet_done r a f u n inc answer decided = by (is_coordinator a u && is_present a u && open_now a u nothing) refl
  where
    ours : is_undecided u (a.life.log ++ []) ≡ true → (b c : Bool) → same_txn r.txn u ≡ b → has_site r.members a.site ≡ c → not (same_txn r.txn u && has_site r.members a.site) ≡ true
    ours still true true same member = absurd (
        let u_is : r.txn ≡ u = same_is r.txn u same in
        let off : is_undecided u a.life.log ≡ false = subst (λ (x : Txn). is_undecided x a.life.log ≡ false) u_is (decided member) in
        let clash : true ≡ false = sym still ∙ ap (is_undecided u) (append-nil a.life.log) ∙ off in cc)
    ours still true false same member = rw (same, member) refl
    ours still false c same member = rw same refl

    earlier : is_undecided u (a.life.log ++ []) ≡ true → (e : Expected) →
        Quiet r (if e.count == 0 || e.inc == inc then and_tell (told.Op u n answer) nothing else if may_abort a u nothing then and_abort_for a u (told.Doomed u f e.inc inc) nothing else nothing)
    earlier still e = quiet_choice r (e.count == 0 || e.inc == inc) _ _ (record { own = refl; outs = refl; says = refl })
        (quiet_choice r (may_abort a u nothing) _ nothing (quiet_doom r a u (told.Doomed u f e.inc inc) refl (ours still (same_txn r.txn u) (has_site r.members a.site) refl refl)) (quiet_nothing r))

    third : (b c d : Bool) → (b && c && d) ≡ true → d ≡ true
    third true true d is = is
    third true false d is = absurd cc
    third false c d is = absurd cc

    by : (b : Bool) → (is_coordinator a u && is_present a u && open_now a u nothing) ≡ b → Quiet r (on_message a f (msg.Done u n inc answer) nothing)
    by true is = rw is (quiet_choice r _ _ nothing (earlier (third (is_coordinator a u) (is_present a u) (open_now a u nothing) is) (expected a.site a.life.inc u a.life.steps f)) (quiet_nothing r))
    by false is = rw is (quiet_nothing r)

quiet_message : (r : RecoveryRound) (a : At) (p : Packet) (m : Message) → p.msg ≡ m → is_late r p ≡ true →
    (has_site r.members a.site ≡ true → is_undecided r.txn a.life.log ≡ false) → Quiet r (on_message a p.«from» m nothing)
quiet_message r a p (msg.Done u n inc answer) is late decided = quiet_done r a p.«from» u n inc answer decided
quiet_message r a p (msg.Decide u dir) is late decided = quiet_choice r (may_decide a u dir nothing) _ nothing (quiet_decide r a u dir) (quiet_nothing r)
quiet_message r a p (msg.Do u n op) is late decided = absurd (let off : is_late r p ≡ false = rw is refl in let clash : true ≡ false = sym late ∙ off in cc)
quiet_message r a p (msg.Died u n older) is late decided = absurd (let off : is_late r p ≡ false = rw is refl in let clash : true ≡ false = sym late ∙ off in cc)
quiet_message r a p (msg.Ask u call) is late decided = absurd (let off : is_late r p ≡ false = rw is refl in let clash : true ≡ false = sym late ∙ off in cc)
quiet_message r a p (msg.LastElected u call elected) is late decided = absurd (let off : is_late r p ≡ false = rw is refl in let clash : true ≡ false = sym late ∙ off in cc)
quiet_message r a p (msg.Elected u n) is late decided = absurd (let off : is_late r p ≡ false = rw is refl in let clash : true ≡ false = sym late ∙ off in cc)
quiet_message r a p (msg.Report u n st attempt) is late decided = absurd (let off : is_late r p ≡ false = rw is refl in let clash : true ≡ false = sym late ∙ off in cc)
quiet_message r a p (msg.VoteReq u inc count) is late decided = absurd (let off : is_late r p ≡ false = rw is refl in let clash : true ≡ false = sym late ∙ off in cc)
quiet_message r a p (msg.Vote u said) is late decided = absurd (let off : is_late r p ≡ false = rw is refl in let clash : true ≡ false = sym late ∙ off in cc)
quiet_message r a p (msg.Pre u n dir) is late decided = absurd (let off : is_late r p ≡ false = rw is refl in let clash : true ≡ false = sym late ∙ off in cc)
quiet_message r a p (msg.Ack u n dir) is late decided = absurd (let off : is_late r p ≡ false = rw is refl in let clash : true ≡ false = sym late ∙ off in cc)

late_answer : (r : RecoveryRound) (p : Packet) (m : Message) → p.msg ≡ m → is_answer m ≡ true → is_late r p ≡ true
late_answer r p (msg.Done u n inc answer) is answers = rw is refl
late_answer r p (msg.Decide u dir) is answers = absurd cc
late_answer r p (msg.Do u n op) is answers = absurd cc
late_answer r p (msg.Died u n older) is answers = absurd cc
late_answer r p (msg.Ask u call) is answers = absurd cc
late_answer r p (msg.LastElected u call elected) is answers = absurd cc
late_answer r p (msg.Elected u n) is answers = absurd cc
late_answer r p (msg.Report u n st attempt) is answers = absurd cc
late_answer r p (msg.VoteReq u inc count) is answers = absurd cc
late_answer r p (msg.Vote u said) is answers = absurd cc
late_answer r p (msg.Pre u n dir) is answers = absurd cc
late_answer r p (msg.Ack u n dir) is answers = absurd cc

pub late_answers : (r : RecoveryRound) (site : ℕ) (ps : List Packet) → list_all (is_answer_from site) ps ≡ true → list_all (is_late r) ps ≡ true
late_answers r site [] all = refl
late_answers r site (p ∷ ps) all =
    let parts = and_parts (is_answer_from site p) (list_all (is_answer_from site) ps) all in
    rw (late_answer r p p.msg refl (and_parts (p.«from» == site) (is_answer p.msg) parts.0).1) (late_answers r site ps parts.1)

pub no_verdicts : (events : List Told) → list_all tells_answer events ≡ true → list_all no_verdict events ≡ true
no_verdicts [] all = refl
no_verdicts (told.Op u n answer ∷ events) all = no_verdicts events all
no_verdicts (told.Began u ∷ events) all = absurd cc
no_verdicts (told.Ended u dir ∷ events) all = absurd cc
no_verdicts (told.Died u older ∷ events) all = absurd cc
no_verdicts (told.Doomed u site had now ∷ events) all = absurd cc
no_verdicts (told.Refused u why ∷ events) all = absurd cc
no_verdicts (told.Kept u st ∷ events) all = absurd cc
no_verdicts (told.Verdict u n v ∷ events) all = absurd cc

-- what an entry of the tail leaves
record After (sc : Scenario) (r : RecoveryRound) (h : List Entry) (e : Entry) : Type 0 where
  tail : Tail sc r (h ++ e ∷ [])
  not_own : is_own r e ≡ false
  silent : verdicts_told r.txn (e ∷ []) ≡ []

decided_on : (sc : Scenario) (r : RecoveryRound) (h : List Entry) (e : Entry) → Tail sc r h → (s : ℕ) → has_site r.members s ≡ true →
    is_undecided r.txn (log_of sc (h ++ e ∷ []) s) ≡ false
decided_on sc r h e tail s member =
    let more = log_grows sc h e s in
    ap (is_undecided r.txn) more.1 ∙ decided_more r.txn (log_of sc h s) more.0 (tail.decided s member)

late_not_own : (r : RecoveryRound) (p : Packet) (m : Message) → p.msg ≡ m → is_late r p ≡ true → is_of_round r (input.Deliver p) ≡ false
late_not_own r p (msg.Done u n inc answer) is late = rw is (none (has_site r.members p.«from»))
  where
    none : (b : Bool) → (b && false) ≡ false
    none true = refl
    none false = refl
late_not_own r p (msg.Decide u dir) is late = by (same_txn r.txn u) (has_site r.members p.«from») refl refl
  where
    by : (b c : Bool) → same_txn r.txn u ≡ b → has_site r.members p.«from» ≡ c → is_of_round r (input.Deliver p) ≡ false
    by true true same member = absurd (let off : is_late r p ≡ false = rw (is, same, member) refl in let clash : true ≡ false = sym late ∙ off in cc)
    by true false same member = rw (is, same, member) refl
    by false true same member = rw (is, same, member) refl
    by false false same member = rw (is, same, member) refl
late_not_own r p (msg.Do u n op) is late = absurd (let off : is_late r p ≡ false = rw is refl in let clash : true ≡ false = sym late ∙ off in cc)
late_not_own r p (msg.Died u n older) is late = absurd (let off : is_late r p ≡ false = rw is refl in let clash : true ≡ false = sym late ∙ off in cc)
late_not_own r p (msg.Ask u call) is late = absurd (let off : is_late r p ≡ false = rw is refl in let clash : true ≡ false = sym late ∙ off in cc)
late_not_own r p (msg.LastElected u call elected) is late = absurd (let off : is_late r p ≡ false = rw is refl in let clash : true ≡ false = sym late ∙ off in cc)
late_not_own r p (msg.Elected u n) is late = absurd (let off : is_late r p ≡ false = rw is refl in let clash : true ≡ false = sym late ∙ off in cc)
late_not_own r p (msg.Report u n st attempt) is late = absurd (let off : is_late r p ≡ false = rw is refl in let clash : true ≡ false = sym late ∙ off in cc)
late_not_own r p (msg.VoteReq u inc count) is late = absurd (let off : is_late r p ≡ false = rw is refl in let clash : true ≡ false = sym late ∙ off in cc)
late_not_own r p (msg.Vote u said) is late = absurd (let off : is_late r p ≡ false = rw is refl in let clash : true ≡ false = sym late ∙ off in cc)
late_not_own r p (msg.Pre u n dir) is late = absurd (let off : is_late r p ≡ false = rw is refl in let clash : true ≡ false = sym late ∙ off in cc)
late_not_own r p (msg.Ack u n dir) is late = absurd (let off : is_late r p ≡ false = rw is refl in let clash : true ≡ false = sym late ∙ off in cc)

delivered : (sc : Scenario) (r : RecoveryRound) (h : List Entry) (site : ℕ) (p : Packet) → Tail sc r h → is_late r p ≡ true →
    After sc r h (entry_of sc h site (input.Deliver p))
delivered sc r h site p tail late = record {
  tail = record {
    late = pending_all (is_late r) sc h e tail.late (late_numbered r _ (made_by sc h site (input.Deliver p)).outs outs_late);
    decided = decided_on sc r h e tail;
  };
  not_own = ap (λ b. b || false) (late_not_own r p p.msg refl late);
  silent = rw (none_said r.txn site (input.Deliver p) (made_by sc h site (input.Deliver p)).records (numbered _ (made_by sc h site (input.Deliver p)).outs) (made_by sc h site (input.Deliver p)).told says_none) refl;
}
  where
    e : Entry
    e = entry_of sc h site (input.Deliver p)

    a : At
    a = place sc h site (input.Deliver p)

    first : Made
    first = on_message a p.«from» p.msg nothing

    quiet : Quiet r first
    quiet = quiet_message r a p p.msg refl late (λ member. ap (is_undecided r.txn) (place_log sc h site (input.Deliver p)) ∙ tail.decided site member)

    follows : AddsAnswers a first (step_at a)
    follows = step_adds_answers a first refl quiet.own

    outs_late : list_all (is_late r) (made_by sc h site (input.Deliver p)).outs ≡ true
    outs_late = ap (list_all (is_late r)) follows.outs ∙ both_all (is_late r) first.outs follows.dones quiet.outs (late_answers r site follows.dones follows.are_answers)

    says_none : list_all no_verdict (made_by sc h site (input.Deliver p)).told ≡ true
    says_none = ap (list_all no_verdict) follows.told ∙ both_all no_verdict first.told follows.ops quiet.says (no_verdicts follows.ops follows.tell_answers)

first_late : (P : Packet → Bool) (ps : List Packet) (p : Packet) → list_all P ps ≡ true → slice_get ps 0 ≡ Some p → P p ≡ true
first_late P [] p all is = absurd cc
first_late P (q ∷ ps) p all is = let same : q ≡ p = cc in subst (λ x. P x ≡ true) same (and_parts (P q) (list_all P ps) all).0

-- an entry that is no step
sends_nothing : (sc : Scenario) (r : RecoveryRound) (h : List Entry) (e : Entry) → Tail sc r h → outs_of e.act ≡ [] → is_own r e ≡ false → verdicts_told r.txn (e ∷ []) ≡ [] →
    After sc r h e
sends_nothing sc r h e tail none not_own silent = record {
  tail = record { late = pending_all (is_late r) sc h e tail.late (ap (list_all (is_late r)) none); decided = decided_on sc r h e tail };
  not_own = not_own;
  silent = silent;
}

pub no_item : (sc : Scenario) (h : List Entry) (group : List ℕ) (items : List Item) (site : ℕ) (i : Input) → IsGiven sc → present_items sc h ≡ item.Recover group ∷ items →
    IsNextItem sc h site i → ⊥
no_item sc h group items site i given is next =
    let none : None ≡ Some i = sym (ap (λ l. slice_get l (turn_of h site)) (no_inputs sc h group items site given is)) ∙ next.next in cc

-- an input that is due, and is no Elect, is a late delivery
due_after : (sc : Scenario) (r : RecoveryRound) (h : List Entry) (group : List ℕ) (items : List Item) (site : ℕ) (i : Input) → IsGiven sc →
    present_items sc h ≡ item.Recover group ∷ items → Tail sc r h → IsDue sc h site i → is_elect i ≡ false → After sc r h (entry_of sc h site i)
due_after sc r h group items site (input.Deliver p) given is tail due other =
    delivered sc r h site p tail (first_late (is_late r) (pending sc h) p tail.late (due.in_order (ap is_calm is)))
due_after sc r h group items site (input.Elect t members) given is tail due other = absurd cc
due_after sc r h group items site (input.Begin sites) given is tail due other = absurd (no_item sc h group items site _ given is due)
due_after sc r h group items site (input.Do t op) given is tail due other = absurd (no_item sc h group items site _ given is due)
due_after sc r h group items site (input.Commit t) given is tail due other = absurd (no_item sc h group items site _ given is due)
due_after sc r h group items site (input.Cancel t) given is tail due other = absurd (no_item sc h group items site _ given is due)
due_after sc r h group items site (input.Expire t) given is tail due other = absurd (no_item sc h group items site _ given is due)

-- so a fall takes nothing of the round
fall_after : (sc : Scenario) (r : RecoveryRound) (h : List Entry) (group : List ℕ) (items : List Item) (site : ℕ) (inputs : List Input) → IsGiven sc →
    present_items sc h ≡ item.Recover group ∷ items → Tail sc r h → AreDue sc h site inputs → list_any is_elect inputs ≡ false → list_any (is_of_round r) inputs ≡ false
fall_after sc r h group items site [] given is tail due other = refl
fall_after sc r h group items site (i ∷ inputs) given is tail due other =
    let parts = or_parts (is_elect i) (list_any is_elect inputs) other in
    let one : After sc r h (entry_of sc h site i) = due_after sc r h group items site i given is tail due.0 parts.0 in
    let here : is_of_round r i ≡ false = (or_parts (is_of_round r i) false one.not_own).0 in
    rw here (fall_after sc r (h ++ entry_of sc h site i ∷ []) group items site inputs given (items_on sc h (entry_of sc h site i) refl ∙ is) one.tail due.1 parts.1)

by_act : (sc : Scenario) (r : RecoveryRound) (h : List Entry) (group : List ℕ) (items : List Item) (o : ℕ) (act : Act) → IsGiven sc →
    present_items sc h ≡ item.Recover group ∷ items → Tail sc r h → elects (record { owner = o; act = act }) ≡ false →
    Guard sc h (record { owner = o; act = act }) → After sc r h (record { owner = o; act = act })
by_act sc r h group items zero (Step i records outs events) given is tail other guard = absurd guard
by_act sc r h group items (suc s) (Step i records outs events) given is tail other guard =
    subst (After sc r h) (sym guard.made) (due_after sc r h group items (suc s) i given is tail guard.due (or_parts (is_elect i) false other).0)
by_act sc r h group items zero (Fall inputs records why) given is tail other guard = absurd guard
by_act sc r h group items (suc s) (Fall inputs records why) given is tail other guard =
    sends_nothing sc r h _ tail refl (fall_after sc r h group items (suc s) inputs given is tail guard.due other) refl
by_act sc r h group items o (Rise kept inc) given is tail other guard = sends_nothing sc r h _ tail refl refl refl
by_act sc r h group items o (RiseFall kept inc why) given is tail other guard = sends_nothing sc r h _ tail refl refl refl
by_act sc r h group items o Miss given is tail other guard = sends_nothing sc r h _ tail refl refl refl
by_act sc r h group items o Cut given is tail other guard = sends_nothing sc r h _ tail refl refl refl
by_act sc r h group items o (Drop number) given is tail other guard = sends_nothing sc r h _ tail refl refl refl
by_act sc r h group items o (Parts parts) given is tail other guard = sends_nothing sc r h _ tail refl refl refl
by_act sc r h group items o (Line number) given is tail other guard = sends_nothing sc r h _ tail refl refl refl

-- the rest of a round whose members have decided has no own entry and tells no verdict, and they stay decided
pub record Ended (sc : Scenario) (r : RecoveryRound) (h more : List Entry) : Type 0 where
  pub tail : Tail sc r (h ++ more)
  pub none_own : count_by (is_own r) more ≡ 0
  pub none_said : verdicts_told r.txn more ≡ []

pub tail_ends : (sc : Scenario) (r : RecoveryRound) (h more : List Entry) (group : List ℕ) (items : List Item) → IsGiven sc →
    present_items sc h ≡ item.Recover group ∷ items → LegalAfter sc h more → list_any is_line more ≡ false → list_any elects more ≡ false → Tail sc r h →
    Ended sc r h more
tail_ends sc r h [] group items given is guards no_line no_elect tail = record { tail = subst (Tail sc r) (sym (append-nil h)) tail; none_own = refl; none_said = refl }
tail_ends sc r h (e ∷ more) group items given is guards no_line no_elect tail =
    let line = or_parts (is_line e) (list_any is_line more) no_line in
    let elect = or_parts (elects e) (list_any elects more) no_elect in
    let here : After sc r h e = by_act sc r h group items e.owner e.act given is tail elect.0 guards.0 in
    let rest : Ended sc r (h ++ e ∷ []) more = tail_ends sc r (h ++ e ∷ []) more group items given (items_on sc h e line.0 ∙ is) guards.1 line.1 elect.1 here.tail in
    record {
      tail = subst (Tail sc r) (append_assoc h (e ∷ []) more) rest.tail;
      none_own = sum_by-append _ (e ∷ []) more ∙ (let one : count_by (is_own r) (e ∷ []) ≡ 0 = rw here.not_own refl in let two : count_by (is_own r) more ≡ 0 = rest.none_own in
          let none : count_by (is_own r) (e ∷ []) + count_by (is_own r) more ≡ 0 = omega (arith, one, two) in none);
      none_said = flat_map-append (verdicts_at r.txn) (e ∷ []) more ∙ ap (λ l. l ++ verdicts_told r.txn more) here.silent ∙ rest.none_said;
    }
