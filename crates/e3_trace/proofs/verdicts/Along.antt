-- Each entry of a legal history is told by its lines, behind the lines of the entries before it.
use Rattle.std.proofs.Common.{◌≡◌, ◌+◌, ◌≤◌, ◌++◌, ◌∷◌, [], ℕ, zero, suc, true, List, Option, Some, refl, sym, subst, ap, ◌∙◌, length, map, inl, inr, arith, append-nil, append_assoc, eq-eqb, length-append}
use Rattle.std.specs.Prelude.{Contains}
use Rattle.std.specs.List.{flat_map, AllByRecursion as Each}
use Rattle.std.proofs.lemmas.Bool.{and_parts, eqb-false}
use Rattle.std.proofs.lemmas.Grind.{flat_map-append}
use Rattle.std.proofs.lemmas.List.Elements.{Contains-append_left, Contains-append_right, Contains-append_cases}
use Rattle.e3_types.specs.declared.entries.Act.{Act}
use Rattle.e3_types.specs.declared.entries.Act.TheVariants.{Step, Fall, Rise, RiseFall, Miss, Cut, Drop, Parts, Line}
use Rattle.e3_types.specs.declared.entries.Entry.{Entry}
use Rattle.e3_types.specs.declared.entries.Input.{Input}
use Rattle.e3_types.specs.declared.entries.Input.TheVariants as input
use Rattle.e3_types.specs.declared.entries.Told.{Told}
use Rattle.e3_types.specs.declared.entries.Told.TheVariants as told
use Rattle.e3_types.specs.declared.entries.Why.{Why}
use Rattle.e3_types.specs.declared.entries.Why.TheVariants.{Fault}
use Rattle.e3_types.specs.declared.messages.Packet.{Packet}
use Rattle.e3_types.specs.declared.records.Record.{Record}
use Rattle.e3_types.specs.declared.scenarios.Scenario.{Scenario}
use Rattle.e3_types.specs.declared.transactions.Txn.{Txn}
use Rattle.e3_types.specs.Sets.{has_site}
use Rattle.e3_world.specs.declared.lives.Made.{Made}
use Rattle.e3_world.specs.Given.{IsGiven}
use Rattle.e3_world.specs.Items.{is_up_at, began_in}
use Rattle.e3_world.specs.Legal.{Guard, IsLegal, IsDue, AreDue, numbered, made_by, entry_of}
use Rattle.e3_world.specs.Moves.{Move, Tail, Stepped, own_entries, past_of, moves_of, log_by, log_of, open_tail, unnumbered, unnumbered_input}
use Rattle.e3_world.specs.Packets.{sent, outs_of}
use Rattle.e3_world.proofs.Guards.{guard_step}
use Rattle.e3_world.proofs.InTrail.{pending_sent}
use Rattle.e3_world.proofs.Pushes.{past_push, log_push, legal_push, legal_front}
use Rattle.e3_world.proofs.Readings.{own_same, up_same}
use Rattle.e3_laws.specs.steps.Bounds.{SuitsLog, GoesBetween, Suits}
use Rattle.e3_laws.specs.steps.Trails.{AllDiffer, tail_records}
use Rattle.e3_laws.proofs.steps.Each.{each-append, each-left, each-right, each-at, each-weaker}
use Rattle.e3_laws.proofs.steps.Suits.Holding.{legal_holds}
use Rattle.e3_laws.proofs.steps.Sound.Clocks.{says_records, due_says, fall_of_txn}
use Rattle.e3_laws.proofs.steps.Suits.Laws.{go_between, records_suit, inputs_suit, names_apart}
use Rattle.e3_laws.proofs.steps.Operations.Tracing.{OfTxn}
use Rattle.e3_laws.specs.steps.Mentions.{Mention, OfTxn as Transaction, OfVal, of_input, of_message, of_record, of_event, begun_in, values_of, Stands}
use Rattle.e3_laws.proofs.steps.Begun.Lists.{each-unflat, each-within}
use Rattle.e3_laws.proofs.steps.Begun.Laws.{guard_at, entries_mention, packets_own}
use Rattle.e3_laws.proofs.steps.Begun.Begins.{IsOf, begun_all}
use Rattle.e3_report.specs.lines.Marks.{feed}
use Rattle.e3_trace.specs.Fields.{Known}
use Rattle.e3_trace.specs.Tellable.{lacks, InputTells, ActTells, known_outs, known_events, known_act, TellsAfter}
use Rattle.e3_trace.specs.verdicts.Traces.{ValuesAreLines, LegalAreTellable}
use Rattle.e3_trace.specs.verdicts.Typed.{InputTyped, ActTyped, AreTyped}
use Rattle.e3_trace.proofs.verdicts.Knowing.{begun_of, PacketFound, Knows, Below, Among, Heard, outs_known, numbered_low, among_found, events_heard, begun_has, trail_begins}
use Rattle.e3_trace.proofs.verdicts.Partitions.{due_parts}
use Rattle.e3_trace.proofs.verdicts.Telling.{Found, InputIs, HasSites, input_tells, records_tell, outs_tell}
use Rattle.e3_laws.proofs.steps.Moving.{sent_push}

-- what is known behind the lines of a history
record Along (h : List Entry) (known : Known) : Type 0 where
  knows : Knows known (begun_of h) (sent h)
  low : Each (Below (suc (length (sent h)))) (sent h)

-- an entry that is told, and what is known behind it
record Goes (h : List Entry) (known : Known) (e : Entry) : Type 0 where
  tells : ActTells known e.owner e.act
  along : Along (h ++ e ∷ []) (known_act known e.act)

begun_push : (h : List Entry) (e : Entry) → begun_of (h ++ e ∷ []) ≡ begun_of h ++ begun_in e.act
begun_push h e = flat_map-append (λ x. begun_in x.act) h (e ∷ []) ∙ ap (λ l. begun_of h ++ l) (append-nil (begun_in e.act))

-- an entry that neither begins nor sends
along_quiet : (h : List Entry) (known : Known) (e : Entry) → begun_in e.act ≡ [] → outs_of e.act ≡ [] → known_act known e.act ≡ known → Along h known →
    Along (h ++ e ∷ []) (known_act known e.act)
along_quiet h known e none out same was =
    let begun : begun_of h ≡ begun_of (h ++ e ∷ []) = sym (begun_push h e ∙ ap (λ l. begun_of h ++ l) none ∙ append-nil (begun_of h)) in
    let packets : sent h ≡ sent (h ++ e ∷ []) = sym (sent_push h e ∙ ap (λ l. sent h ++ l) out ∙ append-nil (sent h)) in
    let K : Known → Type 0 = λ k. Knows k (begun_of (h ++ e ∷ [])) (sent (h ++ e ∷ [])) in
    let B : List Txn → Type 0 = λ l. Knows known l (sent (h ++ e ∷ [])) in
    let S : List Packet → Type 0 = λ l. Knows known (begun_of h) l in
    let L : List Packet → Type 0 = λ l. Each (Below (suc (length l))) l in
    record { knows = subst K (sym same) (subst B begun (subst S packets was.knows)); low = subst L packets was.low }

-- what stands is found
among_of : (sc : Scenario) (h : List Entry) (x : Mention) → ValuesAreLines sc → Stands sc h x → Among (begun_of h) x
among_of sc h (Transaction t) lines was = begun_has h t was
among_of sc h (OfVal val) lines was = each-at (λ v. lacks feed v ≡ true) (values_of sc) val lines was

among_all : (sc : Scenario) (h : List Entry) (l : List Mention) → ValuesAreLines sc → Each (Stands sc h) l → Each (Among (begun_of h)) l
among_all sc h l lines all = each-weaker (Stands sc h) (Among (begun_of h)) (λ x is. among_of sc h x lines is) l all

found_all : (sc : Scenario) (h : List Entry) (known : Known) (l : List Mention) → ValuesAreLines sc → Along h known → Each (Stands sc h) l → Each (Found known) l
found_all sc h known l lines along all =
    each-weaker (Among (begun_of h)) (Found known) (λ x is. among_found known (begun_of h) x along.knows.txns is) l (among_all sc h l lines all)

-- what holds of each member of a list by itself
each_by : {X : Type 0} (P : X → Type 0) (xs : List X) → ((x : X) → Contains xs x → P x) → Each P xs
each_by P xs all = each-weaker (Contains xs) P all xs (each-within xs)

-- an input that is due
suits_is : (weights : List ℕ) (known : Known) (site : ℕ) (i : Input) → Suits weights site i → ((p : Packet) → i ≡ input.Deliver p → PacketFound known p) → InputIs known site i
suits_is weights known site (input.Begin sites) fit sent_is = (and_parts (has_site sites site) _ fit).0
suits_is weights known site (input.Elect t group) fit sent_is = fit.1
suits_is weights known site (input.Deliver p) fit sent_is = sent_is p refl
suits_is weights known site (input.Do t op) fit sent_is = tt
suits_is weights known site (input.Commit t) fit sent_is = tt
suits_is weights known site (input.Cancel t) fit sent_is = tt
suits_is weights known site (input.Expire t) fit sent_is = tt

-- a packet that is due was sent, and is for this site
due_sent : (sc : Scenario) (h : List Entry) (site : ℕ) (i : Input) (p : Packet) → IsDue sc h site i → i ≡ input.Deliver p → Contains (sent h) p × (p.to ≡ site)
due_sent sc h site i p due is =
    let D : Input → Type 0 = IsDue sc h site in
    let this : IsDue sc h site (input.Deliver p) = subst D is due in (pending_sent sc h p this.is_pending, this.to)

-- the packets for a site that its own steps behind these entries send: none
abbrev Old : List Entry → List Entry → ℕ → Type 0
Old h k site = (p : Packet) → Contains (sent k) p → p.to ≡ site → Contains (sent h) p

old_push : (sc : Scenario) (h k : List Entry) (site : ℕ) (i : Input) → IsGiven sc → IsLegal sc (k ++ entry_of sc k site i ∷ []) → Old h k site → Old h (k ++ entry_of sc k site i ∷ []) site
old_push sc h k site i given legal old p has to =
    let e : Entry = entry_of sc k site i in
    let R : List Packet → Type 0 = λ l. Contains l p in
    elim (Contains-append_cases (sent k) (outs_of e.act) p (subst R (sent_push k e) has)) [
      | inl was ↦ old p was to
      | inr new ↦ absurd (
          let own : p.«from» ≡ site = each-at (λ (q : Packet). q.«from» ≡ site) (outs_of e.act) p (packets_own sc k [] e legal) new in
          let between : GoesBetween sc.weights p = go_between sc (k ++ e ∷ []) p given legal has in
          eqb-false p.«from» p.to between.other (own ∙ sym to))
    ]

-- the inputs of a fall
inputs_tell : (sc : Scenario) (h : List Entry) (known : Known) (inputs : List Input) (k : List Entry) (site : ℕ) → IsGiven sc → Along h known → 1 ≤ site → IsLegal sc k →
    is_up_at k site ≡ true → Old h k site → AreDue sc k site inputs → Each InputTyped inputs → Each (λ i. Each (Found known) (of_input i)) inputs → Each (InputTells known) inputs
inputs_tell sc h known [] k site given along low legal up old due typed found = tt
inputs_tell sc h known (i ∷ inputs) k site given along low legal up old due typed found =
    let e : Entry = entry_of sc k site i in
    let next : IsLegal sc (k ++ e ∷ []) = legal_push sc k e legal (guard_step sc k site i low up due.0) in (
      input_tells known site i typed.0 found.0 (suits_is sc.weights known site i (inputs_suit sc k site i given legal due.0)
          (λ p is. let was : _ = due_sent sc k site i p due.0 is in each-at (PacketFound known) (sent h) p along.knows.packets (old p was.0 was.1))),
      inputs_tell sc h known inputs (k ++ e ∷ []) site given along low next (up_same k e site (eq-eqb site site refl) ∙ up) (old_push sc h k site i given next old) due.1 typed.1 found.1,
    )

-- the records of a step are in its site's log behind it
step_records_suit : (sc : Scenario) (h : List Entry) (site : ℕ) (i : Input) (records : List Record) (outs : List Packet) (events : List Told) → IsGiven sc →
    IsLegal sc (h ++ record { owner = site; act = Step i records outs events } ∷ []) → Each (SuitsLog sc.weights site) records
step_records_suit sc h site i records outs events given legal = each_by (SuitsLog sc.weights site) records (λ r has. records_suit sc k site r given legal
    (let R : List Record → Type 0 = λ l. Contains (l ++ tail_part) r in
    subst R (sym whole) (Contains-append_left (log_of sc h site ++ records) tail_part r (Contains-append_right (log_of sc h site) records r has))))
  where
    e : Entry
    e = record { owner = site; act = Step i records outs events }

    k : List Entry
    k = h ++ record { owner = site; act = Step i records outs events } ∷ []

    m : Move
    m = record { site = site; did = Stepped (record { input = unnumbered_input i; records = records; outs = map unnumbered outs; told = events }) }

    tail_part : List Record
    tail_part = tail_records (open_tail sc (h ++ record { owner = site; act = Step i records outs events } ∷ []) site)

    moves : moves_of sc (h ++ record { owner = site; act = Step i records outs events } ∷ []) site ≡ moves_of sc h site ++ m ∷ []
    moves = ap (λ l. (past_of sc site l).moves) (own_same site h e (eq-eqb site site refl)) ∙ ap (λ w. w.moves) (past_push sc site (own_entries site h) e)

    whole : log_of sc (h ++ record { owner = site; act = Step i records outs events } ∷ []) site ≡ log_of sc h site ++ records
    whole = ap log_by moves ∙ log_push (moves_of sc h site) m

-- the records of a fall may be on the disk behind it, where its disk failed
fall_records_suit : (sc : Scenario) (h : List Entry) (site : ℕ) (inputs : List Input) (records : List Record) → IsGiven sc → IsLegal sc h →
    Guard sc h (record { owner = site; act = Fall inputs records Fault }) → Each (SuitsLog sc.weights site) records
fall_records_suit sc h site inputs records given legal guard = each_by (SuitsLog sc.weights site) records (λ r has. records_suit sc k site r given (legal_push sc h e legal guard)
    (let R : Option Tail → Type 0 = λ o. Contains (log_of sc k site ++ tail_records o) r in
    subst R (sym tail) (Contains-append_right (log_of sc k site) records r has)))
  where
    e : Entry
    e = record { owner = site; act = Fall inputs records Fault }

    k : List Entry
    k = h ++ record { owner = site; act = Fall inputs records Fault } ∷ []

    tail : open_tail sc (h ++ record { owner = site; act = Fall inputs records Fault } ∷ []) site ≡ Some (record { inputs = map unnumbered_input inputs; records = records })
    tail = ap (λ l. (past_of sc site l).tail) (own_same site h e (eq-eqb site site refl)) ∙ ap (λ w. w.tail) (past_push sc site (own_entries site h) e)

-- a fall
fall_goes : (sc : Scenario) (h : List Entry) (known : Known) (s : ℕ) (inputs : List Input) (records : List Record) (why : Why) → IsGiven sc → ValuesAreLines sc → IsLegal sc h →
    Guard sc h (record { owner = suc s; act = Fall inputs records why }) → Along h known → ActTyped (Fall inputs records why) →
    Goes h known (record { owner = suc s; act = Fall inputs records why })
fall_goes sc h known s inputs records why given lines legal guard along typed = record {
  tells = (
    typed.1.1.1,
    (
      typed.0,
      (
        inputs_tell sc h known inputs h (suc s) given along (omega arith) legal guard.up (λ p has to. has) guard.due typed.1.0
            (each-unflat (Found known) of_input inputs (each-left (Found known) (flat_map of_input inputs) (flat_map of_record records) found)),
        records_tell known sc.weights (suc s) records typed.1.1.0 of_txn
            (fall_records_suit sc h (suc s) inputs records given legal guard)
            (each-unflat (Found known) of_record records (each-right (Found known) (flat_map of_input inputs) (flat_map of_record records) found)),
      ),
    ),
  );
  along = along_quiet h known e refl refl refl along;
}
  where
    e : Entry
    e = record { owner = suc s; act = Fall inputs records why }

    found : Each (Found known) (flat_map of_input inputs ++ flat_map of_record records)
    found = found_all sc h known (flat_map of_input inputs ++ flat_map of_record records) lines along (entries_mention sc h [] e (legal_push sc h e legal guard))

    of_txn : Each OfTxn records
    of_txn = let R : List Record → Type 0 = Each OfTxn in
        subst R (sym guard.made) (fall_of_txn sc inputs h (suc s) given guard.up guard.due (legal_holds sc h given legal))

-- each begin has its coordinator among its sites
begin_sites : (events : List Told) → Each (λ t. has_site t.sites t.site ≡ true) (flat_map began_in events) → Each HasSites events
begin_sites [] all = tt
begin_sites (e ∷ events) all = (one e (each-left HasHome (began_in e) (flat_map began_in events) all), begin_sites events (each-right HasHome (began_in e) (flat_map began_in events) all))
  where
    HasHome : Txn → Type 0
    HasHome t = has_site t.sites t.site ≡ true

    one : (x : Told) → Each HasHome (began_in x) → HasSites x
    one (told.Began t) is = is.0
    one (told.Op t n answer) is = tt
    one (told.Ended t dir) is = tt
    one (told.Died t older) is = tt
    one (told.Doomed t site had now) is = tt
    one (told.Refused t why) is = tt
    one (told.Kept t state) is = tt
    one (told.Verdict t n v) is = tt

-- the records and the packets of a step
abbrev records_in : Entry → List Record
records_in e = by e.act
  where
    by : Act → List Record
    by (Step i records outs events) = records
    by _ = []

-- a step
step_goes : (sc : Scenario) (h : List Entry) (known : Known) (s : ℕ) (i : Input) (records : List Record) (outs : List Packet) (events : List Told) → IsGiven sc → ValuesAreLines sc →
    IsLegal sc h → Guard sc h (record { owner = suc s; act = Step i records outs events }) → Along h known → ActTyped (Step i records outs events) →
    Goes h known (record { owner = suc s; act = Step i records outs events })
step_goes sc h known s i records outs events given lines legal guard along typed = record {
  tells = (
    input_tells known (suc s) i typed.0 (found_all sc h known (of_input i) lines along (each-left S (of_input i) (flat_map of_record records) first_two))
        (suits_is sc.weights known (suc s) i (inputs_suit sc h (suc s) i given legal guard.due)
        (λ p is. each-at (PacketFound known) (sent h) p along.knows.packets (due_sent sc h (suc s) i p guard.due is).0)),
    (
      records_tell known sc.weights (suc s) records typed.1.0 of_txn (step_records_suit sc h (suc s) i records outs events given next)
          (each-unflat (Found known) of_record records (found_all sc h known (flat_map of_record records) lines along
          (each-right S (of_input i) (flat_map of_record records) first_two))),
      (
        outs_tell known (suc s) outs typed.1.1.0 (packets_own sc h [] e next)
            (each-unflat (Found known) (λ (p : Packet). of_message p.msg) outs (found_all sc h known (flat_map (λ (p : Packet). of_message p.msg) outs) lines along
            (each-right S (of_input i ++ flat_map of_record records) (flat_map (λ (p : Packet). of_message p.msg) outs) first_three))),
        heard.tell,
      ),
    ),
  );
  along = record {
    knows = (let B : List Txn → Type 0 = λ l. Knows (known_events (known_outs known outs) events) l (sent k) in
        let P : List Packet → Type 0 = λ l. Knows (known_events (known_outs known outs) events) (begun_of h ++ flat_map began_in events) l in
        subst B (sym (begun_push h e)) (subst P (sym (sent_push h e)) heard.knows));
    low = (let L : List Packet → Type 0 = λ l. Each (Below (suc (length l))) l in subst L (sym (sent_push h e)) low);
  };
}
  where
    e : Entry
    e = record { owner = suc s; act = Step i records outs events }

    k : List Entry
    k = h ++ record { owner = suc s; act = Step i records outs events } ∷ []

    S : Mention → Type 0
    S = Stands sc h

    made : Made
    made = made_by sc h (suc s) i

    next : IsLegal sc (h ++ record { owner = suc s; act = Step i records outs events } ∷ [])
    next = legal_push sc h (record { owner = suc s; act = Step i records outs events }) legal guard

    first_three : Each (Stands sc h) (of_input i ++ flat_map of_record records ++ flat_map (λ (p : Packet). of_message p.msg) outs)
    first_three = each-left (Stands sc h) (of_input i ++ flat_map of_record records ++ flat_map (λ (p : Packet). of_message p.msg) outs) (flat_map of_event events)
        (entries_mention sc h [] (record { owner = suc s; act = Step i records outs events }) next)

    first_two : Each (Stands sc h) (of_input i ++ flat_map of_record records)
    first_two = each-left (Stands sc h) (of_input i ++ flat_map of_record records) (flat_map (λ (p : Packet). of_message p.msg) outs) first_three

    behind_outs : Each (Stands sc h) (flat_map of_event events)
    behind_outs = each-right (Stands sc h) (of_input i ++ flat_map of_record records ++ flat_map (λ (p : Packet). of_message p.msg) outs) (flat_map of_event events)
        (entries_mention sc h [] (record { owner = suc s; act = Step i records outs events }) next)

    same_records : records ≡ (made_by sc h (suc s) i).records
    same_records = ap records_in guard.made

    same_outs : outs ≡ numbered (suc (length (sent h))) (made_by sc h (suc s) i).outs
    same_outs = ap (λ x. outs_of x.act) guard.made

    of_txn : Each OfTxn records
    of_txn = let R : List Record → Type 0 = Each OfTxn in
        subst R (sym same_records) (says_records made (due_says sc h (suc s) i given guard.due (legal_holds sc h given legal)))

    sent_knows : Knows (known_outs known outs) (begun_of h) (sent h ++ outs)
    sent_knows = let R : List Packet → Type 0 = λ l. Knows (known_outs known l) (begun_of h) (sent h ++ l) in
        subst R (sym same_outs) (outs_known known (begun_of h) (sent h) (suc (length (sent h))) (made_by sc h (suc s) i).outs along.knows along.low)

    differ : AllDiffer (begun_of h ++ flat_map began_in events)
    differ = let A : List Txn → Type 0 = AllDiffer in
        subst A (trail_begins sc k ∙ begun_push h e) (names_apart sc k given next)

    homes : Each (λ t. has_site t.sites t.site ≡ true) (flat_map began_in events)
    homes = each-weaker (IsOf sc) (λ t. has_site t.sites t.site ≡ true) (λ t is. (and_parts (has_site t.sites t.site) _ is.1).0) (flat_map began_in events)
        (each-right (λ x. Each (IsOf sc) (begun_in x.act)) h (e ∷ []) (begun_all sc k given next)).0

    heard : Heard (known_outs known outs) (begun_of h) (sent h ++ outs) events
    heard = events_heard (known_outs known outs) (begun_of h) (sent h ++ outs) events sent_knows differ typed.1.1.1
        (each-unflat (Among (begun_of h)) of_event events (among_all sc h (flat_map of_event events) lines behind_outs))
        (begin_sites events homes)

    low : Each (Below (suc (length (sent h ++ outs)))) (sent h ++ outs)
    low = let count : length (sent h ++ outs) ≡ length (sent h) + length outs = length-append (sent h) outs in
        let R : List Packet → Type 0 = λ l. Each (Below (suc (length (sent h)) + length l)) l in
        let new : Each (Below (suc (length (sent h)) + length outs)) outs = subst R (sym same_outs) (numbered_low (suc (length (sent h))) (made_by sc h (suc s) i).outs) in
        each-append (Below (suc (length (sent h ++ outs)))) (sent h) outs
        (each-weaker (Below (suc (length (sent h)))) (Below (suc (length (sent h ++ outs)))) (λ p less. omega (arith, less, count)) (sent h) along.low)
        (each-weaker (Below (suc (length (sent h)) + length outs)) (Below (suc (length (sent h ++ outs)))) (λ p less. omega (arith, less, count)) outs new)

-- an entry that has one line
quiet_goes : (h : List Entry) (known : Known) (e : Entry) → begun_in e.act ≡ [] → outs_of e.act ≡ [] → known_act known e.act ≡ known → Along h known → ActTells known e.owner e.act → Goes h known e
quiet_goes h known e none out same along tells = record { tells = tells; along = along_quiet h known e none out same along }

entry_goes : (sc : Scenario) (h : List Entry) (known : Known) (owner : ℕ) (act : Act) → IsGiven sc → ValuesAreLines sc → IsLegal sc h → Guard sc h (record { owner = owner; act = act }) →
    Along h known → ActTyped act → Goes h known (record { owner = owner; act = act })
entry_goes sc h known owner (Line number) given lines legal guard along typed = quiet_goes h known (record { owner = owner; act = Line number }) refl refl refl along typed
entry_goes sc h known owner (Drop number) given lines legal guard along typed = quiet_goes h known (record { owner = owner; act = Drop number }) refl refl refl along typed
entry_goes sc h known zero (Parts parts) given lines legal guard along typed =
    quiet_goes h known (record { owner = 0; act = Parts parts }) refl refl refl along (due_parts sc h parts given guard typed)
entry_goes sc h known (suc s) (Parts parts) given lines legal guard along typed = absurd guard
entry_goes sc h known owner Cut given lines legal guard along typed = quiet_goes h known (record { owner = owner; act = Cut }) refl refl refl along tt
entry_goes sc h known owner Miss given lines legal guard along typed = quiet_goes h known (record { owner = owner; act = Miss }) refl refl refl along tt
entry_goes sc h known owner (Rise kept inc) given lines legal guard along typed = quiet_goes h known (record { owner = owner; act = Rise kept inc }) refl refl refl along typed
entry_goes sc h known owner (RiseFall kept inc why) given lines legal guard along typed = quiet_goes h known (record { owner = owner; act = RiseFall kept inc why }) refl refl refl along typed
entry_goes sc h known zero (Step i records outs events) given lines legal guard along typed = absurd guard
entry_goes sc h known zero (Fall inputs records why) given lines legal guard along typed = absurd guard
entry_goes sc h known (suc s) (Step i records outs events) given lines legal guard along typed = step_goes sc h known s i records outs events given lines legal guard along typed
entry_goes sc h known (suc s) (Fall inputs records why) given lines legal guard along typed = fall_goes sc h known s inputs records why given lines legal guard along typed

tells_after : (sc : Scenario) (before rest : List Entry) (known : Known) → IsGiven sc → ValuesAreLines sc → IsLegal sc (before ++ rest) → Along before known → AreTyped rest →
    TellsAfter known rest
tells_after sc before [] known given lines legal along typed = tt
tells_after sc before (e ∷ rest) known given lines legal along typed =
    let goes : Goes before known e = entry_goes sc before known e.owner e.act given lines (legal_front sc before (e ∷ rest) legal) (guard_at sc before rest e legal) along typed.0.act in
    let R : List Entry → Type 0 = IsLegal sc in (
      (typed.0.owner, goes.tells),
      tells_after sc (before ++ e ∷ []) rest (known_act known e.act) given lines
          (subst R (sym (append_assoc before (e ∷ []) rest)) legal) goes.along typed.1,
    )

pub legal_tellable : LegalAreTellable
legal_tellable sc history given lines legal typed =
    tells_after sc [] history (record { begun = []; sent = [] }) given lines legal (record { knows = record { txns = tt; packets = tt }; low = tt }) typed
