-- The laws of what legal histories mention.
use Rattle.std.proofs.Common.{◌≡◌, ◌++◌, ◌∷◌, [], ℕ, zero, suc, List, Option, Some, None, refl, sym, subst, append_assoc, append-nil, length}
use Rattle.std.specs.List.{flat_map, AllByRecursion as Each}
use Rattle.e3_types.specs.declared.entries.Act.{Act}
use Rattle.e3_types.specs.declared.entries.Act.TheVariants.{Step, Fall, Rise, RiseFall, Miss, Cut, Drop, Parts, Line}
use Rattle.e3_types.specs.declared.entries.Entry.{Entry}
use Rattle.e3_types.specs.declared.entries.Input.{Input}
use Rattle.e3_types.specs.declared.entries.Told.{Told}
use Rattle.e3_types.specs.declared.messages.Packet.{Packet}
use Rattle.e3_types.specs.declared.records.Record.{Record}
use Rattle.e3_types.specs.declared.scenarios.Scenario.{Scenario}
use Rattle.e3_world.specs.declared.lives.Made.{Made}
use Rattle.e3_world.specs.Legal.{Guard, IsLegal, LegalAfter, IsDue, numbered, made_by, entry_of}
use Rattle.e3_world.specs.Lives.{incarnation_of}
use Rattle.e3_world.specs.Moves.{Tail, moves_of, log_of, open_tail}
use Rattle.e3_world.specs.Packets.{sent, outs_of}
use Rattle.e3_world.proofs.Pushes.{life_log_at, legal_front}
use Rattle.e3_laws.specs.steps.Trails.{tail_records, records_at}
use Rattle.e3_laws.proofs.steps.Each.{each-append, each-at, each-weaker, IfAny}
use Rattle.e3_laws.specs.steps.Mentions.{Mention, of_input, of_message, of_record, of_event, of_act, Stands}
use Rattle.e3_laws.specs.steps.Begun.{EntriesMentionWhatStands, DueMentionsWhatStands, StepsMentionWhatStands, RecordsMentionWhatStands, PacketsMentionWhatStands, PacketsAreTheirOwners}
use Rattle.e3_laws.proofs.steps.Begun.Lists.{each-join}
use Rattle.e3_laws.proofs.steps.Begun.Reading.{RecordIs, PacketIs, EventIs}
use Rattle.e3_laws.proofs.steps.Begun.Keeping.{Keeps, Goes, Tells}
use Rattle.e3_laws.proofs.steps.Begun.Due.{BeginsKnown, due_is}
use Rattle.e3_laws.proofs.steps.Begun.Holding.{Holds, FallIs, AnyTxn, AnyEvent, numbered_are, any_begins, keeps_at, fall_is, parts_more, values_stand, legal_holds}
use Rattle.e3_laws.proofs.steps.Suits.Inputs.{place}

pub due_mentions : DueMentionsWhatStands
due_mentions sc h site i legal due =
    let was : Holds sc h = legal_holds sc h legal in
    due_is (Stands sc h) sc h site i (values_stand sc h) was.line was.now.sent due

-- what the step of an input that is due keeps
due_keeps : (sc : Scenario) (h : List Entry) (site : ℕ) (i : Input) → IsLegal sc h → IsDue sc h site i → Keeps (Stands sc h) AnyTxn site (made_by sc h site i)
due_keeps sc h site i legal due =
    keeps_at (Stands sc h) AnyTxn (BeginsKnown (Stands sc h)) sc h site i (legal_holds sc h legal).now (due_mentions sc h site i legal due)
    (any_begins (place sc.weights site (incarnation_of (moves_of sc h site)) i) i)

-- all that a step mentions
step_all : (P : Mention → Type 0) (i : Input) (records : List Record) (outs : List Packet) (events : List Told) → Each P (of_input i) → Each (RecordIs P) records →
    Each (PacketIs P) outs → Each (EventIs P) events → Each P (of_act (Step i records outs events))
step_all P i records outs events input logs packets told =
    each-append P (of_input i ++ flat_map of_record records ++ flat_map (λ (p : Packet). of_message p.msg) outs) (flat_map of_event events)
    (each-append P (of_input i ++ flat_map of_record records) (flat_map (λ (p : Packet). of_message p.msg) outs)
    (each-append P (of_input i) (flat_map of_record records) input (each-join P of_record records logs)) (each-join P (λ (p : Packet). of_message p.msg) outs packets))
    (each-join P of_event events told)

-- the act of a step
step_act : (sc : Scenario) (h : List Entry) (site : ℕ) (i : Input) →
    Step i (made_by sc h site i).records (numbered (suc (length (sent h))) (made_by sc h site i).outs) (made_by sc h site i).told ≡ (entry_of sc h site i).act
step_act sc h site i = refl

pub steps_mention : StepsMentionWhatStands
steps_mention sc h site i legal due =
    let P : Mention → Type 0 = Stands sc h in
    let made : Made = made_by sc h site i in
    let outs : List Packet = numbered (suc (length (sent h))) made.outs in
    let keeps : Keeps P AnyTxn site made = due_keeps sc h site i legal due in
    let R : Act → Type 0 = λ a. Each P (of_act a) in
    subst R (step_act sc h site i) (step_all P i made.records outs made.told (due_mentions sc h site i legal due) keeps.records
    (numbered_are P site (suc (length (sent h))) made.outs keeps.outs)
    (each-weaker (Tells P AnyTxn) (EventIs P) (λ e this. this.0) made.told keeps.told))

fall_mentions : (sc : Scenario) (h : List Entry) (site : ℕ) (inputs : List Input) (records : List Record) → IsLegal sc h → FallIs (Stands sc h) sc h site inputs →
    Each (RecordIs (Stands sc h)) records → Each (Stands sc h) (flat_map of_input inputs ++ flat_map of_record records)
fall_mentions sc h site inputs records legal fall all =
    each-append (Stands sc h) (flat_map of_input inputs) (flat_map of_record records) (each-join (Stands sc h) of_input inputs fall.takes)
    (each-join (Stands sc h) of_record records all)

guard_mentions : (sc : Scenario) (h : List Entry) (owner : ℕ) (act : Act) → IsLegal sc h → Guard sc h (record { owner = owner; act = act }) → Each (Stands sc h) (of_act act)
guard_mentions sc h owner (Line number) legal guard = tt
guard_mentions sc h owner (Parts parts) legal guard = tt
guard_mentions sc h owner (Drop number) legal guard = tt
guard_mentions sc h owner Cut legal guard = tt
guard_mentions sc h owner (Rise kept inc) legal guard = tt
guard_mentions sc h owner (RiseFall kept inc why) legal guard = tt
guard_mentions sc h owner Miss legal guard = tt
guard_mentions sc h zero (Step i records outs events) legal guard = absurd guard
guard_mentions sc h zero (Fall inputs records why) legal guard = absurd guard
guard_mentions sc h (suc s) (Step i records outs events) legal guard =
    let R : Entry → Type 0 = λ e. Each (Stands sc h) (of_act e.act) in
    subst R (sym guard.made) (steps_mention sc h (suc s) i legal guard.due)
guard_mentions sc h (suc s) (Fall inputs records why) legal guard =
    let was : Holds sc h = legal_holds sc h legal in
    let P : Mention → Type 0 = Stands sc h in
    let fall : FallIs P sc h (suc s) inputs = fall_is P sc inputs h (suc s) (values_stand sc h) was.line
    (parts_more P P (BeginsKnown P) AnyEvent (λ x this. this) (λ x this. tt) sc h was.now) guard.due in
    let R : List Record → Type 0 = Each (RecordIs P) in
    fall_mentions sc h (suc s) inputs records legal fall (subst R (sym guard.made) fall.makes)

-- the guard of an entry of a legal history
guard_after : (sc : Scenario) (before h rest : List Entry) (e : Entry) → LegalAfter sc before (h ++ e ∷ rest) → Guard sc (before ++ h) e
guard_after sc before [] rest e legal = let R : List Entry → Type 0 = λ l. Guard sc l e in subst R (sym (append-nil before)) legal.0
guard_after sc before (x ∷ h) rest e legal = let R : List Entry → Type 0 = λ l. Guard sc l e in
    subst R (append_assoc before (x ∷ []) h) (guard_after sc (before ++ x ∷ []) h rest e legal.1)

pub guard_at : (sc : Scenario) (h rest : List Entry) (e : Entry) → IsLegal sc (h ++ e ∷ rest) → Guard sc h e
guard_at sc h rest e legal = guard_after sc [] h rest e legal

pub entries_mention : EntriesMentionWhatStands
entries_mention sc before rest e legal = guard_mentions sc before e.owner e.act (legal_front sc before (e ∷ rest) legal) (guard_at sc before rest e legal)

tail_are : (P : Record → Type 0) (o : Option Tail) → IfAny (λ tail. Each P tail.records) o → Each P (tail_records o)
tail_are P None is = tt
tail_are P (Some tail) is = is

pub records_mention : RecordsMentionWhatStands
records_mention sc h site r legal has =
    let P : Record → Type 0 = RecordIs (Stands sc h) in
    let R : List Record → Type 0 = Each P in
    let all : _ = (legal_holds sc h legal).now.sites site in
    each-at P (records_at sc h site) r
    (each-append P (log_of sc h site) (tail_records (open_tail sc h site)) (subst R (life_log_at (moves_of sc h site)) all.life.log)
    (tail_are P (open_tail sc h site) all.tail)) has

pub packets_mention : PacketsMentionWhatStands
packets_mention sc h p legal has = each-at (PacketIs (Stands sc h)) (sent h) p (legal_holds sc h legal).now.sent has

-- the packets of a step come from its site
numbered_own : (P : Mention → Type 0) (site n : ℕ) (ps : List Packet) → Each (Goes P site) ps → Each (λ p. p.«from» ≡ site) (numbered n ps)
numbered_own P site n [] all = tt
numbered_own P site n (p ∷ ps) all = (all.0.1, numbered_own P site (suc n) ps all.1)

guard_own : (sc : Scenario) (h : List Entry) (owner : ℕ) (act : Act) → IsLegal sc h → Guard sc h (record { owner = owner; act = act }) →
    Each (λ p. p.«from» ≡ owner) (outs_of act)
guard_own sc h zero (Step i records outs events) legal guard = absurd guard
guard_own sc h (suc s) (Step i records outs events) legal guard =
    let R : Entry → Type 0 = λ e. Each (λ p. p.«from» ≡ e.owner) (outs_of e.act) in
    subst R (sym guard.made) (numbered_own (Stands sc h) (suc s) (suc (length (sent h))) (made_by sc h (suc s) i).outs (due_keeps sc h (suc s) i legal guard.due).outs)
guard_own sc h owner act legal guard = tt

pub packets_own : PacketsAreTheirOwners
packets_own sc before rest e legal = guard_own sc before e.owner e.act (legal_front sc before (e ∷ rest) legal) (guard_at sc before rest e legal)
