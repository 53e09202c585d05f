-- What an answer to an operation makes: nothing is sent, or its transaction is doomed.
use Rattle.std.proofs.Common.{◌≡◌, ◌≢◌, ◌⊎◌, inl, inr, ◌==◌, ◌&&◌, ◌||◌, ◌∷◌, ◌++◌, [], ℕ, Bool, true, false, List, refl, sym, subst, ap, ◌∙◌, fold, if◌then◌else◌, eqb-true, append-nil}
use Rattle.std.specs.List.{list_all}
use Rattle.std.proofs.lemmas.Bool.{and_parts}
use Rattle.std.proofs.lemmas.Grind.{flat_map-append}
use Rattle.std.proofs.lemmas.List.Folds.{list_all-append}
use Rattle.e3_types.specs.declared.entries.Input.TheVariants as input
use Rattle.e3_types.specs.declared.entries.Told.{Told}
use Rattle.e3_types.specs.declared.entries.Told.TheVariants as told
use Rattle.e3_types.specs.declared.messages.Message.{Message}
use Rattle.e3_types.specs.declared.messages.Message.TheVariants as msg
use Rattle.e3_types.specs.declared.messages.Packet.{Packet}
use Rattle.e3_types.specs.declared.records.Record.TheVariants as log
use Rattle.e3_types.specs.declared.transactions.Answer.{Answer}
use Rattle.e3_types.specs.declared.transactions.Dir.TheVariants.{Abort}
use Rattle.e3_types.specs.declared.transactions.Op.{Op}
use Rattle.e3_types.specs.declared.transactions.Txn.{Txn}
use Rattle.e3_types.specs.Sets.{others}
use Rattle.e3_world.specs.declared.lives.At.{At}
use Rattle.e3_world.specs.declared.lives.Expected.{Expected}
use Rattle.e3_world.specs.declared.lives.Incarnation.{Incarnation}
use Rattle.e3_world.specs.declared.lives.Made.{Made}
use Rattle.e3_world.specs.Lives.{life_of}
use Rattle.e3_world.specs.Logs.{is_undecided}
use Rattle.e3_world.specs.Making.{nothing, steps_now, is_coordinator, is_present, open_now, attempt_now, may_abort, and_tell, and_send, and_record, and_abort_for, and_grants}
use Rattle.e3_world.specs.Messages.{on_message}
use Rattle.e3_world.specs.Moves.{unnumbered}
use Rattle.e3_world.specs.OperationRules.{on_done}
use Rattle.e3_world.specs.Operations.{expected, issued, issued_in}
use Rattle.e3_world.specs.Sound.{txn_in}
use Rattle.e3_world.specs.Steps.{on_input, settle, step_at, step_of}
use Rattle.e3_world.proofs.Pushes.{life_log}
use Rattle.e3_laws.specs.steps.Waiting.{is_answer, ranks_below}
use Rattle.e3_laws.specs.steps.Claims.{PacketRanksFall}
use Rattle.e3_laws.specs.local.Settling.{AnswersEndOrDoom, PacketsSettle}
use Rattle.e3_laws.specs.local.Dooms.{Dooms, is_last_word}
use Rattle.e3_laws.proofs.steps.Deciding.{AddsAnswers, is_answer_from, no_grants, step_adds_answers}

-- a rule that neither records nor sends
record Calm (made : Made) : Type 0 where
  pub records : made.records ≡ []
  pub outs : made.outs ≡ []
  pub own : made.own ≡ []

-- what the rule for an answer makes
abbrev Does : At → Txn → Made → Type 0
Does a t made = Calm made ⊎ ((why : Told) × (made ≡ and_abort_for a t why nothing) × (may_abort a t nothing ≡ true) × (issued t (steps_now a nothing) ≢ []))

-- the place of a step that takes a packet
abbrev place : List ℕ → ℕ → Incarnation → Packet → At
place weights site now p = record { weights = weights; site = site; life = life_of now; input = input.Deliver (unnumbered p) }

choice : (a : At) (t : Txn) (b : Bool) (x y : Made) → Does a t x → Does a t y → Does a t (if b then x else y)
choice a t true x y first second = first
choice a t false x y first second = second

calm_nothing : Calm nothing
calm_nothing = record { records = refl; outs = refl; own = refl }

row_done : (a : At) (f : ℕ) (t : Txn) (n inc : ℕ) (answer : Answer) → Does a t (on_done a f t n inc answer nothing)
row_done a f t n inc answer = by (is_coordinator a t && is_present a t && open_now a t nothing) (issued t (steps_now a nothing)) refl refl
  where
    dooms : (issued t (steps_now a nothing) ≢ []) → (why : Told) (b : Bool) → may_abort a t nothing ≡ b → Does a t (if b then and_abort_for a t why nothing else nothing)
    dooms some why true is = inr (why, refl, is, some)
    dooms some why false is = inl calm_nothing

    counts : (issued t (steps_now a nothing) ≢ []) → (e : Expected) →
        Does a t (if e.count == 0 || e.inc == inc then and_tell (told.Op t n answer) nothing else if may_abort a t nothing then and_abort_for a t (told.Doomed t f e.inc inc) nothing else nothing)
    counts some e = choice a t (e.count == 0 || e.inc == inc) _ _ (inl (record { records = refl; outs = refl; own = refl })) (dooms some (told.Doomed t f e.inc inc) (may_abort a t nothing) refl)

    by : (b : Bool) (l : List Op) → (is_coordinator a t && is_present a t && open_now a t nothing) ≡ b → issued t (steps_now a nothing) ≡ l →
        Does a t (on_done a f t n inc answer nothing)
    by true [] is none = rw (is, none) (inl calm_nothing)
    by true (o ∷ os) is some = rw is (choice a t _ _ nothing (counts (λ none. (let both : o ∷ os ≡ [] = sym some ∙ none in absurd cc)) (expected a.site a.life.inc t a.life.steps f)) (inl calm_nothing))
    by false l is some = rw is (inl calm_nothing)

-- a calm rule sends nothing in its step
calm_step : (a : At) (made : Made) → on_input a a.input nothing ≡ made → Calm made → (step_at a).outs ≡ []
calm_step a made is calm =
    subst (λ (x : Made). (settle 3 a (and_grants a 0 x)).outs ≡ []) (sym is)
    (subst (λ (x : Made). (settle 3 a x).outs ≡ []) (sym (no_grants a nothing made calm.records)) (rw calm.own calm.outs))

-- messages to other sites record nothing, and none waits
record Casts (m : Message) (was made : Made) : Type 0 where
  pub records : made.records ≡ was.records
  pub own : made.own ≡ was.own
  pub outs : (P : Message → Bool) → P m ≡ true → list_all (λ p. P p.msg) was.outs ≡ true → list_all (λ p. P p.msg) made.outs ≡ true

casts : (a : At) (m : Message) (sites : List ℕ) (made : Made) → Casts m made (fold (λ so_far to. and_send a to m so_far) made (others a.site sites))
casts a m [] made = record { records = refl; own = refl; outs = λ P is all. all }
casts a m (s ∷ sites) made = by (λ more. casts a m sites more) (s == a.site) refl
  where
    q : Packet
    q = record { number = 0; «from» = a.site; to = s; msg = m }

    sent : Made
    sent = record made { outs = made.outs ++ q ∷ [] }

    by : ((more : Made) → Casts m more (fold (λ so_far to. and_send a to m so_far) more (others a.site sites))) →
        (b : Bool) → (s == a.site) ≡ b → Casts m made (fold (λ so_far to. and_send a to m so_far) made (others a.site (s ∷ sites)))
    by rest true is = rw is (rest made)
    by rest false is =
        let more : Casts m sent (fold (λ so_far to. and_send a to m so_far) sent (others a.site sites)) = rest sent in
        rw is (rw is (record {
          records = more.records;
          own = more.own;
          outs = λ P this all. more.outs P this (rw (list_all-append, all, this) refl);
        }))

answers_last : (site : ℕ) (ps : List Packet) → list_all (is_answer_from site) ps ≡ true → list_all (λ p. is_last_word p.msg) ps ≡ true
answers_last site [] all = refl
answers_last site (p ∷ ps) all =
    let parts = and_parts (is_answer_from site p) (list_all (is_answer_from site) ps) all in
    let last : is_last_word p.msg ≡ true = one p.msg (and_parts (p.«from» == site) (is_answer p.msg) parts.0).1 in
    rw (last, answers_last site ps parts.1) refl
  where
    one : (m : Message) → is_answer m ≡ true → is_last_word m ≡ true
    one (msg.Done t n inc answer) is = refl
    one m is = absurd cc

-- a step that takes a packet issues nothing
issued_still : (a : At) (t : Txn) (p : Packet) → a.input ≡ input.Deliver p → issued t (steps_now a nothing) ≡ issued t a.life.steps
issued_still a t p is =
    flat_map-append (λ m. issued_in t m.input m.told) a.life.steps _
    ∙ ap (λ i. issued t a.life.steps ++ (issued_in t i [] ++ [])) is ∙ append-nil (issued t a.life.steps)

-- the step of a doomed transaction
doomed : (weights : List ℕ) (site : ℕ) (now : Incarnation) (p : Packet) (t : Txn) (why : Told) → (let a : At = place weights site now p in
    on_input a a.input nothing ≡ and_abort_for a t why nothing → may_abort a t nothing ≡ true → (issued t (steps_now a nothing) ≢ []) →
    Dooms site now t (step_at a))
doomed weights site now p t why is may some = record {
  coordinator = eqb-true t.site site (and_parts (is_coordinator a t) (open_now a t nothing) parts.0).0;
  issues = λ none. some (issued_still a t (unnumbered p) refl ∙ none);
  undecided = subst (λ l. is_undecided t l ≡ true) (append-nil a.life.log ∙ life_log now) (and_parts (is_coordinator a t) (open_now a t nothing) parts.0).1;
  aborted = follows.records ∙ cast.records;
  sends = rw (follows.outs, list_all-append, cast.outs is_last_word refl refl, answers_last a.site follows.dones follows.are_answers) refl;
}
  where
    a : At
    a = place weights site now p

    parts : (is_coordinator a t && open_now a t nothing ≡ true) × (attempt_now a t nothing == 0 ≡ true)
    parts = and_parts (is_coordinator a t && open_now a t nothing) (attempt_now a t nothing == 0) may

    cast : Casts (msg.Decide t Abort) (and_tell why (and_record (log.Decision t Abort) nothing)) (and_abort_for a t why nothing)
    cast = casts a (msg.Decide t Abort) t.sites (and_tell why (and_record (log.Decision t Abort) nothing))

    follows : AddsAnswers a (and_abort_for a t why nothing) (step_at a)
    follows = step_adds_answers a (and_abort_for a t why nothing) is cast.own

-- a step that takes an answer
pub answers_end_or_doom : AnswersEndOrDoom
answers_end_or_doom weights site now packet t n inc answer is = by (row_done a packet.«from» t n inc answer)
  where
    a : At
    a = place weights site now packet

    rule : on_message a packet.«from» packet.msg nothing ≡ on_done a packet.«from» t n inc answer nothing
    rule = ap (λ m. on_message a packet.«from» m nothing) is

    by : Does a t (on_done a packet.«from» t n inc answer nothing) →
        ((step_of weights site now (input.Deliver packet)).outs ≡ []) ⊎ Dooms site now t (step_of weights site now (input.Deliver packet))
    by (inl calm) = inl (calm_step a _ rule calm)
    by (inr (why, made, may, some)) = inr (doomed weights site now packet t why (rule ∙ made) may some)

-- a step that takes any packet
pub packets_settle : PacketRanksFall → PacketsSettle
packets_settle fall weights site now packet = by (is_answer packet.msg) packet.msg refl refl
  where
    Goal : Message → Type 0
    Goal m = (list_all (λ p. ranks_below p.msg m) (step_of weights site now (input.Deliver packet)).outs ≡ true)
        ⊎ ((is_answer m ≡ true) × Dooms site now (txn_in m) (step_of weights site now (input.Deliver packet)))

    end : (t : Txn) (n inc : ℕ) (answer : Answer) →
        ((step_of weights site now (input.Deliver packet)).outs ≡ []) ⊎ Dooms site now t (step_of weights site now (input.Deliver packet)) →
        Goal (msg.Done t n inc answer)
    end t n inc answer (inl none) = inl (ap (list_all (λ p. ranks_below p.msg (msg.Done t n inc answer))) none)
    end t n inc answer (inr dooms) = inr (refl, dooms)

    by : (b : Bool) (m : Message) → packet.msg ≡ m → is_answer packet.msg ≡ b → Goal packet.msg
    by false m same asks = inl (fall weights site now packet asks)
    by true (msg.Done t n inc answer) same asks = subst Goal (sym same) (end t n inc answer (answers_end_or_doom weights site now packet t n inc answer same))
    by true m same asks = absurd cc
