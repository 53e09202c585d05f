-- A whole step tells only what stands in its site's log with it, where its earlier steps did.
use Rattle.std.proofs.Common.{◌≡◌, ◌∷◌, [], ◌==◌, ℕ, zero, suc, Bool, true, false, List, length, fold, Option, Some, None, refl, sym, subst}
use Rattle.std.specs.Prelude.{count_by}
use Rattle.std.specs.List.{list_all}
use Rattle.std.proofs.lemmas.Bool.{and_parts}
use Rattle.e3_types.specs.declared.entries.Input.{Input}
use Rattle.e3_types.specs.declared.entries.Input.TheVariants as input
use Rattle.e3_types.specs.declared.entries.Refusal.{Refusal}
use Rattle.e3_types.specs.declared.entries.Told.TheVariants as told
use Rattle.e3_types.specs.declared.messages.Message.{Message}
use Rattle.e3_types.specs.declared.messages.Message.TheVariants as msg
use Rattle.e3_types.specs.declared.messages.Packet.{Packet}
use Rattle.e3_types.specs.declared.transactions.Dir.TheVariants.{Abort, Commit}
use Rattle.e3_types.specs.declared.transactions.State.{State}
use Rattle.e3_types.specs.declared.transactions.State.TheVariants.{Q, W, Pc, Pa, C, A}
use Rattle.e3_types.specs.declared.transactions.Txn.{Txn}
use Rattle.e3_types.specs.Same.{same_txn}
use Rattle.e3_types.specs.Sets.{others}
use Rattle.e3_world.specs.Gatherings.{Election}
use Rattle.e3_world.specs.declared.lives.At.{At}
use Rattle.e3_world.specs.declared.lives.Expected.{Expected}
use Rattle.e3_world.specs.declared.lives.Made.{Made}
use Rattle.e3_world.specs.Elections.{begun, next_call}
use Rattle.e3_world.specs.Logs.{key_of}
use Rattle.e3_world.specs.Making.{nothing, log_now, state_now, elected_now, may_abort, and_tell, and_send, and_cast, and_vote, and_grants}
use Rattle.e3_world.specs.Messages.{on_message}
use Rattle.e3_world.specs.Operations.{issued, expected}
use Rattle.e3_world.specs.Safe.{said_state}
use Rattle.e3_world.specs.Steps.{refuse, or_refused, is_begin, and_ask, on_commit, on_expire, on_elect, on_input, handled, settle, step_at}
use Rattle.e3_laws.specs.agreement.Logs.{IsIn}
use Rattle.e3_laws.specs.agreement.Rules.{Situation, Word, Report, Came, letter}
use Rattle.e3_laws.specs.agreement.Verdicts.{status_in}
use Rattle.e3_laws.specs.agreement.Rows.{Here, WasHeard, IsFromAway, Stands}
use Rattle.e3_laws.specs.agreement.Views.{words_of}
use Rattle.e3_laws.proofs.agreement.Refinement.Gatherings.{in_word}
use Rattle.e3_laws.proofs.agreement.Refinement.Lists.{same_from}
use Rattle.e3_laws.proofs.agreement.Saying.{is_quiet, Tells, tells_nothing, tells_tell, tells_send, tells_cast, tells_decide, tells_abort, tells_attempt, tells_vote, tells_grants}
use Rattle.e3_laws.proofs.agreement.Finding.{state_said, Keeps, refused_said}
use Rattle.e3_laws.proofs.agreement.Ruling.{tells_quiet, tells_join, tells_last, tells_elected, tells_report}

-- the step as one of a transaction
abbrev pub seen : At → (Txn → Situation) → Txn → Here
seen a before t = record { txn = t; at = a; before = before t }

-- each message of a packet that the step takes
tells_delivery : (a : At) (before : Txn → Situation) (packet : Packet) → ((t : Txn) → Stands (seen a before t)) → a.input ≡ input.Deliver packet → (z : Message) → packet.msg ≡ z
    → Tells a (on_message a packet.«from» z nothing)
tells_delivery a before packet all is z says = by z says
  where
    f : ℕ
    f = packet.«from»

    away : (t : Txn) → (f == a.site) ≡ false
    away t = let far : IsFromAway a.site (input.Deliver packet) = subst (λ i. IsFromAway a.site i) is (all t).away in far

    took : (t : Txn) → WasHeard (seen a before t) (input.Deliver packet)
    took t = subst (λ i. WasHeard (seen a before t) i) is (all t).taken

    by : (z : Message) → packet.msg ≡ z → Tells a (on_message a f z nothing)
    by (msg.Ask u call) says = tells_send a nothing f (msg.LastElected u call (elected_now a u nothing)) (tells_nothing a) (λ q. (let apart : (f == a.site) ≡ false = away u in cc)) (λ v k. refl)
    by (msg.LastElected u call number) says = tells_last a nothing f u call number (tells_nothing a)
    by (msg.Elected u n) says = tells_elected a f u n (away u)
    by (msg.Report u n st attempt) says =
        let word : Word = Report n (status_in st) attempt in
        let came : Came (before u).sent f a.site word =
        took u word (subst (λ m. IsIn word (words_of u m)) (sym says) (in_word (same_txn u u) word (same_from u u refl))) in
        tells_report (seen a before u) n (record { site = f; state = st; attempt = attempt }) (all u) (((all u).well (letter f a.site word) came).members refl).1 came
    by (msg.Do u n op) says = tells_quiet a nothing f (msg.Do u n op) refl (tells_nothing a)
    by (msg.Done u n inc answer) says = tells_quiet a nothing f (msg.Done u n inc answer) refl (tells_nothing a)
    by (msg.Died u n older) says = tells_quiet a nothing f (msg.Died u n older) refl (tells_nothing a)
    by (msg.VoteReq u inc count) says = tells_quiet a nothing f (msg.VoteReq u inc count) refl (tells_nothing a)
    by (msg.Vote u agrees) says = tells_quiet a nothing f (msg.Vote u agrees) refl (tells_nothing a)
    by (msg.Pre u n d) says = tells_quiet a nothing f (msg.Pre u n d) refl (tells_nothing a)
    by (msg.Ack u n d) says = tells_quiet a nothing f (msg.Ack u n d) refl (tells_nothing a)
    by (msg.Decide u d) says = tells_quiet a nothing f (msg.Decide u d) refl (tells_nothing a)

tells_refused : (a : At) (u : Txn) (cancels : Bool) (made : Made) → Keeps a → Tells a made → Tells a (or_refused u (refuse a u cancels nothing) made)
tells_refused a u cancels made keeps t = by (refuse a u cancels nothing) refl
  where
    by : (o : Option Refusal) → refuse a u cancels nothing ≡ o → Tells a (or_refused u (refuse a u cancels nothing) made)
    by None is = rw is t
    by (Some why) is = rw is (tells_tell a nothing (told.Refused u why) (tells_nothing a) (refused_said a u cancels keeps why is))

tells_asks : (a : At) (u : Txn) (sites : List ℕ) (made : Made) → Tells a made → Tells a (fold (and_ask a u) made sites)
tells_asks a u [] made t = t
tells_asks a u (s ∷ sites) made t =
    let e : Expected = expected a.site a.life.inc u a.life.steps s in
    tells_asks a u sites (and_ask a u made s) (tells_send a made s (msg.VoteReq u e.inc e.count) t (λ q. refl) (λ v k. refl))

tells_commit : (a : At) (u : Txn) → Tells a (on_commit a u nothing)
tells_commit a u = by (elected_now a u nothing == 1) refl
  where
    asks : (elected_now a u nothing == 1) ≡ true → (l : List ℕ) → others a.site u.sites ≡ l → Tells a (on_commit a u nothing)
    asks one [] is = rw (one, is) (tells_attempt a (and_vote a u nothing) u 1 Commit u.sites (tells_vote a nothing u (tells_nothing a)))
    asks one (y ∷ ys) is = rw (one, is) (tells_asks a u (y ∷ ys) (and_vote a u nothing) (tells_vote a nothing u (tells_nothing a)))

    by : (b : Bool) → (elected_now a u nothing == 1) ≡ b → Tells a (on_commit a u nothing)
    by true one = asks one (others a.site u.sites) refl
    by false one = rw one (tells_abort a nothing u (tells_nothing a))

tells_expire : (a : At) (u : Txn) → Tells a (on_expire a u nothing)
tells_expire a u = by (may_abort a u nothing) (state_now a u nothing) refl refl
  where
    kept : (st : State) → state_now a u nothing ≡ st → Tells a (and_tell (told.Kept u st) nothing)
    kept st is = tells_tell a nothing (told.Kept u st) (tells_nothing a) (λ s k. state_said u (log_now a nothing) s (subst (λ (z : State). IsIn s (said_state u z)) (sym is) k))

    by : (b : Bool) (st : State) → may_abort a u nothing ≡ b → state_now a u nothing ≡ st → Tells a (on_expire a u nothing)
    by true st may is = rw may (tells_abort a nothing u (tells_nothing a))
    by false Q may is = rw (may, is) (tells_decide a nothing u Abort (tells_nothing a))
    by false W may is = rw (may, is) (kept W is)
    by false Pc may is = rw (may, is) (kept Pc is)
    by false Pa may is = rw (may, is) (kept Pa is)
    by false C may is = rw (may, is) (kept C is)
    by false A may is = rw (may, is) (kept A is)

tells_elect : (a : At) (u : Txn) (group : List ℕ) → Tells a (on_elect a u group nothing)
tells_elect a u group =
    let e : Election = begun a.site (next_call a.life.inc a.life.steps) group (elected_now a u nothing) in
    tells_join a (and_cast a group (msg.Ask u e.call) nothing) u e (tells_cast a group (msg.Ask u e.call) nothing (λ v k. refl) (tells_nothing a))

-- each input
tells_input : (a : At) (before : Txn → Situation) → ((t : Txn) → Stands (seen a before t)) → Keeps a → (i : Input) → a.input ≡ i → Tells a (on_input a i nothing)
tells_input a before all keeps (input.Begin sites) is =
    tells_tell a nothing (told.Began (record { site = a.site; inc = a.life.inc; seq = suc (count_by is_begin a.life.steps); sites = sites })) (tells_nothing a) (λ s k. absurd k)
tells_input a before all keeps (input.Do u op) is =
    tells_refused a u false (and_send a (key_of op).site (msg.Do u (suc (length (issued u a.life.steps))) op) nothing) keeps
    (tells_send a nothing (key_of op).site (msg.Do u (suc (length (issued u a.life.steps))) op) (tells_nothing a) (λ q. refl) (λ v k. refl))
tells_input a before all keeps (input.Commit u) is = tells_refused a u false (on_commit a u nothing) keeps (tells_commit a u)
tells_input a before all keeps (input.Cancel u) is = tells_refused a u true _ keeps (tells_abort a nothing u (tells_nothing a))
tells_input a before all keeps (input.Expire u) is = tells_expire a u
tells_input a before all keeps (input.Elect u group) is = tells_elect a u group
tells_input a before all keeps (input.Deliver packet) is = tells_delivery a before packet all is packet.msg refl

tells_each : (a : At) (ms : List Message) (made : Made) → Tells a made → list_all is_quiet ms ≡ true → Tells a (fold (handled a) made ms)
tells_each a [] made t quiet = t
tells_each a (m ∷ ms) made t quiet =
    let p = and_parts (is_quiet m) (list_all is_quiet ms) quiet in
    tells_each a ms (handled a made m) (tells_grants a (length made.records) (on_message a a.site m made) (tells_quiet a made a.site m p.0 t)) p.1

tells_settle : (a : At) (k : ℕ) (made : Made) → Tells a made → Tells a (settle k a made)
tells_settle a zero made t = t
tells_settle a (suc k) made t =
    tells_settle a k (fold (handled a) (record made { own = [] }) made.own)
    (tells_each a made.own (record made { own = [] }) (record { told = t.told; own = refl; once = t.once }) t.own)

-- the whole step
pub tells_step : (a : At) (before : Txn → Situation) → ((t : Txn) → Stands (seen a before t)) → Keeps a → Tells a (step_at a)
tells_step a before all keeps =
    tells_settle a 3 (and_grants a 0 (on_input a a.input nothing)) (tells_grants a 0 (on_input a a.input nothing) (tells_input a before all keeps a.input refl))
