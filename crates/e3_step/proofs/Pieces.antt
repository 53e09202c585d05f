-- Facts over variables that proofs of the step's parts join.
use Rattle.std.specs.Prelude.{◌≡◌, ◌||◌, ◌++◌, ◌∷◌, [], if◌then◌else◌, ℕ, List, length, false}
use Rattle.std.proofs.Common.{◌∙◌, ap, refl}
use Rattle.std.proofs.lemmas.List.Folds.{list_any-append}
use Rattle.e3_types.specs.declared.messages.Message.{Message}
use Rattle.e3_types.specs.declared.messages.Message.TheVariants as msg
use Rattle.e3_types.specs.declared.records.Record.{Record}
use Rattle.e3_types.specs.declared.transactions.Answer.{Answer}
use Rattle.e3_types.specs.declared.transactions.Op.{Op}
use Rattle.e3_types.specs.declared.transactions.State.{State}
use Rattle.e3_types.specs.declared.transactions.State.TheVariants.{Q, A}
use Rattle.e3_types.specs.declared.transactions.Txn.{Txn}
use Rattle.e3_step.specs.Asking.{asked_by, by_grant, is_waiting, lock_now, on_asked}
use Rattle.e3_readings.specs.Awaiting.{first_of}
use Rattle.e3_world.specs.declared.lives.Asked.{Asked}
use Rattle.e3_world.specs.declared.lives.At.{At}
use Rattle.e3_world.specs.declared.lives.Made.{Made}
use Rattle.e3_world.specs.Logs.{has_voted, is_vote}
use Rattle.e3_world.specs.Making.{state_now, and_grants, and_send}
use Rattle.e3_world.specs.Operations.{answers}
use Rattle.e3_world.specs.OperationRules.{on_do}
use Rattle.e3_world.specs.Messages.{on_message}
use Rattle.e3_world.specs.Steps.{handled}

-- a vote in the log or among more records
pub voted_more : (t : Txn) (log rs : List Record) → has_voted t (log ++ rs) ≡ (has_voted t log || has_voted t rs)
voted_more t log rs = list_any-append (is_vote t) log rs

-- a request whose transaction is in q, by the answers to it
abbrev by_answers : At → Asked → Made → List Answer → Made
by_answers a q made (answer ∷ more) = and_send a q.txn.site (msg.Done q.txn q.n a.life.inc answer) made
by_answers a q made [] = if is_waiting a q made then made else by_grant a q made (lock_now a q made)

by_first : (a : At) (q : Asked) (made : Made) (found : List Answer)
    → asked_by a q made (first_of found) (is_waiting a q made) (lock_now a q made) ≡ by_answers a q made found
by_first a q made [] = refl
by_first a q made (answer ∷ more) = refl

-- a request, by the state of its transaction
abbrev by_state : At → ℕ → Asked → Made → State → Made
by_state a f q made A = and_send a f (msg.Vote q.txn false) made
by_state a f q made Q = by_answers a q made (answers q a.life.steps)
by_state a f q made _ = made

-- a request whose transaction is in q
pub on_do_is : (a : At) (f : ℕ) (t : Txn) (n : ℕ) (op : Op) (asked : Asked) (made new : Made) → Q ≡ state_now a t made → asked ≡ record { txn = t; n = n; op = op }
    → new ≡ on_asked a asked made → new ≡ on_do a f t n op made
on_do_is a f t n op asked made new d h e =
    let q : Asked = record { txn = t; n = n; op = op } in
    e ∙ ap (λ (x : Asked). on_asked a x made) h ∙ by_first a q made (answers q a.life.steps)
    ∙ ap (λ (s : State). by_state a f q made s) d

-- a message that is handled
pub handled_is : (a : At) (f : ℕ) (m : Message) (old mid new : Made) (seen : ℕ) → f ≡ a.site → mid ≡ on_message a f m old
    → seen ≡ length old.records → new ≡ and_grants a seen mid → new ≡ handled a old m
handled_is a f m old mid new seen own e d g =
    g ∙ ap (λ (n : ℕ). and_grants a n mid) d
    ∙ ap (λ (x : Made). and_grants a (length old.records) x) (e ∙ ap (λ (s : ℕ). on_message a s m old) own)
