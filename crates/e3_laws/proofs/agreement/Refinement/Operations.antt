-- What a site does with operations, with their answers, with votes that are no, and with decisions.
use Rattle.std.proofs.Common.{◌≡◌, ◌∷◌, [], ◌==◌, ◌&&◌, ◌||◌, ℕ, Bool, true, false, List, refl, if◌then◌else◌}
use Rattle.std.specs.List.{list_any}
use Rattle.e3_types.specs.declared.entries.Told.TheVariants as told
use Rattle.e3_types.specs.declared.messages.Message.TheVariants as msg
use Rattle.e3_types.specs.declared.locks.Grant.{Grant}
use Rattle.e3_types.specs.declared.locks.Grant.TheVariants.{Held, Waits, Dies}
use Rattle.e3_types.specs.declared.transactions.Answer.{Answer}
use Rattle.e3_types.specs.declared.transactions.Dir.{Dir}
use Rattle.e3_types.specs.declared.transactions.Dir.TheVariants.{Abort}
use Rattle.e3_types.specs.declared.transactions.Op.{Op}
use Rattle.e3_types.specs.declared.transactions.State.{State}
use Rattle.e3_types.specs.declared.transactions.State.TheVariants.{Q, W, Pc, Pa, C, A}
use Rattle.e3_types.specs.declared.transactions.Txn.{Txn}
use Rattle.e3_types.specs.Locks.{lock_grant}
use Rattle.e3_types.specs.Same.{same_txn}
use Rattle.e3_types.specs.Sets.{has_site}
use Rattle.e3_world.specs.declared.lives.At.{At}
use Rattle.e3_world.specs.declared.lives.Expected.{Expected}
use Rattle.e3_world.specs.declared.lives.Made.{Made}
use Rattle.e3_world.specs.Logs.{key_of, mode_of}
use Rattle.e3_world.specs.Making.{log_now, state_now, is_coordinator, is_present, open_now, may_abort, may_decide, and_tell, and_send, and_abort, and_abort_for, and_decide}
use Rattle.e3_world.specs.OperationRules.{on_do, on_done, on_died}
use Rattle.e3_world.specs.Operations.{same_asked, answers, waiting, holders, queue, expected}
use Rattle.e3_laws.specs.agreement.Rules.{No, Decide, IsTold, Came}
use Rattle.e3_laws.specs.agreement.Rows.{Here, notes_now, Stands, Good}
use Rattle.e3_laws.proofs.agreement.Refinement.Readings.{decision_in}
use Rattle.e3_laws.proofs.agreement.Refinement.Makers.{MayLeave, keep_tell, keep_send}
use Rattle.e3_laws.proofs.agreement.Refinement.Tests.{state_means, may_abort_means, may_refuse, may_decide_means}
use Rattle.e3_laws.proofs.agreement.Refinement.Deciding.{only_word, MayHere, keep_decide, decide_stands, keep_abort, keep_abort_for, keep_do}
use Rattle.e3_laws.proofs.steps.Rules.{by_grant, dies}
use Rattle.e3_laws.proofs.steps.Tests.{same_is}

-- a no of a site that aborted
pub keep_no : (h : Here) (made : Made) (f : ℕ) (u : Txn) → Stands h → Good h made → state_now h.at u made ≡ A → Good h (and_send h.at f (msg.Vote u false) made)
keep_no h made f u s good is =
    keep_send h made f (msg.Vote u false) good (λ q. refl)
    (only_word (λ w. MayLeave h (notes_now h made) f w) (same_txn h.txn u) No
    (λ q. (decision_in Abort (notes_now h made) (state_means h made u s (same_is h.txn u q) A is), λ n. cc)))

keep_grant : (h : Here) (made : Made) (u : Txn) (n : ℕ) (op : Op) (g : Grant) → Good h made → MayHere h made u Abort → Good h (by_grant h.at u n op made g)
keep_grant h made u n op Held good may = keep_do h made u n op good
keep_grant h made u n op Waits good may = good
keep_grant h made u n op (Dies older) good may = by (is_coordinator h.at u) refl
  where
    by : (b : Bool) → is_coordinator h.at u ≡ b → Good h (dies h.at u n made older b)
    by true is = keep_abort_for h made u (told.Died u older) good may
    by false is =
        keep_send h (and_decide h.at u Abort made) u.site (msg.Died u n older) (keep_decide h made u Abort good may)
        (λ q. let clash : is_coordinator h.at u ≡ true = q in cc)
        (only_word (λ w. MayLeave h (notes_now h (and_decide h.at u Abort made)) u.site w) (same_txn h.txn u) No (λ q. (decide_stands h made u Abort q, λ n. cc)))

-- a request for a lock
pub row_do : (h : Here) (made : Made) (f : ℕ) (u : Txn) (n : ℕ) (op : Op) → Stands h → Good h made → (h.txn ≡ u → has_site u.sites h.at.site ≡ true) → Good h (on_do h.at f u n op made)
row_do h made f u n op s good member = by (state_now h.at u made) refl
  where
    a : At
    a = h.at

    asks : state_now a u made ≡ Q → (b : Bool) (g : Grant) → Good h (if b then made else by_grant a u n op made g)
    asks is true g = good
    asks is false g = keep_grant h made u n op g good (may_refuse h made u s member is)

    answered : (l : List Answer) → state_now a u made ≡ Q → answers (record { txn = u; n = n; op = op }) a.life.steps ≡ l → Good h (on_do a f u n op made)
    answered [] state is = rw (state, is) (asks state
        (list_any (same_asked (record { txn = u; n = n; op = op })) (waiting a.site (log_now a made) a.life.steps))
        (lock_grant (record { txn = u; mode = mode_of op }) (holders a.site (key_of op).name (log_now a made) a.life.steps)
        (queue (key_of op).name (waiting a.site (log_now a made) a.life.steps))))
    answered (answer ∷ more) state is = rw (state, is) (keep_send h made u.site (msg.Done u n a.life.inc answer) good (λ q. refl) (λ w k. absurd k))

    by : (st : State) → state_now a u made ≡ st → Good h (on_do a f u n op made)
    by A state = rw state (keep_no h made f u s good state)
    by Q state = answered (answers (record { txn = u; n = n; op = op }) a.life.steps) state refl
    by W state = rw state good
    by Pc state = rw state good
    by Pa state = rw state good
    by C state = rw state good

-- the answer to an operation
pub row_done : (h : Here) (made : Made) (f : ℕ) (u : Txn) (n inc : ℕ) (answer : Answer) → Stands h → Good h made → Good h (on_done h.at f u n inc answer made)
row_done h made f u n inc answer s good = by (is_coordinator a u && is_present a u && open_now a u made) refl
  where
    a : At
    a = h.at

    aborts : (e : Expected) (b : Bool) → may_abort a u made ≡ b → Good h (if b then and_abort_for a u (told.Doomed u f e.inc inc) made else made)
    aborts e true may = keep_abort_for h made u (told.Doomed u f e.inc inc) good (may_abort_means h made u s may)
    aborts e false may = good

    counts : (e : Expected) (b : Bool) →
        Good h (if b then and_tell (told.Op u n answer) made else if may_abort a u made then and_abort_for a u (told.Doomed u f e.inc inc) made else made)
    counts e true = keep_tell h made (told.Op u n answer) good
    counts e false = aborts e (may_abort a u made) refl

    first : (e : Expected) (b c : Bool) →
        Good h (if b then if c then and_tell (told.Op u n answer) made else if may_abort a u made then and_abort_for a u (told.Doomed u f e.inc inc) made else made else made)
    first e true c = counts e c
    first e false c = good

    by : (b : Bool) → (is_coordinator a u && is_present a u && open_now a u made) ≡ b → Good h (on_done a f u n inc answer made)
    by true is =
        let e : Expected = expected a.site a.life.inc u a.life.steps f in
        rw is (first e _ (e.count == 0 || e.inc == inc))
    by false is = rw is good

-- a request that died elsewhere
pub row_died : (h : Here) (made : Made) (u older : Txn) → Stands h → Good h made → Good h (on_died h.at u older made)
row_died h made u older s good = by (may_abort h.at u made) (is_present h.at u) refl refl
  where
    by : (b c : Bool) → may_abort h.at u made ≡ b → is_present h.at u ≡ c → Good h (on_died h.at u older made)
    by true true may here = rw (may, here) (keep_abort_for h made u (told.Died u older) good (may_abort_means h made u s may))
    by true false may here = rw (may, here) (keep_abort h made u good (may_abort_means h made u s may))
    by false c may here = rw may good

-- a vote that is no
pub row_no : (h : Here) (made : Made) (u : Txn) → Stands h → Good h made → Good h (if may_abort h.at u made then and_abort h.at u made else made)
row_no h made u s good = by (may_abort h.at u made) refl
  where
    by : (b : Bool) → may_abort h.at u made ≡ b → Good h (if b then and_abort h.at u made else made)
    by true is = keep_abort h made u good (may_abort_means h made u s is)
    by false is = good

-- a decision that is told
pub row_decide : (h : Here) (made : Made) (f : ℕ) (u : Txn) (d : Dir) → Stands h → Good h made → (h.txn ≡ u → Came h.before.sent f h.at.site (Decide d))
    → Good h (if may_decide h.at u d made then and_decide h.at u d made else made)
row_decide h made f u d s good came = by (may_decide h.at u d made) refl
  where
    by : (b : Bool) → may_decide h.at u d made ≡ b → Good h (if b then and_decide h.at u d made else made)
    by true is = keep_decide h made u d good (λ same. may_decide_means h made u d s same is (IsTold f (came same)))
    by false is = good
