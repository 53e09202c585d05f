-- What is counted of a site's steps is no more than there are steps.
use Rattle.std.specs.Prelude.{◌≡◌, ◌==◌, ◌≤◌, ◌+◌, ◌&&◌, ◌++◌, ◌∷◌, [], ℕ, Bool, true, false, not, List, Option, Some, None, length, filter, fold}
use Rattle.std.specs.List.{flat_map, list_any}
use Rattle.std.proofs.Common.{arith, refl}
use Rattle.std.proofs.lemmas.Grind.{common_steps}
use Rattle.e3_types.specs.declared.entries.Input.{Input}
use Rattle.e3_types.specs.declared.entries.Input.TheVariants as input
use Rattle.e3_types.specs.declared.entries.Told.{Told}
use Rattle.e3_types.specs.declared.messages.Message.{Message}
use Rattle.e3_types.specs.declared.messages.Message.TheVariants as msg
use Rattle.e3_types.specs.declared.messages.Packet.{Packet}
use Rattle.e3_types.specs.declared.transactions.Answer.{Answer}
use Rattle.e3_types.specs.declared.transactions.Txn.{Txn}
use Rattle.e3_types.specs.Same.{same_txn}
use Rattle.e3_world.specs.declared.lives.Asked.{Asked}
use Rattle.e3_world.specs.declared.lives.Expected.{Expected}
use Rattle.e3_world.specs.declared.lives.Incarnation.{Incarnation}
use Rattle.e3_world.specs.declared.lives.Life.{Life}
use Rattle.e3_world.specs.declared.lives.Moment.{Moment}
use Rattle.e3_world.specs.declared.lives.SiteStep.{SiteStep}
use Rattle.e3_world.specs.Elections.{election_by}
use Rattle.e3_world.specs.Gatherings.{Elections}
use Rattle.e3_world.specs.Lives.{life_by, life_of}
use Rattle.e3_world.specs.Logs.{logged_inc}
use Rattle.e3_world.specs.Operations.{Arrived, and_arrived, answers, arrivals, arrived_by, done, expected_by, expected_with, is_fresh, is_refusal, issued, issued_in, performed_by, taken_up, tells_op}
use Rattle.e3_readings.specs.Bringing.{issued_before}

-- a step issues one operation at most
issued_once : (t : Txn) (i : Input) (events : List Told) → length (issued_in t i events) ≤ 1
issued_once t (input.Do u op) events = by (same_txn t u && not (list_any is_refusal events)) refl
  where
    by : (b : Bool) → (same_txn t u && not (list_any is_refusal events)) ≡ b → length (issued_in t (input.Do u op) events) ≤ 1
    by true is = rw (is) (omega arith)
    by false is = rw (is) (omega arith)
issued_once t _ events = omega arith

pub issued_are_few : (t : Txn) (steps : List Moment) → length (issued t steps) ≤ length steps
issued_are_few t [] = omega arith
issued_are_few t (m ∷ ms) =
    let one = issued_once t m.input m.told in
    let rest = issued_are_few t ms in
    grind (arith, common_steps)

pub before_are_few : (i : Input) (steps : List Moment) → issued_before i steps ≤ length steps
before_are_few (input.Do t op) steps = issued_are_few t steps
before_are_few _ steps = omega arith

-- one operation more at most arrives
arrives_once : (asked : List Asked) (m : Moment) (taken : Option Asked) → length (and_arrived asked m taken) ≤ length asked + 1
arrives_once asked m None = omega arith
arrives_once asked m (Some a) = by (is_fresh asked m a) refl
  where
    by : (b : Bool) → is_fresh asked m a ≡ b → length (and_arrived asked m (Some a)) ≤ length asked + 1
    by true is = rw (is) (grind (arith, common_steps))
    by false is = rw (is) (omega arith)

arrived_are_few : (site : ℕ) (was : Arrived) (steps : List Moment) → length (fold (arrived_by site) was steps).asked ≤ length was.asked + length steps
arrived_are_few site was [] = omega arith
arrived_are_few site was (m ∷ ms) =
    let one = arrives_once was.asked m (taken_up site was.steps m) in
    let rest = arrived_are_few site (arrived_by site was m) ms in
    grind (arith, common_steps)

pub arrivals_are_few : (site : ℕ) (steps : List Moment) → length (arrivals site steps) ≤ length steps
arrivals_are_few site steps =
    let all = arrived_are_few site (record { steps = []; asked = [] }) steps in
    omega (arith, all)

-- an operation is performed once at most
performed_once : (steps : List Moment) (a : Asked) → length (performed_by steps a) ≤ 1
performed_once steps a = by (answers a steps) refl
  where
    by : (xs : List Answer) → answers a steps ≡ xs → length (performed_by steps a) ≤ 1
    by [] is = rw (is) (omega arith)
    by (x ∷ xs) is = rw (is) (omega arith)

-- one item at most before so many is one more at most
one_before : {X : Type 0} (xs ys : List X) (n : ℕ) → length xs ≤ 1 → length ys ≤ n → length (xs ++ ys) ≤ n + 1
one_before xs ys n one few = grind (arith, common_steps)

-- so one more operation is performed once at most
performed_more : (steps : List Moment) (p : Asked → Bool) (a : Asked) (more : List Asked)
    → length (flat_map (performed_by steps) (filter p more)) ≤ length more
    → length (flat_map (performed_by steps) (filter p (a ∷ more))) ≤ length (a ∷ more)
performed_more steps p a more rest = by (p a) refl
  where
    by : (b : Bool) → p a ≡ b → length (flat_map (performed_by steps) (filter p (a ∷ more))) ≤ length (a ∷ more)
    by true is =
        let all = one_before (performed_by steps a) (flat_map (performed_by steps) (filter p more)) (length more) (performed_once steps a) rest in
        rw (is) (omega (arith, all))
    by false is = rw (is) (omega (arith, rest))

performed_are_few : (steps : List Moment) (p : Asked → Bool) (asked : List Asked) → length (flat_map (performed_by steps) (filter p asked)) ≤ length asked
performed_are_few steps p [] = omega arith
performed_are_few steps p (a ∷ more) = performed_more steps p a more (performed_are_few steps p more)

pub done_are_few : (site : ℕ) (t : Txn) (steps : List Moment) → length (done site t steps) ≤ length steps
done_are_few site t steps =
    let all = performed_are_few steps (λ a. same_txn t a.txn) (arrivals site steps) in
    let came = arrivals_are_few site steps in
    omega (arith, all, came)

-- a message counts once at most
counts_once_with : (t : Txn) (was : Expected) (events : List Told) (m : Message) → (expected_with t was events m).count ≤ was.count + 1
counts_once_with t was events (msg.Done u n inc answer) = by (same_txn t u && list_any (tells_op t n) events) refl
  where
    by : (b : Bool) → (same_txn t u && list_any (tells_op t n) events) ≡ b → (expected_with t was events (msg.Done u n inc answer)).count ≤ was.count + 1
    by true is = rw (is) (omega arith)
    by false is = rw (is) (omega arith)
counts_once_with t was events _ = omega arith

counts_once : (t : Txn) (site : ℕ) (was : Expected) (m : Moment) → (expected_by t site was m).count ≤ was.count + 1
counts_once t site was m = by m.input
  where
    by_packet : (packet : Packet) (b : Bool) → (packet.«from» == site) ≡ b → (expected_by t site was (record m { input = input.Deliver packet })).count ≤ was.count + 1
    by_packet packet true is = rw (is) (counts_once_with t was m.told packet.msg)
    by_packet packet false is = rw (is) (omega arith)

    by : (i : Input) → (expected_by t site was (record m { input = i })).count ≤ was.count + 1
    by (input.Deliver packet) = by_packet packet (packet.«from» == site) refl
    by _ = omega arith

counted_are_few : (t : Txn) (site : ℕ) (was : Expected) (steps : List Moment) → (fold (expected_by t site) was steps).count ≤ was.count + length steps
counted_are_few t site was [] = omega arith
counted_are_few t site was (m ∷ ms) =
    let one = counts_once t site was m in
    let rest = counted_are_few t site (expected_by t site was m) ms in
    grind (arith, common_steps)

-- what is expected of another site is no more than there are steps
pub expected_are_few : (t : Txn) (site : ℕ) (steps : List Moment) → (fold (expected_by t site) (record { inc = 0; count = 0 }) steps).count ≤ length steps
expected_are_few t site steps =
    let all = counted_are_few t site (record { inc = 0; count = 0 }) steps in
    omega (arith, all)

-- a step begins one call at most
calls_once : (site inc : ℕ) (t : Txn) (was : Elections) (m : Moment) → (election_by site inc t was m).calls ≤ was.calls + 1
calls_once site inc t was m = by m.input
  where
    by : (i : Input) → (election_by site inc t was (record m { input = i })).calls ≤ was.calls + 1
    by (input.Elect u group) = omega arith
    by _ = omega arith

called_are_few : (site inc : ℕ) (t : Txn) (was : Elections) (steps : List Moment) → (fold (election_by site inc t) was steps).calls ≤ was.calls + length steps
called_are_few site inc t was [] = omega arith
called_are_few site inc t was (m ∷ ms) =
    let one = calls_once site inc t was m in
    let rest = called_are_few site inc t (election_by site inc t was m) ms in
    grind (arith, common_steps)

pub calls_are_few : (site inc : ℕ) (t : Txn) (steps : List Moment) → (fold (election_by site inc t) (record { calls = 0; now = None }) steps).calls ≤ length steps
calls_are_few site inc t steps =
    let all = called_are_few site inc t (record { calls = 0; now = None }) steps in
    omega (arith, all)

lived_steps : (life : Life) (since : List SiteStep) → length (fold life_by life since).steps ≡ length life.steps + length since
lived_steps life [] = omega arith
lived_steps life (s ∷ more) =
    let rest = lived_steps (life_by life s) more in
    grind (arith, common_steps)

-- a life has as many steps as its incarnation
pub life_steps : (now : Incarnation) → length (life_of now).steps ≡ length now.since
life_steps now =
    let all = lived_steps (record { log = now.rose; inc = logged_inc now.rose; steps = [] }) now.since in
    omega (arith, all)
