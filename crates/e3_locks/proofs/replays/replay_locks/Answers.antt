-- one call more
use Rattle.std.proofs.Common.{◌≡◌, ◌∙◌, ℕ, List, ◌++◌, subst}
use Rattle.std.specs.Prelude.{OnOk, OnErr}
use Rattle.e3_locks.specs.LockLists.{place}
use Rattle.e3_locks.specs.Replays.{Places, after_call, answer_to}
use Rattle.e3_locks.proofs.Requests.{next_call, places_step, answers_step}
use Rattle.e3_locks.proofs.replays.replay_locks.Goals as goal

pub loop-call-preserved : goal.loop-call-preserved
loop-call-preserved g c =
    let P : Places = λ n. place n (g.L.Locks.lists c.args.table.now) in
    let Q : Places = λ n. place n (g.L.Locks.lists c.loop-call.table) in
    let R : Places = λ n. place n (g.L.Locks.lists c.make_call.new.table) in
    let xs = c.args.calls.now in
    let k = c.loop-call.call-index in
    let x = c.call-item.result in
    let t = next_call xs k x c.loop-call-test.true c.call-item.is in
    let told : c.make_call.new.grants.items ≡ c.loop-call.grants.items ++ answer_to Q x = subst (λ r. OnOk r (c.make_call.new.grants.items ≡ c.loop-call.grants.items ++ answer_to Q x)) c.in-Ok.is c.make_call.ensures.grants in
    let made : (n : List ℕ) → R n ≡ after_call Q x n = subst (λ r. OnOk r ((n : List ℕ) → R n ≡ after_call Q x n)) c.in-Ok.is c.make_call.ensures.places in
    record {
      grants = answers_step P Q xs k x c.loop-call.grants.items c.make_call.new.grants.items t c.loop-call.invariant.places c.loop-call.invariant.grants told;
      places = places_step P Q R xs k x t c.loop-call.invariant.places made;
    }

pub returns-in-Err-clause-err : goal.returns-in-Err-clause-err
returns-in-Err-clause-err g c =
    let stays : (n : List ℕ) → place n (g.L.Locks.lists c.make_call.new.table) ≡ place n (g.L.Locks.lists c.loop-call.table) =
    subst (λ r. OnErr r ((n : List ℕ) → place n (g.L.Locks.lists c.make_call.new.table) ≡ place n (g.L.Locks.lists c.loop-call.table))) c.in-Err.is c.make_call.ensures.err in
    (c.loop-call.call-index, c.loop-call-test.true, λ n. stays n ∙ c.loop-call.invariant.places n)
