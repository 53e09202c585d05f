-- those waited for at the name's place, if it has one
use Rattle.std.proofs.Common.{rules, ◌≡◌, List, ℕ, ap, sym, subst, fold}
use Rattle.std.specs.Prelude.{IfOk}
use Rattle.e3_types.specs.Sorted.{IsAt, IsGap}
use Rattle.e3_world.specs.Items.{add_txn}
use Rattle.e3_locks.specs.Places.{Place}
use Rattle.e3_locks.specs.Standing.{Standing, place_in}
use Rattle.e3_locks.specs.Waiting.{awaited_at}
use Rattle.e3_locks.proofs.Placing.{name_of, found_is, gap_is}
use Rattle.e3_locks.proofs.gathers.add_awaited.Goals as goal

pub returns-in-Ok : goal.returns-in-Ok
returns-in-Ok c =
    let items : List Standing = c.args.places.now in
    let n : List ℕ = c.args.name.now in
    let a : IsAt name_of n items c.in-Ok.at = search rules in
    let x : Standing = c.index-places-at.result in
    let place : x.place ≡ place_in n items = sym (found_is items c.in-Ok.at n a x c.index-places-at.is) in
    subst (λ (p : Place). IfOk c.add_awaited.result (λ u. c.add_awaited.new.out.items ≡ fold add_txn c.args.out.now.items (awaited_at c.args.t.now p))) place c.add_awaited.ensures

pub returns-in-Err : goal.returns-in-Err
returns-in-Err c =
    let items : List Standing = c.args.places.now in
    let n : List ℕ = c.args.name.now in
    let a : IsGap name_of n items c.in-Err.field-0 = search rules in
    sym (ap (λ (p : Place). fold add_txn c.args.out.now.items (awaited_at c.args.t.now p)) (gap_is items c.in-Err.field-0 n a))
