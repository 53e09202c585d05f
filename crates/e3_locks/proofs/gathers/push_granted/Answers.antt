-- what the name's place grants, if it has one
use Rattle.std.proofs.Common.{rules, ◌≡◌, ◌∙◌, ◌++◌, List, ℕ, ap, sym, subst, map}
use Rattle.std.specs.Prelude.{IfOk}
use Rattle.std.proofs.lemmas.List.{append-nil}
use Rattle.e3_types.specs.Locks.{front}
use Rattle.e3_types.specs.Sorted.{IsAt, IsGap}
use Rattle.e3_locks.specs.declared.granted.Granted.{Granted}
use Rattle.e3_locks.specs.LockLists.{named}
use Rattle.e3_locks.specs.Places.{Place, without}
use Rattle.e3_locks.specs.Standing.{Standing, place_in}
use Rattle.e3_locks.proofs.Placing.{name_of, found_is, found_name, gap_is}
use Rattle.e3_locks.proofs.gathers.push_granted.Goals as goal

pub returns-in-Ok : goal.returns-in-Ok
returns-in-Ok c =
    let items : List Standing = c.args.places.now in
    let n : List ℕ = c.args.name.now in
    let a : IsAt name_of n items c.in-Ok.at = search rules in
    let x : Standing = c.index-places-at.result in
    let f : List ℕ → Place → List Granted = λ n p. map (named n) (front (without c.args.t.now p).held (without c.args.t.now p).queue) in
    let name : x.name ≡ n = found_name items c.in-Ok.at n a x c.index-places-at.is in
    let place : x.place ≡ place_in n items = sym (found_is items c.in-Ok.at n a x c.index-places-at.is) in
    let e : f x.name x.place ≡ f n (place_in n items) = ap (λ (m : List ℕ). f m x.place) name ∙ ap (f n) place in
    subst (λ (l : List Granted). IfOk c.push_granted.result (λ u. c.push_granted.new.out ≡ c.args.out.now ++ l)) e c.push_granted.ensures

pub returns-in-Err : goal.returns-in-Err
returns-in-Err c =
    let items : List Standing = c.args.places.now in
    let n : List ℕ = c.args.name.now in
    let a : IsGap name_of n items c.in-Err.field-0 = search rules in
    let f : Place → List Granted = λ p. map (named n) (front (without c.args.t.now p).held (without c.args.t.now p).queue) in
    sym (ap (λ (p : Place). c.args.out.now ++ f p) (gap_is items c.in-Err.field-0 n a) ∙ append-nil c.args.out.now)
