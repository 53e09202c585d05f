-- the name's place behind the request, or its first lock
use Rattle.std.proofs.Common.{◌≡◌, ◌≤◌, ◌<◌, ◌^◌, ◌∙◌, ◌++◌, ◌∷◌, ap, sym, subst, arith, List, slice_set}
use Rattle.std.specs.List.{insert}
use Rattle.e3_types.specs.declared.locks.Grant.{Grant}
use Rattle.e3_types.specs.Sorted.{IsAt, IsGap}
use Rattle.e3_types.proofs.Edits.{set_parts, get_parts}
use Rattle.e3_locks.specs.Places.{would, requested}
use Rattle.e3_locks.specs.Standing.{Standing, count_at}
use Rattle.e3_locks.proofs.Placing.{name_of, found_is, request_at_ok, request_at_table, gap_grant, request_gap_ok, request_gap_table}
use Rattle.e3_locks.proofs.table.request_on.Goals as goal

pub returns-in_ok-grant-in-Ok-clause-grant : goal.returns-in_ok-grant-in-Ok-clause-grant
returns-in_ok-grant-in-Ok-clause-grant c =
    let items : List Standing = c.args.places.now.items in
    let a : IsAt name_of c.args.name.now items c.in-Ok.at = subst (λ (l : List Standing). IsAt name_of c.args.name.now l c.in-Ok.at) c.deref.ensures.value c.in-Ok.ensures in
    c.in_ok-grant-in-Ok.ensures.grant
    ∙ ap (would c.args.wanted.now) (sym (found_is items c.in-Ok.at c.args.name.now a c.index_mut.result.now c.index_mut.ensures.value))

pub returns-in_ok-grant-in-Ok-clause-ok : goal.returns-in_ok-grant-in-Ok-clause-ok
returns-in_ok-grant-in-Ok-clause-ok c =
    let items : List Standing = c.args.places.now.items in
    let a : IsAt name_of c.args.name.now items c.in-Ok.at = subst (λ (l : List Standing). IsAt name_of c.args.name.now l c.in-Ok.at) c.deref.ensures.value c.in-Ok.ensures in
    request_at_ok items c.in-Ok.at c.args.name.now a c.index_mut.result.now c.index_mut.ensures.value c.args.wanted.now c.in_ok-grant-in-Ok.grant
    (slice_set items c.in-Ok.at c.request_here.new.place) (ap (λ (s : Standing). slice_set items c.in-Ok.at s) c.in_ok-grant-in-Ok.ensures.ok)

pub returns-in_ok-grant-in-Ok-clause-table : goal.returns-in_ok-grant-in-Ok-clause-table
returns-in_ok-grant-in-Ok-clause-table c =
    let items : List Standing = c.args.places.now.items in
    let x : Standing = c.index_mut.result.now in
    let g : Grant = c.in_ok-grant-in-Ok.grant in
    let y : Standing = c.request_here.new.place in
    let a : IsAt name_of c.args.name.now items c.in-Ok.at = subst (λ (l : List Standing). IsAt name_of c.args.name.now l c.in-Ok.at) c.deref.ensures.value c.in-Ok.ensures in
    let put : slice_set items c.in-Ok.at y ≡ a.before ++ y ∷ a.behind = set_parts items a.before a.behind c.in-Ok.at a.here y a.parts a.place in
    let same : c.index.result.now ≡ y = c.index.ensures ∙ get_parts (slice_set items c.in-Ok.at y) a.before a.behind c.in-Ok.at y c.index.result.now put a.place in
    let count : c.count.result ≡ count_at (requested c.args.wanted.now g x.place) =
    c.count.ensures.count ∙ ap (λ (s : Standing). count_at s.place) (same ∙ c.in_ok-grant-in-Ok.ensures.ok) in
    let few : count_at (requested c.args.wanted.now g x.place) ≤ c.max.result = omega (arith, count, c.max.ensures) in
    let le : c.args.most.now ≤ c.max.result = omega (arith, c.max.ensures) in
    let small : c.max.result < 2 ^ 63 = omega (arith, c.max.ensures, c.count.ensures.small, c.requires.table.small) in
    request_at_table items c.in-Ok.at c.args.name.now a x c.index_mut.ensures.value c.args.wanted.now g
    (slice_set items c.in-Ok.at c.request_here.new.place) c.args.most.now c.max.result (ap (λ (s : Standing). slice_set items c.in-Ok.at s) c.in_ok-grant-in-Ok.ensures.ok)
    c.in_ok-grant-in-Ok.ensures.grant few le small c.requires.table

pub returns-in-Ok-insert-clause-grant : goal.returns-in-Ok-insert-clause-grant
returns-in-Ok-insert-clause-grant c =
    let items : List Standing = c.args.places.now.items in
    let a : IsGap name_of c.args.name.now items c.in-Err.at = subst (λ (l : List Standing). IsGap name_of c.args.name.now l c.in-Err.at) c.deref.ensures.value c.in-Err.ensures in
    gap_grant items c.in-Err.at c.args.name.now a c.args.wanted.now

pub returns-in-Ok-insert-clause-ok : goal.returns-in-Ok-insert-clause-ok
returns-in-Ok-insert-clause-ok c =
    let items : List Standing = c.args.places.now.items in
    let a : IsGap name_of c.args.name.now items c.in-Err.at = subst (λ (l : List Standing). IsGap name_of c.args.name.now l c.in-Err.at) c.deref.ensures.value c.in-Err.ensures in
    request_gap_ok items c.in-Err.at c.args.name.now a c.args.wanted.now c.insert.new.self.items
    (c.in-Ok-insert.ensures.items ∙ ap (λ (s : Standing). insert items c.in-Err.at s) c.in_ok-first-in-Err.ensures.ok)

pub returns-in-Ok-insert-clause-table : goal.returns-in-Ok-insert-clause-table
returns-in-Ok-insert-clause-table c =
    let items : List Standing = c.args.places.now.items in
    let a : IsGap name_of c.args.name.now items c.in-Err.at = subst (λ (l : List Standing). IsGap name_of c.args.name.now l c.in-Err.at) c.deref.ensures.value c.in-Err.ensures in
    let one : 1 ≤ c.max-in-Err.result = omega (arith, c.max-in-Err.ensures) in
    let le : c.args.most.now ≤ c.max-in-Err.result = omega (arith, c.max-in-Err.ensures) in
    let small : c.max-in-Err.result < 2 ^ 63 = omega (arith, c.max-in-Err.ensures, c.requires.table.small) in
    request_gap_table items c.in-Err.at c.args.name.now a c.args.wanted.now c.insert.new.self.items c.args.most.now c.max-in-Err.result
    (c.in-Ok-insert.ensures.items ∙ ap (λ (s : Standing). insert items c.in-Err.at s) c.in_ok-first-in-Err.ensures.ok) one le small c.requires.table
