-- the name's place behind the release, if it has one
use Rattle.std.proofs.Common.{rules, List, ap, slice_set}
use Rattle.e3_types.specs.Sorted.{IsAt, IsGap}
use Rattle.e3_locks.specs.Standing.{Standing}
use Rattle.e3_locks.proofs.Placing.{name_of}
use Rattle.e3_locks.proofs.Releasing.{release_at_ok, release_at_table, release_at_ascends, release_gap}
use Rattle.e3_locks.proofs.releases.release_on.Goals as goal

pub returns-in-Ok-clause-places : goal.returns-in-Ok-clause-places
returns-in-Ok-clause-places c =
    let items : List Standing = c.args.places.now.items in
    let a : IsAt name_of c.args.name.now items c.in-Ok.at = search rules in
    release_at_ok items c.in-Ok.at c.args.name.now a c.index_mut.result.now c.index_mut.ensures.value c.args.t.now (slice_set items c.in-Ok.at c.release.new.self)
    (ap (λ (s : Standing). slice_set items c.in-Ok.at s) c.release.ensures)

pub returns-in-Ok-clause-table : goal.returns-in-Ok-clause-table
returns-in-Ok-clause-table c =
    let items : List Standing = c.args.places.now.items in
    let a : IsAt name_of c.args.name.now items c.in-Ok.at = search rules in
    release_at_table items c.in-Ok.at c.args.name.now a c.index_mut.result.now c.index_mut.ensures.value c.args.t.now (slice_set items c.in-Ok.at c.release.new.self)
    (ap (λ (s : Standing). slice_set items c.in-Ok.at s) c.release.ensures)

pub returns-in-Ok-clause-ascending : goal.returns-in-Ok-clause-ascending
returns-in-Ok-clause-ascending c =
    let items : List Standing = c.args.places.now.items in
    let a : IsAt name_of c.args.name.now items c.in-Ok.at = search rules in
    release_at_ascends items c.in-Ok.at c.args.name.now a c.index_mut.result.now c.index_mut.ensures.value c.args.t.now (slice_set items c.in-Ok.at c.release.new.self)
    (ap (λ (s : Standing). slice_set items c.in-Ok.at s) c.release.ensures) c.requires

pub returns-in-Err-clause-places : goal.returns-in-Err-clause-places
returns-in-Err-clause-places c =
    let items : List Standing = c.args.places.now.items in
    let a : IsGap name_of c.args.name.now items c.in-Err.field-0 = search rules in
    release_gap items c.in-Err.field-0 c.args.name.now a c.args.t.now
