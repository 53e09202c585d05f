use Rattle.std.proofs.Common.{rules, ◌≡◌, ◌<◌, ◌≤◌, ◌++◌, [], ℕ, Err, false, List, sym, ap, subst, ◌∙◌}
use Rattle.std.specs.Prelude.{slice_index_or}
use Rattle.e3_fleet.specs.crew.Drops.{DropHadNoRoom}
use Rattle.e3_fleet.proofs.crew.Drops.{alone, came, crew_dropped, drop_full, dropped_gone_on, dropped_through, drops_owned, same_owners}
use Rattle.e3_fleet.proofs.crew.Further.{settled_on}
use Rattle.e3_node.specs.NodeStands.{NodeStands}
use Rattle.e3_play.specs.declared.sites.RunFault.TheVariants.{HistoryFull}
use Rattle.e3_turn.specs.Passes.{last_of, seen_by}
use Rattle.e3_turn.specs.Chronicles.{count_of}
use Rattle.e3_wire.specs.declared.marks.Mark.{Mark}
use Rattle.e3_wire.specs.Marks.{entries_of, scenario_of}
use Rattle.e3_world.specs.Packets.{is_calm, pending, present_items}
use Rattle.e3_fleet.proofs.crew.dropping.drop_down.Goals as goal

pub drop_in-dropped-requires-clause-restless : goal.drop_in-dropped-requires-clause-restless
drop_in-dropped-requires-clause-restless g c =
    let P : List Mark → Type 0 = λ l. is_calm (present_items (scenario_of l) (entries_of l)) ≡ false in
    subst P (sym (alone c.args.pass.now c.take-shared.result c.requires.crew.all c.take-shared.ensures.grew)) c.requires.crew.restless

pub drop_in-dropped-requires-clause-standing : goal.drop_in-dropped-requires-clause-standing
drop_in-dropped-requires-clause-standing g c i d low =
    let P : List Mark → Type 0 = λ l. NodeStands g.D.Disk.meaning (scenario_of l) (entries_of l) (slice_index_or c.args.workers.now i d).node in
    subst P (sym (alone c.args.pass.now c.take-shared.result c.requires.crew.all c.take-shared.ensures.grew)) (c.requires.crew.each i d low).stands

pub put-requires-clause-grew : goal.put-requires-clause-grew
put-requires-clause-grew g c =
    let d = c.drop_in-dropped.ensures.dropped in
    let same = c.take-shared.ensures.same in
    c.drivers_may_put_marks.ensures c.take-shared.new.pass c.drop_in-dropped.new.shared d.drops
    (λ o low. let P : List ℕ → Type 0 = λ l. 0 < count_of o l in
    let Q : ℕ → Type 0 = λ n. o ≤ n in
    subst P (sym same.owners) (c.requires.crew.all o (subst Q same.last low)))
    (d.is ∙ ap (λ l. l ++ d.drops) (sym c.take-shared.ensures.seen))
    (drops_owned (last_of c.take-shared.new.pass) d.drops d.are)

pub returns-clause-went : goal.returns-clause-went
returns-clause-went g c = record {
  crew =
      crew_dropped g.D.Disk.meaning c.others_leave_nodes.ensures.nodes c.args.wire.now c.args.pass.now c.put.new.pass c.args.workers.now c.requires.crew (came c.args.pass.now c.put.new.pass c.take-shared.result c.drop_in-dropped.new.shared c.requires.crew.all c.take-shared.ensures.grew c.drop_in-dropped.ensures.dropped c.put.ensures.seen)
      c.put.ensures.idle (same_owners c.args.pass.now c.take-shared.new.pass c.put.new.pass c.take-shared.ensures.same c.put.ensures.same) c.put.ensures.played;
  on =
      dropped_gone_on g.D.Disk.meaning c.others_leave_nodes.ensures.nodes c.args.wire.now c.args.pass.now c.put.new.pass c.args.workers.now c.requires.crew (came c.args.pass.now c.put.new.pass c.take-shared.result c.drop_in-dropped.new.shared c.requires.crew.all c.take-shared.ensures.grew c.drop_in-dropped.ensures.dropped c.put.ensures.seen)
      c.put.ensures.idle (same_owners c.args.pass.now c.take-shared.new.pass c.put.new.pass c.take-shared.ensures.same c.put.ensures.same) c.put.ensures.played;
  delivering =
      dropped_through (seen_by c.args.pass.now) (seen_by c.put.new.pass) c.requires.crew.played c.put.ensures.played
      (came c.args.pass.now c.put.new.pass c.take-shared.result c.drop_in-dropped.new.shared c.requires.crew.all c.take-shared.ensures.grew c.drop_in-dropped.ensures.dropped c.put.ensures.seen)
      c.requires.delivering;
}

pub returns-in_err-dropped-clause-went : goal.returns-in_err-dropped-clause-went
returns-in_err-dropped-clause-went g c = record {
  crew =
      crew_dropped g.D.Disk.meaning c.others_leave_nodes.ensures.nodes c.args.wire.now c.args.pass.now c.put.new.pass c.args.workers.now c.requires.crew (came c.args.pass.now c.put.new.pass c.take-shared.result c.drop_in-dropped.new.shared c.requires.crew.all c.take-shared.ensures.grew c.drop_in-dropped.ensures.dropped c.put.ensures.seen)
      c.put.ensures.idle (same_owners c.args.pass.now c.take-shared.new.pass c.put.new.pass c.take-shared.ensures.same c.put.ensures.same) c.put.ensures.played;
  on =
      dropped_gone_on g.D.Disk.meaning c.others_leave_nodes.ensures.nodes c.args.wire.now c.args.pass.now c.put.new.pass c.args.workers.now c.requires.crew (came c.args.pass.now c.put.new.pass c.take-shared.result c.drop_in-dropped.new.shared c.requires.crew.all c.take-shared.ensures.grew c.drop_in-dropped.ensures.dropped c.put.ensures.seen)
      c.put.ensures.idle (same_owners c.args.pass.now c.take-shared.new.pass c.put.new.pass c.take-shared.ensures.same c.put.ensures.same) c.put.ensures.played;
  delivering =
      dropped_through (seen_by c.args.pass.now) (seen_by c.put.new.pass) c.requires.crew.played c.put.ensures.played
      (came c.args.pass.now c.put.new.pass c.take-shared.result c.drop_in-dropped.new.shared c.requires.crew.all c.take-shared.ensures.grew c.drop_in-dropped.ensures.dropped c.put.ensures.seen)
      c.requires.delivering;
}

pub returns-clause-none : goal.returns-clause-none
returns-clause-none g c = λ zero.
    let on = dropped_gone_on g.D.Disk.meaning c.others_leave_nodes.ensures.nodes c.args.wire.now c.args.pass.now c.put.new.pass c.args.workers.now c.requires.crew (came c.args.pass.now c.put.new.pass c.take-shared.result c.drop_in-dropped.new.shared c.requires.crew.all c.take-shared.ensures.grew c.drop_in-dropped.ensures.dropped c.put.ensures.seen)
    c.put.ensures.idle (same_owners c.args.pass.now c.take-shared.new.pass c.put.new.pass c.take-shared.ensures.same c.put.ensures.same) c.put.ensures.played in
    let P : List Mark → Type 0 = λ l. pending (scenario_of l) (entries_of l) ≡ [] in
    settled_on (seen_by c.args.pass.now) (seen_by c.put.new.pass) on.scenario (entries_of (seen_by c.put.new.pass)) (subst P (sym c.put.ensures.seen) (c.busy_sites-busy.ensures zero))

pub returns-in_err-dropped-clause-full : goal.returns-in_err-dropped-clause-full
returns-in_err-dropped-clause-full g c = λ is.
    let full : c.drop_in-dropped.result ≡ Err HistoryFull = search rules in
    let crew = crew_dropped g.D.Disk.meaning c.others_leave_nodes.ensures.nodes c.args.wire.now c.args.pass.now c.put.new.pass c.args.workers.now c.requires.crew (came c.args.pass.now c.put.new.pass c.take-shared.result c.drop_in-dropped.new.shared c.requires.crew.all c.take-shared.ensures.grew c.drop_in-dropped.ensures.dropped c.put.ensures.seen)
    c.put.ensures.idle (same_owners c.args.pass.now c.take-shared.new.pass c.put.new.pass c.take-shared.ensures.same c.put.ensures.same) c.put.ensures.played in
    drop_full c.marks_add_up.ensures.none (seen_by c.args.pass.now) (seen_by c.put.new.pass) c.requires.crew.played c.put.ensures.played
    (came c.args.pass.now c.put.new.pass c.take-shared.result c.drop_in-dropped.new.shared c.requires.crew.all c.take-shared.ensures.grew c.drop_in-dropped.ensures.dropped c.put.ensures.seen)
    crew.none c.requires.begun c.requires.delivering (subst DropHadNoRoom (sym c.put.ensures.seen) (c.drop_in-dropped.ensures.full full))
