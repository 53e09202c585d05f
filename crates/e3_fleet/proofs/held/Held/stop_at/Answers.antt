use Rattle.std.proofs.Common.{rules, ◌≡◌, ◌++◌, ◌∷◌, [], suc, length, List, Some, refl, sym, subst, arith}
use Rattle.std.specs.Prelude.{slice_get}
use Rattle.std.proofs.lemmas.Option.{slice_get_read}
use Rattle.e3_fleet.proofs.Going.{node_on, still_on}
use Rattle.e3_fleet.proofs.Owned.{stop_went}
use Rattle.e3_fleet.specs.Fleets.{nodes_of}
use Rattle.e3_fleet.proofs.Holding.{node_there, worker_on}
use Rattle.e3_fleet.proofs.held.Held.stop_at.Goals as goal
use Rattle.e3_node.specs.NodeStands.{NodeStands}
use Rattle.e3_node.specs.NodeView.{disk_of}
use Rattle.e3_types.specs.declared.entries.Act.TheVariants.{Line}
use Rattle.e3_types.specs.declared.entries.Entry.{Entry}
use Rattle.e3_types.specs.declared.scenarios.Scenario.{Scenario}
use Rattle.e3_wire.specs.Marks.{entries_of, scenario_of}

pub returns-in_err-enter_line-clause-went : goal.returns-in_err-enter_line-clause-went
returns-in_err-enter_line-clause-went g c =
    record {
      on =
          still_on g.D.Disk.meaning c.args.self.now.shared c.enter_line.new.shared (nodes_of c.args.self.now.workers.items) c.requires.standing
          c.enter_line.ensures.stands c.enter_line.ensures.same.0 c.enter_line.ensures.same.1 c.in_err-enter_line.ensures.kept;
      grew = search rules;
    }

pub returns-clause-went : goal.returns-clause-went
returns-clause-went g c =
    let there : slice_get (nodes_of c.args.self.now.workers.items) c.args.at ≡ Some c.index_mut.result.now.node =
    node_there c.args.self.now.workers.items c.args.at c.index_mut.result.now (slice_get_read c.args.self.now.workers.items (length c.args.self.now.workers.items) c.args.at c.index_mut.result.now refl c.requires.within c.index_mut.ensures.value) in
    let seat = c.requires.standing.seated c.args.at c.index_mut.result.now.node there in
    let site : c.index_mut.result.now.node.site ≡ suc c.args.at = seat.site in
    let entered : entries_of c.enter_line.new.shared ≡ entries_of c.args.self.now.shared ++ record { owner = 0; act = Line c.args.number } ∷ [] = c.in_ok-enter_line.ensures.entered in
    record {
      on =
          worker_on g.D.Disk.meaning c.args.self.now.shared c.enter_line.new.shared c.args.self.now.workers.items c.args.at _
          (node_on g.D.Disk.meaning c.other_entries_keep_nodes.ensures.nodes (λ d. g.met.D.Disk.counted d)
          c.args.self.now.shared c.enter_line.new.shared (nodes_of c.args.self.now.workers.items) c.args.at c.index_mut.result.now.node c.stop.new.self there
          c.requires.standing c.enter_line.ensures.stands c.enter_line.ensures.same.0 c.enter_line.ensures.same.1 c.stop.ensures.site
          (c.stop.ensures.stands (scenario_of c.enter_line.new.shared) (entries_of c.enter_line.new.shared)
          (subst (λ (sc : Scenario). NodeStands g.D.Disk.meaning sc (entries_of c.enter_line.new.shared) c.index_mut.result.now.node) (sym c.enter_line.ensures.same.0)
          (subst (λ (h : List Entry). NodeStands g.D.Disk.meaning (scenario_of c.args.self.now.shared) h c.index_mut.result.now.node) (sym entered)
          (c.other_entries_keep_nodes.ensures.nodes (scenario_of c.args.self.now.shared) (entries_of c.args.self.now.shared) (record { owner = 0; act = Line c.args.number })
          c.index_mut.result.now.node seat.stands (λ same. omega (arith, same, site))))))
          (stop_went (scenario_of c.args.self.now.shared) (entries_of c.args.self.now.shared) (entries_of c.enter_line.new.shared) c.args.at c.args.number c.args.calls c.args.leave
          (g.D.Disk.meaning.meters (disk_of c.index_mut.result.now.node.state)) (g.D.Disk.meaning.meters (disk_of c.stop.new.self.state)) (g.met.D.Disk.counted (disk_of c.index_mut.result.now.node.state))
          c.requires.some c.requires.step entered c.stop.ensures.meters));
      grew = search rules;
    }
