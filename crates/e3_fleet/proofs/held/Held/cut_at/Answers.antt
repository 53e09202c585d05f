use Rattle.std.proofs.Common.{rules, ◌≡◌, ℕ, suc, true, length, Some, refl, sym, subst, ◌∙◌}
use Rattle.std.specs.Prelude.{slice_get}
use Rattle.std.proofs.lemmas.Option.{slice_get_read}
use Rattle.e3_node.specs.NodeView.{disk_of}
use Rattle.e3_fleet.proofs.Going.{Went, node_on}
use Rattle.e3_fleet.proofs.Owned.{cut_told, cut_still, cut_went}
use Rattle.e3_fleet.specs.Fleets.{nodes_of}
use Rattle.e3_fleet.proofs.Holding.{node_there, worker_on}
use Rattle.e3_fleet.proofs.held.Held.cut_at.Goals as goal
use Rattle.e3_world.specs.Items.{is_up_at}
use Rattle.e3_world.specs.Legal.{IsCut}
use Rattle.e3_world.proofs.Turns.{true_not_false}
use Rattle.e3_wire.specs.Marks.{entries_of, scenario_of}

pub cut-answer-requires-clause-standing : goal.cut-answer-requires-clause-standing
cut-answer-requires-clause-standing g c =
    (c.requires.standing.seated c.args.at c.index_mut.result.now.node
    (node_there c.args.self.now.workers.items c.args.at c.index_mut.result.now (slice_get_read c.args.self.now.workers.items (length c.args.self.now.workers.items) c.args.at c.index_mut.result.now refl c.requires.within c.index_mut.ensures.value))).stands

pub cut-answer-requires-clause-crash : goal.cut-answer-requires-clause-crash
cut-answer-requires-clause-crash g c = λ up.
    subst (λ (s : ℕ). IsCut (scenario_of c.args.self.now.shared) (entries_of c.args.self.now.shared) s) (sym (c.requires.standing.seated c.args.at c.index_mut.result.now.node
    (node_there c.args.self.now.workers.items c.args.at c.index_mut.result.now (slice_get_read c.args.self.now.workers.items (length c.args.self.now.workers.items) c.args.at c.index_mut.result.now refl c.requires.within c.index_mut.ensures.value))).site)
    c.requires.due

pub cut_answer-requires : goal.cut_answer-requires
cut_answer-requires g c = λ e.
    let there : slice_get (nodes_of c.args.self.now.workers.items) c.args.at ≡ Some c.index_mut.result.now.node =
    node_there c.args.self.now.workers.items c.args.at c.index_mut.result.now (slice_get_read c.args.self.now.workers.items (length c.args.self.now.workers.items) c.args.at c.index_mut.result.now refl c.requires.within c.index_mut.ensures.value) in
    let site : c.index_mut.result.now.node.site ≡ suc c.args.at = (c.requires.standing.seated c.args.at c.index_mut.result.now.node there).site in
    let up : is_up_at (entries_of c.args.self.now.shared) c.index_mut.result.now.node.site ≡ true = subst (λ (s : ℕ). is_up_at (entries_of c.args.self.now.shared) s ≡ true) (sym site) c.requires.due.up in
    true_not_false (sym up ∙ c.cut-answer.ensures.down.0 e)

pub returns-clause-went : goal.returns-clause-went
returns-clause-went g c =
    let there : slice_get (nodes_of c.args.self.now.workers.items) c.args.at ≡ Some c.index_mut.result.now.node =
    node_there c.args.self.now.workers.items c.args.at c.index_mut.result.now (slice_get_read c.args.self.now.workers.items (length c.args.self.now.workers.items) c.args.at c.index_mut.result.now refl c.requires.within c.index_mut.ensures.value) in
    let site : c.index_mut.result.now.node.site ≡ suc c.args.at = (c.requires.standing.seated c.args.at c.index_mut.result.now.node there).site in
    record {
      on =
          worker_on g.D.Disk.meaning c.args.self.now.shared c.cut-answer.new.shared c.args.self.now.workers.items c.args.at _
          (node_on g.D.Disk.meaning c.other_entries_keep_nodes.ensures.nodes (λ d. g.met.D.Disk.counted d)
          c.args.self.now.shared c.cut-answer.new.shared (nodes_of c.args.self.now.workers.items) c.args.at c.index_mut.result.now.node c.cut-answer.new.self there
          c.requires.standing c.cut-answer.ensures.shared.stands c.cut-answer.ensures.shared.scenario c.cut-answer.ensures.shared.most c.cut-answer.ensures.site
          c.cut-answer.ensures.stands
          (subst (λ (s : ℕ). Went (scenario_of c.args.self.now.shared) (entries_of c.args.self.now.shared) (entries_of c.cut-answer.new.shared) s (g.D.Disk.meaning.meters (disk_of c.index_mut.result.now.node.state)) (g.D.Disk.meaning.meters (disk_of c.cut-answer.new.self.state))) site
          (cut_went (scenario_of c.args.self.now.shared) (entries_of c.args.self.now.shared) (entries_of c.cut-answer.new.shared) c.index_mut.result.now.node.site (g.D.Disk.meaning.meters (disk_of c.index_mut.result.now.node.state)) (g.D.Disk.meaning.meters (disk_of c.cut-answer.new.self.state)) c.cut-answer.result
          (g.met.D.Disk.counted (disk_of c.index_mut.result.now.node.state)) c.cut-answer.ensures.entered c.cut-answer.ensures.meters
          (cut_still (entries_of c.args.self.now.shared) (entries_of c.cut-answer.new.shared) g.D.Disk.meaning.meters c.index_mut.result.now.node c.cut-answer.new.self c.cut-answer.result c.cut-answer.ensures.kept))));
      grew = search rules;
    }

pub returns-clause-entered : goal.returns-clause-entered
returns-clause-entered g c =
    let there : slice_get (nodes_of c.args.self.now.workers.items) c.args.at ≡ Some c.index_mut.result.now.node =
    node_there c.args.self.now.workers.items c.args.at c.index_mut.result.now (slice_get_read c.args.self.now.workers.items (length c.args.self.now.workers.items) c.args.at c.index_mut.result.now refl c.requires.within c.index_mut.ensures.value) in
    let site : c.index_mut.result.now.node.site ≡ suc c.args.at = (c.requires.standing.seated c.args.at c.index_mut.result.now.node there).site in
    let up : is_up_at (entries_of c.args.self.now.shared) c.index_mut.result.now.node.site ≡ true = subst (λ (s : ℕ). is_up_at (entries_of c.args.self.now.shared) s ≡ true) (sym site) c.requires.due.up in
    rw c.cut_answer.ensures (cut_told (entries_of c.args.self.now.shared) (entries_of c.cut-answer.new.shared) c.index_mut.result.now.node.site (suc c.args.at) c.cut-answer.result
    (λ e. true_not_false (sym up ∙ c.cut-answer.ensures.down.0 e)) site c.cut-answer.ensures.entered)
