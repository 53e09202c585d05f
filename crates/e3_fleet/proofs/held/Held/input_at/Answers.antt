use Rattle.std.proofs.Common.{rules, ◌≡◌, ℕ, suc, true, length, Some, refl, sym, ap, subst, ◌∙◌}
use Rattle.std.specs.Prelude.{slice_get, OnOk}
use Rattle.std.proofs.lemmas.Option.{slice_get_read}
use Rattle.e3_node.specs.NodeView.{disk_of}
use Rattle.e3_fleet.specs.Fleets.{input_answer, nodes_of}
use Rattle.e3_fleet.proofs.Going.{Went, node_on}
use Rattle.e3_fleet.proofs.Owned.{input_entered, input_kept, input_went, takes_so}
use Rattle.e3_fleet.proofs.Holding.{node_there, worker_on}
use Rattle.e3_fleet.proofs.held.Held.input_at.Goals as goal
use Rattle.e3_play.specs.Entering.{AfterInput}
use Rattle.e3_world.specs.Items.{is_up_at}
use Rattle.e3_world.specs.Legal.{IsDue}
use Rattle.e3_world.proofs.Turns.{true_not_false}
use Rattle.e3_wire.specs.Marks.{entries_of, scenario_of}

pub input-answer-requires-clause-standing : goal.input-answer-requires-clause-standing
input-answer-requires-clause-standing g c =
    (c.requires.standing.seated c.args.at c.index_mut.result.now.node
    (node_there c.args.self.now.workers.items c.args.at c.index_mut.result.now (slice_get_read c.args.self.now.workers.items (length c.args.self.now.workers.items) c.args.at c.index_mut.result.now refl c.requires.within c.index_mut.ensures.value))).stands

pub input-answer-requires-clause-due : goal.input-answer-requires-clause-due
input-answer-requires-clause-due g c = λ up.
    subst (λ (s : ℕ). IsDue (scenario_of c.args.self.now.shared) (entries_of c.args.self.now.shared) s c.args.input) (sym (c.requires.standing.seated c.args.at c.index_mut.result.now.node
    (node_there c.args.self.now.workers.items c.args.at c.index_mut.result.now (slice_get_read c.args.self.now.workers.items (length c.args.self.now.workers.items) c.args.at c.index_mut.result.now refl c.requires.within c.index_mut.ensures.value))).site)
    c.requires.due

pub input_answer-requires : goal.input_answer-requires
input_answer-requires g c = λ e.
    let there : slice_get (nodes_of c.args.self.now.workers.items) c.args.at ≡ Some c.index_mut.result.now.node =
    node_there c.args.self.now.workers.items c.args.at c.index_mut.result.now (slice_get_read c.args.self.now.workers.items (length c.args.self.now.workers.items) c.args.at c.index_mut.result.now refl c.requires.within c.index_mut.ensures.value) in
    let site : c.index_mut.result.now.node.site ≡ suc c.args.at = (c.requires.standing.seated c.args.at c.index_mut.result.now.node there).site in
    let up : is_up_at (entries_of c.args.self.now.shared) c.index_mut.result.now.node.site ≡ true = subst (λ (s : ℕ). is_up_at (entries_of c.args.self.now.shared) s ≡ true) (sym site) c.requires.up in
    true_not_false (sym up ∙ c.input-answer.ensures.down.0 e)

pub returns-clause-went : goal.returns-clause-went
returns-clause-went g c =
    let there : slice_get (nodes_of c.args.self.now.workers.items) c.args.at ≡ Some c.index_mut.result.now.node =
    node_there c.args.self.now.workers.items c.args.at c.index_mut.result.now (slice_get_read c.args.self.now.workers.items (length c.args.self.now.workers.items) c.args.at c.index_mut.result.now refl c.requires.within c.index_mut.ensures.value) in
    let site : c.index_mut.result.now.node.site ≡ suc c.args.at = (c.requires.standing.seated c.args.at c.index_mut.result.now.node there).site in
    record {
      on =
          worker_on g.D.Disk.meaning c.args.self.now.shared c.input-answer.new.shared c.args.self.now.workers.items c.args.at _
          (node_on g.D.Disk.meaning c.other_entries_keep_nodes.ensures.nodes (λ d. g.met.D.Disk.counted d)
          c.args.self.now.shared c.input-answer.new.shared (nodes_of c.args.self.now.workers.items) c.args.at c.index_mut.result.now.node c.input-answer.new.self there
          c.requires.standing c.input-answer.ensures.shared.stands c.input-answer.ensures.shared.scenario c.input-answer.ensures.shared.most c.input-answer.ensures.site
          c.input-answer.ensures.stands
          (subst (λ (s : ℕ). Went (scenario_of c.args.self.now.shared) (entries_of c.args.self.now.shared) (entries_of c.input-answer.new.shared) s (g.D.Disk.meaning.meters (disk_of c.index_mut.result.now.node.state)) (g.D.Disk.meaning.meters (disk_of c.input-answer.new.self.state))) site
          (input_went (scenario_of c.args.self.now.shared) (entries_of c.args.self.now.shared) (entries_of c.input-answer.new.shared) c.index_mut.result.now.node.site c.args.input (g.D.Disk.meaning.meters (disk_of c.index_mut.result.now.node.state)) (g.D.Disk.meaning.meters (disk_of c.input-answer.new.self.state)) c.input-answer.result
          (g.met.D.Disk.counted (disk_of c.index_mut.result.now.node.state)) c.input-answer.ensures.meters c.input-answer.ensures.stepped
          (takes_so (scenario_of c.args.self.now.shared) (entries_of c.args.self.now.shared) c.index_mut.result.now.node.site c.args.input (g.D.Disk.meaning.meters (disk_of c.index_mut.result.now.node.state)) (g.D.Disk.meaning.meters (disk_of c.input-answer.new.self.state)) c.input-answer.result c.input-answer.ensures.takes) c.input-answer.ensures.fell
          (λ fault e no. ((c.input-answer.ensures.kept fault e no).0, ap g.D.Disk.meaning.meters (c.input-answer.ensures.kept fault e no).1)) c.input-answer.ensures.why)));
      grew = search rules;
    }

pub returns-clause-entered : goal.returns-clause-entered
returns-clause-entered g c =
    let there : slice_get (nodes_of c.args.self.now.workers.items) c.args.at ≡ Some c.index_mut.result.now.node =
    node_there c.args.self.now.workers.items c.args.at c.index_mut.result.now (slice_get_read c.args.self.now.workers.items (length c.args.self.now.workers.items) c.args.at c.index_mut.result.now refl c.requires.within c.index_mut.ensures.value) in
    let site : c.index_mut.result.now.node.site ≡ suc c.args.at = (c.requires.standing.seated c.args.at c.index_mut.result.now.node there).site in
    let up : is_up_at (entries_of c.args.self.now.shared) c.index_mut.result.now.node.site ≡ true = subst (λ (s : ℕ). is_up_at (entries_of c.args.self.now.shared) s ≡ true) (sym site) c.requires.up in
    rw c.input_answer.ensures (subst (λ (s : ℕ). OnOk (input_answer c.input-answer.result)
    (AfterInput (scenario_of c.args.self.now.shared) (entries_of c.args.self.now.shared) s c.args.input (entries_of c.input-answer.new.shared))) site
    (input_entered (scenario_of c.args.self.now.shared) (entries_of c.args.self.now.shared) (entries_of c.input-answer.new.shared) c.index_mut.result.now.node.site c.args.input
    c.input-answer.result (λ e. true_not_false (sym up ∙ c.input-answer.ensures.down.0 e)) c.input-answer.ensures.stepped c.input-answer.ensures.fell))

pub returns-clause-kept : goal.returns-clause-kept
returns-clause-kept g c = rw c.input_answer.ensures
    (input_kept (entries_of c.args.self.now.shared) (entries_of c.input-answer.new.shared) c.input-answer.result (λ fault e no. (c.input-answer.ensures.kept fault e no).0))
