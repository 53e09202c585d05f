use Rattle.std.proofs.Common.{rules, ◌≡◌, inl, inr, ℕ, suc, false, length, Some, refl, sym, ap, subst, ◌∙◌}
use Rattle.std.specs.Prelude.{slice_get, OnOk}
use Rattle.std.proofs.lemmas.Option.{slice_get_read}
use Rattle.e3_node.specs.NodeView.{NodeView, disk_of}
use Rattle.e3_fleet.specs.Fleets.{nodes_of, rise_answer}
use Rattle.e3_fleet.proofs.Going.{Went, node_on}
use Rattle.e3_fleet.proofs.Owned.{rise_kept, rise_rose, rise_went}
use Rattle.e3_fleet.proofs.Holding.{node_there, worker_on}
use Rattle.e3_fleet.proofs.held.Held.rise_at.Goals as goal
use Rattle.e3_play.specs.Entering.{AfterRise}
use Rattle.e3_world.specs.Items.{is_up_at}
use Rattle.e3_world.specs.Legal.{IsRising}
use Rattle.e3_world.proofs.Turns.{true_not_false}
use Rattle.e3_wire.specs.Marks.{entries_of, scenario_of}

pub rise-answer-requires-clause-standing : goal.rise-answer-requires-clause-standing
rise-answer-requires-clause-standing g c =
    (c.requires.standing.seated c.args.at c.index_mut.result.now.node
    (node_there c.args.self.now.workers.items c.args.at c.index_mut.result.now (slice_get_read c.args.self.now.workers.items (length c.args.self.now.workers.items) c.args.at c.index_mut.result.now refl c.requires.within c.index_mut.ensures.value))).stands

pub rise-answer-requires-clause-turn : goal.rise-answer-requires-clause-turn
rise-answer-requires-clause-turn g c = λ down.
    subst (λ (s : ℕ). IsRising (scenario_of c.args.self.now.shared) (entries_of c.args.self.now.shared) s) (sym (c.requires.standing.seated c.args.at c.index_mut.result.now.node
    (node_there c.args.self.now.workers.items c.args.at c.index_mut.result.now (slice_get_read c.args.self.now.workers.items (length c.args.self.now.workers.items) c.args.at c.index_mut.result.now refl c.requires.within c.index_mut.ensures.value))).site)
    c.requires.turn

pub rise_answer-requires : goal.rise_answer-requires
rise_answer-requires g c = λ e.
    let there : slice_get (nodes_of c.args.self.now.workers.items) c.args.at ≡ Some c.index_mut.result.now.node =
    node_there c.args.self.now.workers.items c.args.at c.index_mut.result.now (slice_get_read c.args.self.now.workers.items (length c.args.self.now.workers.items) c.args.at c.index_mut.result.now refl c.requires.within c.index_mut.ensures.value) in
    let site : c.index_mut.result.now.node.site ≡ suc c.args.at = (c.requires.standing.seated c.args.at c.index_mut.result.now.node there).site in
    let down : is_up_at (entries_of c.args.self.now.shared) c.index_mut.result.now.node.site ≡ false = subst (λ (s : ℕ). is_up_at (entries_of c.args.self.now.shared) s ≡ false) (sym site) c.requires.turn.down in
    true_not_false (sym (c.rise-answer.ensures.up.0 e) ∙ down)

pub returns-clause-went : goal.returns-clause-went
returns-clause-went g c =
    let there : slice_get (nodes_of c.args.self.now.workers.items) c.args.at ≡ Some c.index_mut.result.now.node =
    node_there c.args.self.now.workers.items c.args.at c.index_mut.result.now (slice_get_read c.args.self.now.workers.items (length c.args.self.now.workers.items) c.args.at c.index_mut.result.now refl c.requires.within c.index_mut.ensures.value) in
    let site : c.index_mut.result.now.node.site ≡ suc c.args.at = (c.requires.standing.seated c.args.at c.index_mut.result.now.node there).site in
    record {
      on =
          worker_on g.D.Disk.meaning c.args.self.now.shared c.rise-answer.new.shared c.args.self.now.workers.items c.args.at _
          (node_on g.D.Disk.meaning c.other_entries_keep_nodes.ensures.nodes (λ d. g.met.D.Disk.counted d)
          c.args.self.now.shared c.rise-answer.new.shared (nodes_of c.args.self.now.workers.items) c.args.at c.index_mut.result.now.node c.rise-answer.new.self there
          c.requires.standing c.rise-answer.ensures.shared.stands c.rise-answer.ensures.shared.scenario c.rise-answer.ensures.shared.most c.rise-answer.ensures.site
          c.rise-answer.ensures.stands
          (subst (λ (s : ℕ). Went (scenario_of c.args.self.now.shared) (entries_of c.args.self.now.shared) (entries_of c.rise-answer.new.shared) s (g.D.Disk.meaning.meters (disk_of c.index_mut.result.now.node.state)) (g.D.Disk.meaning.meters (disk_of c.rise-answer.new.self.state))) site
          (rise_went (scenario_of c.args.self.now.shared) (entries_of c.args.self.now.shared) (entries_of c.rise-answer.new.shared) c.index_mut.result.now.node.site (g.D.Disk.meaning.meters (disk_of c.index_mut.result.now.node.state)) (g.D.Disk.meaning.meters (disk_of c.rise-answer.new.self.state)) (g.D.Disk.meaning.image (disk_of c.index_mut.result.now.node.state)) c.rise-answer.result
          (g.met.D.Disk.counted (disk_of c.index_mut.result.now.node.state)) c.rise-answer.ensures.meters c.rise-answer.ensures.rose c.rise-answer.ensures.takes
          c.rise-answer.ensures.failed c.rise-answer.ensures.missed c.rise-answer.ensures.cause (λ e. (c.rise-answer.ensures.no_memory e, c.rise-answer.ensures.spares e))
          (λ e. ((c.rise-answer.ensures.kept (inr e)).0, ap (λ (n : NodeView _). g.D.Disk.meaning.meters (disk_of n.state)) (c.rise-answer.ensures.kept (inr e)).1))
          (λ e. ((c.rise-answer.ensures.kept (inl e)).0, ap (λ (n : NodeView _). g.D.Disk.meaning.meters (disk_of n.state)) (c.rise-answer.ensures.kept (inl e)).1)))));
      grew = search rules;
    }

pub returns-clause-rose : goal.returns-clause-rose
returns-clause-rose g c =
    let there : slice_get (nodes_of c.args.self.now.workers.items) c.args.at ≡ Some c.index_mut.result.now.node =
    node_there c.args.self.now.workers.items c.args.at c.index_mut.result.now (slice_get_read c.args.self.now.workers.items (length c.args.self.now.workers.items) c.args.at c.index_mut.result.now refl c.requires.within c.index_mut.ensures.value) in
    let site : c.index_mut.result.now.node.site ≡ suc c.args.at = (c.requires.standing.seated c.args.at c.index_mut.result.now.node there).site in
    let down : is_up_at (entries_of c.args.self.now.shared) c.index_mut.result.now.node.site ≡ false = subst (λ (s : ℕ). is_up_at (entries_of c.args.self.now.shared) s ≡ false) (sym site) c.requires.turn.down in
    rw c.rise_answer.ensures (subst (λ (s : ℕ). OnOk (rise_answer c.rise-answer.result) (AfterRise (scenario_of c.args.self.now.shared) (entries_of c.args.self.now.shared) s (entries_of c.rise-answer.new.shared))) site
    (rise_rose (scenario_of c.args.self.now.shared) (entries_of c.args.self.now.shared) (entries_of c.rise-answer.new.shared) c.index_mut.result.now.node.site (g.D.Disk.meaning.meters (disk_of c.index_mut.result.now.node.state)) (g.D.Disk.meaning.meters (disk_of c.rise-answer.new.self.state)) (g.D.Disk.meaning.image (disk_of c.index_mut.result.now.node.state)) c.rise-answer.result
    (λ e. true_not_false (sym (c.rise-answer.ensures.up.0 e) ∙ down))
    c.rise-answer.ensures.rose c.rise-answer.ensures.missed c.rise-answer.ensures.failed))

pub returns-clause-kept : goal.returns-clause-kept
returns-clause-kept g c = rw c.rise_answer.ensures
    (rise_kept (entries_of c.args.self.now.shared) (entries_of c.rise-answer.new.shared) c.rise-answer.result
    c.rise-answer.ensures.no_memory (λ e. (c.rise-answer.ensures.kept (inr e)).0))
