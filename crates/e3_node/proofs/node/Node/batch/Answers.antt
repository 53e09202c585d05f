use Rattle.std.proofs.Common.{◌≤◌, ap, subst, sym}
use Rattle.e3_node.specs.Batches.{BatchEnded}
use Rattle.e3_node.specs.NodeStands.{IsIn}
use Rattle.e3_node.specs.NodeView.{NodeView}
use Rattle.e3_node.specs.Turns.{history_seen, scenario_seen}
use Rattle.e3_turn.specs.Passes.{Owns, seen_by}
use Rattle.e3_wire.specs.Marks.{last_owner}
use Rattle.e3_node.proofs.Steps.{node_with}
use Rattle.e3_node.proofs.Waiting.{keys_stay}
use Rattle.e3_node.proofs.node.Node.batch.Goals as goal

pub take_all-requires-clause-turns : goal.take_all-requires-clause-turns
take_all-requires-clause-turns g c =
    let p = c.args.pass.now in
    record {
      idle = c.requires.turns.idle;
      owns = subst (λ (x : NodeView _). Owns p x.site) (sym c.self.view_is) c.requires.turns.owns;
      played = c.requires.turns.played;
      some = subst (λ (x : NodeView _). 1 ≤ x.site) (sym c.self.view_is) c.requires.turns.stands.some;
      exists = subst (λ (x : NodeView _). x.site ≤ last_owner (seen_by p)) (sym c.self.view_is) c.requires.turns.stands.exists;
      restless = c.requires.turns.restless;
    }

pub returns-clause-stands : goal.returns-clause-stands
returns-clause-stands g c =
    let p = c.args.pass.now in
    let q = c.take_all.new.pass in
    let sc = scenario_seen p in
    let h = history_seen p in
    let more = history_seen q in
    node_with g.D.Disk.meaning sc (scenario_seen q) h more c.args.self.now _ c.take_all.new.state c.requires.turns.stands
    (keys_stay p q c.requires.turns.played c.take_all.ensures.turned.seen).0
    (subst (λ (x : NodeView _). IsIn g.D.Disk.meaning sc more x.site c.take_all.new.state) c.self.view_is c.take_all.ensures.stands)
    (ap (λ (x : NodeView _). let n : NodeView _ = record { site = x.site; weights = x.weights; rows = x.rows; state = c.take_all.new.state } in n) c.self.view_is)

pub returns-clause-ended : goal.returns-clause-ended
returns-clause-ended g c =
    let p = c.args.pass.now in
    subst (λ (x : NodeView _). BatchEnded g.D.Disk.meaning.meters (scenario_seen p) (history_seen p) (history_seen c.take_all.new.pass) x.site c.args.inputs x.state c.take_all.new.state c.take_all.result)
    c.self.view_is c.take_all.ensures.ended

pub returns-clause-scenario : goal.returns-clause-scenario
returns-clause-scenario g c = keys_stay c.args.pass.now c.take_all.new.pass c.requires.turns.played c.take_all.ensures.turned.seen
