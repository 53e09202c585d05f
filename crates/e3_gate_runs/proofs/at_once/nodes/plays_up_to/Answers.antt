use Rattle.std.proofs.Common.{rules, ◌≡◌, true, List, sym, subst}
use Rattle.e3_fleet.proofs.Holding.{nothing_added, taken_again, taken_on}
use Rattle.e3_gate_runs.specs.TwoNodes.{AreTwo}
use Rattle.e3_wire.specs.declared.marks.Mark.{Mark}
use Rattle.e3_gate_runs.proofs.at_once.nodes.plays_up_to.Goals as goal

pub plays-requires : goal.plays-requires
plays-requires g c =
    let P : List Mark → Type 0 = λ l. AreTwo g.D.Disk.meaning l c.args.node.now c.args.other.now in
    subst P (sym (nothing_added c.args.pass c.take-shared.result c.requires.all c.take-shared.ensures.grew)) c.requires.two

pub takes_at_once-requires-clause-taken : goal.takes_at_once-requires-clause-taken
takes_at_once-requires-clause-taken g c =
    let well : c.plays.result ≡ true = search rules in
    taken_on c.args.wire.now c.take-shared.new.pass c.take-shared.result c.plays.new.shared
    (taken_again c.args.wire.now c.args.pass c.take-shared.new.pass c.take-shared.result c.requires.all c.requires.last c.take-shared.ensures.turn c.take-shared.ensures.same
    c.take-shared.ensures.seen c.take-shared.ensures.grew c.take-shared.ensures.played) (c.plays.ensures well).grown

pub takes_at_once-requires-clause-node : goal.takes_at_once-requires-clause-node
takes_at_once-requires-clause-node g c =
    let well : c.plays.result ≡ true = search rules in
    (c.plays.ensures well).two.other
