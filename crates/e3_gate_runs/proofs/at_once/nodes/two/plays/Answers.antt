use Rattle.std.proofs.Common.{rules, ◌≡◌, true}
use Rattle.e3_gate_runs.proofs.Going.{on_more, turned_on}
use Rattle.e3_gate_runs.proofs.at_once.nodes.two.plays.Goals as goal

pub loop-number-init : goal.loop-number-init
loop-number-init g c =
    let one : c.rises.result ≡ true = search rules in
    let both : c.rises-else-not-rises.result ≡ true = search rules in
    on_more g.D.Disk.meaning c.args.shared.now c.rises.new.shared c.rises-else-not-rises.new.shared c.rises.new.node c.args.other.now c.rises.new.node c.rises-else-not-rises.new.node
    c.requires.stands.played (c.rises.ensures one)
    (turned_on g.D.Disk.meaning c.rises.new.shared c.rises-else-not-rises.new.shared c.rises-else-not-rises.new.node c.rises.new.node (c.rises-else-not-rises.ensures both))

pub loop-number-preserved : goal.loop-number-preserved
loop-number-preserved g c =
    let well : c.begins.result ≡ true = search rules in
    on_more g.D.Disk.meaning c.args.shared.now c.loop-number.shared c.begins.new.shared c.loop-number.node c.rises-else-not-rises.new.node c.begins.new.node c.rises-else-not-rises.new.node
    c.requires.stands.played c.loop-number.invariant (c.begins.ensures well)
