use Rattle.std.proofs.Common.{rules, ◌≡◌, ◌≤◌, true, false, length, arith}
use Rattle.e3_gate_runs.proofs.Showing.{may_at_once, may_put_now, some_of}
use Rattle.e3_gate_runs.proofs.at_once.nodes.once.takes_at_once.Goals as goal

pub put-requires-clause-grew : goal.put-requires-clause-grew
put-requires-clause-grew g c =
    may_put_now c.places_are_noted.ensures.promised c.args.wire.now c.args.pass.now c.args.shared c.next_few.new.self c.site.result c.args.most c.in-Ok.few
    c.requires.taken c.tell.ensures (let low = c.requires.node.exists in let is = c.site.ensures in omega (arith, low, is)) c.in-Ok.ensures.ok.0 c.in-Ok.ensures.ok.1

pub takes_all-requires-clause-may : goal.takes_all-requires-clause-may
takes_all-requires-clause-may g c =
    let on : c.is_delivering.result ≡ true = search rules in
    let none : c.is_empty.result ≡ false = search rules in
    let some : 1 ≤ length c.in-Some.inputs = some_of (length c.in-Some.inputs) c.is_empty.result c.is_empty.ensures none in
    may_at_once g.D.Disk.meaning c.places_are_noted.ensures.promised c.args.wire.now c.args.pass.now c.put.new.pass c.args.shared c.next_few.new.self
    c.args.node.now c.site.result c.args.most c.in-Ok.few c.in-Some.inputs (let most = c.if-most-gt-MOST.false in omega (arith, most)) c.requires.taken c.tell.ensures c.requires.node c.site.ensures
    (c.is_delivering.ensures.through on) (c.is_delivering.ensures.restless on) c.in-Ok.ensures.ok.0 c.in-Ok.ensures.ok.1 c.in-Some.ensures some
    c.put.ensures.same c.put.ensures.seen c.put.ensures.played
