use Rattle.e3_places.specs.Standing.{decided_in}
use Rattle.e3_places.specs.Touching.{name_of}
use Rattle.e3_places.proofs.Looping.{picked_next}
use Rattle.e3_places.proofs.touching.add_all_ended.Goals as goal

pub loop-a-preserved : goal.loop-a-preserved
loop-a-preserved c =
    picked_next (λ a. decided_in c.args.records.now a.txn) name_of c.args.votes.now c.loop-a.a-index c.a-item.result c.args.out.now c.loop-a.out c.add_ended.new.out c.loop-a-test.true
    c.a-item.is c.loop-a.invariant c.in_ok-add_ended.ensures
