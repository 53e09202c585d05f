use Rattle.e3_places.proofs.Putting.{stands_on}
use Rattle.e3_places.proofs.Risen.{risen_on}
use Rattle.e3_places.proofs.changing.apply.Goals as goal

pub returns : goal.returns
returns c = record {
  step = stands_on c.args.places.now _ c.args.changes c.put_names.ensures c.put_txns.ensures;
  risen = risen_on c.args.places.now _ c.args.changes c.put_names.ensures c.put_txns.ensures;
}
