use Rattle.e3_cards.proofs.Putting.{put_result}
use Rattle.e3_cards.proofs.changing.put_one.Goals as goal

pub returns : goal.returns
returns c =
    let p = put_result c.put_card.result c.args.map.now.entries c.put_card.new.map.entries c.args.change c.txn_key.result c.found_by_bits.ensures c.txn_key.ensures c.requires
    c.put_card.ensures.put c.put_card.ensures.absent in
    record { cards = p.0; keys = p.1 }
