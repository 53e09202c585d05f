use Rattle.std.proofs.lemmas.Result.{on_ok_weaker}
use Rattle.e3_cards.proofs.Logged.{put_at}
use Rattle.e3_cards.proofs.noting.put_card_of.Goals as goal

pub returns : goal.returns
returns c =
    on_ok_weaker c.put_card.result
    (λ put. put_at c.args.kept.now.entries c.put_card.new.map.entries c.args.t.now c.args.card c.txn_key.result c.found_by_bits.ensures c.txn_key.ensures put) c.put_card.ensures.put
