use Rattle.std.specs.Prelude.{Option, unwrap_or}
use Rattle.std.specs.Map.{lookup}
use Rattle.std.specs.BTreeMap.{is_at}
use Rattle.std.proofs.Common.{ap, ◌∙◌}
use Rattle.e3_cards.specs.declared.card.Card.{Card}
use Rattle.e3_cards.specs.declared.keys.TxnKey.{TxnKey}
use Rattle.e3_cards.specs.Cards.{blank}
use Rattle.e3_cards.specs.Tables.{key_cmp}
use Rattle.e3_site.proofs.past.Taking.{new_is}
use Rattle.e3_site.proofs.past.arriving.is_new.Goals as goal

pub returns : goal.returns
returns c =
    new_is c.args.cards.now c.args.q.now _ c.is_new_on.result c.found_by_bits.ensures
    (ap (λ (o : Option Card). unwrap_or o blank) c.get.ensures.value
    ∙ ap (λ (k : TxnKey). unwrap_or (lookup (is_at (key_cmp k)) c.args.cards.now.map.entries) blank) c.txn_key.ensures)
    c.is_new_on.ensures
