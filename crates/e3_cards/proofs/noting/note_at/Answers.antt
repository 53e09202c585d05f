use Rattle.std.specs.Prelude.{Option, unwrap_or}
use Rattle.std.specs.Map.{lookup}
use Rattle.std.specs.BTreeMap.{is_at}
use Rattle.std.proofs.Common.{rules, if◌then◌else◌, ap, ◌∙◌}
use Rattle.e3_types.specs.Same.{same_txn}
use Rattle.e3_cards.specs.declared.card.Card.{Card}
use Rattle.e3_cards.specs.declared.keys.TxnKey.{TxnKey}
use Rattle.e3_cards.specs.declared.seen.Seen.{Seen}
use Rattle.e3_cards.specs.Cards.{blank}
use Rattle.e3_cards.specs.Noting.{noted}
use Rattle.e3_cards.specs.Tables.{card_at, key_cmp}
use Rattle.e3_cards.proofs.Logged.{put_at}
use Rattle.e3_cards.proofs.noting.note_at.Goals as goal

pub returns-in-Some-clause-noted : goal.returns-in-Some-clause-noted
returns-in-Some-clause-noted c = λ _ u known.
    let m = c.args.kept.now.entries in
    let t = c.args.t.now in
    let was = c.in-Some.card.now in
    let w : Card = record was { seen = c.seen_by-card.result } in
    let is = ap (λ (o : Option Card). unwrap_or o blank) c.in-Some.ensures.value ∙ ap (λ (k : TxnKey). unwrap_or (lookup (is_at (key_cmp k)) m) blank) c.txn_key.ensures in
    put_at m (c.get_mut.follows.lender w).entries t w c.txn_key.result c.found_by_bits.ensures c.txn_key.ensures ((c.get_mut.follows.holds w).3 (search rules)).0 u known
    ∙ ap (λ (k : Card). if same_txn t u then k else card_at m u) (ap (λ (s : Seen). record was { seen = s }) c.seen_by-card.ensures ∙ ap (noted t c.args.r.now) is)
