use Rattle.std.proofs.Common.{◌≡◌, ◌++◌, List, ap, ◌∙◌}
use Rattle.std.specs.List.{flat_map}
use Rattle.e3_types.specs.declared.records.Record.{Record}
use Rattle.e3_site.specs.TableBrief.{brief_by, card_notes, front_by}
use Rattle.e3_site.proofs.Telling.{told_is}
use Rattle.e3_site.proofs.table_brief.brief_of_tables.Goals as goal
use Rattle.e3_site.proofs.table_brief.brief_of_tables.Goals.{In_ok-add_cards}

told : (c : In_ok-add_cards) → c.add_cards.new.out ≡ brief_by c.args.weights.now c.args.site c.args.tables.now
told c =
    let tables = c.args.tables.now in
    c.in_ok-add_cards.ensures.notes
    ∙ ap (λ (l : List Record). l ++ flat_map (card_notes tables.names.places.txns.entries) tables.cards.map.entries) (c.in_ok-add_front.ensures ∙ ap (λ (l : List Record). l ++ front_by c.args.weights.now c.args.site tables) c.new-out.ensures)

pub returns-clause-told : goal.returns-clause-told
returns-clause-told c = told c

pub returns-clause-brief : goal.returns-clause-brief
returns-clause-brief c = λ life stand order.
    told c
    ∙ told_is c.args.weights.now c.args.site c.args.tables.now life (record {
      names_ascend = c.names_ascend.ensures.ordered;
      names_found = c.names_ascend.ensures.found;
      cards_ascend = c.cards_ascend.ensures.ordered;
      cards_found = c.cards_ascend.ensures.found;
      fits = c.in_ok-add_cards.ensures.fits;
    }) stand order
