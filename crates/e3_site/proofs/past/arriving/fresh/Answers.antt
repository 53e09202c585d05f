use Rattle.std.proofs.Common.{sym, ◌∙◌}
use Rattle.e3_site.proofs.past.Taking.{fresh_some}
use Rattle.e3_site.proofs.past.arriving.fresh.Goals as goal

pub brought-requires : goal.brought-requires
brought-requires c = c.issued_before-count.ensures.few c.requires

pub returns-in-Some : goal.returns-in-Some
returns-in-Some c =
    fresh_some c.args.cards.now c.args.input.now c.args.events.now c.issued_before-count.result c.in-Some.q c.fresh_as.result c.issued_before-count.ensures.count (sym c.in-Some.is ∙ c.brought.ensures)
    c.fresh_as.ensures
