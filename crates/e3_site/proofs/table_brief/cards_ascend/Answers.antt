use Rattle.std.proofs.lemmas.List.Elements.{recursion_from_All}
use Rattle.e3_site.proofs.table_brief.cards_ascend.Goals as goal

pub returns-clause-found : goal.returns-clause-found
returns-clause-found c = recursion_from_All _ _ c.iter-entries.ensures.found
