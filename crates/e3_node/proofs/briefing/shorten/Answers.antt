use Rattle.std.proofs.Common.{◌≡◌, ◌∙◌, sym}
use Rattle.e3_world.specs.Brief.{brief}
use Rattle.e3_laws.proofs.brief.Laws.{are_some}
use Rattle.e3_node.proofs.Briefs.{due_short}
use Rattle.e3_node.proofs.briefing.shorten.Goals as goal

pub returns-clause-short : goal.returns-clause-short
returns-clause-short g c = λ l is.
    c.short_of.ensures.short c.args.site.now.site l (c.as_slice.ensures ∙ c.in_ok-records.ensures.now is.now is.stands is.order ∙ is.same) is.some is.of_site

pub returns-clause-due : goal.returns-clause-due
returns-clause-due g c = λ l is sound some.
    let told : c.as_slice.result.now ≡ brief l = c.as_slice.ensures ∙ c.in_ok-records.ensures.now is.now is.stands is.order ∙ is.same in
    due_short g.D.Disk.meaning.meters c.args.log.now l c.as_slice.result.now c.args.len c.short_of.result c.short_of.ensures.none
    (λ none. are_some c.args.site.now.site l is.orderly (sym told ∙ none))
