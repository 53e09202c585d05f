use Rattle.std.proofs.Common.{◌≢◌, ◌∙◌, []}
use Rattle.e3_node.proofs.Briefs.{brief_read, read_some}
use Rattle.e3_node.proofs.briefing.brief_read.Goals as goal

pub returns-clause-brief : goal.returns-clause-brief
returns-clause-brief c = λ l is.
    let some : l ≢ [] = read_some c.args.site c.args.read.now l is c.requires.some in
    let told = brief_read c.args.site c.args.read.now l c.in_ok-before.before c.in_ok-before.ensures.risen is some in
    c.in_ok-brief.ensures.now told.now told.stands told.order ∙ told.same
