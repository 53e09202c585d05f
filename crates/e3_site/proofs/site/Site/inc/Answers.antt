use Rattle.std.proofs.Common.{subst, sym, ◌∙◌}
use Rattle.e3_site.proofs.Standing.{inc_of_rise}
use Rattle.e3_site.specs.SiteView.{SiteView, Stands}
use Rattle.e3_site.proofs.site.Site.inc.Goals as goal

pub returns : goal.returns
returns c = λ now stands. (subst (λ (s : SiteView). Stands now s) (sym c.self.view_is) stands).cards_stand.inc_is ∙ inc_of_rise now
