use Rattle.e3_laws.proofs.local.Measure.Left.{left}
use Rattle.e3_play.specs.GoingOn.{SitesGoOn}
use Rattle.e3_play.specs.Delivered.{Delivers}
use Rattle.e3_play.proofs.delivering.deliver_all.Given as goal

abbrev pub invariant-loop-packet : goal.invariant-loop-packet
invariant-loop-packet g l = record {
  on : SitesGoOn g.S.Sites.stands g.S.Sites.since g.S.Sites.scenario g.S.Sites.most l.fn.sites l.sites;
  delivered : Delivers (g.S.Sites.scenario l.fn.sites) (g.S.Sites.entries l.fn.sites) (g.S.Sites.entries l.sites);
}

-- how many entries the packets may still take, whatever the bound
abbrev pub decreases-loop-packet : goal.decreases-loop-packet
decreases-loop-packet g l = left (g.S.Sites.scenario l.fn.sites) (g.S.Sites.entries l.sites)
