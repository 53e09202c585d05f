use Rattle.std.proofs.Common.{drop, take}
use Rattle.e3_play.specs.GoingOn.{SitesGoOn}
use Rattle.e3_play.specs.Reports.{HadTurns}
use Rattle.e3_play.proofs.Falling.{UpOrFell, WereUp}
use Rattle.e3_play.proofs.Making.{InRounds}
use Rattle.e3_play.specs.Settled.{StaysInStep}
use Rattle.e3_play.proofs.recovering.recover.Given as goal

abbrev pub invariant-loop-round : goal.invariant-loop-round
invariant-loop-round g l = record {
  on : SitesGoOn g.S.Sites.stands g.S.Sites.since g.S.Sites.scenario g.S.Sites.most l.fn.sites l.sites;
  rounds : InRounds (g.S.Sites.scenario l.fn.sites) (g.S.Sites.entries l.fn.sites) l.fn.group (drop l.round-index l.round-items) (g.S.Sites.entries l.sites);
  were : WereUp (g.S.Sites.entries l.fn.sites) (drop l.round-index l.round-items);
  up : UpOrFell (g.S.Sites.entries l.fn.sites) (g.S.Sites.entries l.sites);
  grown : StaysInStep (g.S.Sites.entries l.fn.sites) (g.S.Sites.entries l.sites);
  had : HadTurns (g.S.Sites.scenario l.fn.sites) (g.S.Sites.entries l.fn.sites) (g.S.Sites.entries l.sites) (take l.round-index l.round-items) l.reports;
}
