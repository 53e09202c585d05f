use Rattle.std.proofs.Common.{◌≡◌, []}
use Rattle.e3_world.specs.Packets.{pending}
use Rattle.e3_world.proofs.Rises.{Rising}
use Rattle.e3_play.specs.GoingOn.{SitesGoOn}
use Rattle.e3_play.proofs.rising.rise_all.Given as goal

abbrev pub invariant-loop-done : goal.invariant-loop-done
invariant-loop-done g l = record {
  on : SitesGoOn g.S.Sites.stands g.S.Sites.since g.S.Sites.scenario g.S.Sites.most l.fn.sites l.sites;
  none : pending (g.S.Sites.scenario l.sites) (g.S.Sites.entries l.sites) ≡ [];
  rising : Rising (g.S.Sites.scenario l.sites) (g.S.Sites.entries l.sites) l.done;
}
