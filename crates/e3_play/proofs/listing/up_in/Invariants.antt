use Rattle.std.proofs.Common.{◌≡◌, filter}
use Rattle.e3_world.specs.Items.{is_up_at}
use Rattle.e3_play.proofs.listing.up_in.Given as goal

abbrev pub invariant-loop-site : goal.invariant-loop-site
invariant-loop-site g l = l.up ≡ filter (is_up_at (g.S.Sites.entries l.sites)) l.yielded
