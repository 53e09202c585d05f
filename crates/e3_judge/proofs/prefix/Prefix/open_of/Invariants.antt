use Rattle.std.proofs.Common.{◌≡◌, take}
use Rattle.std.specs.List.{flat_map}
use Rattle.e3_world.specs.Items.{open_at}
use Rattle.e3_judge.proofs.prefix.Prefix.open_of.Given as goal

abbrev pub invariant-loop-site : goal.invariant-loop-site
invariant-loop-site l = l.txns ≡ flat_map (open_at l.self.scenario.now l.self.entries.now) (take l.site-index l.sites)
