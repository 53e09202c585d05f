use Rattle.std.proofs.Common.{◌≡◌, take}
use Rattle.e3_world.specs.Items.{is_up_at}
use Rattle.e3_judge.proofs.items.stands_up.Given as goal

abbrev pub invariant-loop-e : goal.invariant-loop-e
invariant-loop-e l = l.up ≡ is_up_at (take l.e-index l.history) l.site
