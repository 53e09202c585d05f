use Rattle.std.proofs.Common.{◌≡◌, ◌+◌, suc, drop}
use Rattle.e3_world.specs.Legal.{numbered}
use Rattle.e3_judge.specs.Equal.{same_list, same_packet}
use Rattle.e3_judge.proofs.checks.are_numbered.Given as goal

abbrev pub invariant-loop-i : goal.invariant-loop-i
invariant-loop-i l =
    same_list same_packet l.packets (numbered (suc l.sent) l.made)
    ≡ same_list same_packet (drop l.i l.packets) (numbered (suc (l.sent + l.i)) (drop l.i l.made))
