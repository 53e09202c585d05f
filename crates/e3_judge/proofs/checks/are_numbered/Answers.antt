use Rattle.std.proofs.Common.{sym}
use Rattle.e3_judge.proofs.Stepping.{numbered_apart}
use Rattle.e3_judge.proofs.checks.are_numbered.Goals as goal

pub returns-then-packets-made : goal.returns-then-packets-made
returns-then-packets-made c = sym (numbered_apart c.args.packets.now c.args.made.now _ c.if-packets-made.true)
