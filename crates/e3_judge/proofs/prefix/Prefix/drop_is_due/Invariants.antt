use Rattle.std.proofs.Common.{◌≡◌, take, false}
use Rattle.std.specs.List.{list_any}
use Rattle.e3_judge.specs.Checks.{may_drop}
use Rattle.e3_judge.proofs.prefix.Prefix.drop_is_due.Given as goal

abbrev pub invariant-loop-packet : goal.invariant-loop-packet
invariant-loop-packet l = list_any (may_drop l.self.scenario.now l.self.entries.now l.number) (take l.packet-index l.packet-items) ≡ false
