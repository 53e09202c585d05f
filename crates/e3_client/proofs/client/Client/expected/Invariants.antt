-- what is expected by the operations so far
use Rattle.std.proofs.Common.{◌≡◌, ◌≤◌, take}
use Rattle.e3_client.specs.Clients.{expected}
use Rattle.e3_client.proofs.client.Client.expected.Given as goal

abbrev pub invariant-loop-op : goal.invariant-loop-op
invariant-loop-op l = (l.so_far ≡ expected l.site (take l.op-index l.op-items)) × (l.so_far.count ≤ l.op-index)
