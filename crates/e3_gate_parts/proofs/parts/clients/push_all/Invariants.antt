use Rattle.std.proofs.Common.{◌≡◌}
use Rattle.e3_gate_parts.proofs.parts.clients.push_all.Given as goal

abbrev pub invariant-loop-piece : goal.invariant-loop-piece
invariant-loop-piece l = l.client.txn ≡ l.txn
