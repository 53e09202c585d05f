-- the packets of the inputs so far left the network
use Rattle.std.proofs.Common.{◌≡◌, ◌≤◌, take}
use Rattle.e3_net.specs.Stands.{behind_inputs}
use Rattle.e3_wire.proofs.passing.leave_all.Given as goal

abbrev pub invariant-loop-input : goal.invariant-loop-input
invariant-loop-input l = record {
  traffic : l.net.traffic ≡ behind_inputs l.initial.net.traffic (take l.input-index l.inputs);
  sent : l.net.traffic.sent ≡ l.initial.net.traffic.sent;
  room : l.initial.net.room ≤ l.net.room;
}
