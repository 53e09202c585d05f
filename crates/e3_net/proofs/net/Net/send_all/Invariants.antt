use Rattle.e3_net.proofs.Sending.{SentSome}
use Rattle.e3_net.proofs.net.Net.send_all.Given as goal

abbrev pub invariant-loop-i : goal.invariant-loop-i
invariant-loop-i l = SentSome l.fn.self l.fn.outs l.i l.self l.outs.items
