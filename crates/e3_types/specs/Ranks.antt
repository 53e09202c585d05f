-- The rank of each kind of message, 11 to 0: what a message makes a site send is meant to have a lower one.
use Rattle.std.specs.Prelude.{ℕ}
use Rattle.e3_types.specs.declared.messages.Message.{Message}
use Rattle.e3_types.specs.declared.messages.Message.TheVariants as msg

-- an elector's call ranks highest, an operation's answer lowest
abbrev pub rank : Message → ℕ
rank (msg.Ask t call) = 11
rank (msg.LastElected t call elected) = 10
rank (msg.Elected t n) = 9
rank (msg.Report t n state attempt) = 8
rank (msg.Do t n op) = 7
rank (msg.VoteReq t inc count) = 6
rank (msg.Vote t vote) = 5
rank (msg.Pre t n dir) = 4
rank (msg.Ack t n dir) = 3
rank (msg.Died t n older) = 2
rank (msg.Decide t dir) = 1
rank (msg.Done t n inc answer) = 0
