-- The messages that a step has for its own site.
use Rattle.std.specs.Prelude.{◌==◌, nat_lt, Bool, true, false}
use Rattle.e3_types.specs.declared.messages.Message.{Message}
use Rattle.e3_types.specs.declared.messages.Message.TheVariants as msg
use Rattle.e3_types.specs.Ranks.{rank}
use Rattle.e3_world.specs.declared.lives.At.{At}

-- the message is an answer to an operation
abbrev pub is_answer : Message → Bool
is_answer (msg.Done t n inc answer) = true
is_answer _ = false

-- what a site may have for itself: an operation on a key of its own, or the reply to a message; an answer to an
-- operation is of the present incarnation
abbrev pub may_wait : At → Message → Bool
may_wait a (msg.Do t n op) = true
may_wait a (msg.Done t n inc answer) = inc == a.life.inc
may_wait a (msg.LastElected t call elected) = true
may_wait a (msg.Report t n st attempt) = true
may_wait a (msg.Vote t agrees) = true
may_wait a (msg.Ack t n dir) = true
may_wait a _ = false

-- the first message ranks below the second
abbrev pub ranks_below : Message → Message → Bool
ranks_below n m = nat_lt (rank n) (rank m)
