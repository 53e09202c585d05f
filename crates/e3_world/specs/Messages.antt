-- What a site does with each message.
use Rattle.e3_world.specs.declared.lives.Made.{Made}
use Rattle.e3_world.specs.declared.lives.At.{At}
use Rattle.std.specs.Prelude.{if◌then◌else◌, ℕ, true, false}
use Rattle.e3_types.specs.declared.messages.Message.{Message}
use Rattle.e3_types.specs.declared.messages.Message.TheVariants as msg
use Rattle.e3_world.specs.Making.{elected_now, may_abort, may_decide, and_send, and_decide, and_abort}
use Rattle.e3_world.specs.OperationRules.{on_do, on_done, on_died}
use Rattle.e3_world.specs.VoteRules.{on_vote_req, on_yes}
use Rattle.e3_world.specs.ElectionRules.{on_last, on_elected, on_report}
use Rattle.e3_world.specs.AttemptRules.{on_pre, on_ack}

-- each message, from site f
abbrev pub on_message : At → ℕ → Message → Made → Made
on_message a f (msg.Do t n op) made = on_do a f t n op made
on_message a f (msg.Done t n inc answer) made = on_done a f t n inc answer made
on_message a f (msg.Died t n older) made = on_died a t older made
on_message a f (msg.Ask t call) made = and_send a f (msg.LastElected t call (elected_now a t made)) made
on_message a f (msg.LastElected t call elected) made = on_last a f t call elected made
on_message a f (msg.Elected t n) made = on_elected a f t n made
on_message a f (msg.Report t n st attempt) made =
    on_report a t n (record { site = f; state = st; attempt = attempt }) made
on_message a f (msg.VoteReq t inc count) made = on_vote_req a f t inc count made
on_message a f (msg.Vote t true) made = on_yes a t made
on_message a f (msg.Vote t false) made = if may_abort a t made then and_abort a t made else made
on_message a f (msg.Pre t n dir) made = on_pre a f t n dir made
on_message a f (msg.Ack t n dir) made = on_ack a f t n dir made
on_message a f (msg.Decide t dir) made = if may_decide a t dir made then and_decide a t dir made else made
