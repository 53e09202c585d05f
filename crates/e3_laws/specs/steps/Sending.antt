-- How much a step sends.
use Rattle.std.specs.Prelude.{◌≡◌, ◌≤◌, ◌+◌, ◌*◌, ℕ, suc, List, Some, length}
use Rattle.e3_types.specs.declared.entries.Input.{Input}
use Rattle.e3_types.specs.declared.entries.Input.TheVariants as input
use Rattle.e3_types.specs.declared.messages.Message.{Message}
use Rattle.e3_types.specs.declared.messages.Message.TheVariants as msg
use Rattle.e3_types.specs.declared.transactions.Txn.{Txn}
use Rattle.e3_world.specs.declared.lives.At.{At}
use Rattle.e3_world.specs.Elections.{election_in_progress}
use Rattle.e3_world.specs.Gatherings.{Election, Round}
use Rattle.e3_world.specs.Rounds.{round_in_progress}
use Rattle.e3_world.specs.Steps.{step_at}

-- the list has at most 64 sites, as a set has
abbrev pub HasFewSites : List ℕ → Type 0
HasFewSites sites = length sites ≤ 64

-- so has the group of the transaction's election that is in progress before the step
abbrev pub HasFewMembers : At → Txn → Type 0
HasFewMembers a t = (e : Election) → election_in_progress a.site a.life.inc t a.life.steps ≡ Some e → HasFewSites e.group

-- so has the list of receivers of its round that is in progress before the step
abbrev pub HasFewReceivers : At → Txn → Type 0
HasFewReceivers a t = (r : Round) → round_in_progress a.site t a.life.steps ≡ Some r → HasFewSites r.to

-- so have the lists to which the site may send for this message, or for what the message makes it have for itself
abbrev pub SendsToFew : At → Message → Type 0
SendsToFew a (msg.Do t n op) = HasFewSites t.sites
SendsToFew a (msg.Done t n inc answer) = HasFewSites t.sites
SendsToFew a (msg.Died t n older) = HasFewSites t.sites
SendsToFew a (msg.Ask t call) = HasFewMembers a t
SendsToFew a (msg.LastElected t call elected) = HasFewMembers a t
SendsToFew a (msg.Elected t n) = HasFewMembers a t
SendsToFew a (msg.Report t n st attempt) = HasFewMembers a t
SendsToFew a (msg.VoteReq t inc count) = HasFewSites t.sites
SendsToFew a (msg.Vote t agrees) = HasFewSites t.sites
SendsToFew a (msg.Pre t n dir) = HasFewReceivers a t
SendsToFew a (msg.Ack t n dir) = HasFewReceivers a t
SendsToFew a (msg.Decide t dir) = HasFewSites t.sites

-- so have the lists to which the site may send for this input
abbrev pub TakesFew : At → Input → Type 0
TakesFew a (input.Begin sites) = Unit {0}
TakesFew a (input.Do t op) = HasFewSites t.sites
TakesFew a (input.Commit t) = HasFewSites t.sites
TakesFew a (input.Cancel t) = HasFewSites t.sites
TakesFew a (input.Expire t) = HasFewSites t.sites
TakesFew a (input.Elect t group) = HasFewSites group
TakesFew a (input.Deliver packet) = SendsToFew a packet.msg

-- The packets of a step are hardly more than the steps of its incarnation. Each step brought one request at most, this one too,
-- and a step answers each that waits once at most. Beside these it sends nine messages at most to each of 64 sites: an Elect
-- sends three, and each of three messages that the site has for itself, one behind the other, two.
abbrev pub StepsSendFew : Type 0
StepsSendFew = (a : At) → TakesFew a a.input → length (step_at a).outs ≤ suc (length a.life.steps) + 9 * 64
