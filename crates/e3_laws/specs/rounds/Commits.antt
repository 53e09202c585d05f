-- A step of one Commit in a history, and what comes of it.
use Rattle.std.specs.Prelude.{◌≡◌, ◌+◌, ◌-◌, ◌*◌, ◌≤◌, ◌==◌, ◌&&◌, ◌||◌, ◌++◌, ◌∷◌, [], ℕ, Bool, true, false, not, List, length, count_by, Some, None}
use Rattle.std.specs.List.{list_any, list_all}
use Rattle.e3_types.specs.declared.entries.Act.{Act}
use Rattle.e3_types.specs.declared.entries.Act.TheVariants.{Step, Fall, Drop}
use Rattle.e3_types.specs.declared.entries.Entry.{Entry}
use Rattle.e3_types.specs.declared.entries.Input.{Input}
use Rattle.e3_types.specs.declared.entries.Input.TheVariants as input
use Rattle.e3_types.specs.declared.messages.Packet.{Packet}
use Rattle.e3_types.specs.declared.scenarios.Item.TheVariants as item
use Rattle.e3_types.specs.declared.scenarios.Scenario.{Scenario}
use Rattle.e3_types.specs.declared.transactions.Dir.TheVariants.{Commit}
use Rattle.e3_types.specs.declared.transactions.State.TheVariants.{Q}
use Rattle.e3_types.specs.declared.transactions.Txn.{Txn}
use Rattle.e3_types.specs.Same.{same_state, same_txn}
use Rattle.e3_types.specs.Sets.{has_site}
use Rattle.e3_world.specs.declared.lives.At.{At}
use Rattle.e3_world.specs.declared.lives.Expected.{Expected}
use Rattle.e3_world.specs.Fate.{Fate, Once}
use Rattle.e3_world.specs.Given.{IsGiven}
use Rattle.e3_world.specs.Items.{is_up_at}
use Rattle.e3_world.specs.Legal.{IsLegal, entry_of}
use Rattle.e3_world.specs.Lives.{life_at}
use Rattle.e3_world.specs.Logs.{decision}
use Rattle.e3_world.specs.Making.{elected_now, nothing, state_now}
use Rattle.e3_world.specs.Moves.{log_of, moves_of}
use Rattle.e3_world.specs.Operations.{expected}
use Rattle.e3_world.specs.Packets.{fate_of, is_line, outs_of, pending, present_items, sent}
use Rattle.e3_world.specs.Sound.{txn_in}
use Rattle.e3_world.specs.Steps.{refuse}
use Rattle.e3_world.specs.VoteRules.{vote_rule}

-- the place where a site takes the Commit, or is asked for its vote, behind these entries
abbrev pub place_of : Scenario → List Entry → Txn → ℕ → At
place_of sc history t site = record { weights = sc.weights; site = site; life = life_at (moves_of sc history site); input = input.Commit t }

-- what the coordinator expects of a site: under which incarnation it answered operations, and how many
abbrev pub expected_of : Scenario → List Entry → Txn → ℕ → Expected
expected_of sc history t site = by (place_of sc history t t.site)
  where
    by : At → Expected
    by a = expected a.site a.life.inc t a.life.steps site

-- The site is fit to vote yes by what the coordinator expects of it: it has neither voted on the transaction, nor attempted
-- or decided it, nor joined an election of it; and it did as many operations as are expected, in its present incarnation,
-- and none waits.
abbrev pub may_vote : Scenario → List Entry → Txn → ℕ → Bool
may_vote sc history t site = by (place_of sc history t site) (expected_of sc history t site)
  where
    by : At → Expected → Bool
    by a e = same_state (state_now a t nothing) Q && elected_now a t nothing == 1 && vote_rule a t e.inc e.count nothing

-- the packet is of the transaction
abbrev pub is_packet_of : Txn → Packet → Bool
is_packet_of t p = same_txn t (txn_in p.msg)

-- one copy of it is to be delivered
abbrev pub is_once : Fate → Bool
is_once Once = true
is_once _ = false

-- each packet of the transaction that these entries send, behind those before them, is delivered once
abbrev pub all_once : Scenario → Txn → List Entry → List Entry → Bool
all_once sc t before [] = true
all_once sc t before (e ∷ rest) =
    list_all (λ p. not (is_packet_of t p) || is_once (fate_of sc before p)) (outs_of e.act) && all_once sc t (before ++ e ∷ []) rest

-- the entry is a fall of one of these sites
abbrev pub falls_at : List ℕ → Entry → Bool
falls_at sites e = by e.act
  where
    by : Act → Bool
    by (Fall inputs records why) = has_site sites e.owner
    by _ = false

-- the Commit behind these entries, which the coordinator takes
abbrev pub commit_entry : Scenario → List Entry → Txn → Entry
commit_entry sc start t = entry_of sc start t.site (input.Commit t)

-- A step of one item, a Commit that is not refused, stands in a history, and went on until nothing was pending. At its start
-- every site of the transaction is up, and fit to vote yes by what the coordinator expects. Each packet of the transaction in
-- it is delivered once, so that its sites are in one part; and none of them falls in it.
pub record CommitStands (sc : Scenario) (history : List Entry) (t : Txn) : Type 0 where
  pub start : List Entry
  pub more : List Entry
  pub after : List Entry
  pub is : history ≡ start ++ commit_entry sc start t ∷ more ++ after
  pub name : List ℕ
  pub one_item : present_items sc start ≡ item.Commit name ∷ []
  pub settled : pending sc start ≡ []
  pub one_step : list_any is_line more ≡ false
  pub ended : pending sc (start ++ commit_entry sc start t ∷ more) ≡ []
  pub not_refused : refuse (place_of sc start t t.site) t false nothing ≡ None
  pub up : list_all (is_up_at start) t.sites ≡ true
  pub may_vote : list_all (may_vote sc start t) t.sites ≡ true
  pub once : all_once sc t start (commit_entry sc start t ∷ more) ≡ true
  pub none_falls : list_any (falls_at t.sites) more ≡ false

-- the input is of the transaction: one of its client or of its sites' users, or a packet of it
abbrev pub is_input_of : Txn → Input → Bool
is_input_of t (input.Begin sites) = false
is_input_of t (input.Do u op) = same_txn t u
is_input_of t (input.Commit u) = same_txn t u
is_input_of t (input.Cancel u) = same_txn t u
is_input_of t (input.Expire u) = same_txn t u
is_input_of t (input.Elect u group) = same_txn t u
is_input_of t (input.Deliver p) = is_packet_of t p

-- the entry has the transaction as its subject, where these packets are sent: a step with an input or a packet of it, or a
-- drop of a packet of it
abbrev pub is_entry_of : Txn → List Packet → Entry → Bool
is_entry_of t packets e = by e.act
  where
    by : Act → Bool
    by (Step i records outs events) = is_input_of t i || list_any (is_packet_of t) outs
    by (Drop number) = list_any (λ p. p.number == number && is_packet_of t p) packets
    by _ = false

-- the site has committed the transaction, by its log
abbrev pub is_committed : Scenario → List Entry → Txn → ℕ → Type 0
is_committed sc history t site = decision t (log_of sc history site) ≡ Some Commit

-- What comes of the step, from behind `start`: the transaction is committed at all its sites when the step ends, and entries
-- with it as their subject are few: for k sites 1 + 5(k - 1) at most.
pub record CommitEnds (sc : Scenario) (start step : List Entry) (t : Txn) : Type 0 where
  pub committed : (site : ℕ) → has_site t.sites site ≡ true → is_committed sc (start ++ step) t site
  pub few : count_by (is_entry_of t (sent (start ++ step))) step ≤ 1 + 5 * (length t.sites - 1)

-- each such step of this history ends so
abbrev pub CommitRoundsEnd : Scenario → List Entry → Type 0
CommitRoundsEnd sc history = (t : Txn) (s : CommitStands sc history t) → CommitEnds sc s.start (commit_entry sc s.start t ∷ s.more) t

-- The law of the commit round: in a legal history, of a scenario that keeps the rules, each such step ends so.
abbrev pub CommitsEnd : Type 0
CommitsEnd = (sc : Scenario) (history : List Entry) (t : Txn) → IsGiven sc → IsLegal sc history → (s : CommitStands sc history t) →
    CommitEnds sc s.start (commit_entry sc s.start t ∷ s.more) t
