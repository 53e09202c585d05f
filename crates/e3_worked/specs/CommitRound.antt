-- A commit over two sites in which nothing fails: one step of six entries, as many as the commit round has at most.
use Rattle.std.specs.Prelude.{◌++◌, ◌∷◌, [], ◌+◌, true, List, codes}
use Rattle.e3_types.specs.declared.transactions.Dir.TheVariants.{Commit}
use Rattle.e3_types.specs.declared.entries.Entry.{Entry}
use Rattle.e3_types.specs.declared.transactions.NumOp.{NumOp}
use Rattle.e3_types.specs.declared.transactions.Op.TheVariants.{Write}
use Rattle.e3_types.specs.declared.messages.Packet.{Packet}
use Rattle.e3_types.specs.declared.scenarios.Scenario.{Scenario}
use Rattle.e3_types.specs.declared.transactions.Txn.{Txn}
use Rattle.e3_types.specs.declared.scenarios.Item.TheVariants as item
use Rattle.e3_types.specs.declared.messages.Message.TheVariants as msg
use Rattle.e3_types.specs.declared.records.Record.TheVariants as log
use Rattle.e3_types.specs.declared.entries.Told.TheVariants as told
use Rattle.e3_worked.specs.Entries.{packet, operation, gets, asks_votes}
use Rattle.e3_worked.specs.Openings.{written_here}
use Rattle.e3_worked.specs.Names.{one_by_one, txn, s1_2, key_1_x}
use Rattle.e3_worked.specs.Worked.{Outcome, one_row}

-- the scenario
abbrev pub commit_round : Scenario
commit_round = one_by_one (1 ∷ 1 ∷ []) (
    item.Begin (codes "t") 1 s1_2 ∷
    item.Write (codes "t") key_1_x (codes "a") ∷
    item.Commit (codes "t") ∷
    [])

-- its transaction
abbrev pub t1_1_1 : Txn
t1_1_1 = txn 1 1 s1_2

-- What comes of a coordinator's request for the vote of its one other site, where nothing fails: the other site votes for the
-- operations that it did, both attempt to commit, and both commit.
abbrev pub behind_request : Txn → List NumOp → Packet → List Entry
behind_request t ops request =
    let other = request.to in
    let vote = packet (request.number + 1) other t.site (msg.Vote t true) in
    let pre = packet (request.number + 2) t.site other (msg.Pre t 1 Commit) in
    let ack = packet (request.number + 3) other t.site (msg.Ack t 1 Commit) in
    let decide = packet (request.number + 4) t.site other (msg.Decide t Commit) in
    gets other request (log.Vote t ops ∷ []) (vote ∷ []) [] ∷
    gets t.site vote (log.Attempt t 1 Commit ∷ []) (pre ∷ []) [] ∷
    gets other pre (log.Attempt t 1 Commit ∷ []) (ack ∷ []) [] ∷
    gets t.site ack (log.Decision t Commit ∷ []) (decide ∷ []) (told.Ended t Commit ∷ []) ∷
    gets other decide (log.Decision t Commit ∷ []) [] [] ∷
    []

-- the request for the vote of site 2, which did nothing for the transaction: the first packet
abbrev pub p1 : Packet
p1 = packet 1 1 2 (msg.VoteReq t1_1_1 0 0)

-- what is before the Commit
abbrev pub before_commit : List Entry
before_commit = written_here t1_1_1

-- the Commit: site 1 votes, and asks site 2
abbrev pub the_commit : Entry
the_commit = asks_votes t1_1_1 (operation 1 (Write key_1_x (codes "a")) ∷ []) (p1 ∷ [])

-- what is behind the Commit
abbrev pub behind_commit : List Entry
behind_commit = behind_request t1_1_1 [] p1

-- its history
abbrev pub commit_round_history : List Entry
commit_round_history = before_commit ++ the_commit ∷ behind_commit

-- what it comes to
abbrev pub commit_round_outcome : Outcome
commit_round_outcome = record {
  order = t1_1_1 ∷ [];
  tables = one_row (codes "x") (codes "a") ∷ [] ∷ [];
}
