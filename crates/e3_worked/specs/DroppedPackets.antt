-- Packets to a site that is down are dropped, also in a recovery in which it fell.
use Rattle.std.specs.Prelude.{◌++◌, ◌∷◌, [], true, List, codes}
use Rattle.e3_types.specs.declared.transactions.Dir.TheVariants.{Abort}
use Rattle.e3_types.specs.declared.entries.Entry.{Entry}
use Rattle.e3_types.specs.declared.transactions.Op.TheVariants.{Write}
use Rattle.e3_types.specs.declared.scenarios.Scenario.{Scenario}
use Rattle.e3_types.specs.declared.transactions.State.TheVariants.{Q, W}
use Rattle.e3_types.specs.declared.transactions.Txn.{Txn}
use Rattle.e3_types.specs.declared.entries.Input.TheVariants as input
use Rattle.e3_types.specs.declared.scenarios.Item.TheVariants as item
use Rattle.e3_types.specs.declared.scenarios.Leave.TheVariants as leave
use Rattle.e3_types.specs.declared.messages.Message.TheVariants as msg
use Rattle.e3_types.specs.declared.records.Record.TheVariants as log
use Rattle.e3_types.specs.declared.entries.Told.TheVariants as told
use Rattle.e3_types.specs.declared.verdicts.Verdict.TheVariants as verdict
use Rattle.e3_worked.specs.Entries.{packet, call, operation, line, drops, rises, cut, falls, gets, asks_votes}
use Rattle.e3_worked.specs.Openings.{written_here}
use Rattle.e3_worked.specs.Elections.{Election, reported, elects_and_attempts}
use Rattle.e3_worked.specs.Names.{one_by_one, txn, s2_3, s1_2_3, key_1_x}

-- the scenario
abbrev pub dropped_packets : Scenario
dropped_packets = one_by_one (1 ∷ 1 ∷ 1 ∷ []) (
    item.Begin (codes "t") 1 s1_2_3 ∷
    item.Write (codes "t") key_1_x (codes "a") ∷
    item.Crash 3 ∷
    item.Commit (codes "t") ∷
    item.Restart 3 ∷
    item.Stop 2 5 leave.None ∷
    item.Recover s1_2_3 ∷
    [])

-- its transaction
abbrev pub t1_1_1 : Txn
t1_1_1 = txn 1 1 s1_2_3

-- the election of the recovery, to the elector's attempt: packets 4 to 13
abbrev pub recovery : Election
recovery = record {
  txn = t1_1_1;
  elector = 1;
  others = s2_3;
  call = call 1 1;
  first = 4;
  joined = 1 ∷ 1 ∷ [];
  number = 2;
  states = reported W 0 ∷ reported Q 0 ∷ [];
}

-- its history, entry by entry but for the election
abbrev pub dropped_packets_history : List Entry
dropped_packets_history =
    let p1 = packet 1 1 2 (msg.VoteReq t1_1_1 0 0) in
    let p2 = packet 2 1 3 (msg.VoteReq t1_1_1 0 0) in
    let p3 = packet 3 2 1 (msg.Vote t1_1_1 true) in
    let p12 = packet 12 1 2 (msg.Pre t1_1_1 2 Abort) in
    let p13 = packet 13 1 3 (msg.Pre t1_1_1 2 Abort) in
    let p14 = packet 14 3 1 (msg.Ack t1_1_1 2 Abort) in
    let p15 = packet 15 1 2 (msg.Decide t1_1_1 Abort) in
    let p16 = packet 16 1 3 (msg.Decide t1_1_1 Abort) in
    written_here t1_1_1 ++
    cut 3 ∷
    line 4 ∷
    asks_votes t1_1_1 (operation 1 (Write key_1_x (codes "a")) ∷ []) (p1 ∷ p2 ∷ []) ∷
    gets 2 p1 (log.Vote t1_1_1 [] ∷ []) (p3 ∷ []) [] ∷
    drops 2 ∷
    gets 1 p3 [] [] [] ∷
    line 5 ∷
    rises 3 2 ∷
    line 6 ∷
    line 7 ∷
    elects_and_attempts recovery Abort verdict.PreAbort ++
    falls 2 (input.Deliver p12) (log.Attempt t1_1_1 2 Abort ∷ []) ∷
    gets 3 p13 (log.Attempt t1_1_1 2 Abort ∷ []) (p14 ∷ []) [] ∷
    gets 1 p14 (log.Decision t1_1_1 Abort ∷ []) (p15 ∷ p16 ∷ []) (told.Ended t1_1_1 Abort ∷ []) ∷
    drops 15 ∷
    gets 3 p16 (log.Decision t1_1_1 Abort ∷ []) [] [] ∷
    []
