-- Two sites fall in the first round of a recovery; in the second round the packets to them are dropped.
use Rattle.std.specs.Prelude.{◌++◌, ◌∷◌, [], List, codes}
use Rattle.e3_types.specs.declared.entries.Entry.{Entry}
use Rattle.e3_types.specs.declared.scenarios.Scenario.{Scenario}
use Rattle.e3_types.specs.declared.transactions.Txn.{Txn}
use Rattle.e3_types.specs.declared.entries.Input.TheVariants as input
use Rattle.e3_types.specs.declared.scenarios.Item.TheVariants as item
use Rattle.e3_types.specs.declared.scenarios.Leave.TheVariants as leave
use Rattle.e3_types.specs.declared.messages.Message.TheVariants as msg
use Rattle.e3_types.specs.declared.records.Record.TheVariants as log
use Rattle.e3_worked.specs.Entries.{packet, call, line, drops, falls, takes, begins}
use Rattle.e3_worked.specs.Openings.{begun}
use Rattle.e3_worked.specs.Elections.{Election, elects}
use Rattle.e3_worked.specs.Names.{one_by_one, txn, s2_3, s1_2_3}

-- the scenario
abbrev pub fallen_group : Scenario
fallen_group = one_by_one (1 ∷ 1 ∷ 1 ∷ []) (
    item.Begin (codes "t") 1 s1_2_3 ∷
    item.Begin (codes "u") 1 s1_2_3 ∷
    item.Stop 2 1 leave.None ∷
    item.Stop 3 1 leave.None ∷
    item.Recover s1_2_3 ∷
    [])

-- its transactions
abbrev pub t1_1_1 : Txn
t1_1_1 = txn 1 1 s1_2_3

abbrev pub t1_1_2 : Txn
t1_1_2 = txn 1 2 s1_2_3

-- the election of the first round, in which nobody comes to report: packets 1 to 6
abbrev pub first_round : Election
first_round = record {
  txn = t1_1_1;
  elector = 1;
  others = s2_3;
  call = call 1 1;
  first = 1;
  joined = 1 ∷ 1 ∷ [];
  number = 2;
  states = [];
}

-- its history
abbrev pub fallen_group_history : List Entry
fallen_group_history =
    let p5 = packet 5 1 2 (msg.Elected t1_1_1 2) in
    let p6 = packet 6 1 3 (msg.Elected t1_1_1 2) in
    let p7 = packet 7 1 2 (msg.Ask t1_1_2 (call 1 2)) in
    let p8 = packet 8 1 3 (msg.Ask t1_1_2 (call 1 2)) in
    begun t1_1_1 ++
    begins t1_1_2 ∷
    line 3 ∷
    line 4 ∷
    line 5 ∷
    elects first_round ++
    falls 2 (input.Deliver p5) (log.Join t1_1_1 2 ∷ []) ∷
    falls 3 (input.Deliver p6) (log.Join t1_1_1 2 ∷ []) ∷
    takes 1 (input.Elect t1_1_2 s1_2_3) [] (p7 ∷ p8 ∷ []) [] ∷
    drops 7 ∷
    drops 8 ∷
    []
