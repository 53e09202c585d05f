-- Two sites elect at the same time; a recovery aborts.
use Rattle.std.specs.Prelude.{◌++◌, ◌∷◌, [], List, codes}
use Rattle.e3_types.specs.declared.transactions.Dir.TheVariants.{Abort}
use Rattle.e3_types.specs.declared.entries.Entry.{Entry}
use Rattle.e3_types.specs.declared.scenarios.Scenario.{Scenario}
use Rattle.e3_types.specs.declared.transactions.State.TheVariants.{Q}
use Rattle.e3_types.specs.declared.transactions.Txn.{Txn}
use Rattle.e3_types.specs.declared.entries.Input.TheVariants as input
use Rattle.e3_types.specs.declared.scenarios.Item.TheVariants as item
use Rattle.e3_types.specs.declared.messages.Message.TheVariants as msg
use Rattle.e3_types.specs.declared.records.Record.TheVariants as log
use Rattle.e3_types.specs.declared.entries.Told.TheVariants as told
use Rattle.e3_types.specs.declared.verdicts.Verdict.TheVariants as verdict
use Rattle.e3_worked.specs.Entries.{packet, call, line, takes, gets}
use Rattle.e3_worked.specs.Openings.{written_there}
use Rattle.e3_worked.specs.Elections.{Election, reported, elects_and_attempts, all_follow}
use Rattle.e3_worked.specs.Names.{bare, txn, s2_3, s1_2_3, key_2_y}

-- the scenario
abbrev pub two_electors : Scenario
two_electors = record (bare (1 ∷ 1 ∷ 1 ∷ [])) {
  steps =
      (item.Begin (codes "t") 1 s1_2_3 ∷ []) ∷
      (item.Write (codes "t") key_2_y (codes "b") ∷ []) ∷
      (item.Elect 1 (codes "t") s1_2_3 ∷ item.Elect 3 (codes "t") s1_2_3 ∷ []) ∷
      (item.Recover s1_2_3 ∷ []) ∷
      [];
}

-- its transaction
abbrev pub t1_1_1 : Txn
t1_1_1 = txn 1 1 s1_2_3

-- the election of the recovery: packets 16 to 29
abbrev pub recovery : Election
recovery = record {
  txn = t1_1_1;
  elector = 1;
  others = s2_3;
  call = call 1 2;
  first = 16;
  joined = 2 ∷ 2 ∷ [];
  number = 3;
  states = reported Q 0 ∷ reported Q 0 ∷ [];
}

-- its history, entry by entry up to the recovery
abbrev pub two_electors_history : List Entry
two_electors_history =
    let p3 = packet 3 1 2 (msg.Ask t1_1_1 (call 1 1)) in
    let p4 = packet 4 1 3 (msg.Ask t1_1_1 (call 1 1)) in
    let p5 = packet 5 3 1 (msg.Ask t1_1_1 (call 1 1)) in
    let p6 = packet 6 3 2 (msg.Ask t1_1_1 (call 1 1)) in
    let p7 = packet 7 2 1 (msg.LastElected t1_1_1 (call 1 1) 1) in
    let p8 = packet 8 3 1 (msg.LastElected t1_1_1 (call 1 1) 1) in
    let p9 = packet 9 1 3 (msg.LastElected t1_1_1 (call 1 1) 1) in
    let p10 = packet 10 2 3 (msg.LastElected t1_1_1 (call 1 1) 1) in
    let p11 = packet 11 1 2 (msg.Elected t1_1_1 2) in
    let p12 = packet 12 1 3 (msg.Elected t1_1_1 2) in
    let p13 = packet 13 3 1 (msg.Elected t1_1_1 2) in
    let p14 = packet 14 3 2 (msg.Elected t1_1_1 2) in
    let p15 = packet 15 2 1 (msg.Report t1_1_1 2 Q 0) in
    written_there t1_1_1 ++
    takes 1 (input.Elect t1_1_1 s1_2_3) [] (p3 ∷ p4 ∷ []) [] ∷
    takes 3 (input.Elect t1_1_1 s1_2_3) [] (p5 ∷ p6 ∷ []) [] ∷
    gets 2 p3 [] (p7 ∷ []) [] ∷
    gets 3 p4 [] (p8 ∷ []) [] ∷
    gets 1 p5 [] (p9 ∷ []) [] ∷
    gets 2 p6 [] (p10 ∷ []) [] ∷
    gets 1 p7 [] [] [] ∷
    gets 1 p8 (log.Join t1_1_1 2 ∷ []) (p11 ∷ p12 ∷ []) [] ∷
    gets 3 p9 [] [] [] ∷
    gets 3 p10 (log.Join t1_1_1 2 ∷ []) (p13 ∷ p14 ∷ []) [] ∷
    gets 2 p11 (log.Join t1_1_1 2 ∷ []) (p15 ∷ []) [] ∷
    gets 3 p12 [] [] [] ∷
    gets 1 p13 [] [] [] ∷
    gets 2 p14 [] [] [] ∷
    gets 1 p15 [] [] [] ∷
    line 4 ∷
    elects_and_attempts recovery Abort verdict.PreAbort ++
    all_follow recovery 1 Abort (told.Ended t1_1_1 Abort ∷ [])
