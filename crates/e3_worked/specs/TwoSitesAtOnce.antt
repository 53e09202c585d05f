-- Two coordinators begin, and write, in one step.
use Rattle.std.specs.Prelude.{◌++◌, ◌∷◌, [], ℕ, List, codes}
use Rattle.e3_types.specs.declared.transactions.Answer.TheVariants.{Written}
use Rattle.e3_types.specs.declared.entries.Entry.{Entry}
use Rattle.e3_types.specs.declared.transactions.Op.TheVariants.{Write}
use Rattle.e3_types.specs.declared.scenarios.Scenario.{Scenario}
use Rattle.e3_types.specs.declared.transactions.Txn.{Txn}
use Rattle.e3_types.specs.declared.entries.Input.TheVariants as input
use Rattle.e3_types.specs.declared.scenarios.Item.TheVariants as item
use Rattle.e3_types.specs.declared.messages.Message.TheVariants as msg
use Rattle.e3_types.specs.declared.entries.Told.TheVariants as told
use Rattle.e3_worked.specs.Entries.{packet, line, takes, gets, begins}
use Rattle.e3_worked.specs.Openings.{all_rise}
use Rattle.e3_worked.specs.Names.{bare, txn, s1_2, key_1_x, key_2_y}

-- the scenario
abbrev pub two_sites_at_once : Scenario
two_sites_at_once = record (bare (1 ∷ 1 ∷ [])) {
  steps =
      (item.Begin (codes "t") 1 s1_2 ∷ item.Begin (codes "u") 2 s1_2 ∷ []) ∷
      (item.Write (codes "t") key_2_y (codes "a") ∷ item.Write (codes "u") key_1_x (codes "b") ∷ []) ∷
      [];
}

-- its text
abbrev pub two_sites_at_once_text : List ℕ
two_sites_at_once_text =
    codes "# Two transactions in groups, so that steps of both sites stand beside each other.\n" ++
    codes "weights = [1, 1]\n" ++
    codes "steps = [\n" ++
    codes "  [\"begin t 1 1,2\", \"begin u 2 1,2\"],\n" ++
    codes "  [\"write t 2.y a\", \"write u 1.x b\"],\n" ++
    codes "]\n"

-- its transactions
abbrev pub t1_1_1 : Txn
t1_1_1 = txn 1 1 s1_2

abbrev pub t2_1_1 : Txn
t2_1_1 = txn 2 1 s1_2

-- its history, entry by entry
abbrev pub two_sites_at_once_history : List Entry
two_sites_at_once_history =
    let p1 = packet 1 1 2 (msg.Do t1_1_1 1 (Write key_2_y (codes "a"))) in
    let p2 = packet 2 2 1 (msg.Do t2_1_1 1 (Write key_1_x (codes "b"))) in
    let p3 = packet 3 2 1 (msg.Done t1_1_1 1 1 Written) in
    let p4 = packet 4 1 2 (msg.Done t2_1_1 1 1 Written) in
    all_rise s1_2 ++
    line 1 ∷
    begins t1_1_1 ∷
    begins t2_1_1 ∷
    line 2 ∷
    takes 1 (input.Do t1_1_1 (Write key_2_y (codes "a"))) [] (p1 ∷ []) [] ∷
    takes 2 (input.Do t2_1_1 (Write key_1_x (codes "b"))) [] (p2 ∷ []) [] ∷
    gets 2 p1 [] (p3 ∷ []) [] ∷
    gets 1 p2 [] (p4 ∷ []) [] ∷
    gets 1 p3 [] [] (told.Op t1_1_1 1 Written ∷ []) ∷
    gets 2 p4 [] [] (told.Op t2_1_1 1 Written ∷ []) ∷
    []

-- its report
abbrev pub two_sites_at_once_report : List ℕ
two_sites_at_once_report =
    codes "start\n" ++
    codes "1: rose 1\n" ++
    codes "2: rose 1\n" ++
    codes "step 1\n" ++
    codes "> begin t 1 1,2\n" ++
    codes "> begin u 2 1,2\n" ++
    codes "1: 1.1.1 began 1,2\n" ++
    codes "2: 2.1.1 began 1,2\n" ++
    codes "step 2\n" ++
    codes "> write t 2.y a\n" ++
    codes "> write u 1.x b\n" ++
    codes "1: 1.1.1 op 1 written\n" ++
    codes "2: 2.1.1 op 1 written\n" ++
    codes "order\n" ++
    codes "site 1 up 1\n" ++
    codes "log\n" ++
    codes "birth 1 1,1\n" ++
    codes "inc 1\n" ++
    codes "rows\n" ++
    codes "site 2 up 1\n" ++
    codes "log\n" ++
    codes "birth 1 1,1\n" ++
    codes "inc 1\n" ++
    codes "rows\n" ++
    codes "end\n"
