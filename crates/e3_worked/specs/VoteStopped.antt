-- A site's disk stops in the frame of its vote, and the site restarts.
use Rattle.std.specs.Prelude.{◌++◌, ◌∷◌, [], ℕ, List, codes}
use Rattle.e3_types.specs.declared.entries.Entry.{Entry}
use Rattle.e3_types.specs.declared.scenarios.Leave.{Leave}
use Rattle.e3_types.specs.declared.transactions.Op.TheVariants.{Write}
use Rattle.e3_types.specs.declared.scenarios.Scenario.{Scenario}
use Rattle.e3_types.specs.declared.transactions.Txn.{Txn}
use Rattle.e3_types.specs.declared.entries.Input.TheVariants as input
use Rattle.e3_types.specs.declared.scenarios.Item.TheVariants as item
use Rattle.e3_types.specs.declared.messages.Message.TheVariants as msg
use Rattle.e3_types.specs.declared.records.Record.TheVariants as log
use Rattle.e3_worked.specs.Entries.{packet, operation, line, rises, rises_kept, falls, asks_votes}
use Rattle.e3_worked.specs.Openings.{written_there}
use Rattle.e3_worked.specs.Names.{one_by_one, txn, s1_2, key_2_y}

-- the scenario: the disk stops in this call, and leaves this
abbrev pub vote_stopped : ℕ → Leave → Scenario
vote_stopped count stopped = one_by_one (1 ∷ 1 ∷ []) (
    item.Begin (codes "t") 1 s1_2 ∷
    item.Write (codes "t") key_2_y (codes "b") ∷
    item.Stop 2 count stopped ∷
    item.Commit (codes "t") ∷
    item.Restart 2 ∷
    [])

-- its transaction
abbrev pub t1_1_1 : Txn
t1_1_1 = txn 1 1 s1_2

-- its history up to the restart, entry by entry
abbrev pub before_the_restart : List Entry
before_the_restart =
    let p3 = packet 3 1 2 (msg.VoteReq t1_1_1 1 1) in
    written_there t1_1_1 ++
    line 4 ∷
    asks_votes t1_1_1 [] (p3 ∷ []) ∷
    falls 2 (input.Deliver p3) (log.Vote t1_1_1 (operation 1 (Write key_2_y (codes "b")) ∷ []) ∷ []) ∷
    line 5 ∷
    []

-- where the frame is not there at the restart
abbrev pub vote_lost_history : List Entry
vote_lost_history = before_the_restart ++ rises 2 2 ∷ []

-- where the frame is there at the restart
abbrev pub vote_kept_history : List Entry
vote_kept_history = before_the_restart ++ rises_kept 2 2 ∷ []
