-- Three transactions over three sites, all committed, with every packet delivered twice.
use Rattle.std.specs.Prelude.{◌++◌, ◌∷◌, [], ◌+◌, ℕ, true, List, codes}
use Rattle.e3_types.specs.declared.transactions.Answer.{Answer}
use Rattle.e3_types.specs.declared.transactions.Dir.TheVariants.{Commit}
use Rattle.e3_types.specs.declared.entries.Entry.{Entry}
use Rattle.e3_types.specs.declared.transactions.NumOp.{NumOp}
use Rattle.e3_types.specs.declared.transactions.Op.{Op}
use Rattle.e3_types.specs.declared.messages.Packet.{Packet}
use Rattle.e3_types.specs.declared.scenarios.Scenario.{Scenario}
use Rattle.e3_types.specs.declared.transactions.Txn.{Txn}
use Rattle.e3_types.specs.declared.entries.Input.TheVariants as input
use Rattle.e3_types.specs.declared.messages.Message.TheVariants as msg
use Rattle.e3_types.specs.declared.records.Record.TheVariants as log
use Rattle.e3_types.specs.declared.entries.Told.TheVariants as told
use Rattle.e3_world.specs.Logs.{key_of}
use Rattle.e3_worked.specs.Entries.{packet, takes, gets}
use Rattle.e3_worked.specs.ThreeSites.{three_sites, three_transactions}

-- the scenario: that of three sites, with every packet twice
abbrev pub three_sites_every_packet_twice : Scenario
three_sites_every_packet_twice = record three_sites { repeat = 100 }

-- its text
abbrev pub three_sites_every_packet_twice_text : List ℕ
three_sites_every_packet_twice_text =
    codes "# As three_sites, with every packet coming twice: nothing else is told, and the logs are the same.\n" ++
    codes "weights = [1, 1, 1]\n" ++
    codes "rows = [\"1.ann 100\", \"2.bob 50\", \"3.cid 7\"]\n" ++
    codes "repeat = 100\n" ++
    codes "steps = [\n" ++
    codes "  \"begin a 1 1,2\",\n" ++
    codes "  \"read a 1.ann\",\n" ++
    codes "  \"read a 2.bob\",\n" ++
    codes "  \"write a 1.ann 90\",\n" ++
    codes "  \"write a 2.bob 60\",\n" ++
    codes "  \"commit a\",\n" ++
    codes "  \"begin b 3 2,3\",\n" ++
    codes "  \"write b 3.cid 17\",\n" ++
    codes "  \"read b 2.bob\",\n" ++
    codes "  \"commit b\",\n" ++
    codes "  \"begin c 2 1,2\",\n" ++
    codes "  \"read c 1.ann\",\n" ++
    codes "  \"commit c\",\n" ++
    codes "]\n"

-- a site gets a packet twice, and nothing comes of it
abbrev pub gets_twice : ℕ → Packet → List Entry
gets_twice site p = gets site p [] [] [] ∷ gets site p [] [] [] ∷ []

-- The coordinator has another site do an operation: the request comes twice, so that there are two answers, of which each comes
-- twice. The operation is done once, and answered to the client once.
abbrev pub remote_operation_twice : Txn → ℕ → Op → Answer → ℕ → List Entry
remote_operation_twice t n op answer first =
    let other = (key_of op).site in
    let asks = packet first t.site other (msg.Do t n op) in
    let done = packet (first + 1) other t.site (msg.Done t n 1 answer) in
    let again = packet (first + 2) other t.site (msg.Done t n 1 answer) in
    takes t.site (input.Do t op) [] (asks ∷ []) [] ∷
    gets other asks [] (done ∷ []) [] ∷
    gets other asks [] (again ∷ []) [] ∷
    gets t.site done [] [] (told.Op t n answer ∷ []) ∷
    gets t.site done [] [] [] ∷
    gets_twice t.site again

-- What comes of a request for the vote of the one other site: it votes and attempts once, and answers twice each time; the
-- coordinator attempts and decides once.
abbrev pub behind_request_twice : Txn → List NumOp → Packet → List Entry
behind_request_twice t ops request =
    let other = request.to in
    let vote = packet (request.number + 1) other t.site (msg.Vote t true) in
    let vote_again = packet (request.number + 2) other t.site (msg.Vote t true) in
    let pre = packet (request.number + 3) t.site other (msg.Pre t 1 Commit) in
    let ack = packet (request.number + 4) other t.site (msg.Ack t 1 Commit) in
    let ack_again = packet (request.number + 5) other t.site (msg.Ack t 1 Commit) in
    let decide = packet (request.number + 6) t.site other (msg.Decide t Commit) in
    gets other request (log.Vote t ops ∷ []) (vote ∷ []) [] ∷
    gets other request [] (vote_again ∷ []) [] ∷
    gets t.site vote (log.Attempt t 1 Commit ∷ []) (pre ∷ []) [] ∷
    gets t.site vote [] [] [] ∷
    gets_twice t.site vote_again ++
    gets other pre (log.Attempt t 1 Commit ∷ []) (ack ∷ []) [] ∷
    gets other pre [] (ack_again ∷ []) [] ∷
    gets t.site ack (log.Decision t Commit ∷ []) (decide ∷ []) (told.Ended t Commit ∷ []) ∷
    gets t.site ack [] [] [] ∷
    gets_twice t.site ack_again ++
    gets other decide (log.Decision t Commit ∷ []) [] [] ∷
    gets other decide [] [] [] ∷
    []

-- its history: that of three sites, but for the packets
abbrev pub three_sites_every_packet_twice_history : List Entry
three_sites_every_packet_twice_history = three_transactions remote_operation_twice behind_request_twice 3 7
