-- The measure of a history: it falls with each packet that is taken.
use Rattle.std.specs.Prelude.{◌+◌, ◌==◌, ◌&&◌, ◌||◌, ◌∷◌, [], ℕ, zero, suc, Bool, true, false, List, if◌then◌else◌, nat_lt}
use Rattle.std.specs.List.{flat_map, list_any}
use Rattle.e3_types.specs.declared.entries.Act.{Act}
use Rattle.e3_types.specs.declared.entries.Act.TheVariants.{Step, Fall, Drop}
use Rattle.e3_types.specs.declared.entries.Entry.{Entry}
use Rattle.e3_types.specs.declared.scenarios.Scenario.{Scenario}
use Rattle.e3_types.specs.declared.transactions.Txn.{Txn}
use Rattle.e3_types.specs.Ranks.{rank}
use Rattle.e3_world.specs.Items.{is_delivery}
use Rattle.e3_world.specs.Logs.{is_undecided}
use Rattle.e3_world.specs.Moves.{log_of}
use Rattle.e3_laws.specs.steps.Mentions.{begun_in}
use Rattle.e3_net.specs.declared.waiting.Waiting.{Waiting}
use Rattle.e3_net.specs.Stands.{waiting_of}

-- the transactions that a history tells as begun
abbrev pub begun : List Entry → List Txn
begun history = flat_map (λ e. begun_in e.act) history

-- the sum of a function over a list
abbrev pub total : {X : Type 0} → (X → ℕ) → List X → ℕ
total f [] = 0
total f (x ∷ xs) = f x + total f xs

-- 1 where the transaction is undecided in the site's log, else 0
abbrev pub is_open : Scenario → List Entry → Txn → ℕ → ℕ
is_open sc history t s = if is_undecided t (log_of sc history s) then 1 else 0

-- how many pairs there are of a transaction that was begun and a site of it where it is undecided
abbrev pub open_pairs : Scenario → List Entry → ℕ
open_pairs sc history = total (λ t. total (is_open sc history t) t.sites) (begun history)

-- the copies of a packet that are left, where it has this rank
abbrev pub copies_if : ℕ → Waiting → ℕ
copies_if r w = if rank w.packet.msg == r then w.copies else 0

-- how many copies are left of packets of this rank
abbrev pub copies_at : List Waiting → ℕ → ℕ
copies_at waiting r = total (copies_if r) waiting

-- the values of a function from this number down to 0
abbrev pub down_from : ℕ → (ℕ → ℕ) → List ℕ
down_from zero f = f 0 ∷ []
down_from (suc n) f = f (suc n) ∷ down_from n f

-- The measure: the undecided pairs, and then the copies that are pending, from those of the highest rank to those of the
-- lowest.
abbrev pub measure : Scenario → List Entry → List ℕ
measure sc history = open_pairs sc history ∷ down_from 11 (copies_at (waiting_of sc history))

-- The first list is below the second where it has the lesser number at the first place at which they differ.
abbrev pub is_below : List ℕ → List ℕ → Bool
is_below (x ∷ xs) (y ∷ ys) = nat_lt x y || ((x == y) && is_below xs ys)
is_below _ _ = false

-- the act takes a packet: a delivery, a fall with a delivery among its inputs, a drop
abbrev pub takes_packet : Act → Bool
takes_packet (Step i records outs events) = is_delivery i
takes_packet (Fall inputs records why) = list_any is_delivery inputs
takes_packet (Drop number) = true
takes_packet _ = false
