-- What the rules of a step read of a transaction, by its card and by the step so far.
use Rattle.std.specs.Prelude.{◌==◌, ◌&&◌, ◌++◌, if◌then◌else◌, ℕ, zero, suc, Bool, not, List, length, fold, Option, Some, None}
use Rattle.std.specs.List.{list_any, flat_map}
use Rattle.e3_types.specs.declared.entries.Input.{Input}
use Rattle.e3_types.specs.declared.transactions.Txn.{Txn}
use Rattle.e3_world.specs.declared.lives.Expected.{Expected}
use Rattle.e3_world.specs.declared.lives.Made.{Made}
use Rattle.e3_world.specs.declared.lives.Performed.{Performed}
use Rattle.e3_cards.specs.declared.card.Card.{Card}
use Rattle.e3_cards.specs.Arriving.{came_by, heard_in, taken_of, performed_in}
use Rattle.e3_cards.specs.Issued.{expect_by}

-- the number of the unanswered operation: the last of so many that were issued, where the transaction is undecided and
-- the answer is not among those told
abbrev pub unanswered_of : ℕ → List ℕ → Bool → Option ℕ
unanswered_of zero told undecided = None
unanswered_of (suc n) told undecided = if undecided && not (list_any (λ m. suc n == m) told) then Some (suc n) else None

-- what these answers make expected of a site
abbrev pub expected_of : ℕ → Card → Expected
expected_of site c = fold (expect_by site) (record { inc = 0; count = 0 }) c.counted

-- the operations that are done, by a card
abbrev pub done_of : Card → List Performed
done_of c = flat_map (performed_in c.heard) c.came

-- the operations that are done, by a card and the step so far
abbrev pub done_with : ℕ → Txn → Card → Input → Made → List Performed
done_with site t c i made =
    flat_map (performed_in (c.heard ++ heard_in t made.told made.outs)) (came_by c.seen c.came (taken_of site t (length c.issued) i made.told))
