-- The cards of a log, record by record, at a site that made no step.
use Rattle.std.specs.Prelude.{[], ℕ, List}
use Rattle.e3_types.specs.declared.records.Record.{Record}
use Rattle.e3_types.specs.declared.transactions.Txn.{Txn}
use Rattle.e3_world.specs.declared.lives.Life.{Life}
use Rattle.e3_cards.specs.declared.card.Card.{Card}
use Rattle.e3_cards.specs.Seeing.{seen_by}

-- the life of a site of this incarnation and with this log that made no step yet
abbrev pub unstepped : ℕ → List Record → Life
unstepped inc log = record { log = log; inc = inc; steps = [] }

-- a card where the log has one record more
abbrev pub noted : Txn → Record → Card → Card
noted t r was = record was { seen = seen_by t was.seen r }
