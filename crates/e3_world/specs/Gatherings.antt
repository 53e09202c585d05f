-- What a site gathers for a transaction: the answers and reports of an election, and the acknowledgements of a round.
use Rattle.std.specs.Prelude.{ℕ, List, Option}
use Rattle.e3_types.specs.declared.transactions.Call.{Call}
use Rattle.e3_types.specs.declared.transactions.Dir.{Dir}
use Rattle.e3_types.specs.declared.verdicts.SiteReport.{SiteReport}
use Rattle.e3_world.specs.declared.elections.Named.{Named}

-- an election in progress at its elector: its call and its group, who was heard, in order of arrival, and from the elector's
-- join on its number and the reports, the elector's own first
pub record Election : Type 0 where
  pub call : Call
  pub group : List ℕ
  pub heard : List Named
  pub number : Option ℕ
  pub reports : List SiteReport

-- how many elections of any transaction a site began in its incarnation, and the one of a transaction in progress
pub record Elections : Type 0 where
  pub calls : ℕ
  pub now : Option Election

-- a round in progress: the number and the direction of its attempt, its receivers, and those of them whose acknowledgement
-- came, in order of arrival
pub record Round : Type 0 where
  pub n : ℕ
  pub dir : Dir
  pub to : List ℕ
  pub acked : List ℕ

-- the group of the last election of a transaction that began here, and the round in progress
pub record Rounds : Type 0 where
  pub group : List ℕ
  pub now : Option Round
