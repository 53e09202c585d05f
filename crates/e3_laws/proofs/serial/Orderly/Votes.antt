-- Each vote of a log fits: its operations have ascending numbers up to 64, and free locks.
use Rattle.std.proofs.Common.{◌≡◌, inl, ◌++◌, ◌∷◌, [], ℕ, true, List, refl, sym, subst, ◌∙◌, append_assoc}
use Rattle.std.specs.List.{list_all}
use Rattle.e3_types.specs.declared.records.Record.{Record}
use Rattle.e3_types.specs.declared.records.Record.TheVariants as log
use Rattle.e3_types.specs.declared.scenarios.Scenario.{Scenario}
use Rattle.e3_types.specs.declared.transactions.NumOp.{NumOp}
use Rattle.e3_types.specs.declared.transactions.Txn.{Txn}
use Rattle.e3_world.specs.Orderly.{ops_ascend, is_free}
use Rattle.e3_laws.specs.serial.Ordered.{Follows, LogFollows}
use Rattle.e3_laws.proofs.serial.Lists.Entries.{In}
use Rattle.e3_laws.proofs.serial.Lists.Members.{in_back}
use Rattle.e3_laws.proofs.serial.Orderly.Few.{OpsAreFew, VotesAreFew}

-- what an orderly log asks of a vote's operations, over the records before it
pub record VoteFits (before : List Record) (t : Txn) (ops : List NumOp) : Type 0 where
  pub ascending : ops_ascend 0 ops ≡ true
  pub few : OpsAreFew ops
  pub free : list_all (is_free t before) ops ≡ true

abbrev pub Fits : List Record → Record → Type 0
Fits before (log.Vote t ops) = VoteFits before t ops
Fits before r = Unit {0}

-- each vote among these records fits
abbrev pub VotesFit : List Record → List Record → Type 0
VotesFit before [] = Unit {0}
VotesFit before (r ∷ rest) = Fits before r × VotesFit (before ++ r ∷ []) rest

record_fits : (sc : Scenario) (site : ℕ) (all before : List Record) (r : Record) → Follows sc site before r → VotesAreFew all → In r all → Fits before r
record_fits sc site all before (log.Vote t ops) follows few at = record { ascending = follows.ascending; few = few t ops at; free = follows.free }
record_fits sc site all before (log.Birth format number weights rows) follows few at = tt
record_fits sc site all before (log.Inc n) follows few at = tt
record_fits sc site all before (log.Join t n) follows few at = tt
record_fits sc site all before (log.Attempt t n dir) follows few at = tt
record_fits sc site all before (log.Decision t dir) follows few at = tt

pub votes_fit : (sc : Scenario) (site : ℕ) (all before rest : List Record) → all ≡ before ++ rest → LogFollows sc site all → VotesAreFew all → VotesFit before rest
votes_fit sc site all before [] e follows few = tt
votes_fit sc site all before (r ∷ rest) e follows few = (
  record_fits sc site all before r (follows before rest r e) few (subst (λ l. In r l) (sym e) (in_back before (r ∷ rest) r (inl refl))),
  votes_fit sc site all (before ++ r ∷ []) rest (e ∙ sym (append_assoc before (r ∷ []) rest)) follows few,
)
