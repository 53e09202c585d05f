-- The laws of incarnations that are alike.
use Rattle.std.specs.Prelude.{◌≡◌, [], ℕ, List, fold}
use Rattle.e3_types.specs.declared.entries.Input.{Input}
use Rattle.e3_types.specs.declared.records.Record.{Record}
use Rattle.e3_world.specs.declared.lives.Incarnation.{Incarnation}
use Rattle.e3_world.specs.Items.{add_txn}
use Rattle.e3_world.specs.Lives.{incarnation_by, life_of, present_log}
use Rattle.e3_world.specs.Moves.{Move}
use Rattle.e3_world.specs.Steps.{step_of}
use Rattle.e3_laws.specs.brief.Alike.{ReadAlike}
use Rattle.e3_world.specs.Brief.{brief}
use Rattle.e3_world.specs.Orderly.{IsOrderly}
use Rattle.e3_world.specs.Items.{undecided_in}
use Rattle.e3_laws.specs.brief.Incarnations.{AlikeNow, IsInOrder}

-- each input makes both do the same
abbrev pub StepsAreAlike : Type 0
StepsAreAlike = (weights : List ℕ) (site : ℕ) (a b : Incarnation) (i : Input) → IsInOrder site a → AlikeNow a b →
    step_of weights site a i ≡ step_of weights site b i

-- behind the same move they are alike again: a step, records that a later rise kept, or a rise
abbrev pub AlikeGoOn : Type 0
AlikeGoOn = (site : ℕ) (a b : Incarnation) (m : Move) → IsOrderly site (present_log (incarnation_by a m)) → AlikeNow a b →
    AlikeNow (incarnation_by a m) (incarnation_by b m)

-- their logs at present read alike
abbrev pub LogsAreAlike : Type 0
LogsAreAlike = (site : ℕ) (a b : Incarnation) → IsOrderly site (present_log a) → AlikeNow a b → ReadAlike (present_log a) (present_log b)

-- the one is in order where the other is, if it rose with an orderly log
abbrev pub OrdersAreAlike : Type 0
OrdersAreAlike = (site : ℕ) (a b : Incarnation) → IsInOrder site a → IsOrderly site b.rose → AlikeNow a b → IsInOrder site b

-- the other is alike to the one
abbrev pub AlikeTurned : Type 0
AlikeTurned = (a b : Incarnation) → AlikeNow a b → AlikeNow b a

-- they have the same open transactions
abbrev pub OpensAreAlike : Type 0
OpensAreAlike = (site : ℕ) (a b : Incarnation) → IsOrderly site (present_log a) → AlikeNow a b →
    fold add_txn [] (undecided_in site (life_of a)) ≡ fold add_txn [] (undecided_in site (life_of b))

-- sites that rise with orderly logs of the same brief are alike
abbrev pub RisesAreAlike : Type 0
RisesAreAlike = (site : ℕ) (a b : List Record) → IsOrderly site a → IsOrderly site b → brief a ≡ brief b →
    AlikeNow (record { rose = a; since = [] }) (record { rose = b; since = [] })
