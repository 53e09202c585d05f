-- Tables of the records before another one.
use Rattle.std.specs.Prelude.{◌≡◌, [], ℕ, true, List}
use Rattle.std.specs.Option.{IsSome}
use Rattle.e3_types.specs.declared.records.Record.{Record}
use Rattle.e3_world.specs.Logs.{logged_inc}
use Rattle.e3_world.specs.Orderly.{weights_in, IsOrderly}
use Rattle.e3_site.specs.declared.past.logged.Logged.{Logged}
use Rattle.e3_site.specs.past.Standing.{LoggedStand, may_all_be_read}
use Rattle.e3_site.specs.declared.disorder.Walk.{Walk}
use Rattle.e3_site.specs.declared.disorder.Walk.TheVariants.{Log, Disorder}
use Rattle.e3_site.specs.Orderly.{IsFirstDisorder}

-- the tables are those of the records at a site that rises in some incarnation, each of which may be read behind those before
-- it; the incarnation of their last Inc and the weights by their birth are these
pub record AreRead (site rising : ℕ) (records : List Record) (read : Logged) (inc : ℕ) (weights : List ℕ) : Type 0 where
  pub stand : LoggedStand site read rising records
  pub in_turn : may_all_be_read [] records ≡ true
  pub inc_is : inc ≡ logged_inc records
  pub weights_are : weights ≡ weights_in records

-- a walk over a log has read it; there are tables of its names
pub record IsLogRead (site : ℕ) (records : List Record) (read : Logged) : Type 0 where
  pub orderly : IsOrderly site records
  pub stand : LoggedStand site read (logged_inc records) records
  pub known : IsSome read.places

-- a walk over records found their log and has read it, or the first place that is out of order
abbrev pub IsWalk : ℕ → List Record → Walk → Type 0
IsWalk site records (Log read) = IsLogRead site records read
IsWalk site records (Disorder at) = IsFirstDisorder site records at
