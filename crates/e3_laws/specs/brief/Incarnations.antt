-- Incarnations that are alike: one may have risen with the brief of the log that the other rose with.
use Rattle.std.specs.Prelude.{◌≡◌, ℕ}
use Rattle.std.specs.List.{AllByRecursion as Each}
use Rattle.e3_world.specs.declared.lives.Incarnation.{Incarnation}
use Rattle.e3_world.specs.Lives.{present_log}
use Rattle.e3_laws.specs.brief.Alike.{ReadAlike}
use Rattle.e3_world.specs.Brief.{txns_of}
use Rattle.e3_world.specs.Orderly.{IsOrderly}
use Rattle.e3_world.specs.Transactions.{IsFoundByBits}

-- the two rose with logs that read alike, and made the same steps since
pub record AlikeNow (a b : Incarnation) : Type 0 where
  pub rose : ReadAlike a.rose b.rose
  pub since : a.since ≡ b.since

-- the log of the incarnation at present is orderly, and the sites of each transaction that it has are a set
pub record IsInOrder (site : ℕ) (now : Incarnation) : Type 0 where
  pub orderly : IsOrderly site (present_log now)
  pub known : Each IsFoundByBits (txns_of (present_log now))
