-- What is always true of what the sites of a run share, between calls of one thread.
use Rattle.std.specs.Prelude.{◌≡◌, ◌≤◌, ◌++◌, ◌∷◌, [], ℕ, List, length}
use Rattle.e3_laws.specs.local.Others.{numbered_on}
use Rattle.e3_types.specs.declared.entries.Entry.{Entry}
use Rattle.e3_wire.specs.Claims.{HaveGrown}
use Rattle.e3_wire.specs.declared.marks.Mark.{Mark}
use Rattle.e3_wire.specs.declared.marks.Mark.TheVariants as mark
use Rattle.e3_wire.specs.Marks.{NothingIsPromised, entries_of, last_owner, most_of, scenario_of}
use Rattle.e3_wire.specs.Wires.{IsPlayed}

-- The history of these marks is legal and no longer than it may be, and neither a place nor room is promised. So it is full exactly where
-- it has as many entries as it may have.
pub record SharedStands (marks : List Mark) : Type 0 where
  pub played : IsPlayed marks
  pub within : length (entries_of marks) ≤ most_of marks
  pub none : NothingIsPromised marks

-- a site of the scenario may go on with what stands so
pub record MayGoOn (site : ℕ) (marks : List Mark) : Type 0 where
  pub stands : SharedStands marks
  pub some : 1 ≤ site
  pub exists : site ≤ last_owner marks

-- what stood so promised an owner a place since, and room for so many packets
pub record IsClaimed (owner outs : ℕ) (before now : List Mark) : Type 0 where
  pub stands : SharedStands before
  pub exists : owner ≤ last_owner before
  pub is : now ≡ before ++ mark.Place owner outs ∷ []

-- What stood so goes on: it stands so again, it grew by marks of owners alone, and the scenario and the bound are as before.
pub record SharedGoesOn (before now : List Mark) : Type 0 where
  pub stands : SharedStands now
  pub grew : HaveGrown before now
  pub scenario : scenario_of now ≡ scenario_of before
  pub most : most_of now ≡ most_of before

-- It has one entry more then, whose packets have the next numbers.
pub record HasEntered (e : Entry) (before now : List Mark) : Type 0 where
  pub on : SharedGoesOn before now
  pub entries : entries_of now ≡ entries_of before ++ numbered_on (entries_of before) e ∷ []
