-- Several claims and entries of a site, one behind the other.
use Rattle.std.specs.Prelude.{◌≡◌, ◌≤◌, ◌++◌, ◌∷◌, [], ℕ, List, length}
use Rattle.e3_laws.specs.local.Others.{numbered_on}
use Rattle.e3_turn.specs.Passes.{Owns}
use Rattle.e3_types.specs.declared.entries.Entry.{Entry}
use Rattle.e3_wire.specs.Claims.{APass}
use Rattle.e3_wire.specs.declared.marks.Mark.{Mark}
use Rattle.e3_wire.specs.declared.marks.Mark.TheVariants as mark
use Rattle.e3_wire.specs.Marks.{entries_of}
use Rattle.e3_wire.specs.Wires.{MayEnterBehind}
use Rattle.e3_world.specs.Packets.{outs_of}

-- a claim for each of these entries
abbrev pub claims_for : List Entry → List Mark
claims_for [] = []
claims_for (e ∷ es) = mark.Place e.owner (length (outs_of e.act)) ∷ claims_for es

-- the marks of these entries behind a history, their packets with the next numbers
abbrev pub marks_in : List Entry → List Entry → List Mark
marks_in history [] = []
marks_in history (e ∷ es) = mark.Entered (numbered_on history e) ∷ marks_in (history ++ numbered_on history e ∷ []) es

-- each of these may be entered behind the marks and those before it
abbrev pub MayEnterAll : List Mark → List Entry → Type 0
MayEnterAll marks [] = Unit {0}
MayEnterAll marks (e ∷ es) = MayEnterBehind marks e × MayEnterAll (marks ++ mark.Entered (numbered_on (entries_of marks) e) ∷ []) es

-- each of these is an entry of this site
abbrev pub AreOf : ℕ → List Entry → Type 0
AreOf site [] = Unit {0}
AreOf site (e ∷ es) = (e.owner ≡ site) × AreOf site es

-- these are entries of one site that the pass speaks for
pub record AreOwned (p : APass) (es : List Entry) : Type 0 where
  pub site : ℕ
  pub some : 1 ≤ site
  pub owns : Owns p site
  pub are : AreOf site es
