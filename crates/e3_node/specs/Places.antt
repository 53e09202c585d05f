-- Which marks give promised places back.
use Rattle.std.specs.Prelude.{◌≡◌, ◌≤◌, ◌++◌, ◌∷◌, [], ℕ, true, List, length}
use Rattle.e3_wire.specs.declared.marks.Mark.{Mark}
use Rattle.e3_wire.specs.declared.marks.Mark.TheVariants as mark
use Rattle.e3_wire.specs.Marks.{belongs}
use Rattle.e3_world.specs.Items.{inputs_of}

-- The mark gives no place back: a claim promises one more, and an entry of one input at most uses one at most.
abbrev pub GivesNoneBack : Mark → Type 0
GivesNoneBack (mark.Start sc most) = Unit {0}
GivesNoneBack (mark.Entered e) = length (inputs_of e.act) ≤ 1
GivesNoneBack (mark.Place owner outs) = Unit {0}
GivesNoneBack (mark.Freed owner) = ⊥

-- none of the owner's among these marks does
abbrev pub OwnGiveNoneBack : ℕ → List Mark → Type 0
OwnGiveNoneBack o [] = Unit {0}
OwnGiveNoneBack o (m ∷ marks) = (belongs m o ≡ true → GivesNoneBack m) × OwnGiveNoneBack o marks

-- behind the first marks the owner put none that does
abbrev pub HasGivenNoneBack : ℕ → List Mark → List Mark → Type 0
HasGivenNoneBack o before now = (since : List Mark) × (now ≡ before ++ since) × OwnGiveNoneBack o since
