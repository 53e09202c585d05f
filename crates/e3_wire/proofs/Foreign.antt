-- Marks of others.
use Rattle.std.proofs.Common.{◌≡◌, ◌==◌, ◌||◌, ℕ, zero, suc, Bool, true, false, List, [], ◌∷◌, ◌++◌, ◌∙◌, ap, subst, refl, fold}
use Rattle.std.proofs.lemmas.Grind.{fold-append, flat_map-append}
use Rattle.e3_types.specs.declared.entries.Act.{Act}
use Rattle.e3_types.specs.declared.entries.Act.TheVariants.{Step, Fall, Rise, RiseFall, Miss, Cut, Drop, Parts, Line}
use Rattle.e3_types.specs.declared.entries.Entry.{Entry}
use Rattle.e3_types.specs.declared.scenarios.Scenario.{Scenario}
use Rattle.e3_world.specs.Legal.{Guard, IsLegal, LegalAfter}
use Rattle.e3_world.specs.Packets.{is_line}
use Rattle.e3_laws.specs.local.Others.{AreOthers}
use Rattle.e3_laws.specs.local.Least.{AreOfSites}
use Rattle.e3_laws.proofs.local.Laws.{legal_behind}
use Rattle.e3_wire.specs.declared.marks.Mark.{Mark}
use Rattle.e3_wire.specs.declared.marks.Mark.TheVariants as mark
use Rattle.e3_wire.specs.Marks.{AreForeign, belongs, entries_of, note_by, note_of, nothing}
use Rattle.e3_wire.specs.declared.marks.Note.{Note}

neither : (a b : Bool) → (a || b) ≡ false → (a ≡ false) × (b ≡ false)
neither true b is = absurd cc
neither false b is = (refl, is)

-- an entry of a site is no line
no_line : (sc : Scenario) (before : List Entry) (o : ℕ) (act : Act) → (o == 0) ≡ false → Guard sc before (record { owner = o; act = act }) →
    is_line (record { owner = o; act = act }) ≡ false
no_line sc before zero act is guard = absurd cc
no_line sc before (suc s) (Step i records outs events) is guard = refl
no_line sc before (suc s) (Fall inputs records why) is guard = refl
no_line sc before (suc s) (Rise kept inc) is guard = refl
no_line sc before (suc s) (RiseFall kept inc why) is guard = refl
no_line sc before (suc s) Miss is guard = refl
no_line sc before (suc s) Cut is guard = refl
no_line sc before (suc s) (Drop packet) is guard = refl
no_line sc before (suc s) (Parts parts) is guard = refl
no_line sc before (suc s) (Line number) is guard = absurd guard

others : (sc : Scenario) (before : List Entry) (site : ℕ) (more : List Mark) → LegalAfter sc before (entries_of more) → AreForeign site more →
    AreOthers site (entries_of more)
others sc before site [] legal foreign = tt
others sc before site (mark.Start keys most ∷ more) legal foreign = others sc before site more legal foreign.1
others sc before site (mark.Place owner outs ∷ more) legal foreign = others sc before site more legal foreign.1
others sc before site (mark.Freed owner ∷ more) legal foreign = others sc before site more legal foreign.1
others sc before site (mark.Entered e ∷ more) legal foreign =
    let both = neither (e.owner == 0) (e.owner == site) foreign.0 in
    (both.1, no_line sc before e.owner e.act both.0 legal.0, others sc (before ++ e ∷ []) site more legal.1 foreign.1)

pub entries_append : (seen more : List Mark) → entries_of (seen ++ more) ≡ entries_of seen ++ entries_of more
entries_append seen more = flat_map-append _ seen more

pub foreign_are_others : (sc : Scenario) (site : ℕ) (seen more : List Mark) → IsLegal sc (entries_of (seen ++ more)) → AreForeign site more →
    AreOthers site (entries_of more)
foreign_are_others sc site seen more legal foreign =
    let P : List Entry → Type 0 = λ h. IsLegal sc h in
    others sc (entries_of seen) site more (legal_behind sc [] (entries_of seen) (entries_of more) (subst P (entries_append seen more) legal)) foreign

one_stays : (o : ℕ) (w : Note) (m : Mark) → belongs m o ≡ false → note_by o w m ≡ w
one_stays o w (mark.Start sc most) is = absurd cc
one_stays o w (mark.Entered e) is = rw ((neither (e.owner == 0) (e.owner == o) is).1) refl
one_stays o w (mark.Place owner outs) is = rw is refl
one_stays o w (mark.Freed owner) is = rw is refl

stay : (o : ℕ) (w : Note) (more : List Mark) → AreForeign o more → fold (note_by o) w more ≡ w
stay o w [] foreign = refl
stay o w (m ∷ more) foreign = ap (λ v. fold (note_by o) v more) (one_stays o w m foreign.0) ∙ stay o w more foreign.1

pub notes_stay : (o : ℕ) (seen more : List Mark) → AreForeign o more → note_of o (seen ++ more) ≡ note_of o seen
notes_stay o seen more foreign = fold-append (note_by o) nothing seen more ∙ stay o (note_of o seen) more foreign

-- and none is an entry of the driver
pub foreign_of_sites : (site : ℕ) (more : List Mark) → AreForeign site more → AreOfSites (entries_of more)
foreign_of_sites site [] foreign = tt
foreign_of_sites site (mark.Start keys most ∷ more) foreign = foreign_of_sites site more foreign.1
foreign_of_sites site (mark.Place owner outs ∷ more) foreign = foreign_of_sites site more foreign.1
foreign_of_sites site (mark.Freed owner ∷ more) foreign = foreign_of_sites site more foreign.1
foreign_of_sites site (mark.Entered e ∷ more) foreign = ((neither (e.owner == 0) (e.owner == site) foreign.0).0, foreign_of_sites site more foreign.1)
