use Rattle.std.proofs.Common.{List, ◌∷◌, [], ap, sym, ◌∙◌}
use Rattle.e3_fleet.proofs.Holding.{owns_from}
use Rattle.e3_fleet.proofs.flying.open_wire.Goals as goal
use Rattle.e3_types.specs.declared.scenarios.Scenario.{Scenario}
use Rattle.e3_wire.specs.Marks.{last_owner}
use Rattle.e3_wire.specs.declared.marks.Mark.{Mark}
use Rattle.e3_wire.specs.declared.marks.Mark.TheVariants as mark

pub taken_first-requires-clause-all : goal.taken_first-requires-clause-all
taken_first-requires-clause-all g c = owns_from c.in_ok-opened.opened.1 _ c.in_ok-opened.ensures.owners.0 c.in_ok-opened.ensures.owners.1

pub taken_first-requires-clause-last : goal.taken_first-requires-clause-last
taken_first-requires-clause-last g c = c.in_ok-opened.ensures.owners.1 ∙ ap (λ (l : List Mark). last_owner l) (sym c.in_ok-opened.ensures.seen)

pub returns-clause-shared : goal.returns-clause-shared
returns-clause-shared g c =
    c.taken_first.ensures.same ∙ c.in_ok-opened.ensures.seen ∙ ap (λ (sc : Scenario). mark.Start sc c.args.most ∷ []) c.in_ok-copied.ensures
