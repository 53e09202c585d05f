use Rattle.std.proofs.Common.{sym, ◌∙◌, arith}
use Rattle.std.proofs.lemmas.Bool.{leb-true}
use Rattle.e3_wire.specs.Marks.{entries_of, most_of, scenario_of, used_of}
use Rattle.e3_wire.proofs.Shown.{shown_is}
use Rattle.e3_wire.proofs.shared.Shared.has_no_place_for.Goals as goal
use Rattle.e3_wire.proofs.shared.Shared.has_no_place_for.Goals.{then-most-gt0, else-most-gt0}

pub returns-then-is_full : goal.returns-then-is_full
returns-then-is_full c =
    let now = c.args.self.now in
    let shown = shown_is (scenario_of now) (entries_of now) c.args.site c.next_to.result c.next_to.ensures in
    elim c.if-most-gt0.branch [
      | then-most-gt0 w ↦ (
        λ yes. (
          omega (arith, w.if-most-gt0.true),
          shown.0 (sym c.is_some.ensures ∙ yes),
          leb-true (most_of now) (used_of now) (sym w.is_full.ensures ∙ sym w.value-is ∙ c.if-is_full.true),
        ),
        λ has. c.is_some.ensures ∙ shown.1 has.1,
      )
      | else-most-gt0 w ↦ absurd (let some = leb-true 1 c.args.most (sym w.value-is ∙ c.if-is_full.true) in omega (arith, some, w.if-most-gt0.false))
    ]
