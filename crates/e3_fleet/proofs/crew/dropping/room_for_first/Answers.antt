use Rattle.std.proofs.Common.{sym, ◌∙◌}
use Rattle.std.proofs.lemmas.Bool.{leb-true}
use Rattle.e3_fleet.proofs.crew.Drops.{full_and_first}
use Rattle.e3_wire.specs.Marks.{most_of, used_of}
use Rattle.e3_fleet.proofs.crew.dropping.room_for_first.Goals as goal

pub returns-then-is_some : goal.returns-then-is_some
returns-then-is_some c = λ is.
    full_and_first c.args.shared.now c.first-first.result
    (leb-true (most_of c.args.shared.now) (used_of c.args.shared.now) (sym c.is_full-full.ensures ∙ c.if-full.true)) c.first-first.ensures (sym c.is_some.ensures ∙ c.if-is_some.true)
