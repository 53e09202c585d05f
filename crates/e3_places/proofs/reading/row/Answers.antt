use Rattle.std.proofs.Common.{ap, ◌∙◌}
use Rattle.e3_places.specs.declared.places.Place.{Place}
use Rattle.e3_places.specs.Standing.{row_by}
use Rattle.e3_places.proofs.Finding.{ok_is, read_row}
use Rattle.e3_places.proofs.reading.row.Goals as goal

pub returns : goal.returns
returns g c =
    ok_is c.row_by.result _ _ (ap (λ (p : Place). row_by c.args.name.now p c.as_slice.result.now) c.place_or-place.ensures
    ∙ read_row g.a c.args.places.now c.args.name.now c.args.made.now c.as_slice.result.now c.requires.0 c.requires.1 c.as_slice.ensures) c.row_by.ensures
