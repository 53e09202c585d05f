use Rattle.std.proofs.lemmas.Result.{on_ok_weaker}
use Rattle.e3_types.specs.Same.{same_numbers}
use Rattle.e3_places.specs.Keeping.{at_name, bare}
use Rattle.e3_places.proofs.Putting.{put_result, names_turned}
use Rattle.e3_places.proofs.changing.put_name.Goals as goal

pub returns : goal.returns
returns c =
    let p = put_result at_name same_numbers bare c.insert.result c.args.names.now.entries c.insert.new.self.entries c.args.change.name c.args.change.place (names_turned c.args.change.name)
    c.requires (on_ok_weaker c.insert.result (λ u. u.0) c.insert.ensures.updates) c.insert.ensures.absent in
    record { values = p.0; keys = p.1 }
