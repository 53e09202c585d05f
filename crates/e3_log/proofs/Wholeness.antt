-- The laws of the calls, put together.
use Rattle.std.proofs.Common.{◌+◌, ◌∷◌, [], refl, ap, arith}
use Rattle.e3_log.specs.Fronts.{turned}
use Rattle.e3_log.specs.Laws.{AppendsAreWhole, TurnsAreWhole, ClearsAreSilent, added}
use Rattle.e3_disk.specs.Images.{overwritten}
use Rattle.e3_log.proofs.Choosing.{untold, handed_turned, bodies_push}
use Rattle.e3_log.proofs.Leaving.{appended, append_leaves, turned_to, turn_leaves, cleared, clear_leaves}
use Rattle.e3_log.proofs.Standing.{turned_length}

pub appends : AppendsAreWhole
appends capacity region generation raw spare content place body holds is fits tag need = record {
  leaves = append_leaves capacity region generation raw spare content holds place is body fits tag need;
  done = appended capacity region generation raw spare content holds place is body fits tag need (added content place body) refl;
  bodies = bodies_push raw body (untold body tag);
}

pub turns : TurnsAreWhole
turns capacity region generation raw content place body holds is few fits need =
    let sized = turned_length (generation + 1) body in
    record {
      leaves = turn_leaves capacity region generation raw content holds body few (omega (arith, sized, fits)) place is (omega (arith, sized, need));
      done = turned_to capacity region generation raw content holds body few (omega (arith, sized, fits)) place is (omega (arith, sized, need)) (added content place (turned (generation + 1) body)) refl;
      bodies = ap (λ b. b ∷ []) (handed_turned (generation + 1) body few);
    }

pub clears : ClearsAreSilent
clears capacity region generation raw spare content place holds opens is room = record {
  leaves = clear_leaves capacity region generation raw spare content holds opens place is room;
  done = cleared capacity region generation raw spare content holds opens place is room (overwritten content place (0 ∷ [])) refl;
}
