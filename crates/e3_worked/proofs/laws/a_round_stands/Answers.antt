use Rattle.std.specs.Prelude.{[], refl}
use Rattle.e3_types.specs.Sites.{bits_of}
use Rattle.e3_worked.specs.EveryPacketLost.{before_round, behind_round}
use Rattle.e3_worked.proofs.laws.a_round_stands.Goals as goal

pub returns : goal.returns
unfolding bits_of
returns c = (
  record {
    start = before_round;
    more = behind_round;
    after = [];
    is = refl;
    due = refl;
    settled = refl;
    one_step = refl;
    one_round = refl;
    ended = refl;
  },
  refl,
)
