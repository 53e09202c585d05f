use Rattle.std.specs.Prelude.{[], refl, codes}
use Rattle.e3_types.specs.Sites.{bits_of}
use Rattle.e3_worked.specs.CommitRound.{before_commit, behind_commit}
use Rattle.e3_worked.proofs.laws.a_commit_stands.Goals as goal

pub returns : goal.returns
unfolding bits_of
returns c = record {
  start = before_commit;
  more = behind_commit;
  after = [];
  is = refl;
  name = codes "t";
  one_item = refl;
  settled = refl;
  one_step = refl;
  ended = refl;
  not_refused = refl;
  up = refl;
  may_vote = refl;
  once = refl;
  none_falls = refl;
}
