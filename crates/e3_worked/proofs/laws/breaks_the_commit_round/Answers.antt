use Rattle.std.specs.Prelude.{◌≡◌, [], refl, codes, Some}
use Rattle.e3_types.specs.Sites.{bits_of}
use Rattle.e3_types.specs.declared.transactions.Dir.TheVariants.{Abort, Commit}
use Rattle.e3_laws.specs.rounds.Commits.{CommitStands}
use Rattle.e3_worked.specs.CommitRound.{commit_round, before_commit, t1_1_1}
use Rattle.e3_worked.specs.WrongNo.{behind_the_commit, history_with_a_wrong_no}
use Rattle.e3_worked.proofs.laws.breaks_the_commit_round.Goals as goal

stood : CommitStands commit_round history_with_a_wrong_no t1_1_1
unfolding bits_of
stood = record {
  start = before_commit;
  more = behind_the_commit;
  after = [];
  is = refl;
  name = codes "t";
  one_item = refl;
  settled = refl;
  one_step = refl;
  ended = refl;
  not_refused = refl;
  up = refl;
  may_vote = refl;
  once = refl;
  none_falls = refl;
}

pub returns-clause-stands : goal.returns-clause-stands
returns-clause-stands c = stood

pub returns-clause-refused : goal.returns-clause-refused
unfolding bits_of stood
returns-clause-refused c = λ ends. (let told : Some Abort ≡ Some Commit = (ends t1_1_1 stood).committed 1 refl in cc)
