use Rattle.std.specs.Prelude.{[], drop, refl}
use Rattle.std.proofs.Common.{lit<}
use Rattle.e3_types.specs.declared.transactions.Op.TheVariants.{Read}
use Rattle.e3_worked.specs.Names.{key_2_y}
use Rattle.e3_types.specs.Sites.{bits_of}
use Rattle.e3_worked.specs.OlderWaitsYoungerDies.{t1_1_1, older_waits_younger_dies, older_waits_younger_dies_history, until_it_waits}
use Rattle.e3_worked.proofs.Judging.{given}
use Rattle.e3_worked.proofs.laws.an_older_one_waits.Goals as goal

-- at site 2 its read, its second operation, is against the younger one that wrote the key
pub returns-clause-waits : goal.returns-clause-waits
returns-clause-waits c = (
  2,
  record {
    one = record { txn = t1_1_1; n = 2; op = Read key_2_y };
    ahead = [];
    behind = [];
    waits = refl;
    its = refl;
    other = (0, lit< tt, refl);
  },
)

pub returns-clause-given : goal.returns-clause-given
returns-clause-given c = given older_waits_younger_dies refl

pub returns-clause-legal : goal.returns-clause-legal
unfolding bits_of
returns-clause-legal c = c.prefix_is_legal.ensures older_waits_younger_dies until_it_waits (drop 13 older_waits_younger_dies_history) ((c.checks_are_exact.ensures.whole older_waits_younger_dies older_waits_younger_dies_history).0 refl).legal
