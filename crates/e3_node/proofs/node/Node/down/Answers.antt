use Rattle.std.proofs.Common.{◌≤◌, ℕ, List, length, refl, subst, arith}
use Rattle.e3_node.proofs.Keeping.{blank_tells}
use Rattle.e3_node.proofs.node.Node.down.Goals as goal

pub returns-clause-stands : goal.returns-clause-stands
returns-clause-stands g c = λ sc weights rows. record {
  some = c.requires.some;
  exists = subst (λ (l : List ℕ). c.args.site ≤ length l) weights c.requires.exists;
  weights_are = weights;
  rows_are = rows;
  state = record {
    down = refl;
    stands = blank_tells g.D.Disk.meaning sc c.args.site c.args.disk
        (omega (arith, c.capacity-capacity.ensures.value, c.capacity-capacity.ensures.least)) c.requires.blank;
  };
}
