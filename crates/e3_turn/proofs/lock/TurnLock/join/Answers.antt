use Rattle.std.proofs.Common.{rules, ◌∙◌, sym, arith}
use Rattle.std.proofs.lemmas.Grind.{common_steps}
use Rattle.e3_turn.proofs.Owners.{joins, learns, owned_joined, agree_joined}
use Rattle.e3_turn.proofs.lock.TurnLock.join.Goals as goal

pub join_seat-requires : goal.join_seat-requires
join_seat-requires g c =
    let mine = c.requires.idle.rests in
    let theirs = c.requires.other.rests in
    (c.requires.idle.of_lock ∙ sym c.self.view_is, c.requires.other.of_lock ∙ sym c.self.view_is, theirs.carried, search rules, joins _ _ _ _ _ _ _ mine.ticket mine.turn theirs.ticket theirs.turn mine.owned theirs.owned)

pub load-requires : goal.load-requires
load-requires g c = (c.join_seat.ensures.0 ∙ c.requires.idle.of_lock ∙ sym c.self.view_is, search rules, learns _ _ _ _ _ _ (owned_joined g.V.Chronicle.marks g.V.Chronicle.belongs 0 c.args.pass.now.me.0 c.args.other.me.0 _ _ c.join_seat.ensures.2 c.requires.idle.rests.owned))

pub returns : goal.returns
returns g c = record {
  idle = first_of (search rules, grind (arith, common_steps));
  owners = first_of (search rules, grind (arith, common_steps));
  last = first_of (search rules, grind (arith, common_steps));
  seen = first_of (search rules, grind (arith, common_steps));
  agree = agree_joined g.V.Chronicle.marks g.V.Chronicle.belongs 0 c.args.pass.now.me.0 c.args.other.me.0 _ _ c.join_seat.ensures.2 c.requires.idle.rests.owned c.requires.other.rests.owned c.load.ensures.2.1;
}
