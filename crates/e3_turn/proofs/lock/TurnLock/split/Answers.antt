use Rattle.std.proofs.Common.{rules, ◌∙◌, sym, arith}
use Rattle.std.proofs.lemmas.Grind.{common_steps}
use Rattle.e3_turn.proofs.Owners.{chooses, cuts_as, rests_cut}
use Rattle.e3_turn.proofs.lock.TurnLock.split.Goals as goal

pub compare_exchange-requires : goal.compare_exchange-requires
compare_exchange-requires g c = (c.requires.idle.of_lock ∙ sym c.self.view_is, search rules, chooses _ _ _ _ _ _ c.args.owner)

pub split_seat-requires : goal.split_seat-requires
split_seat-requires g c = (c.compare_exchange.ensures.0 ∙ c.requires.idle.of_lock ∙ sym c.self.view_is, search rules, cuts_as _ _ _ _ _ _ c.args.owner c.requires.idle.rests c.compare_exchange.ensures.2 c.requires.owns c.requires.keeps)

pub returns : goal.returns
returns g c =
    let own = c.compare_exchange.ensures.0 ∙ c.requires.idle.of_lock in
    let rests = rests_cut g.V.Chronicle.marks g.V.Chronicle.belongs 0 _ _ _ _ c.args.owner c.requires.idle.rests c.compare_exchange.ensures.2 c.requires.owns c.requires.keeps c.split_seat.ensures.2 c.split_seat.ensures.4 in
    record {
      idle = (record { of_lock = c.split_seat.ensures.0 ∙ own; rests = rests.0 }, record { of_lock = c.split_seat.ensures.3 ∙ own; rests = rests.1 });
      owners = first_of (search rules, grind (arith, common_steps));
      last = first_of (search rules, grind (arith, common_steps));
      seen = first_of (search rules, grind (arith, common_steps));
    }
