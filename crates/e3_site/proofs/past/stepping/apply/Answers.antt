use Rattle.e3_site.proofs.past.stepping.apply.Goals as goal

pub apply-requires : goal.apply-requires
apply-requires c = c.requires.room.names

pub apply_opens-requires : goal.apply_opens-requires
apply_opens-requires c = c.requires.room.opens

pub apply-requires-2-clause-are : goal.apply-requires-2-clause-are
apply-requires-2-clause-are c = c.requires.are.cards_are

pub apply-requires-2-clause-room : goal.apply-requires-2-clause-room
apply-requires-2-clause-room c = c.requires.room.cards

pub returns : goal.returns
returns c = λ site life stand may. record {
  cards_stand = c.apply-2.ensures site life stand.cards_stand;
  names_stand = c.apply.ensures site life c.args.step.now stand.names_stand (c.requires.are.names_are site life stand.cards_stand stand.names_stand may);
  opens_stand = c.apply_opens.ensures site life stand.opens_stand (c.requires.are.opens_are site life stand.cards_stand);
}
