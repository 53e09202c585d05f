use Rattle.e3_fleet.proofs.settling.settled.Goals as goal

pub settled_by-held-requires-clause-taken : goal.settled_by-held-requires-clause-taken
settled_by-held-requires-clause-taken g c κs lives = c.requires.standing.taken

pub settled_by-held-requires-clause-standing : goal.settled_by-held-requires-clause-standing
settled_by-held-requires-clause-standing g c κs lives = c.requires.standing.fleet

pub returns : goal.returns
returns g c = record {
  stands = record { fleet = c.settled_by-held.ensures.on.stands; taken = c.settled_by-held.ensures.taken };
  on = c.settled_by-held.ensures.on;
  grown = c.settled_by-held.ensures.grown;
  delivering = c.settled_by-held.ensures.delivering;
  settled = c.settled_by-held.ensures.settled;
  full = c.settled_by-held.ensures.full;
}
