use Rattle.e3_node.proofs.law.logs_are_sound.Goals as goal

pub returns-clause-orderly : goal.returns-clause-orderly
returns-clause-orderly c = c.logs_are_orderly.ensures.logs

pub returns-clause-sets : goal.returns-clause-sets
returns-clause-sets c = c.logged_sites_are_sets.ensures

pub returns-clause-sound : goal.returns-clause-sound
returns-clause-sound c = c.trails_are_sound.ensures.sound

pub returns-clause-mention : goal.returns-clause-mention
returns-clause-mention c = c.legal_histories_mention_what_stands.ensures.records

pub returns-clause-begun : goal.returns-clause-begun
returns-clause-begun c = c.begun_are_transactions.ensures

pub returns-clause-votes : goal.returns-clause-votes
returns-clause-votes c = c.records_suit_their_site.ensures.votes
