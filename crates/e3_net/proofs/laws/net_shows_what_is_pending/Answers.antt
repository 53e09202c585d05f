use Rattle.e3_net.proofs.Showing.{first_is_taken, nothing_pending, pending_are, taken_is_least, taken_is_pending}
use Rattle.e3_net.proofs.laws.net_shows_what_is_pending.Goals as goal

pub returns-clause-all : goal.returns-clause-all
returns-clause-all c = pending_are

pub returns-clause-first : goal.returns-clause-first
returns-clause-first c = first_is_taken

pub returns-clause-taken : goal.returns-clause-taken
returns-clause-taken c = taken_is_pending

pub returns-clause-none : goal.returns-clause-none
returns-clause-none c = nothing_pending

pub returns-clause-least : goal.returns-clause-least
returns-clause-least c = taken_is_least
