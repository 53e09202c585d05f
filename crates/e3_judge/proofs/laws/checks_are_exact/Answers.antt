use Rattle.e3_judge.proofs.SameParts.{exact_input, exact_record, exact_packet, exact_told}
use Rattle.e3_judge.proofs.Owners.{up_is_site}
use Rattle.e3_judge.proofs.Breaches.{checks_are_guard, no_breach_is_legal, breach_is_broken, whole_is_whole}
use Rattle.e3_judge.proofs.laws.checks_are_exact.Goals as goal

pub returns-clause-inputs : goal.returns-clause-inputs
returns-clause-inputs c = exact_input

pub returns-clause-records : goal.returns-clause-records
returns-clause-records c = exact_record

pub returns-clause-packets : goal.returns-clause-packets
returns-clause-packets c = exact_packet

pub returns-clause-events : goal.returns-clause-events
returns-clause-events c = exact_told

pub returns-clause-owners : goal.returns-clause-owners
returns-clause-owners c = up_is_site

pub returns-clause-guards : goal.returns-clause-guards
returns-clause-guards c = checks_are_guard

pub returns-clause-legal : goal.returns-clause-legal
returns-clause-legal c = no_breach_is_legal

pub returns-clause-broken : goal.returns-clause-broken
returns-clause-broken c = breach_is_broken

pub returns-clause-whole : goal.returns-clause-whole
returns-clause-whole c = whole_is_whole
