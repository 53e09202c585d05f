use Rattle.std.specs.Prelude.{refl}
use Rattle.e3_worked.proofs.Unfolding.{report_opens}
use Rattle.e3_worked.proofs.examples.are_reported.Goals as goal

pub returns-clause-busy_cancel_over : goal.returns-clause-busy_cancel_over
unfolding report_opens
returns-clause-busy_cancel_over c = refl

pub returns-clause-cascade_aborts : goal.returns-clause-cascade_aborts
unfolding report_opens
returns-clause-cascade_aborts c = refl

pub returns-clause-cascade_commits : goal.returns-clause-cascade_commits
unfolding report_opens
returns-clause-cascade_commits c = refl

pub returns-clause-elected_site_stays_silent : goal.returns-clause-elected_site_stays_silent
unfolding report_opens
returns-clause-elected_site_stays_silent c = refl

pub returns-clause-every_packet_lost : goal.returns-clause-every_packet_lost
unfolding report_opens
returns-clause-every_packet_lost c = refl

pub returns-clause-missed_and_failed_rises : goal.returns-clause-missed_and_failed_rises
unfolding report_opens
returns-clause-missed_and_failed_rises c = refl

pub returns-clause-no_steps : goal.returns-clause-no_steps
unfolding report_opens
returns-clause-no_steps c = refl

pub returns-clause-older_waits_younger_dies : goal.returns-clause-older_waits_younger_dies
unfolding report_opens
returns-clause-older_waits_younger_dies c = refl

pub returns-clause-one_site_is_a_quorum : goal.returns-clause-one_site_is_a_quorum
unfolding report_opens
returns-clause-one_site_is_a_quorum c = refl

pub returns-clause-one_write : goal.returns-clause-one_write
unfolding report_opens
returns-clause-one_write c = refl

pub returns-clause-restart_before_the_vote : goal.returns-clause-restart_before_the_vote
unfolding report_opens
returns-clause-restart_before_the_vote c = refl

pub returns-clause-restart_dooms : goal.returns-clause-restart_dooms
unfolding report_opens
returns-clause-restart_dooms c = refl

pub returns-clause-sixty_four_operations : goal.returns-clause-sixty_four_operations
unfolding report_opens
returns-clause-sixty_four_operations c = refl

pub returns-clause-split_in_halves : goal.returns-clause-split_in_halves
unfolding report_opens
returns-clause-split_in_halves c = refl

pub returns-clause-three_sites : goal.returns-clause-three_sites
unfolding report_opens
returns-clause-three_sites c = refl

pub returns-clause-three_sites_every_packet_twice : goal.returns-clause-three_sites_every_packet_twice
unfolding report_opens
returns-clause-three_sites_every_packet_twice c = refl

pub returns-clause-too_late_kept_down : goal.returns-clause-too_late_kept_down
unfolding report_opens
returns-clause-too_late_kept_down c = refl

pub returns-clause-two_sites_at_once : goal.returns-clause-two_sites_at_once
unfolding report_opens
returns-clause-two_sites_at_once c = refl

pub returns-clause-upgrade_waits : goal.returns-clause-upgrade_waits
unfolding report_opens
returns-clause-upgrade_waits c = refl
