use Rattle.std.specs.Prelude.{refl}
use Rattle.std.specs.Fmt.{digits}
use Rattle.e3_types.specs.Sites.{bits_of}
use Rattle.e3_worked.specs.Worked.{nothing_at}
use Rattle.e3_worked.specs.BusyCancelOver.{busy_cancel_over, busy_cancel_over_history}
use Rattle.e3_worked.specs.CascadeAborts.{cascade_aborts, cascade_aborts_history}
use Rattle.e3_worked.specs.CascadeCommits.{cascade_commits, cascade_commits_history, cascade_commits_outcome}
use Rattle.e3_worked.specs.CommitRound.{commit_round, commit_round_history, commit_round_outcome}
use Rattle.e3_worked.specs.DroppedPackets.{dropped_packets, dropped_packets_history}
use Rattle.e3_worked.specs.ElectedSiteStaysSilent.{elected_site_stays_silent, elected_site_stays_silent_history}
use Rattle.e3_worked.specs.EveryPacketLost.{every_packet_lost, every_packet_lost_history}
use Rattle.e3_worked.specs.FallenGroup.{fallen_group, fallen_group_history}
use Rattle.e3_worked.specs.FullDisk.{full_disk_history}
use Rattle.e3_worked.specs.MissedAndFailedRises.{missed_and_failed_rises, missed_and_failed_rises_history, failed_rise_lost, failed_rise_lost_history}
use Rattle.e3_worked.specs.NoSteps.{no_steps, no_steps_history}
use Rattle.e3_worked.specs.OlderWaitsYoungerDies.{older_waits_younger_dies, older_waits_younger_dies_history, older_waits_younger_dies_outcome}
use Rattle.e3_worked.specs.OneSiteIsAQuorum.{one_site_is_a_quorum, one_site_is_a_quorum_history, one_site_is_a_quorum_outcome}
use Rattle.e3_worked.specs.OneWrite.{one_write, one_write_history, one_write_outcome}
use Rattle.e3_worked.specs.RestartBeforeTheVote.{restart_before_the_vote, restart_before_the_vote_history, restart_before_the_vote_outcome}
use Rattle.e3_worked.specs.RestartDooms.{restart_dooms, restart_dooms_history, restart_dooms_outcome}
use Rattle.e3_worked.specs.SixtyFourOperations.{sixty_four_operations, sixty_four_operations_history, sixty_four_operations_outcome}
use Rattle.e3_worked.specs.SplitInHalves.{split_in_halves, split_in_halves_history}
use Rattle.e3_worked.specs.ThreeSites.{three_sites, three_sites_history, three_sites_outcome}
use Rattle.e3_worked.specs.ThreeSitesEveryPacketTwice.{three_sites_every_packet_twice, three_sites_every_packet_twice_history}
use Rattle.e3_worked.specs.TooLateKeptDown.{too_late_kept_down, too_late_kept_down_history}
use Rattle.e3_worked.specs.TwoElectors.{two_electors, two_electors_history}
use Rattle.e3_worked.specs.TwoSitesAtOnce.{two_sites_at_once, two_sites_at_once_history}
use Rattle.e3_worked.specs.UpgradeWaits.{upgrade_waits, upgrade_waits_history, upgrade_waits_outcome}
use Rattle.e3_worked.proofs.Judging.{worked}
use Rattle.e3_worked.proofs.examples.are_worked.Goals as goal

pub returns-clause-busy_cancel_over : goal.returns-clause-busy_cancel_over
unfolding bits_of
returns-clause-busy_cancel_over c = worked c.checks_are_exact.ensures.whole c.trails_are_sound.ensures.sound busy_cancel_over busy_cancel_over_history (nothing_at 2) refl refl refl

pub returns-clause-cascade_aborts : goal.returns-clause-cascade_aborts
unfolding bits_of
returns-clause-cascade_aborts c = worked c.checks_are_exact.ensures.whole c.trails_are_sound.ensures.sound cascade_aborts cascade_aborts_history (nothing_at 3) refl refl refl

pub returns-clause-cascade_commits : goal.returns-clause-cascade_commits
unfolding bits_of
returns-clause-cascade_commits c = worked c.checks_are_exact.ensures.whole c.trails_are_sound.ensures.sound cascade_commits cascade_commits_history cascade_commits_outcome refl refl refl

pub returns-clause-commit_round : goal.returns-clause-commit_round
unfolding bits_of
returns-clause-commit_round c = worked c.checks_are_exact.ensures.whole c.trails_are_sound.ensures.sound commit_round commit_round_history commit_round_outcome refl refl refl

pub returns-clause-dropped_packets : goal.returns-clause-dropped_packets
unfolding bits_of
returns-clause-dropped_packets c = worked c.checks_are_exact.ensures.whole c.trails_are_sound.ensures.sound dropped_packets dropped_packets_history (nothing_at 3) refl refl refl

pub returns-clause-elected_site_stays_silent : goal.returns-clause-elected_site_stays_silent
unfolding bits_of
returns-clause-elected_site_stays_silent c = worked c.checks_are_exact.ensures.whole c.trails_are_sound.ensures.sound elected_site_stays_silent elected_site_stays_silent_history (nothing_at 3) refl refl refl

pub returns-clause-every_packet_lost : goal.returns-clause-every_packet_lost
unfolding bits_of
returns-clause-every_packet_lost c = worked c.checks_are_exact.ensures.whole c.trails_are_sound.ensures.sound every_packet_lost every_packet_lost_history (nothing_at 2) refl refl refl

pub returns-clause-fallen_group : goal.returns-clause-fallen_group
unfolding bits_of
returns-clause-fallen_group c = worked c.checks_are_exact.ensures.whole c.trails_are_sound.ensures.sound fallen_group fallen_group_history (nothing_at 3) refl refl refl

pub returns-clause-full_disk : goal.returns-clause-full_disk
unfolding bits_of
returns-clause-full_disk c = worked c.checks_are_exact.ensures.whole c.trails_are_sound.ensures.sound one_write full_disk_history (nothing_at 1) refl refl refl

pub returns-clause-missed_and_failed_rises : goal.returns-clause-missed_and_failed_rises
unfolding bits_of
returns-clause-missed_and_failed_rises c = worked c.checks_are_exact.ensures.whole c.trails_are_sound.ensures.sound missed_and_failed_rises missed_and_failed_rises_history (nothing_at 1) refl refl refl

pub returns-clause-failed_rise_lost : goal.returns-clause-failed_rise_lost
unfolding bits_of
returns-clause-failed_rise_lost c = worked c.checks_are_exact.ensures.whole c.trails_are_sound.ensures.sound failed_rise_lost failed_rise_lost_history (nothing_at 1) refl refl refl

pub returns-clause-no_steps : goal.returns-clause-no_steps
unfolding bits_of
returns-clause-no_steps c = worked c.checks_are_exact.ensures.whole c.trails_are_sound.ensures.sound no_steps no_steps_history (nothing_at 1) refl refl refl

pub returns-clause-older_waits_younger_dies : goal.returns-clause-older_waits_younger_dies
unfolding bits_of
returns-clause-older_waits_younger_dies c = worked c.checks_are_exact.ensures.whole c.trails_are_sound.ensures.sound older_waits_younger_dies older_waits_younger_dies_history older_waits_younger_dies_outcome refl refl refl

pub returns-clause-one_site_is_a_quorum : goal.returns-clause-one_site_is_a_quorum
unfolding bits_of
returns-clause-one_site_is_a_quorum c = worked c.checks_are_exact.ensures.whole c.trails_are_sound.ensures.sound one_site_is_a_quorum one_site_is_a_quorum_history one_site_is_a_quorum_outcome refl refl refl

pub returns-clause-one_write : goal.returns-clause-one_write
unfolding bits_of
returns-clause-one_write c = worked c.checks_are_exact.ensures.whole c.trails_are_sound.ensures.sound one_write one_write_history one_write_outcome refl refl refl

pub returns-clause-restart_before_the_vote : goal.returns-clause-restart_before_the_vote
unfolding bits_of
returns-clause-restart_before_the_vote c = worked c.checks_are_exact.ensures.whole c.trails_are_sound.ensures.sound restart_before_the_vote restart_before_the_vote_history restart_before_the_vote_outcome refl refl refl

pub returns-clause-restart_dooms : goal.returns-clause-restart_dooms
unfolding bits_of
returns-clause-restart_dooms c = worked c.checks_are_exact.ensures.whole c.trails_are_sound.ensures.sound restart_dooms restart_dooms_history restart_dooms_outcome refl refl refl

pub returns-clause-sixty_four_operations : goal.returns-clause-sixty_four_operations
unfolding bits_of digits
returns-clause-sixty_four_operations c = worked c.checks_are_exact.ensures.whole c.trails_are_sound.ensures.sound sixty_four_operations sixty_four_operations_history sixty_four_operations_outcome refl refl refl

pub returns-clause-split_in_halves : goal.returns-clause-split_in_halves
unfolding bits_of
returns-clause-split_in_halves c = worked c.checks_are_exact.ensures.whole c.trails_are_sound.ensures.sound split_in_halves split_in_halves_history (nothing_at 4) refl refl refl

pub returns-clause-three_sites : goal.returns-clause-three_sites
unfolding bits_of
returns-clause-three_sites c = worked c.checks_are_exact.ensures.whole c.trails_are_sound.ensures.sound three_sites three_sites_history three_sites_outcome refl refl refl

pub returns-clause-three_sites_every_packet_twice : goal.returns-clause-three_sites_every_packet_twice
unfolding bits_of
returns-clause-three_sites_every_packet_twice c = worked c.checks_are_exact.ensures.whole c.trails_are_sound.ensures.sound three_sites_every_packet_twice three_sites_every_packet_twice_history three_sites_outcome refl refl refl

pub returns-clause-too_late_kept_down : goal.returns-clause-too_late_kept_down
unfolding bits_of
returns-clause-too_late_kept_down c = worked c.checks_are_exact.ensures.whole c.trails_are_sound.ensures.sound too_late_kept_down too_late_kept_down_history (nothing_at 2) refl refl refl

pub returns-clause-two_electors : goal.returns-clause-two_electors
unfolding bits_of
returns-clause-two_electors c = worked c.checks_are_exact.ensures.whole c.trails_are_sound.ensures.sound two_electors two_electors_history (nothing_at 3) refl refl refl

pub returns-clause-two_sites_at_once : goal.returns-clause-two_sites_at_once
unfolding bits_of
returns-clause-two_sites_at_once c = worked c.checks_are_exact.ensures.whole c.trails_are_sound.ensures.sound two_sites_at_once two_sites_at_once_history (nothing_at 2) refl refl refl

pub returns-clause-upgrade_waits : goal.returns-clause-upgrade_waits
unfolding bits_of
returns-clause-upgrade_waits c = worked c.checks_are_exact.ensures.whole c.trails_are_sound.ensures.sound upgrade_waits upgrade_waits_history upgrade_waits_outcome refl refl refl
