use Rattle.std.proofs.Common.{inl, inr}
use Rattle.e3_world.specs.Moves.{log_of}
use Rattle.e3_laws.proofs.agreement.Refinement.Voting.{contains_from_in}
use Rattle.e3_types.specs.declared.records.Record.TheVariants as log
use Rattle.e3_laws.proofs.agreement.Facing.{join_fits, attempt_fits, attempts_below}
use Rattle.e3_laws.proofs.agreement.Binding.{lifted, ordered, elector_silent, electors_one, own_silent, tried_one, quorum_binds, report_tells, report_holds, commit_voted, commit_bars, commit_quorum, abort_reason}
use Rattle.e3_laws.proofs.agreement.Guarding.Reported.{asked_reported}
use Rattle.e3_laws.proofs.agreement.Single.{reports_once}
use Rattle.e3_laws.proofs.agreement.elections_bind.Goals as goal

pub returns-clause-numbers_rise : goal.returns-clause-numbers_rise
returns-clause-numbers_rise c = λ sc h t s n before given legal stands.
    join_fits t (log_of sc h s) before n stands.0 (ordered sc h t s (lifted sc h t given legal)) stands.1

pub returns-clause-electors_report_nothing : goal.returns-clause-electors_report_nothing
returns-clause-electors_report_nothing c = λ sc h t s n st a given legal called reported. elector_silent sc h t s n st a (lifted sc h t given legal) called reported

pub returns-clause-reports_are_once : goal.returns-clause-reports_are_once
returns-clause-reports_are_once c = reports_once

pub returns-clause-electors_are_one : goal.returns-clause-electors_are_one
returns-clause-electors_are_one c = λ sc h t n s u given legal a b. electors_one sc h t n s u (lifted sc h t given legal) a b

pub returns-clause-electors_of_own_report_nothing : goal.returns-clause-electors_of_own_report_nothing
returns-clause-electors_of_own_report_nothing c = λ sc h t s n st a given legal joined reported. own_silent sc h t s n st a (lifted sc h t given legal) joined reported

pub returns-clause-asked_have_reported : goal.returns-clause-asked_have_reported
returns-clause-asked_have_reported c = asked_reported

pub returns-clause-attempts_follow_joins : goal.returns-clause-attempts_follow_joins
returns-clause-attempts_follow_joins c = λ sc h t s n d before given legal stands.
    let f = attempt_fits t (log_of sc h s) before n d stands.0 (ordered sc h t s (lifted sc h t given legal)) stands.1 in
    (f.0, f.1, elim f.2 [ inl one ↦ inl one | inr k ↦ inr (contains_from_in before (log.Join t n) k) ])

pub returns-clause-attempts_stay_below : goal.returns-clause-attempts_stay_below
returns-clause-attempts_stay_below c = λ sc h t s given legal. attempts_below t (log_of sc h s) (ordered sc h t s (lifted sc h t given legal))

pub returns-clause-one_direction : goal.returns-clause-one_direction
returns-clause-one_direction c = λ sc h t n d e given legal a b. tried_one sc h t n d e (lifted sc h t given legal) a b

pub returns-clause-reports_tell_the_past : goal.returns-clause-reports_tell_the_past
returns-clause-reports_tell_the_past c = λ sc h t s n st a given legal said. report_tells sc h t s n st a (lifted sc h t given legal) said

pub returns-clause-reports_hold : goal.returns-clause-reports_hold
returns-clause-reports_hold c = λ sc h t s n st a given legal said last. report_holds sc h t s n st a (lifted sc h t given legal) said last

pub returns-clause-quorum_binds_later : goal.returns-clause-quorum_binds_later
returns-clause-quorum_binds_later c = λ sc h t n m d e given legal q less tried. quorum_binds sc h t n m d e (lifted sc h t given legal) q less tried

pub returns-clause-pre_commit_has_votes : goal.returns-clause-pre_commit_has_votes
returns-clause-pre_commit_has_votes c = λ sc h t n given legal tried. commit_voted sc h t n (lifted sc h t given legal) tried

pub returns-clause-pre_commit_bars_refusals : goal.returns-clause-pre_commit_bars_refusals
returns-clause-pre_commit_bars_refusals c = λ sc h t n s before given legal tried member stands. commit_bars sc h t n s before (lifted sc h t given legal) tried member stands

pub returns-clause-commit_has_quorum : goal.returns-clause-commit_has_quorum
returns-clause-commit_has_quorum c = λ sc h t given legal decided. commit_quorum sc h t (lifted sc h t given legal) given legal decided

pub returns-clause-abort_has_reason : goal.returns-clause-abort_has_reason
returns-clause-abort_has_reason c = λ sc h t given legal decided. abort_reason sc h t (lifted sc h t given legal) given legal decided
