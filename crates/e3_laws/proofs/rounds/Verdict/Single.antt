-- The round of a group of one comes to its end with its Elect.
use Rattle.std.proofs.Common.{◌≡◌, ◌==◌, ◌+◌, ◌-◌, ◌*◌, ◌≤◌, ◌++◌, ◌∷◌, [], ℕ, max, true, List, length, inr, ◌∙◌, ap, sym, subst, refl, nat_lt, arith}
use Rattle.e3_types.specs.declared.entries.Entry.{Entry}
use Rattle.e3_types.specs.declared.entries.Input.TheVariants as input
use Rattle.e3_types.specs.declared.messages.Message.TheVariants as msg
use Rattle.e3_types.specs.declared.records.Record.{Record}
use Rattle.e3_types.specs.declared.records.Record.TheVariants as log
use Rattle.e3_types.specs.declared.scenarios.Scenario.{Scenario}
use Rattle.e3_types.specs.declared.transactions.Dir.{Dir}
use Rattle.e3_types.specs.declared.transactions.Txn.{Txn}
use Rattle.e3_types.specs.declared.verdicts.Verdict.{Verdict}
use Rattle.e3_types.specs.Sets.{has_site}
use Rattle.e3_world.specs.declared.lives.At.{At}
use Rattle.e3_world.specs.declared.lives.Made.{Made}
use Rattle.e3_world.specs.ElectionRules.{and_verdict}
use Rattle.e3_world.specs.Items.{RecoveryRound}
use Rattle.e3_world.specs.Logs.{is_undecided, last_attempt, last_elected}
use Rattle.e3_world.specs.Making.{nothing, and_cast}
use Rattle.e3_world.specs.Moves.{log_of}
use Rattle.e3_world.specs.Steps.{on_input}
use Rattle.e3_world.proofs.Turns.{self}
use Rattle.e3_laws.proofs.steps.Moving.{place_log}
use Rattle.e3_laws.specs.rounds.Rounds.{elect_entry, is_block, is_open}
use Rattle.e3_laws.proofs.rounds.Verdict.Alone.{alone_at, alone_blocked, alone_input}
use Rattle.e3_laws.proofs.rounds.Verdict.Alone.{alone_concludes as concludes_alone}
use Rattle.e3_laws.proofs.rounds.Beginning.{Begun, each_site}
use Rattle.e3_laws.proofs.rounds.Verdict.Choosing.{Asks, Blocks, Ends, Kind, asks_enough, asks_open, attempt_less, ends_fit, fits_more, kind_of, verdict_at}
use Rattle.e3_laws.proofs.rounds.Verdict.Concluding.{alone_concludes, alone_is, alone_made, final_choice, final_concludes, final_is}
use Rattle.e3_laws.proofs.rounds.Phases.Decided.{Decided, fits, tail_begins}
use Rattle.e3_laws.proofs.rounds.Deliveries.Delivering.{Entered}
use Rattle.e3_laws.proofs.rounds.Verdict.Ending.{Outcome, ends_blocked, ends_decided}
use Rattle.e3_laws.proofs.rounds.Phases.Joined.{number_of, site_report}
use Rattle.e3_laws.proofs.rounds.Phases.Numbering.{join_attempt, join_elected, join_open, number_above}
use Rattle.e3_laws.proofs.rounds.Phases.Rows.{makes}
use Rattle.e3_laws.proofs.rounds.Tail.{Tail}
use Rattle.e3_laws.proofs.rounds.Phases.Turning.{Concludes}
use Rattle.e3_laws.proofs.rounds.Phases.Walked.{Walked}
use Rattle.e3_laws.proofs.rounds.Phases.Winning.{final_of, pre_of}

pub alone_ends : (sc : Scenario) (start more : List Entry) (r : RecoveryRound) → Begun sc start more r → r.members ≡ r.elector ∷ [] →
    nat_lt (max 0 (last_elected r.txn (log_of sc start r.elector))) 4294967295 ≡ true → Outcome sc start more r (verdict_at sc start r.txn r.members)
alone_ends sc start more r begun one low =
    subst (λ ms. Outcome sc start more r (verdict_at sc start r.txn ms)) (sym one) (by (kind_of (verdict_at sc start r.txn (r.elector ∷ []))))
  where
    t : Txn
    t = r.txn

    e : Entry
    e = elect_entry sc start r

    v : Verdict
    v = verdict_at sc start t (r.elector ∷ [])

    n : ℕ
    n = number_of sc start r []

    a : At
    a = alone_at sc start r

    join : List Record
    join = log.Join t n ∷ []

    log_is : a.life.log ≡ log_of sc start r.elector
    log_is = place_log sc start r.elector (input.Elect t r.members)

    leads : has_site r.members r.elector ≡ true
    leads = ap (λ l. has_site l r.elector) one ∙ rw (self r.elector) refl

    few : 1 ≤ 1 + 7 * (length r.members - 1)
    few = omega arith

    above : nat_lt (last_elected t (log_of sc start r.elector)) n ≡ true
    above = number_above sc start r [] r.elector (rw (self r.elector) refl)

    -- the elector is decided, and there is nobody else
    tail_is : (w : Verdict) (dir : Dir) → Decided sc start r start dir (start ++ e ∷ []) 1 (record { site = r.elector; verdict = w } ∷ []) [] [] →
        Walked sc r (start ++ e ∷ []) more (λ now. Tail sc r now × Entered start now r 1 (record { site = r.elector; verdict = w } ∷ []))
    tail_is w dir now = record {
      now = start ++ e ∷ [];
      later = more;
      is = refl;
      rest = begun.rest;
      phase = (tail_begins sc start r start dir (start ++ e ∷ []) 1 (record { site = r.elector; verdict = w } ∷ []) [] (λ s has. ap (λ l. has_site l s) (sym one) ∙ has) now, now.entered);
    }

    concluded : (w : Verdict) (dir : Dir) (x : Made) → v ≡ w → on_input a (input.Elect t r.members) nothing ≡ and_cast a r.members (msg.Decide t dir) x →
        Concludes t n w a.life.log x → Outcome sc start more r v
    concluded w dir x is row concludes = subst (Outcome sc start more r) (sym is)
        (ends_decided sc start more r w 1 begun (omega arith) few (tail_is w dir
        (concludes_alone sc start r dir n w x one begun.counted begun.settled begun.calm row (subst (λ l. Concludes t n w l x) log_is concludes))))

    row_of : on_input a (input.Elect t r.members) nothing ≡ and_verdict a t n r.members (site_report sc start t r.elector ∷ []) (makes join [])
    row_of = alone_input sc start r one low

    open_now : (dir : Dir) → v ≡ pre_of dir → is_undecided t (a.life.log ++ join) ≡ true
    open_now dir is =
        ap (λ l. is_undecided t (l ++ join)) log_is ∙ join_open t n (log_of sc start r.elector)
        ∙ each_site (is_open sc start t) (r.elector ∷ []) r.elector (asks_open sc start t (r.elector ∷ []) dir is) (rw (self r.elector) refl)

    by : Kind v → Outcome sc start more r v
    by (Blocks have total is) =
        ends_blocked sc start more r v 1 begun (omega arith) few (ap is_block is)
        (record {
          now = start ++ e ∷ [];
          later = more;
          is = refl;
          rest = begun.rest;
          phase = (
            (alone_blocked sc start r have total one begun.counted begun.settled begun.calm low is).0,
            subst (λ w. Entered start (start ++ e ∷ []) r 1 (record { site = r.elector; verdict = w } ∷ [])) (sym is) (alone_blocked sc start r have total one begun.counted begun.settled begun.calm low is).1,
          );
        })
    by (Ends dir is) = concluded (final_of dir) dir (final_choice a t n dir join) is
        (row_of ∙ final_is a t n r.members (site_report sc start t r.elector ∷ []) dir join is)
        (final_concludes a t n dir join (inr (subst (λ l. fits t dir (l ++ join) ≡ true) (sym log_is)
        (fits_more t dir (log_of sc start r.elector) join (ends_fit sc start t (r.elector ∷ []) dir r.elector begun.given begun.legal_start is (begun.sites r.elector leads))))))
    by (Asks dir is) = concluded (pre_of dir) dir (alone_made a t n dir join) is
        (row_of ∙ alone_is a t n r.members (site_report sc start t r.elector ∷ []) dir join is (open_now dir is)
        (ap (λ l. last_elected t (l ++ join) == n) log_is ∙ join_elected t n (log_of sc start r.elector) above)
        (ap (λ l. nat_lt (last_attempt t (l ++ join)) n) log_is ∙ ap (λ k. nat_lt k n) (join_attempt t n (log_of sc start r.elector)) ∙ attempt_less sc start t n r.elector begun.given begun.legal_start above)
        (asks_enough sc start t (r.elector ∷ []) dir is))
        (alone_concludes a t n dir join)
