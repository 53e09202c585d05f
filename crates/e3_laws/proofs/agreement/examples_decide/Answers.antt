use Rattle.std.proofs.Common.{refl, inl, inr, arith, ◌∷◌, [], take}
use Rattle.e3_types.specs.declared.transactions.Dir.TheVariants.{Abort, Commit}
use Rattle.e3_laws.specs.agreement.Logs.{Vote, Join, Attempt, Decision, Waiting}
use Rattle.e3_laws.specs.agreement.Rules.{Yes, Elected, Report, Pre, Ack, Decide, HasWon, IsTold}
use Rattle.e3_laws.specs.agreement.Examples.{three, commits, recovers}
use Rattle.e3_laws.specs.agreement.Marks.{sent_of, log_of}
use Rattle.e3_laws.proofs.agreement.Protocol.Built.{alone, with_one, with_two, two_votes, two_attempts, waits, two_replies, none_tried}
use Rattle.e3_laws.proofs.agreement.examples_decide.Goals as goal

pub returns-clause-commit : goal.returns-clause-commit
returns-clause-commit c = (
  (
    alone three _ 1 Vote (refl, refl),
    (
      with_one three _ 2 Vote 1 Yes (refl, refl) (inl refl),
      (
        with_one three _ 3 Vote 1 Yes (refl, refl) (inl refl),
        (
          with_two three _ 1 (Attempt 1 Commit) 2 3 (Pre 1 Commit)
              (record {
                open_yet = λ d e. cc;
                current = refl;
                fresh = omega arith;
                cause = inl (record { here = refl; one = refl; commits = refl; waits = refl; votes = two_votes });
              }) (inl refl) (inl refl),
          (
            with_one three _ 2 (Attempt 1 Commit) 1 (Ack 1 Commit)
                (record {
                  open_yet = λ d e. cc;
                  current = refl;
                  fresh = omega arith;
                  cause = inr (inr (record { member = inr (inl refl); asker = 1; came = inr (inr (inl refl)) }));
                }) (record { came = inr (inr (inl refl)); made = Commit; stands = inl refl }),
            (
              with_two three _ 1 (Decision Commit) 2 3 (Decide Commit)
                  (record {
                    open_yet = λ d e. cc;
                    voted = λ e. inr (inl refl);
                    cause = HasWon (record {
                      number = 1;
                      group = 1 ∷ 2 ∷ [];
                      enough = refl;
                      acks = two_attempts (sent_of (take 5 commits)) (log_of 1 (take 5 commits)) 1 2 1 Commit (inl refl) (inr (inr (inr (inr (inl refl)))));
                    });
                  }) (inl refl) (inl refl),
              (
                alone three _ 3 (Decision Commit) (record {
                  open_yet = λ d e. cc;
                  voted = λ e. inl refl;
                  cause = IsTold 1 (inr (inr (inr (inr (inr (inr (inl refl)))))));
                }),
                tt,
              ),
            ),
          ),
        ),
      ),
    ),
  ),
  refl,
  refl,
)

pub returns-clause-recovery : goal.returns-clause-recovery
returns-clause-recovery c = (
  (
    alone three _ 1 Vote (refl, refl),
    (
      with_one three _ 2 Vote 1 Yes (refl, refl) (inl refl),
      (
        with_one three _ 3 Vote 1 Yes (refl, refl) (inl refl),
        (
          with_two three _ 1 (Attempt 1 Commit) 2 3 (Pre 1 Commit)
              (record {
                open_yet = λ d e. cc;
                current = refl;
                fresh = omega arith;
                cause = inl (record { here = refl; one = refl; commits = refl; waits = refl; votes = two_votes });
              }) (inl refl) (inl refl),
          (
            with_one three _ 3 (Join 2 3) 2 (Elected 2) (record { greater = omega arith; leader = inl refl }) (inl refl),
            (
              with_one three _ 2 (Join 2 3) 3 (Report 2 Waiting 0) (record { greater = omega arith; leader = inr (inr (inr (inr (inr (inl refl))))) })
                  (record { joined = inl refl; says = refl; tried = refl }),
              (
                with_one three _ 3 (Attempt 2 Abort) 2 (Pre 2 Abort)
                    (record {
                      open_yet = λ d e. cc;
                      current = refl;
                      fresh = omega arith;
                      cause = inr (inl (record {
                        joined = inl refl;
                        replies = waits 3 ∷ waits 2 ∷ [];
                        enough = refl;
                        replied = two_replies (sent_of (take 6 recovers)) (log_of 3 (take 6 recovers)) 3 2 2 (inr refl) (inr (inr (inr (inr (inr (inl refl))))));
                        top = waits 3;
                        top_in = inl refl;
                        greatest = none_tried 3 2;
                        asks = refl;
                      }));
                    }) (inl refl),
                (
                  with_one three _ 2 (Attempt 2 Abort) 3 (Ack 2 Abort)
                      (record {
                        open_yet = λ d e. cc;
                        current = refl;
                        fresh = omega arith;
                        cause = inr (inr (record { member = inr (inl refl); asker = 3; came = inr (inr (inr (inr (inr (inr (inl refl)))))) }));
                      }) (record { came = inr (inr (inr (inr (inr (inr (inl refl)))))); made = Abort; stands = inl refl }),
                  (
                    with_two three _ 3 (Decision Abort) 1 2 (Decide Abort)
                        (record {
                          open_yet = λ d e. cc;
                          voted = λ e. cc;
                          cause = HasWon (record {
                            number = 2;
                            group = 3 ∷ 2 ∷ [];
                            enough = refl;
                            acks = two_attempts (sent_of (take 8 recovers)) (log_of 3 (take 8 recovers)) 3 2 2 Abort (inl refl) (inr (inr (inr (inr (inr (inr (inr (inl refl))))))));
                          });
                        }) (inl refl) (inl refl),
                    (
                      alone three _ 1 (Decision Abort) (record {
                        open_yet = λ d e. cc;
                        voted = λ e. cc;
                        cause = IsTold 3 (inr (inr (inr (inr (inr (inr (inr (inr (inl refl)))))))));
                      }),
                      tt,
                    ),
                  ),
                ),
              ),
            ),
          ),
        ),
      ),
    ),
  ),
  refl,
  refl,
)
