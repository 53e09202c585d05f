use Rattle.std.proofs.Common.{◌≡◌, ◌∙◌, ◌++◌, ◌∷◌, [], ◌+◌, ◌≤◌, ℕ, zero, suc, get_or, List, length, Err, drop, take, refl, sym, subst, ap, drop-cons, arith, rules}
use Rattle.std.proofs.lemmas.Grind.{common_steps}
use Rattle.std.proofs.lemmas.List.{take_more}
use Rattle.e3_play.specs.Delivered.{IsFullBefore, IsPacketOrRound}
use Rattle.e3_types.specs.declared.scenarios.Scenario.{Scenario}
use Rattle.e3_world.specs.Given.{IsGiven}
use Rattle.e3_world.specs.Items.{RecoveryRound, due_round, listed}
use Rattle.e3_world.specs.Legal.{IsLegal}
use Rattle.e3_world.specs.Packets.{pending}
use Rattle.e3_world.specs.Progress.{Delivering}
use Rattle.e3_play.specs.Reports.{HadTurns, IsTurn}
use Rattle.e3_play.specs.Rounds.{AfterRound}
use Rattle.e3_play.specs.declared.reporting.RoundReport.{RoundReport}
use Rattle.e3_play.specs.declared.sites.RunFault.TheVariants.{HistoryFull}
use Rattle.e3_play.proofs.Answered.{err_is, no_memory}
use Rattle.e3_play.proofs.Onward.{goes_on, rests}
use Rattle.e3_play.proofs.Falling.{UpOrFell, WereUp, listed_were_up}
use Rattle.e3_play.proofs.Left.{first_due}
use Rattle.e3_play.proofs.Making.{InRounds, begin_rounds, round_on, rounds_end}
use Rattle.e3_play.proofs.Turning.{had_turn, is_turn, turn_up}
use Rattle.e3_play.proofs.SameSteps.{stays_none, stays_on}
use Rattle.e3_play.proofs.recovering.recover.Goals as goal

pub loop-round-init : goal.loop-round-init
loop-round-init g c =
    let S = g.S.Sites in
    let sites = c.args.sites.now in
    let all : listed (S.scenario sites) (S.entries sites) c.args.group ≡ c.as_slice-round-items.result.now =
    sym (c.as_slice-round-items.ensures ∙ c.in_ok-rounds.ensures) in
    record {
      on = rests c.requires.standing;
      rounds = subst (λ (rounds : List RecoveryRound). InRounds (S.scenario sites) (S.entries sites) c.args.group rounds (S.entries sites)) all
          (begin_rounds (S.scenario sites) (S.entries sites) c.args.group (g.met.S.Sites.is_legal sites c.requires.standing)
          c.requires.step c.requires.fresh c.requires.settled);
      were = subst (λ (rounds : List RecoveryRound). WereUp (S.entries sites) rounds) all (listed_were_up (S.scenario sites) (S.entries sites) c.args.group);
      up = λ m up none. up;
      grown = stays_none (S.entries sites);
      had = subst (λ (reports : List RoundReport). HadTurns (S.scenario sites) (S.entries sites) (S.entries sites) [] reports) (sym c.new-reports.ensures) refl;
    }

-- the round at its turn is the first of those that are left
first_left : (rounds : List RecoveryRound) (k : ℕ) (r : RecoveryRound) → k + 1 ≤ length rounds → r ≡ get_or rounds k r → drop k rounds ≡ r ∷ drop (suc k) rounds
first_left rounds k r low is = drop-cons rounds k r (omega (arith, low)) ∙ ap (λ q. q ∷ drop (suc k) rounds) (sym is)

pub take_turn-requires : goal.take_turn-requires
take_turn-requires g c =
    let S = g.S.Sites in
    let start = c.args.sites.now in
    let was = c.loop-round.invariant in
    let r = c.round-item.result in
    let k = c.loop-round.round-index in
    let rounds = c.as_slice-round-items.result.now in
    let here : drop k rounds ≡ r ∷ drop (suc k) rounds = first_left rounds k r (omega (arith, c.loop-round-test.true, c.loop-round.auto.round-index-end)) c.round-item.is in
    let now : InRounds (S.scenario start) (S.entries start) c.args.group (r ∷ drop (suc k) rounds) (S.entries c.loop-round.sites) =
    subst (λ (rest : List RecoveryRound). InRounds (S.scenario start) (S.entries start) c.args.group rest (S.entries c.loop-round.sites)) here was.rounds in
    record {
      standing = was.on.stands;
      delivering = subst (λ (sc : Scenario). Delivering sc (S.entries c.loop-round.sites)) (sym was.on.scenario) was.rounds.delivering;
      begun = first_of (search rules, grind (arith, common_steps));
      settled = subst (λ (sc : Scenario). pending sc (S.entries c.loop-round.sites) ≡ []) (sym was.on.scenario) was.rounds.settled;
      turn = λ up.
          ap (λ (sc : Scenario). due_round sc (S.entries c.loop-round.sites)) was.on.scenario
          ∙ first_due (S.scenario start) (S.entries c.loop-round.sites) c.args.group (drop (suc k) rounds) r now.step now.at up;
    }

pub loop-round-preserved : goal.loop-round-preserved
loop-round-preserved g c =
    let S = g.S.Sites in
    let start = c.args.sites.now in
    let was = c.loop-round.invariant in
    let now = c.in_ok-report.ensures in
    let sc = S.scenario start in
    let line = S.entries start in
    let h = S.entries c.loop-round.sites in
    let more = S.entries c.take_turn.new.sites in
    let r = c.round-item.result in
    let k = c.loop-round.round-index in
    let rounds = c.as_slice-round-items.result.now in
    let rest : List RecoveryRound = drop (suc k) rounds in
    let low : k + 1 ≤ length rounds = omega (arith, c.loop-round-test.true) in
    let here : drop k rounds ≡ r ∷ rest = first_left rounds k r low c.round-item.is in
    let left : InRounds sc line c.args.group (r ∷ rest) h = subst (λ (l : List RecoveryRound). InRounds sc line c.args.group l h) here was.rounds in
    let were : WereUp line (r ∷ rest) = subst (λ (l : List RecoveryRound). WereUp line l) here was.were in
    let after : AfterRound sc h r more = subst (λ (s : Scenario). AfterRound s h r more) was.on.scenario now.made in
    let up : UpOrFell line more = turn_up sc line h more r was.up after in
    let on : suc k ≡ k + 1 = omega arith in
    let same : S.scenario c.take_turn.new.sites ≡ sc = now.on.scenario ∙ was.on.scenario in
    let most : S.most c.take_turn.new.sites ≡ S.most start = now.on.most ∙ was.on.most in
    let given : IsGiven sc = subst (λ (s : Scenario). IsGiven s) same (g.met.S.Sites.is_given c.take_turn.new.sites now.on.stands) in
    let legal : IsLegal sc more = subst (λ (s : Scenario). IsLegal s more) same (g.met.S.Sites.is_legal c.take_turn.new.sites now.on.stands) in
    let within : length more ≤ S.most start = subst (λ (n : ℕ). length more ≤ n) most (g.met.S.Sites.within c.take_turn.new.sites now.on.stands) in
    let turn : IsTurn sc h more r c.in_ok-report.report = is_turn sc line h more c.args.group r rest c.in_ok-report.report (record {
      given = given;
      rounds = left;
      was = were.0;
      up = up;
      after = after;
      legal = legal;
      few = omega (arith, within, c.requires.few);
      told = now.told;
    }) in
    let taken : take (k + 1) rounds ≡ take k rounds ++ r ∷ [] = take_more rounds k r (omega (arith, low)) ∙ ap (λ q. take k rounds ++ q ∷ []) (sym c.round-item.is) in
    let had : HadTurns sc line more (take k rounds ++ r ∷ []) (c.loop-round.reports ++ c.in_ok-report.report ∷ []) =
    had_turn sc line h more (take k rounds) c.loop-round.reports r c.in_ok-report.report was.had turn in
    record {
      on = goes_on was.on now.on;
      rounds = subst (λ (j : ℕ). InRounds sc line c.args.group (drop j rounds) more) on (round_on sc line h more c.args.group r rest left after);
      were = subst (λ (j : ℕ). WereUp line (drop j rounds)) on were.1;
      up = up;
      grown = stays_on line h more was.grown now.grown;
      had = subst (λ (reports : List RoundReport). HadTurns sc line more (take (k + 1) rounds) reports) (sym c.in_ok-push.ensures.ok)
          (subst (λ (l : List RecoveryRound). HadTurns sc line more l (c.loop-round.reports ++ c.in_ok-report.report ∷ [])) (sym taken) had);
    }

-- nothing is left behind the last round
none_left : (rounds : List RecoveryRound) (k : ℕ) → length rounds ≤ k → drop k rounds ≡ []
none_left [] zero all = refl
none_left [] (suc k) all = refl
none_left (r ∷ rounds) zero all = absurd (omega (arith, all))
none_left (r ∷ rounds) (suc k) all = none_left rounds k (omega (arith, all))

all_taken : (rounds : List RecoveryRound) (k : ℕ) → length rounds ≤ k → take k rounds ≡ rounds
all_taken [] zero all = refl
all_taken [] (suc k) all = refl
all_taken (r ∷ rounds) zero all = absurd (omega (arith, all))
all_taken (r ∷ rounds) (suc k) all = ap (λ l. r ∷ l) (all_taken rounds k (omega (arith, all)))

pub returns-clause-recovered : goal.returns-clause-recovered
returns-clause-recovered g c =
    let S = g.S.Sites in
    let start = c.args.sites.now in
    let h = S.entries c.loop-round.sites in
    rounds_end (S.scenario start) (S.entries start) h c.args.group
    (subst (λ (rest : List RecoveryRound). InRounds (S.scenario start) (S.entries start) c.args.group rest h)
    (none_left c.as_slice-round-items.result.now c.loop-round.round-index c.loop-round-test.false) c.loop-round.invariant.rounds)

pub returns-clause-rounds : goal.returns-clause-rounds
returns-clause-rounds g c =
    let S = g.S.Sites in
    let start = c.args.sites.now in
    let h = S.entries c.loop-round.sites in
    let all : take c.loop-round.round-index c.as_slice-round-items.result.now ≡ listed (S.scenario start) (S.entries start) c.args.group =
    all_taken c.as_slice-round-items.result.now c.loop-round.round-index c.loop-round-test.false ∙ c.as_slice-round-items.ensures ∙ c.in_ok-rounds.ensures in
    subst (λ (rounds : List RecoveryRound). HadTurns (S.scenario start) (S.entries start) h rounds c.loop-round.reports) all c.loop-round.invariant.had

pub returns-in_err-report-clause-full : goal.returns-in_err-report-clause-full
returns-in_err-report-clause-full g c = λ is.
    let S = g.S.Sites in
    let was = c.loop-round.invariant in
    let more = S.entries c.take_turn.new.sites in
    let full : IsFullBefore IsPacketOrRound (S.scenario c.loop-round.sites) more (S.most c.loop-round.sites) =
    c.in_err-report.ensures.full (ap Err (err_is c.from_residual-in_err-report.result c.in_err-report.field-0.0 HistoryFull c.from_residual-in_err-report.ensures.1 is)) in
    let P : Scenario → Type 0 = λ sc. IsFullBefore IsPacketOrRound sc more (S.most c.args.sites.now) in
    let Q : ℕ → Type 0 = λ most. IsFullBefore IsPacketOrRound (S.scenario c.loop-round.sites) more most in
    subst P was.on.scenario (subst Q was.on.most full)

pub returns-in_err-report-clause-grown : goal.returns-in_err-report-clause-grown
returns-in_err-report-clause-grown g c =
    let S = g.S.Sites in
    stays_on (S.entries c.args.sites.now) (S.entries c.loop-round.sites) (S.entries c.take_turn.new.sites) c.loop-round.invariant.grown c.take_turn.ensures.grown

pub returns-in_err-rounds-clause-grown : goal.returns-in_err-rounds-clause-grown
returns-in_err-rounds-clause-grown g c = stays_none (g.S.Sites.entries c.args.sites.now)

pub listed-requires : goal.listed-requires
listed-requires g c = record { standing = c.requires.standing }

pub returns-in_err-rounds-clause-on : goal.returns-in_err-rounds-clause-on
returns-in_err-rounds-clause-on g c = rests c.requires.standing

pub returns-in_err-rounds-clause-full : goal.returns-in_err-rounds-clause-full
returns-in_err-rounds-clause-full g c = λ is. absurd (no_memory c.from_residual.result c.from_residual.ensures.1 is)

pub returns-in_err-report-clause-on : goal.returns-in_err-report-clause-on
returns-in_err-report-clause-on g c = goes_on c.loop-round.invariant.on c.take_turn.ensures.on

pub returns-in_err-push-clause-on : goal.returns-in_err-push-clause-on
returns-in_err-push-clause-on g c = goes_on c.loop-round.invariant.on c.take_turn.ensures.on

pub returns-in_err-push-clause-grown : goal.returns-in_err-push-clause-grown
returns-in_err-push-clause-grown g c =
    let S = g.S.Sites in
    stays_on (S.entries c.args.sites.now) (S.entries c.loop-round.sites) (S.entries c.take_turn.new.sites) c.loop-round.invariant.grown c.take_turn.ensures.grown

pub returns-in_err-push-clause-full : goal.returns-in_err-push-clause-full
returns-in_err-push-clause-full g c = λ is. absurd (no_memory c.from_residual-in_err-push.result c.from_residual-in_err-push.ensures.1 is)

pub returns-clause-on : goal.returns-clause-on
returns-clause-on g c = c.loop-round.invariant.on

pub returns-clause-grown : goal.returns-clause-grown
returns-clause-grown g c = c.loop-round.invariant.grown
