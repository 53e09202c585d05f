-- The election, the round and the votes of a transaction, behind one more step.
use Rattle.std.specs.Prelude.{◌≡◌, ◌+◌, ◌++◌, ◌∷◌, [], if◌then◌else◌, ℕ, suc, Bool, true, false, List, Option, Some, None, fold, count_by}
use Rattle.std.proofs.Common.{refl, ap, sym, ◌∙◌, arith}
use Rattle.std.proofs.lemmas.Grind.{common_steps}
use Rattle.std.proofs.lemmas.List.Sums.{fold-append, sum_by-append}
use Rattle.e3_types.specs.declared.entries.Input.{Input}
use Rattle.e3_types.specs.declared.messages.Message.{Message}
use Rattle.e3_types.specs.declared.messages.Packet.{Packet}
use Rattle.e3_types.specs.declared.records.Record.{Record}
use Rattle.e3_types.specs.declared.transactions.State.{State}
use Rattle.e3_types.specs.declared.transactions.Txn.{Txn}
use Rattle.e3_types.specs.declared.verdicts.SiteReport.{SiteReport}
use Rattle.e3_types.specs.declared.entries.Input.TheVariants as input
use Rattle.e3_types.specs.declared.messages.Message.TheVariants as msg
use Rattle.e3_types.specs.Same.{same_txn}
use Rattle.e3_world.specs.Gatherings.{Election, Elections, Rounds}
use Rattle.e3_world.specs.declared.lives.Life.{Life}
use Rattle.e3_world.specs.declared.lives.Moment.{Moment}
use Rattle.e3_world.specs.declared.lives.SiteStep.{SiteStep}
use Rattle.e3_world.specs.Elections.{begun, election_by, election_in_progress, ends_election, is_elect}
use Rattle.e3_world.specs.Logs.{last_elected, last_attempt}
use Rattle.e3_world.specs.Rounds.{round_by}
use Rattle.e3_world.specs.Votes.{yes_by, yes_votes}
use Rattle.e3_readings.specs.Electing.{election_taking, heard_all, report_by}
use Rattle.e3_readings.proofs.Reporting.{heard_all_is, taking_is}
use Rattle.e3_cards.specs.Cards.{moment_of, rounds_of}
use Rattle.e3_cards.specs.Electing.{election_now, seen_report}
use Rattle.e3_cards.specs.Seeing.{seen_of}
use Rattle.e3_cards.proofs.Arrivals.{state_seen}

-- the moment of a step of a life
abbrev pub lived : Life → SiteStep → Moment
lived life s = record { before = life.log; input = s.input; records = s.records; outs = s.outs; told = s.told }

-- the votes behind one more step
pub yes_step : (t : Txn) (life : Life) (s : SiteStep) → yes_votes t (life.steps ++ lived life s ∷ []) ≡ yes_by t (yes_votes t life.steps) (lived life s)
yes_step t life s =
    let none : Option (List ℕ) = None in
    fold-append (yes_by t) none life.steps (lived life s ∷ [])

-- the log before a step is nothing to the round
round_lived : (site : ℕ) (t : Txn) (was : Rounds) (life : Life) (s : SiteStep) → round_by site t was (lived life s) ≡ round_by site t was (moment_of s)
round_lived site t was life s = by s.input
  where
    by_msg : (packet : Packet) (k : Message)
        → round_by site t was (lived life (record s { input = input.Deliver (record packet { msg = k }) })) ≡ round_by site t was (moment_of (record s { input = input.Deliver (record packet { msg = k }) }))
    by_msg packet (msg.Ack u n dir) = refl
    by_msg packet _ = refl

    by : (i : Input) → round_by site t was (lived life (record s { input = i })) ≡ round_by site t was (moment_of (record s { input = i }))
    by (input.Deliver packet) = by_msg packet packet.msg
    by _ = refl

-- the round behind one more step
pub rounds_step : (site : ℕ) (t : Txn) (life : Life) (s : SiteStep) → rounds_of site t (life.steps ++ lived life s ∷ []) ≡ round_by site t (rounds_of site t life.steps) (moment_of s)
rounds_step site t life s =
    let start : Rounds = record { group = []; now = None } in
    fold-append (round_by site t) start life.steps (lived life s ∷ []) ∙ round_lived site t (rounds_of site t life.steps) life s

-- what was seen serves in place of the log
report_seen : (site : ℕ) (t : Txn) (log : List Record) → report_by site t log ≡ seen_report site (seen_of t log)
report_seen site t log =
    let with_state : State → SiteReport = λ st. record { site = site; state = st; attempt = last_attempt t log } in
    ap with_state (sym (state_seen t log))

-- the elections behind one more moment
election_one : (site inc : ℕ) (t : Txn) (was : Elections) (life : Life) (s : SiteStep)
    → (election_by site inc t was (lived life s)).now ≡ election_now site (record { inc = inc; seq = suc was.calls }) t (seen_of t life.log) was.now s
election_one site inc t was life s = by s.input
  where
    still : Option Election → Option Election
    still e = if ends_election t (lived life s) then None else e

    by_packet : (packet : Packet) (now : Option Election)
        → (election_by site inc t (record was { now = now }) (lived life (record s { input = input.Deliver packet }))).now
        ≡ election_now site (record { inc = inc; seq = suc was.calls }) t (seen_of t life.log) now (record s { input = input.Deliver packet })
    by_packet packet None = refl
    by_packet packet (Some n) =
        let taking : SiteReport → Option Election = λ report. still (election_taking t report s.records packet.«from» packet.msg n) in
        ap still (taking_is site t (lived life (record s { input = input.Deliver packet })) n packet.«from» packet.msg)
        ∙ ap taking (report_seen site t life.log)

    by : (i : Input) → (election_by site inc t was (lived life (record s { input = i }))).now
        ≡ election_now site (record { inc = inc; seq = suc was.calls }) t (seen_of t life.log) was.now (record s { input = i })
    by (input.Elect u group) =
        let anew : Option Election → Option Election = λ o. still (if same_txn t u then o else was.now) in
        let e : Election = begun site (record { inc = inc; seq = suc was.calls }) group (last_elected t life.log) in
        let joining : SiteReport → Option Election = λ report. anew (heard_all t report s.records e) in
        ap anew (heard_all_is site t (lived life (record s { input = input.Elect u group })) e)
        ∙ ap joining (report_seen site t life.log)
    by (input.Deliver packet) = by_packet packet was.now
    by _ = refl

-- the calls are counted alike
one_call : (site inc : ℕ) (t : Txn) (was : Elections) (m : Moment) → (election_by site inc t was m).calls ≡ was.calls + count_by is_elect (m ∷ [])
one_call site inc t was m = by m.input
  where
    by : (i : Input) → (election_by site inc t was (record m { input = i })).calls ≡ was.calls + count_by is_elect (record m { input = i } ∷ [])
    by (input.Elect u group) = omega arith
    by _ = omega arith

calls_from : (site inc : ℕ) (t : Txn) (was : Elections) (steps : List Moment) →
    (fold (election_by site inc t) was steps).calls ≡ was.calls + count_by is_elect steps
calls_from site inc t was [] = omega arith
calls_from site inc t was (m ∷ steps) =
    let rest : (fold (election_by site inc t) (election_by site inc t was m) steps).calls ≡ (election_by site inc t was m).calls + count_by is_elect steps =
    calls_from site inc t (election_by site inc t was m) steps in
    let one = one_call site inc t was m in
    let both : count_by is_elect (m ∷ steps) ≡ count_by is_elect (m ∷ []) + count_by is_elect steps = sum_by-append _ (m ∷ []) steps in
    omega (arith, rest, one, both)

-- the election behind one more step
pub election_step : (site : ℕ) (t : Txn) (life : Life) (s : SiteStep)
    → election_in_progress site life.inc t (life.steps ++ lived life s ∷ [])
    ≡ election_now site (record { inc = life.inc; seq = suc (count_by is_elect life.steps) }) t (seen_of t life.log) (election_in_progress site life.inc t life.steps) s
election_step site t life s =
    let start : Elections = record { calls = 0; now = None } in
    let was : Elections = fold (election_by site life.inc t) start life.steps in
    let calls : was.calls ≡ count_by is_elect life.steps = let all = calls_from site life.inc t start life.steps in omega (arith, all) in
    ap (λ (e : Elections). e.now) (fold-append (election_by site life.inc t) start life.steps (lived life s ∷ []))
    ∙ election_one site life.inc t was life s
    ∙ ap (λ (n : ℕ). election_now site (record { inc = life.inc; seq = suc n }) t (seen_of t life.log) was.now s) calls

-- a count behind one more
pub count_push : (p : Moment → Bool) (xs : List Moment) (m : Moment) → count_by p (xs ++ m ∷ []) ≡ (if p m then suc (count_by p xs) else count_by p xs)
count_push p xs m = by (p m) refl
  where
    by : (b : Bool) → p m ≡ b → count_by p (xs ++ m ∷ []) ≡ (if p m then suc (count_by p xs) else count_by p xs)
    by true is = let both = sum_by-append (λ x. if p x then 1 else 0) xs (m ∷ []) in grind (arith, common_steps, both, is)
    by false is = let both = sum_by-append (λ x. if p x then 1 else 0) xs (m ∷ []) in grind (arith, common_steps, both, is)
