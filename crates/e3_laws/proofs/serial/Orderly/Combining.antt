-- A log whose records stand in place, come in turn, suit their site and whose votes fit is orderly.
use Rattle.std.proofs.Common.{◌≡◌, ◌≢◌, ◌≤◌, ◌++◌, ◌∷◌, [], ℕ, suc, true, List, length, refl, sym, subst, ap, ◌∙◌, append-nil, append_assoc, arith, eq-eqb}
use Rattle.std.specs.List.{AllByRecursion as Each}
use Rattle.std.proofs.lemmas.Bool.{and_from, le-leb}
use Rattle.std.proofs.lemmas.Grind.{fold-append}
use Rattle.e3_types.specs.declared.entries.Entry.{Entry}
use Rattle.e3_types.specs.declared.records.Record.{Record}
use Rattle.e3_types.specs.declared.records.Record.TheVariants as log
use Rattle.e3_types.specs.declared.scenarios.Scenario.{Scenario}
use Rattle.e3_types.specs.declared.transactions.Txn.{Txn}
use Rattle.e3_world.specs.Given.{IsGiven}
use Rattle.e3_world.specs.Logs.{logged_inc}
use Rattle.e3_world.specs.Legal.{IsLegal}
use Rattle.e3_world.specs.Moves.{birth, log_by, log_of, moves_at, moves_of, trail_of}
use Rattle.e3_world.specs.Orderly.{OrderlyAfter, MayFollow, weights_by, weights_in, is_among, is_known}
use Rattle.e3_world.proofs.Pushes.{life_log_at}
use Rattle.e3_laws.specs.steps.Bounds.{SuitsLog}
use Rattle.e3_laws.specs.steps.Trails.{TrailsAreSound, LogsAreOfTrails}
use Rattle.e3_laws.proofs.steps.Suits.Holding.{Holds, legal_holds}
use Rattle.e3_laws.specs.serial.Claims.{LogsAreOrdered}
use Rattle.e3_laws.specs.serial.Orderly.{IncarnationsCountUp, LogsAreOrderly}
use Rattle.e3_laws.specs.serial.Turns.{ComesInTurn, InTurnAfter}
use Rattle.e3_laws.proofs.serial.Orderly.Logs.{come_in_turn}
use Rattle.e3_laws.proofs.serial.Orderly.Rows.{rows_ascend}
use Rattle.e3_laws.proofs.serial.Orderly.Few.{votes_are_few}
use Rattle.e3_laws.proofs.serial.Orderly.Shape.{IsSite, Stands, StandAfter, legal_shaped}
use Rattle.e3_laws.proofs.serial.Orderly.Votes.{Fits, VotesFit, votes_fit}

-- the weights of a log that is not empty are the scenario's
abbrev HasWeights : Scenario → List Record → Type 0
HasWeights sc before = before ≢ [] → weights_in before ≡ sc.weights

among_self : (site : ℕ) (weights : List ℕ) → 1 ≤ site → site ≤ length weights → is_among site weights (site ∷ []) ≡ true
among_self site weights low high = rw (eq-eqb site site refl, le-leb 1 site low, le-leb site (length weights) high) refl

some_inc : (before : List Record) → 1 ≤ logged_inc before → before ≢ []
some_inc [] some e = absurd (omega arith)
some_inc (r ∷ rs) some e = absurd cc

birth_follows : (sc : Scenario) (site : ℕ) → IsGiven sc → IsSite sc site → MayFollow site [] (birth sc site)
birth_follows sc site given here = record {
  first = refl;
  one = refl;
  of_site = refl;
  known = among_self site sc.weights here.0 here.1;
  few = given.few;
  weighed = given.weighed;
  ascending = rows_ascend site sc.rows;
}

known : (sc : Scenario) (site : ℕ) (before : List Record) (t : Txn) → HasWeights sc before → 1 ≤ logged_inc before → is_among site sc.weights t.sites ≡ true →
    is_known site before t ≡ true
known sc site before t has some among =
    let same : weights_in before ≡ sc.weights = has (some_inc before some) in
    let P : List ℕ → Type 0 = λ w. is_among site w t.sites ≡ true in
    and_from _ _ (le-leb 1 (logged_inc before) some) (subst P (sym same) among)

may_follow : (sc : Scenario) (site : ℕ) (before : List Record) (r : Record) → IsGiven sc → HasWeights sc before →
    Stands sc site before r → SuitsLog sc.weights site r → ComesInTurn before r → Fits before r → MayFollow site before r
may_follow sc site before (log.Birth format number weights rows) given has stands suits turn fits =
    let P : List Record → Type 0 = λ l. MayFollow site l (log.Birth format number weights rows) in
    let Q : Record → Type 0 = λ r. MayFollow site [] r in
    subst P (sym stands.0) (subst Q (sym stands.1) (birth_follows sc site given stands.2))
may_follow sc site before (log.Inc n) given has stands suits turn fits = record {
  born = stands.0;
  first = λ zero. omega (arith, stands.1);
  next = λ some. stands.1;
}
may_follow sc site before (log.Vote t ops) given has stands suits turn fits = record {
  known = known sc site before t has stands suits.0;
  fresh = turn.fresh;
  not_joined = turn.not_joined;
  ascending = fits.ascending;
  few = fits.few;
  free = fits.free;
}
may_follow sc site before (log.Join t n) given has stands suits turn fits = record { known = known sc site before t has stands suits; rises = turn }
may_follow sc site before (log.Attempt t n dir) given has stands suits turn fits = record {
  known = known sc site before t has stands suits;
  undecided = turn.undecided;
  elected = turn.elected;
  rises = turn.rises;
  first = turn.first;
}
may_follow sc site before (log.Decision t dir) given has stands suits turn fits = record {
  known = known sc site before t has stands suits;
  undecided = turn.undecided;
  voted = turn.voted;
}

some_stand : (sc : Scenario) (site : ℕ) (r : Record) → Stands sc site [] r → r ≡ birth sc site
some_stand sc site (log.Birth format number weights rows) stands = stands.1
some_stand sc site (log.Inc n) stands = absurd (stands.0 refl)
some_stand sc site (log.Vote t ops) stands = absurd (omega (arith, stands))
some_stand sc site (log.Join t n) stands = absurd (omega (arith, stands))
some_stand sc site (log.Attempt t n dir) stands = absurd (omega (arith, stands))
some_stand sc site (log.Decision t dir) stands = absurd (omega (arith, stands))

keeps_weights : (sc : Scenario) (site : ℕ) (before : List Record) (r : Record) (was : List ℕ) → before ≢ [] → Stands sc site before r → weights_by was r ≡ was
keeps_weights sc site before (log.Birth format number weights rows) was some stands = absurd (some stands.0)
keeps_weights sc site before (log.Inc n) was some stands = refl
keeps_weights sc site before (log.Vote t ops) was some stands = refl
keeps_weights sc site before (log.Join t n) was some stands = refl
keeps_weights sc site before (log.Attempt t n dir) was some stands = refl
keeps_weights sc site before (log.Decision t dir) was some stands = refl

-- the weights with one more record
has_more : (sc : Scenario) (site : ℕ) (before : List Record) (r : Record) → HasWeights sc before → Stands sc site before r → HasWeights sc (before ++ r ∷ [])
has_more sc site [] r has stands = λ some. ap (weights_by []) (some_stand sc site r stands)
has_more sc site (b ∷ before) r has stands = λ some.
    let there : (b ∷ before) ≢ [] = λ e. absurd cc in
    fold-append weights_by [] (b ∷ before) (r ∷ []) ∙ keeps_weights sc site (b ∷ before) r (weights_in (b ∷ before)) there stands ∙ has there

combine : (sc : Scenario) (site : ℕ) (before rest : List Record) → IsGiven sc → HasWeights sc before →
    StandAfter sc site before rest → Each (SuitsLog sc.weights site) rest → InTurnAfter before rest → VotesFit before rest → OrderlyAfter site before rest
combine sc site before [] given has stand suits turn fits = tt
combine sc site before (r ∷ rest) given has stand suits turn fits = (
  may_follow sc site before r given has stand.0 suits.0 turn.0 fits.0,
  combine sc site (before ++ r ∷ []) rest given (has_more sc site before r has stand.0) stand.1 suits.1 turn.1 fits.1,
)

-- the votes of a log in a legal history
legal_fit : TrailsAreSound → LogsAreOfTrails → LogsAreOrdered → (sc : Scenario) (h : List Entry) (site : ℕ) → IsGiven sc → IsLegal sc h → VotesFit [] (log_of sc h site)
legal_fit sound logs ordered sc h site given legal =
    let P : List Record → Type 0 = VotesFit [] in
    let made : List Record = log_by (moves_at site (trail_of sc h)) in
    subst P (logs sc h site)
    (votes_fit sc site made [] made refl ((ordered sc h given legal).logs site) (votes_are_few sc (trail_of sc h) site (sound sc h given legal)))

pub logs_are_orderly : TrailsAreSound → LogsAreOfTrails → LogsAreOrdered → LogsAreOrderly
logs_are_orderly sound logs ordered sc h site given legal =
    let Q : List Record → Type 0 = Each (SuitsLog sc.weights site) in
    let holds : Holds sc h = legal_holds sc h given legal in
    combine sc site [] (log_of sc h site) given (λ e. absurd (e refl)) (legal_shaped sc h site given legal).log
    (subst Q (life_log_at (moves_of sc h site)) (holds.now.sites site).life.log) (come_in_turn sc h site given legal) (legal_fit sound logs ordered sc h site given legal)

-- an incarnation in the middle stands behind what is before it
inc_stands : (sc : Scenario) (site : ℕ) (before xs rest : List Record) (n : ℕ) → StandAfter sc site before (xs ++ log.Inc n ∷ rest) → n ≡ suc (logged_inc (before ++ xs))
inc_stands sc site before [] rest n stand =
    let P : List Record → Type 0 = λ l. n ≡ suc (logged_inc l) in subst P (sym (append-nil before)) stand.0.1
inc_stands sc site before (x ∷ xs) rest n stand =
    let P : List Record → Type 0 = λ l. n ≡ suc (logged_inc l) in
    subst P (append_assoc before (x ∷ []) xs) (inc_stands sc site (before ++ x ∷ []) xs rest n stand.1)

pub incarnations_count_up : IncarnationsCountUp
incarnations_count_up sc h site before rest n given legal is =
    let P : List Record → Type 0 = λ l. StandAfter sc site [] l in
    inc_stands sc site [] before rest n (subst P is (legal_shaped sc h site given legal).log)
