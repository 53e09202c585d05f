-- The election and the round that are in progress are the same in both lives.
use Rattle.std.proofs.Common.{◌≡◌, ◌∷◌, [], ℕ, suc, List, Option, Some, None, refl, ap, ◌∙◌, if◌then◌else◌}
use Rattle.e3_types.specs.declared.entries.Input.{Input}
use Rattle.e3_types.specs.declared.entries.Input.TheVariants as input
use Rattle.e3_types.specs.declared.entries.Told.{Told}
use Rattle.e3_types.specs.declared.messages.Message.{Message}
use Rattle.e3_types.specs.declared.messages.Message.TheVariants as msg
use Rattle.e3_types.specs.declared.messages.Packet.{Packet}
use Rattle.e3_types.specs.declared.records.Record.{Record}
use Rattle.e3_types.specs.declared.transactions.Call.{Call}
use Rattle.e3_types.specs.declared.transactions.Txn.{Txn}
use Rattle.e3_types.specs.Same.{same_txn}
use Rattle.e3_world.specs.Gatherings.{Election, Elections, Rounds}
use Rattle.e3_world.specs.declared.lives.SiteStep.{SiteStep}
use Rattle.e3_world.specs.Elections.{after_heard, all_heard, begun, election_by, election_in_progress, election_with, ends_election, hear, heard_more, joined_in, next_call}
use Rattle.e3_world.specs.Logs.{last_elected}
use Rattle.e3_world.specs.Rounds.{round_by, round_in_progress}
use Rattle.e3_laws.proofs.brief.Alike.Notes.{NotesAlike, notes_state}
use Rattle.e3_laws.proofs.brief.Alike.Twins.{Twin, elects_twins, fold_twins, left, moment, right}

-- an election behind a step of both
after_twin : (site : ℕ) (t : Txn) (w : Twin) (e : Election) → after_heard site t (moment w.before w.step) e ≡ after_heard site t (moment w.other w.step) e
after_twin site t w e = by (joined_in t w.step.records) refl
  where
    by : (o : Option ℕ) → joined_in t w.step.records ≡ o → after_heard site t (moment w.before w.step) e ≡ after_heard site t (moment w.other w.step) e
    by None is = rw is refl
    by (Some n) is = rw is (λ j. if all_heard e
        then Some (record e { number = Some n; reports = record { site = site; state = notes_state w.before w.other w.same t j; attempt = w.same.attempt t j } ∷ [] }) else Some e)

more_twin : (site : ℕ) (t : Txn) (w : Twin) (e : Election) (o : Option Election) → heard_more site t (moment w.before w.step) e o ≡ heard_more site t (moment w.other w.step) e o
more_twin site t w e None = refl
more_twin site t w e (Some more) = after_twin site t w more

with_twin : (site : ℕ) (t : Txn) (w : Twin) (e : Election) (f : ℕ) (x : Message)
    → election_with site t (moment w.before w.step) e f x ≡ election_with site t (moment w.other w.step) e f x
with_twin site t w e f (msg.LastElected u call elected) = λ j. if same_txn t u then more_twin site t w e (hear e f call elected) j else Some e
with_twin site t w e f x = refl

abbrev twin_with : (u v : List Record) → NotesAlike u v → SiteStep → Twin
twin_with u v same s = record { before = u; other = v; same = same; step = s }

abbrev step_with : Input → List Record → List Packet → List Told → SiteStep
step_with i rs outs events = record { input = i; records = rs; outs = outs; told = events }

elected_same : (site inc : ℕ) (t : Txn) (u v : List Record) (same : NotesAlike u v) (i : Input) (rs : List Record) (outs : List Packet) (events : List Told) (was : Elections)
    → election_by site inc t was (moment u (step_with i rs outs events)) ≡ election_by site inc t was (moment v (step_with i rs outs events))
elected_same site inc t u v same (input.Elect x group) rs outs events was = λ j. record {
  calls = suc was.calls;
  now = if ends_election t (moment u s) then None else (if same_txn t x then begins j else was.now);
}
  where
    s : SiteStep
    s = step_with (input.Elect x group) rs outs events

    call : Call
    call = record { inc = inc; seq = suc was.calls }

    begins : after_heard site t (moment u s) (begun site call group (last_elected t u)) ≡ after_heard site t (moment v s) (begun site call group (last_elected t v))
    begins =
        ap (λ (n : ℕ). after_heard site t (moment u s) (begun site call group n)) (same.elected t)
        ∙ after_twin site t (twin_with u v same s) (begun site call group (last_elected t v))
elected_same site inc t u v same (input.Deliver packet) rs outs events was = by was.now refl
  where
    s : SiteStep
    s = step_with (input.Deliver packet) rs outs events

    by : (o : Option Election) → was.now ≡ o → election_by site inc t was (moment u s) ≡ election_by site inc t was (moment v s)
    by None is = rw is refl
    by (Some e) is = rw is (λ j. record {
      calls = was.calls;
      now = if ends_election t (moment u s) then None else with_twin site t (twin_with u v same s) e packet.«from» packet.msg j;
    })
elected_same site inc t u v same i rs outs events was = refl

pub election_twins : (site inc : ℕ) (t : Txn) (ts : List Twin) → election_in_progress site inc t (left ts) ≡ election_in_progress site inc t (right ts)
election_twins site inc t ts = ap (λ (w : Elections). w.now)
    (fold_twins (election_by site inc t)
    (λ w was. elected_same site inc t w.before w.other w.same w.step.input w.step.records w.step.outs w.step.told was)
    (record { calls = 0; now = None }) ts)

pub round_twins : (site : ℕ) (t : Txn) (ts : List Twin) → round_in_progress site t (left ts) ≡ round_in_progress site t (right ts)
round_twins site t ts = ap (λ (w : Rounds). w.now) (fold_twins (round_by site t) (λ w was. refl) (record { group = []; now = None }) ts)

pub call_twins : (inc : ℕ) (ts : List Twin) → next_call inc (left ts) ≡ next_call inc (right ts)
call_twins inc ts = λ j. record { inc = inc; seq = suc (elects_twins ts j) }
