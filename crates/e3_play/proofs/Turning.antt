-- A round at its turn: what its report says, and how it ends.
use Rattle.std.proofs.Common.{◌≡◌, ◌∙◌, ◌||◌, ◌++◌, ◌∷◌, [], ◌≤◌, inl, inr, ℕ, Bool, true, false, List, length, None, refl, sym, subst, ap, append-nil, append_assoc}
use Rattle.std.specs.Prelude.{drop}
use Rattle.std.specs.List.{list_all}
use Rattle.std.proofs.lemmas.List.Folds.{list_any-append}
use Rattle.e3_types.specs.declared.entries.Entry.{Entry}
use Rattle.e3_types.specs.declared.entries.Input.TheVariants as input
use Rattle.e3_types.specs.declared.scenarios.Scenario.{Scenario}
use Rattle.e3_world.specs.Given.{IsGiven}
use Rattle.e3_world.specs.Items.{RecoveryRound, is_up_at, since_line}
use Rattle.e3_world.specs.Legal.{IsLegal}
use Rattle.e3_world.specs.Packets.{pending}
use Rattle.e3_world.proofs.Readings.{since_push}
use Rattle.e3_world.proofs.Turns.{true_not_false}
use Rattle.e3_play.specs.Entering.{AfterInput, IsFallen, fall_of}
use Rattle.e3_laws.specs.rounds.Rounds.{RoundEnds, RoundStands, elect_entry}
use Rattle.e3_laws.proofs.rounds.Whole.{rounds_end}
use Rattle.e3_play.specs.Reports.{HadTurns, IsReport, IsTurn, is_fall_of, one_falls, verdict_of}
use Rattle.e3_play.specs.Rounds.{AfterRound, IsMade, IsPassed}
use Rattle.e3_play.specs.declared.reporting.RoundReport.{RoundReport}
use Rattle.e3_play.proofs.Falling.{AreLater, UpOrFell, WasUp, all_up, members_up, packets_later, packets_up, up_push}
use Rattle.e3_play.proofs.Left.{first_due}
use Rattle.e3_play.proofs.Making.{InRounds, drop_front}
use Rattle.e3_play.proofs.Told.{one_is_told, some_told}

-- what is known of a round at its turn, and of what came of it
pub record AtTurn (sc : Scenario) (start h more : List Entry) (group : List ℕ) (r : RecoveryRound) (rest : List RecoveryRound) (report : RoundReport) : Type 0 where
  pub given : IsGiven sc
  pub rounds : InRounds sc start group (r ∷ rest) h
  pub was : WasUp start r
  pub up : UpOrFell start more
  pub after : AfterRound sc h r more
  pub legal : IsLegal sc more
  pub few : length more ≤ 2000000
  pub told : IsReport h more r report

-- what a round entered, and how it ends
record Entered (sc : Scenario) (h more : List Entry) (r : RecoveryRound) : Type 0 where
  pub entered : List Entry
  pub is : more ≡ h ++ entered
  pub ends : one_falls r.members (since_line more) ≡ false → RoundEnds sc h entered r

-- its Elect was a step
by_step : (sc : Scenario) (start h more : List Entry) (group : List ℕ) (r : RecoveryRound) (rest : List RecoveryRound) (report : RoundReport) →
    AtTurn sc start h more group r rest report → (made : IsMade sc h r more) → made.elected ≡ h ++ elect_entry sc h r ∷ [] → Entered sc h more r
by_step sc start h more group r rest report at made stepped = record { entered = e ∷ later.entries; is = is; ends = ends }
  where
    e : Entry
    e = elect_entry sc h r

    later : AreLater made.elected more
    later = packets_later sc made.elected more made.delivered

    is : more ≡ h ++ e ∷ later.entries
    is = later.is ∙ ap (λ l. l ++ later.entries) stepped ∙ append_assoc h (e ∷ []) later.entries

    stands : RoundStands sc more r
    stands = record {
      start = h;
      more = later.entries;
      after = [];
      is = is ∙ sym (append-nil (h ++ e ∷ later.entries));
      due = first_due sc h group rest r at.rounds.step at.rounds.at made.up;
      settled = at.rounds.settled;
      one_step = later.no_line;
      one_round = later.no_elect;
      ended = ap (pending sc) (sym is) ∙ made.settled;
    }

    ends : one_falls r.members (since_line more) ≡ false → RoundEnds sc h (e ∷ later.entries) r
    ends none =
        let up : list_all (is_up_at more) r.members ≡ true = all_up (is_up_at more) r.members (members_up start more r at.was at.up none) in
        rounds_end sc more r at.given at.legal at.few stands (subst (λ l. list_all (is_up_at l) r.members ≡ true) is up)

-- the elector fell over its Elect
by_fall : (sc : Scenario) (start h more : List Entry) (group : List ℕ) (r : RecoveryRound) (rest : List RecoveryRound) (report : RoundReport) →
    AtTurn sc start h more group r rest report → (made : IsMade sc h r more) → IsFallen sc h r.elector (input.Elect r.txn r.members) made.elected → Entered sc h more r
by_fall sc start h more group r rest report at made fell = record {
  entered = e ∷ later.entries;
  is = later.is ∙ ap (λ l. l ++ later.entries) fell.entered ∙ append_assoc h (e ∷ []) later.entries;
  ends = λ none. absurd (true_not_false (sym falls ∙ none));
}
  where
    e : Entry
    e = fall_of sc h r.elector (input.Elect r.txn r.members) fell.why

    later : AreLater made.elected more
    later = packets_later sc made.elected more made.delivered

    since : since_line more ≡ since_line h ++ e ∷ later.entries
    since =
        later.since ∙ ap (λ l. since_line l ++ later.entries) fell.entered ∙ ap (λ l. l ++ later.entries) (since_push h e refl)
        ∙ append_assoc (since_line h) (e ∷ []) later.entries

    or_last : (b : Bool) → (b || true) ≡ true
    or_last true = refl
    or_last false = refl

    falls : one_falls r.members (since_line more) ≡ true
    falls =
        ap (one_falls r.members) since
        ∙ list_any-append (is_fall_of r.members) (since_line h) (e ∷ later.entries)
        ∙ (let here : one_falls r.members (e ∷ later.entries) ≡ true = rw at.was.elects refl in ap (λ b. one_falls r.members (since_line h) || b) here)
        ∙ or_last (one_falls r.members (since_line h))

-- it was passed over
by_none : (sc : Scenario) (start h more : List Entry) (group : List ℕ) (r : RecoveryRound) (rest : List RecoveryRound) (report : RoundReport) →
    AtTurn sc start h more group r rest report → IsPassed h r more → Entered sc h more r
by_none sc start h more group r rest report at passed = record {
  entered = [];
  is = passed.same ∙ sym (append-nil h);
  ends = λ none. absurd (true_not_false (
      sym (members_up start more r at.was at.up none r.elector at.was.elects)
      ∙ ap (λ l. is_up_at l r.elector) passed.same ∙ passed.down));
}

entered_by : (sc : Scenario) (start h more : List Entry) (group : List ℕ) (r : RecoveryRound) (rest : List RecoveryRound) (report : RoundReport) →
    AtTurn sc start h more group r rest report → AfterRound sc h r more → Entered sc h more r
entered_by sc start h more group r rest report at (inr passed) = by_none sc start h more group r rest report at passed
entered_by sc start h more group r rest report at (inl made) = by made.entered
  where
    by : AfterInput sc h r.elector (input.Elect r.txn r.members) made.elected → Entered sc h more r
    by (inl stepped) = by_step sc start h more group r rest report at made stepped
    by (inr fell) = by_fall sc start h more group r rest report at made fell

pub is_turn : (sc : Scenario) (start h more : List Entry) (group : List ℕ) (r : RecoveryRound) (rest : List RecoveryRound) (report : RoundReport) →
    AtTurn sc start h more group r rest report → IsTurn sc h more r report
is_turn sc start h more group r rest report at = record {
  turn = at.after;
  entered = all.entered;
  is = all.is;
  txn = at.told.txn;
  told = told;
  silent = λ nothing. silent nothing (one_falls r.members (since_line more)) refl;
  ends = all.ends;
}
  where
    all : Entered sc h more r
    all = entered_by sc start h more group r rest report at at.after

    told : report.verdict ≡ verdict_of r all.entered
    told = at.told.told ∙ ap (verdict_of r) (ap (drop (length h)) all.is ∙ drop_front h all.entered)

    silent : report.verdict ≡ None → (b : Bool) → one_falls r.members (since_line more) ≡ b → one_falls r.members (since_line more) ≡ true
    silent nothing true is = is
    silent nothing false is =
        let ends : RoundEnds sc h all.entered r = all.ends is in
        absurd (some_told report.verdict ends.concluded (told ∙ one_is_told r all.entered ends.concluded ends.one) nothing)

-- what a round at its turn leaves of the sites that were up
pub turn_up : (sc : Scenario) (start h more : List Entry) (r : RecoveryRound) → UpOrFell start h → AfterRound sc h r more → UpOrFell start more
turn_up sc start h more r was (inr passed) = subst (λ l. UpOrFell start l) (sym passed.same) was
turn_up sc start h more r was (inl made) = packets_up sc start made.elected more (by made.entered) made.delivered
  where
    by : AfterInput sc h r.elector (input.Elect r.txn r.members) made.elected → UpOrFell start made.elected
    by (inl stepped) = subst (λ l. UpOrFell start l) (sym stepped) (up_push start h (elect_entry sc h r) refl (λ is b. refl) was)
    by (inr fell) = subst (λ l. UpOrFell start l) (sym fell.entered)
        (up_push start h (fall_of sc h r.elector (input.Elect r.txn r.members) fell.why) refl (λ is b. absurd cc) was)

-- one more round had its turn
pub had_turn : (sc : Scenario) (before h after : List Entry) (rounds : List RecoveryRound) (reports : List RoundReport) (r : RecoveryRound) (report : RoundReport) →
    HadTurns sc before h rounds reports → IsTurn sc h after r report → HadTurns sc before after (rounds ++ r ∷ []) (reports ++ report ∷ [])
had_turn sc before h after [] [] r report were turn = (after, subst (λ l. IsTurn sc l after r report) were turn, refl)
had_turn sc before h after (q ∷ rounds) (p ∷ reports) r report were turn = (were.0, were.1, had_turn sc were.0 h after rounds reports r report were.2 turn)
had_turn sc before h after [] (p ∷ reports) r report were turn = absurd were
had_turn sc before h after (q ∷ rounds) [] r report were turn = absurd were
