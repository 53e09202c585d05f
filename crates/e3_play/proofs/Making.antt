-- The rounds of a recovery step, from its line to its last packet.
use Rattle.std.proofs.Common.{◌≡◌, ◌∙◌, ◌++◌, ◌∷◌, [], inl, inr, ℕ, Bool, true, false, List, length, fold, refl, sym, subst, ap, append-nil, append_assoc, arith}
use Rattle.std.specs.Prelude.{drop}
use Rattle.std.specs.List.{flat_map}
use Rattle.e3_play.proofs.Packets.{StaysDelivering, stays_delivering}
use Rattle.e3_types.specs.declared.entries.Entry.{Entry}
use Rattle.e3_types.specs.declared.scenarios.Item.TheVariants as item
use Rattle.e3_types.specs.declared.scenarios.Scenario.{Scenario}
use Rattle.e3_world.specs.Items.{RecoveryRound, AroundLine, elected_txn, input_of, inputs_at, inputs_of, inputs_to, listed, plan_of, rounds_left, since_line, around_by, to_line}
use Rattle.e3_world.specs.Legal.{IsLegal}
use Rattle.e3_world.specs.Packets.{is_line, lines, pending, present_items, step_items}
use Rattle.e3_world.specs.Progress.{Delivering, Through}
use Rattle.e3_world.proofs.Lines.{lines_to, made_txns}
use Rattle.e3_world.proofs.Readings.{to_push}
use Rattle.std.specs.Prelude.{filter_map}
use Rattle.e3_play.specs.Reports.{IsRecovered}
use Rattle.e3_play.specs.Rounds.{AfterRound, IsMade}
use Rattle.e3_play.proofs.Electing.{IsElected, elected, quiet}
use Rattle.e3_play.proofs.Left.{AreLeft, AtRounds, due_is, elect_on, first_due, listed_apart, pass_over}

-- a recovery step comes to these rounds, and no packet is pending
pub record InRounds (sc : Scenario) (start : List Entry) (group : List ℕ) (rest : List RecoveryRound) (h : List Entry) : Type 0 where
  pub delivering : Delivering sc h
  pub same_line : to_line h ≡ start
  pub step : present_items sc h ≡ item.Recover group ∷ []
  pub settled : pending sc h ≡ []
  pub at : AtRounds sc h group rest

-- a history in two is the history
in_two : (w : AroundLine) (h : List Entry) → (fold around_by w h).to ++ (fold around_by w h).since ≡ w.to ++ w.since ++ h
in_two w [] = sym (append-nil (w.to ++ w.since))
in_two w (e ∷ h) = in_two (around_by w e) h ∙ ap (λ l. l ++ h) (one (is_line e) refl) ∙ append_assoc (w.to ++ w.since) (e ∷ []) h
  where
    one : (b : Bool) → is_line e ≡ b → (around_by w e).to ++ (around_by w e).since ≡ (w.to ++ w.since) ++ e ∷ []
    one true is = rw is (append-nil (w.to ++ w.since ++ e ∷ []))
    one false is = rw is (sym (append_assoc w.to w.since (e ∷ [])))

pub both_parts : (h : List Entry) → to_line h ++ since_line h ≡ h
both_parts h = in_two (record { to = []; since = [] }) h

pub drop_front : (xs ys : List Entry) → drop (length xs) (xs ++ ys) ≡ ys
drop_front [] ys = refl
drop_front (x ∷ xs) ys = drop_front xs ys

line_last : (h : List Entry) → since_line h ≡ [] → to_line h ≡ h
line_last h fresh = sym (append-nil (to_line h)) ∙ ap (λ l. to_line h ++ l) (sym fresh) ∙ both_parts h

-- the line of a recovery step asks nothing of the sites
asks_nothing : (sc : Scenario) (h : List Entry) (group : List ℕ) → present_items sc h ≡ item.Recover group ∷ [] → to_line h ≡ h → plan_of sc h ≡ []
asks_nothing sc h group step last = ap (λ l. filter_map (input_of sc (to_line h)) (present_items sc l)) last ∙ ap (filter_map (input_of sc (to_line h))) step

-- a recovery step begins
pub begin_rounds : (sc : Scenario) (h : List Entry) (group : List ℕ) → IsLegal sc h → present_items sc h ≡ item.Recover group ∷ [] → since_line h ≡ [] →
    pending sc h ≡ [] → InRounds sc h group (listed sc h group) h
begin_rounds sc h group legal step fresh none = record {
  delivering = record { legal = legal; done = through };
  same_line = last;
  step = step;
  settled = none;
  at = record {
    passed = [];
    left =
        ap (λ s. rounds_left (flat_map elected_txn (flat_map (λ e. inputs_of e.act) s)) (listed sc (to_line h) group)) fresh
        ∙ ap (λ l. listed sc l group) last;
    down = tt;
    apart = listed_apart sc h group;
  };
}
  where
    last : to_line h ≡ h
    last = line_last h fresh

    through : Through sc h
    through s up =
        let asked : length (inputs_at sc h s) ≡ 0 = ap (λ plan. length (inputs_to s plan)) (asks_nothing sc h group step last) in
        omega (arith, asked)

-- the present step is the one of the line
same_step : (sc : Scenario) (h more : List Entry) → to_line more ≡ to_line h → present_items sc more ≡ present_items sc h
same_step sc h more same = ap (step_items sc) (sym (lines_to more) ∙ ap lines same ∙ lines_to h)

-- the Elect of a round, and the packets behind it
made_on : (sc : Scenario) (start h more : List Entry) (group : List ℕ) (r : RecoveryRound) (rest : List RecoveryRound) → InRounds sc start group (r ∷ rest) h →
    IsMade sc h r more → InRounds sc start group rest more
made_on sc start h more group r rest was made = record {
  delivering = behind.delivering;
  same_line = same ∙ was.same_line;
  step = same_step sc h more same ∙ was.step;
  settled = made.settled;
  at = record {
    passed = [];
    left =
        ap (λ l. rounds_left l (listed sc (to_line more) group)) (quiet sc made.elected more made.delivered)
        ∙ ap (λ l. rounds_left (made_txns made.elected) (listed sc l group)) behind.same_line
        ∙ now.left;
    down = tt;
    apart = now.apart;
  };
}
  where
    turn : IsElected sc h made.elected r.txn
    turn = elected sc h made.elected r was.delivering made.up (first_due sc h group rest r was.step was.at made.up) was.settled made.entered

    behind : StaysDelivering sc made.elected more
    behind = stays_delivering sc made.elected more turn.delivering made.delivered

    same : to_line more ≡ to_line h
    same = behind.same_line ∙ ap to_line turn.entered ∙ to_push h turn.entry turn.stays

    now : AreLeft sc made.elected group rest
    now = subst (λ l. AreLeft sc l group rest) (sym turn.entered) (elect_on sc h group rest r turn.entry was.at turn.stays turn.elects)

pub round_on : (sc : Scenario) (start h more : List Entry) (group : List ℕ) (r : RecoveryRound) (rest : List RecoveryRound) → InRounds sc start group (r ∷ rest) h →
    AfterRound sc h r more → InRounds sc start group rest more
round_on sc start h more group r rest was (inl made) = made_on sc start h more group r rest was made
round_on sc start h more group r rest was (inr passed) = subst (λ l. InRounds sc start group rest l) (sym passed.same) (record {
  delivering = was.delivering;
  same_line = was.same_line;
  step = was.step;
  settled = was.settled;
  at = pass_over sc h group rest r was.at passed.down;
})

-- all rounds had their turns
pub rounds_end : (sc : Scenario) (start h : List Entry) (group : List ℕ) → InRounds sc start group [] h → IsRecovered sc start h
rounds_end sc start h group was = record {
  same_line = was.same_line;
  delivering = was.delivering;
  made = due_is sc h group [] was.step was.at;
  settled = was.settled;
}
