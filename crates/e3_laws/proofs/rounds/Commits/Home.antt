-- What the coordinator makes of votes and acknowledgements, in each stage.
use Rattle.std.proofs.Common.{◌≡◌, ◌==◌, ◌||◌, ◌+◌, ◌*◌, ◌≤◌, ◌∷◌, ◌++◌, [], ℕ, suc, Bool, true, false, List, Option, Some, None, option_map, refl, ap, sym, subst, ◌∙◌, append-nil, append_assoc, length, map, eqb-true, eq-eqb, true≢false, arith, inl, inr, fold}
use Rattle.std.specs.List.{list_all, list_any}
use Rattle.std.proofs.lemmas.Grind.{fold-append}
use Rattle.std.proofs.lemmas.List.Folds.{list_any-append}
use Rattle.e3_types.specs.declared.entries.Entry.{Entry}
use Rattle.e3_types.specs.declared.entries.Input.TheVariants as input
use Rattle.e3_types.specs.declared.entries.Told.{Told}
use Rattle.e3_types.specs.declared.messages.Message.{Message}
use Rattle.e3_types.specs.declared.messages.Message.TheVariants as msg
use Rattle.e3_types.specs.declared.messages.Packet.{Packet}
use Rattle.e3_types.specs.declared.records.Record.{Record}
use Rattle.e3_types.specs.declared.records.Record.TheVariants as log
use Rattle.e3_types.specs.declared.scenarios.Scenario.{Scenario}
use Rattle.e3_types.specs.declared.transactions.Dir.{Dir}
use Rattle.e3_types.specs.declared.transactions.Dir.TheVariants.{Commit}
use Rattle.e3_types.specs.declared.transactions.Txn.{Txn}
use Rattle.e3_types.specs.Quorums.{is_quorum}
use Rattle.e3_types.specs.Same.{same_dir}
use Rattle.e3_types.specs.Sets.{has_site, is_within, others}
use Rattle.e3_world.specs.Gatherings.{Round, Rounds}
use Rattle.e3_world.specs.declared.lives.At.{At}
use Rattle.e3_world.specs.declared.lives.Expected.{Expected}
use Rattle.e3_world.specs.declared.lives.Made.{Made}
use Rattle.e3_world.specs.declared.lives.Moment.{Moment}
use Rattle.e3_world.specs.Legal.{made_by}
use Rattle.e3_world.specs.Lives.{life_at}
use Rattle.e3_world.specs.Logs.{decision, has_voted, is_undecided, last_attempt, last_elected}
use Rattle.e3_world.specs.Making.{nothing, and_attempt, and_decide, steps_now}
use Rattle.e3_world.specs.Messages.{on_message}
use Rattle.e3_world.specs.Moves.{log_of, moves_of, unnumbered}
use Rattle.e3_world.specs.Packets.{pending}
use Rattle.e3_world.specs.Rounds.{count_ack, round_by, round_by_record, round_in_progress}
use Rattle.e3_world.specs.Votes.{yes_by, yes_votes}
use Rattle.e3_world.proofs.Turns.{self}
use Rattle.e3_laws.specs.agreement.Logs.{IsIn}
use Rattle.e3_laws.proofs.agreement.Refinement.Lists.{in_right}
use Rattle.e3_laws.proofs.rounds.Deliveries.Gathering.{moment_of}
use Rattle.e3_laws.proofs.steps.Moving.{log_still, place, place_log}
use Rattle.e3_laws.proofs.rounds.Phases.Rows.{mail, makes}
use Rattle.e3_laws.proofs.rounds.Verdict.Votes.{attempt_has_votes}
use Rattle.e3_laws.proofs.rounds.Commits.Beside.{brings_none}
use Rattle.e3_laws.proofs.rounds.Commits.Effects.{Stepped, comes, shapes_on, weaker, weight_off}
use Rattle.e3_laws.proofs.rounds.Commits.Logs.{Says, decided_on, says_tried}
use Rattle.e3_laws.proofs.rounds.Commits.Packets.{total}
use Rattle.e3_laws.proofs.rounds.Commits.Rows.{Decides, DecidesMore, attempt_asks, attempt_ends, decides, decides_more, row_ack, row_ack_ended, row_last_yes, row_late_yes, row_win, row_yes, row_yes_ended}
use Rattle.e3_laws.proofs.rounds.Commits.Shapes.{acks, asks, ends, is_shaped, later_shape, other_shape, prepares, rest_of, votes, weighs, weight_of}
use Rattle.e3_laws.proofs.rounds.Commits.Sites.{ends_of, prepares_of}
use Rattle.e3_laws.proofs.rounds.Commits.Stages.{Carries, Committed, First, Keeps, Second, Stage, StageOne, StageThree, StageTwo, Voted, bound, carries_other, first_on, round_on, second_on, steps_at, third_on, votes_on, weight}
use Rattle.e3_laws.proofs.rounds.Commits.Turns.{Turn, after, apart, keep, member_of, steps, turn_round}
use Rattle.e3_laws.proofs.steps.Tests.{same_self}
use Rattle.e3_laws.proofs.rounds.Phases.Acknowledged.{others_again}

-- a step as it is kept, with this packet
abbrev pub mom : List Record → List Record → List Packet → List Told → Packet → Moment
mom before records outs events q = record { before = before; input = input.Deliver q; records = records; outs = outs; told = events }

abbrev pub sent_as : Packet → Message → Packet
sent_as p m = record { number = 0; «from» = p.«from»; to = p.to; msg = m }

pub yes_voice : (t : Txn) (p : Packet) (came : List ℕ) (b r : List Record) (o : List Packet) (e : List Told) → p.msg ≡ msg.Vote t true →
    yes_by t (Some came) (mom b r o e (unnumbered p)) ≡ Some (came ++ p.«from» ∷ [])
yes_voice t p came b r o e is = ap (λ m. yes_by t (Some came) (mom b r o e (sent_as p m))) is ∙ rw (same_self t) refl

pub round_voice : (s : ℕ) (t : Txn) (p : Packet) (w : Rounds) (b r : List Record) (o : List Packet) (e : List Told) → p.msg ≡ msg.Vote t true →
    (round_by s t w (mom b r o e (unnumbered p))).now ≡ fold (round_by_record s t w.group) w.now r
round_voice s t p w b r o e is = ap (λ m. (round_by s t w (mom b r o e (sent_as p m))).now) is

pub round_ack : (s : ℕ) (t : Txn) (p : Packet) (w : Rounds) (b r : List Record) (o : List Packet) (e : List Told) → p.msg ≡ msg.Ack t 1 Commit →
    (round_by s t w (mom b r o e (unnumbered p))).now ≡ fold (round_by_record s t w.group) (option_map (λ x. count_ack x p.«from» 1 Commit) w.now) r
round_ack s t p w b r o e is = ap (λ m. (round_by s t w (mom b r o e (sent_as p m))).now) is ∙ rw (same_self t) refl

-- a packet that comes to the coordinator from another site
pub record Home (sc : Scenario) (t : Txn) (h : List Entry) (p : Packet) : Type 0 where
  pub turn : Turn sc t h t.site p
  pub to : p.to ≡ t.site
  pub here : has_site (rest_of t) p.«from» ≡ true

-- its step, by what the rule makes
pub at_home : (sc : Scenario) (t : Txn) (h : List Entry) (p : Packet) (m : Message) (was : Made) → Home sc t h p → p.msg ≡ m → brings_none (input.Deliver (sent_as p m)) ≡ true →
    on_message (place sc h t.site (input.Deliver p)) p.«from» m nothing ≡ was → was.own ≡ [] → Stepped sc t h t.site (input.Deliver p) was
at_home sc t h p m was g is brings row none =
    steps sc t h t.site p was g.turn g.turn.ground.home (ap (λ x. brings_none (input.Deliver (sent_as p x))) is ∙ brings) (ap (λ x. on_message (place sc h t.site (input.Deliver p)) p.«from» x nothing) is ∙ row) none

home_says : (sc : Scenario) (t : Txn) (h : List Entry) (p : Packet) (d a : Option Dir) (v : Bool) → Says t (log_of sc h t.site) d a v → Says t (place sc h t.site (input.Deliver p)).life.log d a v
home_says sc t h p d a v says = subst (λ l. Says t l d a v) (sym (place_log sc h t.site (input.Deliver p))) says

home_decided : (sc : Scenario) (t : Txn) (h : List Entry) (p : Packet) → Committed sc t h t.site → decision t (place sc h t.site (input.Deliver p)).life.log ≡ Some Commit
home_decided sc t h p is = ap (decision t) (place_log sc h t.site (input.Deliver p)) ∙ is

same_home : (sc : Scenario) (t : Txn) (h : List Entry) (p : Packet) (was : Made) → Stepped sc t h t.site (input.Deliver p) was → was.records ≡ [] → log_of sc (after sc h t.site p) t.site ≡ log_of sc h t.site
same_home sc t h p was st none = st.log ∙ ap (λ l. log_of sc h t.site ++ l) none ∙ append-nil (log_of sc h t.site)

-- the round behind a step of the coordinator
round_now : (sc : Scenario) (t : Txn) (h : List Entry) (p : Packet) (was : Made) (o : Option Round) → Stepped sc t h t.site (input.Deliver p) was → p.msg ≡ msg.Vote t true →
    round_in_progress t.site t (steps_at sc h t.site) ≡ o →
    round_in_progress t.site t (steps_at sc (after sc h t.site p) t.site)
    ≡ fold (round_by_record t.site t (fold (round_by t.site t) (record { group = []; now = None }) (steps_at sc h t.site)).group) o was.records
round_now sc t h p was o st is gathers =
    round_on sc t h (input.Deliver p)
    ∙ round_voice t.site t p (fold (round_by t.site t) (record { group = []; now = None }) (steps_at sc h t.site)) (life_at (moves_of sc h t.site)).log (made_by sc h t.site (input.Deliver p)).records (map unnumbered (made_by sc h t.site (input.Deliver p)).outs) (made_by sc h t.site (input.Deliver p)).told is
    ∙ ap (λ l. fold (round_by_record t.site t (fold (round_by t.site t) (record { group = []; now = None }) (steps_at sc h t.site)).group) (round_in_progress t.site t (steps_at sc h t.site)) l) st.beside.records
    ∙ ap (λ x. fold (round_by_record t.site t (fold (round_by t.site t) (record { group = []; now = None }) (steps_at sc h t.site)).group) x was.records) gathers

apart_home : (t : Txn) (y : ℕ) → has_site (rest_of t) y ≡ true → (t.site == y) ≡ false
apart_home t y has = turn_round y t.site (apart t y has)

has_more : (xs ys : List ℕ) (y : ℕ) → has_site xs y ≡ true → has_site (xs ++ ys) y ≡ true
has_more xs ys y has = list_any-append (λ x. x == y) xs ys ∙ rw has refl

has_last : (xs : List ℕ) (y : ℕ) → has_site (xs ++ y ∷ []) y ≡ true
has_last xs y = list_any-append (λ x. x == y) xs (y ∷ []) ∙ last (has_site xs y) ((y == y)) (self y)
  where
    last : (a b : Bool) → b ≡ true → (a || (b || false)) ≡ true
    last true b is = refl
    last false true is = refl
    last false false is = absurd cc

-- a yes in the first stage, where others are awaited, or not
mails_weigh : (t : Txn) (s : ℕ) (m : Message) (k : ℕ) → ((x : ℕ) → weight_of t (mail s m x) ≡ k) → (xs : List ℕ) → total (weight_of t) (map (mail s m) xs) ≡ k * length xs
mails_weigh t s m k one [] = omega arith
mails_weigh t s m k one (x ∷ xs) =
    let first : weight_of t (mail s m x) ≡ k = one x in
    let rest : total (weight_of t) (map (mail s m) xs) ≡ k * length xs = mails_weigh t s m k one xs in
    (let both : weight_of t (mail s m x) + total (weight_of t) (map (mail s m) xs) ≡ k + k * length xs = omega (arith, first, rest) in both) ∙ more k (length xs)
  where
    more : (k n : ℕ) → k + k * n ≡ k * suc n
    more k n = grind arith

mails_shaped : (t : Txn) (wants : ℕ → Expected) (k s : ℕ) (m : Message) → (xs : List ℕ) → ((x : ℕ) → has_site xs x ≡ true → is_shaped t wants k (mail s m x) ≡ true) →
    list_all (is_shaped t wants k) (map (mail s m) xs) ≡ true
mails_shaped t wants k s m [] each = refl
mails_shaped t wants k s m (x ∷ xs) each =
    rw (each x (rw (self x) refl)) (mails_shaped t wants k s m xs (λ y has. each y (in_rest (x == y) (has_site xs y) has)))
  where
    in_rest : (a b : Bool) → b ≡ true → (a || b) ≡ true
    in_rest true b is = refl
    in_rest false b is = is

mails_some : (P : Packet → Bool) (s : ℕ) (m : Message) (y : ℕ) → P (mail s m y) ≡ true → (xs : List ℕ) → has_site xs y ≡ true → list_any P (map (mail s m) xs) ≡ true
mails_some P s m y holds [] has = absurd cc
mails_some P s m y holds (x ∷ xs) has = by (λ more. mails_some P s m y holds xs more) (x == y) refl has
  where
    in_rest : (a b : Bool) → b ≡ true → (a || b) ≡ true
    in_rest true b is = refl
    in_rest false b is = is

    by : (has_site xs y ≡ true → list_any P (map (mail s m) xs) ≡ true) → (b : Bool) → (x == y) ≡ b → ((x == y) || has_site xs y) ≡ true → list_any P (map (mail s m) (x ∷ xs)) ≡ true
    by more true is has = rw (ap (λ n. P (mail s m n)) (eqb-true x y is) ∙ holds) refl
    by more false is has = in_rest (P (mail s m x)) (list_any P (map (mail s m) xs)) (more (ap (λ b. b || has_site xs y) (sym is) ∙ has))

-- the weights and shapes of what the coordinator sends to all
pub prepare_all : (t : Txn) → total (weight_of t) (map (mail t.site (msg.Pre t 1 Commit)) (rest_of t)) ≡ 2 * length (rest_of t)
prepare_all t = mails_weigh t t.site (msg.Pre t 1 Commit) 2 (λ x. rw (same_self t) refl) (rest_of t)

pub end_all : (t : Txn) → total (weight_of t) (map (mail t.site (msg.Decide t Commit)) (rest_of t)) ≡ 1 * length (rest_of t)
end_all t = mails_weigh t t.site (msg.Decide t Commit) 1 (λ x. rw (same_self t) refl) (rest_of t)

pub prepare_all_shaped : (t : Txn) (wants : ℕ → Expected) → list_all (is_shaped t wants 2) (map (mail t.site (msg.Pre t 1 Commit)) (rest_of t)) ≡ true
prepare_all_shaped t wants = mails_shaped t wants 2 t.site (msg.Pre t 1 Commit) (rest_of t) (λ x has. rw (same_self t, self t.site, has) refl)

pub end_all_shaped : (t : Txn) (wants : ℕ → Expected) → list_all (is_shaped t wants 3) (map (mail t.site (msg.Decide t Commit)) (rest_of t)) ≡ true
end_all_shaped t wants = mails_shaped t wants 3 t.site (msg.Decide t Commit) (rest_of t) (λ x has. rw (same_self t) (rw (self t.site, has) refl))

-- all have voted where the coordinator has attempted
record Attempted (sc : Scenario) (t : Txn) (h : List Entry) (p : Packet) : Type 0 where
  has : IsIn (log.Attempt t 1 Commit) (log_of sc (after sc h t.site p) t.site)

voted_behind : (sc : Scenario) (t : Txn) (wants : ℕ → Expected) (h : List Entry) (p : Packet) (came : List ℕ) → Home sc t h p → Attempted sc t h p → (y : ℕ) → has_site (rest_of t) y ≡ true →
    First sc t wants h came y → Voted sc t (after sc h t.site p) y
voted_behind sc t wants h p came g tried y has (inl fresh) = absurd (true≢false (sym votes_are ∙ not_yet))
  where
    votes_are : has_voted t (log_of sc (after sc h t.site p) y) ≡ true
    votes_are = attempt_has_votes sc (after sc h t.site p) t 1 y t.site g.turn.ground.given g.turn.legal tried.has (member_of t y has)

    not_yet : has_voted t (log_of sc (after sc h t.site p) y) ≡ false
    not_yet = ap (has_voted t) (log_still sc h t.site y (input.Deliver p) (apart_home t y has)) ∙ fresh.says.voted
voted_behind sc t wants h p came g tried y has (inr (v, some)) = (v.0, (carries_other sc t h t.site y (input.Deliver p) (apart_home t y has)).log None v.0 true v.1)

later : (sc : Scenario) (t : Txn) (wants : ℕ → Expected) (h : List Entry) (j k : ℕ) → j ≤ k → list_all (is_shaped t wants j) (pending sc h) ≡ true → list_all (is_shaped t wants k) (pending sc h) ≡ true
later sc t wants h j k less all = weaker (is_shaped t wants j) (is_shaped t wants k) (λ q shaped. later_shape t wants j k q less shaped) (pending sc h) all

-- the last yes, where the coordinator is no quorum by itself, or is one
pub last_voice : (sc : Scenario) (t : Txn) (wants : ℕ → Expected) (h : List Entry) (p : Packet) (n : ℕ) → Home sc t h p → p.msg ≡ msg.Vote t true → (o : StageOne sc t wants h n) →
    yes_votes t (steps_now (place sc h t.site (input.Deliver p)) nothing) ≡ Some (o.came ++ p.«from» ∷ []) → is_within (rest_of t) (o.came ++ p.«from» ∷ []) ≡ true →
    Stage sc t wants (after sc h t.site p) (suc n)
last_voice sc t wants h p n g is o gathered all = choose (is_quorum sc.weights (t.site ∷ []) t.sites) refl
  where
    a : At
    a = place sc h t.site (input.Deliver p)

    l : List Record
    l = a.life.log

    says : Says t l None None true
    says = home_says sc t h p None None true o.leads.says

    same : l ++ [] ≡ log_of sc h t.site
    same = append-nil l ∙ place_log sc h t.site (input.Deliver p)

    undecided : is_undecided t (l ++ []) ≡ true
    undecided = ap (is_undecided t) same ∙ rw (o.leads.says.decided) refl

    joined : last_elected t (l ++ []) ≡ 1
    joined = ap (last_elected t) same ∙ o.leads.says.joined

    untried : last_attempt t (l ++ []) ≡ 0
    untried = ap (last_attempt t) same ∙ o.leads.untried

    row : on_message a p.«from» (msg.Vote t true) nothing ≡ and_attempt a t 1 Commit t.sites nothing
    row = row_last_yes a p.«from» t (o.came ++ p.«from» ∷ []) refl says gathered all

    w : weight_of t p ≡ 1
    w = rw is (rw (same_self t) refl)

    choose : (b : Bool) → is_quorum sc.weights (t.site ∷ []) t.sites ≡ b → Stage sc t wants (after sc h t.site p) (suc n)
    choose false alone =
        let was : Made = makes (log.Attempt t 1 Commit ∷ []) (map (mail t.site (msg.Pre t 1 Commit)) (rest_of t)) in
        let st : Stepped sc t h t.site (input.Deliver p) was = at_home sc t h p (msg.Vote t true) was g is refl (row ∙ attempt_asks a t nothing undecided joined untried alone) refl in
        let tried : Attempted sc t h p = record { has = subst (λ z. IsIn (log.Attempt t 1 Commit) z) (sym st.log) (in_right (log.Attempt t 1 Commit) (log_of sc h t.site) (log.Attempt t 1 Commit ∷ []) (inl refl)) } in
        let off : weight sc t (after sc h t.site p) + weight_of t p ≤ weight sc t h + total (weight_of t) was.outs = weight_off sc t h t.site p was.outs (weight_of t) (weighs t) st.sends g.turn.has in
        let outs : total (weight_of t) was.outs ≡ 2 * length (rest_of t) = prepare_all t in
        let few : n + weight sc t h + 3 * length (rest_of t) ≤ bound t = o.few in
        Stage.Two (record {
          round = record { n = 1; dir = Commit; to = rest_of t; acked = [] };
          leads = record {
            says = subst (λ z. Says t z None (Some Commit) true) (sym st.log) (says_tried t (log_of sc h t.site) 1 Commit None None true o.leads.says);
            gathers = round_now sc t h p was (round_in_progress t.site t (steps_at sc h t.site)) st is refl ∙ rw (same_self t) refl;
            first = refl;
            commits = refl;
            to = refl;
            few = alone;
          };
          each = λ y has. (
            voted_behind sc t wants h p o.came g tried y has (o.each y has),
            inl (comes sc t h t.site (input.Deliver p) was.outs (prepares t y) st.sends (λ q k. refl) (prepares_of t y) (mails_some (prepares t y) t.site (msg.Pre t 1 Commit) y (rw (same_self t, self y) refl) (rest_of t) has)),
          );
          shaped = shapes_on sc t h t.site (input.Deliver p) was.outs (is_shaped t wants 2) st.sends (λ q k. refl) (prepare_all_shaped t wants) (other_shape t wants 2) (later sc t wants h 1 2 (omega arith) o.shaped);
          few = omega (arith, off, outs, few, w);
        })
    choose true alone =
        let tried_made : Made = makes (log.Attempt t 1 Commit ∷ []) [] in
        let d : DecidesMore t Commit tried_made (and_decide a t Commit tried_made) = decides_more a t Commit tried_made in
        let was : Made = record (and_decide a t Commit tried_made) { outs = (and_decide a t Commit tried_made).outs ++ map (mail t.site (msg.Decide t Commit)) (rest_of t) } in
        let sent : was.outs ≡ map (mail t.site (msg.Decide t Commit)) (rest_of t) = ap (λ z. z ++ map (mail t.site (msg.Decide t Commit)) (rest_of t)) d.outs in
        let st : Stepped sc t h t.site (input.Deliver p) was = at_home sc t h p (msg.Vote t true) was g is refl (row ∙ attempt_ends a t nothing undecided joined untried alone) d.own in
        let logs : log_of sc (after sc h t.site p) t.site ≡ log_of sc h t.site ++ log.Attempt t 1 Commit ∷ log.Decision t Commit ∷ [] = st.log ∙ ap (λ z. log_of sc h t.site ++ z) d.records in
        let tried : Attempted sc t h p = record { has = subst (λ z. IsIn (log.Attempt t 1 Commit) z) (sym logs) (in_right (log.Attempt t 1 Commit) (log_of sc h t.site) (log.Attempt t 1 Commit ∷ log.Decision t Commit ∷ []) (inl refl)) } in
        let off : weight sc t (after sc h t.site p) + weight_of t p ≤ weight sc t h + total (weight_of t) was.outs = weight_off sc t h t.site p was.outs (weight_of t) (weighs t) st.sends g.turn.has in
        let outs : total (weight_of t) was.outs ≡ 1 * length (rest_of t) = ap (total (weight_of t)) sent ∙ end_all t in
        let few : n + weight sc t h + 3 * length (rest_of t) ≤ bound t = o.few in
        Stage.Three (record {
          leads = ap (decision t) (logs ∙ sym (append_assoc (log_of sc h t.site) (log.Attempt t 1 Commit ∷ []) (log.Decision t Commit ∷ []))) ∙ decided_on t (log_of sc h t.site ++ log.Attempt t 1 Commit ∷ []) Commit;
          each = λ y has. inl (
            voted_behind sc t wants h p o.came g tried y has (o.each y has),
            comes sc t h t.site (input.Deliver p) was.outs (ends t y) st.sends (λ q k. refl) (ends_of t y) (ap (list_any (ends t y)) sent ∙ mails_some (ends t y) t.site (msg.Decide t Commit) y (rw (same_self t, self y) refl) (rest_of t) has),
          );
          shaped = shapes_on sc t h t.site (input.Deliver p) was.outs (is_shaped t wants 3) st.sends (λ q k. refl) (ap (list_all (is_shaped t wants 3)) sent ∙ end_all_shaped t wants) (other_shape t wants 3) (later sc t wants h 1 3 (omega arith) o.shaped);
          few = omega (arith, off, outs, few, w);
        })

-- a step that makes nothing
light : (sc : Scenario) (t : Txn) (h : List Entry) (p : Packet) → Home sc t h p → Stepped sc t h t.site (input.Deliver p) nothing → weight_of t p ≡ 1 → suc (weight sc t (after sc h t.site p)) ≤ weight sc t h
light sc t h p g st w =
    let off : weight sc t (after sc h t.site p) + weight_of t p ≤ weight sc t h + total (weight_of t) [] = weight_off sc t h t.site p [] (weight_of t) (weighs t) st.sends g.turn.has in
    omega (arith, off, w)

quiet_shapes : (sc : Scenario) (t : Txn) (wants : ℕ → Expected) (h : List Entry) (p : Packet) (k : ℕ) → Stepped sc t h t.site (input.Deliver p) nothing → list_all (is_shaped t wants k) (pending sc h) ≡ true →
    list_all (is_shaped t wants k) (pending sc (after sc h t.site p)) ≡ true
quiet_shapes sc t wants h p k st was = shapes_on sc t h t.site (input.Deliver p) [] (is_shaped t wants k) st.sends (λ q n. refl) refl (other_shape t wants k) was

pub voice_one : (sc : Scenario) (t : Txn) (wants : ℕ → Expected) (h : List Entry) (p : Packet) (n : ℕ) → Home sc t h p → p.msg ≡ msg.Vote t true → StageOne sc t wants h n →
    Stage sc t wants (after sc h t.site p) (suc n)
voice_one sc t wants h p n g is o = choose (is_within (rest_of t) (o.came ++ p.«from» ∷ [])) refl
  where
    a : At
    a = place sc h t.site (input.Deliver p)

    gathered : yes_votes t (steps_now a nothing) ≡ Some (o.came ++ p.«from» ∷ [])
    gathered = fold-append (yes_by t) None (steps_at sc h t.site) (mom a.life.log [] [] [] (unnumbered p) ∷ []) ∙ ap (λ x. yes_by t x (mom a.life.log [] [] [] (unnumbered p))) o.leads.gathered ∙ yes_voice t p o.came a.life.log [] [] [] is

    choose : (b : Bool) → is_within (rest_of t) (o.came ++ p.«from» ∷ []) ≡ b → Stage sc t wants (after sc h t.site p) (suc n)
    choose true all = last_voice sc t wants h p n g is o gathered all
    choose false few =
        let st : Stepped sc t h t.site (input.Deliver p) nothing = at_home sc t h p (msg.Vote t true) nothing g is refl
        (row_yes a p.«from» t (o.came ++ p.«from» ∷ []) refl (home_says sc t h p None None true o.leads.says) gathered few) refl in
        let less : suc (weight sc t (after sc h t.site p)) ≤ weight sc t h = light sc t h p g st (rw is (rw (same_self t) refl)) in
        let was : n + weight sc t h + 3 * length (rest_of t) ≤ bound t = o.few in
        Stage.One (record {
          came = o.came ++ p.«from» ∷ [];
          leads = record {
            says = subst (λ l. Says t l None None true) (sym (same_home sc t h p nothing st refl)) o.leads.says;
            untried = ap (last_attempt t) (same_home sc t h p nothing st refl) ∙ o.leads.untried;
            gathered = votes_on sc t h (input.Deliver p) ∙ ap (λ x. yes_by t x (moment_of (life_at (moves_of sc h t.site)) (input.Deliver p) (made_by sc h t.site (input.Deliver p)))) o.leads.gathered
                ∙ yes_voice t p o.came (life_at (moves_of sc h t.site)).log (made_by sc h t.site (input.Deliver p)).records (map unnumbered (made_by sc h t.site (input.Deliver p)).outs) (made_by sc h t.site (input.Deliver p)).told is;
            few = few;
          };
          each = λ y has. at y has (p.«from» == y) refl (o.each y has);
          shaped = quiet_shapes sc t wants h p 1 st o.shaped;
          few = omega (arith, less, was);
        })
      where
        carries : (y : ℕ) → has_site (rest_of t) y ≡ true → Carries sc t h (after sc h t.site p) y
        carries y has = carries_other sc t h t.site y (input.Deliver p) (apart_home t y has)

        asked : (y : ℕ) → Keeps sc h (after sc h t.site p) (asks t y)
        asked y = keep sc t h t.site p (asks t y) g.turn (rw is refl)

        at : (y : ℕ) → has_site (rest_of t) y ≡ true → (b : Bool) → (p.«from» == y) ≡ b → First sc t wants h o.came y → First sc t wants (after sc h t.site p) (o.came ++ p.«from» ∷ []) y
        at y has false other was = first_on sc t wants h (after sc h t.site p) o.came (o.came ++ p.«from» ∷ []) y (carries y has) (asked y)
            (keep sc t h t.site p (votes t y) g.turn (rw is (rw (same_self t, other) refl))) (has_more o.came (p.«from» ∷ []) y) was
        at y has true same (inl fresh) = inl (record {
          says = (carries y has).log None None false fresh.says;
          ready = (carries y has).ready (wants y) (rw (fresh.says.decided) refl) fresh.ready;
          asked = asked y fresh.asked;
        })
        at y has true same (inr (v, some)) = inr ((v.0, (carries y has).log None v.0 true v.1), inr (subst (λ f. has_site (o.came ++ f ∷ []) y ≡ true) (sym (eqb-true p.«from» y same)) (has_last o.came y)))

pub voice_two : (sc : Scenario) (t : Txn) (wants : ℕ → Expected) (h : List Entry) (p : Packet) (n : ℕ) → Home sc t h p → p.msg ≡ msg.Vote t true → StageTwo sc t wants h n →
    Stage sc t wants (after sc h t.site p) (suc n)
voice_two sc t wants h p n g is o =
    let a : At = place sc h t.site (input.Deliver p) in
    let st : Stepped sc t h t.site (input.Deliver p) nothing = at_home sc t h p (msg.Vote t true) nothing g is refl
    (row_late_yes a p.«from» t refl (home_says sc t h p None (Some Commit) true o.leads.says)) refl in
    let less : suc (weight sc t (after sc h t.site p)) ≤ weight sc t h = light sc t h p g st (rw is (rw (same_self t) refl)) in
    let was : n + weight sc t h + length (rest_of t) ≤ bound t = o.few in
    Stage.Two (record {
      round = o.round;
      leads = record {
        says = subst (λ l. Says t l None (Some Commit) true) (sym (same_home sc t h p nothing st refl)) o.leads.says;
        gathers = round_now sc t h p nothing (Some o.round) st is o.leads.gathers;
        first = o.leads.first;
        commits = o.leads.commits;
        to = o.leads.to;
        few = o.leads.few;
      };
      each = λ y has. second_on sc t h (after sc h t.site p) o.round.acked o.round.acked y (carries_other sc t h t.site y (input.Deliver p) (apart_home t y has))
          (keep sc t h t.site p (prepares t y) g.turn (rw is refl)) (keep sc t h t.site p (acks t y) g.turn (rw is refl)) (λ x. x) (o.each y has);
      shaped = quiet_shapes sc t wants h p 2 st o.shaped;
      few = omega (arith, less, was);
    })

pub voice_three : (sc : Scenario) (t : Txn) (wants : ℕ → Expected) (h : List Entry) (p : Packet) (n : ℕ) → Home sc t h p → p.msg ≡ msg.Vote t true → StageThree sc t wants h n →
    Stage sc t wants (after sc h t.site p) (suc n)
voice_three sc t wants h p n g is o =
    let st : Stepped sc t h t.site (input.Deliver p) nothing = at_home sc t h p (msg.Vote t true) nothing g is refl
    (row_yes_ended (place sc h t.site (input.Deliver p)) p.«from» t refl (home_decided sc t h p o.leads)) refl in
    let less : suc (weight sc t (after sc h t.site p)) ≤ weight sc t h = light sc t h p g st (rw is (rw (same_self t) refl)) in
    let was : n + weight sc t h ≤ bound t = o.few in
    Stage.Three (record {
      leads = ap (decision t) (same_home sc t h p nothing st refl) ∙ o.leads;
      each = λ y has. third_on sc t h (after sc h t.site p) y (carries_other sc t h t.site y (input.Deliver p) (apart_home t y has)) (keep sc t h t.site p (ends t y) g.turn (rw is refl)) (o.each y has);
      shaped = quiet_shapes sc t wants h p 3 st o.shaped;
      few = omega (arith, less, was);
    })

pub ack_three : (sc : Scenario) (t : Txn) (wants : ℕ → Expected) (h : List Entry) (p : Packet) (n : ℕ) → Home sc t h p → p.msg ≡ msg.Ack t 1 Commit → StageThree sc t wants h n →
    Stage sc t wants (after sc h t.site p) (suc n)
ack_three sc t wants h p n g is o =
    let st : Stepped sc t h t.site (input.Deliver p) nothing = at_home sc t h p (msg.Ack t 1 Commit) nothing g is refl
    (row_ack_ended (place sc h t.site (input.Deliver p)) p.«from» t (home_decided sc t h p o.leads)) refl in
    let less : suc (weight sc t (after sc h t.site p)) ≤ weight sc t h = light sc t h p g st (rw is (rw (same_self t) refl)) in
    let was : n + weight sc t h ≤ bound t = o.few in
    Stage.Three (record {
      leads = ap (decision t) (same_home sc t h p nothing st refl) ∙ o.leads;
      each = λ y has. third_on sc t h (after sc h t.site p) y (carries_other sc t h t.site y (input.Deliver p) (apart_home t y has)) (keep sc t h t.site p (ends t y) g.turn (rw is refl)) (o.each y has);
      shaped = quiet_shapes sc t wants h p 3 st o.shaped;
      few = omega (arith, less, was);
    })

-- an acknowledgement is counted
record Counted (r : Round) (f : ℕ) : Type 0 where
  n : (count_ack r f 1 Commit).n ≡ r.n
  dir : (count_ack r f 1 Commit).dir ≡ r.dir
  to : (count_ack r f 1 Commit).to ≡ r.to
  more : (y : ℕ) → has_site r.acked y ≡ true → has_site (count_ack r f 1 Commit).acked y ≡ true
  this : has_site (count_ack r f 1 Commit).acked f ≡ true

counts : (r : Round) (f : ℕ) → r.n ≡ 1 → r.dir ≡ Commit → has_site r.to f ≡ true → Counted r f
counts r f n_is dir_is to_is = by (has_site r.acked f) refl
  where
    first : (r.n == 1) ≡ true
    first = eq-eqb r.n 1 n_is

    commits : same_dir r.dir Commit ≡ true
    commits = ap (λ d. same_dir d Commit) dir_is

    by : (b : Bool) → has_site r.acked f ≡ b → Counted r f
    by true has =
        let same : count_ack r f 1 Commit ≡ r = rw (first, commits, to_is, has) refl in record {
          n = ap (λ (x : Round). x.n) same;
          dir = ap (λ (x : Round). x.dir) same;
          to = ap (λ (x : Round). x.to) same;
          more = λ y is. ap (λ (x : Round). has_site x.acked y) same ∙ is;
          this = ap (λ (x : Round). has_site x.acked f) same ∙ has;
        }
    by false has =
        let same : count_ack r f 1 Commit ≡ record r { acked = r.acked ++ f ∷ [] } = rw (first, commits, to_is, has) refl in record {
          n = ap (λ (x : Round). x.n) same;
          dir = ap (λ (x : Round). x.dir) same;
          to = ap (λ (x : Round). x.to) same;
          more = λ y is. ap (λ (x : Round). has_site x.acked y) same ∙ has_more r.acked (f ∷ []) y is;
          this = ap (λ (x : Round). has_site x.acked f) same ∙ has_last r.acked f;
        }

pub ack_two : (sc : Scenario) (t : Txn) (wants : ℕ → Expected) (h : List Entry) (p : Packet) (n : ℕ) → Home sc t h p → p.msg ≡ msg.Ack t 1 Commit → StageTwo sc t wants h n →
    Stage sc t wants (after sc h t.site p) (suc n)
ack_two sc t wants h p n g is o = choose (is_quorum sc.weights (t.site ∷ q.acked) t.sites) refl
  where
    a : At
    a = place sc h t.site (input.Deliver p)

    q : Round
    q = count_ack o.round p.«from» 1 Commit

    counted : Counted o.round p.«from»
    counted = counts o.round p.«from» o.leads.first o.leads.commits (ap (λ l. has_site l p.«from») o.leads.to ∙ g.here)

    says : Says t a.life.log None (Some Commit) true
    says = home_says sc t h p None (Some Commit) true o.leads.says

    w : weight_of t p ≡ 1
    w = rw is (rw (same_self t) refl)

    few_was : n + weight sc t h + length (rest_of t) ≤ bound t
    few_was = o.few

    carries : (y : ℕ) → has_site (rest_of t) y ≡ true → Carries sc t h (after sc h t.site p) y
    carries y has = carries_other sc t h t.site y (input.Deliver p) (apart_home t y has)

    choose : (b : Bool) → is_quorum sc.weights (t.site ∷ q.acked) t.sites ≡ b → Stage sc t wants (after sc h t.site p) (suc n)
    choose false few =
        let st : Stepped sc t h t.site (input.Deliver p) nothing = at_home sc t h p (msg.Ack t 1 Commit) nothing g is refl (row_ack a p.«from» t o.round o.leads.gathers few) refl in
        let less : suc (weight sc t (after sc h t.site p)) ≤ weight sc t h = light sc t h p g st w in
        let start : Rounds = fold (round_by t.site t) (record { group = []; now = None }) (steps_at sc h t.site) in
        Stage.Two (record {
          round = q;
          leads = record {
            says = subst (λ l. Says t l None (Some Commit) true) (sym (same_home sc t h p nothing st refl)) o.leads.says;
            gathers = round_on sc t h (input.Deliver p) ∙ round_ack t.site t p start (life_at (moves_of sc h t.site)).log (made_by sc h t.site (input.Deliver p)).records (map unnumbered (made_by sc h t.site (input.Deliver p)).outs) (made_by sc h t.site (input.Deliver p)).told is
                ∙ ap (λ l. fold (round_by_record t.site t start.group) (option_map (λ x. count_ack x p.«from» 1 Commit) start.now) l) st.beside.records
                ∙ ap (option_map (λ x. count_ack x p.«from» 1 Commit)) o.leads.gathers;
            first = counted.n ∙ o.leads.first;
            commits = counted.dir ∙ o.leads.commits;
            to = counted.to ∙ o.leads.to;
            few = few;
          };
          each = λ y has. at y has (p.«from» == y) refl (o.each y has);
          shaped = quiet_shapes sc t wants h p 2 st o.shaped;
          few = omega (arith, less, few_was);
        })
      where
        at : (y : ℕ) → has_site (rest_of t) y ≡ true → (b : Bool) → (p.«from» == y) ≡ b → Second sc t h o.round.acked y → Second sc t (after sc h t.site p) q.acked y
        at y has false other was = second_on sc t h (after sc h t.site p) o.round.acked q.acked y (carries y has) (keep sc t h t.site p (prepares t y) g.turn (rw is refl))
            (keep sc t h t.site p (acks t y) g.turn (rw is (rw (same_self t, other) refl))) (counted.more y) was
        at y has true same was = ((was.0.0, (carries y has).log None was.0.0 true was.0.1), inr (inr (subst (λ f. has_site q.acked f ≡ true) (eqb-true p.«from» y same) counted.this)))
    choose true enough =
        let d : Decides t Commit (and_decide a t Commit nothing) = decides a t Commit in
        let was : Made = record (and_decide a t Commit nothing) { outs = (and_decide a t Commit nothing).outs ++ map (mail t.site (msg.Decide t Commit)) (others t.site q.to) } in
        let goes : others t.site q.to ≡ rest_of t = ap (others t.site) (counted.to ∙ o.leads.to) ∙ others_again t.site t.sites in
        let sent : was.outs ≡ map (mail t.site (msg.Decide t Commit)) (rest_of t) = ap (λ z. z ++ map (mail t.site (msg.Decide t Commit)) (others t.site q.to)) d.outs ∙ ap (map (mail t.site (msg.Decide t Commit))) goes in
        let st : Stepped sc t h t.site (input.Deliver p) was = at_home sc t h p (msg.Ack t 1 Commit) was g is refl
        (row_win a p.«from» t o.round (Some Commit) o.leads.gathers (eq-eqb q.n 1 (counted.n ∙ o.leads.first)) (ap (λ x. same_dir x Commit) (counted.dir ∙ o.leads.commits)) says enough) d.own in
        let logs : log_of sc (after sc h t.site p) t.site ≡ log_of sc h t.site ++ log.Decision t Commit ∷ [] = st.log ∙ ap (λ z. log_of sc h t.site ++ z) d.records in
        let off : weight sc t (after sc h t.site p) + weight_of t p ≤ weight sc t h + total (weight_of t) was.outs = weight_off sc t h t.site p was.outs (weight_of t) (weighs t) st.sends g.turn.has in
        let outs : total (weight_of t) was.outs ≡ 1 * length (rest_of t) = ap (total (weight_of t)) sent ∙ end_all t in
        Stage.Three (record {
          leads = ap (decision t) logs ∙ decided_on t (log_of sc h t.site) Commit;
          each = λ y has. inl (
            (((o.each y has).0).0, (carries y has).log None ((o.each y has).0).0 true ((o.each y has).0).1),
            comes sc t h t.site (input.Deliver p) was.outs (ends t y) st.sends (λ x k. refl) (ends_of t y) (ap (list_any (ends t y)) sent ∙ mails_some (ends t y) t.site (msg.Decide t Commit) y (rw (same_self t, self y) refl) (rest_of t) has),
          );
          shaped = shapes_on sc t h t.site (input.Deliver p) was.outs (is_shaped t wants 3) st.sends (λ x k. refl) (ap (list_all (is_shaped t wants 3)) sent ∙ end_all_shaped t wants) (other_shape t wants 3) (later sc t wants h 2 3 (omega arith) o.shaped);
          few = omega (arith, off, outs, few_was, w);
        })
