-- The Commit's own step: the first stage begins, or the coordinator has no other site and decides.
use Rattle.std.proofs.Common.{◌≡◌, ◌==◌, ◌&&◌, ◌||◌, ◌+◌, ◌*◌, ◌≤◌, ◌∷◌, ◌++◌, [], ℕ, Bool, true, false, not, List, Option, Some, None, refl, ap, sym, subst, ◌∙◌, append-nil, append_assoc, length, map, eqb-true, true≢false, arith, inl, fold}
use Rattle.std.specs.List.{list_all, list_any}
use Rattle.std.proofs.lemmas.Bool.{and_parts}
use Rattle.std.proofs.lemmas.Grind.{fold-append}
use Rattle.e3_types.specs.declared.entries.Entry.{Entry}
use Rattle.e3_types.specs.declared.entries.Input.TheVariants as input
use Rattle.e3_types.specs.declared.entries.Told.{Told}
use Rattle.e3_types.specs.declared.entries.Told.TheVariants as told
use Rattle.e3_types.specs.declared.messages.Message.TheVariants as msg
use Rattle.e3_types.specs.declared.messages.Packet.{Packet}
use Rattle.e3_types.specs.declared.records.Record.{Record}
use Rattle.e3_types.specs.declared.records.Record.TheVariants as log
use Rattle.e3_types.specs.declared.scenarios.Scenario.{Scenario}
use Rattle.e3_types.specs.declared.transactions.Dir.TheVariants.{Commit}
use Rattle.e3_types.specs.declared.transactions.NumOp.{NumOp}
use Rattle.e3_types.specs.declared.transactions.State.{State}
use Rattle.e3_types.specs.declared.transactions.State.TheVariants.{Q, W, Pc, Pa, C, A}
use Rattle.e3_types.specs.declared.transactions.Txn.{Txn}
use Rattle.e3_types.specs.Quorums.{is_quorum}
use Rattle.e3_types.specs.Same.{same_state, same_txn}
use Rattle.e3_types.specs.Sets.{has_site, is_within}
use Rattle.e3_world.specs.declared.lives.At.{At}
use Rattle.e3_world.specs.declared.lives.Expected.{Expected}
use Rattle.e3_world.specs.declared.lives.Made.{Made}
use Rattle.e3_world.specs.Legal.{entry_of, made_by}
use Rattle.e3_world.specs.Lives.{life_at}
use Rattle.e3_world.specs.Logs.{decision, is_undecided, last_attempt, last_attempt_by, last_elected}
use Rattle.e3_world.specs.Making.{nothing, and_attempt, and_decide, and_send, elected_now, log_now, state_now}
use Rattle.e3_world.specs.Moves.{log_of, moves_of, unnumbered, unnumbered_input}
use Rattle.e3_world.specs.Operations.{done, expected, is_refusal, waiting}
use Rattle.e3_world.specs.Packets.{pending}
use Rattle.e3_world.specs.Steps.{and_ask, on_commit, on_input, refuse}
use Rattle.e3_world.specs.VoteRules.{vote_rule}
use Rattle.e3_world.specs.Votes.{yes_by, yes_votes}
use Rattle.e3_world.proofs.Turns.{self}
use Rattle.e3_net.specs.declared.waiting.Waiting.{Waiting}
use Rattle.e3_net.specs.Stands.{waiting_of}
use Rattle.e3_net.proofs.Pushing.{pending_waits}
use Rattle.e3_laws.proofs.steps.Moving.{place, place_log}
use Rattle.e3_laws.proofs.rounds.Phases.Rows.{mail, makes}
use Rattle.e3_laws.specs.rounds.Commits.{expected_of, may_vote, place_of}
use Rattle.e3_laws.proofs.rounds.Commits.Beside.{Still, other_told}
use Rattle.e3_laws.proofs.rounds.Commits.Effects.{OnceOnly, Stepped, comes, shapes_on, stepped, weight_on}
use Rattle.e3_laws.proofs.rounds.Commits.Logs.{Says, decided_on, from_q, none_attempted, says_voted}
use Rattle.e3_laws.proofs.rounds.Commits.Packets.{load, total}
use Rattle.e3_laws.proofs.rounds.Commits.Rows.{DecidesMore, attempt_ends, decides_more}
use Rattle.e3_laws.proofs.rounds.Commits.Shapes.{asks, is_shaped, other_shape, rest_of, weighs, weight_of}
use Rattle.e3_laws.proofs.rounds.Commits.Sites.{asks_of}
use Rattle.e3_laws.proofs.rounds.Commits.Stages.{Carries, Ground, Ready, Stage, carries_other, steps_at, votes_on, weight}
use Rattle.e3_laws.proofs.rounds.Commits.Turns.{apart, member_of, turn_round}
use Rattle.e3_laws.proofs.steps.Tests.{same_self}

-- the request to a site
abbrev pub request : Txn → (ℕ → Expected) → ℕ → Packet
request t wants y = mail t.site (msg.VoteReq t (wants y).inc (wants y).count) y

requests_weigh : (t : Txn) (wants : ℕ → Expected) (xs : List ℕ) → total (weight_of t) (map (request t wants) xs) ≡ 2 * length xs
requests_weigh t wants [] = refl
requests_weigh t wants (x ∷ xs) =
    let first : weight_of t (request t wants x) ≡ 2 = rw (same_self t) refl in
    let rest : total (weight_of t) (map (request t wants) xs) ≡ 2 * length xs = requests_weigh t wants xs in
    omega (arith, first, rest)

requests_shaped : (t : Txn) (wants : ℕ → Expected) (xs : List ℕ) → ((x : ℕ) → has_site xs x ≡ true → has_site (rest_of t) x ≡ true) → list_all (is_shaped t wants 1) (map (request t wants) xs) ≡ true
requests_shaped t wants [] each = refl
requests_shaped t wants (x ∷ xs) each =
    let here : is_shaped t wants 1 (request t wants x) ≡ true = rw (same_self t, self t.site, each x (rw (self x) refl), self (wants x).inc, self (wants x).count) refl in
    rw here (requests_shaped t wants xs (λ y has. each y (in_rest (x == y) (has_site xs y) has)))
  where
    in_rest : (a b : Bool) → b ≡ true → (a || b) ≡ true
    in_rest true b is = refl
    in_rest false b is = is

requests_some : (t : Txn) (wants : ℕ → Expected) (y : ℕ) (xs : List ℕ) → has_site xs y ≡ true → list_any (asks t y) (map (request t wants) xs) ≡ true
requests_some t wants y [] has = absurd cc
requests_some t wants y (x ∷ xs) has = by (λ more. requests_some t wants y xs more) (x == y) refl has
  where
    in_rest : (a b : Bool) → b ≡ true → (a || b) ≡ true
    in_rest true b is = refl
    in_rest false b is = is

    by : (has_site xs y ≡ true → list_any (asks t y) (map (request t wants) xs) ≡ true) → (b : Bool) → (x == y) ≡ b → ((x == y) || has_site xs y) ≡ true → list_any (asks t y) (map (request t wants) (x ∷ xs)) ≡ true
    by more true is has = let here : asks t y (request t wants x) ≡ true = rw (same_self t, is) refl in rw here refl
    by more false is has = in_rest (asks t y (request t wants x)) (list_any (asks t y) (map (request t wants) xs)) (more (ap (λ b. b || has_site xs y) (sym is) ∙ has))

-- the coordinator asks the others
asks_all : (a : At) (t : Txn) (wants : ℕ → Expected) → t.site ≡ a.site → ((y : ℕ) → expected a.site a.life.inc t a.life.steps y ≡ wants y) → (xs : List ℕ) → ((y : ℕ) → has_site xs y ≡ true → (y == a.site) ≡ false) → (made : Made) →
    fold (and_ask a t) made xs ≡ record made { outs = made.outs ++ map (request t wants) xs }
asks_all a t wants home same [] away made = ap (λ l. let m : Made = record made { outs = l } in m) (sym (append-nil made.outs))
asks_all a t wants home same (x ∷ xs) away made =
    ap (λ m. fold (and_ask a t) m xs) one
    ∙ asks_all a t wants home same xs (λ y has. away y (in_rest (x == y) (has_site xs y) has)) (record made { outs = made.outs ++ request t wants x ∷ [] })
    ∙ ap (λ l. let m : Made = record made { outs = l } in m) (append_assoc made.outs (request t wants x ∷ []) (map (request t wants) xs))
  where
    in_rest : (a b : Bool) → b ≡ true → (a || b) ≡ true
    in_rest true b is = refl
    in_rest false b is = is

    sends : (e : Expected) → and_send a x (msg.VoteReq t e.inc e.count) made ≡ record made { outs = made.outs ++ mail a.site (msg.VoteReq t e.inc e.count) x ∷ [] }
    sends e = rw (away x (rw (self x) refl)) refl

    one : and_ask a t made x ≡ record made { outs = made.outs ++ request t wants x ∷ [] }
    one = ap (λ (e : Expected). and_send a x (msg.VoteReq t e.inc e.count) made) (same x) ∙ sends (wants x)
        ∙ ap (λ s. let m : Made = record made { outs = made.outs ++ mail s (msg.VoteReq t (wants x).inc (wants x).count) x ∷ [] } in m) (sym home)

no_waiting : (w : Packet → ℕ) (ws : List Waiting) → map (λ x. x.packet) ws ≡ [] → load w ws ≡ 0
no_waiting w [] is = refl
no_waiting w (x ∷ ws) is = absurd cc

-- what is known where the Commit comes
pub record Starts (sc : Scenario) (start : List Entry) (t : Txn) : Type 0 where
  pub ground : Ground sc t start
  pub once : OnceOnly sc t start (entry_of sc start t.site (input.Commit t))
  pub settled : pending sc start ≡ []
  pub not_refused : refuse (place_of sc start t t.site) t false nothing ≡ None
  pub fit : (y : ℕ) → has_site t.sites y ≡ true → may_vote sc start t y ≡ true
  pub covers : (came : List ℕ) → ((y : ℕ) → has_site (rest_of t) y ≡ true → has_site came y ≡ true) → is_quorum sc.weights (t.site ∷ came) t.sites ≡ true

-- what a site that may vote says
pub record Fits (sc : Scenario) (start : List Entry) (t : Txn) (y : ℕ) : Type 0 where
  pub says : Says t (log_of sc start y) None None false
  pub ready : Ready sc start t y (expected_of sc start t y)
  pub still : Still t y (log_of sc start y) (steps_at sc start y)

same_q : (s : State) → same_state s Q ≡ true → s ≡ Q
same_q Q is = refl
same_q W is = absurd cc
same_q Pc is = absurd cc
same_q Pa is = absurd cc
same_q C is = absurd cc
same_q A is = absurd cc

pub fits_of : (sc : Scenario) (start : List Entry) (t : Txn) (y : ℕ) → may_vote sc start t y ≡ true → Fits sc start t y
fits_of sc start t y may =
    let a : At = place_of sc start t y in
    let e : Expected = expected_of sc start t y in
    let outer = and_parts (same_state (state_now a t nothing) Q && elected_now a t nothing == 1) (vote_rule a t e.inc e.count nothing) may in
    let first = and_parts (same_state (state_now a t nothing) Q) (elected_now a t nothing == 1) outer.0 in
    let rule = and_parts ((e.count == length (done y t a.life.steps)) && (e.count == 0 || e.inc == a.life.inc)) (not (list_any (λ q. same_txn t q.txn) (waiting y (log_now a nothing) a.life.steps))) outer.1 in
    let log_is : a.life.log ++ [] ≡ log_of sc start y = append-nil a.life.log ∙ place_log sc start y (input.Commit t) in
    record {
      says = subst (λ l. Says t l None None false) log_is (from_q t (a.life.log ++ []) (same_q (state_now a t nothing) first.0) (eqb-true (elected_now a t nothing) 1 first.1));
      ready = rule.0;
      still = ap (λ l. list_any (λ q. same_txn t q.txn) (waiting y l a.life.steps)) (sym log_is) ∙ turned (list_any (λ q. same_txn t q.txn) (waiting y (log_now a nothing) a.life.steps)) rule.1;
    }
  where
    turned : (b : Bool) → not b ≡ true → b ≡ false
    turned true is = absurd (true≢false (sym is))
    turned false is = refl

pub begins : (sc : Scenario) (start : List Entry) (t : Txn) → Starts sc start t → Stage sc t (expected_of sc start t) (start ++ entry_of sc start t.site (input.Commit t) ∷ []) 1
begins sc start t s = choose (rest_of t) refl
  where
    wants : ℕ → Expected
    wants = expected_of sc start t

    a : At
    a = place sc start t.site (input.Commit t)

    k : List Entry
    k = start ++ entry_of sc start t.site (input.Commit t) ∷ []

    home : Fits sc start t t.site
    home = fits_of sc start t t.site (s.fit t.site s.ground.home)

    elected : (elected_now a t nothing == 1) ≡ true
    elected = ap (λ l. last_elected t l == 1) (append-nil a.life.log ∙ place_log sc start t.site (input.Commit t)) ∙ ap (λ n. n == 1) home.says.joined

    ops : List NumOp
    ops = map (λ p. let o : NumOp = record { n = p.n; op = p.op } in o) (done t.site t a.life.steps)

    voted : Made
    voted = makes (log.Vote t ops ∷ []) []

    untried : last_attempt t (log_of sc start t.site) ≡ 0
    untried = none_attempted t (log_of sc start t.site) 0 home.says.tried

    taken : on_input a (unnumbered_input (input.Commit t)) nothing ≡ on_commit a t nothing
    taken = rw (s.not_refused) refl

    load_none : weight sc t start ≡ 0
    load_none = no_waiting (weight_of t) (waiting_of sc start) (pending_waits sc start ∙ s.settled)

    step : (was : Made) → on_commit a t nothing ≡ was → was.own ≡ [] → Stepped sc t start t.site (input.Commit t) was
    step was row none = stepped sc t start t.site (input.Commit t) was s.ground.counted s.once (λ n above. refl) refl (s.ground.still t.site s.ground.home) (taken ∙ row) none

    vote_attempt : last_attempt t (log_of sc start t.site ++ log.Vote t ops ∷ []) ≡ 0
    vote_attempt = fold-append (last_attempt_by t) 0 (log_of sc start t.site) (log.Vote t ops ∷ []) ∙ untried

    choose : (xs : List ℕ) → rest_of t ≡ xs → Stage sc t wants k 1
    choose [] none =
        let tried_made : Made = makes (log.Vote t ops ∷ log.Attempt t 1 Commit ∷ []) [] in
        let d : DecidesMore t Commit tried_made (and_decide a t Commit tried_made) = decides_more a t Commit tried_made in
        let was : Made = record (and_decide a t Commit tried_made) { outs = (and_decide a t Commit tried_made).outs ++ map (mail t.site (msg.Decide t Commit)) (rest_of t) } in
        let log_is : a.life.log ≡ log_of sc start t.site = place_log sc start t.site (input.Commit t) in
        let logs : a.life.log ++ log.Vote t ops ∷ [] ≡ log_of sc start t.site ++ log.Vote t ops ∷ [] = ap (λ l. l ++ log.Vote t ops ∷ []) log_is in
        let says : Says t (log_of sc start t.site ++ log.Vote t ops ∷ []) None None true = says_voted t (log_of sc start t.site) ops None None false home.says in
        let row : on_commit a t nothing ≡ and_attempt a t 1 Commit t.sites voted = rw (elected, none) refl in
        let ends : and_attempt a t 1 Commit t.sites voted ≡ was = attempt_ends a t voted (ap (is_undecided t) logs ∙ rw (says.decided) refl) (ap (last_elected t) logs ∙ says.joined) (ap (last_attempt t) logs ∙ vote_attempt) (s.covers [] (λ y has. absurd (nobody y has none))) in
        let st : Stepped sc t start t.site (input.Commit t) was = step was (row ∙ ends) d.own in
        let sent_none : was.outs ≡ [] = ap (λ z. z ++ map (mail t.site (msg.Decide t Commit)) (rest_of t)) d.outs ∙ ap (map (mail t.site (msg.Decide t Commit))) none in
        let now : log_of sc k t.site ≡ (log_of sc start t.site ++ log.Vote t ops ∷ log.Attempt t 1 Commit ∷ []) ++ log.Decision t Commit ∷ [] =
        st.log ∙ ap (λ z. log_of sc start t.site ++ z) d.records ∙ sym (append_assoc (log_of sc start t.site) (log.Vote t ops ∷ log.Attempt t 1 Commit ∷ []) (log.Decision t Commit ∷ [])) in
        let on : weight sc t k ≤ weight sc t start + total (weight_of t) was.outs = weight_on sc t start t.site (input.Commit t) was.outs (weight_of t) (weighs t) st.sends in
        let light : total (weight_of t) was.outs ≡ 0 = ap (total (weight_of t)) sent_none in
        Stage.Three (record {
          leads = ap (decision t) now ∙ decided_on t (log_of sc start t.site ++ log.Vote t ops ∷ log.Attempt t 1 Commit ∷ []) Commit;
          each = λ y has. absurd (nobody y has none);
          shaped = shapes_on sc t start t.site (input.Commit t) was.outs (is_shaped t wants 3) st.sends (λ q n. refl) (ap (list_all (is_shaped t wants 3)) sent_none) (other_shape t wants 3) (ap (list_all (is_shaped t wants 3)) s.settled);
          few = omega (arith, on, light, load_none);
        })
      where
        nobody : (y : ℕ) → has_site (rest_of t) y ≡ true → rest_of t ≡ [] → ⊥
        nobody y has none = true≢false (sym has ∙ ap (λ l. has_site l y) none)
    choose (x ∷ xs) some =
        let was : Made = makes (log.Vote t ops ∷ []) (map (request t wants) (x ∷ xs)) in
        let row : on_commit a t nothing ≡ fold (and_ask a t) voted (x ∷ xs) = rw (elected, some) refl in
        let asked : fold (and_ask a t) voted (x ∷ xs) ≡ was = asks_all a t wants refl (λ y. refl) (x ∷ xs) (λ y has. apart t y (ap (λ l. has_site l y) some ∙ has)) voted in
        let st : Stepped sc t start t.site (input.Commit t) was = step was (row ∙ asked) refl in
        let on : weight sc t k ≤ weight sc t start + total (weight_of t) was.outs = weight_on sc t start t.site (input.Commit t) was.outs (weight_of t) (weighs t) st.sends in
        let heavy : total (weight_of t) was.outs ≡ 2 * length (x ∷ xs) = requests_weigh t wants (x ∷ xs) in
        let many : length (rest_of t) ≡ length (x ∷ xs) = ap length some in
        Stage.One (record {
          came = [];
          leads = record {
            says = subst (λ l. Says t l None None true) (sym st.log) (says_voted t (log_of sc start t.site) ops None None false home.says);
            untried = ap (last_attempt t) st.log ∙ vote_attempt;
            gathered = votes_on sc t start (input.Commit t) ∙ gathers (made_by sc start t.site (input.Commit t)).told (yes_votes t (steps_at sc start t.site)) (life_at (moves_of sc start t.site)).log (made_by sc start t.site (input.Commit t)).records (map unnumbered (made_by sc start t.site (input.Commit t)).outs)
                (ap (list_any is_refusal) st.beside.told ∙ none_refused st.beside.ops st.beside.tell_others);
            few = ap (λ l. is_within l []) some;
          };
          each = λ y has. inl (
              let other : (t.site == y) ≡ false = turn_round y t.site (apart t y has) in
              let carries : Carries sc t start k y = carries_other sc t start t.site y (input.Commit t) other in
              let fit : Fits sc start t y = fits_of sc start t y (s.fit y (member_of t y has)) in
              record {
                says = carries.log None None false fit.says;
                ready = carries.ready (wants y) (rw (fit.says.decided) refl) fit.ready;
                asked = comes sc t start t.site (input.Commit t) was.outs (asks t y) st.sends (λ q n. refl) (asks_of t y) (requests_some t wants y (x ∷ xs) (ap (λ l. has_site l y) (sym some) ∙ has));
              });
          shaped = shapes_on sc t start t.site (input.Commit t) was.outs (is_shaped t wants 1) st.sends (λ q n. refl) (requests_shaped t wants (x ∷ xs) (λ y has. ap (λ l. has_site l y) some ∙ has)) (other_shape t wants 1) (ap (list_all (is_shaped t wants 1)) s.settled);
          few = omega (arith, on, heavy, load_none, many);
        })
      where
        none_refused : (es : List Told) → list_all (other_told t) es ≡ true → list_any is_refusal es ≡ false
        none_refused [] all = refl
        none_refused (told.Op u n answer ∷ es) all = none_refused es (and_parts (not (same_txn t u)) (list_all (other_told t) es) all).1
        none_refused (told.Began u ∷ es) all = absurd cc
        none_refused (told.Ended u dir ∷ es) all = absurd cc
        none_refused (told.Died u older ∷ es) all = absurd cc
        none_refused (told.Doomed u site had now ∷ es) all = absurd cc
        none_refused (told.Refused u why ∷ es) all = absurd cc
        none_refused (told.Kept u st ∷ es) all = absurd cc
        none_refused (told.Verdict u n v ∷ es) all = absurd cc

        gathers : (es : List Told) (w : Option (List ℕ)) (b r : List Record) (o : List Packet) → list_any is_refusal es ≡ false →
            yes_by t w (record { before = b; input = input.Commit t; records = r; outs = o; told = es }) ≡ Some []
        gathers es w b r o none = rw (same_self t, none) refl
