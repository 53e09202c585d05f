-- The round of a group of several comes to its end with the last report, or with its decision.
use Rattle.std.proofs.Common.{◌≡◌, ◌==◌, ◌&&◌, ◌+◌, ◌-◌, ◌*◌, ◌≤◌, ◌++◌, ◌∷◌, [], ℕ, suc, Bool, true, false, List, length, length-append, append-nil, append_assoc, inl, inr, ◌⊎◌, ◌∙◌, ap, sym, subst, refl, map, nat_lt, nat_le, arith}
use Rattle.std.proofs.lemmas.Bool.{ne_eqb}
use Rattle.std.proofs.lemmas.Grind.{common_steps}
use Rattle.e3_types.specs.declared.entries.Entry.{Entry}
use Rattle.e3_types.specs.declared.messages.Message.TheVariants as msg
use Rattle.e3_types.specs.declared.messages.Packet.{Packet}
use Rattle.e3_types.specs.declared.records.Record.TheVariants as log
use Rattle.e3_types.specs.declared.scenarios.Scenario.{Scenario}
use Rattle.e3_types.specs.declared.transactions.Dir.{Dir}
use Rattle.e3_types.specs.declared.transactions.Txn.{Txn}
use Rattle.e3_types.specs.declared.verdicts.Verdict.{Verdict}
use Rattle.e3_types.specs.declared.verdicts.Verdict.TheVariants as verdict
use Rattle.e3_types.specs.Quorums.{is_quorum}
use Rattle.e3_types.specs.Sets.{has_site, others}
use Rattle.e3_world.specs.declared.lives.At.{At}
use Rattle.e3_world.specs.declared.lives.Made.{Made}
use Rattle.e3_world.specs.ElectionRules.{and_verdict}
use Rattle.e3_world.specs.Elections.{all_reported, greatest_heard}
use Rattle.e3_world.specs.Items.{RecoveryRound}
use Rattle.e3_world.specs.Legal.{IsLegal}
use Rattle.e3_world.specs.Logs.{is_undecided, last_attempt, last_elected, state_of}
use Rattle.e3_world.specs.Making.{nothing, and_cast, is_coordinator, is_present}
use Rattle.e3_world.specs.Messages.{on_message}
use Rattle.e3_world.specs.Moves.{log_of, moves_of}
use Rattle.e3_world.proofs.Pushes.{legal_front, life_log_at}
use Rattle.e3_world.proofs.Turns.{self}
use Rattle.e3_laws.specs.agreement.Logs.{IsIn}
use Rattle.e3_laws.proofs.agreement.Refinement.Lists.{in_right}
use Rattle.e3_laws.specs.rounds.Rounds.{elect_entry, is_open}
use Rattle.e3_laws.proofs.rounds.Phases.Asked.{Asked, asked_begins}
use Rattle.e3_laws.proofs.rounds.Beginning.{Begun, each_site}
use Rattle.e3_laws.proofs.rounds.Verdict.Choosing.{Asks, Blocks, Ends, Kind, asks_enough, asks_open, attempt_fits, attempt_less, elected_some, ends_fit, fits_more, kind_of, verdict_at}
use Rattle.e3_laws.proofs.rounds.Verdict.Concluding.{alone_concludes, alone_is, alone_made, final_choice, final_concludes, final_is}
use Rattle.e3_laws.proofs.rounds.Phases.Decided.{Decided, fits}
use Rattle.e3_laws.proofs.rounds.Phases.Decisive.{attempts_to_tail, to_attempts, to_tail}
use Rattle.e3_laws.proofs.rounds.Deliveries.Delivering.{taking}
use Rattle.e3_laws.proofs.rounds.Verdict.Ending.{Outcome, ends_blocked, ends_decided}
use Rattle.e3_laws.proofs.rounds.Phases.Heard.{election}
use Rattle.e3_laws.proofs.rounds.Phases.Joined.{join_of, number_of, numbered_election, report_mail, site_report}
use Rattle.e3_laws.proofs.rounds.Phases.Numbering.{attempt_open, join_attempt, join_elected, join_open, number_above}
use Rattle.e3_laws.proofs.rounds.Phases.Reported.{Reported, block_ends, takes}
use Rattle.e3_laws.proofs.rounds.Phases.Turning.{Concludes, conclusion_begins, prepared_begins}
use Rattle.e3_laws.proofs.rounds.Phases.Walked.{Each, Turn, Walked, all_of, but_last, one_walked, to_last_report}
use Rattle.e3_laws.proofs.rounds.Deliveries.Walking.{Rest}
use Rattle.e3_laws.proofs.rounds.Phases.Winning.{final_of, last_report, pre_of}
use Rattle.e3_laws.proofs.rounds.Phases.Won.{Prepared, attempt_of}

-- what an elector records that is a quorum alone
alone_records : (a : At) (t : Txn) (n : ℕ) (dir : Dir) → (alone_made a t n dir []).records ≡ log.Attempt t n dir ∷ log.Decision t dir ∷ []
alone_records a t n dir = by (is_coordinator a t && is_present a t) refl
  where
    by : (b : Bool) → (is_coordinator a t && is_present a t) ≡ b → (alone_made a t n dir []).records ≡ log.Attempt t n dir ∷ log.Decision t dir ∷ []
    by true is = rw is refl
    by false is = rw is refl

-- the same decision, with the logs as they are now
decided_now : (sc : Scenario) (start : List Entry) (r : RecoveryRound) (base : List Entry) (dir : Dir) (h : List Entry) (own : ℕ) (v : Verdict) (done todo : List ℕ) →
    Decided sc start r base dir h own (record { site = r.elector; verdict = v } ∷ []) done todo → Decided sc start r h dir h own (record { site = r.elector; verdict = v } ∷ []) done todo
decided_now sc start r base dir h own v done todo was = record {
  queue = was.queue;
  is_queue = was.is_queue;
  lates = was.lates;
  unnumbered_queue = was.unnumbered_queue;
  are_late = was.are_late;
  logs = λ s has. refl;
  decided = was.decided;
  entered = was.entered;
}

less_le : (a b : ℕ) → nat_lt a (suc b) ≡ true → nat_le a b ≡ true
less_le a b is = grind (arith, common_steps, is)

not_one : (a n : ℕ) → 1 ≤ a → nat_lt a n ≡ true → (n == 1) ≡ false
not_one a n some is = grind (arith, common_steps, some, is)

not_same : (a n : ℕ) → nat_lt a n ≡ true → (a == n) ≡ false
not_same a n is = grind (arith, common_steps, is)

-- the round from the last report on
pub reports_end : (sc : Scenario) (start more : List Entry) (r : RecoveryRound) (init : List ℕ) (z : ℕ) → (begun : Begun sc start more r) → begun.all ≡ init ++ z ∷ [] →
    (now later : List Entry) (own : ℕ) → now ++ later ≡ (start ++ elect_entry sc start r ∷ []) ++ more → Rest sc r.members now later → own ≡ 4 * suc (length init) →
    Reported sc start r (init ++ z ∷ []) now own init (z ∷ []) → Outcome sc start more r (verdict_at sc start r.txn r.members)
reports_end sc start more r init z begun all_is now later own parts rest own_is was =
    subst (λ ms. Outcome sc start more r (verdict_at sc start r.txn ms)) (sym members) (by (kind_of v))
  where
    t : Txn
    t = r.txn

    e : Entry
    e = elect_entry sc start r

    all : List ℕ
    all = init ++ z ∷ []

    members : r.members ≡ r.elector ∷ all
    members = begun.members ∙ ap (λ l. r.elector ∷ l) all_is

    receivers : others r.elector r.members ≡ all
    receivers = begun.receivers ∙ all_is

    turns : Each (Turn r) [] all
    turns = subst (Each (Turn r) []) all_is begun.turns

    last : Turn r init z []
    last = (but_last r z [] init turns).1

    v : Verdict
    v = verdict_at sc start t (r.elector ∷ all)

    n : ℕ
    n = number_of sc start r all

    leads : has_site r.members r.elector ≡ true
    leads = ap (λ l. has_site l r.elector) members ∙ rw (self r.elector) refl

    long : length r.members ≡ suc (suc (length init))
    long = ap length members ∙ (let two : length all ≡ length init + 1 = length-append init (z ∷ []) in let sum_is : suc (length all) ≡ suc (suc (length init)) = omega (arith, two) in sum_is)

    all_long : length all ≡ suc (length init)
    all_long = length-append init (z ∷ []) ∙ (let one : length init + 1 ≡ suc (length init) = omega arith in one)

    covers : (s : ℕ) → has_site r.members s ≡ true → has_site (r.elector ∷ all) s ≡ true
    covers s has = ap (λ l. has_site l s) (sym members) ∙ has

    complete : all_reported (numbered_election sc start r all all) ≡ true
    complete = all_of (site_report sc start t) r z init last

    above : (m : ℕ) → has_site r.members m ≡ true → nat_lt (last_elected t (log_of sc start m)) n ≡ true
    above m has = number_above sc start r all m (covers m has)

    joined_log : (m : ℕ) → has_site r.members m ≡ true → log_of sc now m ≡ log_of sc start m ++ log.Join t n ∷ []
    joined_log m has = was.logs m ∙ (let here : log_of sc start m ++ join_of r n all m ≡ log_of sc start m ++ log.Join t n ∷ [] = rw (covers m has) refl in here)

    q : Packet
    q = report_mail sc start r n z

    a : At
    a = taking sc now q

    log_is : a.life.log ≡ log_of sc now r.elector
    log_is = life_log_at (moves_of sc now r.elector)

    row_of : on_message a z q.msg nothing ≡ and_verdict a t n r.members (map (site_report sc start t) (r.elector ∷ all)) nothing
    row_of = last_report a z t n (state_of t (log_of sc start z)) (last_attempt t (log_of sc start z)) (numbered_election sc start r all init) (numbered_election sc start r all all)
        was.gathered (takes sc start r all init z last.member last.fresh) complete

    legal_at : (h more_of : List Entry) → h ++ more_of ≡ now ++ later → IsLegal sc h
    legal_at h more_of is = legal_front sc h more_of (subst (IsLegal sc) (sym (is ∙ parts ∙ append_assoc start (e ∷ []) more)) begun.legal)

    -- a walk from here
    from_here : (Q : List Entry → Type 0) → Walked sc r now later Q → Walked sc r (start ++ e ∷ []) more Q
    from_here Q w = record { now = w.now; later = w.later; is = w.is ∙ parts; rest = w.rest; phase = w.phase }

    bound : (k : ℕ) → k ≤ suc (7 * suc (length init)) → k ≤ 1 + 7 * (length r.members - 1)
    bound k less = omega (arith, less, long)

    -- the decision is told at once
    told_at_once : (w : Verdict) (dir : Dir) (h more_of : List Entry) → v ≡ w → h ++ more_of ≡ now ++ later → Rest sc r.members h more_of → (base : List Entry) →
        ((m : ℕ) → has_site r.members m ≡ true → (is_undecided t (log_of sc base m) ≡ false) ⊎ (fits t dir (log_of sc base m) ≡ true)) →
        Decided sc start r base dir h (suc own) (record { site = r.elector; verdict = w } ∷ []) [] all → Outcome sc start more r v
    told_at_once w dir h more_of is same rest_of base either decided =
        let tail = to_tail sc start r base dir h more_of (suc own) (record { site = r.elector; verdict = w } ∷ []) all leads turns covers either rest_of decided in
        subst (Outcome sc start more r) (sym is)
        (ends_decided sc start more r w (suc own + length all) begun (omega (arith, own_is)) (bound (suc own + length all) (omega (arith, own_is, all_long)))
        (record { now = tail.now; later = tail.later; is = tail.is ∙ same ∙ parts; rest = tail.rest; phase = tail.phase }))

    same_front : (h0 : Entry) (l : List Entry) → later ≡ h0 ∷ l → (now ++ h0 ∷ []) ++ l ≡ now ++ later
    same_front h0 l is = append_assoc now (h0 ∷ []) l ∙ ap (λ x. now ++ x) (sym is)

    undecided : (dir : Dir) → v ≡ pre_of dir → (m : ℕ) → has_site r.members m ≡ true → is_undecided t (log_of sc now m) ≡ true
    undecided dir is m has =
        ap (is_undecided t) (joined_log m has) ∙ join_open t n (log_of sc start m)
        ∙ each_site (is_open sc start t) (r.elector ∷ all) m (asks_open sc start t (r.elector ∷ all) dir is) (covers m has)

    joined : (m : ℕ) → has_site r.members m ≡ true → (last_elected t (log_of sc now m) == n) ≡ true
    joined m has = ap (λ l. last_elected t l == n) (joined_log m has) ∙ join_elected t n (log_of sc start m) (above m has)

    untried : (m : ℕ) → has_site r.members m ≡ true → nat_lt (last_attempt t (log_of sc now m)) n ≡ true
    untried m has = ap (λ l. nat_lt (last_attempt t l) n) (joined_log m has) ∙ ap (λ k. nat_lt k n) (join_attempt t n (log_of sc start m)) ∙ attempt_less sc start t n m begun.given begun.legal_start (above m has)

    asks : (dir : Dir) → v ≡ pre_of dir → (b : Bool) → is_quorum sc.weights (r.elector ∷ []) t.sites ≡ b → Outcome sc start more r v
    asks dir is true alone =
        let x : Made = alone_made a t n dir [] in
        let row : on_message a z q.msg nothing ≡ and_cast a r.members (msg.Decide t dir) x =
        row_of ∙ alone_is a t n r.members (map (site_report sc start t) (r.elector ∷ all)) dir [] is
        (ap (is_undecided t) (append-nil a.life.log ∙ log_is) ∙ undecided dir is r.elector leads)
        (ap (λ l. last_elected t l == n) (append-nil a.life.log ∙ log_is) ∙ joined r.elector leads)
        (ap (λ l. nat_lt (last_attempt t l) n) (append-nil a.life.log ∙ log_is) ∙ untried r.elector leads) alone in
        let step = conclusion_begins sc start r all dir (pre_of dir) x now later own init z last.member leads last.away row
        (subst (λ l. Concludes t n (pre_of dir) l x) log_is (alone_concludes a t n dir [])) rest was in
        let h : List Entry = now ++ step.0 ∷ [] in
        let has : IsIn (log.Attempt t n dir) (log_of sc h r.elector) =
        subst (IsIn (log.Attempt t n dir)) (sym (step.5 ∙ ap (λ rs. log_of sc now r.elector ++ rs) (alone_records a t n dir)))
        (in_right (log.Attempt t n dir) (log_of sc now r.elector) (log.Attempt t n dir ∷ log.Decision t dir ∷ []) (inl refl)) in
        told_at_once (pre_of dir) dir h step.1 is (same_front step.0 step.1 step.2) step.3 h
        (λ m member. inr (attempt_fits sc h t n dir m r.elector begun.given (legal_at h step.1 (same_front step.0 step.1 step.2)) has (begun.sites m member)))
        (decided_now sc start r now dir h (suc own) (pre_of dir) [] all
        (subst (λ l. Decided sc start r now dir h (suc own) (record { site = r.elector; verdict = pre_of dir } ∷ []) [] l) receivers step.4))
    asks dir is false alone =
        let step = prepared_begins sc start r all dir now later own init z last.member leads last.away last.fresh complete is (undecided dir is r.elector leads) (joined r.elector leads)
        (untried r.elector leads) (not_one (last_elected t (log_of sc start r.elector)) n (elected_some t 1 (log_of sc start r.elector) (omega arith)) (above r.elector leads)) alone rest was in
        let tries = to_attempts sc start r now n dir (now ++ step.0 ∷ []) step.1 (suc own) (record { site = r.elector; verdict = pre_of dir } ∷ []) all leads turns
        (λ m has. (undecided dir is m has, joined m has, not_same (last_attempt t (log_of sc now m)) n (untried m has))) step.3
        (subst (λ l. Prepared sc start r now n dir (now ++ step.0 ∷ []) (suc own) (record { site = r.elector; verdict = pre_of dir } ∷ []) [] l) receivers step.4) in
        let same : tries.now ++ tries.later ≡ now ++ later = tries.is ∙ same_front step.0 step.1 step.2 in
        let log_now : log_of sc tries.now r.elector ≡ log_of sc now r.elector ++ log.Attempt t n dir ∷ [] =
        tries.phase.1 r.elector ∙ (let here : log_of sc now r.elector ++ attempt_of r n dir all r.elector ≡ log_of sc now r.elector ++ log.Attempt t n dir ∷ [] = rw (self r.elector) refl in here) in
        let has : IsIn (log.Attempt t n dir) (log_of sc tries.now r.elector) =
        subst (IsIn (log.Attempt t n dir)) (sym log_now) (in_right (log.Attempt t n dir) (log_of sc now r.elector) (log.Attempt t n dir ∷ []) (inl refl)) in
        let fit : (m : ℕ) → has_site r.members m ≡ true → fits t dir (log_of sc tries.now m) ≡ true =
        λ m member. attempt_fits sc tries.now t n dir m r.elector begun.given (legal_at tries.now tries.later same) has (begun.sites m member) in
        let still : is_undecided t (log_of sc tries.now r.elector) ≡ true = ap (is_undecided t) log_now ∙ attempt_open t n dir (log_of sc now r.elector) ∙ undecided dir is r.elector leads in
        let tail = attempts_to_tail sc start r n dir tries.now tries.later (suc own + length all) (record { site = r.elector; verdict = pre_of dir } ∷ []) all leads turns receivers covers
        (rw (still, fit r.elector leads) refl) (λ m member. inr (fit m member)) alone (asks_enough sc start t (r.elector ∷ all) dir is) tries.rest tries.phase.0 in
        subst (Outcome sc start more r) (sym is)
        (ends_decided sc start more r (pre_of dir) (((suc own + length all) + length all) + length all) begun (omega (arith, own_is))
        (bound (((suc own + length all) + length all) + length all) (omega (arith, own_is, all_long)))
        (record { now = tail.now; later = tail.later; is = tail.is ∙ same ∙ parts; rest = tail.rest; phase = tail.phase }))

    by : Kind v → Outcome sc start more r v
    by (Blocks have total is) =
        let step = block_ends sc start r all now later own have total init z last.member leads last.away last.fresh complete is rest was in
        subst (Outcome sc start more r) (sym is)
        (ends_blocked sc start more r (verdict.Block have total) (suc own) begun (omega (arith, own_is)) (bound (suc own) (omega (arith, own_is))) refl
        (from_here _ (one_walked sc r now later _ (step.0, step.1, step.2, step.3, (step.4, step.5)))))
    by (Ends dir is) =
        let x : Made = final_choice a t n dir [] in
        let row : on_message a z q.msg nothing ≡ and_cast a r.members (msg.Decide t dir) x = row_of ∙ final_is a t n r.members (map (site_report sc start t) (r.elector ∷ all)) dir [] is in
        let fit : (m : ℕ) → has_site r.members m ≡ true → fits t dir (log_of sc now m) ≡ true =
        λ m member. subst (λ l. fits t dir l ≡ true) (sym (joined_log m member))
        (fits_more t dir (log_of sc start m) (log.Join t n ∷ []) (ends_fit sc start t (r.elector ∷ all) dir m begun.given begun.legal_start is (begun.sites m member))) in
        let step = conclusion_begins sc start r all dir (final_of dir) x now later own init z last.member leads last.away row
        (subst (λ l. Concludes t n (final_of dir) l x) log_is
        (final_concludes a t n dir [] (inr (subst (λ l. fits t dir l ≡ true) (sym (append-nil a.life.log ∙ log_is)) (fit r.elector leads))))) rest was in
        told_at_once (final_of dir) dir (now ++ step.0 ∷ []) step.1 is (same_front step.0 step.1 step.2) step.3 now (λ m member. inr (fit m member))
        (subst (λ l. Decided sc start r now dir (now ++ step.0 ∷ []) (suc own) (record { site = r.elector; verdict = final_of dir } ∷ []) [] l) receivers step.4)
    by (Asks dir is) = asks dir is (is_quorum sc.weights (r.elector ∷ []) t.sites) refl

-- from the Elect on
pub several_end : (sc : Scenario) (start more : List Entry) (r : RecoveryRound) (init : List ℕ) (z : ℕ) → (begun : Begun sc start more r) → begun.all ≡ init ++ z ∷ [] →
    nat_lt (greatest_heard (election sc start r (init ++ z ∷ []))) 4294967295 ≡ true → Outcome sc start more r (verdict_at sc start r.txn r.members)
several_end sc start more r init z begun all_is low =
    let w = to_last_report sc start r (start ++ e ∷ []) more init z first.0 first.1 receivers (receivers ∙ first.2) many leads turns low
    (less_le (last_elected r.txn (log_of sc start r.elector)) (greatest_heard (election sc start r all)) (number_above sc start r all r.elector (rw (self r.elector) refl)))
    (λ m has. number_above sc start r all m (ap (λ l. has_site l m) (sym members) ∙ has)) begun.rest
    (subst (Asked sc start r (start ++ e ∷ []) []) receivers (asked_begins sc start r begun.counted begun.settled begun.calm many begun.together)) in
    reports_end sc start more r init z begun all_is w.now w.later w.phase.0 w.is w.rest w.phase.1 w.phase.2
  where
    e : Entry
    e = elect_entry sc start r

    all : List ℕ
    all = init ++ z ∷ []

    members : r.members ≡ r.elector ∷ all
    members = begun.members ∙ ap (λ l. r.elector ∷ l) all_is

    receivers : others r.elector r.members ≡ all
    receivers = begun.receivers ∙ all_is

    turns : Each (Turn r) [] all
    turns = subst (Each (Turn r) []) all_is begun.turns

    leads : has_site r.members r.elector ≡ true
    leads = ap (λ l. has_site l r.elector) members ∙ rw (self r.elector) refl

    some : (xs : List ℕ) → (s : ℕ) × (ss : List ℕ) × (xs ++ z ∷ [] ≡ s ∷ ss)
    some [] = (z, [], refl)
    some (x ∷ xs) = (x, xs ++ z ∷ [], refl)

    first : (s : ℕ) × (ss : List ℕ) × (all ≡ s ∷ ss)
    first = some init

    many : (1 == length r.members) ≡ false
    many =
        let long : length r.members ≡ suc (length all) = ap length members in
        let two : length all ≡ length init + 1 = length-append init (z ∷ []) in
        ne_eqb 1 (length r.members) (λ same. let clash : ⊥ = omega (arith, long, two, same) in clash)
