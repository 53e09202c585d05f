-- What a site other than the coordinator makes of a request, of an attempt that is asked of it, and of a decision, in each stage.
use Rattle.std.proofs.Common.{◌≡◌, ◌⊎◌, ◌==◌, ◌&&◌, ◌≤◌, ◌∷◌, [], ℕ, suc, true, false, List, Some, None, refl, ap, sym, subst, ◌∙◌, append-nil, map, eq-eqb, true≢false, arith, inl, inr}
use Rattle.std.specs.List.{list_all, list_any}
use Rattle.std.proofs.lemmas.Bool.{and_parts}
use Rattle.e3_types.specs.declared.entries.Entry.{Entry}
use Rattle.e3_types.specs.declared.entries.Input.TheVariants as input
use Rattle.e3_types.specs.declared.messages.Message.{Message}
use Rattle.e3_types.specs.declared.messages.Message.TheVariants as msg
use Rattle.e3_types.specs.declared.messages.Packet.{Packet}
use Rattle.e3_types.specs.declared.records.Record.TheVariants as log
use Rattle.e3_types.specs.declared.scenarios.Scenario.{Scenario}
use Rattle.e3_types.specs.declared.transactions.Dir.TheVariants.{Commit}
use Rattle.e3_types.specs.declared.transactions.NumOp.{NumOp}
use Rattle.e3_types.specs.declared.transactions.Txn.{Txn}
use Rattle.e3_types.specs.Same.{same_txn}
use Rattle.e3_types.specs.Sets.{has_site}
use Rattle.e3_world.specs.declared.lives.Expected.{Expected}
use Rattle.e3_world.specs.declared.lives.Made.{Made}
use Rattle.e3_world.specs.Lives.{life_at}
use Rattle.e3_world.specs.Logs.{decision}
use Rattle.e3_world.specs.Making.{nothing, and_decide, log_now}
use Rattle.e3_world.specs.Messages.{on_message}
use Rattle.e3_world.specs.Moves.{log_of, moves_of}
use Rattle.e3_world.specs.Operations.{done, waiting}
use Rattle.e3_world.specs.VoteRules.{vote_rule}
use Rattle.e3_world.proofs.Turns.{self}
use Rattle.e3_laws.proofs.steps.Moving.{place, place_log}
use Rattle.e3_laws.proofs.rounds.Phases.Rows.{mail, makes}
use Rattle.e3_laws.specs.rounds.Commits.{is_packet_of}
use Rattle.e3_laws.proofs.rounds.Commits.Effects.{Stepped, comes}
use Rattle.e3_laws.proofs.rounds.Commits.Logs.{Says, decided_on, says_tried, says_voted}
use Rattle.e3_laws.proofs.rounds.Commits.Packets.{total}
use Rattle.e3_laws.proofs.rounds.Commits.Rows.{Decides, decides, row_end, row_end_ended, row_prepare, row_prepare_ended, row_request, row_request_ended, row_request_voted}
use Rattle.e3_laws.proofs.rounds.Commits.Shapes.{acks, asks, ends, is_shaped, prepares, votes, weight_of}
use Rattle.e3_laws.proofs.rounds.Commits.Stages.{Committed, First, Fresh, Pends, Second, Stage, StageOne, StageThree, StageTwo, Third, Voted, steps_at}
use Rattle.e3_laws.proofs.rounds.Commits.Turns.{AtSite, Given, ack_light, ack_shaped, after, at_place, away_from, decided_place, end_at, keep, logged, member_of, prepare_at, request_at, same_log, site_one, site_three, site_two, vote_light, vote_shaped, voted_same}
use Rattle.e3_laws.proofs.steps.Tests.{same_self}

-- what passes these tests is the transaction's
pub votes_of : (t : Txn) (y : ℕ) (q : Packet) → votes t y q ≡ true → is_packet_of t q ≡ true
votes_of t y q holds = by q.msg refl
  where
    by : (m : Message) → q.msg ≡ m → is_packet_of t q ≡ true
    by (msg.Vote u said) is = let says : (same_txn t u && q.«from» == y && q.to == t.site) ≡ votes t y q = rw is refl in
        rw is (and_parts (same_txn t u) (q.«from» == y) (and_parts (same_txn t u && q.«from» == y) (q.to == t.site) (says ∙ holds)).0).0
    by m is = absurd (let off : votes t y q ≡ false = rw is refl in true≢false (sym holds ∙ off))

pub acks_of : (t : Txn) (y : ℕ) (q : Packet) → acks t y q ≡ true → is_packet_of t q ≡ true
acks_of t y q holds = by q.msg refl
  where
    by : (m : Message) → q.msg ≡ m → is_packet_of t q ≡ true
    by (msg.Ack u n dir) is = let says : (same_txn t u && q.«from» == y && q.to == t.site) ≡ acks t y q = rw is refl in
        rw is (and_parts (same_txn t u) (q.«from» == y) (and_parts (same_txn t u && q.«from» == y) (q.to == t.site) (says ∙ holds)).0).0
    by m is = absurd (let off : acks t y q ≡ false = rw is refl in true≢false (sym holds ∙ off))

pub prepares_of : (t : Txn) (y : ℕ) (q : Packet) → prepares t y q ≡ true → is_packet_of t q ≡ true
prepares_of t y q holds = by q.msg refl
  where
    by : (m : Message) → q.msg ≡ m → is_packet_of t q ≡ true
    by (msg.Pre u n dir) is = let says : (same_txn t u && q.to == y) ≡ prepares t y q = rw is refl in rw is (and_parts (same_txn t u) (q.to == y) (says ∙ holds)).0
    by m is = absurd (let off : prepares t y q ≡ false = rw is refl in true≢false (sym holds ∙ off))

pub asks_of : (t : Txn) (y : ℕ) (q : Packet) → asks t y q ≡ true → is_packet_of t q ≡ true
asks_of t y q holds = by q.msg refl
  where
    by : (m : Message) → q.msg ≡ m → is_packet_of t q ≡ true
    by (msg.VoteReq u inc count) is = let says : (same_txn t u && q.to == y) ≡ asks t y q = rw is refl in rw is (and_parts (same_txn t u) (q.to == y) (says ∙ holds)).0
    by m is = absurd (let off : asks t y q ≡ false = rw is refl in true≢false (sym holds ∙ off))

pub ends_of : (t : Txn) (y : ℕ) (q : Packet) → ends t y q ≡ true → is_packet_of t q ≡ true
ends_of t y q holds = by q.msg refl
  where
    by : (m : Message) → q.msg ≡ m → is_packet_of t q ≡ true
    by (msg.Decide u dir) is = let says : (same_txn t u && q.to == y) ≡ ends t y q = rw is refl in rw is (and_parts (same_txn t u) (q.to == y) (says ∙ holds)).0
    by m is = absurd (let off : ends t y q ≡ false = rw is refl in true≢false (sym holds ∙ off))

-- a fresh site meets the vote rule
rule_holds : (sc : Scenario) (t : Txn) (wants : ℕ → Expected) (h : List Entry) (p : Packet) → Given sc t h p → Fresh sc t wants h p.to →
    vote_rule (place sc h p.to (input.Deliver p)) t (wants p.to).inc (wants p.to).count nothing ≡ true
rule_holds sc t wants h p g fresh = rw (fresh.ready, still) refl
  where
    still : list_any (λ q. same_txn t q.txn) (waiting p.to (log_now (place sc h p.to (input.Deliver p)) nothing) (steps_at sc h p.to)) ≡ false
    still = ap (λ l. list_any (λ q. same_txn t q.txn) (waiting p.to l (steps_at sc h p.to))) (append-nil (life_at (moves_of sc h p.to)).log ∙ place_log sc h p.to (input.Deliver p))
        ∙ g.turn.ground.still p.to (member_of t p.to g.here)

light_none : (t : Txn) (k : ℕ) → 1 ≤ k → suc (total (weight_of t) []) ≤ k
light_none t k some = some

abbrev ops_of : Scenario → List Entry → Txn → ℕ → List NumOp
ops_of sc h t s = map (λ p. let o : NumOp = record { n = p.n; op = p.op } in o) (done s t (steps_at sc h s))

pub request_one : (sc : Scenario) (t : Txn) (wants : ℕ → Expected) (h : List Entry) (p : Packet) (n : ℕ) → Given sc t h p → p.msg ≡ msg.VoteReq t (wants p.to).inc (wants p.to).count →
    StageOne sc t wants h n → Stage sc t wants (after sc h p.to p) (suc n)
request_one sc t wants h p n g is o = by (o.each p.to g.here)
  where
    reply : List Packet
    reply = mail p.to (msg.Vote t true) p.«from» ∷ []

    shaped : list_all (is_shaped t wants 1) reply ≡ true
    shaped = vote_shaped t wants 1 p.to p.«from» g.sender g.here

    home : (p.«from» == t.site) ≡ true
    home = eq-eqb p.«from» t.site g.sender

    voted : Voted sc t h p.to → (Pends sc h (votes t p.to) ⊎ (has_site o.came p.to ≡ true)) → (was : Made) → was.records ≡ [] → AtSite sc t wants h p was →
        First sc t wants (after sc h p.to p) o.came p.to
    voted v (inl some) was none at = inr (voted_same sc t h p was at.done none v, inl (keep sc t h p.to p (votes t p.to) g.turn (at.votes_not p.to) some))
    voted v (inr has) was none at = inr (voted_same sc t h p was at.done none v, inr has)

    by : First sc t wants h o.came p.to → Stage sc t wants (after sc h p.to p) (suc n)
    by (inl fresh) =
        let was : Made = makes (log.Vote t (ops_of sc h t p.to) ∷ []) reply in
        let at : AtSite sc t wants h p was = request_at sc t wants h p was g is
        (row_request (place sc h p.to (input.Deliver p)) p.«from» t (wants p.to).inc (wants p.to).count (away_from sc t h p g) (at_place sc t h p None None false fresh.says) (rule_holds sc t wants h p g fresh))
        refl (vote_light t p.to p.«from») in
        let now : Says t (log_of sc (after sc h p.to p) p.to) None None true =
        subst (λ l. Says t l None None true) (sym at.done.log) (says_voted t (log_of sc h p.to) (ops_of sc h t p.to) None None false fresh.says) in
        site_one sc t wants h p was n at o shaped (inr (
          (None, now),
          inl (comes sc t h p.to (input.Deliver p) reply (votes t p.to) at.done.sends (λ q k. refl) (votes_of t p.to) (rw (same_self t, self p.to, home) refl)),
        ))
    by (inr (v, some)) = choose (row_request_voted (place sc h p.to (input.Deliver p)) p.«from» t (wants p.to).inc (wants p.to).count v.0 (away_from sc t h p g) (at_place sc t h p None v.0 true v.1))
      where
        choose : (on_message (place sc h p.to (input.Deliver p)) p.«from» (msg.VoteReq t (wants p.to).inc (wants p.to).count) nothing ≡ makes [] reply)
            ⊎ (on_message (place sc h p.to (input.Deliver p)) p.«from» (msg.VoteReq t (wants p.to).inc (wants p.to).count) nothing ≡ nothing) → Stage sc t wants (after sc h p.to p) (suc n)
        choose (inl row) = let at : AtSite sc t wants h p (makes [] reply) = request_at sc t wants h p (makes [] reply) g is row refl (vote_light t p.to p.«from») in
            site_one sc t wants h p (makes [] reply) n at o shaped (voted v some (makes [] reply) refl at)
        choose (inr row) = let at : AtSite sc t wants h p nothing = request_at sc t wants h p nothing g is row refl (omega arith) in
            site_one sc t wants h p nothing n at o refl (voted v some nothing refl at)

pub request_two : (sc : Scenario) (t : Txn) (wants : ℕ → Expected) (h : List Entry) (p : Packet) (n : ℕ) → Given sc t h p → p.msg ≡ msg.VoteReq t (wants p.to).inc (wants p.to).count →
    StageTwo sc t wants h n → Stage sc t wants (after sc h p.to p) (suc n)
request_two sc t wants h p n g is o = by (o.each p.to g.here)
  where
    reply : List Packet
    reply = mail p.to (msg.Vote t true) p.«from» ∷ []

    stays_so : Second sc t h o.round.acked p.to → (was : Made) → was.records ≡ [] → AtSite sc t wants h p was → Second sc t (after sc h p.to p) o.round.acked p.to
    stays_so (v, inl some) was none at = (voted_same sc t h p was at.done none v, inl (keep sc t h p.to p (prepares t p.to) g.turn (rw is refl) some))
    stays_so (v, inr (inl some)) was none at = (voted_same sc t h p was at.done none v, inr (inl (keep sc t h p.to p (acks t p.to) g.turn (at.acks_not p.to) some)))
    stays_so (v, inr (inr has)) was none at = (voted_same sc t h p was at.done none v, inr (inr has))

    by : Second sc t h o.round.acked p.to → Stage sc t wants (after sc h p.to p) (suc n)
    by s = choose (row_request_voted (place sc h p.to (input.Deliver p)) p.«from» t (wants p.to).inc (wants p.to).count s.0.0 (away_from sc t h p g) (at_place sc t h p None s.0.0 true s.0.1))
      where
        choose : (on_message (place sc h p.to (input.Deliver p)) p.«from» (msg.VoteReq t (wants p.to).inc (wants p.to).count) nothing ≡ makes [] reply)
            ⊎ (on_message (place sc h p.to (input.Deliver p)) p.«from» (msg.VoteReq t (wants p.to).inc (wants p.to).count) nothing ≡ nothing) → Stage sc t wants (after sc h p.to p) (suc n)
        choose (inl row) = let at : AtSite sc t wants h p (makes [] reply) = request_at sc t wants h p (makes [] reply) g is row refl (vote_light t p.to p.«from») in
            site_two sc t wants h p (makes [] reply) n at o (vote_shaped t wants 2 p.to p.«from» g.sender g.here) (stays_so s (makes [] reply) refl at)
        choose (inr row) = let at : AtSite sc t wants h p nothing = request_at sc t wants h p nothing g is row refl (omega arith) in
            site_two sc t wants h p nothing n at o refl (stays_so s nothing refl at)

committed_same : (sc : Scenario) (t : Txn) (h : List Entry) (p : Packet) (was : Made) → Stepped sc t h p.to (input.Deliver p) was → was.records ≡ [] → Committed sc t h p.to → Committed sc t (after sc h p.to p) p.to
committed_same sc t h p was st none is = ap (decision t) (same_log sc t h p was st none) ∙ is

pub request_three : (sc : Scenario) (t : Txn) (wants : ℕ → Expected) (h : List Entry) (p : Packet) (n : ℕ) → Given sc t h p → p.msg ≡ msg.VoteReq t (wants p.to).inc (wants p.to).count →
    StageThree sc t wants h n → Stage sc t wants (after sc h p.to p) (suc n)
request_three sc t wants h p n g is o = by (o.each p.to g.here)
  where
    reply : List Packet
    reply = mail p.to (msg.Vote t true) p.«from» ∷ []

    by : Third sc t h p.to → Stage sc t wants (after sc h p.to p) (suc n)
    by (inl (v, some)) = choose (row_request_voted (place sc h p.to (input.Deliver p)) p.«from» t (wants p.to).inc (wants p.to).count v.0 (away_from sc t h p g) (at_place sc t h p None v.0 true v.1))
      where
        choose : (on_message (place sc h p.to (input.Deliver p)) p.«from» (msg.VoteReq t (wants p.to).inc (wants p.to).count) nothing ≡ makes [] reply)
            ⊎ (on_message (place sc h p.to (input.Deliver p)) p.«from» (msg.VoteReq t (wants p.to).inc (wants p.to).count) nothing ≡ nothing) → Stage sc t wants (after sc h p.to p) (suc n)
        choose (inl row) = let at : AtSite sc t wants h p (makes [] reply) = request_at sc t wants h p (makes [] reply) g is row refl (vote_light t p.to p.«from») in
            site_three sc t wants h p (makes [] reply) n at o (vote_shaped t wants 3 p.to p.«from» g.sender g.here)
            (inl (voted_same sc t h p (makes [] reply) at.done refl v, keep sc t h p.to p (ends t p.to) g.turn (rw is refl) some))
        choose (inr row) = let at : AtSite sc t wants h p nothing = request_at sc t wants h p nothing g is row refl (omega arith) in
            site_three sc t wants h p nothing n at o refl (inl (voted_same sc t h p nothing at.done refl v, keep sc t h p.to p (ends t p.to) g.turn (rw is refl) some))
    by (inr over) = let at : AtSite sc t wants h p nothing = request_at sc t wants h p nothing g is
        (row_request_ended (place sc h p.to (input.Deliver p)) p.«from» t (wants p.to).inc (wants p.to).count (decided_place sc t h p over)) refl (omega arith) in
        site_three sc t wants h p nothing n at o refl (inr (committed_same sc t h p nothing at.done refl over))

-- what an undecided site makes of an attempt that is asked of it
record Prepared (sc : Scenario) (t : Txn) (wants : ℕ → Expected) (h : List Entry) (p : Packet) : Type 0 where
  made : Made
  outs : made.outs ≡ mail p.to (msg.Ack t 1 Commit) p.«from» ∷ []
  at : AtSite sc t wants h p made
  voted : Voted sc t (after sc h p.to p) p.to

prepared : (sc : Scenario) (t : Txn) (wants : ℕ → Expected) (h : List Entry) (p : Packet) → Given sc t h p → p.msg ≡ msg.Pre t 1 Commit → Voted sc t h p.to → Prepared sc t wants h p
prepared sc t wants h p g is v = choose (row_prepare (place sc h p.to (input.Deliver p)) p.«from» t v.0 (away_from sc t h p g) (at_place sc t h p None v.0 true v.1))
  where
    reply : List Packet
    reply = mail p.to (msg.Ack t 1 Commit) p.«from» ∷ []

    choose : (on_message (place sc h p.to (input.Deliver p)) p.«from» (msg.Pre t 1 Commit) nothing ≡ makes [] reply)
        ⊎ (on_message (place sc h p.to (input.Deliver p)) p.«from» (msg.Pre t 1 Commit) nothing ≡ makes (log.Attempt t 1 Commit ∷ []) reply) → Prepared sc t wants h p
    choose (inl row) = let at : AtSite sc t wants h p (makes [] reply) = prepare_at sc t wants h p (makes [] reply) g is row refl (ack_light t p.to p.«from») in record {
      made = makes [] reply;
      outs = refl;
      at = at;
      voted = voted_same sc t h p (makes [] reply) at.done refl v;
    }
    choose (inr row) = let at : AtSite sc t wants h p (makes (log.Attempt t 1 Commit ∷ []) reply) = prepare_at sc t wants h p (makes (log.Attempt t 1 Commit ∷ []) reply) g is row refl (ack_light t p.to p.«from») in record {
      made = makes (log.Attempt t 1 Commit ∷ []) reply;
      outs = refl;
      at = at;
      voted = (Some Commit, subst (λ l. Says t l None (Some Commit) true) (sym at.done.log) (says_tried t (log_of sc h p.to) 1 Commit None v.0 true v.1));
    }

pub prepare_two : (sc : Scenario) (t : Txn) (wants : ℕ → Expected) (h : List Entry) (p : Packet) (n : ℕ) → Given sc t h p → p.msg ≡ msg.Pre t 1 Commit →
    StageTwo sc t wants h n → Stage sc t wants (after sc h p.to p) (suc n)
prepare_two sc t wants h p n g is o =
    let made = prepared sc t wants h p g is (o.each p.to g.here).0 in
    let home : (p.«from» == t.site) ≡ true = eq-eqb p.«from» t.site g.sender in
    site_two sc t wants h p made.made n made.at o (ap (list_all (is_shaped t wants 2)) made.outs ∙ ack_shaped t wants 2 p.to p.«from» g.sender g.here refl)
    (made.voted, inr (inl (comes sc t h p.to (input.Deliver p) made.made.outs (acks t p.to) made.at.done.sends (λ q k. refl) (acks_of t p.to) (ap (list_any (acks t p.to)) made.outs ∙ rw (same_self t, self p.to, home) refl))))

pub prepare_three : (sc : Scenario) (t : Txn) (wants : ℕ → Expected) (h : List Entry) (p : Packet) (n : ℕ) → Given sc t h p → p.msg ≡ msg.Pre t 1 Commit →
    StageThree sc t wants h n → Stage sc t wants (after sc h p.to p) (suc n)
prepare_three sc t wants h p n g is o = by (o.each p.to g.here)
  where
    by : Third sc t h p.to → Stage sc t wants (after sc h p.to p) (suc n)
    by (inl (v, some)) =
        let made = prepared sc t wants h p g is v in
        site_three sc t wants h p made.made n made.at o (ap (list_all (is_shaped t wants 3)) made.outs ∙ ack_shaped t wants 3 p.to p.«from» g.sender g.here refl)
        (inl (made.voted, keep sc t h p.to p (ends t p.to) g.turn (rw is refl) some))
    by (inr over) = let at : AtSite sc t wants h p nothing = prepare_at sc t wants h p nothing g is (row_prepare_ended (place sc h p.to (input.Deliver p)) p.«from» t (decided_place sc t h p over)) refl (omega arith) in
        site_three sc t wants h p nothing n at o refl (inr (committed_same sc t h p nothing at.done refl over))

pub end_three : (sc : Scenario) (t : Txn) (wants : ℕ → Expected) (h : List Entry) (p : Packet) (n : ℕ) → Given sc t h p → p.msg ≡ msg.Decide t Commit →
    StageThree sc t wants h n → Stage sc t wants (after sc h p.to p) (suc n)
end_three sc t wants h p n g is o = by (o.each p.to g.here)
  where
    by : Third sc t h p.to → Stage sc t wants (after sc h p.to p) (suc n)
    by (inl (v, some)) =
        let was : Made = and_decide (place sc h p.to (input.Deliver p)) t Commit nothing in
        let d : Decides t Commit was = decides (place sc h p.to (input.Deliver p)) t Commit in
        let light : total (weight_of t) was.outs ≡ 0 = ap (total (weight_of t)) d.outs in
        let at : AtSite sc t wants h p was = end_at sc t wants h p was g is (row_end (place sc h p.to (input.Deliver p)) p.«from» t v.0 (at_place sc t h p None v.0 true v.1)) d.own (omega (arith, light)) in
        site_three sc t wants h p was n at o (ap (list_all (is_shaped t wants 3)) d.outs)
        (inr (ap (decision t) (logged sc t h p was at.done (log.Decision t Commit ∷ []) d.records) ∙ decided_on t (log_of sc h p.to) Commit))
    by (inr over) = let at : AtSite sc t wants h p nothing = end_at sc t wants h p nothing g is (row_end_ended (place sc h p.to (input.Deliver p)) p.«from» t (decided_place sc t h p over)) refl (omega arith) in
        site_three sc t wants h p nothing n at o refl (inr (committed_same sc t h p nothing at.done refl over))
