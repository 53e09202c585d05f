-- Each read of a committed transaction that was told is the one of the replay.
use Rattle.std.proofs.Common.{◌≡◌, ◌⊎◌, inl, inr, ◌==◌, ◌++◌, ◌∷◌, ℕ, suc, ◌≤◌, true, false, List, Some, take, drop, refl, sym, subst, ap, ◌∙◌, eq-eqb, arith, Contains}
use Rattle.std.specs.List.{flat_map}
use Rattle.std.proofs.lemmas.Bool.{true≢false}
use Rattle.e3_types.specs.declared.entries.Told.TheVariants as told
use Rattle.e3_types.specs.declared.messages.Message.TheVariants as msg
use Rattle.e3_types.specs.declared.messages.Packet.{Packet}
use Rattle.e3_types.specs.declared.records.Record.{Record}
use Rattle.e3_types.specs.declared.records.Record.TheVariants as log
use Rattle.e3_types.specs.declared.scenarios.Scenario.{Scenario}
use Rattle.e3_types.specs.declared.transactions.Answer.{Answer}
use Rattle.e3_types.specs.declared.transactions.Dir.TheVariants.{Abort, Commit}
use Rattle.e3_types.specs.declared.transactions.Key.{Key}
use Rattle.e3_types.specs.declared.transactions.NumOp.{NumOp}
use Rattle.e3_types.specs.declared.transactions.Op.TheVariants.{Read}
use Rattle.e3_types.specs.declared.transactions.Txn.{Txn}
use Rattle.e3_types.specs.Same.{same_txn}
use Rattle.e3_types.specs.Sets.{has_site}
use Rattle.e3_world.specs.Operations.{nth_op}
use Rattle.e3_laws.proofs.serial.Lists.Entries.{In}
use Rattle.e3_laws.proofs.serial.Lists.Members.{filter_in}
use Rattle.e3_laws.proofs.serial.Step.Steadying.{some_inj, any_in}
use Rattle.e3_laws.proofs.serial.Site.Holding.{in_flat_from}
use Rattle.e3_laws.proofs.serial.Lists.Members.{in_split}
use Rattle.e3_world.specs.Moves.{Move, moves_at, log_by, Placed, all_records}
use Rattle.e3_world.specs.Sound.{sends, tells, IsSound}
use Rattle.e3_laws.proofs.agreement.Refinement.Following.{in_from_contains}
use Rattle.e3_laws.proofs.serial.Lists.Placing.{at_split, logged_all}
use Rattle.e3_world.specs.Safe.{AllVoted}
use Rattle.e3_laws.proofs.serial.Told.Stories.{Answered, BySent, ByTold, Values, VoteOf, OwnVote, AskedVote, Heard_of, Request, Story}
use Rattle.e3_world.specs.Serial.{issued_by}
use Rattle.e3_laws.proofs.serial.Told.Whole.{iss_of, sent_at, Stands, all_stand}
use Rattle.e3_laws.proofs.serial.Lists.Entries.{At as AtPlace}
use Rattle.e3_laws.proofs.serial.Lists.Facts.{at_contains, contains_at, has_in_sites, is_in as in_from_is, in_is}
use Rattle.e3_laws.proofs.serial.Lists.Placing.{at_logged}
use Rattle.e3_laws.proofs.serial.Lists.Members.{in_at}
use Rattle.e3_laws.specs.serial.Ordered.{VotesReplay, TablesReplay}
use Rattle.e3_world.specs.Serial.{is_commit, is_committed, found_by, IsSerial}
use Rattle.e3_laws.proofs.agreement.Refinement.Voting.{contains_from_in}
use Rattle.e3_laws.proofs.steps.Tests.{same_is}
use Rattle.e3_laws.proofs.agreement.Refinement.Agreeing.{put}

-- the record of a commit
commit_is : (t : Txn) (p : Placed) → is_commit t p.entered ≡ true → p ≡ put p.site (log.Decision t Commit)
commit_is t p h = by p.entered refl h
  where
    by : (r : Record) → p.entered ≡ r → is_commit t p.entered ≡ true → p ≡ put p.site (log.Decision t Commit)
    by (log.Decision u Commit) e x =
        let same : same_txn t u ≡ true = subst (λ r. is_commit t r ≡ true) e x in
        let d : p.entered ≡ log.Decision t Commit = e ∙ ap (λ z. log.Decision z Commit) (sym (same_is t u same)) in
        λ i. record { site = p.site; entered = d i }
    by (log.Decision u Abort) e x = absurd (let n : false ≡ true = subst (λ r. is_commit t r ≡ true) e x in true≢false (sym n))
    by (log.Birth f n w rows) e x = absurd (let n : false ≡ true = subst (λ r. is_commit t r ≡ true) e x in true≢false (sym n))
    by (log.Inc n) e x = absurd (let n : false ≡ true = subst (λ r. is_commit t r ≡ true) e x in true≢false (sym n))
    by (log.Vote u ops) e x = absurd (let n : false ≡ true = subst (λ r. is_commit t r ≡ true) e x in true≢false (sym n))
    by (log.Join u n) e x = absurd (let m : false ≡ true = subst (λ r. is_commit t r ≡ true) e x in true≢false (sym m))
    by (log.Attempt u n d) e x = absurd (let m : false ≡ true = subst (λ r. is_commit t r ≡ true) e x in true≢false (sym m))

module _ (sc : Scenario) (trail : List Move) (sound : IsSound sc trail) (voted : AllVoted trail) (replays : VotesReplay sc trail) where
  stand : Stands sc trail
  stand = all_stand sc trail sound

  -- every site of a committed transaction has its vote
  site_vote : (t : Txn) (u : ℕ) → is_committed t (all_records trail) ≡ true → has_site t.sites u ≡ true → (ops : List NumOp) × (before after : List Record) × (log_by (moves_at u trail) ≡ before ++ log.Vote t ops ∷ after)
  site_vote t u sure member =
      let p = any_in (λ p. is_commit t p.entered) (all_records trail) sure in
      let i = in_at (all_records trail) p.0 p.1 in
      let at : AtPlace (all_records trail) i.0 (put p.0.site (log.Decision t Commit)) = subst (λ z. AtPlace (all_records trail) i.0 z) (commit_is t p.0 p.2) i.1 in
      let m = in_at t.sites u (has_in_sites t.sites u member) in
      let v = voted p.0.site t (take i.0 (all_records trail)) (drop (suc i.0) (all_records trail)) (at_split (all_records trail) i.0 (put p.0.site (log.Decision t Commit)) at) u (at_contains t.sites m.0 u m.1) in
      let q = contains_at (take i.0 (all_records trail)) (put u (log.Vote t v.0)) v.1 in
      let w = Rattle.e3_laws.proofs.serial.Lists.Members.at_take i.0 (all_records trail) q.0 (put u (log.Vote t v.0)) q.1 in
      let l : In (log.Vote t v.0) (log_by (moves_at u trail)) = subst (λ l. In (log.Vote t v.0) l) (sym (logged_all u trail)) (at_logged (all_records trail) q.0 u (log.Vote t v.0) w.0) in
      let z = in_split (log_by (moves_at u trail)) (log.Vote t v.0) l in
      (v.0, z.0, z.1, z.2)

  -- what a vote found, by what its site answered
  by_values : (t : Txn) (n : ℕ) (v : Answer) (key : Key) (inc : ℕ) (before after : List Record) (ops : List NumOp) → log_by (moves_at key.site trail) ≡ before ++ log.Vote t ops ∷ after →
      is_committed t (all_records trail) ≡ true → nth_op n (iss_of trail t) ≡ Some (Read key) → Values (iss_of trail) key.site (moves_at key.site trail) before t ops inc →
      Answered (iss_of trail) key.site (moves_at key.site trail) t n inc v → v ≡ found_by sc (all_records trail) t n key
  by_values t n v key inc before after ops e sure nth values ans =
      let r = values n v ans in
      let op : r.0 ≡ Read key = some_inj r.0 (Read key) (sym r.1 ∙ nth) in
      let one : NumOp = record { n = n; op = Read key } in
      let had : NumOp = record { n = n; op = r.0 } in
      let o : In one ops = subst (λ (z : NumOp). In z ops) (same_ops had one refl op) r.2 in
      r.3 key op ∙ replays key.site before after t ops n key e sure (contains_from_in ops one (in_is one ops o))
    where
      same_ops : (x y : NumOp) → x.n ≡ y.n → x.op ≡ y.op → x ≡ y
      same_ops x y a b = λ i. record { n = a i; op = b i }

  pub reads : (m : Move) (t : Txn) (n : ℕ) (v : Answer) (key : Key) → Contains trail m → Contains (tells m) (told.Op t n v) → nth_op n (issued_by t (moves_at t.site trail)) ≡ Some (Read key) →
      is_committed t (all_records trail) ≡ true → v ≡ found_by sc (all_records trail) t n key
  reads m t n v key has tells_it nth sure = by (votes.votes vote.1 vote.2 t vote.0 vote.3)
    where
      m_in : In m trail
      m_in = in_from_is m trail (in_from_contains trail m has)

      told_at : In (told.Op t n v) (flat_map tells (moves_at m.site trail))
      told_at = in_flat_from tells (moves_at m.site trail) m (told.Op t n v) (filter_in (λ x. x.site == m.site) trail m m_in (eq-eqb m.site m.site refl))
          (in_from_is (told.Op t n v) (tells m) (in_from_contains (tells m) (told.Op t n v) tells_it))

      own : t.site ≡ m.site
      own = ((stand.stories m.site).tolds t n v told_at).0

      told_home' : In (told.Op t n v) (flat_map tells (moves_at t.site trail))
      told_home' = subst (λ s. In (told.Op t n v) (flat_map tells (moves_at s trail))) (sym own) told_at

      member : has_site t.sites key.site ≡ true
      member = (stand.stories t.site).member t n (Read key) refl nth

      vote : (ops : List NumOp) × (before after : List Record) × (log_by (moves_at key.site trail) ≡ before ++ log.Vote t ops ∷ after)
      vote = site_vote t key.site sure member

      votes : Story (flat_map sends trail) (iss_of trail) key.site (moves_at key.site trail)
      votes = stand.stories key.site

      asked : (p : Packet) (inc count : ℕ) → In p (flat_map sends trail) → p.msg ≡ msg.VoteReq t inc count → p.to ≡ key.site →
          (count ≡ 0) ⊎ Values (iss_of trail) key.site (moves_at key.site trail) vote.1 t vote.0 inc → v ≡ found_by sc (all_records trail) t n key
      asked p inc count h says to values = answer values
        where
          at : (s : ℕ) × In p (flat_map sends (moves_at s trail))
          at = sent_at trail p h

          request : Request (flat_map sends trail) (iss_of trail) at.0 (moves_at at.0 trail) p t inc count
          request = (stand.stories at.0).asks p t inc count at.1 says

          heard : Heard_of (flat_map sends trail) p.to t n inc v × (1 ≤ count)
          heard = request.heard n v (Read key) (subst (λ s. In (told.Op t n v) (flat_map tells (moves_at s trail))) request.own told_home') nth (sym to)

          answer : (count ≡ 0) ⊎ Values (iss_of trail) key.site (moves_at key.site trail) vote.1 t vote.0 inc → v ≡ found_by sc (all_records trail) t n key
          answer (inl none) = absurd (let some = heard.1 in omega (arith, none, some))
          answer (inr values) =
              let s = sent_at trail heard.0.packet heard.0.sent_in in
              let here : s.0 ≡ key.site = sym ((stand.stories s.0).source heard.0.packet s.1) ∙ heard.0.source ∙ to in
              by_values t n v key inc vote.1 vote.2 vote.0 vote.3 sure nth values
              (BySent heard.0.packet (subst (λ x. In heard.0.packet (flat_map sends (moves_at x trail))) here s.1) heard.0.says)

      by : VoteOf (flat_map sends trail) (iss_of trail) key.site (moves_at key.site trail) vote.1 t vote.0 → v ≡ found_by sc (all_records trail) t n key
      by (OwnVote here values) = by_values t n v key t.inc vote.1 vote.2 vote.0 vote.3 sure nth values
          (ByTold (subst (λ s. In (told.Op t n v) (flat_map tells (moves_at s trail))) (sym here) told_home') refl (Read key) nth refl)
      by (AskedVote p inc count h says to other values) = asked p inc count h says to values

-- one order, from a sound trail whose logs are ordered
pub one_order : (sc : Scenario) (trail : List Move) → IsSound sc trail → AllVoted trail → TablesReplay sc trail → VotesReplay sc trail → IsSerial sc trail
one_order sc trail sound voted tables votes = record {
  tables = tables;
  reads = λ m t n answer key has tells_it nth sure. reads sc trail sound voted votes m t n answer key has tells_it nth sure;
}
