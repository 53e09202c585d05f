-- What a life answered and voted, with one more step, over what the site said before it.
use Rattle.std.proofs.Common.{◌≡◌, ◌⊎◌, inl, inr, ◌==◌, ◌&&◌, ◌||◌, ◌++◌, ◌∷◌, [], ℕ, Bool, true, false, not, List, Some, None, length, map, refl, sym, subst, ap, ◌∙◌, append-nil, eqb-true, arith}
use Rattle.std.specs.List.{list_any}
use Rattle.std.proofs.lemmas.Bool.{and_parts, and_from, or_cases, true≢false, cases_lt}
use Rattle.e3_types.specs.declared.entries.Input.TheVariants as input
use Rattle.e3_types.specs.declared.messages.Message.TheVariants as msg
use Rattle.e3_types.specs.declared.messages.Packet.{Packet}
use Rattle.e3_types.specs.declared.records.Record.{Record}
use Rattle.e3_types.specs.declared.records.Record.TheVariants as log
use Rattle.e3_types.specs.declared.transactions.Answer.{Answer}
use Rattle.e3_types.specs.declared.transactions.NumOp.{NumOp}
use Rattle.e3_types.specs.declared.transactions.Op.{Op}
use Rattle.e3_types.specs.declared.transactions.State.TheVariants.{Q}
use Rattle.e3_types.specs.declared.transactions.Txn.{Txn}
use Rattle.e3_types.specs.Same.{same_txn, same_state}
use Rattle.e3_laws.proofs.agreement.Refinement.Lists.{same_from}
use Rattle.e3_world.specs.declared.lives.Asked.{Asked}
use Rattle.e3_world.specs.declared.lives.At.{At}
use Rattle.e3_world.specs.declared.lives.Life.{Life}
use Rattle.e3_world.specs.declared.lives.Made.{Made}
use Rattle.e3_world.specs.declared.lives.Moment.{Moment}
use Rattle.e3_world.specs.declared.lives.Performed.{Performed}
use Rattle.e3_world.specs.Logs.{has_voted, state_of, is_undecided}
use Rattle.e3_world.specs.Making.{nothing, log_now, steps_now}
use Rattle.e3_world.specs.Operations.{issued, nth_op, taken_up, same_asked, is_fresh, arrivals, is_answered, done, waiting, op_told}
use Rattle.e3_world.specs.Sound.{Fits, FitsPacket}
use Rattle.e3_world.specs.Steps.{step_at}
use Rattle.e3_laws.proofs.serial.Step.Rules.{Commits, IsAsked, Hearing, Shaped}
use Rattle.e3_laws.proofs.serial.Lists.Entries.{In}
use Rattle.e3_laws.proofs.serial.Lists.Members.{in_append, in_back, filter_in}
use Rattle.e3_laws.proofs.serial.Step.Walk.{allowed_parts}
use Rattle.e3_laws.proofs.serial.Step.Shapes.{FromAway, step_shape}
use Rattle.e3_laws.proofs.serial.Step.Arrivals.{arrivals_push, answered_first, answered_more, op_told_answered, of_txn}
use Rattle.e3_laws.proofs.serial.Step.Steadying.{arrived_in, in_any, performs, last_told, others_lack}
use Rattle.e3_laws.proofs.serial.Step.Answering.{Cause, Heard, Locked, Repeated, Granted}
use Rattle.e3_laws.proofs.serial.Step.Stepping.{moment, so_far, shaped_calm, waits_parts, granted_waits, granted_arrived, sent_records}
use Rattle.e3_laws.proofs.serial.Lists.Facts.{vote_has}
use Rattle.e3_laws.proofs.serial.Step.Knowing.{lock_arrives}
use Rattle.e3_laws.proofs.serial.Site.Recording.{ops_done, VoteMade, rule_made, shaped_records}
use Rattle.e3_laws.proofs.serial.Lists.Members.{in_split}
use Rattle.e3_laws.specs.serial.Ordered.{seen_by}
use Rattle.e3_laws.proofs.serial.Site.Voting.{idle_unvoted, listed}
use Rattle.e3_laws.proofs.serial.Site.Keeping.{Keeps, next, append_split}
use Rattle.e3_world.specs.Moves.{Move}
use Rattle.e3_laws.proofs.serial.Told.Telling.{right_seen, VotersAnswered}
use Rattle.e3_laws.proofs.serial.Told.Stories.{First, first_more, Answered, Values, VoteOf, OwnVote, AskedVote}
use Rattle.e3_laws.proofs.serial.Lists.Facts.{has_vote_in}
use Rattle.e3_laws.proofs.steps.Adding.{idle_open}
use Rattle.e3_laws.proofs.agreement.Protocol.Ruled.{same_means}
use Rattle.e3_laws.proofs.steps.Operations.Issuing.{nth_low}

same_num : (x y : NumOp) → x.n ≡ y.n → x.op ≡ y.op → x ≡ y
same_num x y a b = λ i. record { n = a i; op = b i }

-- what a life has of the answers that the site gave, and why its votes stand
pub record Running (sent : List Packet) (iss : Txn → List Op) (site : ℕ) (mine : List Move) (life : Life) : Type 0 where
  pub first : (t : Txn) (n inc : ℕ) (v : Answer) → Answered iss site mine t n inc v → inc ≡ life.inc → (op : Op) × (nth_op n (iss t) ≡ Some op) × First site life.steps t n op v
  pub voters : VotersAnswered site life.log life.steps
  pub votes : (before after : List Record) (t : Txn) (ops : List NumOp) → life.log ≡ before ++ log.Vote t ops ∷ after → VoteOf sent iss site mine before t ops

-- a step that takes no operation takes up none
none_taken : (site : ℕ) (steps : List Moment) (m : Moment) (t : Txn) → m.input ≡ input.Commit t → taken_up site steps m ≡ None
none_taken site steps m t e = rw e refl

none_asked : (site : ℕ) (steps : List Moment) (m : Moment) (p : Packet) (t : Txn) (inc count : ℕ) → m.input ≡ input.Deliver p → p.msg ≡ msg.VoteReq t inc count → taken_up site steps m ≡ None
none_asked site steps m p t inc count e says = rw (e, says) refl

module _ (weights : List ℕ) (a : At) (k : Keeps a.site a.life) (fits : Fits weights a.site a.life a.input) (away : FromAway a.site a.input) (voters : VotersAnswered a.site a.life.log a.life.steps) where
  old_or_fresh : (q : Asked) → In q (arrivals a.site (a.life.steps ++ moment a ∷ [])) → In q (arrivals a.site a.life.steps)
      ⊎ ((taken_up a.site a.life.steps (moment a) ≡ Some q) × (is_fresh (arrivals a.site a.life.steps) (moment a) q ≡ true))
  old_or_fresh q h = elim (arrived_in (arrivals a.site a.life.steps) (moment a) (taken_up a.site a.life.steps (moment a)) q (subst (λ l. In q l) (arrivals_push a.site a.life.steps (moment a)) h)) [
    | inl old ↦ inl old
    | inr new ↦ inr (new.0, new.1)
  ]

  fresh_idle : (q : Asked) → is_fresh (arrivals a.site a.life.steps) (moment a) q ≡ true → state_of q.txn a.life.log ≡ Q
  fresh_idle q f = same_means (state_of q.txn a.life.log) Q (and_parts (same_state (state_of q.txn a.life.log) Q) (not (list_any (same_asked q) (arrivals a.site a.life.steps))) f).0

  -- behind a vote that this step makes
  made_answered : (t : Txn) (ops : List NumOp) (before : List Record) → VoteMade a before t ops → (q : Asked) → In q (arrivals a.site (a.life.steps ++ moment a ∷ [])) → q.txn ≡ t → is_answered a.life.steps q ≡ true
  made_answered t ops before v q h same = by v.cause
    where
      member : taken_up a.site a.life.steps (moment a) ≡ None → In q (arrivals a.site a.life.steps)
      member none = elim (old_or_fresh q h) [ inl old ↦ old | inr new ↦ absurd (let both : None ≡ Some q = sym none ∙ new.0 in cc) ]

      told_all : Commits a t → In q (arrivals a.site a.life.steps) → is_answered a.life.steps q ≡ true
      told_all c old =
          let f : Fits weights a.site a.life (input.Commit t) = subst (λ i. Fits weights a.site a.life i) c.takes fits in
          let nth : nth_op q.n (issued t a.life.steps) ≡ Some q.op = subst (λ u. nth_op q.n (issued u a.life.steps) ≡ Some q.op) same (k.steady.nth q old (ap (λ (u : Txn). u.site) same ∙ f.1)) in
          let low = (k.steady.here q old).1 in
          let high = nth_low q.n (issued t a.life.steps) q.op nth in
          op_told_answered q a.life.steps (subst (λ u. op_told u q.n a.life.steps ≡ true) (sym same) (elim (cases_lt q.n (length (issued t a.life.steps))) [
            | inl less ↦ k.steady.told t q.n low less
            | inr most ↦ last_told a t c.allowed q.n low (omega (arith, high, most))
          ]))

      none_waits : IsAsked a t → In q (arrivals a.site a.life.steps) → is_answered a.life.steps q ≡ true
      none_waits c old = by' (is_answered a.life.steps q) refl
        where
          rule : list_any (λ x. same_txn t x.txn) (waiting a.site (log_now a nothing) a.life.steps) ≡ false
          rule = turned (list_any (λ x. same_txn t x.txn) (waiting a.site (log_now a nothing) a.life.steps)) (and_parts (c.count == length (done a.site t a.life.steps) && (c.count == 0 || c.inc == a.life.inc)) _ c.rule).1
            where
              turned : (b : Bool) → not b ≡ true → b ≡ false
              turned true e = absurd (true≢false (sym e))
              turned false e = refl

          by' : (b : Bool) → is_answered a.life.steps q ≡ b → is_answered a.life.steps q ≡ true
          by' true is = is
          by' false is = absurd (true≢false (sym (in_any (λ x. same_txn t x.txn) (waiting a.site (log_now a nothing) a.life.steps) q
              (filter_in (λ x. is_undecided x.txn (log_now a nothing) && not (is_answered a.life.steps x)) (arrivals a.site a.life.steps) q old
              (and_from (is_undecided q.txn (log_now a nothing)) (not (is_answered a.life.steps q))
              (subst (λ u. is_undecided u (log_now a nothing) ≡ true) (sym same) (idle_open t (log_now a nothing) v.idle)) (ap not is)))
              (same_from t q.txn (sym same))) ∙ rule))

      by : Commits a t ⊎ IsAsked a t → is_answered a.life.steps q ≡ true
      by (inl c) = told_all c (member (none_taken a.site a.life.steps (moment a) t c.takes))
      by (inr c) = none_waits c (member (none_asked a.site a.life.steps (moment a) c.packet t c.inc c.count c.takes c.says))

  -- whatever of a transaction that voted is among the arrivals was answered before the step
  pub voted_before : (s : Shaped a (step_at a)) → (t : Txn) → has_voted t (a.life.log ++ (step_at a).records) ≡ true → (q : Asked) → In q (arrivals a.site (a.life.steps ++ moment a ∷ [])) → q.txn ≡ t → is_answered a.life.steps q ≡ true
  voted_before s t voted q h same = by (has_vote_in t (a.life.log ++ (step_at a).records) voted)
    where
      old_vote : (ops : List NumOp) → In (log.Vote t ops) a.life.log → is_answered a.life.steps q ≡ true
      old_vote ops m = elim (old_or_fresh q h) [
        | inl old ↦ voters t (vote_has t ops a.life.log m) q old same
        | inr new ↦ absurd (true≢false (sym (vote_has t ops a.life.log m) ∙ idle_unvoted t a.life.log (subst (λ u. state_of u a.life.log ≡ Q) same (fresh_idle q new.1))))
      ]

      new_vote : (ops : List NumOp) → In (log.Vote t ops) (step_at a).records → is_answered a.life.steps q ≡ true
      new_vote ops m =
          let r = in_split s.rule.records (log.Vote t ops) (subst (λ l. In (log.Vote t ops) l) (shaped_records a (step_at a) s) m) in
          made_answered t ops r.0 (rule_made a s.rule s.ruled r.0 r.1 (log.Vote t ops) r.2) q h same

      by : (ops : List NumOp) × In (log.Vote t ops) (a.life.log ++ (step_at a).records) → is_answered a.life.steps q ≡ true
      by x = elim (in_append a.life.log (step_at a).records (log.Vote t x.0) x.1) [ inl old ↦ old_vote x.0 old | inr new ↦ new_vote x.0 new ]

  pub voters_push : VotersAnswered a.site (a.life.log ++ (step_at a).records) (a.life.steps ++ moment a ∷ [])
  voters_push t voted q h same = elim (step_shape a away) [
    | inl r ↦ (elim (old_or_fresh q h) [
      | inl old ↦ answered_more a.life.steps (moment a) q (voters t (ap (has_voted t) (sym (append-nil a.life.log) ∙ ap (λ l. a.life.log ++ l) (sym r.records)) ∙ voted) q old same)
      | inr new ↦ absurd (true≢false (sym voted ∙ ap (has_voted t) (ap (λ l. a.life.log ++ l) r.records ∙ append-nil a.life.log)
          ∙ idle_unvoted t a.life.log (subst (λ u. state_of u a.life.log ≡ Q) same (fresh_idle q new.1))))
    ])
    | inr s ↦ answered_more a.life.steps (moment a) q (voted_before s t voted q h same)
  ]

  -- nothing of a transaction that voted is answered in the step
  pub no_new : (s : Shaped a (step_at a)) → (t : Txn) (n : ℕ) (v : Answer) → has_voted t (a.life.log ++ (step_at a).records) ≡ true → Cause a s.rule t n v → Hearing a t n v
  no_new s t n v voted (Heard x e) = x
  no_new s t n v voted (Locked op l x e) = absurd (let h = lock_arrives a t n op (shaped_calm a (step_at a) s) l in
      let y = voted_before s t voted (record { txn = t; n = n; op = op }) h refl in
      let f = answered_first a.life.steps (record { txn = t; n = n; op = op }) y in
      let both : [] ≡ f.0 ∷ f.1 = sym l.unanswered ∙ f.2 in cc)
  no_new s t n v voted (Repeated x e) = absurd (
      let none : (step_at a).records ≡ [] = shaped_records a (step_at a) s ∙ ap (λ (z : Made). z.records) e ∙ sent_records a t.site (msg.Done t n a.life.inc v) nothing in
      true≢false (sym voted ∙ ap (λ l. has_voted t (a.life.log ++ l)) none ∙ idle_unvoted t (log_now a nothing) x.idle))
  no_new s t n v voted (Granted g before after split same num x some ruled) = absurd (
      let m = subst (λ l. In g l) (sym split) (in_back before (g ∷ after) g (inl refl)) in
      let y = voted_before s t voted g (granted_arrived weights a k.steady fits away s g m) same in
      let w = waits_parts a.site (log_now a s.rule) (steps_now a s.rule) g (granted_waits a s.rule g m) in
      true≢false (sym (answered_more a.life.steps (so_far a s.rule) g y) ∙ w.2))

-- a life with one more step, over the same moves
module _ (weights : List ℕ) (a : At) (k : Keeps a.site a.life) (fits : Fits weights a.site a.life a.input) (away : FromAway a.site a.input)
    (sent : List Packet) (iss : Txn → List Op) (mine : List Move) (r : Running sent iss a.site mine a.life)
    (was_sent : (p : Packet) → a.input ≡ input.Deliver p → In p sent)
    (home : (p : Packet) (t : Txn) (inc count : ℕ) → In p sent → p.msg ≡ msg.VoteReq t inc count → p.«from» ≡ t.site) where
  -- what was answered under this incarnation is in the vote
  values : (before : List Record) (t : Txn) (ops : List NumOp) → VoteMade a before t ops → (inc : ℕ) → inc ≡ a.life.inc → Values iss a.site mine (a.life.log ++ before) t ops inc
  values before t ops v inc now n x ans =
      let f = r.first t n inc x ans now in
      let q = f.2 in
      let idle : state_of t a.life.log ≡ Q = ap (state_of t) (sym (append-nil a.life.log)) ∙ v.idle in
      let p = performs a.life.steps (of_txn t (arrivals a.site a.life.steps)) q.asked q.first q.more
      (filter_in (λ z. same_txn t z.txn) (arrivals a.site a.life.steps) q.asked q.asked_in (same_from t q.asked.txn (sym q.txn))) q.answers_are in
      let one : NumOp = record { n = n; op = f.0 } in
      let had : NumOp = record { n = q.asked.n; op = q.asked.op } in
      let o : In one ops = subst (λ l. In one l) (sym v.ops_are)
      (subst (λ (z : NumOp). In z (ops_done a t)) (same_num had one q.n_is q.op_is) (in_listed (done a.site t a.life.steps) (record { n = q.asked.n; op = q.asked.op; answer = q.first }) p)) in (
        f.0,
        f.1,
        o,
        (λ key e.
            q.value key e
            ∙ right_seen a.site a.life k t (idle_open t a.life.log idle) q.asked q.asked_in q.txn q.first q.more q.answers_are key (q.op_is ∙ e)
            ∙ ap (λ z. seen_by a.life.log (listed (done a.site t a.life.steps)) z key) q.n_is
            ∙ (λ i. seen_by (sym (ap (λ l. a.life.log ++ l) v.first ∙ append-nil a.life.log) i) (sym v.ops_are i) n key)),
      )
    where
      in_listed : (ps : List Performed) (p : Performed) → In p ps → In {A = NumOp} (record { n = p.n; op = p.op }) (map (λ p. record { n = p.n; op = p.op }) ps)
      in_listed [] p h = absurd h
      in_listed (z ∷ ps) p (inl e) = inl (ap (λ (w : Performed). record { n = w.n; op = w.op }) e)
      in_listed (z ∷ ps) p (inr m) = inr (in_listed ps p m)

  vote_of : (before : List Record) (t : Txn) (ops : List NumOp) → VoteMade a before t ops → VoteOf sent iss a.site mine (a.life.log ++ before) t ops
  vote_of before t ops v = by v.cause
    where
      asked : IsAsked a t → VoteOf sent iss a.site mine (a.life.log ++ before) t ops
      asked c =
          let f : FitsPacket weights a.site a.life c.packet = subst (λ i. Fits weights a.site a.life i) c.takes fits in
          let h = was_sent c.packet c.takes in
          AskedVote c.packet c.inc c.count h c.says f.to
          (λ own. others_lack a.site c.packet.«from» (Rattle.e3_world.specs.Sound.txn_in c.packet.msg).sites f.sender (home c.packet t c.inc c.count h c.says ∙ sym own))
          (elim (or_cases (c.count == 0) (c.inc == a.life.inc) (and_parts (c.count == length (done a.site t a.life.steps)) (c.count == 0 || c.inc == a.life.inc)
          (and_parts (c.count == length (done a.site t a.life.steps) && (c.count == 0 || c.inc == a.life.inc)) _ c.rule).0).1) [
            | inl none ↦ inl (eqb-true c.count 0 none)
            | inr now ↦ inr (values before t ops v c.inc (eqb-true c.inc a.life.inc now))
          ])

      by : Commits a t ⊎ IsAsked a t → VoteOf sent iss a.site mine (a.life.log ++ before) t ops
      by (inl c) =
          let f : Fits weights a.site a.life (input.Commit t) = subst (λ i. Fits weights a.site a.life i) c.takes fits in
          OwnVote (sym f.1) (values before t ops v t.inc (eqb-true t.inc a.life.inc (allowed_parts a t c.allowed).0))
      by (inr c) = asked c

  pub run_push : Running sent iss a.site mine (next a)
  run_push = record {
    first = λ t n inc v ans now. (let f = r.first t n inc v ans now in (f.0, f.1, first_more a.site a.life.steps (moment a) t n f.0 v f.2));
    voters = voters_push weights a k fits away r.voters;
    votes = λ before after t ops e. votes before after t ops (append_split a.life.log (step_at a).records before (log.Vote t ops) after e);
  }
    where
      votes : (before after : List Record) (t : Txn) (ops : List NumOp) → ((rest : List Record) × (a.life.log ≡ before ++ log.Vote t ops ∷ rest)) ⊎ ((front : List Record) × (before ≡ a.life.log ++ front) × ((step_at a).records ≡ front ++ log.Vote t ops ∷ after)) →
          VoteOf sent iss a.site mine before t ops
      votes before after t ops (inl old) = r.votes before old.0 t ops old.1
      votes before after t ops (inr x) = elim (step_shape a away) [
        | inl refused ↦ absurd (none x.0 (sym refused.records ∙ x.2))
        | inr s ↦ subst (λ l. VoteOf sent iss a.site mine l t ops) (sym x.1)
            (vote_of x.0 t ops (rule_made a s.rule s.ruled x.0 after (log.Vote t ops) (sym (shaped_records a (step_at a) s) ∙ x.2)))
      ]
        where
          none : (l : List Record) → [] ≡ l ++ log.Vote t ops ∷ after → ⊥
          none [] e = cc
          none (z ∷ l) e = cc
