-- The whole story of a site with one more step.
use Rattle.std.proofs.Common.{◌≡◌, ◌⊎◌, inl, inr, ◌==◌, ◌&&◌, ◌||◌, ◌++◌, ◌∷◌, [], ℕ, suc, ◌≤◌, Bool, true, false, List, Some, length, map, refl, sym, subst, ap, ◌∙◌, append-nil, eqb-true, eq-eqb, arith}
use Rattle.std.specs.List.{list_any, flat_map}
use Rattle.std.proofs.lemmas.Bool.{and_parts, and_from, or_left, or_right, or_cases, true≢false, false_from_ne_true, cases_lt}
use Rattle.std.proofs.lemmas.Grind.{flat_map-append}
use Rattle.std.proofs.lemmas.List.Folds.{list_any-append}
use Rattle.e3_types.specs.declared.entries.Input.{Input}
use Rattle.e3_types.specs.declared.entries.Input.TheVariants as input
use Rattle.e3_types.specs.declared.entries.Told.{Told}
use Rattle.e3_types.specs.declared.entries.Told.TheVariants as told
use Rattle.e3_types.specs.declared.messages.Message.{Message}
use Rattle.e3_types.specs.declared.messages.Message.TheVariants as msg
use Rattle.e3_types.specs.declared.messages.Packet.{Packet}
use Rattle.e3_types.specs.declared.records.Record.{Record}
use Rattle.e3_types.specs.declared.records.Record.TheVariants as log
use Rattle.e3_types.specs.declared.transactions.Answer.{Answer}
use Rattle.e3_types.specs.declared.transactions.NumOp.{NumOp}
use Rattle.e3_types.specs.declared.transactions.Op.{Op}
use Rattle.e3_types.specs.declared.transactions.State.TheVariants.{Q}
use Rattle.e3_types.specs.declared.transactions.Txn.{Txn}
use Rattle.e3_types.specs.Same.{same_txn}
use Rattle.e3_laws.proofs.agreement.Refinement.Lists.{same_from}
use Rattle.e3_world.specs.declared.lives.At.{At}
use Rattle.e3_world.specs.declared.lives.Expected.{Expected}
use Rattle.e3_world.specs.declared.lives.Life.{Life}
use Rattle.e3_world.specs.declared.lives.Moment.{Moment}
use Rattle.e3_world.specs.Logs.{has_voted, state_of, logged_inc, key_of}
use Rattle.e3_world.specs.Making.{nothing, log_now, steps_now}
use Rattle.e3_world.specs.Operations.{issued, issued_in, nth_op, arrivals, tells_op, op_told, expected, expected_by}
use Rattle.e3_world.specs.Sound.{Fits}
use Rattle.e3_world.specs.Steps.{step_at}
use Rattle.e3_laws.proofs.serial.Step.Rules.{Commits, Hearing}
use Rattle.e3_laws.proofs.serial.Lists.Entries.{In}
use Rattle.e3_laws.proofs.serial.Lists.Members.{in_append, in_back}
use Rattle.e3_laws.proofs.serial.Step.Walk.{allowed_parts}
use Rattle.e3_laws.proofs.serial.Step.Shapes.{FromAway}
use Rattle.e3_laws.proofs.serial.Step.Arrivals.{told_push}
use Rattle.e3_laws.proofs.serial.Step.Steadying.{some_inj, any_in, in_any, last_told, steady_push}
use Rattle.e3_laws.proofs.serial.Step.Answering.{told_cause}
use Rattle.e3_world.specs.Moves.{unnumbered}
use Rattle.e3_laws.proofs.serial.Step.Stepping.{moment, so_far, is_moment, shaped_calm, issued_calm}
use Rattle.e3_laws.proofs.serial.Lists.Facts.{vote_has}
use Rattle.e3_laws.proofs.serial.Lists.Members.{in_split}
use Rattle.e3_laws.proofs.serial.Site.Voting.{idle_unvoted}
use Rattle.e3_laws.proofs.serial.Site.Keeping.{Keeps, next}
use Rattle.e3_world.specs.Lives.{life_at}
use Rattle.e3_world.specs.Moves.{Move, recorded, log_by}
use Rattle.e3_world.specs.Sound.{sends, tells, has_risen}
use Rattle.e3_world.proofs.Pushes.{log_push, life_log_at}
use Rattle.e3_laws.proofs.serial.Site.Sites.{step_record}
use Rattle.e3_laws.proofs.serial.Told.Sending.{MessageIs, step_sent}
use Rattle.e3_laws.proofs.serial.Told.Telling.{VotersAnswered}
use Rattle.e3_laws.proofs.serial.Told.Stories.{Given, BySent, ByTold, Values, VoteOf, OwnVote, AskedVote, Heard_of, Request, Story, GoesOn, nth_on}
use Rattle.e3_laws.proofs.serial.Told.Running.{Running, no_new, run_push}
use Rattle.e3_laws.proofs.serial.Told.Rested.{story_running}
use Rattle.e3_laws.proofs.serial.Told.Helping.{unanswered_is, inc_same}
use Rattle.e3_laws.proofs.serial.Told.Stepped.{SentWell, unnumbered_in, now_issued, now', fresh_issue, issue_place, present, past', member', came', given_old, sent_gave, shaped_sent, shaped_told, dones_new, told_gave, heard_place, tolds_new}
use Rattle.e3_laws.proofs.steps.Lists.{fold_last}
use Rattle.e3_laws.proofs.steps.Tests.{same_is}
use Rattle.e3_laws.proofs.steps.Operations.Issuing.{issued_push}

-- the move of the step at a place
pub record IsNext (a : At) (mine : List Move) (m : Move) : Type 0 where
  pub life : life_at (mine ++ m ∷ []) ≡ next a
  pub sends_are : sends m ≡ map unnumbered (step_at a).outs
  pub tells_are : tells m ≡ (step_at a).told
  pub records_are : recorded m ≡ (step_at a).records
  pub risen : has_risen (mine ++ m ∷ []) ≡ true

-- what is expected of another site with one more step
expected_push : (own inc : ℕ) (t : Txn) (steps : List Moment) (m : Moment) (y : ℕ) → (own == y) ≡ false → expected own inc t (steps ++ m ∷ []) y ≡ expected_by t y (expected own inc t steps y) m
expected_push own inc t steps m y differ = rw differ (fold_last (expected_by t y) (record { inc = 0; count = 0 }) steps m)

-- a step that takes no answer of the site that it tells expects what it did
pub record Counts (t : Txn) (y : ℕ) (m : Moment) : Type 0 where
  pub packet : Packet
  pub takes : m.input ≡ input.Deliver packet
  pub source : packet.«from» ≡ y
  pub n : ℕ
  pub inc : ℕ
  pub answer : Answer
  pub says : packet.msg ≡ msg.Done t n inc answer
  pub tells : list_any (tells_op t n) m.told ≡ true

expected_cases : (t : Txn) (y : ℕ) (e : Expected) (m : Moment) → (expected_by t y e m ≡ e) ⊎ ((c : Counts t y m) × (expected_by t y e m ≡ record { inc = c.inc; count = suc e.count }))
expected_cases t y e m = by m.input refl
  where
    done : (p : Packet) (u : Txn) (n inc : ℕ) (v : Answer) → m.input ≡ input.Deliver p → (p.«from» == y) ≡ true → p.msg ≡ msg.Done u n inc v → (b : Bool) → (same_txn t u && list_any (tells_op t n) m.told) ≡ b →
        (expected_by t y e m ≡ e) ⊎ ((c : Counts t y m) × (expected_by t y e m ≡ record { inc = c.inc; count = suc e.count }))
    done p u n inc v takes source says true is =
        let q = and_parts (same_txn t u) (list_any (tells_op t n) m.told) is in
        inr (
          record { packet = p; takes = takes; source = eqb-true p.«from» y source; n = n; inc = inc; answer = v; says = says ∙ ap (λ z. msg.Done z n inc v) (sym (same_is t u q.0)); tells = q.1 },
          (rw (takes, source, says, is) refl),
        )
    done p u n inc v takes source says false is = inl (rw (takes, source, says, is) refl)

    said : (p : Packet) (x : Message) → m.input ≡ input.Deliver p → (p.«from» == y) ≡ true → p.msg ≡ x → (expected_by t y e m ≡ e) ⊎ ((c : Counts t y m) × (expected_by t y e m ≡ record { inc = c.inc; count = suc e.count }))
    said p (msg.Done u n inc v) takes source says = done p u n inc v takes source says (same_txn t u && list_any (tells_op t n) m.told) refl
    said p x takes source says = inl (rw (takes, source, says) refl)

    taken : (p : Packet) (b : Bool) → m.input ≡ input.Deliver p → (p.«from» == y) ≡ b → (expected_by t y e m ≡ e) ⊎ ((c : Counts t y m) × (expected_by t y e m ≡ record { inc = c.inc; count = suc e.count }))
    taken p true takes source = said p p.msg takes source refl
    taken p false takes source = inl (rw (takes, source) refl)

    by : (i : Input) → m.input ≡ i → (expected_by t y e m ≡ e) ⊎ ((c : Counts t y m) × (expected_by t y e m ≡ record { inc = c.inc; count = suc e.count }))
    by (input.Deliver p) takes = taken p (p.«from» == y) takes refl
    by i takes = inl (rw takes refl)

grows : (t : Txn) (y : ℕ) (e : Expected) (m : Moment) (p : Packet) (n inc : ℕ) (v : Answer) → m.input ≡ input.Deliver p → (p.«from» == y) ≡ true → p.msg ≡ msg.Done t n inc v → list_any (tells_op t n) m.told ≡ true →
    expected_by t y e m ≡ record { inc = inc; count = suc e.count }
grows t y e m p n inc v takes source says tells = rw (takes, source, says, same_from t t refl, tells) refl

-- an event that tells an operation is among those told
told_event : (t : Txn) (n : ℕ) (l : List Told) → list_any (tells_op t n) l ≡ true → (v : Answer) × In (told.Op t n v) l
told_event t n l h = let r = any_in (tells_op t n) l h in by r.0 r.1 r.2
  where
    by : (e : Told) → In e l → tells_op t n e ≡ true → (v : Answer) × In (told.Op t n v) l
    by (told.Op u m v) k is =
        let q = and_parts (n == m) (same_txn t u) is in
        (v, subst (λ z. In z l) (λ i. told.Op (sym (same_is t u q.1) i) (sym (eqb-true n m q.0) i) v) k)
    by (told.Began u) k is = absurd (true≢false (sym is))
    by (told.Ended u d) k is = absurd (true≢false (sym is))
    by (told.Died u o) k is = absurd (true≢false (sym is))
    by (told.Doomed u s x y) k is = absurd (true≢false (sym is))
    by (told.Refused u w) k is = absurd (true≢false (sym is))
    by (told.Verdict u x y) k is = absurd (true≢false (sym is))
    by (told.Kept u st) k is = absurd (true≢false (sym is))

one_message : (p q : Packet) (t : Txn) (n m i j : ℕ) (v w : Answer) → p ≡ q → p.msg ≡ msg.Done t n i v → q.msg ≡ msg.Done t m j w → (n ≡ m) × (i ≡ j)
one_message p q t n m i j v w e a b = let both : msg.Done t n i v ≡ msg.Done t m j w = sym a ∙ ap (λ (z : Packet). z.msg) e ∙ b in (cc, cc)

one_packet : (p q : Packet) → input.Deliver p ≡ input.Deliver q → p ≡ q
one_packet p q e = cc

no_commit : (p : Packet) (t : Txn) → input.Commit t ≡ input.Deliver p → ⊥
no_commit p t e = cc

module _ (weights : List ℕ) (a : At) (k : Keeps a.site a.life) (fits : Fits weights a.site a.life a.input) (away : FromAway a.site a.input)
    (sent : List Packet) (iss iss' : Txn → List Op) (mine : List Move) (up : has_risen mine ≡ true) (life_is : life_at mine ≡ a.life) (story : Story sent iss a.site mine)
    (was_sent : (p : Packet) → a.input ≡ input.Deliver p → In p sent) (well : SentWell sent iss)
    (own_iss : (t : Txn) → t.site ≡ a.site → iss' t ≡ iss t ++ issued_in t a.input (step_at a).told) (on : GoesOn iss iss')
    (sent' : List Packet) (more : (p : Packet) → In p sent → In p sent') (m : Move) (is : IsNext a mine m) where
  mine' : List Move
  mine' = mine ++ m ∷ []

  sends_split : (p : Packet) → In p (flat_map sends (mine ++ m ∷ [])) → In p (flat_map sends mine) ⊎ In p (map unnumbered (step_at a).outs)
  sends_split p h = in_append (flat_map sends mine) (map unnumbered (step_at a).outs) p (subst (λ l. In p l)
      (flat_map-append sends mine (m ∷ []) ∙ ap (λ l. flat_map sends mine ++ (l ++ [])) is.sends_are ∙ ap (λ l. flat_map sends mine ++ l) (append-nil (map unnumbered (step_at a).outs))) h)

  tells_split : (e : Told) → In e (flat_map tells (mine ++ m ∷ [])) → In e (flat_map tells mine) ⊎ In e (step_at a).told
  tells_split e h = in_append (flat_map tells mine) (step_at a).told e (subst (λ l. In e l)
      (flat_map-append tells mine (m ∷ []) ∙ ap (λ l. flat_map tells mine ++ (l ++ [])) is.tells_are ∙ ap (λ l. flat_map tells mine ++ l) (append-nil (step_at a).told)) h)

  log_is : log_by mine ≡ a.life.log
  log_is = sym (life_log_at mine) ∙ ap (λ (l : Life). l.log) life_is

  log' : log_by (mine ++ m ∷ []) ≡ a.life.log ++ (step_at a).records
  log' = log_push mine m ∙ (λ i. log_is i ++ is.records_are i)

  -- the same operation of a transaction that was told before
  told_op : (t : Txn) (n : ℕ) (v : Answer) (op : Op) → In (told.Op t n v) (flat_map tells mine) → nth_op n (iss' t) ≡ Some op → nth_op n (iss t) ≡ Some op
  told_op t n v op h nth =
      let r = story.tolds t n v h in
      let same : r.1 ≡ op = some_inj r.1 op (sym (nth_on iss iss' on t n r.1 r.2) ∙ nth) in
      r.2 ∙ ap Some same

  run : Running sent iss a.site mine (next a)
  run = run_push weights a k fits away sent iss mine (subst (λ l. Running sent iss a.site mine l) life_is (story_running sent iss a.site mine up story)) was_sent well.home

  voters_now : VotersAnswered a.site a.life.log a.life.steps
  voters_now = subst (λ (l : Life). VotersAnswered a.site l.log l.steps) life_is (subst (λ l. VotersAnswered a.site l (life_at mine).steps) (sym (life_log_at mine)) story.voters)

  -- behind a vote nothing is answered
  values' : (before : List Record) (t : Txn) (ops : List NumOp) (inc : ℕ) → has_voted t (a.life.log ++ (step_at a).records) ≡ true → Values iss a.site mine before t ops inc → Values iss' a.site (mine ++ m ∷ []) before t ops inc
  values' before t ops inc voted h n v (BySent p x says) = elim (sends_split p x) [
    | inl old ↦ (let r = h n v (BySent p old says) in (r.0, nth_on iss iss' on t n r.0 r.1, r.2, r.3))
    | inr new ↦ absurd (
        let s = shaped_sent weights a k fits away sent iss iss' mine up life_is story was_sent well own_iss on p new in
        let g = sent_gave weights a k fits away sent iss iss' mine up life_is story was_sent well own_iss on p t n inc v new says s in
        let hearing = no_new weights a k fits away voters_now s t n v voted g.3 in
        true≢false (sym hearing.coordinator ∙ g.1))
  ]
  values' before t ops inc voted h n v (ByTold x e op nth here) = elim (tells_split (told.Op t n v) x) [
    | inl old ↦ (let r = h n v (ByTold old e op (told_op t n v op old nth) here) in (r.0, nth_on iss iss' on t n r.0 r.1, r.2, r.3))
    | inr new ↦ absurd (
        let s = shaped_told weights a k fits away sent iss iss' mine up life_is story was_sent well own_iss on t n v new in
        let hearing = no_new weights a k fits away voters_now s t n v voted (told_cause a (step_at a) s t n v new) in
        let z = heard_place weights a k fits away sent iss iss' mine up life_is story was_sent well own_iss on t n v new hearing in
        let same : z.1 ≡ op = some_inj z.1 op (sym z.2 ∙ nth) in
        z.3 (ap (λ o. (key_of o).site) same ∙ here))
  ]

  votes' : (before after : List Record) (t : Txn) (ops : List NumOp) → log_by (mine ++ m ∷ []) ≡ before ++ log.Vote t ops ∷ after → VoteOf sent' iss' a.site (mine ++ m ∷ []) before t ops
  votes' before after t ops e = by (run.votes before after t ops (sym log' ∙ e))
    where
      voted : has_voted t (a.life.log ++ (step_at a).records) ≡ true
      voted = vote_has t ops (a.life.log ++ (step_at a).records) (subst (λ l. In (log.Vote t ops) l) (sym e ∙ log') (in_back before (log.Vote t ops ∷ after) (log.Vote t ops) (inl refl)))

      by : VoteOf sent iss a.site mine before t ops → VoteOf sent' iss' a.site (mine ++ m ∷ []) before t ops
      by (OwnVote own values) = OwnVote own (values' before t ops t.inc voted values)
      by (AskedVote p inc count h says to other (inl none)) = AskedVote p inc count (more p h) says to other (inl none)
      by (AskedVote p inc count h says to other (inr values)) = AskedVote p inc count (more p h) says to other (inr (values' before t ops inc voted values))

  heard_on' : (y : ℕ) (t : Txn) (n inc : ℕ) (v : Answer) → Heard_of sent y t n inc v → Heard_of sent' y t n inc v
  heard_on' y t n inc v h = record { packet = h.packet; sent_in = more h.packet h.sent_in; source = h.source; says = h.says }

  -- an operation on another site's key that the step tells was heard
  told_heard : (t : Txn) (n : ℕ) (v : Answer) (op : Op) → In (told.Op t n v) (step_at a).told → nth_op n (iss' t) ≡ Some op → ((key_of op).site ≡ a.site → ⊥) → Hearing a t n v
  told_heard t n v op h nth differ = elim (told_gave weights a k fits away sent iss iss' mine up life_is story was_sent well own_iss on t n v h).1 [
    | inl hearing ↦ hearing
    | inr g ↦ absurd (
        let place : nth_op n (iss' t) ≡ Some g.asked.op = subst (λ u. nth_op n (iss' u) ≡ Some g.asked.op) g.txn
        (subst (λ x. nth_op x (iss' g.asked.txn) ≡ Some g.asked.op) g.n_is (came' weights a k fits away sent iss iss' mine up life_is story was_sent well own_iss on g.asked g.asked_in)) in
        let same : g.asked.op ≡ op = some_inj g.asked.op op (sym place ∙ nth) in
        differ (ap (λ o. (key_of o).site) (sym same) ∙ ((steady_push weights a (moment a) (is_moment a) k.steady fits).here g.asked g.asked_in).0))
  ]

  -- a site counts only answers that it heard
  counts_heard : (t : Txn) (y : ℕ) → (y ≡ a.site → ⊥) → (c : Counts t y (moment a)) → (v : Answer) × In (told.Op t c.n v) (step_at a).told × Hearing a t c.n v
  counts_heard t y differ c =
      let w = told_event t c.n (step_at a).told c.tells in
      let d = well.dones c.packet t c.n c.inc c.answer (was_sent c.packet c.takes) c.says in
      (w.0, w.1, told_heard t c.n w.0 d.0 w.1 (nth_on iss iss' on t c.n d.0 d.1) (λ e. differ (sym (d.2 ∙ c.source) ∙ e)))

  hears_next : (t : Txn) (n : ℕ) (v : Answer) (op : Op) → In (told.Op t n v) (flat_map tells (mine ++ m ∷ [])) → nth_op n (iss' t) ≡ Some op → ((key_of op).site ≡ a.site → ⊥) → t.inc ≡ a.life.inc →
      Heard_of sent' (key_of op).site t n (expected a.site a.life.inc t (a.life.steps ++ moment a ∷ []) (key_of op).site).inc v
      × (1 ≤ (expected a.site a.life.inc t (a.life.steps ++ moment a ∷ []) (key_of op).site).count)
  hears_next t n v op h nth differ inc =
      subst (λ (e : Expected). Heard_of sent' (key_of op).site t n e.inc v × (1 ≤ e.count)) (sym pushed) (by (tells_split (told.Op t n v) h) (expected_cases t (key_of op).site old_e (moment a)))
    where
      old_e : Expected
      old_e = expected a.site a.life.inc t a.life.steps (key_of op).site

      pushed : expected a.site a.life.inc t (a.life.steps ++ moment a ∷ []) (key_of op).site ≡ expected_by t (key_of op).site (expected a.site a.life.inc t a.life.steps (key_of op).site) (moment a)
      pushed = expected_push a.site a.life.inc t a.life.steps (moment a) (key_of op).site (false_from_ne_true _ (λ y. differ (sym (eqb-true a.site (key_of op).site y))))

      heard_source : (g : Hearing a t n v) → In (told.Op t n v) (step_at a).told → g.packet.«from» ≡ (key_of op).site
      heard_source g new =
          let s = shaped_told weights a k fits away sent iss iss' mine up life_is story was_sent well own_iss on t n v new in
          let own = eqb-true t.site a.site g.coordinator in
          let place : nth_op n (iss' t) ≡ Some g.op = ap (nth_op n) (now' weights a k fits away sent iss iss' mine up life_is story was_sent well own_iss on t own inc
          ∙ issued_calm t a.life.steps (moment a) (so_far a nothing) refl (shaped_calm a (step_at a) s) refl) ∙ g.nth in
          let same : g.op ≡ op = some_inj g.op op (sym place ∙ nth) in
          sym (eqb-true (key_of g.op).site g.packet.«from» g.there) ∙ ap (λ o. (key_of o).site) same

      before : In (told.Op t n v) (flat_map tells mine) → Heard_of sent (key_of op).site t n (expected a.site a.life.inc t a.life.steps (key_of op).site).inc v × (1 ≤ (expected a.site a.life.inc t a.life.steps (key_of op).site).count)
      before old = subst (λ (l : Life). t.inc ≡ l.inc → Heard_of sent (key_of op).site t n (expected a.site l.inc t l.steps (key_of op).site).inc v × (1 ≤ (expected a.site l.inc t l.steps (key_of op).site).count)) life_is
          (story.hears t n v op old (told_op t n v op old nth) differ up) inc

      counted : (c : Counts t (key_of op).site (moment a)) → (e : Expected) → e ≡ expected a.site a.life.inc t a.life.steps (key_of op).site → Hearing a t c.n (counts_heard t (key_of op).site differ c).0 → 1 ≤ e.count → e.inc ≡ c.inc
      counted c e same hearing some =
          let one = one_packet c.packet hearing.packet (sym c.takes ∙ hearing.takes) in
          let msgs = one_message c.packet hearing.packet t c.n c.n c.inc hearing.inc c.answer _ one c.says hearing.says in
          let source : hearing.packet.«from» ≡ (key_of op).site = ap (λ (z : Packet). z.«from») (sym one) ∙ c.source in
          let test : ((e.count == 0) || (e.inc == hearing.inc)) ≡ true = subst (λ (z : Expected). ((z.count == 0) || (z.inc == hearing.inc)) ≡ true) (sym same)
          (subst (λ y. ((expected a.site a.life.inc t a.life.steps y).count == 0 || (expected a.site a.life.inc t a.life.steps y).inc == hearing.inc) ≡ true) source hearing.same) in
          elim (or_cases (e.count == 0) (e.inc == hearing.inc) test) [
            | inl none ↦ absurd (let z = eqb-true e.count 0 none in omega (arith, z, some))
            | inr now ↦ eqb-true e.inc hearing.inc now ∙ sym msgs.1
          ]

      by : In (told.Op t n v) (flat_map tells mine) ⊎ In (told.Op t n v) (step_at a).told →
          (expected_by t (key_of op).site (expected a.site a.life.inc t a.life.steps (key_of op).site) (moment a) ≡ expected a.site a.life.inc t a.life.steps (key_of op).site)
          ⊎ ((c : Counts t (key_of op).site (moment a)) × (expected_by t (key_of op).site (expected a.site a.life.inc t a.life.steps (key_of op).site) (moment a) ≡ record { inc = c.inc; count = suc (expected a.site a.life.inc t a.life.steps (key_of op).site).count })) →
          Heard_of sent' (key_of op).site t n (expected_by t (key_of op).site (expected a.site a.life.inc t a.life.steps (key_of op).site) (moment a)).inc v
          × (1 ≤ (expected_by t (key_of op).site (expected a.site a.life.inc t a.life.steps (key_of op).site) (moment a)).count)
      by (inl old) (inl e) = let r = before old in
          subst (λ (z : Expected). Heard_of sent' (key_of op).site t n z.inc v × (1 ≤ z.count)) (sym e) (heard_on' (key_of op).site t n _ v r.0, r.1)
      by (inl old) (inr c) =
          let r = before old in
          let w = counts_heard t (key_of op).site differ c.0 in
          let same = counted c.0 (expected a.site a.life.inc t a.life.steps (key_of op).site) refl w.2 r.1 in
          subst (λ (z : Expected). Heard_of sent' (key_of op).site t n z.inc v × (1 ≤ z.count)) (sym c.1)
          (subst (λ i. Heard_of sent' (key_of op).site t n i v) same (heard_on' (key_of op).site t n _ v r.0), (omega arith))
      by (inr new) cases =
          let g = told_heard t n v op new nth differ in
          let source = heard_source g new in
          let tells = in_any (tells_op t n) (step_at a).told (told.Op t n v) new (and_from (n == n) (same_txn t t) (eq-eqb n n refl) (same_from t t refl)) in
          subst (λ (z : Expected). Heard_of sent' (key_of op).site t n z.inc v × (1 ≤ z.count))
          (sym (grows t (key_of op).site (expected a.site a.life.inc t a.life.steps (key_of op).site) (moment a) g.packet n g.inc v g.takes (eq-eqb g.packet.«from» (key_of op).site source) g.says tells))
          (record { packet = g.packet; sent_in = more g.packet (was_sent g.packet g.takes); source = source; says = g.says }, (omega arith))

  does_new : (p : Packet) (t : Txn) (n : ℕ) (op : Op) → In p (map unnumbered (step_at a).outs) → p.msg ≡ msg.Do t n op → nth_op n (iss' t) ≡ Some op
  does_new p t n op h says =
      let x = unnumbered_in (step_at a).outs p h in
      let s = shaped_sent weights a k fits away sent iss iss' mine up life_is story was_sent well own_iss on p h in
      let w : MessageIs a (step_at a).records x.0.to (msg.Do t n op) = subst (λ z. MessageIs a (step_at a).records x.0.to z) (ap (λ (z : Packet). z.msg) x.2 ∙ says) (step_sent a away x.0 x.1).1 in
      subst (λ z. nth_op z (iss' t) ≡ Some op) (sym w.2)
      (issue_place weights a k fits away sent iss iss' mine up life_is story was_sent well own_iss on t op w.0 w.1 (shaped_calm a (step_at a) s))

  -- all that was issued before a commit was told
  commit_told : (t : Txn) → Commits a t → (x : ℕ) → 1 ≤ x → x ≤ length (iss' t) → t.site ≡ a.site → t.inc ≡ a.life.inc → op_told t x (a.life.steps ++ moment a ∷ []) ≡ true
  commit_told t c x low high own inc = told_push t x a.life.steps (moment a) ∙ or_left (op_told t x a.life.steps) _ old
    where
      same : iss' t ≡ issued t a.life.steps
      same = own_iss t own ∙ ap (λ i. iss t ++ issued_in t i (step_at a).told) c.takes ∙ append-nil (iss t)
          ∙ now_issued weights a k fits away sent iss iss' mine up life_is story was_sent well own_iss on t own inc

      old : op_told t x a.life.steps ≡ true
      old = elim (cases_lt x (length (issued t a.life.steps))) [
        | inl less ↦ k.steady.told t x low less
        | inr most ↦ last_told a t c.allowed x low (let h : x ≤ length (issued t a.life.steps) = subst (λ l. x ≤ length l) same high in omega (arith, h, most))
      ]

  asks_new : (p : Packet) (t : Txn) (inc count : ℕ) → In p (map unnumbered (step_at a).outs) → p.msg ≡ msg.VoteReq t inc count → Request sent' iss' a.site (mine ++ m ∷ []) p t inc count
  asks_new p t inc count h says = made x.1 w
    where
      x : (y : Packet) × In y (step_at a).outs × (unnumbered y ≡ p)
      x = unnumbered_in (step_at a).outs p h

      w : MessageIs a (step_at a).records p.to (msg.VoteReq t inc count)
      w = subst (λ (z : Packet). MessageIs a (step_at a).records z.to (msg.VoteReq t inc count)) x.2
          (subst (λ z. MessageIs a (step_at a).records x.0.to z) (ap (λ (z : Packet). z.msg) x.2 ∙ says) (step_sent a away x.0 x.1).1)

      made : In x.0 (step_at a).outs → MessageIs a (step_at a).records p.to (msg.VoteReq t inc count) → Request sent' iss' a.site (mine ++ m ∷ []) p t inc count
      made member w = record {
        own = own;
        other = w.4;
        voted = ap (has_voted t) log' ∙ list_any-append (Rattle.e3_world.specs.Logs.is_vote t) a.life.log (step_at a).records ∙ or_right _ _ w.1;
        all_told = λ u now y low high. subst (λ (l : Life). op_told t y l.steps ≡ true) (sym is.life) (commit_told t w.0 y low high own here);
        heard = λ n v op told_it nth to. heard n v op nth to (tells_split (told.Op t n v) told_it);
      }
        where
          own : t.site ≡ a.site
          own = let f : Fits weights a.site a.life (input.Commit t) = subst (λ i. Fits weights a.site a.life i) w.0.takes fits in f.1

          here : t.inc ≡ a.life.inc
          here = present weights a k fits away sent iss iss' mine up life_is story was_sent well own_iss on t w.0.allowed

          differ : (op : Op) → (key_of op).site ≡ p.to → (key_of op).site ≡ a.site → ⊥
          differ op to e = true≢false (sym (eq-eqb p.to a.site (sym to ∙ e)) ∙ w.4)

          heard : (n : ℕ) (v : Answer) (op : Op) → nth_op n (iss' t) ≡ Some op → (key_of op).site ≡ p.to → In (told.Op t n v) (flat_map tells mine) ⊎ In (told.Op t n v) (step_at a).told → Heard_of sent' p.to t n inc v × (1 ≤ count)
          heard n v op nth to (inl old) =
              let r = subst (λ (l : Life). t.inc ≡ l.inc → Heard_of sent (key_of op).site t n (expected a.site l.inc t l.steps (key_of op).site).inc v × (1 ≤ (expected a.site l.inc t l.steps (key_of op).site).count)) life_is
              (story.hears t n v op old (told_op t n v op old nth) (differ op to) up) here in
              let z = subst (λ y. Heard_of sent y t n (expected a.site a.life.inc t a.life.steps y).inc v × (1 ≤ (expected a.site a.life.inc t a.life.steps y).count)) to r in
              (subst (λ i. Heard_of sent' p.to t n i v) (sym w.2) (heard_on' p.to t n _ v z.0), subst (λ c. 1 ≤ c) (sym w.3) z.1)
          heard n v op nth to (inr new) = absurd (let g = told_heard t n v op new nth (differ op to) in no_commit g.packet t (sym w.0.takes ∙ g.takes))

  asks_old : (p : Packet) (t : Txn) (inc count : ℕ) → Request sent iss a.site mine p t inc count → Request sent' iss' a.site (mine ++ m ∷ []) p t inc count
  asks_old p t inc count r = record {
    own = r.own;
    other = r.other;
    voted = ap (has_voted t) log' ∙ list_any-append (Rattle.e3_world.specs.Logs.is_vote t) a.life.log (step_at a).records ∙ or_left (has_voted t a.life.log) _ voted;
    all_told = λ u now y low high. subst (λ (l : Life). op_told t y l.steps ≡ true) (sym is.life)
        (told_push t y a.life.steps (moment a) ∙ or_left (op_told t y a.life.steps) _ (all_told (now ∙ ap (λ (l : Life). l.inc) is.life) y low (subst (λ l. y ≤ length l) same high)));
    heard = λ n v op told_it nth to. heard n v op nth to (tells_split (told.Op t n v) told_it);
  }
    where
      voted : has_voted t a.life.log ≡ true
      voted = ap (has_voted t) (sym log_is) ∙ r.voted

      all_told : t.inc ≡ a.life.inc → (y : ℕ) → 1 ≤ y → y ≤ length (iss t) → op_told t y a.life.steps ≡ true
      all_told now y low high = subst (λ (l : Life). t.inc ≡ l.inc → op_told t y l.steps ≡ true) life_is (λ e. r.all_told up e y low high) now

      -- nothing is issued behind the vote
      none_issued : (l : List Op) → issued_in t a.input (step_at a).told ≡ l → issued_in t a.input (step_at a).told ≡ []
      none_issued [] e = e
      none_issued (o ∷ l) e = absurd (
          let w = fresh_issue weights a k fits away sent iss iss' mine up life_is story was_sent well own_iss on t o (subst (λ z. In o z) (sym e) (inl refl)) in
          let idle : state_of t a.life.log ≡ Q = ap (state_of t) (sym (append-nil a.life.log)) ∙ (allowed_parts a t w.1).2 in
          true≢false (sym voted ∙ idle_unvoted t a.life.log idle))

      same : iss' t ≡ iss t
      same = own_iss t r.own ∙ ap (λ l. iss t ++ l) (none_issued _ refl) ∙ append-nil (iss t)

      differ : (op : Op) → (key_of op).site ≡ p.to → (key_of op).site ≡ a.site → ⊥
      differ op to e = true≢false (sym (eq-eqb p.to a.site (sym to ∙ e)) ∙ r.other)

      heard : (n : ℕ) (v : Answer) (op : Op) → nth_op n (iss' t) ≡ Some op → (key_of op).site ≡ p.to → In (told.Op t n v) (flat_map tells mine) ⊎ In (told.Op t n v) (step_at a).told → Heard_of sent' p.to t n inc v × (1 ≤ count)
      heard n v op nth to (inl old) = let z = r.heard n v op old (told_op t n v op old nth) to in (heard_on' p.to t n inc v z.0, z.1)
      heard n v op nth to (inr new) = absurd (
          let g = told_heard t n v op new nth (differ op to) in
          let now = eqb-true t.inc a.life.inc g.present in
          let u = unanswered_is t (log_now a nothing) (steps_now a nothing) n g.unanswered in
          let no_issue : issued t (steps_now a nothing) ≡ issued t a.life.steps = issued_push t a.life.steps (so_far a nothing) ∙ ap (λ i. issued t a.life.steps ++ issued_in t i []) g.takes ∙ append-nil (issued t a.life.steps) in
          let long : n ≡ length (issued t a.life.steps) = u.0 ∙ ap length no_issue in
          let long' : n ≡ length (iss t) = long ∙ ap length (sym (now_issued weights a k fits away sent iss iss' mine up life_is story was_sent well own_iss on t r.own now)) in
          let yes = all_told now n u.1 (omega (arith, long')) in
          true≢false (sym (told_push t n a.life.steps (so_far a nothing) ∙ or_left (op_told t n a.life.steps) _ yes) ∙ u.2))

  pub story_step : Story sent' iss' a.site (mine ++ m ∷ [])
  story_step = record {
    clock = ap (λ (l : Life). l.inc) is.life ∙ sym (ap (λ (l : Life). l.inc) life_is) ∙ story.clock ∙ ap logged_inc log_is
        ∙ sym (inc_same a.life.log (step_at a).records (λ r h rising. (let z = in_split (step_at a).records r h in step_record a away z.0 z.1 r z.2 rising))) ∙ ap logged_inc (sym log');
    past = λ t own some. subst (λ (l : Life). t.inc ≤ l.inc) (sym is.life) (past' weights a k fits away sent iss iss' mine up life_is story was_sent well own_iss on t own some);
    now = λ t own u inc. now' weights a k fits away sent iss iss' mine up life_is story was_sent well own_iss on t own (inc ∙ ap (λ (l : Life). l.inc) is.life) ∙ ap (λ (l : Life). issued t l.steps) (sym is.life);
    member = λ t n op own h. member' weights a k fits away sent iss iss' mine up life_is story was_sent well own_iss on t n op own h;
    source = λ p h. source p (sends_split p h);
    does = λ p t n op h says. does p t n op says (sends_split p h);
    came = λ q h. came' weights a k fits away sent iss iss' mine up life_is story was_sent well own_iss on q (subst (λ (l : Life). In q (arrivals a.site l.steps)) is.life h);
    dones = λ p t n inc v h says. subst (λ l. Given iss' a.site (has_risen (mine ++ m ∷ [])) l t n inc v) (sym is.life) (dones p t n inc v says (sends_split p h));
    tolds = λ t n v h. tolds t n v (tells_split (told.Op t n v) h);
    voters = subst (λ (l : Life). VotersAnswered a.site (log_by (mine ++ m ∷ [])) l.steps) (sym is.life) (subst (λ l. VotersAnswered a.site l (a.life.steps ++ moment a ∷ [])) (sym log') run.voters);
    votes = votes';
    hears = λ t n v op h nth differ u inc. subst (λ (l : Life). Heard_of sent' (key_of op).site t n (expected a.site l.inc t l.steps (key_of op).site).inc v × (1 ≤ (expected a.site l.inc t l.steps (key_of op).site).count)) (sym is.life)
        (hears_next t n v op h nth differ (inc ∙ ap (λ (l : Life). l.inc) is.life));
    asks = λ p t inc count h says. asks p t inc count says (sends_split p h);
  }
    where
      source : (p : Packet) → In p (flat_map sends mine) ⊎ In p (map unnumbered (step_at a).outs) → p.«from» ≡ a.site
      source p (inl old) = story.source p old
      source p (inr new) = let x = unnumbered_in (step_at a).outs p new in ap (λ (z : Packet). z.«from») (sym x.2) ∙ (step_sent a away x.0 x.1).0

      does : (p : Packet) (t : Txn) (n : ℕ) (op : Op) → p.msg ≡ msg.Do t n op → In p (flat_map sends mine) ⊎ In p (map unnumbered (step_at a).outs) → nth_op n (iss' t) ≡ Some op
      does p t n op says (inl old) = nth_on iss iss' on t n op (story.does p t n op old says)
      does p t n op says (inr new) = does_new p t n op new says

      dones : (p : Packet) (t : Txn) (n inc : ℕ) (v : Answer) → p.msg ≡ msg.Done t n inc v → In p (flat_map sends mine) ⊎ In p (map unnumbered (step_at a).outs) → Given iss' a.site (has_risen (mine ++ m ∷ [])) (next a) t n inc v
      dones p t n inc v says (inl old) = given_old weights a k fits away sent iss iss' mine up life_is story was_sent well own_iss on t n inc v (story.dones p t n inc v old says) (has_risen (mine ++ m ∷ []))
      dones p t n inc v says (inr new) = dones_new weights a k fits away sent iss iss' mine up life_is story was_sent well own_iss on p t n inc v new says (has_risen (mine ++ m ∷ []))

      tolds : (t : Txn) (n : ℕ) (v : Answer) → In (told.Op t n v) (flat_map tells mine) ⊎ In (told.Op t n v) (step_at a).told →
          (t.site ≡ a.site) × (op : Op) × (nth_op n (iss' t) ≡ Some op) × ((key_of op).site ≡ a.site → Given iss' a.site (has_risen (mine ++ m ∷ [])) (life_at (mine ++ m ∷ [])) t n t.inc v)
      tolds t n v (inl old) =
          let r = story.tolds t n v old in (
            r.0,
            r.1,
            nth_on iss iss' on t n r.1 r.2,
            (λ here. subst (λ l. Given iss' a.site (has_risen (mine ++ m ∷ [])) l t n t.inc v) (sym is.life)
                (given_old weights a k fits away sent iss iss' mine up life_is story was_sent well own_iss on t n t.inc v (r.3 here) (has_risen (mine ++ m ∷ [])))),
          )
      tolds t n v (inr new) =
          let r = tolds_new weights a k fits away sent iss iss' mine up life_is story was_sent well own_iss on t n v new (has_risen (mine ++ m ∷ [])) in
          (r.0, r.1, r.2, (λ here. subst (λ l. Given iss' a.site (has_risen (mine ++ m ∷ [])) l t n t.inc v) (sym is.life) (r.3 here)))

      asks : (p : Packet) (t : Txn) (inc count : ℕ) → p.msg ≡ msg.VoteReq t inc count → In p (flat_map sends mine) ⊎ In p (map unnumbered (step_at a).outs) → Request sent' iss' a.site (mine ++ m ∷ []) p t inc count
      asks p t inc count says (inl old) = asks_old p t inc count (story.asks p t inc count old says)
      asks p t inc count says (inr new) = asks_new p t inc count new says
