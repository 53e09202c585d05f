-- The story of a site with one more step.
use Rattle.std.proofs.Common.{◌≡◌, ◌≢◌, ◌⊎◌, inl, inr, ◌==◌, ◌++◌, ◌∷◌, [], ℕ, zero, suc, ◌≤◌, Bool, true, false, List, Some, None, length, map, refl, sym, subst, ap, ◌∙◌, if◌then◌else◌, eqb-true, arith}
use Rattle.std.specs.List.{list_any}
use Rattle.std.proofs.lemmas.Bool.{true≢false}
use Rattle.e3_types.specs.declared.entries.Input.{Input}
use Rattle.e3_types.specs.declared.entries.Input.TheVariants as input
use Rattle.e3_types.specs.declared.entries.Refusal.{Refusal}
use Rattle.e3_types.specs.declared.entries.Told.{Told}
use Rattle.e3_types.specs.declared.entries.Told.TheVariants as told
use Rattle.e3_types.specs.declared.messages.Message.{Message}
use Rattle.e3_types.specs.declared.messages.Message.TheVariants as msg
use Rattle.e3_types.specs.declared.messages.Packet.{Packet}
use Rattle.e3_types.specs.declared.transactions.Answer.{Answer}
use Rattle.e3_types.specs.declared.transactions.Op.{Op}
use Rattle.e3_types.specs.declared.transactions.Txn.{Txn}
use Rattle.e3_types.specs.Sets.{has_site}
use Rattle.e3_laws.proofs.agreement.Refinement.Lists.{same_from}
use Rattle.e3_world.specs.declared.lives.Asked.{Asked}
use Rattle.e3_world.specs.declared.lives.At.{At}
use Rattle.e3_world.specs.declared.lives.Life.{Life}
use Rattle.e3_world.specs.declared.lives.Moment.{Moment}
use Rattle.e3_world.specs.Logs.{key_of}
use Rattle.e3_world.specs.Making.{nothing}
use Rattle.e3_world.specs.Operations.{is_refusal, issued, issued_in, nth_op, taken_up, arrivals}
use Rattle.e3_world.specs.Sound.{Fits, FitsIssue}
use Rattle.e3_world.specs.Steps.{refuse, step_at}
use Rattle.e3_laws.proofs.serial.Step.Rules.{Hearing, Shaped}
use Rattle.e3_laws.proofs.serial.Lists.Entries.{In}
use Rattle.e3_laws.proofs.serial.Step.Walk.{allowed_parts}
use Rattle.e3_laws.proofs.serial.Step.Shapes.{FromAway, step_shape}
use Rattle.e3_laws.proofs.serial.Step.Arrivals.{arrivals_push}
use Rattle.e3_laws.proofs.serial.Step.Steadying.{taken_own, arrived_in, some_inj, issued_one, steady_push}
use Rattle.e3_laws.proofs.serial.Step.Answering.{Cause, told_cause, sent_cause}
use Rattle.e3_world.specs.Moves.{unnumbered}
use Rattle.e3_laws.proofs.serial.Step.Stepping.{moment, is_moment, calm_allowed, heard_elsewhere}
use Rattle.e3_laws.proofs.serial.Site.Keeping.{Keeps, next}
use Rattle.e3_world.specs.Lives.{life_at}
use Rattle.e3_world.specs.Moves.{Move}
use Rattle.e3_world.specs.Sound.{has_risen}
use Rattle.e3_laws.proofs.serial.Told.Sending.{MessageIs, step_sent}
use Rattle.e3_laws.proofs.serial.Told.Telling.{Gave, gave}
use Rattle.e3_laws.proofs.serial.Told.Stories.{First, first_more, Given, Story, GoesOn, nth_on}
use Rattle.e3_laws.proofs.serial.Told.Helping.{told_home, told_shown, sent_shown, nth_split, issued_what}
use Rattle.e3_laws.proofs.steps.Operations.Issuing.{get_end, issued_push}

-- the packets of a site come with what they say of operations
pub record SentWell (sent : List Packet) (iss : Txn → List Op) : Type 0 where
  pub home : (p : Packet) (t : Txn) (inc count : ℕ) → In p sent → p.msg ≡ msg.VoteReq t inc count → p.«from» ≡ t.site
  pub does : (p : Packet) (t : Txn) (n : ℕ) (op : Op) → In p sent → p.msg ≡ msg.Do t n op → nth_op n (iss t) ≡ Some op
  pub dones : (p : Packet) (t : Txn) (n inc : ℕ) (v : Answer) → In p sent → p.msg ≡ msg.Done t n inc v → (op : Op) × (nth_op n (iss t) ≡ Some op) × ((key_of op).site ≡ p.«from»)

pub unnumbered_in : (ps : List Packet) (p : Packet) → In p (map unnumbered ps) → (x : Packet) × In x ps × (unnumbered x ≡ p)
unnumbered_in [] p h = absurd h
unnumbered_in (x ∷ ps) p (inl e) = (x, inl refl, e)
unnumbered_in (x ∷ ps) p (inr k) = let r = unnumbered_in ps p k in (r.0, inr r.1, r.2)

not_op : (l : List Told) (t u : Txn) (n : ℕ) (v : Answer) (why : Refusal) → l ≡ told.Refused u why ∷ [] → In (told.Op t n v) l → ⊥
not_op l t u n v why e h = go (subst (λ z. In (told.Op t n v) z) e h)
  where
    go : In (told.Op t n v) (told.Refused u why ∷ []) → ⊥
    go (inl q) = cc
    go (inr k) = k

module _ (weights : List ℕ) (a : At) (k : Keeps a.site a.life) (fits : Fits weights a.site a.life a.input) (away : FromAway a.site a.input)
    (sent : List Packet) (iss iss' : Txn → List Op) (mine : List Move) (up : has_risen mine ≡ true) (life_is : life_at mine ≡ a.life) (story : Story sent iss a.site mine)
    (was_sent : (p : Packet) → a.input ≡ input.Deliver p → In p sent) (well : SentWell sent iss)
    (own_iss : (t : Txn) → t.site ≡ a.site → iss' t ≡ iss t ++ issued_in t a.input (step_at a).told) (on : GoesOn iss iss') where
  -- what was issued is what the life issued, under its incarnation
  pub now_issued : (t : Txn) → t.site ≡ a.site → t.inc ≡ a.life.inc → iss t ≡ issued t a.life.steps
  now_issued t own inc = subst (λ (l : Life). t.inc ≡ l.inc → iss t ≡ issued t l.steps) life_is (story.now t own up) inc

  pub now' : (t : Txn) → t.site ≡ a.site → t.inc ≡ a.life.inc → iss' t ≡ issued t (a.life.steps ++ moment a ∷ [])
  now' t own inc = own_iss t own ∙ ap (λ l. l ++ issued_in t a.input (step_at a).told) (now_issued t own inc) ∙ sym (issued_push t a.life.steps (moment a))

  -- an operation that is issued in the step
  pub fresh_issue : (t : Txn) (op : Op) → In op (issued_in t a.input (step_at a).told) → (a.input ≡ input.Do t op) × (refuse a t false nothing ≡ None)
  fresh_issue t op h = let w = issued_what t a.input (step_at a).told op h in (w.0, calm_allowed a t op w.0 w.1)

  pub present : (t : Txn) → refuse a t false nothing ≡ None → t.inc ≡ a.life.inc
  present t allowed = eqb-true t.inc a.life.inc (allowed_parts a t allowed).0

  pub issue_fits : (t : Txn) (op : Op) → a.input ≡ input.Do t op → FitsIssue weights a.site a.life t (key_of op)
  issue_fits t op takes = subst (λ i. Fits weights a.site a.life i) takes fits

  -- an operation that was issued has its place
  pub issue_place : (t : Txn) (op : Op) → a.input ≡ input.Do t op → refuse a t false nothing ≡ None → list_any is_refusal (step_at a).told ≡ false → nth_op (suc (length (issued t a.life.steps))) (iss' t) ≡ Some op
  issue_place t op takes allowed calm =
      let own = (issue_fits t op takes).coordinator in
      ap (nth_op (suc (length (issued t a.life.steps)))) (own_iss t own ∙ ap (λ l. l ++ issued_in t a.input (step_at a).told) (now_issued t own (present t allowed))
      ∙ ap (λ i. issued t a.life.steps ++ issued_in t i (step_at a).told) takes ∙ ap (λ l. issued t a.life.steps ++ l) one)
      ∙ get_end (issued t a.life.steps) op
    where
      one : issued_in t (input.Do t op) (step_at a).told ≡ op ∷ []
      one = rw (same_from t t refl, calm) refl

  pub past' : (t : Txn) → t.site ≡ a.site → iss' t ≢ [] → t.inc ≤ a.life.inc
  past' t own some = go (iss t) refl (issued_in t a.input (step_at a).told) refl
    where
      go : (l : List Op) → iss t ≡ l → (r : List Op) → issued_in t a.input (step_at a).told ≡ r → t.inc ≤ a.life.inc
      go (o ∷ l) e r f = subst (λ (z : Life). t.inc ≤ z.inc) life_is (story.past t own (λ q. (let both : [] ≡ o ∷ l = sym q ∙ e in cc)))
      go [] e (o ∷ r) f = let w = fresh_issue t o (subst (λ z. In o z) (sym f) (inl refl)) in let p = present t w.1 in omega (arith, p)
      go [] e [] f = absurd (some (own_iss t own ∙ (λ i. e i ++ f i)))

  pub member' : (t : Txn) (n : ℕ) (op : Op) → t.site ≡ a.site → nth_op n (iss' t) ≡ Some op → has_site t.sites (key_of op).site ≡ true
  member' t n op own h = elim (nth_split n (iss t) (issued_in t a.input (step_at a).told) op (ap (nth_op n) (sym (own_iss t own)) ∙ h)) [
    | inl old ↦ story.member t n op own old
    | inr new ↦ (issue_fits t op (fresh_issue t op new).0).there
  ]

  -- what comes has its place
  pub came' : (q : Asked) → In q (arrivals a.site (a.life.steps ++ moment a ∷ [])) → nth_op q.n (iss' q.txn) ≡ Some q.op
  came' q h = elim (arrived_in (arrivals a.site a.life.steps) (moment a) (taken_up a.site a.life.steps (moment a)) q (subst (λ l. In q l) (arrivals_push a.site a.life.steps (moment a)) h)) [
    | inl old ↦ nth_on iss iss' on q.txn q.n q.op (story.came q (subst (λ (l : Life). In q (arrivals a.site l.steps)) (sym life_is) old))
    | inr new ↦ taken new.0
  ]
    where
      said : (packet : Packet) (x : Message) → a.input ≡ input.Deliver packet → packet.msg ≡ x → taken_up a.site a.life.steps (moment a) ≡ Some q → nth_op q.n (iss' q.txn) ≡ Some q.op
      said packet (msg.Do t n op) takes says is =
          let up' : (m : Moment) → m.input ≡ input.Deliver packet → taken_up a.site a.life.steps m ≡ Some (record { txn = t; n = n; op = op }) = λ m e. rw (e, says) refl in
          let one : record { txn = t; n = n; op = op } ≡ q = some_inj (record { txn = t; n = n; op = op }) q (sym (up' (moment a) takes) ∙ is) in
          subst (λ (z : Asked). nth_op z.n (iss' z.txn) ≡ Some z.op) one (nth_on iss iss' on t n op (well.does packet t n op (was_sent packet takes) says))
      said packet (msg.Done t n inc v) takes says is = absurd (none packet (msg.Done t n inc v) takes says is (λ m e. rw (e, says) refl))
        where
          none : (packet : Packet) (x : Message) → a.input ≡ input.Deliver packet → packet.msg ≡ x → taken_up a.site a.life.steps (moment a) ≡ Some q → ((m : Moment) → m.input ≡ input.Deliver packet → taken_up a.site a.life.steps m ≡ None) → ⊥
          none packet x takes says is f = let both : None ≡ Some q = sym (f (moment a) takes) ∙ is in cc
      said packet x takes says is = absurd (let none : (m : Moment) → m.input ≡ input.Deliver packet → taken_up a.site a.life.steps m ≡ None = λ m e. rw (e, says) refl in
          let both : None ≡ Some q = sym (none (moment a) takes) ∙ is in cc)

      own : (t : Txn) (op : Op) (l : List Op) → a.input ≡ input.Do t op → issued_in t (input.Do t op) (step_at a).told ≡ l → taken_up a.site a.life.steps (moment a) ≡ Some q → nth_op q.n (iss' q.txn) ≡ Some q.op
      own t op [] takes some is = absurd (let none : (m : Moment) → m.input ≡ input.Do t op → m.told ≡ (step_at a).told → taken_up a.site a.life.steps m ≡ None = λ m e f. rw (e, f, some) refl in
          let both : None ≡ Some q = sym (none (moment a) takes refl) ∙ is in cc)
      own t op (o ∷ os) takes some is =
          let calm = (issued_one t op (step_at a).told o os some).1 in
          at ((key_of op).site == a.site) refl calm (sym (taken_own a.site a.life.steps (moment a) t op o os takes some) ∙ is)
        where
          at : (b : Bool) → ((key_of op).site == a.site) ≡ b → list_any is_refusal (step_at a).told ≡ false →
              (if b then Some (record { txn = t; n = suc (length (issued t a.life.steps)); op = op }) else None) ≡ Some q → nth_op q.n (iss' q.txn) ≡ Some q.op
          at true here calm e = subst (λ (z : Asked). nth_op z.n (iss' z.txn) ≡ Some z.op) (some_inj (record { txn = t; n = suc (length (issued t a.life.steps)); op = op }) q e)
              (issue_place t op takes (calm_allowed a t op takes calm) calm)
          at false here calm e = absurd (cc)

      taken : taken_up a.site a.life.steps (moment a) ≡ Some q → nth_op q.n (iss' q.txn) ≡ Some q.op
      taken is = by a.input refl
        where
          other : ((m : Moment) → m.input ≡ a.input → taken_up a.site a.life.steps m ≡ None) → nth_op q.n (iss' q.txn) ≡ Some q.op
          other f = absurd (let both : None ≡ Some q = sym (f (moment a) refl) ∙ is in cc)

          by : (i : Input) → a.input ≡ i → nth_op q.n (iss' q.txn) ≡ Some q.op
          by (input.Deliver p) e = said p p.msg e refl is
          by (input.Do t op) e = own t op (issued_in t (input.Do t op) (step_at a).told) e refl is
          by (input.Begin sites) e = other (λ m f. rw (f ∙ e) refl)
          by (input.Commit t) e = other (λ m f. rw (f ∙ e) refl)
          by (input.Cancel t) e = other (λ m f. rw (f ∙ e) refl)
          by (input.Expire t) e = other (λ m f. rw (f ∙ e) refl)
          by (input.Elect t g) e = other (λ m f. rw (f ∙ e) refl)

  -- an answer that was given before
  pub given_old : (t : Txn) (n inc : ℕ) (v : Answer) → Given iss a.site (has_risen mine) (life_at mine) t n inc v → (now_up : Bool) → Given iss' a.site now_up (next a) t n inc v
  given_old t n inc v g now_up = record {
    old = subst (λ (l : Life). inc ≤ l.inc) life_is g.old;
    op = g.op;
    nth = nth_on iss iss' on t n g.op g.nth;
    here = g.here;
    present = λ u now. first_more a.site a.life.steps (moment a) t n g.op v
        (subst (λ (l : Life). inc ≡ l.inc → First a.site l.steps t n g.op v) life_is (g.present up) now);
  }

  -- an answer that the step gives
  given_new : (t : Txn) (n inc : ℕ) (v : Answer) → Gave a t n v → inc ≤ a.life.inc → (now_up : Bool) → Given iss' a.site now_up (next a) t n inc v
  given_new t n inc v g low now_up = record {
    old = low;
    op = g.asked.op;
    nth = subst (λ u. nth_op n (iss' u) ≡ Some g.asked.op) g.txn (subst (λ m. nth_op m (iss' g.asked.txn) ≡ Some g.asked.op) g.n_is (came' g.asked g.asked_in));
    here = ((steady_push weights a (moment a) (is_moment a) k.steady fits).here g.asked g.asked_in).0;
    present = λ u now. record { asked = g.asked; asked_in = g.asked_in; txn = g.txn; n_is = g.n_is; op_is = refl; first = g.first; more = g.more; answers_are = g.answers_are; value = g.value };
  }

  -- what a new answer is
  pub sent_gave : (p : Packet) (t : Txn) (n inc : ℕ) (v : Answer) → In p (map unnumbered (step_at a).outs) → p.msg ≡ msg.Done t n inc v → (s : Shaped a (step_at a)) → (inc ≡ a.life.inc) × ((t.site == a.site) ≡ false) × Gave a t n v × Cause a s.rule t n v
  sent_gave p t n inc v h says s =
      let x = unnumbered_in (step_at a).outs p h in
      let says' : x.0.msg ≡ msg.Done t n inc v = ap (λ (z : Packet). z.msg) x.2 ∙ says in
      let is : MessageIs a (step_at a).records x.0.to (msg.Done t n inc v) = subst (λ m. MessageIs a (step_at a).records x.0.to m) says' (step_sent a away x.0 x.1).1 in
      let cause = sent_cause a (step_at a) s t n inc v x.0 x.1 says' in (
        is.0,
        is.1,
        (elim (gave weights a k fits away s t n v cause (sent_shown a t n inc v x.0 x.1 says')) [
          | inl hearing ↦ absurd (true≢false (sym hearing.coordinator ∙ is.1))
          | inr g ↦ g
        ]),
        cause,
      )

  pub shaped_sent : (p : Packet) → In p (map unnumbered (step_at a).outs) → Shaped a (step_at a)
  shaped_sent p h = elim (step_shape a away) [ inl r ↦ absurd (subst (λ l. In p (map unnumbered l)) r.outs h) | inr s ↦ s ]

  pub shaped_told : (t : Txn) (n : ℕ) (v : Answer) → In (told.Op t n v) (step_at a).told → Shaped a (step_at a)
  shaped_told t n v h = elim (step_shape a away) [ inl r ↦ absurd (not_op (step_at a).told t r.told.0 n v r.told.1 r.told.2 h) | inr s ↦ s ]

  pub dones_new : (p : Packet) (t : Txn) (n inc : ℕ) (v : Answer) → In p (map unnumbered (step_at a).outs) → p.msg ≡ msg.Done t n inc v → (now_up : Bool) → Given iss' a.site now_up (next a) t n inc v
  dones_new p t n inc v h says now_up =
      let g = sent_gave p t n inc v h says (shaped_sent p h) in
      let e = g.0 in
      given_new t n inc v g.2 (omega (arith, e)) now_up

  -- what the step tells: an answer that was heard, or one that the step gives
  pub told_gave : (t : Txn) (n : ℕ) (v : Answer) → In (told.Op t n v) (step_at a).told → (t.site ≡ a.site) × (Hearing a t n v ⊎ Gave a t n v)
  told_gave t n v h =
      let s = shaped_told t n v h in
      (told_home a s t n v h, gave weights a k fits away s t n v (told_cause a (step_at a) s t n v h) (told_shown a t n v h))

  pub heard_place : (t : Txn) (n : ℕ) (v : Answer) → In (told.Op t n v) (step_at a).told → Hearing a t n v → (t.inc ≡ a.life.inc) × (op : Op) × (nth_op n (iss' t) ≡ Some op) × ((key_of op).site ≡ a.site → ⊥)
  heard_place t n v h g =
      let s = shaped_told t n v h in
      let z = heard_elsewhere weights a k.steady fits away s t n v g in
      let inc = eqb-true t.inc a.life.inc g.present in
      (inc, z.1, ap (nth_op n) (now' t z.0 inc) ∙ z.2, z.3)

  pub tolds_new : (t : Txn) (n : ℕ) (v : Answer) → In (told.Op t n v) (step_at a).told → (now_up : Bool) →
      (t.site ≡ a.site) × (op : Op) × (nth_op n (iss' t) ≡ Some op) × ((key_of op).site ≡ a.site → Given iss' a.site now_up (next a) t n t.inc v)
  tolds_new t n v h now_up = by (told_gave t n v h)
    where
      by : (t.site ≡ a.site) × (Hearing a t n v ⊎ Gave a t n v) → (t.site ≡ a.site) × (op : Op) × (nth_op n (iss' t) ≡ Some op) × ((key_of op).site ≡ a.site → Given iss' a.site now_up (next a) t n t.inc v)
      by x = elim x.1 [
        | inl g ↦ (let z = heard_place t n v h g in (x.0, z.1, z.2, (λ here. absurd (z.3 here))))
        | inr g ↦ (
            let nth : nth_op n (iss' t) ≡ Some g.asked.op = subst (λ u. nth_op n (iss' u) ≡ Some g.asked.op) g.txn (subst (λ m. nth_op m (iss' g.asked.txn) ≡ Some g.asked.op) g.n_is (came' g.asked g.asked_in)) in
            (x.0, g.asked.op, nth, (λ here. given_new t n t.inc v g (past' t x.0 (λ e. empty_place n g.asked.op (ap (nth_op n) (sym e) ∙ nth))) now_up)))
      ]
        where
          empty_place : (n : ℕ) (op : Op) → nth_op n [] ≡ Some op → ⊥
          empty_place zero op e = cc
          empty_place (suc n) op e = cc
