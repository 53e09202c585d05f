-- What an answer that a site gave is, and that nothing of a transaction is answered behind its vote.
use Rattle.std.proofs.Common.{◌≡◌, ◌⊎◌, inl, inr, ◌==◌, ◌&&◌, ◌++◌, ◌∷◌, [], ℕ, suc, ◌<◌, ◌≤◌, Bool, true, false, cond, List, Some, None, length, fold, map, filter, refl, sym, subst, ap, ◌∙◌, if◌then◌else◌, append-nil, append_assoc, eq-eqb, nat_lt, arith, le-ltb, lt-ltb}
use Rattle.std.specs.List.{flat_map, AllByRecursion as Each}
use Rattle.std.proofs.lemmas.Bool.{true≢false}
use Rattle.std.proofs.lemmas.Grind.{flat_map-append}
use Rattle.e3_types.specs.declared.entries.Input.TheVariants as input
use Rattle.e3_types.specs.declared.messages.Message.TheVariants as msg
use Rattle.e3_types.specs.declared.messages.Packet.{Packet}
use Rattle.e3_types.specs.declared.records.Record.{Record}
use Rattle.e3_types.specs.declared.transactions.Answer.{Answer}
use Rattle.e3_types.specs.declared.transactions.Answer.TheVariants.{Value}
use Rattle.e3_types.specs.declared.transactions.Key.{Key}
use Rattle.e3_types.specs.declared.transactions.Op.{Op}
use Rattle.e3_types.specs.declared.transactions.Op.TheVariants.{Read, Write}
use Rattle.e3_types.specs.declared.transactions.Txn.{Txn}
use Rattle.e3_types.specs.Locks.{front}
use Rattle.e3_types.specs.Same.{same_txn, same_numbers}
use Rattle.e3_laws.proofs.agreement.Refinement.Lists.{same_from}
use Rattle.e3_world.specs.declared.lives.Asked.{Asked}
use Rattle.e3_world.specs.declared.lives.At.{At}
use Rattle.e3_world.specs.declared.lives.Life.{Life}
use Rattle.e3_world.specs.declared.lives.Moment.{Moment}
use Rattle.e3_world.specs.declared.lives.Performed.{Performed}
use Rattle.e3_world.specs.Logs.{has_voted, is_undecided, key_of}
use Rattle.e3_world.specs.Making.{nothing, log_now, steps_now, own_write}
use Rattle.e3_world.specs.Operations.{issued, nth_op, arrivals, answer_told, answer_sent, answers, is_answered, performed_by, done}
use Rattle.e3_world.specs.Sound.{Fits, FitsDo, FitsMessage, FitsPacket}
use Rattle.e3_world.specs.Steps.{refuse, step_at}
use Rattle.e3_laws.proofs.serial.Step.Rules.{Hearing, Locking, Repeating, Shaped}
use Rattle.e3_laws.proofs.serial.Lists.Entries.{In}
use Rattle.e3_laws.proofs.serial.Lists.Members.{in_front, in_back, in_filter, filter_in}
use Rattle.e3_laws.proofs.serial.Lists.Replaying.{filter-append}
use Rattle.e3_laws.proofs.serial.Step.Shapes.{FromAway}
use Rattle.e3_laws.proofs.serial.Step.Arrivals.{answers_push, answered_from, answered_first, answered_more, InTurn, of_txn}
use Rattle.e3_laws.proofs.serial.Step.Steadying.{some_inj, performed_of, turns_before, arrivals_stay, steady_push}
use Rattle.e3_laws.proofs.serial.Step.Answering.{Cause, Heard, Locked, Repeated, Granted}
use Rattle.e3_world.specs.Moves.{unnumbered}
use Rattle.e3_laws.proofs.serial.Step.Stepping.{moment, so_far, is_moment, shaped_calm, same_answers, same_answered, waits_parts, granted_waits, granted_arrived, heard_elsewhere, cause_why, new_why}
use Rattle.e3_laws.proofs.serial.Step.Knowing.{Elsewhere, lock_arrives}
use Rattle.e3_laws.proofs.serial.Lists.Members.{in_split}
use Rattle.e3_laws.proofs.serial.Site.Answers.{rows_in, AnswerFits, RightAt}
use Rattle.e3_world.specs.Serial.{World, run_op}
use Rattle.e3_laws.specs.serial.Ordered.{world_of, seen_by}
use Rattle.e3_laws.proofs.serial.Site.Rightness.{why_value}
use Rattle.e3_laws.proofs.serial.Site.Voting.{listed}
use Rattle.e3_laws.proofs.serial.Site.Keeping.{Keeps}
use Rattle.e3_laws.proofs.steps.Operations.Issuing.{nth_low}

-- answers that stand at a place of a list
right_at : (rows : List ℕ → Answer) (steps : List Moment) (front : List Performed) (b : List Asked) (q : Asked) (c : List Asked) → RightAt rows steps front (b ++ q ∷ c) →
    Each (AnswerFits rows (front ++ flat_map (performed_by steps) b)) (performed_by steps q)
right_at rows steps front [] q c h = subst (λ l. Each (AnswerFits rows l) (performed_by steps q)) (sym (append-nil front)) h.0
right_at rows steps front (x ∷ b) q c h =
    subst (λ l. Each (AnswerFits rows l) (performed_by steps q)) (append_assoc front (performed_by steps x) (flat_map (performed_by steps) b)) (right_at rows steps (front ++ performed_by steps x) b q c h.1)

listed_both : (ps qs : List Performed) → listed (ps ++ qs) ≡ listed ps ++ listed qs
listed_both [] qs = refl
listed_both (p ∷ ps) qs = ap (λ z. record { n = p.n; op = p.op } ∷ z) (listed_both ps qs)

-- operations with lower numbers, and with others
filter_low : (m : ℕ) (ps : List Performed) → ((p : Performed) → In p ps → p.n < m) → filter (λ o. nat_lt o.n m) (listed ps) ≡ listed ps
filter_low m [] h = refl
filter_low m (p ∷ ps) h = subst (λ b. cond b (record { n = p.n; op = p.op } ∷ filter (λ o. nat_lt o.n m) (listed ps)) (filter (λ o. nat_lt o.n m) (listed ps)) ≡ record { n = p.n; op = p.op } ∷ listed ps)
    (sym (lt-ltb p.n m (h p (inl refl)))) (ap (λ z. record { n = p.n; op = p.op } ∷ z) (filter_low m ps (λ r k. h r (inr k))))

filter_high : (m : ℕ) (ps : List Performed) → ((p : Performed) → In p ps → m ≤ p.n) → filter (λ o. nat_lt o.n m) (listed ps) ≡ []
filter_high m [] h = refl
filter_high m (p ∷ ps) h = subst (λ b. cond b (record { n = p.n; op = p.op } ∷ filter (λ o. nat_lt o.n m) (listed ps)) (filter (λ o. nat_lt o.n m) (listed ps)) ≡ [])
    (sym (le-ltb p.n m (h p (inl refl)))) (filter_high m ps (λ r k. h r (inr k)))

-- what operations at one site do to one of its keys
ran_here : (ps : List Performed) (world : World) (key : Key) → ((p : Performed) → In p ps → (key_of p.op).site ≡ key.site) → fold run_op world (listed ps) key ≡ fold (own_write key.name) (world key) ps
ran_here [] world key h = refl
ran_here (p ∷ ps) world key h = ran_here ps (run_op world (record { n = p.n; op = p.op })) key (λ r k. h r (inr k)) ∙ ap (λ v. fold (own_write key.name) v ps) (one p.op refl)
  where
    one : (op : Op) → p.op ≡ op → run_op world (record { n = p.n; op = p.op }) key ≡ own_write key.name (world key) p
    one (Read k) e = rw e refl
    one (Write k val) e = rw e (subst (λ b. (if b && same_numbers key.name k.name then Value val else world key) ≡ (if same_numbers key.name k.name then Value val else world key))
        (sym (eq-eqb key.site k.site (sym (h p (inl refl)) ∙ ap (λ o. (key_of o).site) e))) refl)

-- the part of a list before and behind one of its operations
turn_before : (steps : List Moment) (b : List Asked) (q : Asked) (c : List Asked) → InTurn steps (b ++ q ∷ c) → (r : Asked) → In r b → r.n < q.n
turn_before steps [] q c turn r h = absurd h
turn_before steps (x ∷ b) q c turn r (inl e) = subst (λ z. z.n < q.n) e (turn.0 q (in_back b (q ∷ c) q (inl refl))).1
turn_before steps (x ∷ b) q c turn r (inr k) = turn_before steps b q c turn.1 r k

turn_behind : (steps : List Moment) (b : List Asked) (q : Asked) (c : List Asked) → InTurn steps (b ++ q ∷ c) → (r : Asked) → In r (q ∷ c) → q.n ≤ r.n
turn_behind steps [] q c turn r (inl e) = subst (λ z. q.n ≤ z.n) e (omega arith)
turn_behind steps [] q c turn r (inr k) = let less = (turn.0 r k).1 in omega arith
turn_behind steps (x ∷ b) q c turn r h = turn_behind steps b q c turn.1 r h

performed_n : (steps : List Moment) (qs : List Asked) (p : Performed) → In p (flat_map (performed_by steps) qs) → (r : Asked) × In r qs × (p.n ≡ r.n) × (p.op ≡ r.op)
performed_n steps qs p h = let f = performed_of steps qs p h in (f.by, f.by_in, f.n, f.op)

-- an answer to a read is what the operations as they are listed find
pub right_seen : (site : ℕ) (life : Life) → Keeps site life → (t : Txn) → is_undecided t life.log ≡ true → (q : Asked) → In q (arrivals site life.steps) → q.txn ≡ t →
    (w : Answer) (more : List Answer) → answers q life.steps ≡ w ∷ more → (key : Key) → q.op ≡ Read key → w ≡ seen_by life.log (listed (done site t life.steps)) q.n key
right_seen site life k t still q h same w more is key e = by (in_split (of_txn t (arrivals site life.steps)) q (filter_in (λ a. same_txn t a.txn) (arrivals site life.steps) q h (same_from t q.txn (sym same))))
  where
    here : (r : Asked) → In r (of_txn t (arrivals site life.steps)) → (key_of r.op).site ≡ site
    here r m = (k.steady.here r (in_filter (λ a. same_txn t a.txn) (arrivals site life.steps) r m).0).0

    at_home : key.site ≡ site
    at_home = ap (λ o. (key_of o).site) (sym e) ∙ (k.steady.here q h).0

    by : (b c : List Asked) × (of_txn t (arrivals site life.steps) ≡ b ++ q ∷ c) → w ≡ seen_by life.log (listed (done site t life.steps)) q.n key
    by s = value ∙ sym (ran_here (flat_map (performed_by life.steps) s.0) (world_of life.log) key keys) ∙ ap (λ ops. fold run_op (world_of life.log) ops key) (sym low)
      where
        turn : InTurn life.steps (s.0 ++ q ∷ s.1)
        turn = subst (λ l. InTurn life.steps l) s.2 (k.steady.turns t)

        fits : Each (AnswerFits (rows_in life.log) (flat_map (performed_by life.steps) s.0)) (performed_by life.steps q)
        fits = right_at (rows_in life.log) life.steps [] s.0 q s.1 (subst (λ l. RightAt (rows_in life.log) life.steps [] l) s.2 (k.right t still))

        value : w ≡ fold (own_write key.name) (rows_in life.log key.name) (flat_map (performed_by life.steps) s.0)
        value =
            let one : performed_by life.steps q ≡ record { n = q.n; op = q.op; answer = w } ∷ [] = rw is refl in
            let f : AnswerFits (rows_in life.log) (flat_map (performed_by life.steps) s.0) (record { n = q.n; op = q.op; answer = w }) =
            (subst (λ l. Each (AnswerFits (rows_in life.log) (flat_map (performed_by life.steps) s.0)) l) one fits).0 in
            subst (λ o. AnswerFits (rows_in life.log) (flat_map (performed_by life.steps) s.0) (record { n = q.n; op = o; answer = w })) e f

        keys : (p : Performed) → In p (flat_map (performed_by life.steps) s.0) → (key_of p.op).site ≡ key.site
        keys p m =
            let r = performed_n life.steps s.0 p m in
            ap (λ o. (key_of o).site) r.3 ∙ here r.0 (subst (λ l. In r.0 l) (sym s.2) (in_front s.0 (q ∷ s.1) r.0 r.1)) ∙ sym at_home

        low : filter (λ o. nat_lt o.n q.n) (listed (done site t life.steps)) ≡ listed (flat_map (performed_by life.steps) s.0)
        low =
            ap (λ l. filter (λ o. nat_lt o.n q.n) (listed (flat_map (performed_by life.steps) l))) s.2
            ∙ ap (λ l. filter (λ o. nat_lt o.n q.n) l) (ap listed (flat_map-append (performed_by life.steps) s.0 (q ∷ s.1)) ∙ listed_both (flat_map (performed_by life.steps) s.0) (flat_map (performed_by life.steps) (q ∷ s.1)))
            ∙ filter-append (λ o. nat_lt o.n q.n) (listed (flat_map (performed_by life.steps) s.0)) (listed (flat_map (performed_by life.steps) (q ∷ s.1)))
            ∙ ap (λ l. l ++ filter (λ o. nat_lt o.n q.n) (listed (flat_map (performed_by life.steps) (q ∷ s.1))))
            (filter_low q.n (flat_map (performed_by life.steps) s.0) (λ p m. (let r = performed_n life.steps s.0 p m in subst (λ z. z < q.n) (sym r.2) (turn_before life.steps s.0 q s.1 turn r.0 r.1))))
            ∙ ap (λ l. listed (flat_map (performed_by life.steps) s.0) ++ l)
            (filter_high q.n (flat_map (performed_by life.steps) (q ∷ s.1)) (λ p m. (let r = performed_n life.steps (q ∷ s.1) p m in subst (λ z. q.n ≤ z) (sym r.2) (turn_behind life.steps s.0 q s.1 turn r.0 r.1))))
            ∙ append-nil (listed (flat_map (performed_by life.steps) s.0))

-- all operations of a transaction that voted were answered
abbrev pub VotersAnswered : ℕ → List Record → List Moment → Type 0
VotersAnswered site records steps = (t : Txn) → has_voted t records ≡ true → (q : Asked) → In q (arrivals site steps) → q.txn ≡ t → is_answered steps q ≡ true

-- the last of a list that stands in turn, where it was not answered
pub last_of : (steps : List Moment) (qs : List Asked) (q : Asked) → InTurn steps qs → In q qs → is_answered steps q ≡ false → (before : List Asked) × (qs ≡ before ++ q ∷ [])
last_of steps [] q turn h none = absurd h
last_of steps (x ∷ qs) q turn (inl e) none = ([], ap (λ l. x ∷ l) (empty qs (λ r k. true≢false (sym (turn.0 r k).0 ∙ ap (is_answered steps) e ∙ none))) ∙ ap (λ z. z ∷ []) e)
  where
    empty : (l : List Asked) → ((r : Asked) → In r l → ⊥) → l ≡ []
    empty [] f = refl
    empty (r ∷ l) f = absurd (f r (inl refl))
last_of steps (x ∷ qs) q turn (inr k) none = let r = last_of steps qs q turn.1 k none in (x ∷ r.0, ap (λ l. x ∷ l) r.1)

-- an answer that a site gave to an operation that came to it: to a read, the first answer
pub record Gave (a : At) (t : Txn) (n : ℕ) (v : Answer) : Type 0 where
  pub asked : Asked
  pub asked_in : In asked (arrivals a.site (a.life.steps ++ moment a ∷ []))
  pub txn : asked.txn ≡ t
  pub n_is : asked.n ≡ n
  pub first : Answer
  pub more : List Answer
  pub answers_are : answers asked (a.life.steps ++ moment a ∷ []) ≡ first ∷ more
  pub value : (key : Key) → asked.op ≡ Read key → v ≡ first

module _ (weights : List ℕ) (a : At) (k : Keeps a.site a.life) (fits : Fits weights a.site a.life a.input) (away : FromAway a.site a.input) (s : Shaped a (step_at a)) where
  -- an answer to an operation among the arrivals, by its cause
  gave_one : (q : Asked) (v : Answer) → In q (arrivals a.site (a.life.steps ++ moment a ∷ [])) → is_answered (a.life.steps ++ moment a ∷ []) q ≡ true → Cause a s.rule q.txn q.n v →
      ((Hearing a q.txn q.n v → ⊥)) → Gave a q.txn q.n v
  gave_one q v h y cause unheard = by (is_answered a.life.steps q) refl
    where
      f : (w : Answer) × (more : List Answer) × (answers q (a.life.steps ++ moment a ∷ []) ≡ w ∷ more)
      f = answered_first (a.life.steps ++ moment a ∷ []) q y

      made : (w : Answer) (more : List Answer) → answers q (a.life.steps ++ moment a ∷ []) ≡ w ∷ more → ((key : Key) → q.op ≡ Read key → v ≡ w) → Gave a q.txn q.n v
      made w more is value = record { asked = q; asked_in = h; txn = refl; n_is = refl; first = w; more = more; answers_are = is; value = value }

      old : (w : Answer) (more : List Answer) → answers q a.life.steps ≡ w ∷ more → Cause a s.rule q.txn q.n v → v ≡ w
      old w more is (Heard x e) = absurd (unheard x)
      old w more is (Locked op l x e) = absurd (let none : answers q a.life.steps ≡ [] = same_answers q (record { txn = q.txn; n = q.n; op = op }) refl refl a.life.steps ∙ l.unanswered in
          let both : [] ≡ w ∷ more = sym none ∙ is in cc)
      old w more is (Repeated x e) = let both : v ∷ x.more ≡ w ∷ more = sym x.answered ∙ same_answers (record { txn = q.txn; n = q.n; op = x.op }) q refl refl a.life.steps ∙ is in cc
      old w more is (Granted g before after split same num x some ruled) = absurd (
          let waits = waits_parts a.site (log_now a s.rule) (steps_now a s.rule) g (granted_waits a s.rule g (subst (λ l. In g l) (sym split) (in_back before (g ∷ after) g (inl refl)))) in
          let yes = answered_more a.life.steps (so_far a s.rule) g (same_answered q g (sym same) (sym num) a.life.steps (answered_from a.life.steps q w more is)) in
          true≢false (sym yes ∙ waits.2))

      behind : (w : Answer) (more : List Answer) → answers q a.life.steps ≡ w ∷ more → (more' : List Answer) × (answers q (a.life.steps ++ moment a ∷ []) ≡ w ∷ more')
      behind w more is = (
        more ++ (flat_map (answer_told q) (step_at a).told ++ flat_map (answer_sent q) (map unnumbered (step_at a).outs)),
        answers_push q a.life.steps (moment a) ∙ ap (λ l. l ++ (flat_map (answer_told q) (step_at a).told ++ flat_map (answer_sent q) (map unnumbered (step_at a).outs))) is,
      )

      by : (b : Bool) → is_answered a.life.steps q ≡ b → Gave a q.txn q.n v
      by true is =
          let g = answered_first a.life.steps q is in
          let z = behind g.0 g.1 g.2 in
          made g.0 z.0 z.1 (λ key e. old g.0 g.1 g.2 cause)
      by false none =
          let last = last_of a.life.steps (of_txn q.txn (arrivals a.site (a.life.steps ++ moment a ∷ []))) q (turns_before weights a (moment a) (is_moment a) k.steady fits q.txn)
          (filter_in (λ x. same_txn q.txn x.txn) (arrivals a.site (a.life.steps ++ moment a ∷ [])) q h (same_from q.txn q.txn refl)) none in
          made f.0 f.1 f.2 (λ key e.
          why_value weights a k.steady fits away k.known k.apart k.right s last.0 q v last.1 key e (cause_why weights a k.steady fits away s q v h none cause)
          ∙ sym (why_value weights a k.steady fits away k.known k.apart k.right s last.0 q f.0 last.1 key e (new_why weights a k.steady fits away s q f.0 f.1 h none f.2)))

  -- an operation that comes in this step and was answered before is among the arrivals before it
  repeated_came : (t : Txn) (n : ℕ) (v : Answer) → Repeating a t n v → (r : Asked) × In r (arrivals a.site a.life.steps) × (r.txn ≡ t) × (r.n ≡ n)
  repeated_came t n v x = elim (k.known (record { txn = t; n = n; op = x.op }) (answered_from a.life.steps (record { txn = t; n = n; op = x.op }) v x.more x.answered)) [
    | inl c ↦ (c.asked, c.asked_in, c.txn, c.n)
    | inr e ↦ absurd (elsewhere e x.comes.how)
  ]
    where
      elsewhere : Elsewhere a.site a.life.steps (record { txn = t; n = n; op = x.op }) →
          ((packet : Packet) × (a.input ≡ input.Deliver packet) × (packet.msg ≡ msg.Do t n x.op)) ⊎ ((a.input ≡ input.Do t x.op) × (refuse a t false nothing ≡ None) × (n ≡ suc (length (issued t a.life.steps))) × ((key_of x.op).site ≡ a.site)) → ⊥
      elsewhere e (inl p) =
          let f : FitsPacket weights a.site a.life p.0 = subst (λ i. Fits weights a.site a.life i) p.1 fits in
          let d : FitsDo a.site a.life p.0.«from» t n x.op = subst (λ m. FitsMessage a.site a.life p.0.«from» m) p.2 f.message in
          let from_away : (p.0.«from» == a.site) ≡ false = subst (λ i. FromAway a.site i) p.1 away in
          true≢false (sym (eq-eqb p.0.«from» a.site (d.coordinator ∙ e.own)) ∙ from_away)
      elsewhere e (inr p) = let low = nth_low n (issued t a.life.steps) e.op e.nth in let num : n ≡ suc (length (issued t a.life.steps)) = p.2 in absurd (omega arith)

  -- what a cause gave, where it was not heard
  pub gave : (t : Txn) (n : ℕ) (v : Answer) → Cause a s.rule t n v → ((q : Asked) → q.txn ≡ t → q.n ≡ n → is_answered (a.life.steps ++ moment a ∷ []) q ≡ true) → Hearing a t n v ⊎ Gave a t n v
  gave t n v cause answered = by cause
    where
      to : (q : Asked) → In q (arrivals a.site (a.life.steps ++ moment a ∷ [])) → q.txn ≡ t → q.n ≡ n → (Hearing a t n v → ⊥) → Gave a t n v
      to q h same num unheard =
          subst (λ z. Gave a z n v) same (subst (λ z. Gave a q.txn z v) num
          (gave_one q v h (answered q same num) (subst (λ z. Cause a s.rule q.txn z v) (sym num) (subst (λ z. Cause a s.rule z n v) (sym same) cause))
          (λ x. unheard (subst (λ z. Hearing a t z v) num (subst (λ z. Hearing a z q.n v) same x)))))

      by : Cause a s.rule t n v → Hearing a t n v ⊎ Gave a t n v
      by (Heard x e) = inl x
      by (Locked op l x e) = inr (to (record { txn = t; n = n; op = op }) (lock_arrives a t n op (shaped_calm a (step_at a) s) l) refl refl (λ hearing. locked_not l hearing))
        where
          locked_not : Locking a t n op → Hearing a t n v → ⊥
          locked_not l hearing = input_apart (l.comes.how) hearing
            where
              input_apart : ((packet : Packet) × (a.input ≡ input.Deliver packet) × (packet.msg ≡ msg.Do t n op)) ⊎ ((a.input ≡ input.Do t op) × (refuse a t false nothing ≡ None) × (n ≡ suc (length (issued t a.life.steps))) × ((key_of op).site ≡ a.site)) → Hearing a t n v → ⊥
              input_apart (inl p) g =
                  let same : input.Deliver p.0 ≡ input.Deliver g.packet = sym p.1 ∙ g.takes in
                  let one : p.0 ≡ g.packet = cc in
                  let says : msg.Do t n op ≡ msg.Done t n g.inc v = sym p.2 ∙ ap (λ (z : Packet). z.msg) one ∙ g.says in cc
              input_apart (inr p) g = let same : input.Do t op ≡ input.Deliver g.packet = sym p.0 ∙ g.takes in cc
      by (Repeated x e) =
          let r = repeated_came t n v x in
          inr (to r.0 (arrivals_stay a.site a.life.steps (moment a) r.0 r.1) r.2 r.3 (λ hearing. repeated_not x hearing))
        where
          repeated_not : Repeating a t n v → Hearing a t n v → ⊥
          repeated_not x g = input_apart x.comes.how
            where
              input_apart : ((packet : Packet) × (a.input ≡ input.Deliver packet) × (packet.msg ≡ msg.Do t n x.op)) ⊎ ((a.input ≡ input.Do t x.op) × (refuse a t false nothing ≡ None) × (n ≡ suc (length (issued t a.life.steps))) × ((key_of x.op).site ≡ a.site)) → ⊥
              input_apart (inl p) =
                  let same : input.Deliver p.0 ≡ input.Deliver g.packet = sym p.1 ∙ g.takes in
                  let one : p.0 ≡ g.packet = cc in
                  let says : msg.Do t n x.op ≡ msg.Done t n g.inc v = sym p.2 ∙ ap (λ (z : Packet). z.msg) one ∙ g.says in cc
              input_apart (inr p) = let same : input.Do t x.op ≡ input.Deliver g.packet = sym p.0 ∙ g.takes in cc
      by (Granted g before after split same num x some ruled) =
          let h = granted_arrived weights a k.steady fits away s g (subst (λ l. In g l) (sym split) (in_back before (g ∷ after) g (inl refl))) in
          inr (to g h same num (λ hearing. (let z = heard_elsewhere weights a k.steady fits away s t n v hearing in
          let st = steady_push weights a (moment a) (is_moment a) k.steady fits in
          let nth : nth_op n (issued t (a.life.steps ++ moment a ∷ [])) ≡ Some g.op = subst (λ u. nth_op n (issued u (a.life.steps ++ moment a ∷ [])) ≡ Some g.op) same
          (subst (λ m. nth_op m (issued g.txn (a.life.steps ++ moment a ∷ [])) ≡ Some g.op) num (st.nth g h (ap (λ (u : Txn). u.site) same ∙ z.0))) in
          z.3 (ap (λ o. (key_of o).site) (some_inj z.1 g.op (sym z.2 ∙ nth)) ∙ (st.here g h).0))))
