-- The moment of a step: its arrivals, and why an operation is answered in it.
use Rattle.std.proofs.Common.{◌≡◌, ◌⊎◌, inl, inr, ◌==◌, ◌&&◌, ◌++◌, ◌∷◌, [], ℕ, zero, suc, Bool, true, false, not, List, Option, Some, None, length, fold, map, take, drop, refl, sym, subst, ap, ◌∙◌, if◌then◌else◌, eqb-true, eq-eqb}
use Rattle.std.specs.List.{list_any, flat_map, AllByRecursion as Each}
use Rattle.std.proofs.lemmas.Bool.{and_parts, and_from, or_from, true≢false, false_from_ne_true}
use Rattle.e3_types.specs.declared.entries.Input.{Input}
use Rattle.e3_types.specs.declared.entries.Input.TheVariants as input
use Rattle.e3_types.specs.declared.entries.Refusal.{Refusal}
use Rattle.e3_types.specs.declared.entries.Told.{Told}
use Rattle.e3_types.specs.declared.entries.Told.TheVariants as told
use Rattle.e3_types.specs.declared.messages.Message.{Message}
use Rattle.e3_types.specs.declared.messages.Message.TheVariants as msg
use Rattle.e3_types.specs.declared.messages.Packet.{Packet}
use Rattle.e3_types.specs.declared.records.Record.{Record}
use Rattle.e3_types.specs.declared.transactions.Answer.{Answer}
use Rattle.e3_types.specs.declared.transactions.Op.{Op}
use Rattle.e3_types.specs.declared.transactions.Txn.{Txn}
use Rattle.e3_types.specs.Same.{same_txn, same_numbers}
use Rattle.e3_laws.proofs.agreement.Refinement.Lists.{same_from}
use Rattle.e3_world.specs.declared.lives.Asked.{Asked}
use Rattle.e3_world.specs.declared.lives.At.{At}
use Rattle.e3_world.specs.declared.lives.Made.{Made}
use Rattle.e3_world.specs.declared.lives.Moment.{Moment}
use Rattle.e3_world.specs.Logs.{is_undecided, key_of}
use Rattle.e3_world.specs.Making.{nothing, log_now, steps_now, and_send, answer_now, and_do, names_of, asked_on, granted_on, grants_after, decides, and_grant, and_grants}
use Rattle.e3_world.specs.Operations.{is_refusal, issued, issued_in, nth_op, taken_up, same_asked, is_fresh, and_arrived, arrivals, answer_told, answer_sent, answers, is_answered, waiting}
use Rattle.e3_world.specs.Sound.{Fits}
use Rattle.e3_world.specs.Steps.{refuse, or_refused, on_input, settle, step_at}
use Rattle.e3_laws.proofs.serial.Step.Rules.{IsNews, Hearing, Comes, Locking, Ruled, Start, Notes, Decides, Votes, Tells, Says, Asks, Issues, Rule, Otherwise, Hears, Locks, Repeats, TellsOwn, Shaped}
use Rattle.e3_laws.proofs.serial.Lists.Entries.{In}
use Rattle.e3_laws.proofs.serial.Lists.Members.{in_append, in_back, in_filter, filter_in}
use Rattle.e3_laws.proofs.serial.Step.Shapes.{FromAway}
use Rattle.e3_laws.proofs.serial.Step.Arrivals.{arrivals_push, answers_push, answered_from, answered_first, unanswered_none, turn_same, of_txn, Steady}
use Rattle.e3_laws.proofs.serial.Step.Steadying.{some_inj, in_any, IsMoment, turns_before, steady_push}
use Rattle.e3_laws.proofs.serial.Step.Answering.{Cause, Heard, Locked, Repeated, Granted, told_cause, sent_cause}
use Rattle.e3_world.specs.Moves.{unnumbered}
use Rattle.e3_laws.proofs.steps.Each.{each-append, each-push}
use Rattle.e3_laws.proofs.steps.Adding.{idle_open}
use Rattle.e3_laws.proofs.steps.Tests.{same_is}
use Rattle.e3_laws.proofs.steps.Operations.Issuing.{issued_push}

-- the moment of the step at a place, as it is kept
abbrev pub moment : At → Moment
moment a = record { before = a.life.log; input = a.input; records = (step_at a).records; outs = map unnumbered (step_at a).outs; told = (step_at a).told }

-- the moment of a step as far as it is made
abbrev pub so_far : At → Made → Moment
so_far a made = record { before = a.life.log; input = a.input; records = made.records; outs = made.outs; told = made.told }

-- an operation that is refused is told so
refused_told : (a : At) (t : Txn) (op : Op) (why : Refusal) → a.input ≡ input.Do t op → refuse a t false nothing ≡ Some why → (step_at a).told ≡ told.Refused t why ∷ []
refused_told a t op why takes is =
    ap (λ i. (settle 3 a (and_grants a 0 (on_input a i nothing))).told) takes
    ∙ ap (λ o. (settle 3 a (and_grants a 0 (Rattle.e3_world.specs.Steps.or_refused t o (and_send a (key_of op).site (msg.Do t (suc (length (issued t a.life.steps))) op) nothing)))).told) is

pub calm_allowed : (a : At) (t : Txn) (op : Op) → a.input ≡ input.Do t op → list_any is_refusal (step_at a).told ≡ false → refuse a t false nothing ≡ None
calm_allowed a t op takes calm = by (refuse a t false nothing) refl
  where
    by : (o : Option Refusal) → refuse a t false nothing ≡ o → refuse a t false nothing ≡ None
    by None is = is
    by (Some why) is = absurd (true≢false (sym (ap (λ l. list_any is_refusal l) (refused_told a t op why takes is)) ∙ calm))

pub is_moment : (a : At) → IsMoment a (moment a)
is_moment a = record { before = refl; same_input = refl; allowed = λ t op takes calm. calm_allowed a t op takes calm }

-- the event is no refusal
abbrev Calm : Told → Type 0
Calm e = is_refusal e ≡ false

calm_all : (l : List Told) → Each Calm l → list_any is_refusal l ≡ false
calm_all [] all = refl
calm_all (e ∷ l) all = or_from (is_refusal e) (list_any is_refusal l) all.0 (calm_all l all.1)

news_calm : (e : Told) → IsNews e → Calm e
news_calm (told.Op t n answer) news = absurd news
news_calm (told.Refused t why) news = absurd news
news_calm (told.Began t) news = refl
news_calm (told.Ended t dir) news = refl
news_calm (told.Died t older) news = refl
news_calm (told.Doomed t site had now) news = refl
news_calm (told.Verdict t n v) news = refl
news_calm (told.Kept t st) news = refl

pub sent_told : (a : At) (to : ℕ) (m : Message) (made : Made) → (and_send a to m made).told ≡ made.told
sent_told a to m made = by (to == a.site) refl
  where
    by : (b : Bool) → (to == a.site) ≡ b → (and_send a to m made).told ≡ made.told
    by true is = rw is refl
    by false is = rw is refl

pub sent_records : (a : At) (to : ℕ) (m : Message) (made : Made) → (and_send a to m made).records ≡ made.records
sent_records a to m made = by (to == a.site) refl
  where
    by : (b : Bool) → (to == a.site) ≡ b → (and_send a to m made).records ≡ made.records
    by true is = rw is refl
    by false is = rw is refl

ruled_calm : (a : At) (made : Made) → Ruled a made → Each Calm made.told
ruled_calm a _ Start = tt
ruled_calm a _ (Notes r made note k) = ruled_calm a made k
ruled_calm a _ (Decides t dir made still k) = ruled_calm a made k
ruled_calm a _ (Votes t idle cause) = tt
ruled_calm a _ (Tells e made news k) = each-push Calm made.told e (ruled_calm a made k) (news_calm e news)
ruled_calm a _ (Says to m made away word k) = subst (λ l. Each Calm l) (sym (sent_told a to m made)) (ruled_calm a made k)
ruled_calm a _ (Asks to t made away commits voted k) = subst (λ l. Each Calm l) (sym (sent_told a to _ made)) (ruled_calm a made k)
ruled_calm a _ (Issues to t op away takes allowed) = subst (λ l. Each Calm l) (sym (sent_told a to _ nothing)) tt

rule_calm : (a : At) (rule : Made) → Rule a rule → Each Calm rule.told
rule_calm a _ (Otherwise made k) = ruled_calm a made k
rule_calm a _ (Hears t n v k) = (refl, tt)
rule_calm a _ (Locks t n op k) = subst (λ l. Each Calm l) (sym (sent_told a t.site _ nothing)) tt
rule_calm a _ (Repeats t n v k) = subst (λ l. Each Calm l) (sym (sent_told a t.site _ nothing)) tt

pub grants_keep : (a : At) (qs : List Asked) (made : Made) → ((fold (and_grant a) made qs).records ≡ made.records) × ((fold (and_grant a) made qs).told ≡ made.told)
grants_keep a [] made = (refl, refl)
grants_keep a (q ∷ qs) made =
    let r = grants_keep a qs (and_grant a made q) in
    (r.0 ∙ sent_records a q.txn.site _ made, r.1 ∙ sent_told a q.txn.site _ made)

pub grants_made : (a : At) (made : Made) → ((and_grants a 0 made).records ≡ made.records) × ((and_grants a 0 made).told ≡ made.told)
grants_made a made = by (list_any decides (drop 0 made.records)) refl
  where
    by : (b : Bool) → list_any decides (drop 0 made.records) ≡ b → ((and_grants a 0 made).records ≡ made.records) × ((and_grants a 0 made).told ≡ made.told)
    by true is =
        let e : and_grants a 0 made ≡ fold (and_grant a) made (grants_after a made) = rw is refl in
        let r = grants_keep a (grants_after a made) made in
        (ap (λ (z : Made). z.records) e ∙ r.0, ap (λ (z : Made). z.told) e ∙ r.1)
    by false is =
        let e : and_grants a 0 made ≡ made = rw is refl in
        (ap (λ (z : Made). z.records) e, ap (λ (z : Made). z.told) e)

own_calm : (own : List Message) (es : List Told) → Each (TellsOwn own) es → Each Calm es
own_calm own [] all = tt
own_calm own (e ∷ es) all = (subst (λ z. Calm z) (sym all.0.4) refl, own_calm own es all.1)

pub shaped_calm : (a : At) (made : Made) → Shaped a made → list_any is_refusal made.told ≡ false
shaped_calm a made s = calm_all made.told (subst (λ l. Each Calm l) (sym s.told)
    (each-append Calm (and_grants a 0 s.rule).told s.events (subst (λ l. Each Calm l) (sym (grants_made a s.rule).1) (rule_calm a s.rule s.ruled)) (own_calm _ s.events s.from_own)))

pub so_far_calm : (a : At) (rule : Made) → Rule a rule → list_any is_refusal rule.told ≡ false
so_far_calm a rule k = calm_all rule.told (rule_calm a rule k)

-- what is issued and taken up does not depend on what else a calm step tells
calm_issued : (t : Txn) (i : Input) (l : List Told) → list_any is_refusal l ≡ false → issued_in t i l ≡ issued_in t i []
calm_issued t (input.Do u op) l calm = rw calm refl
calm_issued t (input.Begin sites) l calm = refl
calm_issued t (input.Commit u) l calm = refl
calm_issued t (input.Cancel u) l calm = refl
calm_issued t (input.Expire u) l calm = refl
calm_issued t (input.Elect u group) l calm = refl
calm_issued t (input.Deliver p) l calm = refl

pub issued_calm : (t : Txn) (steps : List Moment) (m k : Moment) → m.input ≡ k.input → list_any is_refusal m.told ≡ false → list_any is_refusal k.told ≡ false →
    issued t (steps ++ m ∷ []) ≡ issued t (steps ++ k ∷ [])
issued_calm t steps m k same calm still =
    issued_push t steps m ∙ ap (λ l. issued t steps ++ l) (calm_issued t m.input m.told calm ∙ ap (λ i. issued_in t i []) same ∙ sym (calm_issued t k.input k.told still)) ∙ sym (issued_push t steps k)

taken_calm : (site : ℕ) (steps : List Moment) (m : Moment) → list_any is_refusal m.told ≡ false → taken_up site steps m ≡ taken_up site steps (record m { told = [] })
taken_calm site steps m calm = by m.input refl
  where
    by : (i : Input) → m.input ≡ i → taken_up site steps m ≡ taken_up site steps (record m { told = [] })
    by (input.Do t op) is = rw (is, calm_issued t (input.Do t op) m.told calm) refl
    by (input.Begin sites) is = rw is refl
    by (input.Commit u) is = rw is refl
    by (input.Cancel u) is = rw is refl
    by (input.Expire u) is = rw is refl
    by (input.Elect u group) is = rw is refl
    by (input.Deliver p) is = rw is refl

-- the arrivals of a step that is calm are known before it ends
pub arrivals_calm : (a : At) (rule : Made) → Rule a rule → list_any is_refusal (step_at a).told ≡ false →
    arrivals a.site (a.life.steps ++ moment a ∷ []) ≡ arrivals a.site (steps_now a rule)
arrivals_calm a rule k calm =
    arrivals_push a.site a.life.steps (moment a)
    ∙ ap (λ o. and_arrived (arrivals a.site a.life.steps) (moment a) o) (taken_calm a.site a.life.steps (moment a) calm ∙ sym (taken_calm a.site a.life.steps (so_far a rule) (so_far_calm a rule k)))
    ∙ sym (arrivals_push a.site a.life.steps (so_far a rule))

pub arrivals_so_far : (a : At) (made : Made) → list_any is_refusal made.told ≡ false → list_any is_refusal (step_at a).told ≡ false →
    arrivals a.site (a.life.steps ++ moment a ∷ []) ≡ arrivals a.site (steps_now a made)
arrivals_so_far a made still calm =
    arrivals_push a.site a.life.steps (moment a)
    ∙ ap (λ o. and_arrived (arrivals a.site a.life.steps) (moment a) o) (taken_calm a.site a.life.steps (moment a) calm ∙ sym (taken_calm a.site a.life.steps (so_far a made) still))
    ∙ sym (arrivals_push a.site a.life.steps (so_far a made))

-- answers are by number and transaction
told_same : (q r : Asked) → q.txn ≡ r.txn → q.n ≡ r.n → (l : List Told) → flat_map (answer_told q) l ≡ flat_map (answer_told r) l
told_same q r same num [] = refl
told_same q r same num (e ∷ l) = λ i. one e i ++ told_same q r same num l i
  where
    one : (e : Told) → answer_told q e ≡ answer_told r e
    one (told.Op t n answer) = λ i. (if num i == n && same_txn (same i) t then answer ∷ [] else [])
    one (told.Began t) = refl
    one (told.Ended t dir) = refl
    one (told.Died t older) = refl
    one (told.Doomed t site had now) = refl
    one (told.Refused t why) = refl
    one (told.Verdict t n v) = refl
    one (told.Kept t st) = refl

sent_same : (q r : Asked) → q.txn ≡ r.txn → q.n ≡ r.n → (l : List Packet) → flat_map (answer_sent q) l ≡ flat_map (answer_sent r) l
sent_same q r same num [] = refl
sent_same q r same num (p ∷ l) = λ i. one p.msg refl i ++ sent_same q r same num l i
  where
    one : (m : Message) → p.msg ≡ m → answer_sent q p ≡ answer_sent r p
    one (msg.Done t n inc answer) is = rw is (λ i. (if num i == n && same_txn (same i) t then answer ∷ [] else []))
    one (msg.Do t n op) is = rw is refl
    one (msg.Died t n older) is = rw is refl
    one (msg.Ask t call) is = rw is refl
    one (msg.LastElected t call elected) is = rw is refl
    one (msg.Elected t n) is = rw is refl
    one (msg.Report t n st attempt) is = rw is refl
    one (msg.VoteReq t inc count) is = rw is refl
    one (msg.Vote t said) is = rw is refl
    one (msg.Pre t n dir) is = rw is refl
    one (msg.Ack t n dir) is = rw is refl
    one (msg.Decide t dir) is = rw is refl

pub same_answers : (q r : Asked) → q.txn ≡ r.txn → q.n ≡ r.n → (steps : List Moment) → answers q steps ≡ answers r steps
same_answers q r same num [] = refl
same_answers q r same num (m ∷ steps) = λ i. (told_same q r same num m.told i ++ sent_same q r same num m.outs i) ++ same_answers q r same num steps i

pub same_answered : (q r : Asked) → q.txn ≡ r.txn → q.n ≡ r.n → (steps : List Moment) → is_answered steps q ≡ true → is_answered steps r ≡ true
same_answered q r same num steps h = let f = answered_first steps q h in answered_from steps r f.0 f.1 (sym (same_answers q r same num steps) ∙ f.2)

-- which answers a moment has
told_in : (q : Asked) (l : List Told) (v : Answer) → In v (flat_map (answer_told q) l) → In (told.Op q.txn q.n v) l
told_in q [] v h = absurd h
told_in q (told.Op t n answer ∷ l) v h = by (q.n == n && same_txn q.txn t) refl h (told_in q l v)
  where
    by : (b : Bool) → (q.n == n && same_txn q.txn t) ≡ b → In v ((if b then answer ∷ [] else []) ++ flat_map (answer_told q) l) → (In v (flat_map (answer_told q) l) → In (told.Op q.txn q.n v) l) →
        In (told.Op q.txn q.n v) (told.Op t n answer ∷ l)
    by true is (inl e) ih =
        let p = and_parts (q.n == n) (same_txn q.txn t) is in
        let x = same_is q.txn t p.1 in let y = eqb-true q.n n p.0 in inl (λ i. told.Op (sym x i) (sym y i) (e i))
    by true is (inr k) ih = inr (ih k)
    by false is k ih = inr (ih k)
told_in q (told.Began t ∷ l) v h = inr (told_in q l v h)
told_in q (told.Ended t dir ∷ l) v h = inr (told_in q l v h)
told_in q (told.Died t older ∷ l) v h = inr (told_in q l v h)
told_in q (told.Doomed t site had now ∷ l) v h = inr (told_in q l v h)
told_in q (told.Refused t why ∷ l) v h = inr (told_in q l v h)
told_in q (told.Verdict t n x ∷ l) v h = inr (told_in q l v h)
told_in q (told.Kept t st ∷ l) v h = inr (told_in q l v h)

sent_in : (q : Asked) (l : List Packet) (v : Answer) → In v (flat_map (answer_sent q) (map unnumbered l)) → (p : Packet) × (inc : ℕ) × In p l × (p.msg ≡ msg.Done q.txn q.n inc v)
sent_in q [] v h = absurd h
sent_in q (p ∷ l) v h = by p.msg refl (in_append (answer_sent q (unnumbered p)) (flat_map (answer_sent q) (map unnumbered l)) v h) (sent_in q l v)
  where
    later : (x : Packet) × (inc : ℕ) × In x l × (x.msg ≡ msg.Done q.txn q.n inc v) → (x : Packet) × (inc : ℕ) × In x (p ∷ l) × (x.msg ≡ msg.Done q.txn q.n inc v)
    later z = (z.0, z.1, inr z.2, z.3)

    nothing_here : (m : Message) → p.msg ≡ m → answer_sent q (unnumbered p) ≡ [] → In v (answer_sent q (unnumbered p)) → (x : Packet) × (inc : ℕ) × In x (p ∷ l) × (x.msg ≡ msg.Done q.txn q.n inc v)
    nothing_here m is e k = absurd (subst (λ z. In v z) e k)

    here : (t : Txn) (n inc : ℕ) (answer : Answer) → p.msg ≡ msg.Done t n inc answer → (b : Bool) → (q.n == n && same_txn q.txn t) ≡ b → In v (if b then answer ∷ [] else []) →
        (x : Packet) × (inc : ℕ) × In x (p ∷ l) × (x.msg ≡ msg.Done q.txn q.n inc v)
    here t n inc answer is true test (inl e) =
        let w = and_parts (q.n == n) (same_txn q.txn t) test in
        let x = same_is q.txn t w.1 in let y = eqb-true q.n n w.0 in
        (p, inc, inl refl, is ∙ (λ i. msg.Done (sym x i) (sym y i) inc (e i)))
    here t n inc answer is true test (inr k) = absurd k
    here t n inc answer is false test k = absurd k

    by : (m : Message) → p.msg ≡ m → In v (answer_sent q (unnumbered p)) ⊎ In v (flat_map (answer_sent q) (map unnumbered l)) →
        (In v (flat_map (answer_sent q) (map unnumbered l)) → (x : Packet) × (inc : ℕ) × In x l × (x.msg ≡ msg.Done q.txn q.n inc v)) → (x : Packet) × (inc : ℕ) × In x (p ∷ l) × (x.msg ≡ msg.Done q.txn q.n inc v)
    by m is (inr k) ih = later (ih k)
    by (msg.Done t n inc answer) is (inl k) ih = here t n inc answer is (q.n == n && same_txn q.txn t) refl (subst (λ z. In v z) (let e : answer_sent q (unnumbered p) ≡ (if q.n == n && same_txn q.txn t then answer ∷ [] else []) = rw is refl in e) k)
    by (msg.Do t n op) is (inl k) ih = nothing_here (msg.Do t n op) is (rw is refl) k
    by (msg.Died t n older) is (inl k) ih = nothing_here (msg.Died t n older) is (rw is refl) k
    by (msg.Ask t call) is (inl k) ih = nothing_here (msg.Ask t call) is (rw is refl) k
    by (msg.LastElected t call elected) is (inl k) ih = nothing_here (msg.LastElected t call elected) is (rw is refl) k
    by (msg.Elected t n) is (inl k) ih = nothing_here (msg.Elected t n) is (rw is refl) k
    by (msg.Report t n st attempt) is (inl k) ih = nothing_here (msg.Report t n st attempt) is (rw is refl) k
    by (msg.VoteReq t inc count) is (inl k) ih = nothing_here (msg.VoteReq t inc count) is (rw is refl) k
    by (msg.Vote t said) is (inl k) ih = nothing_here (msg.Vote t said) is (rw is refl) k
    by (msg.Pre t n dir) is (inl k) ih = nothing_here (msg.Pre t n dir) is (rw is refl) k
    by (msg.Ack t n dir) is (inl k) ih = nothing_here (msg.Ack t n dir) is (rw is refl) k
    by (msg.Decide t dir) is (inl k) ih = nothing_here (msg.Decide t dir) is (rw is refl) k

-- an operation that is answered in a step first, with the cause
pub newly : (a : At) (s : Shaped a (step_at a)) (q : Asked) (v : Answer) (more : List Answer) → is_answered a.life.steps q ≡ false → answers q (a.life.steps ++ moment a ∷ []) ≡ v ∷ more →
    Cause a s.rule q.txn q.n v
newly a s q v more none is =
    by (in_append (flat_map (answer_told q) (step_at a).told) (flat_map (answer_sent q) (map unnumbered (step_at a).outs)) v (subst (λ l. In v l) (sym now) (inl refl)))
  where
    now : flat_map (answer_told q) (step_at a).told ++ flat_map (answer_sent q) (map unnumbered (step_at a).outs) ≡ v ∷ more
    now = ap (λ l. l ++ (flat_map (answer_told q) (step_at a).told ++ flat_map (answer_sent q) (map unnumbered (step_at a).outs))) (sym (unanswered_none a.life.steps q none)) ∙ sym (answers_push q a.life.steps (moment a)) ∙ is

    by : In v (flat_map (answer_told q) (step_at a).told) ⊎ In v (flat_map (answer_sent q) (map unnumbered (step_at a).outs)) → Cause a s.rule q.txn q.n v
    by (inl k) = told_cause a (step_at a) s q.txn q.n v (told_in q (step_at a).told v k)
    by (inr k) = let p = sent_in q (step_at a).outs v k in sent_cause a (step_at a) s q.txn q.n p.1 v p.0 p.2 p.3

-- a request that waits
pub waits_parts : (site : ℕ) (records : List Record) (steps : List Moment) (q : Asked) → In q (waiting site records steps) →
    In q (arrivals site steps) × (is_undecided q.txn records ≡ true) × (is_answered steps q ≡ false)
waits_parts site records steps q h =
    let p = in_filter (λ a. is_undecided a.txn records && not (is_answered steps a)) (arrivals site steps) q h in
    let r = and_parts (is_undecided q.txn records) (not (is_answered steps q)) p.1 in
    (p.0, r.0, turned (is_answered steps q) r.1)
  where
    turned : (b : Bool) → not b ≡ true → b ≡ false
    turned true e = absurd (true≢false (sym e))
    turned false e = refl

pub in_flat : {X Y : Type 0} (f : X → List Y) (xs : List X) (y : Y) → In y (flat_map f xs) → (x : X) × In x xs × In y (f x)
in_flat f [] y h = absurd h
in_flat f (x ∷ xs) y h = go (in_append (f x) (flat_map f xs) y h) (in_flat f xs y)
  where
    go : In y (f x) ⊎ In y (flat_map f xs) → (In y (flat_map f xs) → (z : _) × In z xs × In y (f z)) → (z : _) × In z (x ∷ xs) × In y (f z)
    go (inl k) ih = (x, inl refl, k)
    go (inr k) ih = let r = ih k in (r.0, inr r.1, r.2)

pub in_take : {X : Type 0} (n : ℕ) (xs : List X) (x : X) → In x (take n xs) → In x xs
in_take zero xs x h = absurd h
in_take (suc n) [] x h = absurd h
in_take (suc n) (y ∷ xs) x (inl e) = inl e
in_take (suc n) (y ∷ xs) x (inr k) = inr (in_take n xs x k)

-- a request that is granted waits
pub granted_waits : (a : At) (made : Made) (q : Asked) → In q (grants_after a made) → In q (waiting a.site (log_now a made) (steps_now a made))
granted_waits a made q h =
    let waits : List Asked = waiting a.site (log_now a made) (steps_now a made) in
    let r = in_flat (granted_on a made waits) (names_of waits) q h in
    (in_filter (λ q. same_numbers r.0 (key_of q.op).name) waits q (in_take _ (asked_on r.0 waits) q r.2)).0

-- an operation that comes is taken up
pub comes_taken : (a : At) (t : Txn) (n : ℕ) (op : Op) → list_any is_refusal (step_at a).told ≡ false → Comes a t n op →
    taken_up a.site a.life.steps (moment a) ≡ Some (record { txn = t; n = n; op = op })
comes_taken a t n op calm comes = by comes.how
  where
    packet_case : (packet : Packet) → a.input ≡ input.Deliver packet → packet.msg ≡ msg.Do t n op → taken_up a.site a.life.steps (record (moment a) { told = [] }) ≡ Some (record { txn = t; n = n; op = op })
    packet_case packet takes says = up (moment a) takes
      where
        up : (m : Moment) → m.input ≡ input.Deliver packet → taken_up a.site a.life.steps (record m { told = [] }) ≡ Some (record { txn = t; n = n; op = op })
        up m is = rw (is, says) refl

    own_case : a.input ≡ input.Do t op → n ≡ suc (length (issued t a.life.steps)) → (key_of op).site ≡ a.site → taken_up a.site a.life.steps (record (moment a) { told = [] }) ≡ Some (record { txn = t; n = n; op = op })
    own_case takes number here = up (moment a) takes
      where
        up : (m : Moment) → m.input ≡ input.Do t op → taken_up a.site a.life.steps (record m { told = [] }) ≡ Some (record { txn = t; n = n; op = op })
        up m is = rw (is, same_from t t refl, eq-eqb (key_of op).site a.site here) (ap (λ z. Some (record { txn = t; n = z; op = op })) (sym number))

    by : ((packet : Packet) × (a.input ≡ input.Deliver packet) × (packet.msg ≡ msg.Do t n op))
        ⊎ ((a.input ≡ input.Do t op) × (refuse a t false nothing ≡ None) × (n ≡ suc (length (issued t a.life.steps))) × ((key_of op).site ≡ a.site)) →
        taken_up a.site a.life.steps (moment a) ≡ Some (record { txn = t; n = n; op = op })
    by (inl k) = taken_calm a.site a.life.steps (moment a) calm ∙ packet_case k.0 k.1 k.2
    by (inr k) = taken_calm a.site a.life.steps (moment a) calm ∙ own_case k.0 k.2 k.3

-- an operation that gets its lock did not come before
pub lock_absent : (a : At) (t : Txn) (n : ℕ) (op : Op) → Locking a t n op → (r : Asked) → In r (arrivals a.site a.life.steps) → r.txn ≡ t → r.n ≡ n → ⊥
lock_absent a t n op l r h same num = true≢false (sym (in_any (same_asked (record { txn = t; n = n; op = op })) (waiting a.site (log_now a nothing) a.life.steps) r waits test) ∙ l.absent)
  where
    test : (n == r.n && same_txn t r.txn) ≡ true
    test = and_from (n == r.n) (same_txn t r.txn) (eq-eqb n r.n (sym num)) (same_from t r.txn (sym same))

    open_yet : is_answered a.life.steps r ≡ false
    open_yet = false_from_ne_true (is_answered a.life.steps r) (λ y.
        (let f = answered_first a.life.steps r y in
        let e : answers r a.life.steps ≡ [] = same_answers r (record { txn = t; n = n; op = op }) same num a.life.steps ∙ l.unanswered in
        let both : [] ≡ f.0 ∷ f.1 = sym e ∙ f.2 in cc))

    waits : In r (waiting a.site (log_now a nothing) a.life.steps)
    waits = filter_in (λ a'. is_undecided a'.txn (log_now a nothing) && not (is_answered a.life.steps a')) (arrivals a.site a.life.steps) r h
        (and_from (is_undecided r.txn (log_now a nothing)) (not (is_answered a.life.steps r))
        (subst (λ u. is_undecided u (log_now a nothing) ≡ true) (sym same) (idle_open t (log_now a nothing) l.idle)) (ap not open_yet))

-- what is among the arrivals of a step and was not before is what the step takes up
pub new_taken : (a : At) (q : Asked) → In q (arrivals a.site (a.life.steps ++ moment a ∷ [])) → (In q (arrivals a.site a.life.steps) → ⊥) → taken_up a.site a.life.steps (moment a) ≡ Some q
new_taken a q h fresh = by (taken_up a.site a.life.steps (moment a)) (subst (λ l. In q l) (arrivals_push a.site a.life.steps (moment a)) h)
  where
    by : (o : Option Asked) → In q (and_arrived (arrivals a.site a.life.steps) (moment a) o) → o ≡ Some q
    by None k = absurd (fresh k)
    by (Some x) k = go (is_fresh (arrivals a.site a.life.steps) (moment a) x) k
      where
        last : In q (arrivals a.site a.life.steps) ⊎ In q (x ∷ []) → Some x ≡ Some q
        last (inl old) = absurd (fresh old)
        last (inr (inl e)) = ap Some e
        last (inr (inr none)) = absurd none

        go : (b : Bool) → In q (if b then arrivals a.site a.life.steps ++ x ∷ [] else arrivals a.site a.life.steps) → Some x ≡ Some q
        go true k = last (in_append (arrivals a.site a.life.steps) (x ∷ []) q k)
        go false k = absurd (fresh k)

-- why an operation of the site is answered first in this step
pub data Why (a : At) (rule : Made) (q : Asked) (v : Answer) : Type 0 where
  ByLock : Locking a q.txn q.n q.op → v ≡ answer_now a q.txn q.op nothing → rule ≡ and_do a q.txn q.n q.op nothing → Why a rule q v
  ByGrant : (before after : List Asked) → grants_after a rule ≡ before ++ q ∷ after → v ≡ answer_now a q.txn q.op (fold (and_grant a) rule before) →
      list_any decides rule.records ≡ true → Ruled a rule → Why a rule q v

module _ (weights : List ℕ) (a : At) (steady : Steady a.site a.life.steps) (fits : Fits weights a.site a.life a.input) (away : FromAway a.site a.input) (s : Shaped a (step_at a)) where
  calm : list_any is_refusal (step_at a).told ≡ false
  calm = shaped_calm a (step_at a) s

  -- two operations of the step's arrivals with one transaction and number are one
  pub same_arrival : (q r : Asked) → In q (arrivals a.site (a.life.steps ++ moment a ∷ [])) → In r (arrivals a.site (a.life.steps ++ moment a ∷ [])) → q.txn ≡ r.txn → q.n ≡ r.n → q ≡ r
  same_arrival q r h k same num =
      turn_same a.life.steps (of_txn q.txn (arrivals a.site (a.life.steps ++ moment a ∷ []))) q r (turns_before weights a (moment a) (is_moment a) steady fits q.txn)
      (filter_in (λ x. same_txn q.txn x.txn) (arrivals a.site (a.life.steps ++ moment a ∷ [])) q h (same_from q.txn q.txn refl))
      (filter_in (λ x. same_txn q.txn x.txn) (arrivals a.site (a.life.steps ++ moment a ∷ [])) r k (same_from q.txn r.txn same)) num

  pub granted_arrived : (g : Asked) → In g (grants_after a s.rule) → In g (arrivals a.site (a.life.steps ++ moment a ∷ []))
  granted_arrived g h =
      subst (λ l. In g l) (sym (arrivals_calm a s.rule s.ruled (shaped_calm a (step_at a) s)))
      (waits_parts a.site (log_now a s.rule) (steps_now a s.rule) g (granted_waits a s.rule g h)).0

  -- an answer that is heard is to an operation on another site's key
  pub heard_elsewhere : (t : Txn) (n : ℕ) (v : Answer) → Hearing a t n v → (t.site ≡ a.site) × (op : Op) × (nth_op n (issued t (a.life.steps ++ moment a ∷ [])) ≡ Some op) × ((key_of op).site ≡ a.site → ⊥)
  heard_elsewhere t n v h = (
    eqb-true t.site a.site h.coordinator,
    h.op,
    ap (nth_op n) (issued_calm t a.life.steps (moment a) (so_far a nothing) refl (shaped_calm a (step_at a) s) refl) ∙ h.nth,
    λ own. true≢false (sym (eq-eqb h.packet.«from» a.site (sym (eqb-true (key_of h.op).site h.packet.«from» h.there) ∙ own)) ∙ subst (λ i. FromAway a.site i) h.takes away),
  )

  -- the cause of an answer to an operation of the site that was not answered before
  pub cause_why : (q : Asked) (v : Answer) → In q (arrivals a.site (a.life.steps ++ moment a ∷ [])) → is_answered a.life.steps q ≡ false → Cause a s.rule q.txn q.n v → Why a s.rule q v
  cause_why q v h none (Heard k e) =
      let z = heard_elsewhere q.txn q.n v k in
      let nth = (steady_push weights a (moment a) (is_moment a) steady fits).nth q h z.0 in
      let same : z.1 ≡ q.op = some_inj z.1 q.op (sym z.2 ∙ nth) in
      absurd (z.3 (ap (λ o. (key_of o).site) same ∙ ((steady_push weights a (moment a) (is_moment a) steady fits).here q h).0))
  cause_why q v h none (Locked op l x e) =
      let taken = new_taken a q h (λ old. lock_absent a q.txn q.n op l q old refl refl) in
      let one : record { txn = q.txn; n = q.n; op = op } ≡ q = some_inj (record { txn = q.txn; n = q.n; op = op }) q (sym (comes_taken a q.txn q.n op (shaped_calm a (step_at a) s) l.comes) ∙ taken) in
      let same : op ≡ q.op = ap (λ (z : Asked). z.op) one in
      ByLock (subst (λ o. Locking a q.txn q.n o) same l) (x ∙ ap (λ o. answer_now a q.txn o nothing) same) (e ∙ ap (λ o. and_do a q.txn q.n o nothing) same)
  cause_why q v h none (Repeated k e) = absurd (let y = answered_from a.life.steps (record { txn = q.txn; n = q.n; op = k.op }) v k.more k.answered in
      true≢false (sym (same_answered (record { txn = q.txn; n = q.n; op = k.op }) q refl refl a.life.steps y) ∙ none))
  cause_why q v h none (Granted g before after split same num x some ruled) =
      let k = granted_arrived g (subst (λ l. In g l) (sym split) (in_back before (g ∷ after) g (inl refl))) in
      let one : g ≡ q = same_arrival g q k h same num in
      ByGrant before after (split ∙ ap (λ z. before ++ z ∷ after) one) (x ∙ ap (λ (z : Asked). answer_now a z.txn z.op (fold (and_grant a) s.rule before)) one) some ruled

  pub new_why : (q : Asked) (v : Answer) (more : List Answer) → In q (arrivals a.site (a.life.steps ++ moment a ∷ [])) → is_answered a.life.steps q ≡ false →
      answers q (a.life.steps ++ moment a ∷ []) ≡ v ∷ more → Why a s.rule q v
  new_why q v more h none is = cause_why q v h none (newly a s q v more none is)
