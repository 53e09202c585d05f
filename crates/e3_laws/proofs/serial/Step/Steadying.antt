-- One more step of a site keeps its operations one by one.
use Rattle.std.proofs.Common.{◌≡◌, ◌⊎◌, inl, inr, ◌==◌, ◌&&◌, ◌||◌, ◌++◌, ◌∷◌, [], ℕ, zero, suc, ◌+◌, ◌<◌, ◌≤◌, Bool, true, false, not, cond, List, Option, Some, None, is_none, length, filter, refl, sym, subst, ap, ◌∙◌, if◌then◌else◌, append-nil, eqb-true, eq-eqb, nat_lt, arith, length-append}
use Rattle.std.specs.Prelude.{slice_get}
use Rattle.std.specs.List.{list_any, list_all, flat_map}
use Rattle.std.proofs.lemmas.Bool.{and_parts, and_from, or_left, or_right, or_cases, true≢false, ltb-true, cases_lt}
use Rattle.e3_types.specs.declared.entries.Input.{Input}
use Rattle.e3_types.specs.declared.entries.Input.TheVariants as input
use Rattle.e3_types.specs.declared.entries.Told.{Told}
use Rattle.e3_types.specs.declared.messages.Message.{Message}
use Rattle.e3_types.specs.declared.messages.Message.TheVariants as msg
use Rattle.e3_types.specs.declared.messages.Packet.{Packet}
use Rattle.e3_types.specs.declared.transactions.Answer.{Answer}
use Rattle.e3_types.specs.declared.transactions.Op.{Op}
use Rattle.e3_types.specs.declared.transactions.State.TheVariants.{Q}
use Rattle.e3_types.specs.declared.transactions.Txn.{Txn}
use Rattle.e3_types.specs.Same.{same_txn}
use Rattle.e3_types.specs.Sets.{has_site, others}
use Rattle.e3_laws.proofs.agreement.Refinement.Lists.{same_from}
use Rattle.e3_world.specs.declared.lives.Asked.{Asked}
use Rattle.e3_world.specs.declared.lives.At.{At}
use Rattle.e3_world.specs.declared.lives.Life.{Life}
use Rattle.e3_world.specs.declared.lives.Moment.{Moment}
use Rattle.e3_world.specs.declared.lives.Performed.{Performed}
use Rattle.e3_world.specs.Logs.{state_of, is_undecided, key_of}
use Rattle.e3_world.specs.Making.{nothing, log_now, state_now, is_present}
use Rattle.e3_world.specs.Operations.{is_refusal, issued, issued_in, nth_op, taken_up, same_asked, is_fresh, and_arrived, arrivals, answers, is_answered, performed_by, done, waiting, op_told, unanswered}
use Rattle.e3_world.specs.Sound.{is_in_turn, Fits, FitsDo, FitsMessage, FitsPacket, FitsIssue}
use Rattle.e3_world.specs.Steps.{refuse}
use Rattle.e3_laws.proofs.serial.Lists.Entries.{In}
use Rattle.e3_laws.proofs.serial.Lists.Members.{in_append, in_front, in_back, in_filter, filter_in}
use Rattle.e3_laws.proofs.serial.Lists.Replaying.{filter-append}
use Rattle.e3_laws.proofs.serial.Step.Walk.{allowed_parts}
use Rattle.e3_laws.proofs.serial.Step.Arrivals.{arrivals_push, told_push, answered_first, op_told_answered, InTurn, turn_push, turn_more, of_txn, Steady}
use Rattle.e3_laws.proofs.steps.Adding.{idle_open}
use Rattle.e3_laws.proofs.agreement.Protocol.Ruled.{same_means}
use Rattle.e3_laws.proofs.steps.Tests.{same_is}
use Rattle.e3_laws.proofs.steps.Operations.Issuing.{get_end, nth_more, nth_low, issued_push}
use Rattle.e3_laws.proofs.serial.Lists.Facts.{all_in}

pub some_inj : {X : Type 0} (x y : X) → Some x ≡ Some y → x ≡ y
some_inj x y e = cc

pub any_in : {X : Type 0} (p : X → Bool) (xs : List X) → list_any p xs ≡ true → (x : X) × In x xs × (p x ≡ true)
any_in p [] h = absurd (true≢false (sym h))
any_in p (x ∷ xs) h = by (p x) refl h (any_in p xs)
  where
    by : (b : Bool) → p x ≡ b → (b || list_any p xs) ≡ true → (list_any p xs ≡ true → (y : _) × In y xs × (p y ≡ true)) → (y : _) × In y (x ∷ xs) × (p y ≡ true)
    by true is k ih = (x, inl refl, is)
    by false is k ih = let r = ih k in (r.0, inr r.1, r.2)

pub in_any : {X : Type 0} (p : X → Bool) (xs : List X) (x : X) → In x xs → p x ≡ true → list_any p xs ≡ true
in_any p [] x h e = absurd h
in_any p (y ∷ xs) x (inl q) e = or_left (p y) (list_any p xs) (subst (λ z. p z ≡ true) (sym q) e)
in_any p (y ∷ xs) x (inr k) e = or_right (p y) (list_any p xs) (in_any p xs x k e)

-- what was performed, and by which operation
pub record PerformedOf (steps : List Moment) (qs : List Asked) (p : Performed) : Type 0 where
  pub by : Asked
  pub by_in : In by qs
  pub n : p.n ≡ by.n
  pub op : p.op ≡ by.op
  pub more : List Answer
  pub answers : answers by steps ≡ p.answer ∷ more

pub performed_of : (steps : List Moment) (qs : List Asked) (p : Performed) → In p (flat_map (performed_by steps) qs) → PerformedOf steps qs p
performed_of steps [] p h = absurd h
performed_of steps (q ∷ qs) p h = go (in_append (performed_by steps q) (flat_map (performed_by steps) qs) p h) (performed_of steps qs p)
  where
    by : (l : List Answer) → answers q steps ≡ l → In p (performed_by steps q) → PerformedOf steps (q ∷ qs) p
    by [] is k = absurd (let none : performed_by steps q ≡ [] = rw is refl in subst (λ z. In p z) none k)
    by (x ∷ xs) is k = here (let one : performed_by steps q ≡ record { n = q.n; op = q.op; answer = x } ∷ [] = rw is refl in subst (λ z. In p z) one k)
      where
        here : In p (record { n = q.n; op = q.op; answer = x } ∷ []) → PerformedOf steps (q ∷ qs) p
        here (inl e) = record {
          by = q;
          by_in = inl refl;
          n = sym (ap (λ (z : Performed). z.n) e);
          op = sym (ap (λ (z : Performed). z.op) e);
          more = xs;
          answers = is ∙ ap (λ z. z ∷ xs) (ap (λ (z : Performed). z.answer) e);
        }
        here (inr k) = absurd k

    go : In p (performed_by steps q) ⊎ In p (flat_map (performed_by steps) qs) → (In p (flat_map (performed_by steps) qs) → PerformedOf steps qs p) → PerformedOf steps (q ∷ qs) p
    go (inl k) ih = by (answers q steps) refl k
    go (inr k) ih = let r = ih k in record { by = r.by; by_in = inr r.by_in; n = r.n; op = r.op; more = r.more; answers = r.answers }

pub performs : (steps : List Moment) (qs : List Asked) (q : Asked) (x : Answer) (more : List Answer) → In q qs → answers q steps ≡ x ∷ more →
    In (record { n = q.n; op = q.op; answer = x }) (flat_map (performed_by steps) qs)
performs steps [] q x more h is = absurd h
performs steps (r ∷ qs) q x more (inl e) is =
    let one : performed_by steps r ≡ record { n = q.n; op = q.op; answer = x } ∷ [] = ap (λ z. performed_by steps z) e ∙ (rw is refl) in
    in_front (performed_by steps r) (flat_map (performed_by steps) qs) _ (subst (λ z. In (record { n = q.n; op = q.op; answer = x }) z) (sym one) (inl refl))
performs steps (r ∷ qs) q x more (inr k) is = in_back (performed_by steps r) (flat_map (performed_by steps) qs) _ (performs steps qs q x more k is)

none_first : {X : Type 0} (xs : List X) → is_none (slice_get xs 0) ≡ true → xs ≡ []
none_first [] h = refl
none_first (x ∷ xs) h = absurd (true≢false (sym h))

-- an operation that comes in turn and did not come before, where its transaction has no record
pub fresh_turn : (site : ℕ) (life : Life) (t : Txn) (n : ℕ) (op : Op) → state_of t life.log ≡ Q → is_in_turn site t n life ≡ true →
    list_any (same_asked (record { txn = t; n = n; op = op })) (arrivals site life.steps) ≡ false →
    (r : Asked) → In r (of_txn t (arrivals site life.steps)) → (is_answered life.steps r ≡ true) × (r.n < n)
fresh_turn site life t n op idle turn fresh r h = last (or_cases _ _ turn)
  where
    arr : List Asked
    arr = arrivals site life.steps

    known : (q : Asked) → In q (arrivals site life.steps) → same_txn t q.txn ≡ true → (q.n == n) ≡ true → ⊥
    known q k same num = true≢false (sym (in_any (same_asked (record { txn = t; n = n; op = op })) (arrivals site life.steps) q k
        (and_from (n == q.n) (same_txn t q.txn) (eq-eqb n q.n (sym (eqb-true q.n n num))) same)) ∙ fresh)

    in_waits : (q : Asked) → In q (of_txn t (arrivals site life.steps)) → is_answered life.steps q ≡ false → In q (filter (λ q. same_txn t q.txn) (waiting site life.log life.steps))
    in_waits q k none =
        let p = in_filter (λ a. same_txn t a.txn) (arrivals site life.steps) q k in
        filter_in (λ q. same_txn t q.txn) (waiting site life.log life.steps) q
        (filter_in (λ a. is_undecided a.txn life.log && not (is_answered life.steps a)) (arrivals site life.steps) q p.0
        (and_from (is_undecided q.txn life.log) (not (is_answered life.steps q))
        (subst (λ u. is_undecided u life.log ≡ true) (same_is t q.txn p.1) (idle_open t life.log idle)) (ap not none)))
        p.1

    ahead : is_none (slice_get (filter (λ q. same_txn t q.txn) (waiting site life.log life.steps)) 0) ≡ true → list_all (λ p. nat_lt p.n n) (done site t life.steps) ≡ true →
        (is_answered life.steps r ≡ true) × (r.n < n)
    ahead none low = by (is_answered life.steps r) refl
      where
        by : (b : Bool) → is_answered life.steps r ≡ b → (is_answered life.steps r ≡ true) × (r.n < n)
        by true is =
            let f = answered_first life.steps r is in
            (is, ltb-true r.n n (all_in (λ p. nat_lt p.n n) (done site t life.steps) (record { n = r.n; op = r.op; answer = f.0 }) low (performs life.steps (of_txn t (arrivals site life.steps)) r f.0 f.1 h f.2)))
        by false is = absurd (let k : In r (filter (λ q. same_txn t q.txn) (waiting site life.log life.steps)) = in_waits r h is in
            subst (λ z. In r z) (none_first (filter (λ q. same_txn t q.txn) (waiting site life.log life.steps)) none) k)

    first : (list_any (λ p. p.n == n) (done site t life.steps) ≡ true) ⊎ (list_any (λ q. q.n == n) (filter (λ q. same_txn t q.txn) (waiting site life.log life.steps)) ≡ true) → ⊥
    first (inl k) =
        let p = any_in (λ p. p.n == n) (done site t life.steps) k in
        let o = performed_of life.steps (of_txn t (arrivals site life.steps)) p.0 p.1 in
        let m = in_filter (λ a. same_txn t a.txn) (arrivals site life.steps) o.by o.by_in in
        known o.by m.0 m.1 (subst (λ z. (z == n) ≡ true) o.n p.2)
    first (inr k) =
        let q = any_in (λ q. q.n == n) (filter (λ q. same_txn t q.txn) (waiting site life.log life.steps)) k in
        let m = in_filter (λ q. same_txn t q.txn) (waiting site life.log life.steps) q.0 q.1 in
        known q.0 (in_filter _ (arrivals site life.steps) q.0 m.0).0 m.1 q.2

    last : ((list_any (λ p. p.n == n) (done site t life.steps) || list_any (λ q. q.n == n) (filter (λ q. same_txn t q.txn) (waiting site life.log life.steps))) ≡ true)
        ⊎ ((is_none (slice_get (filter (λ q. same_txn t q.txn) (waiting site life.log life.steps)) 0) && list_all (λ p. nat_lt p.n n) (done site t life.steps)) ≡ true) →
        (is_answered life.steps r ≡ true) × (r.n < n)
    last (inl k) = absurd (first (or_cases _ _ k))
    last (inr k) = let p = and_parts _ _ k in ahead p.0 p.1

-- where an own operation or a commit is allowed, the last operation was told
pub last_told : (a : At) (t : Txn) → refuse a t false nothing ≡ None → (m : ℕ) → 1 ≤ m → m ≡ length (issued t a.life.steps) → op_told t m a.life.steps ≡ true
last_told a t allowed m low same = by (length (issued t a.life.steps)) refl
  where
    parts : (is_present a t ≡ true) × (unanswered t (log_now a nothing) a.life.steps ≡ None) × (state_now a t nothing ≡ Q)
    parts = allowed_parts a t allowed

    by : (n : ℕ) → length (issued t a.life.steps) ≡ n → op_told t m a.life.steps ≡ true
    by zero long = absurd (omega (arith, low, same, long))
    by (suc n) long = subst (λ k. op_told t k a.life.steps ≡ true) (sym (same ∙ long)) (told (op_told t (suc n) a.life.steps) refl)
      where
        told : (b : Bool) → op_told t (suc n) a.life.steps ≡ b → op_told t (suc n) a.life.steps ≡ true
        told true is = is
        told false is = absurd (
            let now : unanswered t (log_now a nothing) a.life.steps ≡ Some (suc n) = rw (long, idle_open t (log_now a nothing) parts.2, is) refl in
            let both : None ≡ Some (suc n) = sym parts.1 ∙ now in cc)

-- the others of a site lack it
pub others_lack : (site x : ℕ) (sites : List ℕ) → has_site (others site sites) x ≡ true → x ≡ site → ⊥
others_lack site x sites h e =
    let p = any_in (λ y. y == x) (others site sites) h in
    let q = in_filter (λ y. not (y == site)) sites p.0 p.1 in
    let same : (p.0 == site) ≡ true = eq-eqb p.0 site (eqb-true p.0 x p.2 ∙ e) in
    true≢false (sym q.1 ∙ ap not same)

-- an input that issues an operation issues its own, and is not refused
pub issued_one : (t : Txn) (op : Op) (l : List Told) (o : Op) (os : List Op) → issued_in t (input.Do t op) l ≡ o ∷ os →
    (issued_in t (input.Do t op) l ≡ op ∷ []) × (list_any is_refusal l ≡ false)
issued_one t op l o os some = by (list_any is_refusal l) refl
  where
    by : (b : Bool) → list_any is_refusal l ≡ b → (issued_in t (input.Do t op) l ≡ op ∷ []) × (list_any is_refusal l ≡ false)
    by true is = absurd (let none : issued_in t (input.Do t op) l ≡ [] = rw (same_from t t refl, is) refl in let both : [] ≡ o ∷ os = sym none ∙ some in cc)
    by false is = ((rw (same_from t t refl, is) refl), is)

-- what a moment is to the step at a place
pub record IsMoment (a : At) (m : Moment) : Type 0 where
  pub before : m.before ≡ a.life.log
  pub same_input : m.input ≡ a.input
  pub allowed : (t : Txn) (op : Op) → a.input ≡ input.Do t op → list_any is_refusal m.told ≡ false → refuse a t false nothing ≡ None

-- what is taken up: an operation that may be added to those before it
pub record New (a : At) (m : Moment) (q : Asked) : Type 0 where
  pub here : ((key_of q.op).site ≡ a.site) × (1 ≤ q.n)
  pub nth : q.txn.site ≡ a.site → nth_op q.n (issued q.txn (a.life.steps ++ m ∷ [])) ≡ Some q.op
  pub turn : state_of q.txn a.life.log ≡ Q → list_any (same_asked q) (arrivals a.site a.life.steps) ≡ false →
      (r : Asked) → In r (of_txn q.txn (arrivals a.site a.life.steps)) → (is_answered a.life.steps r ≡ true) × (r.n < q.n)

abbrev pub IfNew : At → Moment → Option Asked → Type 0
IfNew a m None = Unit {0}
IfNew a m (Some q) = New a m q

pub taken_own : (site : ℕ) (steps : List Moment) (m : Moment) (t : Txn) (op o : Op) (os : List Op) → m.input ≡ input.Do t op → issued_in t (input.Do t op) m.told ≡ o ∷ os →
    taken_up site steps m ≡ (if (key_of op).site == site then Some (record { txn = t; n = suc (length (issued t steps)); op = op }) else None)
taken_own site steps m t op o os takes some = rw (takes, some) refl

pub taken_new : (weights : List ℕ) (a : At) (m : Moment) → IsMoment a m → Steady a.site a.life.steps → Fits weights a.site a.life a.input → IfNew a m (taken_up a.site a.life.steps m)
taken_new weights a m is steady fits = by a.input refl fits
  where
    said : (packet : Packet) (x : Message) → a.input ≡ input.Deliver packet → packet.msg ≡ x → FitsPacket weights a.site a.life packet → IfNew a m (taken_up a.site a.life.steps m)
    said packet (msg.Do t n op) takes says fit =
        let f : FitsDo a.site a.life packet.«from» t n op = subst (λ x. FitsMessage a.site a.life packet.«from» x) says fit.message in
        rw (is.same_input, takes, says) (record {
          here = (f.here, f.low);
          nth = λ own. absurd (away packet t says f fit own);
          turn = λ idle fresh. fresh_turn a.site a.life t n op idle (f.turn idle) fresh;
        })
      where
        away : (packet : Packet) (t : Txn) → packet.msg ≡ msg.Do t n op → FitsDo a.site a.life packet.«from» t n op → FitsPacket weights a.site a.life packet → t.site ≡ a.site → ⊥
        away packet t says f fit own = others_lack a.site packet.«from» t.sites (subst (λ x. has_site (others a.site (Rattle.e3_world.specs.Sound.txn_in x).sites) packet.«from» ≡ true) says fit.sender) (f.coordinator ∙ own)
    said packet x takes says fit = rw (is.same_input, takes, says) tt

    own : (t : Txn) (op : Op) (l : List Op) → a.input ≡ input.Do t op → issued_in t (input.Do t op) m.told ≡ l → FitsIssue weights a.site a.life t (key_of op) → IfNew a m (taken_up a.site a.life.steps m)
    own t op [] takes some fit = rw (is.same_input, takes, some) tt
    own t op (o ∷ os) takes some fit = subst (λ z. IfNew a m z) (sym (taken_own a.site a.life.steps m t op o os (is.same_input ∙ takes) some)) (here ((key_of op).site == a.site) refl)
      where
        here : (b : Bool) → ((key_of op).site == a.site) ≡ b → IfNew a m (if (key_of op).site == a.site then Some (record { txn = t; n = suc (length (issued t a.life.steps)); op = op }) else None)
        here true at = rw at (record {
          here = (eqb-true (key_of op).site a.site at, (omega arith));
          nth = λ mine. ap (λ l. nth_op (suc (length (issued t a.life.steps))) l)
              (issued_push t a.life.steps m ∙ ap (λ i. issued t a.life.steps ++ issued_in t i m.told) (is.same_input ∙ takes) ∙ ap (λ l. issued t a.life.steps ++ l) one.0)
              ∙ get_end (issued t a.life.steps) op;
          turn = λ idle fresh r h. turn r h;
        })
          where
            one : (issued_in t (input.Do t op) m.told ≡ op ∷ []) × (list_any is_refusal m.told ≡ false)
            one = issued_one t op m.told o os some

            turn : (r : Asked) → In r (of_txn t (arrivals a.site a.life.steps)) → (is_answered a.life.steps r ≡ true) × (r.n < suc (length (issued t a.life.steps)))
            turn r h =
                let k = in_filter (λ a. same_txn t a.txn) (arrivals a.site a.life.steps) r h in
                let same = same_is t r.txn k.1 in
                let nth : nth_op r.n (issued t a.life.steps) ≡ Some r.op = subst (λ u. nth_op r.n (issued u a.life.steps) ≡ Some r.op) (sym same) (steady.nth r k.0 (ap (λ (u : Txn). u.site) (sym same) ∙ fit.coordinator)) in
                let low = (steady.here r k.0).1 in
                let high = nth_low r.n (issued t a.life.steps) r.op nth in
                (op_told_answered r a.life.steps (subst (λ u. op_told u r.n a.life.steps ≡ true) same (heard r.n low high)), (omega arith))
              where
                heard : (n : ℕ) → 1 ≤ n → n ≤ length (issued t a.life.steps) → op_told t n a.life.steps ≡ true
                heard n low high = elim (cases_lt n (length (issued t a.life.steps))) [
                  | inl less ↦ steady.told t n low less
                  | inr most ↦ last_told a t (is.allowed t op takes one.1) n low (omega (arith, high, most))
                ]
        here false at = rw at tt

    by : (i : Input) → a.input ≡ i → Fits weights a.site a.life i → IfNew a m (taken_up a.site a.life.steps m)
    by (input.Deliver p) takes fit = said p p.msg takes refl fit
    by (input.Do t op) takes fit = own t op (issued_in t (input.Do t op) m.told) takes refl fit
    by i takes fit = rw (is.same_input, takes) tt

-- one more arrival
pub arrived_in : (asked : List Asked) (m : Moment) (o : Option Asked) (q : Asked) → In q (and_arrived asked m o) →
    In q asked ⊎ ((o ≡ Some q) × (is_fresh asked m q ≡ true) × (and_arrived asked m o ≡ asked ++ q ∷ []))
arrived_in asked m None q h = inl h
arrived_in asked m (Some x) q h = by (is_fresh asked m x) refl h
  where
    last : In q asked ⊎ In q (x ∷ []) → is_fresh asked m x ≡ true → In q asked ⊎ ((Some x ≡ Some q) × (is_fresh asked m q ≡ true) × (and_arrived asked m (Some x) ≡ asked ++ q ∷ []))
    last (inl k) is = inl k
    last (inr (inl e)) is = inr (ap Some e, subst (λ z. is_fresh asked m z ≡ true) e is, (rw is (ap (λ z. asked ++ z ∷ []) e)))
    last (inr (inr k)) is = absurd k

    by : (b : Bool) → is_fresh asked m x ≡ b → In q (if b then asked ++ x ∷ [] else asked) → In q asked ⊎ ((Some x ≡ Some q) × (is_fresh asked m q ≡ true) × (and_arrived asked m (Some x) ≡ asked ++ q ∷ []))
    by true is k = last (in_append asked (x ∷ []) q k) is
    by false is k = inl k

-- what a fresh operation is
fresh_parts : (asked : List Asked) (m : Moment) (q : Asked) → is_fresh asked m q ≡ true → (state_of q.txn m.before ≡ Q) × (list_any (same_asked q) asked ≡ false)
fresh_parts asked m q h = let p = and_parts _ _ h in (same_means (state_of q.txn m.before) Q p.0, turned (list_any (same_asked q) asked) p.1)
  where
    turned : (b : Bool) → not b ≡ true → b ≡ false
    turned true e = absurd (true≢false (sym e))
    turned false e = refl

-- The arrivals behind a step, in turn over the steps before it.
pub turns_before : (weights : List ℕ) (a : At) (m : Moment) → IsMoment a m → Steady a.site a.life.steps → Fits weights a.site a.life a.input →
    (t : Txn) → InTurn a.life.steps (of_txn t (arrivals a.site (a.life.steps ++ m ∷ [])))
turns_before weights a m is steady fits t =
    subst (λ l. InTurn a.life.steps (of_txn t l)) (sym (arrivals_push a.site a.life.steps m)) (by (taken_up a.site a.life.steps m) (taken_new weights a m is steady fits))
  where
    arr : List Asked
    arr = arrivals a.site a.life.steps

    by : (o : Option Asked) → IfNew a m o → InTurn a.life.steps (of_txn t (and_arrived (arrivals a.site a.life.steps) m o))
    by None new = steady.turns t
    by (Some q) new = fresh (is_fresh (arrivals a.site a.life.steps) m q) refl
      where
        its : (b : Bool) → same_txn t q.txn ≡ b → is_fresh (arrivals a.site a.life.steps) m q ≡ true → InTurn a.life.steps (of_txn t (arrivals a.site a.life.steps) ++ cond b (q ∷ []) [])
        its true same f =
            let p = fresh_parts (arrivals a.site a.life.steps) m q f in
            turn_push a.life.steps (of_txn t (arrivals a.site a.life.steps)) q (steady.turns t)
            (λ r k. new.turn (subst (λ l. state_of q.txn l ≡ Q) is.before p.0) p.1 r (subst (λ u. In r (of_txn u (arrivals a.site a.life.steps))) (same_is t q.txn same) k))
        its false same f = subst (λ l. InTurn a.life.steps l) (sym (append-nil (of_txn t (arrivals a.site a.life.steps)))) (steady.turns t)

        fresh : (b : Bool) → is_fresh (arrivals a.site a.life.steps) m q ≡ b → InTurn a.life.steps (of_txn t (if b then arrivals a.site a.life.steps ++ q ∷ [] else arrivals a.site a.life.steps))
        fresh true f = subst (λ l. InTurn a.life.steps l) (sym (filter-append (λ a. same_txn t a.txn) (arrivals a.site a.life.steps) (q ∷ []))) (its (same_txn t q.txn) refl f)
        fresh false f = steady.turns t

-- what is among the arrivals behind a step
pub arrived_push : (weights : List ℕ) (a : At) (m : Moment) → IsMoment a m → Steady a.site a.life.steps → Fits weights a.site a.life a.input →
    (q : Asked) → In q (arrivals a.site (a.life.steps ++ m ∷ [])) → In q (arrivals a.site a.life.steps) ⊎ New a m q
arrived_push weights a m is steady fits q h =
    by (taken_up a.site a.life.steps m) (taken_new weights a m is steady fits) (subst (λ l. In q l) (arrivals_push a.site a.life.steps m) h)
  where
    by : (o : Option Asked) → IfNew a m o → In q (and_arrived (arrivals a.site a.life.steps) m o) → In q (arrivals a.site a.life.steps) ⊎ New a m q
    by None new k = inl k
    by (Some x) new k = elim (arrived_in (arrivals a.site a.life.steps) m (Some x) q k) [
      | inl old ↦ inl old
      | inr z ↦ inr (let e : x ≡ q = cc in subst (λ y. New a m y) e new)
    ]

-- arrivals stay
pub arrivals_stay : (site : ℕ) (steps : List Moment) (m : Moment) (q : Asked) → In q (arrivals site steps) → In q (arrivals site (steps ++ m ∷ []))
arrivals_stay site steps m q h = subst (λ l. In q l) (sym (arrivals_push site steps m)) (by (taken_up site steps m))
  where
    by : (o : Option Asked) → In q (and_arrived (arrivals site steps) m o)
    by None = h
    by (Some x) = fresh (is_fresh (arrivals site steps) m x)
      where
        fresh : (b : Bool) → In q (if b then arrivals site steps ++ x ∷ [] else arrivals site steps)
        fresh true = in_front (arrivals site steps) (x ∷ []) q h
        fresh false = h

-- each issued operation but the last was told
told_more : (a : At) (m : Moment) → IsMoment a m → Steady a.site a.life.steps → (t : Txn) (n : ℕ) → 1 ≤ n → n < length (issued t (a.life.steps ++ m ∷ [])) → op_told t n (a.life.steps ++ m ∷ []) ≡ true
told_more a m is steady t n low less =
    told_push t n a.life.steps m ∙ or_left (op_told t n a.life.steps) _ (by a.input refl (subst (λ l. n < length l) (issued_push t a.life.steps m ∙ ap (λ i. issued t a.life.steps ++ issued_in t i m.told) is.same_input) less))
  where
    old : n < length (issued t a.life.steps ++ []) → op_told t n a.life.steps ≡ true
    old k = steady.told t n low (subst (λ l. n < length l) (append-nil (issued t a.life.steps)) k)

    issue : (u : Txn) (op : Op) (b c : Bool) → same_txn t u ≡ b → list_any is_refusal m.told ≡ c → a.input ≡ input.Do u op → n < length (issued t a.life.steps ++ (if b && not c then op ∷ [] else [])) → op_told t n a.life.steps ≡ true
    issue u op true false same calm takes k = elim (cases_lt n (length (issued t a.life.steps))) [
      | inl less ↦ steady.told t n low less
      | inr most ↦ (
          let long : length (issued t a.life.steps ++ op ∷ []) ≡ length (issued t a.life.steps) + 1 = length-append (issued t a.life.steps) (op ∷ []) in
          let e : t ≡ u = same_is t u same in
          last_told a t (subst (λ v. refuse a v false nothing ≡ None) (sym e) (is.allowed u op takes calm)) n low (omega (arith, k, most, long)))
    ]
    issue u op true true same calm takes k = old k
    issue u op false c same calm takes k = old k

    by : (i : Input) → a.input ≡ i → n < length (issued t a.life.steps ++ issued_in t i m.told) → op_told t n a.life.steps ≡ true
    by (input.Do u op) takes k = issue u op (same_txn t u) (list_any is_refusal m.told) refl refl takes k
    by (input.Begin sites) takes k = old k
    by (input.Commit u) takes k = old k
    by (input.Cancel u) takes k = old k
    by (input.Expire u) takes k = old k
    by (input.Elect u group) takes k = old k
    by (input.Deliver packet) takes k = old k

pub steady_push : (weights : List ℕ) (a : At) (m : Moment) → IsMoment a m → Steady a.site a.life.steps → Fits weights a.site a.life a.input → Steady a.site (a.life.steps ++ m ∷ [])
steady_push weights a m is steady fits = record {
  turns = λ t. turn_more a.life.steps m (of_txn t (arrivals a.site (a.life.steps ++ m ∷ []))) (turns_before weights a m is steady fits t);
  here = λ q h. (elim (arrived_push weights a m is steady fits q h) [ inl old ↦ steady.here q old | inr new ↦ new.here ]);
  nth = λ q h own. (elim (arrived_push weights a m is steady fits q h) [
    | inl old ↦ subst (λ l. nth_op q.n l ≡ Some q.op) (sym (issued_push q.txn a.life.steps m)) (nth_more q.n (issued q.txn a.life.steps) _ q.op (steady.nth q old own))
    | inr new ↦ new.nth own
  ]);
  told = λ t n low less. told_more a m is steady t n low less;
}

pub steady_start : (site : ℕ) → Steady site []
steady_start site = record { turns = λ t. tt; here = λ q h. absurd h; nth = λ q h own. absurd h; told = λ t n low less. absurd (omega (arith, less)) }
