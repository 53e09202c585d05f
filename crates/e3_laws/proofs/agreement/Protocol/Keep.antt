-- Each move keeps the invariant.
use Rattle.std.proofs.Common.{◌≡◌, ◌⊎◌, inl, inr, ℕ, ◌<◌, ◌≤◌, List, [], ◌∷◌, refl, sym, ap, ◌∙◌, subst, arith}
use Rattle.std.proofs.lemmas.Bool.{cases_eq}
use Rattle.e3_types.specs.declared.transactions.Dir.{Dir}
use Rattle.e3_types.specs.declared.transactions.Dir.TheVariants.{Abort, Commit}
use Rattle.e3_laws.specs.agreement.Logs.{before_join, IsIn, Note, Vote, Join, Attempt, Decision, Status, Idle, Waiting, Prepared, Final, status, attempt, below, Fits, Orderly, Backs}
use Rattle.e3_laws.specs.agreement.Rules.{Party, Overlaps, Situation, Letter, Word, Yes, No, Elected, Report, Pre, Ack, Decide, Other, Adds, Sends, MayRecord, MaySend, Moves, MovesOn, letter, Writes, Talks, Reachable, Start, Step, HasAllVotes, Leads, Accepts, Replied, Reply, repliers, AsksFor, Cause, Refuses, CallsOff, HasWon, IsTold, IsReported, Came}
use Rattle.e3_laws.specs.agreement.Invariant.{Invariant, Shows, Support, Somewhere, Voted, Reason, ByMajority, ByRefusal, ByCallingOff}
use Rattle.e3_laws.proofs.agreement.Protocol.Logs.{below_less, backs_now, before_join_below, before_join_backs, idle_unvoted, first_commits, join_some, blank}
use Rattle.e3_laws.proofs.agreement.Protocol.Agree.{one_direction, all_voted}
use Rattle.e3_laws.proofs.agreement.Protocol.Grow.{Grows, in_grown, orderly_grown, below_grown, somewhere_stays, shows_stays, support_stays, voted_stays, reason_stays, grows_sends, grows_adds}

-- what a letter shows when it is sent
shown : (g : Party) (s : Situation) → Invariant g s → (x y : ℕ) (m : Word) → MaySend s x y m → Shows s x y m
shown g s i x y Yes h = h
shown g s i x y No h = h
shown g s i x y (Elected n) h = h
shown g s i x y (Report n st a) h = (
  h.joined,
  h.tried ∙ sym (before_join_below n y (s.log x) (i.orderly x) h.joined),
  subst (λ z. Backs z a (s.log x)) (sym h.says) (subst (λ k. Backs (status (before_join n (s.log x))) k (s.log x)) (sym h.tried) (before_join_backs n (s.log x) (i.orderly x))),
)
shown g s i x y (Pre n d) h = h
shown g s i x y (Ack n d) h =
    let there : IsIn (Attempt n d) (s.log y) = i.letters (letter y x (Pre n d)) h.came in
    subst (λ e. IsIn (Attempt n e) (s.log x)) (one_direction g s i x y n h.made d h.stands there) h.stands
shown g s i x y (Decide d) h = h
shown g s i x y Other h = h

pub keep_sends : (g : Party) (s t : Situation) → Invariant g s → Sends s t → Invariant g t
keep_sends g s t i e = record {
  shared = i.shared;
  orderly = λ x. subst Orderly (sym (e.logs x)) (i.orderly x);
  letters = λ p h. new p (e.sent p h);
  support = λ x n d le h. support_stays g s t w n d (i.support x n d le (subst (λ l. IsIn (Attempt n d) l) (e.logs x) h));
  voted = λ x n h. voted_stays g s t w (i.voted x n (subst (λ l. IsIn (Attempt n Commit) l) (e.logs x) h));
  reason = λ x d h. reason_stays g s t w d (i.reason x d (subst (λ l. IsIn (Decision d) l) (e.logs x) h));
}
  where
    w : Grows s t
    w = grows_sends g s t i e

    new : (p : Letter) → IsIn p s.sent ⊎ MaySend s p.source p.target p.word → Shows t p.source p.target p.word
    new p (inl h) = shows_stays s t w p.source p.target p.word (i.letters p h)
    new p (inr h) = shows_stays s t w p.source p.target p.word (shown g s i p.source p.target p.word h)

-- what a reply shows, which may be the site's own
heard : (g : Party) (s : Situation) → Invariant g s → (x n : ℕ) (r : Reply) → IsIn (Join n x) (s.log x) → Replied s.sent (s.log x) x n r → Shows s r.site x (Report n r.stood r.tried)
heard g s i x n r j (inl p) = i.letters (letter r.site x (Report n r.stood r.tried)) p
heard g s i x n r j (inr own) = subst (λ (z : Reply). Shows s z.site x (Report n z.stood z.tried)) (sym own) (
  j,
  sym (before_join_below n x (s.log x) (i.orderly x) j),
  before_join_backs n (s.log x) (i.orderly x),
)

pub waiting_voted : (l : List Note) → Orderly l → status l ≡ Waiting → IsIn Vote l
waiting_voted l o e = (subst (λ z. Backs z (attempt l) l) e (backs_now l o)).1

-- a record that may be written fits
attempt_fits : (g : Party) (s : Situation) → Invariant g s → (x n : ℕ) (d : Dir) → MovesOn g s.sent (s.log x) x n d → n ≡ 1 → (d ≡ Commit) × IsIn Vote (s.log x)
attempt_fits g s i x n d (inl f) one = (f.commits, waiting_voted (s.log x) (i.orderly x) f.waits)
attempt_fits g s i x n d (inr (inl l)) one = absurd (omega (arith, join_some n x (s.log x) (i.orderly x) l.joined))
attempt_fits g s i x n d (inr (inr a)) one =
    let y = a.asker in
    let there : IsIn (Attempt n d) (s.log y) = i.letters (record { source = y; target = x; word = Pre n d }) a.came in
    let commits : d ≡ Commit = first_commits d (s.log y) (i.orderly y) (subst (λ k. IsIn (Attempt k d) (s.log y)) one there) in
    (commits, (i.voted y n (subst (λ e. IsIn (Attempt n e) (s.log y)) commits there)).0 x a.member)

fits : (g : Party) (s : Situation) → Invariant g s → (x : ℕ) (r : Note) → MayRecord g s x r → Fits r (s.log x)
fits g s i x Vote m = blank (s.log x) (i.orderly x) m.0 m.1
fits g s i x (Join n e) m = m.greater
fits g s i x (Attempt n d) m = record {
  open_yet = m.open_yet;
  current = m.current;
  fresh = m.fresh;
  first_commits = λ one. (attempt_fits g s i x n d m.cause one).0;
  first_voted = λ one. (attempt_fits g s i x n d m.cause one).1;
}
fits g s i x (Decision d) m = record { open_yet = m.open_yet; voted = m.voted }

-- what a new record owes
pub record OwesAttempt (g : Party) (t : Situation) (n : ℕ) (d : Dir) : Type 0 where
  pub supported : 2 ≤ n → Support g t n d
  pub votes : d ≡ Commit → Voted g t

abbrev pub Owes : Party → Situation → Note → Type 0
Owes g t Vote = Unit {0}
Owes g t (Join n e) = Unit {0}
Owes g t (Attempt n d) = OwesAttempt g t n d
Owes g t (Decision d) = Reason g t d

-- a record after the move is an old one or the new one
new_or_old : (s t : Situation) (x : ℕ) (r : Note) → Adds x r s t → (y : ℕ) (q : Note) → IsIn q (t.log y) → IsIn q (s.log y) ⊎ (q ≡ r)
new_or_old s t x r a y q h = at (cases_eq y x)
  where
    at_here : IsIn q (r ∷ s.log x) → y ≡ x → IsIn q (s.log y) ⊎ (q ≡ r)
    at_here (inl e) same = inr e
    at_here (inr k) same = inl (subst (λ z. IsIn q (s.log z)) (sym same) k)

    at : (y ≡ x) ⊎ (y ≡ x → ⊥) → IsIn q (s.log y) ⊎ (q ≡ r)
    at (inl e) = at_here (subst (λ l. IsIn q l) a.here (subst (λ z. IsIn q (t.log z)) e h)) e
    at (inr e) = inl (subst (λ l. IsIn q l) (a.elsewhere y e) h)

pub keep_adds : (g : Party) (s t : Situation) → Invariant g s → (x : ℕ) (r : Note) → Adds x r s t → Fits r (s.log x) → Owes g t r → Invariant g t
keep_adds g s t i x r a f owes = record {
  shared = i.shared;
  orderly = λ y. orderly_grown (s.log y) (t.log y) (w.log y) (i.orderly y);
  letters = λ p h. shows_stays s t w p.source p.target p.word (i.letters p (a.sent p h));
  support = λ y n d le h. support y n d le (new_or_old s t x r a y (Attempt n d) h);
  voted = λ y n h. voted y n (new_or_old s t x r a y (Attempt n Commit) h);
  reason = λ y d h. reason y d (new_or_old s t x r a y (Decision d) h);
}
  where
    w : Grows s t
    w = grows_adds g s t i x r f a

    support : (y n : ℕ) (d : Dir) → 2 ≤ n → IsIn (Attempt n d) (s.log y) ⊎ (Attempt n d ≡ r) → Support g t n d
    support y n d le (inl h) = support_stays g s t w n d (i.support y n d le h)
    support y n d le (inr e) = (let o : OwesAttempt g t n d = subst (Owes g t) (sym e) owes in o).supported le

    voted : (y n : ℕ) → IsIn (Attempt n Commit) (s.log y) ⊎ (Attempt n Commit ≡ r) → Voted g t
    voted y n (inl h) = voted_stays g s t w (i.voted y n h)
    voted y n (inr e) = (let o : OwesAttempt g t n Commit = subst (Owes g t) (sym e) owes in o).votes refl

    reason : (y : ℕ) (d : Dir) → IsIn (Decision d) (s.log y) ⊎ (Decision d ≡ r) → Reason g t d
    reason y d (inl h) = reason_stays g s t w d (i.reason y d h)
    reason y d (inr e) = subst (Owes g t) (sym e) owes

newest : (s t : Situation) (x : ℕ) (r : Note) → Adds x r s t → IsIn r (t.log x)
newest s t x r a = subst (λ l. IsIn r l) (sym a.here) (inl refl)

-- the direction of the greatest attempt
verdict_follows : (st : Status) (a : ℕ) (d : Dir) (l : List Note) → AsksFor st d → Backs st a l → ((a ≡ 0) × (d ≡ Abort)) ⊎ IsIn (Attempt a d) l
verdict_follows Idle a d l v b = inl (b, v)
verdict_follows Waiting a d l v b = inl (b.0, v)
verdict_follows (Prepared e) a d l v b = inr (subst (λ z. IsIn (Attempt a z) l) (sym v) b.1)
verdict_follows (Final e) a d l v b = absurd v

owes_first : (g : Party) (s t : Situation) → Invariant g s → Grows s t → (x n : ℕ) (d : Dir) → Adds x (Attempt n d) s t → HasAllVotes g s.sent (s.log x) x n d → OwesAttempt g t n d
owes_first g s t i w x n d a f = record { supported = λ le. absurd (omega (arith, f.one)); votes = λ e. (λ y m. in_grown Vote (s.log y) (t.log y) (w.log y) (vote y m (cases_eq y x)), own) }
  where
    vote : (y : ℕ) → IsIn y g.members → (y ≡ x) ⊎ (y ≡ x → ⊥) → IsIn Vote (s.log y)
    vote y m (inl e) = subst (λ z. IsIn Vote (s.log z)) (sym e) (waiting_voted (s.log x) (i.orderly x) f.waits)
    vote y m (inr e) = i.letters (record { source = y; target = x; word = Yes }) (f.votes y m e)

    own : IsIn (Attempt 1 Commit) (t.log g.coordinator)
    own = subst (λ z. IsIn (Attempt 1 Commit) (t.log z)) f.here (subst (λ k. IsIn (Attempt k Commit) (t.log x)) f.one (subst (λ e. IsIn (Attempt n e) (t.log x)) f.commits (newest s t x (Attempt n d) a)))

reply_at : (y : ℕ) (rs : List Reply) → IsIn y (repliers rs) → (r : Reply) × IsIn r rs × (y ≡ r.site)
reply_at y [] h = absurd h
reply_at y (r ∷ rs) (inl e) = (r, inl refl, e)
reply_at y (r ∷ rs) (inr h) = let a = reply_at y rs h in (a.0, inr a.1, a.2)

owes_lead : (g : Party) (s t : Situation) → Invariant g s → Grows s t → (x n : ℕ) (d : Dir) → attempt (s.log x) < n → Adds x (Attempt n d) s t → Leads g s.sent (s.log x) x n d → OwesAttempt g t n d
owes_lead g s t i w x n d fresh a l = record {
  supported = λ le. record {
    leader = x;
    group = repliers l.replies;
    enough = l.enough;
    led = newest s t x (Attempt n d) a;
    joined = λ y h. (at y h).0;
    top = l.top.tried;
    top_below = subst (λ k. k < n) (sym (shows l.top l.top_in).1) (below_less n (s.log l.top.site) (omega arith));
    greatest = λ y h. (at y h).1;
    follows = after follows;
  };
  votes = λ e. votes e follows;
}
  where
    shows : (r : Reply) → IsIn r l.replies → Shows s r.site x (Report n r.stood r.tried)
    shows r h = heard g s i x n r l.joined (l.replied r h)

    at : (y : ℕ) → IsIn y (repliers l.replies) → IsIn (Join n x) (t.log y) × (below (t.log y) n ≤ l.top.tried)
    at y h =
        let f = reply_at y l.replies h in
        let r : Reply = f.0 in
        let k = shows r f.1 in
        subst (λ z. IsIn (Join n x) (t.log z) × (below (t.log z) n ≤ l.top.tried)) (sym f.2) (
          in_grown (Join n x) (s.log r.site) (t.log r.site) (w.log r.site) k.0,
          subst (λ m. m ≤ l.top.tried) (k.1 ∙ sym (below_grown n x (s.log r.site) (t.log r.site) (w.log r.site) k.0)) (l.greatest r f.1),
        )

    follows : ((l.top.tried ≡ 0) × (d ≡ Abort)) ⊎ IsIn (Attempt l.top.tried d) (s.log l.top.site)
    follows = verdict_follows l.top.stood l.top.tried d (s.log l.top.site) l.asks (shows l.top l.top_in).2

    after : ((l.top.tried ≡ 0) × (d ≡ Abort)) ⊎ IsIn (Attempt l.top.tried d) (s.log l.top.site) → ((l.top.tried ≡ 0) × (d ≡ Abort)) ⊎ Somewhere t l.top.tried d
    after (inl z) = inl z
    after (inr h) = inr (somewhere_stays s t w l.top.tried d (l.top.site, h))

    votes : d ≡ Commit → ((l.top.tried ≡ 0) × (d ≡ Abort)) ⊎ IsIn (Attempt l.top.tried d) (s.log l.top.site) → Voted g t
    votes e (inl z) = let q = z.1 in cc
    votes e (inr h) = voted_stays g s t w (i.voted l.top.site l.top.tried (subst (λ z. IsIn (Attempt l.top.tried z) (s.log l.top.site)) e h))

owes_accept : (g : Party) (s t : Situation) → Invariant g s → Grows s t → (x n : ℕ) (d : Dir) → Accepts g s.sent x n d → OwesAttempt g t n d
owes_accept g s t i w x n d a = record {
  supported = λ le. support_stays g s t w n d (i.support a.asker n d le there);
  votes = λ e. voted_stays g s t w (i.voted a.asker n (subst (λ z. IsIn (Attempt n z) (s.log a.asker)) e there));
}
  where
    there : IsIn (Attempt n d) (s.log a.asker)
    there = i.letters (record { source = a.asker; target = x; word = Pre n d }) a.came

owes_decision : (g : Party) (s t : Situation) → Invariant g s → Grows s t → (x : ℕ) (d : Dir) → Adds x (Decision d) s t → Cause g s.sent (s.log x) x d → Reason g t d
owes_decision g s t i w x d a (Refuses m e idle) = ByRefusal e x m (subst (λ z. IsIn (Decision z) (t.log x)) e (newest s t x (Decision d) a)) (λ v. unvoted (subst (λ l. IsIn Vote l) a.here v))
  where
    unvoted : IsIn Vote (Decision d ∷ s.log x) → ⊥
    unvoted (inl p) = cc
    unvoted (inr h) = idle_unvoted (s.log x) idle h
owes_decision g s t i w x d a (CallsOff c e z) =
    ByCallingOff e (subst (λ y. IsIn (Decision Abort) (t.log y)) c (subst (λ k. IsIn (Decision k) (t.log x)) e (newest s t x (Decision d) a)))
    (subst (λ y. attempt (t.log y) ≡ 0) c (ap attempt a.here ∙ z))
owes_decision g s t i w x d a (HasWon v) = ByMajority v.number (record { group = v.group; enough = v.enough; all = λ y h. in_grown (Attempt v.number d) (s.log y) (t.log y) (w.log y) (tried y (v.acks y h)) })
  where
    tried : (y : ℕ) → ((y ≡ x) × IsIn (Attempt v.number d) (s.log x)) ⊎ Came s.sent y x (Ack v.number d) → IsIn (Attempt v.number d) (s.log y)
    tried y (inl e) = subst (λ z. IsIn (Attempt v.number d) (s.log z)) (sym e.0) e.1
    tried y (inr p) = i.letters (record { source = y; target = x; word = Ack v.number d }) p
owes_decision g s t i w x d a (IsTold y p) = reason_stays g s t w d (i.reason y d (i.letters (record { source = y; target = x; word = Decide d }) p))
owes_decision g s t i w x d a (IsReported y n k p) = reason_stays g s t w d (i.reason y d (i.letters (record { source = y; target = x; word = Report n (Final d) k }) p).2)

owes : (g : Party) (s t : Situation) → Invariant g s → Grows s t → (x : ℕ) (r : Note) → Adds x r s t → MayRecord g s x r → Owes g t r
owes g s t i w x Vote a m = tt
owes g s t i w x (Join n e) a m = tt
owes g s t i w x (Attempt n d) a m = by_cause m.cause
  where
    by_cause : MovesOn g s.sent (s.log x) x n d → OwesAttempt g t n d
    by_cause (inl f) = owes_first g s t i w x n d a f
    by_cause (inr (inl l)) = owes_lead g s t i w x n d m.fresh a l
    by_cause (inr (inr c)) = owes_accept g s t i w x n d c
owes g s t i w x (Decision d) a m = owes_decision g s t i w x d a m.cause

pub keep : (g : Party) (s t : Situation) → Invariant g s → Moves g s t → Invariant g t
keep g s t i (Writes x r m a) = let f = fits g s i x r m in keep_adds g s t i x r a f (owes g s t i (grows_adds g s t i x r f a) x r a m)
keep g s t i (Talks e) = keep_sends g s t i e

pub start : (g : Party) (s : Situation) → Overlaps g → ((x : ℕ) → s.log x ≡ []) → s.sent ≡ [] → Invariant g s
start g s shared e n = record {
  shared = shared;
  orderly = λ x. subst Orderly (sym (e x)) tt;
  letters = λ p h. absurd (subst (λ l. IsIn p l) n h);
  support = λ x m d le h. absurd (subst (λ l. IsIn (Attempt m d) l) (e x) h);
  voted = λ x m h. absurd (subst (λ l. IsIn (Attempt m Commit) l) (e x) h);
  reason = λ x d h. absurd (subst (λ l. IsIn (Decision d) l) (e x) h);
}

pub law : (g : Party) (s : Situation) → Overlaps g → Reachable g s → Invariant g s
law g s o (Start e n) = start g s o e n
law g s o (Step {before = b} r m) = keep g b s (law g b o r) m

-- when a commit is recorded, every vote stands already
pub votes_before : (g : Party) (s t : Situation) → Invariant g s → Moves g s t → (x y : ℕ) → IsIn (Decision Commit) (t.log x) → IsIn y g.members → IsIn Vote (s.log y)
votes_before g s t i m x y h member = old m
  where
    j : Invariant g t
    j = keep g s t i m

    vote : IsIn Vote (t.log y)
    vote = (all_voted g t j (j.reason x Commit h)).0 y member

    was : (r : Note) → IsIn (Decision Commit) (s.log x) ⊎ (Decision Commit ≡ r) → IsIn Vote (s.log y) ⊎ (Vote ≡ r) → IsIn Vote (s.log y)
    was r d (inl v) = v
    was r (inl d) (inr e) = (all_voted g s i (i.reason x Commit d)).0 y member
    was r (inr d) (inr e) = cc

    old : Moves g s t → IsIn Vote (s.log y)
    old (Writes z r may a) = was r (new_or_old s t z r a x (Decision Commit) h) (new_or_old s t z r a y Vote vote)
    old (Talks e) = subst (λ l. IsIn Vote l) (e.logs y) vote
