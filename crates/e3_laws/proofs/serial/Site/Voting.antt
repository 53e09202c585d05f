-- What a vote is over the records before it, and what its reads found.
use Rattle.std.proofs.Common.{◌≡◌, ◌⊎◌, inl, inr, ⊎_elim, ◌++◌, ◌∷◌, [], ℕ, ◌<◌, Bool, true, false, not, List, Option, Some, None, map, filter, refl, sym, subst, ap, ◌∙◌, if◌then◌else◌, append-nil, nat_lt, arith, lt-ltb}
use Rattle.std.specs.List.{list_all, flat_map, AllByRecursion as Each}
use Rattle.std.proofs.lemmas.Bool.{and_parts, and_from, true≢false, false_from_ne_true}
use Rattle.e3_types.specs.declared.entries.Input.TheVariants as input
use Rattle.e3_types.specs.declared.locks.Lock.{Lock}
use Rattle.e3_types.specs.declared.records.Record.{Record}
use Rattle.e3_types.specs.declared.transactions.Answer.{Answer}
use Rattle.e3_types.specs.declared.transactions.Dir.{Dir}
use Rattle.e3_types.specs.declared.transactions.Dir.TheVariants.{Abort, Commit}
use Rattle.e3_types.specs.declared.transactions.NumOp.{NumOp}
use Rattle.e3_types.specs.declared.transactions.Op.{Op}
use Rattle.e3_types.specs.declared.transactions.Op.TheVariants.{Read, Write}
use Rattle.e3_types.specs.declared.transactions.State.TheVariants.{Q, W, Pc, Pa, C, A}
use Rattle.e3_types.specs.declared.transactions.Txn.{Txn}
use Rattle.e3_types.specs.Locks.{conflicts, opposes, against}
use Rattle.e3_types.specs.Same.{same_txn}
use Rattle.e3_types.specs.Sets.{has_site}
use Rattle.e3_laws.proofs.agreement.Refinement.Lists.{same_from}
use Rattle.e3_laws.specs.steps.Bounds.{IsHere}
use Rattle.e3_world.specs.declared.lives.Asked.{Asked}
use Rattle.e3_world.specs.declared.lives.At.{At}
use Rattle.e3_world.specs.declared.lives.Moment.{Moment}
use Rattle.e3_world.specs.declared.lives.Performed.{Performed}
use Rattle.e3_world.specs.Logs.{has_voted, decision, attempted, state_of, is_undecided, key_of, mode_of, voted_locks}
use Rattle.e3_world.specs.Making.{nothing, state_now}
use Rattle.e3_world.specs.Operations.{arrivals, answers, performed_by, done_locks}
use Rattle.e3_world.specs.Sound.{Fits, FitsPacket}
use Rattle.e3_laws.proofs.serial.Step.Rules.{Commits, IsAsked}
use Rattle.e3_laws.proofs.serial.Lists.Entries.{In, changes}
use Rattle.e3_laws.proofs.serial.Lists.Members.{in_back, in_filter}
use Rattle.e3_laws.proofs.serial.Step.Arrivals.{InTurn, of_txn, Steady}
use Rattle.e3_laws.proofs.serial.Site.Holding.{Holds, ByDone, lock_of, held_for, Apart}
use Rattle.e3_laws.proofs.serial.Site.Recording.{VoteMade, vote_done}
use Rattle.e3_laws.proofs.serial.Site.Answers.{performed_one}
use Rattle.e3_world.specs.Orderly.{is_among, ops_ascend, is_free}
use Rattle.e3_laws.proofs.steps.Adding.{idle_open}

-- A vote stands behind no vote and no decision of its transaction. Its operations ascend, are on the site's own keys, and
-- none conflicts with a vote that is undecided.
pub record VoteStands (site : ℕ) (before : List Record) (t : Txn) (ops : List NumOp) : Type 0 where
  pub first : has_voted t before ≡ false
  pub undecided : is_undecided t before ≡ true
  pub ascending : ops_ascend 0 ops ≡ true
  pub free : list_all (is_free t before) ops ≡ true
  pub here : Each (IsHere site) ops
  pub member : has_site t.sites site ≡ true

-- a transaction without a record has no vote
pub idle_unvoted : (t : Txn) (records : List Record) → state_of t records ≡ Q → has_voted t records ≡ false
idle_unvoted t records idle = go (decision t records) refl (attempted t records) refl (has_voted t records) refl
  where
    go : (d : Option Dir) → decision t records ≡ d → (x : Option Dir) → attempted t records ≡ x → (b : Bool) → has_voted t records ≡ b → has_voted t records ≡ false
    go d e x f false g = g
    go None e None f true g = absurd (let now : state_of t records ≡ W = rw (e, f, g) refl in let both : Q ≡ W = sym idle ∙ now in cc)
    go None e (Some Commit) f true g = absurd (let now : state_of t records ≡ Pc = rw (e, f) refl in let both : Q ≡ Pc = sym idle ∙ now in cc)
    go None e (Some Abort) f true g = absurd (let now : state_of t records ≡ Pa = rw (e, f) refl in let both : Q ≡ Pa = sym idle ∙ now in cc)
    go (Some Commit) e x f true g = absurd (let now : state_of t records ≡ C = rw e refl in let both : Q ≡ C = sym idle ∙ now in cc)
    go (Some Abort) e x f true g = absurd (let now : state_of t records ≡ A = rw e refl in let both : Q ≡ A = sym idle ∙ now in cc)

-- the operations as a vote lists them
abbrev pub listed : List Performed → List NumOp
listed ps = map (λ p. record { n = p.n; op = p.op }) ps

listed_append : (ps qs : List Performed) → listed (ps ++ qs) ≡ listed ps ++ listed qs
listed_append [] qs = refl
listed_append (p ∷ ps) qs = ap (λ z. record { n = p.n; op = p.op } ∷ z) (listed_append ps qs)

-- operations that stand one by one are listed in the order of their numbers
ascends_from : (steps : List Moment) (low : ℕ) (qs : List Asked) → InTurn steps qs → ((q : Asked) → In q qs → low < q.n) → ops_ascend low (listed (flat_map (performed_by steps) qs)) ≡ true
ascends_from steps low [] turn above = refl
ascends_from steps low (q ∷ qs) turn above = by (performed_one steps q) (ascends_from steps q.n qs turn.1 (λ r k. (turn.0 r k).1)) (ascends_from steps low qs turn.1 (λ r k. above r (inr k)))
  where
    by : (performed_by steps q ≡ []) ⊎ ((v : Answer) × (more : List Answer) × (answers q steps ≡ v ∷ more) × (performed_by steps q ≡ record { n = q.n; op = q.op; answer = v } ∷ [])) →
        ops_ascend q.n (listed (flat_map (performed_by steps) qs)) ≡ true → ops_ascend low (listed (flat_map (performed_by steps) qs)) ≡ true →
        ops_ascend low (listed (performed_by steps q ++ flat_map (performed_by steps) qs)) ≡ true
    by (inl none) high same = ap (λ l. ops_ascend low (listed (l ++ flat_map (performed_by steps) qs))) none ∙ same
    by (inr some) high same = ap (λ l. ops_ascend low (listed (l ++ flat_map (performed_by steps) qs))) some.3 ∙ and_from (nat_lt low q.n) (ops_ascend q.n (listed (flat_map (performed_by steps) qs))) (lt-ltb low q.n (above q (inl refl))) high

-- nobody is against, where no lock opposes
against_none : (wanted : Lock) (locks : List Lock) → ((l : Lock) → In l locks → opposes wanted l ≡ false) → against wanted locks ≡ []
against_none wanted [] h = refl
against_none wanted (l ∷ locks) h = subst (λ b. map (λ (l : Lock). l.txn) (if b then l ∷ filter (opposes wanted) locks else filter (opposes wanted) locks) ≡ []) (sym (h l (inl refl))) (against_none wanted locks (λ k m. h k (inr m)))

all_from : {X : Type 0} (p : X → Bool) (xs : List X) → ((x : X) → In x xs → p x ≡ true) → list_all p xs ≡ true
all_from p [] h = refl
all_from p (x ∷ xs) h = and_from (p x) (list_all p xs) (h x (inl refl)) (all_from p xs (λ y k. h y (inr k)))

each_from : {X : Type 0} (P : X → Type 0) (xs : List X) → ((x : X) → In x xs → P x) → Each P xs
each_from P [] h = tt
each_from P (x ∷ xs) h = (h x (inl refl), each_from P xs (λ y k. h y (inr k)))

conflicting : (a b : Op) → conflicts (mode_of a) (mode_of b) ≡ true → (changes a ≡ true) ⊎ (changes b ≡ true)
conflicting (Read k) (Read l) e = absurd (true≢false (sym e))
conflicting (Read k) (Write l v) e = inr refl
conflicting (Write k v) b e = inl refl

-- an operation that was done is free of the votes of others that are undecided
done_free : (site : ℕ) (records : List Record) (steps : List Moment) (t : Txn) (o : NumOp) → Apart site records steps → is_undecided t records ≡ true → Holds site records steps t o.op → is_free t records o ≡ true
done_free site records steps t o apart still holds =
    let e : against (lock_of t o.op) (voted_locks (key_of o.op).name records) ≡ [] = against_none (lock_of t o.op) (voted_locks (key_of o.op).name records) (λ l h. unopposed l h) in
    rw e refl
  where
    unopposed : (l : Lock) → In l (voted_locks (key_of o.op).name records) → opposes (lock_of t o.op) l ≡ false
    unopposed l h = false_from_ne_true _ (λ y.
        (let p = and_parts (not (same_txn l.txn t)) (conflicts l.mode (mode_of o.op)) y in
        let f = held_for site (key_of o.op).name records steps l (in_back (Rattle.e3_world.specs.Operations.done_locks site (key_of o.op).name records steps) (voted_locks (key_of o.op).name records) l h) in
        let c = conflicting f.op o.op (subst (λ m. conflicts m (mode_of o.op) ≡ true) (sym f.mode_is) p.1) in
        apart t l.txn o.op f.op still f.undecided holds f.holds
        (λ e. true≢false (sym p.0 ∙ ap not (same_from l.txn t (sym e))))
        (record { same_name = sym f.name_is; one_changes = ⊎_elim (λ k. inr k) (λ k. inl k) c })))

-- what was done before a step, as a vote of the step sees it
module _ (weights : List ℕ) (a : At) (steady : Steady a.site a.life.steps) (fits : Fits weights a.site a.life a.input) (apart : Apart a.site a.life.log a.life.steps) where
  still_idle : (t : Txn) → state_now a t nothing ≡ Q → state_of t a.life.log ≡ Q
  still_idle t idle = ap (state_of t) (sym (append-nil a.life.log)) ∙ idle

  asked_member : (t : Txn) → Commits a t ⊎ IsAsked a t → has_site t.sites a.site ≡ true
  asked_member t (inl c) = let f : Fits weights a.site a.life (input.Commit t) = subst (λ i. Fits weights a.site a.life i) c.takes fits in (and_parts (has_site t.sites a.site) _ f.0).0
  asked_member t (inr c) =
      let f : FitsPacket weights a.site a.life c.packet = subst (λ i. Fits weights a.site a.life i) c.takes fits in
      (and_parts (has_site t.sites a.site) _ (subst (λ x. is_among a.site weights (Rattle.e3_world.specs.Sound.txn_in x).sites ≡ true) c.says f.among)).0

  pub vote_stands : (before : List Record) (t : Txn) (ops : List NumOp) → VoteMade a before t ops → VoteStands a.site (a.life.log ++ before) t ops
  vote_stands before t ops v = subst (λ l. VoteStands a.site l t ops) (sym (ap (λ l. a.life.log ++ l) v.first ∙ append-nil a.life.log)) (record {
    first = idle_unvoted t a.life.log (still_idle t v.idle);
    undecided = idle_open t a.life.log (still_idle t v.idle);
    ascending = ap (λ l. ops_ascend 0 l) v.ops_are ∙ ascends_from a.life.steps 0 (of_txn t (arrivals a.site a.life.steps)) (steady.turns t)
        (λ q h. (let low = (steady.here q (in_filter (λ x. same_txn t x.txn) (arrivals a.site a.life.steps) q h).0).1 in omega arith));
    free = all_from (is_free t a.life.log) ops (λ o h. (let d = vote_done a before t ops v o h in
        done_free a.site a.life.log a.life.steps t o apart (idle_open t a.life.log (still_idle t v.idle)) (ByDone d.0 d.1 d.2 d.3 d.4)));
    here = each_from (IsHere a.site) ops (λ o h. (let d = vote_done a before t ops v o h in ap (λ z. (key_of z).site) (sym d.4) ∙ (steady.here d.0 d.1).0));
    member = asked_member t v.cause;
  })
