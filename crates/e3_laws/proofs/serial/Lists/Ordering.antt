-- Ordered logs keep, by places, all that the order is proved from.
use Rattle.std.proofs.Common.{◌≡◌, inl, inr, ℕ, suc, ◌<◌, Bool, true, false, not, List, take, drop, refl, sym, ap, ◌∙◌, subst}
use Rattle.std.proofs.lemmas.Bool.{true≢false, cases_order, and_from}
use Rattle.e3_types.specs.declared.locks.Lock.{Lock}
use Rattle.e3_types.specs.declared.records.Record.{Record}
use Rattle.e3_types.specs.declared.records.Record.TheVariants as log
use Rattle.e3_types.specs.declared.scenarios.Scenario.{Scenario}
use Rattle.e3_types.specs.declared.transactions.Dir.TheVariants.{Commit}
use Rattle.e3_types.specs.declared.transactions.NumOp.{NumOp}
use Rattle.e3_types.specs.declared.transactions.Txn.{Txn}
use Rattle.e3_types.specs.Locks.{opposes, conflicts}
use Rattle.e3_types.specs.Same.{same_txn}
use Rattle.e3_world.specs.Logs.{is_undecided, mode_of}
use Rattle.e3_world.specs.Moves.{Move, Placed, all_records}
use Rattle.e3_world.specs.Orderly.{is_free}
use Rattle.e3_laws.specs.serial.Ordered.{VoteFollows, DecisionFollows, Follows, LogFollows, IsOrdered}
use Rattle.e3_laws.proofs.serial.Lists.Entries.{In, At, Vote, Decide, Conflict, Logs}
use Rattle.e3_laws.proofs.serial.Lists.Members.{at_take, at_same}
use Rattle.e3_laws.proofs.serial.Lists.Placing.{dir_of, entries, logged, at_split, vote_at, decide_at, entered_vote, entered_decide, logged_split, before_at, at_before, logged_all}
use Rattle.e3_laws.proofs.serial.Lists.Facts.{at_contains, contains_at, vote_has, has_vote_in, decided_not, decided_in, vote_lock, none_against, free_none, all_in, clash_conflicts, has_in_sites}
use Rattle.e3_laws.proofs.agreement.Refinement.Agreeing.{put}

-- the record at a place follows the log before it
pub follows_at : (sc : Scenario) (ps : List Placed) (s j : ℕ) (r : Record) → LogFollows sc s (logged s ps) → At ps j (put s r) → Follows sc s (logged s (take j ps)) r
follows_at sc ps s j r f h = f (logged s (take j ps)) (logged s (drop (suc j) ps)) r (logged_split ps j s r h)

module _ (sc : Scenario) (trail : List Move) (K : IsOrdered sc trail) where
  ps : List Placed
  ps = all_records trail

  follows : (s j : ℕ) (r : Record) → At (all_records trail) j (put s r) → Follows sc s (logged s (take j (all_records trail))) r
  follows s j r h = follows_at sc (all_records trail) s j r (subst (λ z. LogFollows sc s z) (logged_all s trail) (K.logs s)) h

  vote_follows : (s j : ℕ) (t : Txn) (ops : List NumOp) → At (entries (all_records trail)) j (Vote s t ops) → VoteFollows s (logged s (take j (all_records trail))) t ops
  vote_follows s j t ops h = follows s j (log.Vote t ops) (vote_at (all_records trail) j s t ops h)

  decision_follows : (s j : ℕ) (t : Txn) (c : Bool) → At (entries (all_records trail)) j (Decide s t c) → DecisionFollows (logged s (take j (all_records trail))) t (dir_of c)
  decision_follows s j t c h = follows s j (log.Decision t (dir_of c)) (decide_at (all_records trail) j s t c h)

  -- no vote stands behind another of its transaction, nor behind a decision of it
  no_two_votes : (i j s : ℕ) (t : Txn) (a b : List NumOp) → At (entries (all_records trail)) i (Vote s t a) → At (entries (all_records trail)) j (Vote s t b) → i < j → ⊥
  no_two_votes i j s t a b h k l =
      true≢false (sym (vote_has t a (logged s (take j (all_records trail))) (at_before (all_records trail) i j s (log.Vote t a) (vote_at (all_records trail) i s t a h) l)) ∙ (vote_follows s j t b k).first)

  decided_before : (i j s : ℕ) (t : Txn) (c : Bool) → At (entries (all_records trail)) i (Decide s t c) → i < j → is_undecided t (logged s (take j (all_records trail))) ≡ true → ⊥
  decided_before i j s t c h l u =
      true≢false (sym u ∙ decided_not t (dir_of c) (logged s (take j (all_records trail))) (at_before (all_records trail) i j s (log.Decision t (dir_of c)) (decide_at (all_records trail) i s t c h) l))

  one_vote : (i j s : ℕ) (t : Txn) (a b : List NumOp) → At (entries (all_records trail)) i (Vote s t a) → At (entries (all_records trail)) j (Vote s t b) → i ≡ j
  one_vote i j s t a b h k = elim (cases_order i j) [
    | inl e ↦ e
    | inr more ↦ elim more [ inl l ↦ absurd (no_two_votes i j s t a b h k l) | inr l ↦ absurd (no_two_votes j i s t b a k h l) ]
  ]

  one_decision : (i j s : ℕ) (t : Txn) (a b : Bool) → At (entries (all_records trail)) i (Decide s t a) → At (entries (all_records trail)) j (Decide s t b) → i ≡ j
  one_decision i j s t a b h k = elim (cases_order i j) [
    | inl e ↦ e
    | inr more ↦ elim more [
      | inl l ↦ absurd (decided_before i j s t a h l (decision_follows s j t b k).undecided)
      | inr l ↦ absurd (decided_before j i s t b k l (decision_follows s i t a h).undecided)
    ]
  ]

  vote_first : (i j s : ℕ) (t : Txn) (a : List NumOp) (b : Bool) → At (entries (all_records trail)) i (Vote s t a) → At (entries (all_records trail)) j (Decide s t b) → i < j
  vote_first i j s t a b h k = elim (cases_order i j) [
    | inl e ↦ absurd (let q : Vote s t a ≡ Decide s t b = at_same (entries (all_records trail)) j (Vote s t a) (Decide s t b) (subst (λ z. At (entries (all_records trail)) z (Vote s t a)) e h) k in cc)
    | inr more ↦ elim more [ inl l ↦ l | inr l ↦ absurd (decided_before j i s t b k l (vote_follows s i t a h).undecided) ]
  ]

  commit_voted : (i s : ℕ) (t : Txn) → At (entries (all_records trail)) i (Decide s t true) → (j : ℕ) × (a : List NumOp) × At (entries (all_records trail)) j (Vote s t a)
  commit_voted i s t h =
      let v = has_vote_in t (logged s (take i (all_records trail))) ((decision_follows s i t true h).voted refl) in
      let p = before_at (all_records trail) i s (log.Vote t v.0) v.1 in
      (p.0, v.0, entered_vote (all_records trail) p.0 s t v.0 p.2)

  vote_site : (i s : ℕ) (t : Txn) (a : List NumOp) → At (entries (all_records trail)) i (Vote s t a) → In s t.sites
  vote_site i s t a h = has_in_sites t.sites s (vote_follows s i t a h).member

  agree : (i j s y : ℕ) (t : Txn) (a b : Bool) → At (entries (all_records trail)) i (Decide s t a) → At (entries (all_records trail)) j (Decide y t b) → a ≡ b
  agree i j s y t a b h k =
      same_dir a b (K.agree s y t (dir_of a) (dir_of b)
      (at_contains (all_records trail) i (put s (log.Decision t (dir_of a))) (decide_at (all_records trail) i s t a h))
      (at_contains (all_records trail) j (put y (log.Decision t (dir_of b))) (decide_at (all_records trail) j y t b k)))
    where
      same_dir : (a b : Bool) → dir_of a ≡ dir_of b → a ≡ b
      same_dir true true e = refl
      same_dir false false e = refl
      same_dir true false e = absurd (cc)
      same_dir false true e = absurd (cc)

  voted : (i s : ℕ) (t : Txn) (y : ℕ) → At (entries (all_records trail)) i (Decide s t true) → In y t.sites → (j : ℕ) × (a : List NumOp) × (j < i) × At (entries (all_records trail)) j (Vote y t a)
  voted i s t y h m =
      let d = decide_at (all_records trail) i s t true h in
      let site = Rattle.e3_laws.proofs.serial.Lists.Members.in_at t.sites y m in
      let v = K.voted s t (take i (all_records trail)) (drop (suc i) (all_records trail)) (at_split (all_records trail) i (put s (log.Decision t Commit)) d) y (at_contains t.sites site.0 y site.1) in
      let p = contains_at (take i (all_records trail)) (put y (log.Vote t v.0)) v.1 in
      let w = at_take i (all_records trail) p.0 (put y (log.Vote t v.0)) p.1 in
      (p.0, v.0, w.1, entered_vote (all_records trail) p.0 y t v.0 w.0)

  decided : (i j s : ℕ) (t u : Txn) (a b : List NumOp) → At (entries (all_records trail)) i (Vote s t a) → At (entries (all_records trail)) j (Vote s u b) → i < j → Conflict a b →
      (k : ℕ) × (c : Bool) × (k < j) × At (entries (all_records trail)) k (Decide s t c)
  decided i j s t u a b h k l con = go (is_undecided t before) refl
    where
      before : List Record
      before = logged s (take j (all_records trail))

      stands : In (log.Vote t a) before
      stands = at_before (all_records trail) i j s (log.Vote t a) (vote_at (all_records trail) i s t a h) l

      lock : Lock
      lock = record { txn = t; mode = mode_of con.one.op }

      wanted : Lock
      wanted = record { txn = u; mode = mode_of con.other.op }

      other_txn : same_txn t u ≡ false
      other_txn = Rattle.std.proofs.lemmas.Bool.false_from_ne_true (same_txn t u) (λ e. no_two_votes i j s u a b
          (subst (λ z. At (entries (all_records trail)) i (Vote s z a)) (Rattle.e3_laws.proofs.steps.Tests.same_is t u e) h) k l)

      against_it : is_undecided t before ≡ true → ⊥
      against_it open_yet =
          let f = (vote_follows s j u b k) in
          let none = none_against wanted lock (Rattle.e3_world.specs.Logs.voted_locks (Rattle.e3_world.specs.Logs.key_of con.other.op).name before)
          (free_none u before con.other (all_in (is_free u before) b con.other f.free con.other_in))
          (vote_lock (Rattle.e3_world.specs.Logs.key_of con.other.op).name t a before con.one open_yet stands con.one_in con.clash.same_name) in
          let yes : opposes wanted lock ≡ true = and_from (not (same_txn t u)) (conflicts (mode_of con.one.op) (mode_of con.other.op)) (ap not other_txn) (clash_conflicts con.one.op con.other.op con.clash) in
          true≢false (sym yes ∙ none)

      go : (x : Bool) → is_undecided t before ≡ x → (k : ℕ) × (c : Bool) × (k < j) × At (entries (all_records trail)) k (Decide s t c)
      go true e = absurd (against_it e)
      go false e =
          let d = decided_in t before e in
          let p = before_at (all_records trail) j s (log.Decision t d.0) d.1 in
          let q = entered_decide (all_records trail) p.0 s t d.0 p.2 in
          (p.0, q.0, p.1, q.1)

  pub logs_keep : Logs (λ t. t.sites) (entries (all_records trail))
  logs_keep = record {
    one_vote = one_vote;
    one_decision = one_decision;
    vote_first = vote_first;
    commit_voted = commit_voted;
    vote_site = vote_site;
    agree = agree;
    voted = voted;
    decided = decided;
  }
