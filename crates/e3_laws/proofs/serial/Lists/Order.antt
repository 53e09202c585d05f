-- One order from the facts on logs.
use Rattle.std.proofs.Common.{◌≡◌, ◌⊎◌, inl, inr, ℕ, ◌+◌, ◌<◌, Bool, true, List, [], ◌∷◌, ◌++◌, take, drop, filter, refl, sym, ap, ◌∙◌, subst, arith}
use Rattle.std.proofs.lemmas.Bool.{cases_order}
use Rattle.std.proofs.lemmas.List.{take-append-drop}
use Rattle.e3_types.specs.declared.transactions.Txn.{Txn}
use Rattle.e3_laws.proofs.serial.Lists.Entries.{Name}
use Rattle.e3_laws.proofs.serial.Lists.Entries.{In, At, Sorted, has}
use Rattle.e3_laws.proofs.serial.Lists.Entries.{Entry, Vote, Decide, writes, Conflict, name_of}
use Rattle.e3_types.specs.declared.transactions.NumOp.{NumOp}
use Rattle.e3_laws.proofs.serial.Lists.Entries.{commits, committed, voters, order, vote_ops, after, table, AllRows, replay, Behind, Logs, writers, committed_at}
use Rattle.e3_laws.proofs.serial.Lists.Members.{in_filter, filter_in, in_append, at_same, at_take, take_at, sorted_filter, sorted_front, sorted_around, sorted_change, same_sorted, has_in, in_has}
use Rattle.e3_laws.proofs.serial.Lists.Values.{writes_in, flip}
use Rattle.e3_laws.proofs.serial.Lists.Places.{at_has_vote, in_voters, voters_sorted, committed_of, at_committed, at_commits, commits_of, Sooner, commits_sorted, commits-append, OpsAt, vote_ops_at, vote_ops_front, after_writers, after_front, replay_after}

module _ (sites : Txn → List ℕ) (rows : AllRows) (all : List Entry) (L : Logs sites all) where
  -- a commit stands behind every vote
  behind_votes : (i j s y : ℕ) (t : Txn) (ds : List NumOp) → At all i (Decide s t true) → At all j (Vote y t ds) → j < i
  behind_votes i j s y t ds h k =
      let v = L.voted i s t y h (L.vote_site j y t ds k) in
      let same : j ≡ v.0 = L.one_vote j v.0 y t ds v.1 k v.3 in
      let less : v.0 < i = v.2 in omega arith

  first_votes : (i j s : ℕ) (t u : Txn) (a b : List NumOp) → At all i (Vote s t a) → At all j (Vote s u b) → i < j → Conflict a b → committed t all ≡ true → Behind all t u
  first_votes i j s t u a b h k l con sure =
      let d = L.decided i j s t u a b h k l con in
      let c = committed_of all t sure in
      let yes : d.1 ≡ true = L.agree d.0 c.place s c.site t d.1 true d.3 c.commit in
      let e : At all d.0 (Decide s t true) = subst (λ z. At all d.0 (Decide s t z)) yes d.3 in
      let less : d.0 < j = d.2 in
      record { place = j; site = s; ops = b; vote = k; behind = λ p y ds m. (let q = behind_votes d.0 p s y t ds e m in omega arith) }

  first_decides : (i j k s : ℕ) (t u : Txn) (a b : List NumOp) (c : Bool) → At all i (Vote s t a) → At all j (Vote s u b) → i < j → Conflict a b → At all k (Decide s u c) → (m : ℕ) × (d : Bool) × (m < k) × At all m (Decide s t d)
  first_decides i j k s t u a b c h g l con e =
      let d = L.decided i j s t u a b h g l con in
      let less : d.0 < j = d.2 in
      let q = L.vote_first j k s u b c g e in
      (d.0, d.1, (omega arith), d.3)

  asym : (t u : Txn) → Behind all t u → Behind all u t → ⊥
  asym t u a b =
      let p = a.behind b.place b.site b.ops b.vote in
      let q = b.behind a.place a.site a.ops a.vote in omega arith

  pub order_sorted : Sorted (Behind all) (order all)
  order_sorted = sorted_filter (Behind all) (λ t. committed t all) (voters all) (voters_sorted all)

  pub in_order : (i s : ℕ) (t : Txn) → At all i (Decide s t true) → In t (order all)
  in_order i s t h =
      let v = L.commit_voted i s t h in
      filter_in (λ t. committed t all) (voters all) t (in_voters all t (at_has_vote all v.0 s t v.1 v.2)) (at_committed all i s t h)

  both_write : (n : Name) (xs ys : List NumOp) → writes n xs ≡ true → writes n ys ≡ true → Conflict xs ys
  both_write n xs ys h k =
      let a = writes_in n xs h in let b = writes_in n ys k in
      record { one = a.one; other = b.one; one_in = a.one_in; other_in = b.one_in; clash = record { same_name = a.name ∙ sym b.name; one_changes = inl a.change } }

  same_vote : (i s : ℕ) (t u : Txn) (a b : List NumOp) → At all i (Vote s t a) → At all i (Vote s u b) → t ≡ u
  same_vote i s t u a b h k = let e : Vote s t a ≡ Vote s u b = at_same all i (Vote s t a) (Vote s u b) h k in cc

  same_commit : (i s : ℕ) (t u : Txn) → At all i (Decide s t true) → At all i (Decide s u true) → t ≡ u
  same_commit i s t u h k = let e : Decide s t true ≡ Decide s u true = at_same all i (Decide s t true) (Decide s u true) h k in cc

  ops_at : (s : ℕ) (t : Txn) (n : Name) → writes n (vote_ops s t all) ≡ true → OpsAt all s t
  ops_at s t n h = let w = writes_in n (vote_ops s t all) h in vote_ops_at all s t w.one w.one_in

  -- of two writers of a key the one that is committed first votes earlier
  sooner_behind : (s : ℕ) (n : Name) (t u : Txn) → writes n (vote_ops s t all) ≡ true → writes n (vote_ops s u all) ≡ true → Sooner all s t u → Behind all t u
  sooner_behind s n t u wt wu r =
      let vt = ops_at s t n wt in
      let vu = ops_at s u n wu in
      go vt vu (cases_order vt.place vu.place)
    where
      go : (vt : OpsAt all s t) (vu : OpsAt all s u) → (vt.place ≡ vu.place) ⊎ ((vt.place < vu.place) ⊎ (vu.place < vt.place)) → Behind all t u
      go vt vu (inl e) =
          let q : t ≡ u = same_vote vt.place s t u (vote_ops s t all) (vote_ops s u all) vt.vote (subst (λ p. At all p (Vote s u (vote_ops s u all))) (sym e) vu.vote) in
          let same = L.one_decision r.first r.second s u true true (subst (λ z. At all r.first (Decide s z true)) q r.one) r.other in
          let less = r.less in absurd (omega arith)
      go vt vu (inr (inl l)) = first_votes vt.place vu.place s t u (vote_ops s t all) (vote_ops s u all) vt.vote vu.vote l (both_write n (vote_ops s t all) (vote_ops s u all) wt wu) (at_committed all r.first s t r.one)
      go vt vu (inr (inr l)) =
          let d = L.decided vu.place vt.place s u t (vote_ops s u all) (vote_ops s t all) vu.vote vt.vote l (both_write n (vote_ops s u all) (vote_ops s t all) wu wt) in
          let same : d.0 ≡ r.second = L.one_decision d.0 r.second s u d.1 true d.3 r.other in
          let less : d.0 < vt.place = d.2 in
          let q = L.vote_first vt.place r.first s t (vote_ops s t all) true vt.vote r.one in
          let less2 = r.less in absurd (omega arith)

  -- the writers among the first commits of s stand in the order of last votes
  commit_writers_sorted : (s : ℕ) (n : Name) (front back : List Txn) → commits s all ≡ front ++ back → Sorted (Behind all) (writers s n all front)
  commit_writers_sorted s n front back e =
      let p : Txn → Bool = λ t. writes n (vote_ops s t all) in
      sorted_change (Sooner all s) (Behind all) (filter p front)
      (λ t u i j r. sooner_behind s n t u (in_filter p front t i).1 (in_filter p front u j).1 r)
      (sorted_filter (Sooner all s) p front (sorted_front (Sooner all s) front back (subst (λ ts. Sorted (Sooner all s) ts) e (commits_sorted all s))))

  writers_agree : (s : ℕ) (n : Name) → writers s n all (committed_at s all (order all)) ≡ writers s n all (commits s all)
  writers_agree s n =
      same_sorted (Behind all) asym (filter p (filter q (order all))) (filter p (commits s all))
      (sorted_filter (Behind all) p (filter q (order all)) (sorted_filter (Behind all) q (order all) order_sorted))
      (commit_writers_sorted s n (commits s all) [] (sym (Rattle.std.proofs.Common.append-nil (commits s all))))
      there back
    where
      p : Txn → Bool
      p t = writes n (vote_ops s t all)

      q : Txn → Bool
      q t = has t (commits s all)

      there : (t : Txn) → In t (filter p (filter q (order all))) → In t (filter p (commits s all))
      there t h =
          let a = in_filter p (filter q (order all)) t h in
          let b = in_filter q (order all) t a.0 in
          filter_in p (commits s all) t (has_in t (commits s all) b.1) a.1

      back : (t : Txn) → In t (filter p (commits s all)) → In t (filter p (filter q (order all)))
      back t h =
          let a = in_filter p (commits s all) t h in
          let c = commits_of all s t a.0 in
          filter_in p (filter q (order all)) t (filter_in q (order all) t (in_order c.place s t c.commit) (in_has t (commits s all) a.0)) a.1

  pub tables : (s : ℕ) (n : Name) → table s (rows s) all n ≡ replay all (committed_at s all (order all)) rows s n
  tables s n =
      after_writers s all n (commits s all) (rows s n)
      ∙ ap (λ ts. after s all n ts (rows s n)) (sym (writers_agree s n))
      ∙ sym (after_writers s all n (committed_at s all (order all)) (rows s n))
      ∙ sym (replay_after all (committed_at s all (order all)) rows s n)

  -- The writers that a vote at place i saw are those before its transaction in the order.
  module _ (front back : List Txn) (t : Txn) (is : order all ≡ front ++ t ∷ back) (i s : ℕ) (a : List NumOp) (vote : At all i (Vote s t a)) where
    around : ((w : Txn) → In w front → Behind all w t) × ((w : Txn) → In w back → Behind all t w)
    around = sorted_around (Behind all) front t back (subst (λ ts. Sorted (Behind all) ts) is order_sorted)

    itself : (w : Txn) → Behind all w w → ⊥
    itself w b = asym w w b b

    commit_before : (w : Txn) → In w (commits s (take i all)) → In w front
    commit_before w h =
        let c = commits_of (take i all) s w h in
        let r = at_take i all c.place (Decide s w true) c.commit in
        let less : c.place < i = r.1 in
        let b : Behind all w t = record { place = i; site = s; ops = a; vote = vote; behind = λ p y ds m. (let q = behind_votes c.place p s y w ds r.0 m in omega arith) } in
        go b (in_append front (t ∷ back) w (subst (λ ts. In w ts) is (in_order c.place s w r.0)))
      where
        go : Behind all w t → In w front ⊎ In w (t ∷ back) → In w front
        go b (inl k) = k
        go b (inr (inl e)) = absurd (itself t (subst (λ z. Behind all z t) (sym e) b))
        go b (inr (inr k)) = absurd (asym w t b (around.1 w k))

    is_committed : (w : Txn) → In w (order all) → committed w all ≡ true
    is_committed w h = (in_filter (λ z. committed z all) (voters all) w h).1

    before_commit : (n : Name) (d : NumOp) → In d a → name_of d.op ≡ n → (w : Txn) → In w front → writes n (vote_ops s w all) ≡ true → In w (commits s (take i all))
    before_commit n d din name w h wr =
        let v = ops_at s w n wr in go v (cases_order v.place i)
      where
        con : Conflict (vote_ops s w all) a
        con = let x = writes_in n (vote_ops s w all) wr in
            record { one = x.one; other = d; one_in = x.one_in; other_in = din; clash = record { same_name = x.name ∙ sym name; one_changes = inl x.change } }

        sure : committed w all ≡ true
        sure = is_committed w (subst (λ ts. In w ts) (sym is) (Rattle.e3_laws.proofs.serial.Lists.Members.in_front front (t ∷ back) w h))

        sure_t : committed t all ≡ true
        sure_t = is_committed t (subst (λ ts. In t ts) (sym is) (Rattle.e3_laws.proofs.serial.Lists.Members.in_back front (t ∷ back) t (inl refl)))

        go : (v : OpsAt all s w) → (v.place ≡ i) ⊎ ((v.place < i) ⊎ (i < v.place)) → In w (commits s (take i all))
        go v (inl e) =
            let q : w ≡ t = same_vote i s w t (vote_ops s w all) a (subst (λ p. At all p (Vote s w (vote_ops s w all))) e v.vote) vote in
            absurd (itself t (subst (λ z. Behind all z t) q (around.0 w h)))
        go v (inr (inl l)) =
            let e = L.decided v.place i s w t (vote_ops s w all) a v.vote vote l con in
            let c = committed_of all w sure in
            let yes : e.1 ≡ true = L.agree e.0 c.place s c.site w e.1 true e.3 c.commit in
            at_commits (take i all) e.0 s w (take_at i all e.0 (Decide s w true) (subst (λ z. At all e.0 (Decide s w z)) yes e.3) e.2)
        go v (inr (inr l)) = absurd (asym w t (around.0 w h) (first_votes i v.place s t w a (vote_ops s w all) vote v.vote l (flip con) sure_t))

    front_writers : (n : Name) (d : NumOp) → In d a → name_of d.op ≡ n → writers s n all (commits s (take i all)) ≡ writers s n all front
    front_writers n d din name =
        same_sorted (Behind all) asym (filter p (commits s (take i all))) (filter p front)
        (commit_writers_sorted s n (commits s (take i all)) (commits s (drop i all)) (ap (λ xs. commits s xs) (sym (take-append-drop i all)) ∙ commits-append s (take i all) (drop i all)))
        (sorted_filter (Behind all) p front (sorted_front (Behind all) front (t ∷ back) (subst (λ ts. Sorted (Behind all) ts) is order_sorted)))
        (λ w h. let r = in_filter p (commits s (take i all)) w h in filter_in p front w (commit_before w r.0) r.1)
        (λ w h. let r = in_filter p front w h in filter_in p (commits s (take i all)) w (before_commit n d din name w r.0 r.1) r.1)
      where
        p : Txn → Bool
        p w = writes n (vote_ops s w all)

    -- the table that the vote saw, at a name that it asked, is the replay's
    pub seen_rows : (d : NumOp) → In d a → table s (rows s) (take i all) (name_of d.op) ≡ replay all front rows s (name_of d.op)
    seen_rows d din =
        let n = name_of d.op in
        after_front s (take i all) all n (commits s (take i all)) (rows s n) known
        ∙ after_writers s all n (commits s (take i all)) (rows s n)
        ∙ ap (λ ts. after s all n ts (rows s n)) (front_writers n d din refl)
        ∙ sym (after_writers s all n front (rows s n))
        ∙ sym (replay_after all front rows s n)
      where
        known : (w : Txn) → In w (commits s (take i all)) → vote_ops s w all ≡ vote_ops s w (take i all)
        known w h =
            let c = commits_of (take i all) s w h in
            let r = at_take i all c.place (Decide s w true) c.commit in
            let v = L.commit_voted c.place s w r.0 in
            let less = L.vote_first v.0 c.place s w v.1 true v.2 r.0 in
            let less2 : c.place < i = r.1 in
            ap (λ xs. vote_ops s w xs) (sym (take-append-drop i all)) ∙ vote_ops_front (take i all) (drop i all) v.0 s w v.1 (take_at i all v.0 (Vote s w v.1) v.2 (omega arith))
