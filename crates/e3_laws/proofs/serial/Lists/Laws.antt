-- The laws on one order, from ordered logs.
use Rattle.std.proofs.Common.{◌≡◌, ◌≢◌, inl, inr, ℕ, suc, ◌+◌, nat_lt, Bool, true, false, not, cond, List, [], ◌∷◌, ◌++◌, take, drop, filter, refl, sym, ap, ◌∙◌, subst, arith, append_assoc, take_while}
use Rattle.std.specs.List.{prefix_len, list_any, AllByRecursion as Each}
use Rattle.std.proofs.lemmas.Bool.{true≢false}
use Rattle.e3_types.specs.declared.records.Record.{Record}
use Rattle.e3_types.specs.declared.records.Record.TheVariants as log
use Rattle.e3_types.specs.declared.scenarios.Scenario.{Scenario}
use Rattle.e3_types.specs.declared.transactions.Key.{Key}
use Rattle.e3_types.specs.declared.transactions.NumOp.{NumOp}
use Rattle.e3_types.specs.declared.transactions.Op.TheVariants.{Read}
use Rattle.e3_types.specs.declared.transactions.Txn.{Txn}
use Rattle.e3_types.specs.Same.{same_txn}
use Rattle.e3_laws.proofs.agreement.Refinement.Lists.{same_from}
use Rattle.e3_laws.proofs.agreement.Refinement.Following.{in_from_contains}
use Rattle.e3_laws.specs.steps.Bounds.{IsHere}
use Rattle.e3_world.specs.Logs.{key_of, table_of, row_value}
use Rattle.e3_world.specs.Moves.{Move, moves_at, log_by, all_records}
use Rattle.e3_world.specs.Serial as serial
use Rattle.e3_world.specs.Serial.{all_ops, first_world, is_committed, is_birth, commit_order, committed_in, found_by}
use Rattle.e3_laws.specs.serial.Ordered.{VoteFollows, LogFollows, IsOrdered, world_of, seen_by, TablesReplay, VotesReplay}
use Rattle.e3_laws.proofs.serial.Lists.Entries.{Name, AllRows, In, At, Vote, order, through, table, replay, committed, vote_ops, committed_at}
use Rattle.e3_laws.proofs.serial.Lists.Members.{at_take, filter_in}
use Rattle.e3_laws.proofs.serial.Lists.Placing.{entries, logged, vote_at, entered_vote, logged_split, logged_place, logged_all, take_map}
use Rattle.e3_laws.proofs.serial.Lists.Places.{at_has_vote, in_voters}
use Rattle.e3_laws.proofs.serial.Lists.Facts.{is_in}
use Rattle.e3_laws.proofs.serial.Lists.Order as laws
use Rattle.e3_laws.proofs.serial.Lists.Ordering.{follows_at, logs_keep}
use Rattle.e3_laws.proofs.serial.Lists.Replaying.{is_at, ran, here_all, filter_filter}
use Rattle.e3_laws.proofs.serial.Lists.Worlds.{VotesOnce, all_at, replay_is, committed_is, order_is, committed_in_is}
use Rattle.e3_laws.proofs.serial.Lists.Tables.{table_is}
use Rattle.e3_laws.proofs.steps.Tests.{same_is}
use Rattle.e3_laws.proofs.agreement.Refinement.Agreeing.{put}

here_of : (s : ℕ) (ops : List NumOp) (o : NumOp) → Each (IsHere s) ops → In o ops → IsHere s o
here_of s [] o h k = absurd k
here_of s (x ∷ ops) o h (inl e) = subst (λ z. IsHere s z) e h.0
here_of s (x ∷ ops) o h (inr k) = here_of s ops o h.1 k

-- a member splits a list at its first place
pub while_split : (t : Txn) (ts : List Txn) → In t ts → (back : List Txn) × (ts ≡ take_while (λ u. not (same_txn t u)) ts ++ t ∷ back)
while_split t [] h = absurd h
while_split t (u ∷ ts) h = go (same_txn t u) refl h (while_split t ts)
  where
    go : (b : Bool) → same_txn t u ≡ b → In t (u ∷ ts) → (In t ts → (back : List Txn) × (ts ≡ take_while (λ u. not (same_txn t u)) ts ++ t ∷ back)) →
        (back : List Txn) × (u ∷ ts ≡ take (cond (not b) (1 + prefix_len (λ u. not (same_txn t u)) ts) 0) (u ∷ ts) ++ t ∷ back)
    go true e k ih = (ts, ap (λ z. z ∷ ts) (sym (same_is t u e)))
    go false e (inl q) ih = absurd (true≢false (sym (same_from t u (sym q)) ∙ e))
    go false e (inr k) ih =
        let r = ih k in
        let more : suc (prefix_len (λ u. not (same_txn t u)) ts) ≡ 1 + prefix_len (λ u. not (same_txn t u)) ts = omega arith in
        (r.0, ap (λ z. u ∷ z) r.1 ∙ ap (λ n. take n (u ∷ ts) ++ t ∷ r.0) more)

module _ (sc : Scenario) (trail : List Move) (K : IsOrdered sc trail) where
  follows : (s : ℕ) → LogFollows sc s (logged s (all_records trail))
  follows s = subst (λ z. LogFollows sc s z) (logged_all s trail) (K.logs s)

  vote_follows : (s i : ℕ) (t : Txn) (ops : List NumOp) → At (all_records trail) i (put s (log.Vote t ops)) → VoteFollows s (logged s (take i (all_records trail))) t ops
  vote_follows s i t ops h = follows_at sc (all_records trail) s i (log.Vote t ops) (follows s) h

  once : (s : ℕ) (t : Txn) → VotesOnce (all_records trail) s t
  once s t i j a b h k = (logs_keep sc trail K).one_vote i j s t a b h k

  ops_at : (s : ℕ) (t : Txn) → filter (is_at s) (all_ops t (all_records trail)) ≡ vote_ops s t (entries (all_records trail))
  ops_at s t = all_at (all_records trail) s t (once s t)
      (λ i y u ops h. (vote_follows y i u ops h).here)
      (λ i y u ops h. (vote_follows y i u ops (vote_at (all_records trail) i y u ops h)).ascending)

  rows : AllRows
  rows s n = first_world sc (record { site = s; name = n })

  replayed : (ts : List Txn) (s : ℕ) (n : Name) → serial.replay sc (all_records trail) ts (record { site = s; name = n }) ≡ replay (entries (all_records trail)) ts (λ s n. first_world sc (record { site = s; name = n })) s n
  replayed ts s n = replay_is (all_records trail) ops_at ts (first_world sc) (λ s n. first_world sc (record { site = s; name = n })) (λ y m. refl) s n

  pub tables : TablesReplay sc trail
  tables s n born =
      ap (λ l. row_value n (table_of l)) (logged_all s trail)
      ∙ table_is sc s (all_records trail) n (follows s) some (once s)
      ∙ laws.tables (λ t. t.sites) (λ s n. first_world sc (record { site = s; name = n })) (entries (all_records trail)) (logs_keep sc trail K) s n
      ∙ ap (λ ts. replay (entries (all_records trail)) ts (λ s n. first_world sc (record { site = s; name = n })) s n)
      (ap (λ ts. committed_at s (entries (all_records trail)) ts) (sym (order_is (all_records trail)))
      ∙ sym (committed_in_is s (all_records trail) (commit_order (all_records trail)))
      ∙ ap (λ l. committed_in l (commit_order (all_records trail))) (sym (logged_all s trail)))
      ∙ sym (replayed (committed_in (log_by (moves_at s trail)) (commit_order (all_records trail))) s n)
    where
      some : logged s (all_records trail) ≢ []
      some e = true≢false (sym born ∙ ap (λ l. list_any is_birth l) (logged_all s trail ∙ e))

  -- a part of a log follows too
  part_follows : (s i : ℕ) (r : Record) → At (all_records trail) i (put s r) → LogFollows sc s (logged s (take i (all_records trail)))
  part_follows s i r h before after x e =
      follows s before (after ++ r ∷ logged s (drop (suc i) (all_records trail))) x
      (logged_split (all_records trail) i s r h ∙ ap (λ z. z ++ r ∷ logged s (drop (suc i) (all_records trail))) e ∙ append_assoc before (x ∷ after) (r ∷ logged s (drop (suc i) (all_records trail))))

  part_once : (s i : ℕ) (t : Txn) → VotesOnce (take i (all_records trail)) s t
  part_once s i t j k a b h g =
      once s t j k a b
      (at_take i (entries (all_records trail)) j (Vote s t a) (subst (λ E. At E j (Vote s t a)) (sym (take_map Rattle.e3_laws.proofs.serial.Lists.Placing.entry_of i (all_records trail))) h)).0
      (at_take i (entries (all_records trail)) k (Vote s t b) (subst (λ E. At E k (Vote s t b)) (sym (take_map Rattle.e3_laws.proofs.serial.Lists.Placing.entry_of i (all_records trail))) g)).0

  module _ (s i : ℕ) (t : Txn) (ops : List NumOp) (vote : At (all_records trail) i (put s (log.Vote t ops))) (sure : is_committed t (all_records trail) ≡ true) where
    in_order : In t (commit_order (all_records trail))
    in_order =
        subst (λ z. In t z) (sym (order_is (all_records trail)))
        (filter_in (λ t. committed t (entries (all_records trail))) (Rattle.e3_laws.proofs.serial.Lists.Entries.voters (entries (all_records trail))) t
        (in_voters (entries (all_records trail)) t (at_has_vote (entries (all_records trail)) i s t ops (entered_vote (all_records trail) i s t ops vote)))
        (sym (committed_is t (all_records trail)) ∙ sure))

    splits : (back : List Txn) × (order (entries (all_records trail)) ≡ take_while (λ u. not (same_txn t u)) (commit_order (all_records trail)) ++ t ∷ back)
    splits = let r = while_split t (commit_order (all_records trail)) in_order in (r.0, sym (order_is (all_records trail)) ∙ r.1)

    its_ops : vote_ops s t (entries (all_records trail)) ≡ ops
    its_ops = Rattle.e3_laws.proofs.serial.Lists.Places.vote_ops_is (entries (all_records trail)) i s t ops (once s t) (entered_vote (all_records trail) i s t ops vote)

    -- the table before the vote, at a name that the vote asks
    table_seen : (o : NumOp) → In o ops → row_value (key_of o.op).name (table_of (logged s (take i (all_records trail))))
        ≡ serial.replay sc (all_records trail) (take_while (λ u. not (same_txn t u)) (commit_order (all_records trail))) (record { site = s; name = (key_of o.op).name })
    table_seen o h =
        table_is sc s (take i (all_records trail)) (key_of o.op).name (part_follows s i (log.Vote t ops) vote) (vote_follows s i t ops vote).born (part_once s i)
        ∙ ap (λ E. table s (λ m. first_world sc (record { site = s; name = m })) E (key_of o.op).name) (sym (take_map Rattle.e3_laws.proofs.serial.Lists.Placing.entry_of i (all_records trail)))
        ∙ laws.seen_rows (λ t. t.sites) (λ s n. first_world sc (record { site = s; name = n })) (entries (all_records trail)) (logs_keep sc trail K)
        (take_while (λ u. not (same_txn t u)) (commit_order (all_records trail))) splits.0 t splits.1 i s ops (entered_vote (all_records trail) i s t ops vote) o h
        ∙ sym (replayed (take_while (λ u. not (same_txn t u)) (commit_order (all_records trail))) s (key_of o.op).name)

    seen : (n : ℕ) (key : Key) → key.site ≡ s → In (record { n = n; op = Read key }) ops → seen_by (logged s (take i (all_records trail))) ops n key ≡ found_by sc (all_records trail) t n key
    seen n key here h =
        subst (λ y. seen_by (logged s (take i (all_records trail))) ops n (record { site = y; name = key.name }) ≡ found_by sc (all_records trail) t n (record { site = y; name = key.name })) (sym here)
        (ran (filter (λ o. nat_lt o.n n) ops) (world_of (logged s (take i (all_records trail)))) s key.name
        ∙ ap (λ z. through z key.name (row_value key.name (table_of (logged s (take i (all_records trail))))))
        (filter_filter (is_at s) (λ o. nat_lt o.n n) ops ∙ ap (λ z. filter (λ o. nat_lt o.n n) z) (here_all s ops (vote_follows s i t ops vote).here))
        ∙ ap (λ v. through (filter (λ o. nat_lt o.n n) ops) key.name v) (table_seen (record { n = n; op = Read key }) h)
        ∙ ap (λ z. through z key.name (serial.replay sc (all_records trail) (take_while (λ u. not (same_txn t u)) (commit_order (all_records trail))) (record { site = s; name = key.name })))
        (ap (λ z. filter (λ o. nat_lt o.n n) z) (sym its_ops ∙ sym (ops_at s t)) ∙ sym (filter_filter (is_at s) (λ o. nat_lt o.n n) (all_ops t (all_records trail))))
        ∙ sym (ran (filter (λ o. nat_lt o.n n) (all_ops t (all_records trail))) (serial.replay sc (all_records trail) (take_while (λ u. not (same_txn t u)) (commit_order (all_records trail)))) s key.name))

  pub votes : VotesReplay sc trail
  votes s before after t ops n key e sure has =
      let p = logged_place (all_records trail) s before after (log.Vote t ops) (sym (logged_all s trail) ∙ e) in
      let f = vote_follows s p.0 t ops p.1 in
      let o : NumOp = record { n = n; op = Read key } in
      let here : key.site ≡ s = here_of s ops o f.here (is_in o ops (in_from_contains ops o has)) in
      ap (λ l. seen_by l ops n key) (sym p.2)
      ∙ seen s p.0 t ops p.1 sure n key here (is_in o ops (in_from_contains ops o has))

pub ordered_tables : (sc : Scenario) (trail : List Move) → IsOrdered sc trail → TablesReplay sc trail
ordered_tables sc trail known = tables sc trail known

pub ordered_votes : (sc : Scenario) (trail : List Move) → IsOrdered sc trail → VotesReplay sc trail
ordered_votes sc trail known = votes sc trail known
