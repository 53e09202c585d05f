-- What is noted of the transactions of a site's cards is what is noted of the transactions of its log.
use Rattle.std.proofs.Common.{◌≡◌, ◌++◌, ◌∷◌, [], ◌&&◌, ◌||◌, ◌==◌, ℕ, Bool, true, false, List, Some, refl, ap, sym, ◌∙◌, map, filter, if◌then◌else◌, eq-eqb}
use Rattle.std.specs.Prelude.{unwrap_or, Option, nat_lt}
use Rattle.std.specs.BTreeMap.{is_at}
use Rattle.std.specs.Cmp.{IsTotalOrder, nat_cmp_total, on_total, then_total}
use Rattle.std.specs.List.{flat_map, list_any, AllByRecursion as Each}
use Rattle.std.specs.List.Sorted.{IsStrictlySortedBy}
use Rattle.std.specs.Map.{keys_of, lookup}
use Rattle.std.specs.Ordering.{nat_cmp, ordering_reverse, ordering_then}
use Rattle.std.specs.declared.cmp.Ordering.{Ordering}
use Rattle.std.specs.declared.cmp.Ordering.TheVariants.{Less, Equal, Greater}
use Rattle.std.proofs.lemmas.Bool.{true≢false}
use Rattle.std.proofs.lemmas.Grind.{flat_map-append}
use Rattle.std.proofs.lemmas.List.Elements.{filter-append}
use Rattle.std.proofs.lemmas.Map.Lookups.{CmpEqualImpliesEq, exact_unsigned}
use Rattle.e3_types.specs.declared.records.Record.{Record}
use Rattle.e3_types.specs.declared.records.Record.TheVariants as log
use Rattle.e3_types.specs.declared.transactions.NumOp.{NumOp}
use Rattle.e3_types.specs.declared.transactions.Txn.{Txn}
use Rattle.e3_types.specs.Same.{same_txn, is_older}
use Rattle.e3_types.specs.Sites.{sites_of}
use Rattle.e3_world.specs.declared.lives.Asked.{Asked}
use Rattle.e3_world.specs.declared.lives.Life.{Life}
use Rattle.e3_world.specs.Items.{txn_of_record}
use Rattle.e3_world.specs.Logs.{is_undecided, ops_of_vote, voted_ops}
use Rattle.e3_world.specs.Brief.{noted, open_ops, txns_of}
use Rattle.e3_laws.proofs.brief.Readings.{own_of, none_of, elected_from, attempt_from, attempted_from, decision_from, voted_from}
use Rattle.e3_laws.proofs.steps.Ascending.{IsLater, Ascends, ascends_fold, off_fold, same_from}
use Rattle.e3_laws.proofs.steps.Tests.{same_is, same_self}
use Rattle.e3_cards.specs.declared.card.Card.{Card}
use Rattle.e3_cards.specs.declared.keys.TxnKey.{TxnKey}
use Rattle.e3_cards.specs.declared.seen.Seen.{Seen}
use Rattle.e3_cards.specs.Cards.{blank, card_of}
use Rattle.e3_cards.specs.Seeing.{seen_of, unseen}
use Rattle.e3_world.specs.Transactions.{IsFoundByBits}
use Rattle.e3_cards.specs.Tables.{card_at, key_cmp, txn_key}
use Rattle.e3_cards.proofs.Untouched.{same_key}
use Rattle.e3_places.specs.declared.keys.TxnId.{TxnId as PlaceKey}
use Rattle.e3_places.specs.declared.places.Claims.{Claims}
use Rattle.e3_places.specs.Keeping.{claims_at, txn_id as place_key}
use Rattle.e3_places.specs.Standing.{cast_of, claims_of, is_of, is_open, voted, votes_of}
use Rattle.e3_site.specs.TableBrief.{KeyFits, card_notes, op_of, ops_at, seen_notes, txn_of}
use Rattle.e3_site.proofs.Merging.{Ascending, Below, Covers, among, flat_keys, none_at, same_given, sorted_ascends}

-- the order of keys tells all of them apart
pub key_total : IsTotalOrder key_cmp
key_total =
    then_total (on_total (λ (k : TxnKey). k.site) nat_cmp_total)
    (then_total (on_total (λ (k : TxnKey). k.inc) nat_cmp_total) (then_total (on_total (λ (k : TxnKey). k.seq) nat_cmp_total) (on_total (λ (k : TxnKey). k.bits) nat_cmp_total)))

both : (a b : Ordering) → ordering_then a b ≡ Equal → (a ≡ Equal) × (b ≡ Equal)
both Less b e = absurd cc
both Equal b e = (refl, e)
both Greater b e = absurd cc

pub key_exact : CmpEqualImpliesEq key_cmp
key_exact k l e =
    let first = both (nat_cmp k.site l.site) (ordering_then (nat_cmp k.inc l.inc) (ordering_then (nat_cmp k.seq l.seq) (nat_cmp k.bits l.bits))) e in
    let second = both (nat_cmp k.inc l.inc) (ordering_then (nat_cmp k.seq l.seq) (nat_cmp k.bits l.bits)) first.1 in
    let third = both (nat_cmp k.seq l.seq) (nat_cmp k.bits l.bits) second.1 in
    let site = exact_unsigned k.site l.site first.0 in
    let inc = exact_unsigned k.inc l.inc second.0 in
    let seq = exact_unsigned k.seq l.seq third.0 in
    let bits = exact_unsigned k.bits l.bits third.1 in
    λ i. record { site = site i; inc = inc i; seq = seq i; bits = bits i }

-- and is the order of age
less_number : (a b : ℕ) → nat_cmp a b ≡ Less → nat_lt a b ≡ true
less_number a b less = by (nat_lt a b) (a == b) refl refl
  where
    by : (c d : Bool) → nat_lt a b ≡ c → (a == b) ≡ d → nat_lt a b ≡ true
    by true d lt eq = lt
    by false true lt eq = absurd (let clash = rw (lt, eq) at less in cc)
    by false false lt eq = absurd (let clash = rw (lt, eq) at less in cc)

less_level : (a b : ℕ) (rest : Ordering) (r : Bool) → ordering_then (nat_cmp a b) rest ≡ Less → (rest ≡ Less → r ≡ true) → (nat_lt a b || (a == b && r)) ≡ true
less_level a b rest r less more = by (nat_lt a b) (a == b) refl refl
  where
    by : (c d : Bool) → nat_lt a b ≡ c → (a == b) ≡ d → (nat_lt a b || (a == b && r)) ≡ true
    by true d lt eq = rw lt refl
    by false true lt eq = let behind : rest ≡ Less = rw (lt, eq) at less in rw (lt, eq) (more behind)
    by false false lt eq = absurd (let clash = rw (lt, eq) at less in cc)

less_older : (t u : Txn) → key_cmp (txn_key t) (txn_key u) ≡ Less → is_older t u ≡ true
less_older t u less =
    less_level t.site u.site _ _ less (λ inc. less_level t.inc u.inc _ _ inc (λ seq. less_level t.seq u.seq _ _ seq (λ bits. less_number _ _ bits)))

-- a transaction whose sites are a set comes back from its key
txn_back : (t : Txn) → IsFoundByBits t → txn_of (txn_key t) ≡ t
txn_back t known = λ i. record { site = t.site; inc = t.inc; seq = t.seq; sites = known i }

key_back : (k : TxnKey) → KeyFits k → txn_key (txn_of k) ≡ k
key_back k fits = λ i. record { site = k.site; inc = k.inc; seq = k.seq; bits = fits i }

key_known : (k : TxnKey) → KeyFits k → IsFoundByBits (txn_of k)
key_known k fits = ap sites_of fits

later_below : (t u : Txn) → IsFoundByBits t → IsFoundByBits u → IsLater t u → key_cmp (txn_key t) (txn_key u) ≡ Less
later_below t u p q later = by (key_cmp (txn_key t) (txn_key u)) refl
  where
    by : (r : Ordering) → key_cmp (txn_key t) (txn_key u) ≡ r → key_cmp (txn_key t) (txn_key u) ≡ Less
    by Less is = is
    by Equal is =
        let same : t ≡ u = sym (txn_back t p) ∙ ap txn_of (key_exact (txn_key t) (txn_key u) is) ∙ txn_back u q in
        absurd (true≢false (sym (same_from t u same) ∙ later.other))
    by Greater is =
        let less : key_cmp (txn_key u) (txn_key t) ≡ Less = key_total.antisymm (txn_key u) (txn_key t) ∙ ap ordering_reverse is in
        absurd (true≢false (sym (less_older u t less) ∙ later.not_older))

below_all : (t : Txn) (us : List Txn) → IsFoundByBits t → Each IsFoundByBits us → Each (IsLater t) us → Below key_cmp (txn_key t) (map txn_key us)
below_all t [] p qs later = tt
below_all t (u ∷ us) p qs later = (later_below t u p qs.0 later.0, below_all t us p qs.1 later.1)

keys_ascend : (ts : List Txn) → Each IsFoundByBits ts → Ascends ts → Ascending key_cmp (map txn_key ts)
keys_ascend [] known up = tt
keys_ascend (t ∷ ts) known up = (below_all t ts known.0 known.1 up.0, keys_ascend ts known.1 up.1)

any_same : (t : Txn) (ts : List Txn) → IsFoundByBits t → Each IsFoundByBits ts → among key_cmp (txn_key t) (map txn_key ts) ≡ list_any (same_txn t) ts
any_same t [] p qs = refl
any_same t (u ∷ us) p qs = let first = same_key t u p qs.0 in let rest = any_same t us p qs.1 in λ i. first i || rest i

-- the operations of a vote, where its transaction is undecided
own_ops : (t : Txn) (l : List Record) (b : Bool) → is_undecided t l ≡ b → (ops : List NumOp)
    → flat_map (op_of t) (filter (is_open (is_of (place_key t)) l) (map (voted t) ops)) ≡ (if b then ops else [])
own_ops t l true is [] = refl
own_ops t l false is [] = refl
own_ops t l true is (o ∷ os) =
    rw (eq-eqb t.site t.site refl, eq-eqb t.inc t.inc refl, eq-eqb t.seq t.seq refl, is, same_self t) (ap (λ (l : List NumOp). o ∷ l) (own_ops t l true is os))
own_ops t l false is (o ∷ os) =
    rw (eq-eqb t.site t.site refl, eq-eqb t.inc t.inc refl, eq-eqb t.seq t.seq refl, is) (own_ops t l false is os)

other_ops : (t u : Txn) (l : List Record) → same_txn t u ≡ false → (ops : List NumOp) → flat_map (op_of t) (filter (is_open (is_of (place_key t)) l) (map (voted u) ops)) ≡ []
other_ops t u l other [] = refl
other_ops t u l other (o ∷ os) = by (other_ops t u l other os) (is_open (is_of (place_key t)) l (voted u o)) refl
  where
    by : flat_map (op_of t) (filter (is_open (is_of (place_key t)) l) (map (voted u) os)) ≡ [] → (b : Bool) → is_open (is_of (place_key t)) l (voted u o) ≡ b
        → flat_map (op_of t) (filter (is_open (is_of (place_key t)) l) (map (voted u) (o ∷ os))) ≡ []
    by rest true is = rw (is, other) rest
    by rest false is = rw is rest

vote_ops : (t u : Txn) (l : List Record) (b : Bool) → is_undecided t l ≡ b → (ops : List NumOp)
    → flat_map (op_of t) (filter (is_open (is_of (place_key t)) l) (map (voted u) ops)) ≡ (if b then ops_of_vote t (log.Vote u ops) else [])
vote_ops t u l b is ops = by (same_txn t u) refl b is
  where
    by : (c : Bool) → same_txn t u ≡ c → (b : Bool) → is_undecided t l ≡ b
        → flat_map (op_of t) (filter (is_open (is_of (place_key t)) l) (map (voted u) ops)) ≡ (if b then ops_of_vote t (log.Vote u ops) else [])
    by true same b is =
        ap (λ (x : Txn). flat_map (op_of t) (filter (is_open (is_of (place_key t)) l) (map (voted x) ops))) (sym (same_is t u same)) ∙ own_ops t l b is ops ∙ rw same refl
    by false same true is = other_ops t u l same ops ∙ rw same refl
    by false same false is = other_ops t u l same ops

cast_ops : (t : Txn) (l : List Record) (b : Bool) → is_undecided t l ≡ b → (rs : List Record)
    → flat_map (op_of t) (filter (is_open (is_of (place_key t)) l) (cast_of rs)) ≡ (if b then voted_ops t rs else [])
cast_ops t l true is [] = refl
cast_ops t l false is [] = refl
cast_ops t l b is (log.Vote u ops ∷ rs) =
    ap (λ (x : List Asked). flat_map (op_of t) x) (filter-append (is_open (is_of (place_key t)) l) (map (voted u) ops) (cast_of rs))
    ∙ flat_map-append (op_of t) (filter (is_open (is_of (place_key t)) l) (map (voted u) ops)) (filter (is_open (is_of (place_key t)) l) (cast_of rs))
    ∙ (λ i. vote_ops t u l b is ops i ++ cast_ops t l b is rs i) ∙ joined b
  where
    joined : (b : Bool) → (if b then ops_of_vote t (log.Vote u ops) else []) ++ (if b then voted_ops t rs else []) ≡ (if b then voted_ops t (log.Vote u ops ∷ rs) else [])
    joined true = refl
    joined false = refl
cast_ops t l b is (log.Birth format site weights rows ∷ rs) = cast_ops t l b is rs
cast_ops t l b is (log.Inc n ∷ rs) = cast_ops t l b is rs
cast_ops t l b is (log.Join u n ∷ rs) = cast_ops t l b is rs
cast_ops t l b is (log.Attempt u n dir ∷ rs) = cast_ops t l b is rs
cast_ops t l b is (log.Decision u dir ∷ rs) = cast_ops t l b is rs

votes_told : (t : Txn) (l : List Record) → flat_map (op_of t) (votes_of (is_of (place_key t)) l) ≡ open_ops t l
votes_told t l = cast_ops t l (is_undecided t l) refl l

-- a transaction of which nothing is seen has no notes
pub seen_none : (t : Txn) (l : List Record) → own_of t l ≡ [] → seen_of t l ≡ unseen
seen_none t l none = λ i. record {
  elected = elected_from t l [] none i;
  attempt = attempt_from t l [] none i;
  decision = decision_from t l [] none i;
  attempted = attempted_from t l [] none i;
  voted = voted_from t l [] none i;
}

noted_none : (t : Txn) (l : List Record) → seen_of t l ≡ unseen → noted l t ≡ []
noted_none t l none = ap (λ (s : Seen). seen_notes t s (open_ops t l)) none

module _ (site : ℕ) (life : Life) (txns : List (PlaceKey × Claims)) (cards : List (TxnKey × Card))
    (claims_stand : (k : PlaceKey) → claims_at txns k ≡ claims_of (is_of k) site life) (cards_stand : (t : Txn) → IsFoundByBits t → card_at cards t ≡ card_of site t life) where
  abbrev given : TxnKey → List Record
  given k = noted life.log (txn_of k)

  ops_told : (t : Txn) → ops_at txns t ≡ open_ops t life.log
  ops_told t = ap (λ (c : Claims). flat_map (op_of t) c.votes) (claims_stand (place_key t)) ∙ votes_told t life.log

  card_told : (k : TxnKey) (card : Card) → KeyFits k → lookup (is_at (key_cmp k)) cards ≡ Some card → card_notes txns (k, card) ≡ given k
  card_told k card fits found =
      let t : Txn = txn_of k in
      let here : card_at cards t ≡ card =
      ap (λ (x : TxnKey). unwrap_or (lookup (is_at (key_cmp x)) cards) blank) (key_back k fits) ∙ ap (λ (o : Option Card). unwrap_or o blank) found in
      let seen : card.seen ≡ seen_of t life.log = ap (λ (c : Card). c.seen) (sym here ∙ cards_stand t (key_known k fits)) in
      λ i. seen_notes t (seen i) (ops_told t i)

  each_card : (es : List (TxnKey × Card)) → Each (λ e. KeyFits e.0) es → Each (λ e. lookup (is_at (key_cmp e.0)) cards ≡ Some e.1) es → Each (λ e. card_notes txns e ≡ given e.0) es
  each_card [] fits found = tt
  each_card (e ∷ es) fits found = (card_told e.0 e.1 fits.0 found.0, each_card es fits.1 found.1)

  -- a transaction of the log that has no card has no notes
  not_kept : (ts : List Txn) → Each IsFoundByBits ts → Covers key_cmp given (keys_of cards) (map txn_key ts)
  not_kept [] known = tt
  not_kept (t ∷ ts) known = (none, not_kept ts known.1)
    where
      none : among key_cmp (txn_key t) (keys_of cards) ≡ false → given (txn_key t) ≡ []
      none off =
          let here : card_at cards t ≡ blank = ap (λ (o : Option Card). unwrap_or o blank) (none_at key_cmp (txn_key t) cards off) in
          let seen : seen_of t life.log ≡ unseen = ap (λ (c : Card). c.seen) (sym (cards_stand t known.0) ∙ here) in
          ap (noted life.log) (txn_back t known.0) ∙ noted_none t life.log seen

  -- nor has one of a card that the log has not
  not_logged : (es : List (TxnKey × Card)) → Each IsFoundByBits (txns_of life.log) → Each (λ e. KeyFits e.0) es → Covers key_cmp given (map txn_key (txns_of life.log)) (keys_of es)
  not_logged [] known fits = tt
  not_logged (e ∷ es) known fits = (none, not_logged es known fits.1)
    where
      t : Txn
      t = txn_of e.0

      none : among key_cmp e.0 (map txn_key (txns_of life.log)) ≡ false → given e.0 ≡ []
      none off =
          let any : list_any (same_txn t) (txns_of life.log) ≡ false =
          sym (any_same t (txns_of life.log) (key_known e.0 fits.0) known) ∙ ap (λ (x : TxnKey). among key_cmp x (map txn_key (txns_of life.log))) (key_back e.0 fits.0) ∙ off in
          noted_none t life.log (seen_none t life.log (none_of t life.log (off_fold t [] (flat_map txn_of_record life.log) any).0))

  each_txn : (ts : List Txn) → Each IsFoundByBits ts → flat_map given (map txn_key ts) ≡ flat_map (noted life.log) ts
  each_txn [] known = refl
  each_txn (t ∷ ts) known = let first = txn_back t known.0 in let rest = each_txn ts known.1 in λ i. noted life.log (first i) ++ rest i

  pub cards_told : Each IsFoundByBits (txns_of life.log) → IsStrictlySortedBy key_cmp (keys_of cards) → Each (λ e. KeyFits e.0) cards → Each (λ e. lookup (is_at (key_cmp e.0)) cards ≡ Some e.1) cards
      → flat_map (card_notes txns) cards ≡ flat_map (noted life.log) (txns_of life.log)
  cards_told known sorted fits found =
      let ts = txns_of life.log in
      flat_keys (card_notes txns) given cards (each_card cards fits found)
      ∙ same_given key_total key_exact given (keys_of cards) (map txn_key ts) (sorted_ascends key_cmp (keys_of cards) sorted)
      (keys_ascend ts known (ascends_fold [] (flat_map txn_of_record life.log) tt)) (not_kept ts known) (not_logged cards known fits)
      ∙ each_txn ts known
