-- What the lines of a history tell: each transaction that it began, and each packet that it sent.
use Rattle.std.proofs.Common.{◌≡◌, ◌==◌, ◌+◌, ◌<◌, ◌++◌, ◌∷◌, [], ℕ, suc, Bool, true, false, List, Option, Some, None, refl, sym, subst, ap, ◌∙◌, length, arith, append-nil, append_assoc, option_map}
use Rattle.std.specs.Prelude.{Contains}
use Rattle.std.specs.List.{flat_map, AllByRecursion as Each}
use Rattle.std.proofs.lemmas.Grind.{flat_map-append}
use Rattle.std.proofs.lemmas.List.Elements.{Contains-append_left}
use Rattle.std.specs.Ordering.{nat_cmp}
use Rattle.e3_types.specs.declared.entries.Act.{Act}
use Rattle.e3_types.specs.declared.entries.Act.TheVariants.{Step, Fall, Rise, RiseFall, Miss, Cut, Drop, Parts, Line}
use Rattle.e3_types.specs.declared.entries.Entry.{Entry}
use Rattle.e3_types.specs.declared.entries.Told.{Told}
use Rattle.e3_types.specs.declared.entries.Told.TheVariants as told
use Rattle.e3_types.specs.declared.messages.Packet.{Packet}
use Rattle.e3_types.specs.declared.scenarios.Scenario.{Scenario}
use Rattle.e3_types.specs.declared.transactions.Txn.{Txn}
use Rattle.e3_world.specs.Items.{began_in}
use Rattle.e3_world.specs.Legal.{numbered}
use Rattle.e3_world.specs.Moves.{Past, Tail, own_entries, past_of, moves_of_act, kept_moves, trail_after, trail_of}
use Rattle.e3_world.specs.Sound.{tells}
use Rattle.e3_laws.specs.steps.Trails.{begun_by, DifferInName, AllDiffer}
use Rattle.e3_laws.proofs.steps.Each.{each-push, each-filter, each-at, each-weaker, each-right}
use Rattle.e3_laws.specs.steps.Mentions.{Mention, OfTxn, OfVal, of_event, begun_in, WasBegun}
use Rattle.e3_laws.proofs.steps.Begun.Lists.{each-unflat, each-join, each-within}
use Rattle.e3_report.specs.lines.Marks.{feed}
use Rattle.e3_trace.specs.Fields.{Known, TxnName, txn_from, name_cmp, named, packet_at, known_sent, known_told}
use Rattle.e3_trace.specs.Tellable.{lacks, known_outs, known_events, EventsTell}
use Rattle.e3_trace.specs.verdicts.Typed.{EventTyped}
use Rattle.e3_trace.proofs.verdicts.Lookups.{lookup_same, lookup_other, nat_self, nat_ties, nat_apart, name_self, name_ties, name_apart}
use Rattle.e3_trace.proofs.verdicts.Telling.{Found, HasSites, event_tells}

-- the transactions that entries began
abbrev pub begun_of : List Entry → List Txn
begun_of h = flat_map (λ e. begun_in e.act) h

-- a transaction and a packet that are found
abbrev pub TxnFound : Known → Txn → Type 0
TxnFound known t = named known (t.site, (t.inc, t.seq)) ≡ Some t

abbrev pub PacketFound : Known → Packet → Type 0
PacketFound known p = packet_at known p.number ≡ Some p

-- these transactions and these packets are found
pub record Knows (known : Known) (begun : List Txn) (mail : List Packet) : Type 0 where
  pub txns : Each (TxnFound known) begun
  pub packets : Each (PacketFound known) mail

-- a packet that is sent is found, and so are those that were, with other numbers
sent_self : (known : Known) (p : Packet) → PacketFound (known_sent known p) p
unfolding packet_at
sent_self known p = lookup_same nat_cmp p.number p (nat_self p.number) known.sent

sent_other : (known : Known) (p q : Packet) → (q.number ≡ p.number → ⊥) → PacketFound known q → PacketFound (known_sent known p) q
unfolding packet_at
sent_other known p q apart found = lookup_other nat_cmp q.number p.number p (nat_apart q.number p.number apart) (λ a is. nat_ties p.number a is) known.sent ∙ found

sent_txn : (known : Known) (p : Packet) (t : Txn) → TxnFound known t → TxnFound (known_sent known p) t
unfolding named
sent_txn known p t found = found

-- all packets have numbers below this one
abbrev pub Below : ℕ → Packet → Type 0
Below n p = p.number < n

pub outs_known : (known : Known) (begun : List Txn) (old : List Packet) (n : ℕ) (ps : List Packet) → Knows known begun old → Each (Below n) old →
    Knows (known_outs known (numbered n ps)) begun (old ++ numbered n ps)
outs_known known begun old n [] was low = let R : List Packet → Type 0 = Knows known begun in subst R (sym (append-nil old)) was
outs_known known begun old n (p ∷ ps) was low =
    let q : Packet = record p { number = n } in
    let R : List Packet → Type 0 = Knows (known_outs (known_sent known q) (numbered (suc n) ps)) begun in
    subst R (append_assoc old (q ∷ []) (numbered (suc n) ps)) (outs_known (known_sent known q) begun (old ++ q ∷ []) (suc n) ps
    (record {
      txns = each-weaker (TxnFound known) (TxnFound (known_sent known q)) (λ t found. sent_txn known q t found) begun was.txns;
      packets = each-push (PacketFound (known_sent known q)) old q (others old low was.packets) (sent_self known q);
    })
    (each-push (Below (suc n)) old q (each-weaker (Below n) (Below (suc n)) (λ x less. omega (arith, less)) old low) (omega arith)))
  where
    others : (l : List Packet) → Each (Below n) l → Each (PacketFound known) l → Each (PacketFound (known_sent known (record p { number = n }))) l
    others [] less found = tt
    others (x ∷ l) less found =
        let under : x.number < n = less.0 in
        (sent_other known (record p { number = n }) x (λ same. absurd (omega (arith, under, same))) found.0, others l less.1 found.1)

-- the numbers of packets that are sent
numbered_below : (n : ℕ) (ps : List Packet) → Each (Below (n + length ps)) (numbered n ps)
numbered_below n [] = tt
numbered_below n (p ∷ ps) =
    (omega arith, each-weaker (Below (suc n + length ps)) (Below (n + suc (length ps))) (λ x less. omega (arith, less)) (numbered (suc n) ps) (numbered_below (suc n) ps))

numbered_length : (n : ℕ) (ps : List Packet) → length (numbered n ps) ≡ length ps
numbered_length n [] = refl
numbered_length n (p ∷ ps) = ap suc (numbered_length (suc n) ps)

pub numbered_low : (n : ℕ) (ps : List Packet) → Each (Below (n + length (numbered n ps))) (numbered n ps)
numbered_low n ps = let B : ℕ → Type 0 = λ m. Each (Below (n + m)) (numbered n ps) in subst B (sym (numbered_length n ps)) (numbered_below n ps)

-- a transaction that is told as begun is found, and so are those that were, with other names
abbrev name_of : Txn → TxnName
name_of t = (t.site, (t.inc, t.seq))

told_self : (known : Known) (t : Txn) → TxnFound (known_told known (told.Began t)) t
unfolding named known_told
told_self known t = ap (option_map (txn_from (name_of t))) (lookup_same name_cmp (name_of t) t.sites (name_self (name_of t)) known.begun)

told_other : (known : Known) (t u : Txn) → DifferInName u t → TxnFound known u → TxnFound (known_told known (told.Began t)) u
unfolding named known_told
told_other known t u differ found =
    ap (option_map (txn_from (name_of u))) (lookup_other name_cmp (name_of u) (name_of t) t.sites
    (name_apart (name_of u) (name_of t) (λ same. differ (ap (λ (x : TxnName). x.0) same) (ap (λ (x : TxnName). x.1.0) same) (ap (λ (x : TxnName). x.1.1) same)))
    (λ a is. name_ties (name_of t) a is) known.begun) ∙ found

told_packet : (known : Known) (e : Told) (p : Packet) → PacketFound known p → PacketFound (known_told known e) p
unfolding packet_at known_told
told_packet known (told.Began t) p found = found
told_packet known e p found = found

-- those before one differ from it
differ_front : (xs ys : List Txn) (y : Txn) → AllDiffer (xs ++ y ∷ ys) → Each (λ x. DifferInName x y) xs
differ_front [] ys y all = tt
differ_front (x ∷ xs) ys y all = ((each-right (DifferInName x) xs (y ∷ ys) all.0).0, differ_front xs ys y all.1)

-- an event that begins nothing
kept : (known : Known) (begun : List Txn) (packets : List Packet) (e : Told) → known_told known e ≡ known → began_in e ≡ [] → Knows known begun packets →
    Knows (known_told known e) (begun ++ began_in e) packets
kept known begun packets e same none was =
    let R : Known → Type 0 = λ k. Knows k (begun ++ began_in e) packets in
    let Q : List Txn → Type 0 = λ l. Knows known l packets in
    subst R (sym same) (subst Q (sym (ap (λ l. begun ++ l) none ∙ append-nil begun)) was)

-- what is found behind an event
told_knows : (known : Known) (begun : List Txn) (packets : List Packet) (e : Told) (more : List Txn) → Knows known begun packets → AllDiffer (begun ++ (began_in e ++ more)) →
    Knows (known_told known e) (begun ++ began_in e) packets
unfolding known_told
told_knows known begun packets (told.Began t) more was differ = record {
  txns = each-push (TxnFound (known_told known (told.Began t))) begun t (others begun (differ_front begun more t differ) was.txns) (told_self known t);
  packets = each-weaker (PacketFound known) (PacketFound (known_told known (told.Began t))) (told_packet known (told.Began t)) packets was.packets;
}
  where
    others : (l : List Txn) → Each (λ u. DifferInName u t) l → Each (TxnFound known) l → Each (TxnFound (known_told known (told.Began t))) l
    others [] apart found = tt
    others (u ∷ l) apart found = (told_other known t u apart.0 found.0, others l apart.1 found.1)
told_knows known begun packets (told.Op t n answer) more was differ = kept known begun packets (told.Op t n answer) refl refl was
told_knows known begun packets (told.Ended t dir) more was differ = kept known begun packets (told.Ended t dir) refl refl was
told_knows known begun packets (told.Died t older) more was differ = kept known begun packets (told.Died t older) refl refl was
told_knows known begun packets (told.Doomed t site had now) more was differ = kept known begun packets (told.Doomed t site had now) refl refl was
told_knows known begun packets (told.Refused t why) more was differ = kept known begun packets (told.Refused t why) refl refl was
told_knows known begun packets (told.Kept t state) more was differ = kept known begun packets (told.Kept t state) refl refl was
told_knows known begun packets (told.Verdict t n v) more was differ = kept known begun packets (told.Verdict t n v) refl refl was

-- the events of a step, each behind those before it: they mention only these
pub record Heard (known : Known) (begun : List Txn) (packets : List Packet) (events : List Told) : Type 0 where
  pub tell : EventsTell known events
  pub knows : Knows (known_events known events) (begun ++ flat_map began_in events) packets

-- a mention of one of these transactions, or of a value that stands in one line
abbrev pub Among : List Txn → Mention → Type 0
Among first (OfTxn t) = Contains first t
Among first (OfVal val) = lacks feed val ≡ true

pub among_found : (known : Known) (begun : List Txn) (x : Mention) → Each (TxnFound known) begun → Among begun x → Found known x
among_found known begun (OfTxn t) found has = each-at (TxnFound known) begun t found has
among_found known begun (OfVal val) found is = is

among_more : (first more : List Txn) (x : Mention) → Among first x → Among (first ++ more) x
among_more first more (OfTxn t) has = Contains-append_left first more t has
among_more first more (OfVal val) is = is

pub events_heard : (known : Known) (begun : List Txn) (packets : List Packet) (events : List Told) → Knows known begun packets → AllDiffer (begun ++ flat_map began_in events) →
    Each EventTyped events → Each (λ e. Each (Among begun) (of_event e)) events → Each HasSites events → Heard known begun packets events
events_heard known begun packets [] was differ typed mentions sites = record {
  tell = tt;
  knows = let R : List Txn → Type 0 = λ l. Knows known l packets in subst R (sym (append-nil begun)) was;
}
events_heard known begun packets (e ∷ events) was differ typed mentions sites =
    let next : Knows (known_told known e) (begun ++ began_in e) packets = told_knows known begun packets e (flat_map began_in events) was differ in
    let A : List Txn → Type 0 = AllDiffer in
    let rest : Heard (known_told known e) (begun ++ began_in e) packets events = events_heard (known_told known e) (begun ++ began_in e) packets events next
    (subst A (sym (append_assoc begun (began_in e) (flat_map began_in events))) differ) typed.1
    (each-weaker (λ x. Each (Among begun) (of_event x)) (λ x. Each (Among (begun ++ began_in e)) (of_event x))
    (λ x all. each-weaker (Among begun) (Among (begun ++ began_in e)) (among_more begun (began_in e)) (of_event x) all) events mentions.1) sites.1 in
    let R : List Txn → Type 0 = λ l. Knows (known_events (known_told known e) events) l packets in
    record {
      tell = (event_tells known e typed.0 (each-weaker (Among begun) (Found known) (λ x is. among_found known begun x was.txns is) (of_event e) mentions.0) sites.0, rest.tell);
      knows = subst R (append_assoc begun (began_in e) (flat_map began_in events)) rest.knows;
    }

-- a transaction that was begun is one of those that the entries began
pub begun_has : (h : List Entry) (t : Txn) → WasBegun h t → Contains (begun_of h) t
begun_has h t was = each-at (Contains (begun_of h)) (flat_map (λ e. begun_in e.act) (own_entries t.site h)) t
    (each-join (Contains (begun_of h)) (λ e. begun_in e.act) (own_entries t.site h)
    (each-filter (λ e. Each (Contains (begun_of h)) (begun_in e.act)) (λ e. e.owner == t.site) h
    (each-unflat (Contains (begun_of h)) (λ e. begun_in e.act) h (each-within (begun_of h))))) was

-- what the moves of a trail begin is what the history began
kept_begins : (site : ℕ) (kept : Bool) (tail : Option Tail) → begun_by (kept_moves site kept tail) ≡ []
kept_begins site true (Some tail) = refl
kept_begins site true None = refl
kept_begins site false tail = refl

act_begins : (sc : Scenario) (site : ℕ) (w : Past) (act : Act) → begun_by (moves_of_act sc site w act) ≡ begun_in act
act_begins sc site w (Step i records outs events) = append-nil (flat_map began_in events)
act_begins sc site w (Rise kept inc) =
    flat_map-append (λ m. flat_map began_in (tells m)) (kept_moves site kept w.tail) (_ ∷ []) ∙ ap (λ l. l ++ []) (kept_begins site kept w.tail)
act_begins sc site w (RiseFall kept inc why) = kept_begins site kept w.tail
act_begins sc site w (Fall inputs records why) = refl
act_begins sc site w Miss = refl
act_begins sc site w Cut = refl
act_begins sc site w (Drop packet) = refl
act_begins sc site w (Parts parts) = refl
act_begins sc site w (Line number) = refl

after_begins : (sc : Scenario) (before rest : List Entry) → begun_by (trail_after sc before rest) ≡ begun_of rest
after_begins sc before [] = refl
after_begins sc before (e ∷ rest) =
    let w : Past = past_of sc e.owner (own_entries e.owner before) in
    flat_map-append (λ m. flat_map began_in (tells m)) (moves_of_act sc e.owner w e.act) (trail_after sc (before ++ e ∷ []) rest)
    ∙ ap (λ l. l ++ begun_by (trail_after sc (before ++ e ∷ []) rest)) (act_begins sc e.owner w e.act)
    ∙ ap (λ l. begun_in e.act ++ l) (after_begins sc (before ++ e ∷ []) rest)

pub trail_begins : (sc : Scenario) (h : List Entry) → begun_by (trail_of sc h) ≡ begun_of h
trail_begins sc h = after_begins sc [] h
