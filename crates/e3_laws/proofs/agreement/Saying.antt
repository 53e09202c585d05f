-- What a step tells as decided, as far as the step is made, stands in its site's log.
use Rattle.std.proofs.Common.{◌∙◌, ap, sym, ◌+◌, arith, cond, count_by, ◌≡◌, ◌⊎◌, inl, inr, ◌∷◌, [], ◌++◌, ◌==◌, ◌&&◌, ℕ, Bool, true, false, List, fold, map, refl, sym, subst}
use Rattle.std.specs.Prelude.{drop}
use Rattle.std.specs.List.{list_all, list_any}
use Rattle.e3_types.specs.declared.entries.Told.{Told}
use Rattle.e3_types.specs.declared.entries.Told.TheVariants as told
use Rattle.e3_types.specs.declared.messages.Message.{Message}
use Rattle.e3_types.specs.declared.messages.Message.TheVariants as msg
use Rattle.e3_types.specs.declared.records.Record.{Record}
use Rattle.e3_types.specs.declared.records.Record.TheVariants as log
use Rattle.e3_types.specs.declared.transactions.Dir.{Dir}
use Rattle.e3_types.specs.declared.transactions.Dir.TheVariants.{Abort}
use Rattle.e3_types.specs.declared.transactions.Op.{Op}
use Rattle.e3_types.specs.declared.transactions.Txn.{Txn}
use Rattle.e3_types.specs.Quorums.{is_quorum}
use Rattle.e3_world.specs.declared.lives.Asked.{Asked}
use Rattle.e3_world.specs.declared.lives.At.{At}
use Rattle.e3_world.specs.declared.lives.Made.{Made}
use Rattle.e3_world.specs.Making.{nothing, log_now, is_coordinator, is_present, may_attempt, and_record, and_tell, and_send, and_cast, and_decide, and_abort, and_abort_for, and_attempt, go_on, and_vote, and_do, and_grant, and_grants, grants_after, decides, answer_now}
use Rattle.e3_world.specs.Operations.{done}
use Rattle.e3_world.specs.Safe.{Said, says, said_told}
use Rattle.e3_laws.specs.agreement.Logs.{IsIn}
use Rattle.e3_types.specs.declared.messages.Packet.{Packet}
use Rattle.std.proofs.lemmas.List.Sums.{sum_by-cons, sum_by-append, sum_by_push}
use Rattle.e3_laws.specs.agreement.Facts.{is_report_for, reports_in}
use Rattle.e3_laws.proofs.agreement.Refinement.Lists.{in_left, in_right}
use Rattle.e3_laws.proofs.steps.Lists.{one_more}
use Rattle.e3_laws.proofs.agreement.Protocol.Reached.{in_parts}

-- the decision that is said is among the records
abbrev pub Stood : List Record → Said → Type 0
Stood records s = IsIn (log.Decision s.txn s.dir) records

-- all that the event says as decided is among the records
abbrev pub AllStood : List Record → Told → Type 0
AllStood records e = (s : Said) → IsIn s (said_told e) → Stood records s

-- a message that belongs to no election
abbrev pub is_quiet : Message → Bool
is_quiet (msg.Report t n st attempt) = false
is_quiet (msg.LastElected t call elected) = false
is_quiet (msg.Ask t call) = false
is_quiet (msg.Elected t n) = false
is_quiet m = true

-- the packets have no report for this number of the transaction, or one, and the records have the join
abbrev pub ReportsOnce : Txn → ℕ → List Packet → List Record → Type 0
ReportsOnce t n outs records = (count_by (reports_in t n) outs ≡ 0) ⊎ ((count_by (reports_in t n) outs ≡ 1) × IsIn (log.Join t n) records)

-- what the step told stands in the log with its records; what it has for its own site belongs to no election; and it
-- reports once, where it joins
pub record Tells (a : At) (made : Made) : Type 0 where
  pub told : (e : Told) → IsIn e made.told → AllStood (log_now a made) e
  pub own : list_all is_quiet made.own ≡ true
  pub once : (t : Txn) (n : ℕ) → ReportsOnce t n made.outs made.records

pub tells_nothing : (a : At) → Tells a nothing
tells_nothing a = record { told = λ e k. absurd k; own = refl; once = λ t n. inl refl }

-- what stands in the log goes on to stand with one more record
pub stood_more : (a : At) (made : Made) (r q : Record) → IsIn q (log_now a made) → IsIn q (log_now a (and_record r made))
stood_more a made r q k = by (in_parts q a.life.log made.records k)
  where
    by : IsIn q a.life.log ⊎ IsIn q made.records → IsIn q (log_now a (and_record r made))
    by (inl old) = in_left q a.life.log (made.records ++ r ∷ []) old
    by (inr new) = in_right q a.life.log (made.records ++ r ∷ []) (in_left q made.records (r ∷ []) new)

-- the record itself
pub stood_last : (a : At) (made : Made) (r : Record) → IsIn r (log_now a (and_record r made))
stood_last a made r = in_right r a.life.log (made.records ++ r ∷ []) (in_right r made.records (r ∷ []) (inl refl))

pub tells_record : (a : At) (made : Made) (r : Record) → Tells a made → Tells a (and_record r made)
tells_record a made r t = record {
  told = λ e k s j. stood_more a made r (log.Decision s.txn s.dir) (t.told e k s j);
  own = t.own;
  once = λ u n. by u n (t.once u n);
}
  where
    by : (u : Txn) (n : ℕ) → ReportsOnce u n made.outs made.records → ReportsOnce u n made.outs (made.records ++ r ∷ [])
    by u n (inl none) = inl none
    by u n (inr one) = inr (one.0, in_left (log.Join u n) made.records (r ∷ []) one.1)

-- one more event, whose decisions stand
pub tells_tell : (a : At) (made : Made) (e : Told) → Tells a made → AllStood (log_now a made) e → Tells a (and_tell e made)
tells_tell a made e t all = record { told = λ x k. by x (in_parts x made.told (e ∷ []) k); own = t.own; once = t.once }
  where
    by : (x : Told) → IsIn x made.told ⊎ IsIn x (e ∷ []) → AllStood (log_now a made) x
    by x (inl k) = t.told x k
    by x (inr (inl same)) = subst (λ (z : Told). AllStood (log_now a made) z) (sym same) all
    by x (inr (inr k)) = absurd k

-- one, if it is so
abbrev pub one_if : Bool → ℕ
one_if b = cond b 1 0

-- counts of packets
pub count_cons : (f : Packet → Bool) (p : Packet) (ps : List Packet) → count_by f (p ∷ ps) ≡ one_if (f p) + count_by f ps
count_cons f p ps = sum_by-cons (λ q. one_if (f q)) p ps

pub count_append : (f : Packet → Bool) (xs ys : List Packet) → count_by f (xs ++ ys) ≡ count_by f xs + count_by f ys
count_append f xs ys = sum_by-append (λ q. one_if (f q)) xs ys

count_push : (f : Packet → Bool) (ps : List Packet) (p : Packet) → count_by f (ps ++ p ∷ []) ≡ count_by f ps + one_if (f p)
count_push f ps p = sum_by_push (λ q. one_if (f q)) ps p

-- a message is no report
abbrev pub IsNoReport : Message → Type 0
IsNoReport m = (t : Txn) (n : ℕ) → is_report_for t n m ≡ false

-- one more packet, with another message
other_packet : (a : At) (made : Made) (to : ℕ) (m : Message) → IsNoReport m → ((t : Txn) (n : ℕ) → ReportsOnce t n made.outs made.records)
    → (t : Txn) (n : ℕ) → ReportsOnce t n (made.outs ++ record { number = 0; «from» = a.site; to = to; msg = m } ∷ []) made.records
other_packet a made to m other once t n = by (once t n)
  where
    p : Packet
    p = record { number = 0; «from» = a.site; to = to; msg = m }

    same : count_by (reports_in t n) (made.outs ++ p ∷ []) ≡ count_by (reports_in t n) made.outs
    same = let none : one_if (is_report_for t n m) ≡ 0 = ap (λ b. one_if b) (other t n) in count_push (reports_in t n) made.outs p ∙ omega (arith, none)

    by : ReportsOnce t n made.outs made.records → ReportsOnce t n (made.outs ++ p ∷ []) made.records
    by (inl none) = inl (same ∙ none)
    by (inr one) = inr (same ∙ one.0, one.1)

pub tells_send : (a : At) (made : Made) (to : ℕ) (m : Message) → Tells a made → ((to == a.site) ≡ true → is_quiet m ≡ true) → IsNoReport m → Tells a (and_send a to m made)
tells_send a made to m t quiet other = by (to == a.site) refl
  where
    by : (b : Bool) → (to == a.site) ≡ b → Tells a (and_send a to m made)
    by true is = rw is (record { told = t.told; own = one_more is_quiet made.own m t.own (quiet is); once = t.once })
    by false is = rw is (record { told = t.told; own = t.own; once = other_packet a made to m other t.once })

pub tells_cast : (a : At) (sites : List ℕ) (m : Message) (made : Made) → IsNoReport m → Tells a made → Tells a (and_cast a sites m made)
tells_cast a [] m made other t = t
tells_cast a (s ∷ sites) m made other t = by (λ more kept. tells_cast a sites m more other kept) (s == a.site) refl
  where
    by : ((more : Made) → Tells a more → Tells a (and_cast a sites m more)) → (b : Bool) → (s == a.site) ≡ b → Tells a (and_cast a (s ∷ sites) m made)
    by rest true is = rw is (rest made t)
    by rest false is = rw (is, is) (rest (record made { outs = made.outs ++ record { number = 0; «from» = a.site; to = s; msg = m } ∷ [] }) (record { told = t.told; own = t.own; once = other_packet a made s m other t.once }))

-- what says one decision alone stands where that one stands
pub one_said : (records : List Record) (u : Txn) (d : Dir) → IsIn (log.Decision u d) records → (s : Said) → IsIn s (says u d) → Stood records s
one_said records u d k s (inl e) = subst (λ (z : Said). Stood records z) (sym e) k
one_said records u d k s (inr e) = absurd e

pub tells_decide : (a : At) (made : Made) (u : Txn) (d : Dir) → Tells a made → Tells a (and_decide a u d made)
tells_decide a made u d t = by (is_coordinator a u && is_present a u) refl
  where
    noted : Tells a (and_record (log.Decision u d) made)
    noted = tells_record a made (log.Decision u d) t

    by : (b : Bool) → (is_coordinator a u && is_present a u) ≡ b → Tells a (and_decide a u d made)
    by true is = rw is (tells_tell a (and_record (log.Decision u d) made) (told.Ended u d) noted
        (one_said (log_now a (and_record (log.Decision u d) made)) u d (stood_last a made (log.Decision u d))))
    by false is = rw is noted

-- an event that says a decision which is recorded behind it
pub tells_decided : (a : At) (made : Made) (u : Txn) (d : Dir) (e : Told) → Tells a made → said_told e ≡ says u d → Tells a (and_decide a u d (and_tell e made))
tells_decided a made u d e t one = by (is_coordinator a u && is_present a u) refl
  where
    more : Made
    more = and_record (log.Decision u d) (and_tell e made)

    noted : Tells a more
    noted = tells_tell a (and_record (log.Decision u d) made) e (tells_record a made (log.Decision u d) t)
        (λ s k. one_said (log_now a (and_record (log.Decision u d) made)) u d (stood_last a made (log.Decision u d)) s (subst (λ z. IsIn s z) one k))

    by : (b : Bool) → (is_coordinator a u && is_present a u) ≡ b → Tells a (and_decide a u d (and_tell e made))
    by true is = rw is (tells_tell a more (told.Ended u d) noted (one_said (log_now a more) u d (stood_last a (and_tell e made) (log.Decision u d))))
    by false is = rw is noted

pub tells_abort : (a : At) (made : Made) (u : Txn) → Tells a made → Tells a (and_abort a u made)
tells_abort a made u t = tells_cast a u.sites (msg.Decide u Abort) (and_decide a u Abort made) (λ v k. refl) (tells_decide a made u Abort t)

pub tells_abort_for : (a : At) (made : Made) (u : Txn) (why : Told) → Tells a made → said_told why ≡ says u Abort → Tells a (and_abort_for a u why made)
tells_abort_for a made u why t one =
    tells_cast a u.sites (msg.Decide u Abort) (and_tell why (and_record (log.Decision u Abort) made)) (λ v k. refl)
    (tells_tell a (and_record (log.Decision u Abort) made) why (tells_record a made (log.Decision u Abort) t)
    (λ s k. one_said (log_now a (and_record (log.Decision u Abort) made)) u Abort (stood_last a made (log.Decision u Abort)) s (subst (λ z. IsIn s z) one k)))

pub tells_attempt : (a : At) (made : Made) (u : Txn) (n : ℕ) (d : Dir) (to : List ℕ) → Tells a made → Tells a (and_attempt a u n d to made)
tells_attempt a made u n d to t = by (may_attempt a u n made) refl
  where
    tried : Made
    tried = and_record (log.Attempt u n d) made

    noted : Tells a tried
    noted = tells_record a made (log.Attempt u n d) t

    on : (b : Bool) → is_quorum a.weights (a.site ∷ []) u.sites ≡ b → Tells a (go_on a u n d to tried)
    on true is = rw is (tells_cast a to (msg.Decide u d) (and_decide a u d tried) (λ v k. refl) (tells_decide a tried u d noted))
    on false is = rw is (tells_cast a to (msg.Pre u n d) tried (λ v k. refl) noted)

    by : (b : Bool) → may_attempt a u n made ≡ b → Tells a (and_attempt a u n d to made)
    by true is = rw is (on (is_quorum a.weights (a.site ∷ []) u.sites) refl)
    by false is = rw is t

pub tells_vote : (a : At) (made : Made) (u : Txn) → Tells a made → Tells a (and_vote a u made)
tells_vote a made u t = tells_record a made (log.Vote u (map (λ p. record { n = p.n; op = p.op }) (done a.site u a.life.steps))) t

pub tells_do : (a : At) (made : Made) (u : Txn) (n : ℕ) (op : Op) → Tells a made → Tells a (and_do a u n op made)
tells_do a made u n op t = tells_send a made u.site (msg.Done u n a.life.inc (answer_now a u op made)) t (λ is. refl) (λ v k. refl)

tells_granted : (a : At) (qs : List Asked) (made : Made) → Tells a made → Tells a (fold (and_grant a) made qs)
tells_granted a [] made t = t
tells_granted a (q ∷ qs) made t = tells_granted a qs (and_grant a made q) (tells_do a made q.txn q.n q.op t)

pub tells_grants : (a : At) (seen : ℕ) (made : Made) → Tells a made → Tells a (and_grants a seen made)
tells_grants a seen made t = by (list_any decides (drop seen made.records)) refl
  where
    by : (b : Bool) → list_any decides (drop seen made.records) ≡ b → Tells a (and_grants a seen made)
    by true is = rw is (tells_granted a (grants_after a made) made t)
    by false is = rw is t
