-- Why a step shows an answer.
use Rattle.std.proofs.Common.{◌≡◌, ◌⊎◌, inl, inr, ◌==◌, ◌++◌, ◌∷◌, [], ℕ, Bool, true, false, List, fold, map, drop, refl, sym, subst, ap, ◌∙◌, if◌then◌else◌}
use Rattle.std.specs.List.{list_any, AllByRecursion as Each}
use Rattle.std.proofs.lemmas.Bool.{true≢false}
use Rattle.e3_types.specs.declared.entries.Told.{Told}
use Rattle.e3_types.specs.declared.entries.Told.TheVariants as told
use Rattle.e3_types.specs.declared.messages.Message.{Message}
use Rattle.e3_types.specs.declared.messages.Message.TheVariants as msg
use Rattle.e3_types.specs.declared.messages.Packet.{Packet}
use Rattle.e3_types.specs.declared.records.Record.{Record}
use Rattle.e3_types.specs.declared.records.Record.TheVariants as log
use Rattle.e3_types.specs.declared.transactions.Answer.{Answer}
use Rattle.e3_types.specs.declared.transactions.Op.{Op}
use Rattle.e3_types.specs.declared.transactions.Txn.{Txn}
use Rattle.e3_world.specs.declared.lives.Asked.{Asked}
use Rattle.e3_world.specs.declared.lives.At.{At}
use Rattle.e3_world.specs.declared.lives.Made.{Made}
use Rattle.e3_world.specs.Making.{nothing, and_record, and_tell, and_send, answer_now, and_do, grants_after, decides, and_grant, and_grants}
use Rattle.e3_world.specs.Operations.{done}
use Rattle.e3_laws.proofs.serial.Step.Rules.{IsNews, IsWord, Hearing, Locking, Repeating, Ruled, Start, Notes, Decides, Votes, Tells, Says, Asks, Issues, Rule, Otherwise, Hears, Locks, Repeats, TellsOwn, Shaped}
use Rattle.e3_laws.proofs.serial.Lists.Entries.{In}
use Rattle.e3_laws.proofs.serial.Lists.Members.{in_append}
use Rattle.e3_laws.proofs.serial.Lists.Facts.{is_in}

-- an answer that a step shows so far: told, sent, or for its own site
pub data Shows (made : Made) (t : Txn) (n : ℕ) (v : Answer) : Type 0 where
  InTold : In (told.Op t n v) made.told → Shows made t n v
  InOuts : (p : Packet) (inc : ℕ) → In p made.outs → p.msg ≡ msg.Done t n inc v → Shows made t n v
  InOwn : (inc : ℕ) → In (msg.Done t n inc v) made.own → Shows made t n v

shows_send : (a : At) (to : ℕ) (m : Message) (made : Made) (t : Txn) (n : ℕ) (v : Answer) → Shows (and_send a to m made) t n v → Shows made t n v ⊎ ((inc : ℕ) × (m ≡ msg.Done t n inc v))
shows_send a to m made t n v h = by (to == a.site) refl
  where
    last_own : (inc : ℕ) → In (msg.Done t n inc v) made.own ⊎ In (msg.Done t n inc v) (m ∷ []) → Shows made t n v ⊎ ((inc : ℕ) × (m ≡ msg.Done t n inc v))
    last_own inc (inl k) = inl (InOwn inc k)
    last_own inc (inr (inl e)) = inr (inc, e)
    last_own inc (inr (inr k)) = absurd k

    last_out : (p : Packet) (inc : ℕ) → p.msg ≡ msg.Done t n inc v → In p made.outs ⊎ In p (record { number = 0; «from» = a.site; to = to; msg = m } ∷ []) → Shows made t n v ⊎ ((inc : ℕ) × (m ≡ msg.Done t n inc v))
    last_out p inc is (inl k) = inl (InOuts p inc k is)
    last_out p inc is (inr (inl e)) = inr (inc, ap (λ (z : Packet). z.msg) e ∙ is)
    last_out p inc is (inr (inr k)) = absurd k

    true_case : Shows (record made { own = made.own ++ m ∷ [] }) t n v → Shows made t n v ⊎ ((inc : ℕ) × (m ≡ msg.Done t n inc v))
    true_case (InTold k) = inl (InTold k)
    true_case (InOuts p inc k is) = inl (InOuts p inc k is)
    true_case (InOwn inc k) = last_own inc (in_append made.own (m ∷ []) (msg.Done t n inc v) k)

    false_case : Shows (record made { outs = made.outs ++ record { number = 0; «from» = a.site; to = to; msg = m } ∷ [] }) t n v → Shows made t n v ⊎ ((inc : ℕ) × (m ≡ msg.Done t n inc v))
    false_case (InTold k) = inl (InTold k)
    false_case (InOuts p inc k is) = last_out p inc is (in_append made.outs (record { number = 0; «from» = a.site; to = to; msg = m } ∷ []) p k)
    false_case (InOwn inc k) = inl (InOwn inc k)

    by : (b : Bool) → (to == a.site) ≡ b → Shows made t n v ⊎ ((inc : ℕ) × (m ≡ msg.Done t n inc v))
    by true is = true_case (subst (λ b. Shows (if b then record made { own = made.own ++ m ∷ [] } else record made { outs = made.outs ++ record { number = 0; «from» = a.site; to = to; msg = m } ∷ [] }) t n v) is h)
    by false is = false_case (subst (λ b. Shows (if b then record made { own = made.own ++ m ∷ [] } else record made { outs = made.outs ++ record { number = 0; «from» = a.site; to = to; msg = m } ∷ [] }) t n v) is h)

word_no_answer : (m : Message) (t : Txn) (n inc : ℕ) (v : Answer) → IsWord m → m ≡ msg.Done t n inc v → ⊥
word_no_answer m t n inc v word is = subst (λ z. IsWord z) is word

shows_nothing : (t : Txn) (n : ℕ) (v : Answer) → Shows nothing t n v → ⊥
shows_nothing t n v (InTold k) = k
shows_nothing t n v (InOuts p inc k is) = k
shows_nothing t n v (InOwn inc k) = k

shows_record : (r : Record) (made : Made) (t : Txn) (n : ℕ) (v : Answer) → Shows (and_record r made) t n v → Shows made t n v
shows_record r made t n v (InTold k) = InTold k
shows_record r made t n v (InOuts p inc k is) = InOuts p inc k is
shows_record r made t n v (InOwn inc k) = InOwn inc k

shows_tell : (e : Told) (made : Made) (t : Txn) (n : ℕ) (v : Answer) → Shows (and_tell e made) t n v → Shows made t n v ⊎ (e ≡ told.Op t n v)
shows_tell e made t n v (InTold k) = elim (in_append made.told (e ∷ []) (told.Op t n v) k) [
  | inl old ↦ inl (InTold old)
  | inr last ↦ elim last [ inl is ↦ inr is | inr none ↦ absurd none ]
]
shows_tell e made t n v (InOuts p inc k is) = inl (InOuts p inc k is)
shows_tell e made t n v (InOwn inc k) = inl (InOwn inc k)

-- a rule that is none of the three shows none
ruled_shows : (a : At) (made : Made) (t : Txn) (n : ℕ) (v : Answer) → Ruled a made → Shows made t n v → ⊥
ruled_shows a _ t n v Start h = shows_nothing t n v h
ruled_shows a _ t n v (Notes r made note k) h = ruled_shows a made t n v k (shows_record r made t n v h)
ruled_shows a _ t n v (Decides u dir made still k) h = ruled_shows a made t n v k (shows_record (log.Decision u dir) made t n v h)
ruled_shows a _ t n v (Votes u idle cause) h = shows_nothing t n v (shows_record (log.Vote u (map (λ p. record { n = p.n; op = p.op }) (done a.site u a.life.steps))) nothing t n v h)
ruled_shows a _ t n v (Tells e made news k) h = elim (shows_tell e made t n v h) [
  | inl old ↦ ruled_shows a made t n v k old
  | inr is ↦ absurd (subst (λ z. IsNews z) is news)
]
ruled_shows a _ t n v (Says to m made away word k) h = elim (shows_send a to m made t n v h) [
  | inl old ↦ ruled_shows a made t n v k old
  | inr is ↦ word_no_answer m t n is.0 v word is.1
]
ruled_shows a _ t n v (Asks to u made away commits voted k) h = elim (shows_send a to _ made t n v h) [
  | inl old ↦ ruled_shows a made t n v k old
  | inr is ↦ absurd (cc)
]
ruled_shows a _ t n v (Issues to u op away takes allowed) h = elim (shows_send a to _ nothing t n v h) [
  | inl old ↦ shows_nothing t n v old
  | inr is ↦ absurd (cc)
]

-- why a step shows an answer
pub data Cause (a : At) (rule : Made) (t : Txn) (n : ℕ) (v : Answer) : Type 0 where
  Heard : Hearing a t n v → rule ≡ and_tell (told.Op t n v) nothing → Cause a rule t n v
  Locked : (op : Op) → Locking a t n op → v ≡ answer_now a t op nothing → rule ≡ and_do a t n op nothing → Cause a rule t n v
  Repeated : Repeating a t n v → rule ≡ and_send a t.site (msg.Done t n a.life.inc v) nothing → Cause a rule t n v
  Granted : (g : Asked) (before after : List Asked) → grants_after a rule ≡ before ++ g ∷ after → g.txn ≡ t → g.n ≡ n →
      v ≡ answer_now a g.txn g.op (fold (and_grant a) rule before) → list_any decides rule.records ≡ true → Ruled a rule → Cause a rule t n v

rule_shows : (a : At) (rule : Made) (t : Txn) (n : ℕ) (v : Answer) → Rule a rule → Shows rule t n v → Cause a rule t n v
rule_shows a _ t n v (Otherwise made k) h = absurd (ruled_shows a made t n v k h)
rule_shows a _ t n v (Hears u m w hearing) h = elim (shows_tell (told.Op u m w) nothing t n v h) [
  | inl old ↦ absurd (shows_nothing t n v old)
  | inr is ↦ (
      let p : u ≡ t = cc in let q : m ≡ n = cc in let x : w ≡ v = cc in
      Heard (subst (λ z. Hearing a t n z) x (subst (λ z. Hearing a t z w) q (subst (λ z. Hearing a z m w) p hearing))) (λ i. and_tell (told.Op (p i) (q i) (x i)) nothing))
]
rule_shows a _ t n v (Locks u m op locking) h = elim (shows_send a u.site _ nothing t n v h) [
  | inl old ↦ absurd (shows_nothing t n v old)
  | inr is ↦ locked is.0 is.1
]
  where
    locked : (inc : ℕ) → msg.Done u m a.life.inc (answer_now a u op nothing) ≡ msg.Done t n inc v → Cause a (and_do a u m op nothing) t n v
    locked inc is =
        let p : u ≡ t = cc in let q : m ≡ n = cc in let x : answer_now a u op nothing ≡ v = cc in
        Locked op (subst (λ z. Locking a t z op) q (subst (λ z. Locking a z m op) p locking)) (sym x ∙ ap (λ z. answer_now a z op nothing) p) (λ i. and_do a (p i) (q i) op nothing)
rule_shows a _ t n v (Repeats u m w repeating) h = elim (shows_send a u.site _ nothing t n v h) [
  | inl old ↦ absurd (shows_nothing t n v old)
  | inr is ↦ repeated is.0 is.1
]
  where
    repeated : (inc : ℕ) → msg.Done u m a.life.inc w ≡ msg.Done t n inc v → Cause a (and_send a u.site (msg.Done u m a.life.inc w) nothing) t n v
    repeated inc is =
        let p : u ≡ t = cc in let q : m ≡ n = cc in let x : w ≡ v = cc in
        Repeated (subst (λ z. Repeating a t n z) x (subst (λ z. Repeating a t z w) q (subst (λ z. Repeating a z m w) p repeating)))
        (λ i. and_send a (p i).site (msg.Done (p i) (q i) a.life.inc (x i)) nothing)

-- a grant among those that are made one after the other
pub record GrantedAt (a : At) (made : Made) (qs : List Asked) (t : Txn) (n : ℕ) (v : Answer) : Type 0 where
  pub g : Asked
  pub before : List Asked
  pub after : List Asked
  pub split : qs ≡ before ++ g ∷ after
  pub txn : g.txn ≡ t
  pub number : g.n ≡ n
  pub answer : v ≡ answer_now a g.txn g.op (fold (and_grant a) made before)

grant_shows : (a : At) (qs : List Asked) (made : Made) (t : Txn) (n : ℕ) (v : Answer) → Shows (fold (and_grant a) made qs) t n v → Shows made t n v ⊎ GrantedAt a made qs t n v
grant_shows a [] made t n v h = inl h
grant_shows a (q ∷ qs) made t n v h = by (grant_shows a qs (and_grant a made q) t n v h)
  where
    first : (inc : ℕ) → msg.Done q.txn q.n a.life.inc (answer_now a q.txn q.op made) ≡ msg.Done t n inc v → GrantedAt a made (q ∷ qs) t n v
    first inc is = record { g = q; before = []; after = qs; split = refl; txn = (let p : q.txn ≡ t = cc in p); number = (let p : q.n ≡ n = cc in p); answer = (let p : answer_now a q.txn q.op made ≡ v = cc in sym p) }

    by : Shows (and_grant a made q) t n v ⊎ GrantedAt a (and_grant a made q) qs t n v → Shows made t n v ⊎ GrantedAt a made (q ∷ qs) t n v
    by (inl k) = elim (shows_send a q.txn.site _ made t n v k) [ inl old ↦ inl old | inr is ↦ inr (first is.0 is.1) ]
    by (inr g) = inr (record { g = g.g; before = q ∷ g.before; after = g.after; split = ap (λ z. q ∷ z) g.split; txn = g.txn; number = g.number; answer = g.answer })

-- a rule that grants is none of the three
ruled_from : (a : At) (rule : Made) → Rule a rule → list_any decides rule.records ≡ true → Ruled a rule
ruled_from a _ (Otherwise made k) h = k
ruled_from a _ (Hears t n v k) h = absurd (true≢false (sym h))
ruled_from a _ (Locks t n op k) h = absurd (true≢false (sym h ∙ sent_records (t.site == a.site)))
  where
    sent_records : (b : Bool) → list_any decides (if b then record nothing { own = msg.Done t n a.life.inc (answer_now a t op nothing) ∷ [] }
        else record nothing { outs = record { number = 0; «from» = a.site; to = t.site; msg = msg.Done t n a.life.inc (answer_now a t op nothing) } ∷ [] }).records ≡ false
    sent_records true = refl
    sent_records false = refl
ruled_from a _ (Repeats t n v k) h = absurd (true≢false (sym h ∙ sent_records (t.site == a.site)))
  where
    sent_records : (b : Bool) → list_any decides (if b then record nothing { own = msg.Done t n a.life.inc v ∷ [] }
        else record nothing { outs = record { number = 0; «from» = a.site; to = t.site; msg = msg.Done t n a.life.inc v } ∷ [] }).records ≡ false
    sent_records true = refl
    sent_records false = refl

grants_shows : (a : At) (rule : Made) (t : Txn) (n : ℕ) (v : Answer) → Rule a rule → Shows (and_grants a 0 rule) t n v → Cause a rule t n v
grants_shows a rule t n v k h = by (list_any decides (drop 0 rule.records)) refl
  where
    granted_case : list_any decides rule.records ≡ true → Shows (fold (and_grant a) rule (grants_after a rule)) t n v → Cause a rule t n v
    granted_case is s = elim (grant_shows a (grants_after a rule) rule t n v s) [
      | inl old ↦ rule_shows a rule t n v k old
      | inr g ↦ Granted g.g g.before g.after g.split g.txn g.number g.answer is (ruled_from a rule k is)
    ]

    by : (b : Bool) → list_any decides (drop 0 rule.records) ≡ b → Cause a rule t n v
    by true is = granted_case is (subst (λ z. Shows z t n v) (let e : and_grants a 0 rule ≡ fold (and_grant a) rule (grants_after a rule) = rw is refl in e) h)
    by false is = rule_shows a rule t n v k (subst (λ z. Shows z t n v) (let e : and_grants a 0 rule ≡ rule = rw is refl in e) h)

pub in_each : {X : Type 0} (P : X → Type 0) (xs : List X) (x : X) → Each P xs → In x xs → P x
in_each P [] x all h = absurd h
in_each P (y ∷ xs) x all (inl e) = subst P e all.0
in_each P (y ∷ xs) x all (inr k) = in_each P xs x all.1 k

-- an answer that a step tells or sends, with its cause
pub told_cause : (a : At) (made : Made) (s : Shaped a made) (t : Txn) (n : ℕ) (v : Answer) → In (told.Op t n v) made.told → Cause a s.rule t n v
told_cause a made s t n v h =
    elim (in_append (and_grants a 0 s.rule).told s.events (told.Op t n v) (subst (λ z. In (told.Op t n v) z) s.told h)) [
      | inl old ↦ grants_shows a s.rule t n v s.ruled (InTold old)
      | inr new ↦ from_own (in_each (TellsOwn (and_grants a 0 s.rule).own) s.events (told.Op t n v) s.from_own new)
    ]
  where
    from_own : TellsOwn (and_grants a 0 s.rule).own (told.Op t n v) → Cause a s.rule t n v
    from_own k =
        let is : told.Op t n v ≡ told.Op k.0 k.1 k.3 = k.4 in
        let p : k.0 ≡ t = cc in let q : k.1 ≡ n = cc in let x : k.3 ≡ v = cc in
        grants_shows a s.rule t n v s.ruled (InOwn k.2 (subst (λ z. In z (and_grants a 0 s.rule).own) (λ i. msg.Done (p i) (q i) k.2 (x i)) (is_in _ (and_grants a 0 s.rule).own k.5)))

pub sent_cause : (a : At) (made : Made) (s : Shaped a made) (t : Txn) (n inc : ℕ) (v : Answer) (p : Packet) → In p made.outs → p.msg ≡ msg.Done t n inc v → Cause a s.rule t n v
sent_cause a made s t n inc v p h is = grants_shows a s.rule t n v s.ruled (InOuts p inc (subst (λ z. In p z) s.outs h) is)
