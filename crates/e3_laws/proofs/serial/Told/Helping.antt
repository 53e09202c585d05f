-- What a step of a site shows of its answers, and what is unanswered and expected with it.
use Rattle.std.proofs.Common.{◌≡◌, ◌⊎◌, inl, inr, ◌==◌, ◌&&◌, ◌++◌, ◌∷◌, [], ℕ, zero, suc, ◌≤◌, Bool, true, false, not, List, Some, None, length, fold, map, drop, refl, sym, subst, ap, ◌∙◌, if◌then◌else◌, eqb-true, eq-eqb, arith}
use Rattle.std.specs.Prelude.{slice_get}
use Rattle.std.specs.List.{list_any, flat_map}
use Rattle.std.proofs.lemmas.Bool.{and_parts, and_from, or_right, true≢false}
use Rattle.e3_types.specs.declared.entries.Input.{Input}
use Rattle.e3_types.specs.declared.entries.Input.TheVariants as input
use Rattle.e3_types.specs.declared.entries.Told.{Told}
use Rattle.e3_types.specs.declared.entries.Told.TheVariants as told
use Rattle.e3_types.specs.declared.messages.Message.{Message}
use Rattle.e3_types.specs.declared.messages.Message.TheVariants as msg
use Rattle.e3_types.specs.declared.messages.Packet.{Packet}
use Rattle.e3_types.specs.declared.records.Record.{Record}
use Rattle.e3_types.specs.declared.records.Record.TheVariants as log
use Rattle.e3_types.specs.declared.transactions.Answer.{Answer}
use Rattle.e3_types.specs.declared.transactions.Op.{Op}
use Rattle.e3_types.specs.declared.transactions.Txn.{Txn}
use Rattle.e3_types.specs.Same.{same_txn}
use Rattle.e3_laws.proofs.agreement.Refinement.Lists.{same_from}
use Rattle.e3_world.specs.declared.lives.Asked.{Asked}
use Rattle.e3_world.specs.declared.lives.At.{At}
use Rattle.e3_world.specs.declared.lives.Made.{Made}
use Rattle.e3_world.specs.declared.lives.Moment.{Moment}
use Rattle.e3_world.specs.Logs.{is_undecided, logged_inc}
use Rattle.e3_world.specs.Making.{nothing, and_send, grants_after, decides, and_grant, and_grants}
use Rattle.e3_world.specs.Operations.{is_refusal, issued, issued_in, nth_op, answer_told, answer_sent, answers, is_answered, tells_op, op_told, unanswered}
use Rattle.e3_world.specs.Steps.{step_at}
use Rattle.e3_laws.proofs.serial.Step.Rules.{IsNews, Ruled, Start, Notes, Decides, Votes, Tells, Says, Asks, Issues, Rule, Otherwise, Hears, Locks, Repeats, TellsOwn, Shaped}
use Rattle.e3_laws.proofs.serial.Lists.Entries.{In}
use Rattle.e3_laws.proofs.serial.Lists.Members.{in_append}
use Rattle.e3_laws.proofs.serial.Step.Arrivals.{answers_push, told_push, answered_from, op_told_answered}
use Rattle.e3_laws.proofs.serial.Step.Steadying.{some_inj, in_any}
use Rattle.e3_laws.proofs.serial.Step.Answering.{in_each}
use Rattle.e3_world.specs.Moves.{unnumbered}
use Rattle.e3_laws.proofs.serial.Step.Stepping.{moment, grants_made}
use Rattle.e3_laws.proofs.serial.Site.Keeping.{IsRising}
use Rattle.e3_laws.proofs.steps.Tests.{same_is}

-- an own answer of a step is to a transaction of the site
own_home_send : (a : At) (to : ℕ) (m : Message) (made : Made) (t : Txn) (n inc : ℕ) (v : Answer) → (In (msg.Done t n inc v) made.own → t.site ≡ a.site) →
    (m ≡ msg.Done t n inc v → (to == a.site) ≡ true → t.site ≡ a.site) → In (msg.Done t n inc v) (and_send a to m made).own → t.site ≡ a.site
own_home_send a to m made t n inc v old new h = by (to == a.site) refl
  where
    last : (to == a.site) ≡ true → In (msg.Done t n inc v) made.own ⊎ In (msg.Done t n inc v) (m ∷ []) → t.site ≡ a.site
    last is (inl k) = old k
    last is (inr (inl e)) = new e is
    last is (inr (inr k)) = absurd k

    by : (b : Bool) → (to == a.site) ≡ b → t.site ≡ a.site
    by true is = last is (in_append made.own (m ∷ []) (msg.Done t n inc v)
        (subst (λ b. In (msg.Done t n inc v) (if b then record made { own = made.own ++ m ∷ [] } else record made { outs = made.outs ++ record { number = 0; «from» = a.site; to = to; msg = m } ∷ [] }).own) is h))
    by false is = old (subst (λ b. In (msg.Done t n inc v) (if b then record made { own = made.own ++ m ∷ [] } else record made { outs = made.outs ++ record { number = 0; «from» = a.site; to = to; msg = m } ∷ [] }).own) is h)

done_txn : (u t : Txn) (m n i j : ℕ) (w v : Answer) → msg.Done u m i w ≡ msg.Done t n j v → u ≡ t
done_txn u t m n i j w v e = cc

own_home_rule : (a : At) (rule : Made) → Rule a rule → (t : Txn) (n inc : ℕ) (v : Answer) → In (msg.Done t n inc v) rule.own → t.site ≡ a.site
own_home_rule a _ (Otherwise made k) t n inc v h = absurd (subst (λ l. In (msg.Done t n inc v) l) (Rattle.e3_laws.proofs.serial.Step.Shapes.ruled_none a made k) h)
own_home_rule a _ (Hears u m w k) t n inc v h = absurd h
own_home_rule a _ (Locks u m op k) t n inc v h =
    own_home_send a u.site _ nothing t n inc v (λ x. absurd x) (λ e is. ap (λ (z : Txn). z.site) (sym (done_txn u t m n _ inc _ v e)) ∙ eqb-true u.site a.site is) h
own_home_rule a _ (Repeats u m w k) t n inc v h =
    own_home_send a u.site _ nothing t n inc v (λ x. absurd x) (λ e is. ap (λ (z : Txn). z.site) (sym (done_txn u t m n _ inc _ v e)) ∙ eqb-true u.site a.site is) h

own_home_granted : (a : At) (qs : List Asked) (made : Made) (t : Txn) (n inc : ℕ) (v : Answer) → (In (msg.Done t n inc v) made.own → t.site ≡ a.site) →
    In (msg.Done t n inc v) (fold (and_grant a) made qs).own → t.site ≡ a.site
own_home_granted a [] made t n inc v old h = old h
own_home_granted a (q ∷ qs) made t n inc v old h = own_home_granted a qs (and_grant a made q) t n inc v
    (λ x. own_home_send a q.txn.site _ made t n inc v old (λ e is. ap (λ (z : Txn). z.site) (sym (done_txn q.txn t q.n n _ inc _ v e)) ∙ eqb-true q.txn.site a.site is) x) h

own_home : (a : At) (rule : Made) → Rule a rule → (t : Txn) (n inc : ℕ) (v : Answer) → In (msg.Done t n inc v) (and_grants a 0 rule).own → t.site ≡ a.site
own_home a rule k t n inc v h = by (list_any decides (drop 0 rule.records)) refl
  where
    by : (b : Bool) → list_any decides (drop 0 rule.records) ≡ b → t.site ≡ a.site
    by true is = own_home_granted a (grants_after a rule) rule t n inc v (own_home_rule a rule k t n inc v)
        (subst (λ (z : Made). In (msg.Done t n inc v) z.own) (let e : and_grants a 0 rule ≡ fold (and_grant a) rule (grants_after a rule) = rw is refl in e) h)
    by false is = own_home_rule a rule k t n inc v (subst (λ (z : Made). In (msg.Done t n inc v) z.own) (let e : and_grants a 0 rule ≡ rule = rw is refl in e) h)

op_not_news : (e : Told) (t : Txn) (n : ℕ) (v : Answer) → IsNews e → e ≡ told.Op t n v → ⊥
op_not_news e t n v news is = subst (λ z. IsNews z) is news

ruled_told : (a : At) (made : Made) → Ruled a made → (t : Txn) (n : ℕ) (v : Answer) → In (told.Op t n v) made.told → ⊥
ruled_told a _ Start t n v h = h
ruled_told a _ (Notes r made note k) t n v h = ruled_told a made k t n v h
ruled_told a _ (Decides u d made still k) t n v h = ruled_told a made k t n v h
ruled_told a _ (Votes u idle cause) t n v h = h
ruled_told a _ (Tells e made news k) t n v h = elim (in_append made.told (e ∷ []) (told.Op t n v) h) [
  | inl old ↦ ruled_told a made k t n v old
  | inr last ↦ elim last [ inl is ↦ op_not_news e t n v news is | inr none ↦ none ]
]
ruled_told a _ (Says to m made away word k) t n v h = ruled_told a made k t n v (subst (λ b. In (told.Op t n v) (if b then record made { own = made.own ++ m ∷ [] } else record made { outs = made.outs ++ record { number = 0; «from» = a.site; to = to; msg = m } ∷ [] }).told) away h)
ruled_told a _ (Asks to u made away commits voted k) t n v h = ruled_told a made k t n v (subst (λ l. In (told.Op t n v) l) (Rattle.e3_laws.proofs.serial.Step.Stepping.sent_told a to _ made) h)
ruled_told a _ (Issues to u op away takes allowed) t n v h = subst (λ l. In (told.Op t n v) l) (Rattle.e3_laws.proofs.serial.Step.Stepping.sent_told a to _ nothing) h

rule_told : (a : At) (rule : Made) → Rule a rule → (t : Txn) (n : ℕ) (v : Answer) → In (told.Op t n v) rule.told → t.site ≡ a.site
rule_told a _ (Otherwise made k) t n v h = absurd (ruled_told a made k t n v h)
rule_told a _ (Hears u m w k) t n v (inl e) = ap (λ (z : Txn). z.site) (let p : u ≡ t = cc in sym p) ∙ eqb-true u.site a.site k.coordinator
rule_told a _ (Hears u m w k) t n v (inr x) = absurd x
rule_told a _ (Locks u m op k) t n v h = absurd (subst (λ l. In (told.Op t n v) l) (Rattle.e3_laws.proofs.serial.Step.Stepping.sent_told a u.site _ nothing) h)
rule_told a _ (Repeats u m w k) t n v h = absurd (subst (λ l. In (told.Op t n v) l) (Rattle.e3_laws.proofs.serial.Step.Stepping.sent_told a u.site _ nothing) h)

-- what a step tells are answers to the site's own transactions
pub told_home : (a : At) (s : Shaped a (step_at a)) (t : Txn) (n : ℕ) (v : Answer) → In (told.Op t n v) (step_at a).told → t.site ≡ a.site
told_home a s t n v h = elim (in_append (and_grants a 0 s.rule).told s.events (told.Op t n v) (subst (λ l. In (told.Op t n v) l) s.told h)) [
  | inl old ↦ rule_told a s.rule s.ruled t n v (subst (λ l. In (told.Op t n v) l) (grants_made a s.rule).1 old)
  | inr new ↦ (
      let k = in_each (TellsOwn (and_grants a 0 s.rule).own) s.events (told.Op t n v) s.from_own new in
      let p : k.0 ≡ t = op_txn k.0 t k.1 n k.3 v (sym k.4) in
      ap (λ (z : Txn). z.site) (sym p) ∙ own_home a s.rule s.ruled k.0 k.1 k.2 k.3 (Rattle.e3_laws.proofs.serial.Lists.Facts.is_in _ (and_grants a 0 s.rule).own k.5))
]
  where
    op_txn : (u t : Txn) (m n : ℕ) (w v : Answer) → told.Op u m w ≡ told.Op t n v → u ≡ t
    op_txn u t m n w v e = cc

-- answers that a moment shows answer the operation
some_app : {X : Type 0} (xs ys : List X) (w : X) (more : List X) → (xs ≡ w ∷ more) → (x : X) × (rest : List X) × (xs ++ ys ≡ x ∷ rest)
some_app xs ys w more e = (w, more ++ ys, ap (λ l. l ++ ys) e)

some_behind : {X : Type 0} (xs ys : List X) (w : X) (more : List X) → ys ≡ w ∷ more → (x : X) × (rest : List X) × (xs ++ ys ≡ x ∷ rest)
some_behind [] ys w more e = (w, more, e)
some_behind (x ∷ xs) ys w more e = (x, xs ++ ys, refl)

pub told_shown : (a : At) (t : Txn) (n : ℕ) (v : Answer) → In (told.Op t n v) (step_at a).told → (q : Asked) → q.txn ≡ t → q.n ≡ n → is_answered (a.life.steps ++ moment a ∷ []) q ≡ true
told_shown a t n v h q same num = op_told_answered q (a.life.steps ++ moment a ∷ []) (told_push q.txn q.n a.life.steps (moment a) ∙ or_right _ _
    (in_any (tells_op q.txn q.n) (step_at a).told (told.Op t n v) h (and_from (q.n == n) (same_txn q.txn t) (eq-eqb q.n n num) (same_from q.txn t same))))

sent_answers : (q : Asked) (l : List Packet) (p : Packet) (inc : ℕ) (v : Answer) → In p l → p.msg ≡ msg.Done q.txn q.n inc v → (w : Answer) × (more : List Answer) × (flat_map (answer_sent q) (map unnumbered l) ≡ w ∷ more)
sent_answers q [] p inc v h says = absurd h
sent_answers q (x ∷ l) p inc v (inl e) says = some_app (answer_sent q (unnumbered x)) (flat_map (answer_sent q) (map unnumbered l)) v [] one
  where
    one : answer_sent q (unnumbered x) ≡ v ∷ []
    one = go x.msg refl
      where
        says' : x.msg ≡ msg.Done q.txn q.n inc v
        says' = ap (λ (z : Packet). z.msg) e ∙ says

        go : (m : Message) → x.msg ≡ m → answer_sent q (unnumbered x) ≡ v ∷ []
        go m is = rw (says', eq-eqb q.n q.n refl, same_from q.txn q.txn refl) refl
sent_answers q (x ∷ l) p inc v (inr k) says =
    let r = sent_answers q l p inc v k says in some_behind (answer_sent q (unnumbered x)) (flat_map (answer_sent q) (map unnumbered l)) r.0 r.1 r.2

pub sent_shown : (a : At) (t : Txn) (n inc : ℕ) (v : Answer) (p : Packet) → In p (step_at a).outs → p.msg ≡ msg.Done t n inc v → (q : Asked) → q.txn ≡ t → q.n ≡ n → is_answered (a.life.steps ++ moment a ∷ []) q ≡ true
sent_shown a t n inc v p h says q same num =
    let r = sent_answers q (step_at a).outs p inc v h (says ∙ (λ i. msg.Done (sym same i) (sym num i) inc v)) in
    let z = some_behind (flat_map (answer_told q) (step_at a).told) (flat_map (answer_sent q) (map unnumbered (step_at a).outs)) r.0 r.1 r.2 in
    let w = some_behind (answers q a.life.steps) (flat_map (answer_told q) (step_at a).told ++ flat_map (answer_sent q) (map unnumbered (step_at a).outs)) z.0 z.1 z.2 in
    answered_from (a.life.steps ++ moment a ∷ []) q w.0 w.1 (answers_push q a.life.steps (moment a) ∙ w.2)

-- what is unanswered is the last that was issued, and was not told
pub unanswered_is : (t : Txn) (records : List Record) (steps : List Moment) (n : ℕ) → unanswered t records steps ≡ Some n → (n ≡ length (issued t steps)) × (1 ≤ n) × (op_told t n steps ≡ false)
unanswered_is t records steps n h = by (length (issued t steps)) refl
  where
    by : (m : ℕ) → length (issued t steps) ≡ m → (n ≡ length (issued t steps)) × (1 ≤ n) × (op_told t n steps ≡ false)
    by zero long = absurd (let now : unanswered t records steps ≡ None = rw long refl in let both : None ≡ Some n = sym now ∙ h in cc)
    by (suc m) long = go (is_undecided t records && not (op_told t (suc m) steps)) refl
      where
        go : (b : Bool) → (is_undecided t records && not (op_told t (suc m) steps)) ≡ b → (n ≡ length (issued t steps)) × (1 ≤ n) × (op_told t n steps ≡ false)
        go true is =
            let now : unanswered t records steps ≡ Some (suc m) = rw (long, is) refl in
            let e : suc m ≡ n = some_inj (suc m) n (sym now ∙ h) in
            (sym e ∙ sym long, (omega (arith, e)), subst (λ z. op_told t z steps ≡ false) e (turned (op_told t (suc m) steps) (and_parts (is_undecided t records) (not (op_told t (suc m) steps)) is).1))
          where
            turned : (b : Bool) → not b ≡ true → b ≡ false
            turned true e = absurd (true≢false (sym e))
            turned false e = refl
        go false is = absurd (let now : unanswered t records steps ≡ None = rw (long, is) refl in let both : None ≡ Some n = sym now ∙ h in cc)

-- an operation of a list with one more part
pub nth_split : (n : ℕ) (xs ys : List Op) (op : Op) → nth_op n (xs ++ ys) ≡ Some op → (nth_op n xs ≡ Some op) ⊎ In op ys
nth_split zero xs ys op h = inl h
nth_split (suc n) xs ys op h = go n xs h
  where
    member : (n : ℕ) (ys : List Op) → slice_get ys n ≡ Some op → In op ys
    member n [] e = absurd (cc)
    member zero (y ∷ ys) e = inl (some_inj y op e)
    member (suc n) (y ∷ ys) e = inr (member n ys e)

    go : (n : ℕ) (xs : List Op) → slice_get (xs ++ ys) n ≡ Some op → (slice_get xs n ≡ Some op) ⊎ In op ys
    go n [] e = inr (member n ys e)
    go zero (x ∷ xs) e = inl e
    go (suc n) (x ∷ xs) e = go n xs e

-- what an input issues
pub issued_what : (t : Txn) (i : Input) (l : List Told) (op : Op) → In op (issued_in t i l) → (i ≡ input.Do t op) × (list_any is_refusal l ≡ false)
issued_what t (input.Do u o) l op h = by (same_txn t u) refl (list_any is_refusal l) refl h
  where
    by : (b : Bool) → same_txn t u ≡ b → (c : Bool) → list_any is_refusal l ≡ c → In op (if b && not c then o ∷ [] else []) → (input.Do u o ≡ input.Do t op) × (list_any is_refusal l ≡ false)
    by true same false calm (inl e) = ((λ i. input.Do (sym (same_is t u same) i) (e i)), calm)
    by true same false calm (inr x) = absurd x
    by true same true calm x = absurd x
    by false same c calm x = absurd x
issued_what t (input.Begin sites) l op h = absurd h
issued_what t (input.Commit u) l op h = absurd h
issued_what t (input.Cancel u) l op h = absurd h
issued_what t (input.Expire u) l op h = absurd h
issued_what t (input.Elect u group) l op h = absurd h
issued_what t (input.Deliver p) l op h = absurd h

-- records of a step leave the incarnation
pub inc_same : (xs rs : List Record) → ((r : Record) → In r rs → IsRising r → ⊥) → logged_inc (xs ++ rs) ≡ logged_inc xs
inc_same xs rs h = go xs 0
  where
    skip : (rs : List Record) (n : ℕ) → ((r : Record) → In r rs → IsRising r → ⊥) → fold Rattle.e3_world.specs.Logs.logged_inc_by n rs ≡ n
    skip [] n h = refl
    skip (log.Inc m ∷ rs) n h = absurd (h (log.Inc m) (inl refl) tt)
    skip (log.Birth f k w rows ∷ rs) n h = absurd (h (log.Birth f k w rows) (inl refl) tt)
    skip (log.Vote t ops ∷ rs) n h = skip rs n (λ r k. h r (inr k))
    skip (log.Join t m ∷ rs) n h = skip rs n (λ r k. h r (inr k))
    skip (log.Attempt t m d ∷ rs) n h = skip rs n (λ r k. h r (inr k))
    skip (log.Decision t d ∷ rs) n h = skip rs n (λ r k. h r (inr k))

    go : (xs : List Record) (n : ℕ) → fold Rattle.e3_world.specs.Logs.logged_inc_by n (xs ++ rs) ≡ fold Rattle.e3_world.specs.Logs.logged_inc_by n xs
    go [] n = skip rs n h
    go (x ∷ xs) n = go xs (Rattle.e3_world.specs.Logs.logged_inc_by n x)
