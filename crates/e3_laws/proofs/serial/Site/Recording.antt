-- What the records of a step are, each over those before it.
use Rattle.std.proofs.Common.{◌≡◌, ◌⊎◌, inl, inr, ◌++◌, ◌∷◌, [], ℕ, true, List, map, refl, sym, subst, ap, ◌∙◌}
use Rattle.e3_types.specs.declared.records.Record.{Record}
use Rattle.e3_types.specs.declared.records.Record.TheVariants as log
use Rattle.e3_types.specs.declared.transactions.NumOp.{NumOp}
use Rattle.e3_types.specs.declared.transactions.Op.{Op}
use Rattle.e3_types.specs.declared.transactions.State.TheVariants.{Q}
use Rattle.e3_types.specs.declared.transactions.Txn.{Txn}
use Rattle.e3_types.specs.Same.{same_txn}
use Rattle.e3_world.specs.declared.lives.Asked.{Asked}
use Rattle.e3_world.specs.declared.lives.At.{At}
use Rattle.e3_world.specs.declared.lives.Made.{Made}
use Rattle.e3_world.specs.declared.lives.Performed.{Performed}
use Rattle.e3_world.specs.Logs.{is_undecided}
use Rattle.e3_world.specs.Making.{nothing, state_now, and_do}
use Rattle.e3_world.specs.Operations.{arrivals, is_answered, done}
use Rattle.e3_laws.proofs.serial.Step.Rules.{IsNote, Commits, IsAsked, Ruled, Start, Notes, Decides, Votes, Tells, Says, Asks, Issues, Rule, Otherwise, Hears, Locks, Repeats, Shaped}
use Rattle.e3_laws.proofs.serial.Lists.Entries.{In}
use Rattle.e3_laws.proofs.serial.Lists.Members.{in_filter}
use Rattle.e3_laws.proofs.serial.Step.Arrivals.{answered_from, of_txn}
use Rattle.e3_laws.proofs.serial.Step.Steadying.{performed_of}
use Rattle.e3_laws.proofs.serial.Step.Stepping.{grants_made, sent_records}
use Rattle.e3_laws.proofs.steps.Tests.{same_is}

-- the operations that a vote of the transaction has
abbrev pub ops_done : At → Txn → List NumOp
ops_done a t = map (λ p. record { n = p.n; op = p.op }) (done a.site t a.life.steps)

-- a vote has what was done, stands behind no record of its transaction, and was asked for
pub record VoteMade (a : At) (before : List Record) (t : Txn) (ops : List NumOp) : Type 0 where
  pub ops_are : ops ≡ ops_done a t
  pub first : before ≡ []
  pub idle : state_now a t nothing ≡ Q
  pub cause : Commits a t ⊎ IsAsked a t

-- what a record of a step is over those before it
abbrev pub RecordMade : At → List Record → Record → Type 0
RecordMade a before (log.Vote t ops) = VoteMade a before t ops
RecordMade a before (log.Decision t dir) = is_undecided t (a.life.log ++ before) ≡ true
RecordMade a before (log.Join t n) = Unit {0}
RecordMade a before (log.Attempt t n dir) = Unit {0}
RecordMade a before (log.Birth f n w rows) = ⊥
RecordMade a before (log.Inc n) = ⊥

-- a list with one more at its end, split
pub push_split : {X : Type 0} (xs : List X) (x : X) (before : List X) (y : X) (after : List X) → xs ++ x ∷ [] ≡ before ++ y ∷ after →
    ((before ≡ xs) × (y ≡ x)) ⊎ ((rest : List X) × (xs ≡ before ++ y ∷ rest))
push_split [] x [] y after e = inl (refl, (let p : x ≡ y = cc in sym p))
push_split [] x (z ∷ before) y after e = absurd (none before (let p : [] ≡ before ++ y ∷ after = cc in p))
  where
    none : (l : List _) → [] ≡ l ++ y ∷ after → ⊥
    none [] q = cc
    none (w ∷ l) q = cc
push_split (w ∷ xs) x [] y after e = inr (xs, (let p : w ≡ y = cc in λ i. p i ∷ xs))
push_split (w ∷ xs) x (z ∷ before) y after e =
    let p : w ≡ z = cc in
    let q : xs ++ x ∷ [] ≡ before ++ y ∷ after = cc in
    elim (push_split xs x before y after q) [
      | inl a ↦ inl ((λ i. sym p i ∷ a.0 i), a.1)
      | inr b ↦ inr (b.0, (λ i. p i ∷ b.1 i))
    ]

no_split : {X : Type 0} (before : List X) (y : X) (after : List X) → [] ≡ before ++ y ∷ after → ⊥
no_split [] y after e = cc
no_split (z ∷ before) y after e = cc

note_made : (a : At) (before : List Record) (r : Record) → IsNote r → RecordMade a before r
note_made a before (log.Join t n) note = tt
note_made a before (log.Attempt t n dir) note = tt
note_made a before (log.Vote t ops) note = absurd note
note_made a before (log.Decision t dir) note = absurd note
note_made a before (log.Birth f n w rows) note = absurd note
note_made a before (log.Inc n) note = absurd note

pub ruled_made : (a : At) (made : Made) → Ruled a made → (before after : List Record) (r : Record) → made.records ≡ before ++ r ∷ after → RecordMade a before r
ruled_made a _ Start before after r e = absurd (no_split before r after e)
ruled_made a _ (Notes x made note k) before after r e = elim (push_split made.records x before r after e) [
  | inl last ↦ subst (λ z. RecordMade a before z) (sym last.1) (note_made a before x note)
  | inr old ↦ ruled_made a made k before old.0 r old.1
]
ruled_made a _ (Decides t dir made still k) before after r e = elim (push_split made.records (log.Decision t dir) before r after e) [
  | inl last ↦ subst (λ z. RecordMade a before z) (sym last.1) (subst (λ l. is_undecided t (a.life.log ++ l) ≡ true) (sym last.0) still)
  | inr old ↦ ruled_made a made k before old.0 r old.1
]
ruled_made a _ (Votes t idle cause) before after r e = elim (push_split [] (log.Vote t (ops_done a t)) before r after e) [
  | inl last ↦ subst (λ z. RecordMade a before z) (sym last.1) (record { ops_are = refl; first = last.0; idle = idle; cause = cause })
  | inr old ↦ absurd (no_split before r old.0 old.1)
]
ruled_made a _ (Tells x made news k) before after r e = ruled_made a made k before after r e
ruled_made a _ (Says to m made away word k) before after r e = ruled_made a made k before after r (sym (sent_records a to m made) ∙ e)
ruled_made a _ (Asks to t made away commits voted k) before after r e = ruled_made a made k before after r (sym (sent_records a to _ made) ∙ e)
ruled_made a _ (Issues to t op away takes allowed) before after r e = absurd (no_split before r after (sym (sent_records a to _ nothing) ∙ e))

pub rule_made : (a : At) (rule : Made) → Rule a rule → (before after : List Record) (r : Record) → rule.records ≡ before ++ r ∷ after → RecordMade a before r
rule_made a _ (Otherwise made k) before after r e = ruled_made a made k before after r e
rule_made a _ (Hears t n v k) before after r e = absurd (no_split before r after e)
rule_made a _ (Locks t n op k) before after r e = absurd (no_split before r after (sym (sent_records a t.site _ nothing) ∙ e))
rule_made a _ (Repeats t n v k) before after r e = absurd (no_split before r after (sym (sent_records a t.site _ nothing) ∙ e))

-- the records of a step that has its shape
pub shaped_records : (a : At) (made : Made) (s : Shaped a made) → made.records ≡ s.rule.records
shaped_records a made s = s.records ∙ (grants_made a s.rule).0

pub lock_records : (a : At) (t : Txn) (n : ℕ) (op : Op) → (and_do a t n op nothing).records ≡ []
lock_records a t n op = sent_records a t.site _ nothing

-- the operations of a vote were done
pub vote_done : (a : At) (before : List Record) (t : Txn) (ops : List NumOp) → VoteMade a before t ops → (o : NumOp) → In o ops →
    (q : Asked) × In q (arrivals a.site a.life.steps) × (is_answered a.life.steps q ≡ true) × (q.txn ≡ t) × (q.op ≡ o.op) × (q.n ≡ o.n)
vote_done a before t ops v o h = by (in_mapped (done a.site t a.life.steps) (subst (λ l. In o l) v.ops_are h))
  where
    in_mapped : (ps : List Performed) → In o (map (λ p. record { n = p.n; op = p.op }) ps) → (p : Performed) × In p ps × (record { n = p.n; op = p.op } ≡ o)
    in_mapped [] k = absurd k
    in_mapped (p ∷ ps) (inl e) = (p, inl refl, e)
    in_mapped (p ∷ ps) (inr k) = let r = in_mapped ps k in (r.0, inr r.1, r.2)

    by : (p : Performed) × In p (done a.site t a.life.steps) × (record { n = p.n; op = p.op } ≡ o) →
        (q : Asked) × In q (arrivals a.site a.life.steps) × (is_answered a.life.steps q ≡ true) × (q.txn ≡ t) × (q.op ≡ o.op) × (q.n ≡ o.n)
    by r =
        let f = performed_of a.life.steps (of_txn t (arrivals a.site a.life.steps)) r.0 r.1 in
        let m = in_filter (λ x. same_txn t x.txn) (arrivals a.site a.life.steps) f.by f.by_in in
        (f.by, m.0, answered_from a.life.steps f.by r.0.answer f.more f.answers, sym (same_is t f.by.txn m.1), sym f.op ∙ ap (λ (z : NumOp). z.op) r.2, sym f.n ∙ ap (λ (z : NumOp). z.n) r.2)
