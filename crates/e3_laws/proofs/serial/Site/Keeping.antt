-- What a site that is up keeps, with one more step, and when it rises again.
use Rattle.std.proofs.Common.{◌≡◌, ◌⊎◌, inl, inr, ◌++◌, ◌∷◌, [], ℕ, true, List, refl, sym, subst, ap, ◌∙◌, append-nil}
use Rattle.std.specs.List.{AllByRecursion as Each}
use Rattle.std.proofs.lemmas.Bool.{true≢false}
use Rattle.e3_types.specs.declared.records.Record.{Record}
use Rattle.e3_types.specs.declared.records.Record.TheVariants as log
use Rattle.e3_types.specs.declared.transactions.NumOp.{NumOp}
use Rattle.e3_types.specs.declared.transactions.Op.{Op}
use Rattle.e3_types.specs.declared.transactions.Txn.{Txn}
use Rattle.e3_types.specs.Locks.{front}
use Rattle.e3_world.specs.declared.lives.Asked.{Asked}
use Rattle.e3_world.specs.declared.lives.At.{At}
use Rattle.e3_world.specs.declared.lives.Life.{Life}
use Rattle.e3_world.specs.Logs.{is_undecided}
use Rattle.e3_world.specs.Operations.{arrivals, is_answered}
use Rattle.e3_world.specs.Sound.{Fits}
use Rattle.e3_world.specs.Steps.{step_at}
use Rattle.e3_laws.proofs.serial.Step.Rules.{Shaped}
use Rattle.e3_laws.proofs.serial.Lists.Entries.{In, name_of}
use Rattle.e3_laws.proofs.serial.Lists.Members.{in_append, in_back}
use Rattle.e3_laws.proofs.serial.Step.Shapes.{FromAway, step_shape}
use Rattle.e3_laws.proofs.serial.Step.Arrivals.{answered_from, answered_first, of_txn, Steady}
use Rattle.e3_laws.proofs.serial.Step.Steadying.{turns_before, steady_push, steady_start}
use Rattle.e3_laws.proofs.serial.Step.Answering.{in_each}
use Rattle.e3_laws.proofs.serial.Step.Stepping.{moment, is_moment}
use Rattle.e3_laws.proofs.serial.Step.Knowing.{Known, known_start, refused_answers, known_refused, known_shaped, fresh_unanswered}
use Rattle.e3_laws.proofs.serial.Site.Holding.{Holds, ByDone, ByVote, Apart}
use Rattle.e3_laws.proofs.serial.Site.Recording.{RecordMade, rule_made, shaped_records}
use Rattle.e3_laws.proofs.serial.Site.Answers.{rows_in, RightAt, Right, right_walk}
use Rattle.e3_laws.proofs.serial.Site.Rightness.{right_arrivals, right_shaped}
use Rattle.e3_laws.proofs.serial.Site.Parting.{apart_push}
use Rattle.e3_laws.proofs.serial.Site.Voting.{VoteStands, vote_stands}
use Rattle.e3_laws.proofs.steps.Operations.Tracing.{Refuses}
use Rattle.e3_laws.proofs.steps.Undecided.{open_before as undecided_before}

-- what a record is over those before it
abbrev pub RecordStands : ℕ → List Record → Record → Type 0
RecordStands site before (log.Vote t ops) = VoteStands site before t ops
RecordStands site before (log.Decision t dir) = is_undecided t before ≡ true
RecordStands site before r = Unit {0}

abbrev pub LogStands : ℕ → List Record → Type 0
LogStands site records = (before after : List Record) (r : Record) → records ≡ before ++ r ∷ after → RecordStands site before r

-- all of it
pub record Keeps (site : ℕ) (life : Life) : Type 0 where
  pub steady : Steady site life.steps
  pub known : Known site life.steps
  pub apart : Apart site life.log life.steps
  pub right : Right site life.log life.steps
  pub stands : LogStands site life.log

-- the life behind the step at a place
abbrev pub next : At → Life
next a = record { log = a.life.log ++ (step_at a).records; inc = a.life.inc; steps = a.life.steps ++ moment a ∷ [] }

-- two lists, one behind the other, split
pub append_split : {X : Type 0} (xs ys before : List X) (r : X) (after : List X) → xs ++ ys ≡ before ++ r ∷ after →
    ((rest : List X) × (xs ≡ before ++ r ∷ rest)) ⊎ ((front : List X) × (before ≡ xs ++ front) × (ys ≡ front ++ r ∷ after))
append_split [] ys before r after e = inr (before, refl, e)
append_split (x ∷ xs) ys [] r after e = inl (xs, (let p : x ≡ r = cc in λ i. p i ∷ xs))
append_split (x ∷ xs) ys (z ∷ before) r after e =
    let p : x ≡ z = cc in
    let q : xs ++ ys ≡ before ++ r ∷ after = cc in
    elim (append_split xs ys before r after q) [
      | inl k ↦ inl (k.0, λ i. p i ∷ k.1 i)
      | inr k ↦ inr (k.0, (λ i. sym p i ∷ k.1 i), k.2)
    ]

module _ (weights : List ℕ) (a : At) (k : Keeps a.site a.life) (fits : Fits weights a.site a.life a.input) (away : FromAway a.site a.input) where
  shaped_keeps : Shaped a (step_at a) → Keeps a.site (next a)
  shaped_keeps s = record {
    steady = steady_push weights a (moment a) (is_moment a) k.steady fits;
    known = known_shaped weights a k.steady fits away k.known s;
    apart = apart_push weights a k.steady fits away k.known k.apart s;
    right = right_shaped weights a k.steady fits away k.known k.apart k.right s;
    stands = λ before after r e. stands before after r (append_split a.life.log (step_at a).records before r after e);
  }
    where
      new : (front after : List Record) (r : Record) → RecordMade a front r → RecordStands a.site (a.life.log ++ front) r
      new front after (log.Vote t ops) m = vote_stands weights a k.steady fits k.apart front t ops m
      new front after (log.Decision t dir) m = m
      new front after (log.Join t n) m = tt
      new front after (log.Attempt t n dir) m = tt
      new front after (log.Birth f n w rows) m = tt
      new front after (log.Inc n) m = tt

      stands : (before after : List Record) (r : Record) → ((rest : List Record) × (a.life.log ≡ before ++ r ∷ rest)) ⊎ ((front : List Record) × (before ≡ a.life.log ++ front) × ((step_at a).records ≡ front ++ r ∷ after)) →
          RecordStands a.site before r
      stands before after r (inl old) = k.stands before old.0 r old.1
      stands before after r (inr x) = subst (λ l. RecordStands a.site l r) (sym x.1)
          (new x.0 after r (rule_made a s.rule s.ruled x.0 after r (sym (shaped_records a (step_at a) s) ∙ x.2)))

  -- a step that refuses changes nothing
  refused_keeps : Refuses (step_at a) → Keeps a.site (next a)
  refused_keeps r = record {
    steady = steady_push weights a (moment a) (is_moment a) k.steady fits;
    known = known_refused weights a k.steady fits away k.known r;
    apart = λ t u op other x y h g differ c. k.apart t u op other (open_before t x) (open_before u y) (old_holds t op h) (old_holds u other g) differ c;
    right = λ t still. right t still;
    stands = λ before after x e. k.stands before after x (sym same_log ∙ e);
  }
    where
      same_log : a.life.log ++ (step_at a).records ≡ a.life.log
      same_log = ap (λ l. a.life.log ++ l) r.records ∙ append-nil a.life.log

      open_before : (t : Txn) → is_undecided t (a.life.log ++ (step_at a).records) ≡ true → is_undecided t a.life.log ≡ true
      open_before t x = undecided_before t a.life.log (step_at a).records x

      answered_before : (q : Asked) → is_answered (a.life.steps ++ moment a ∷ []) q ≡ true → is_answered a.life.steps q ≡ true
      answered_before q h = let f = answered_first (a.life.steps ++ moment a ∷ []) q h in answered_from a.life.steps q f.0 f.1 (sym (refused_answers a r q) ∙ f.2)

      old_holds : (t : Txn) (op : Op) → Holds a.site (a.life.log ++ (step_at a).records) (a.life.steps ++ moment a ∷ []) t op → Holds a.site a.life.log a.life.steps t op
      old_holds t op (ByDone q h y same is) = elim (fresh_unanswered weights a k.steady fits away k.known q h) [
        | inl old ↦ ByDone q old (answered_before q y) same is
        | inr none ↦ absurd (true≢false (sym (answered_before q y) ∙ none))
      ]
      old_holds t op (ByVote ops o h m is) = ByVote ops o (subst (λ l. In (log.Vote t ops) l) same_log h) m is

      right : (t : Txn) → is_undecided t (a.life.log ++ (step_at a).records) ≡ true → RightAt (rows_in (a.life.log ++ (step_at a).records)) (a.life.steps ++ moment a ∷ []) [] (of_txn t (arrivals a.site (a.life.steps ++ moment a ∷ [])))
      right t still = right_walk (rows_in a.life.log) (rows_in (a.life.log ++ (step_at a).records)) a.life.steps (moment a) (of_txn t (arrivals a.site (a.life.steps ++ moment a ∷ []))) []
          (of_txn t (arrivals a.site (a.life.steps ++ moment a ∷ []))) refl (turns_before weights a (moment a) (is_moment a) k.steady fits t)
          (λ q h y. ap (λ l. rows_in l (name_of q.op)) same_log)
          (λ before q v more split none is. absurd (true≢false (sym (answered_from a.life.steps q v more (sym (refused_answers a r q) ∙ is)) ∙ none)))
          (right_arrivals weights a k.steady fits away k.known k.apart k.right t (open_before t still))

  pub step_keeps : Keeps a.site (next a)
  step_keeps = elim (step_shape a away) [ inl r ↦ refused_keeps r | inr s ↦ shaped_keeps s ]

-- a record of a rise
abbrev pub IsRising : Record → Type 0
IsRising (log.Birth f n w rows) = Unit {0}
IsRising (log.Inc n) = Unit {0}
IsRising r = ⊥

rising_stands : (site : ℕ) (before : List Record) (r : Record) → IsRising r → RecordStands site before r
rising_stands site before (log.Birth f n w rows) h = tt
rising_stands site before (log.Inc n) h = tt
rising_stands site before (log.Vote t ops) h = absurd h
rising_stands site before (log.Decision t dir) h = absurd h
rising_stands site before (log.Join t n) h = tt
rising_stands site before (log.Attempt t n dir) h = tt

pub no_vote : (rs : List Record) (t : Txn) (ops : List NumOp) → Each IsRising rs → In (log.Vote t ops) rs → ⊥
no_vote [] t ops all h = h
no_vote (r ∷ rs) t ops all (inl e) = subst (λ z. IsRising z) e all.0
no_vote (r ∷ rs) t ops all (inr k) = no_vote rs t ops all.1 k

pub rising_in : (rs before : List Record) (r : Record) (after : List Record) → Each IsRising rs → rs ≡ before ++ r ∷ after → IsRising r
rising_in rs before r after all e = in_each IsRising rs r all (subst (λ l. In r l) (sym e) (in_back before (r ∷ after) r (inl refl)))

-- a site that starts anew, with a log that went on by the records of a rise
pub rise_keeps : (site : ℕ) (life : Life) (inc : ℕ) (rs : List Record) → Each IsRising rs → Keeps site life → Keeps site (record { log = life.log ++ rs; inc = inc; steps = [] })
rise_keeps site life inc rs all k = record {
  steady = steady_start site;
  known = known_start site;
  apart = λ t u op other x y h g differ c. k.apart t u op other (undecided_before t life.log rs x) (undecided_before u life.log rs y) (old_holds t op h) (old_holds u other g) differ c;
  right = λ t still. tt;
  stands = λ before after r e. stands before after r (append_split life.log rs before r after e);
}
  where
    old_vote : (t : Txn) (ops : List NumOp) → In (log.Vote t ops) life.log ⊎ In (log.Vote t ops) rs → In (log.Vote t ops) life.log
    old_vote t ops (inl h) = h
    old_vote t ops (inr h) = absurd (no_vote rs t ops all h)

    old_holds : (t : Txn) (op : Op) → Holds site (life.log ++ rs) [] t op → Holds site life.log life.steps t op
    old_holds t op (ByDone q h y same is) = absurd h
    old_holds t op (ByVote ops o h m is) = ByVote ops o (old_vote t ops (in_append life.log rs (log.Vote t ops) h)) m is

    stands : (before after : List Record) (r : Record) → ((rest : List Record) × (life.log ≡ before ++ r ∷ rest)) ⊎ ((front : List Record) × (before ≡ life.log ++ front) × (rs ≡ front ++ r ∷ after)) → RecordStands site before r
    stands before after r (inl old) = k.stands before old.0 r old.1
    stands before after r (inr x) = rising_stands site before r (rising_in rs x.0 r after all x.2)

pub start_keeps : (site inc : ℕ) → Keeps site (record { log = []; inc = inc; steps = [] })
start_keeps site inc = record {
  steady = steady_start site;
  known = known_start site;
  apart = λ t u op other x y h g differ c. none t op h;
  right = λ t still. tt;
  stands = λ before after r e. absurd (no_split' before r after e);
}
  where
    none : (t : Txn) (op : Op) → Holds site [] [] t op → ⊥
    none t op (ByDone q h y same is) = h
    none t op (ByVote ops o h m is) = h

    no_split' : (before : List Record) (r : Record) (after : List Record) → [] ≡ before ++ r ∷ after → ⊥
    no_split' [] r after e = cc
    no_split' (x ∷ before) r after e = cc
