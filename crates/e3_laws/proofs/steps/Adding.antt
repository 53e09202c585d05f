-- What rules add to a step, said once: a property that each record, event and message keeps, all that rules put together of them keeps.
use Rattle.std.proofs.Common.{◌≡◌, ◌==◌, ◌&&◌, ◌++◌, ◌∷◌, [], ℕ, Bool, true, false, List, Option, Some, None, refl, sym, ap, ◌∙◌, if◌then◌else◌, fold, drop, map, append_assoc, is_none}
use Rattle.std.specs.List.{AllByRecursion as Each, list_any}
use Rattle.std.proofs.lemmas.Bool.{and_parts}
use Rattle.e3_types.specs.declared.entries.Told.{Told}
use Rattle.e3_types.specs.declared.entries.Told.TheVariants as told
use Rattle.e3_types.specs.declared.messages.Message.{Message}
use Rattle.e3_types.specs.declared.messages.Message.TheVariants as msg
use Rattle.e3_types.specs.declared.records.Record.{Record}
use Rattle.e3_types.specs.declared.records.Record.TheVariants as log
use Rattle.e3_types.specs.declared.transactions.Dir.{Dir}
use Rattle.e3_types.specs.declared.transactions.Dir.TheVariants.{Abort, Commit}
use Rattle.e3_types.specs.declared.transactions.State.{State}
use Rattle.e3_types.specs.declared.transactions.State.TheVariants.{Q, C, A}
use Rattle.e3_types.specs.declared.transactions.Txn.{Txn}
use Rattle.e3_types.specs.declared.verdicts.Verdict.{Verdict}
use Rattle.e3_types.specs.Quorums.{is_quorum}
use Rattle.e3_types.specs.Sets.{others}
use Rattle.e3_world.specs.declared.lives.Asked.{Asked}
use Rattle.e3_world.specs.declared.lives.At.{At}
use Rattle.e3_world.specs.declared.lives.Made.{Made}
use Rattle.e3_world.specs.Logs.{decision, decision_by, is_undecided, state_of}
use Rattle.e3_world.specs.Making.{is_coordinator, is_present, may_abort, may_attempt, may_decide, log_now, open_now, and_record, and_tell, and_send, and_cast, and_decide, and_abort, and_abort_for, go_on, and_attempt, and_vote, and_grant, and_grants, answer_now, decides, grants_after}
use Rattle.e3_world.specs.Operations.{done}

-- a property of a step as far as it is made, and the records, events and messages that keep it
pub record Preserves (a : At) (R : Record → Type 0) (T : Told → Type 0) (S : ℕ → Message → Type 0) (P : Made → Type 0) : Type 0 where
  pub records : (r : Record) (made : Made) → R r → P made → P (and_record r made)
  pub tells : (e : Told) (made : Made) → T e → P made → P (and_tell e made)
  pub sends : (to : ℕ) (m : Message) (made : Made) → S to m → P made → P (and_send a to m made)

-- the message may go to each of these sites that is another
abbrev pub Casts : At → (ℕ → Message → Type 0) → Message → List ℕ → Type 0
Casts a S m sites = Each (λ s. (s == a.site) ≡ false → S s m) sites

-- the vote that the site gives now
abbrev pub vote_of : At → Txn → Record
vote_of a t = log.Vote t (map (λ p. record { n = p.n; op = p.op }) (done a.site t a.life.steps))

-- what rules record and tell of a transaction: a vote, attempts and decisions where it is undecided, and their news
pub record Allows (a : At) (R : Record → Type 0) (T : Told → Type 0) (t : Txn) : Type 0 where
  pub vote : (made : Made) → open_now a t made ≡ true → R (vote_of a t)
  pub attempt : (n : ℕ) (dir : Dir) (made : Made) → open_now a t made ≡ true → R (log.Attempt t n dir)
  pub decision : (dir : Dir) (made : Made) → open_now a t made ≡ true → R (log.Decision t dir)
  pub ended : (dir : Dir) → T (told.Ended t dir)
  pub verdict : (n : ℕ) (v : Verdict) → T (told.Verdict t n v)
  pub doomed : (f i j : ℕ) → T (told.Doomed t f i j)
  pub kept : (st : State) → T (told.Kept t st)

-- an operation may be answered now
abbrev pub MayAnswer : At → (ℕ → Message → Type 0) → (Made → Type 0) → Asked → Type 0
MayAnswer a S P q = (made : Made) → P made → S q.txn.site (msg.Done q.txn q.n a.life.inc (answer_now a q.txn q.op made))

-- a transaction without a record is undecided
pub idle_open : (t : Txn) (records : List Record) → state_of t records ≡ Q → is_undecided t records ≡ true
idle_open t records h = by (decision t records) refl
  where
    by : (o : Option Dir) → decision t records ≡ o → is_undecided t records ≡ true
    by None is = rw is refl
    by (Some Commit) is = absurd (let now : state_of t records ≡ C = rw is refl in let both : Q ≡ C = sym h ∙ now in cc)
    by (Some Abort) is = absurd (let now : state_of t records ≡ A = rw is refl in let both : Q ≡ A = sym h ∙ now in cc)

fold_attempt : (t u : Txn) (n : ℕ) (dir : Dir) (was : Option Dir) (xs : List Record) →
    fold (decision_by t) was (xs ++ log.Attempt u n dir ∷ []) ≡ fold (decision_by t) was xs
fold_attempt t u n dir was [] = refl
fold_attempt t u n dir was (x ∷ xs) = fold_attempt t u n dir (decision_by t was x) xs

-- an attempt leaves each transaction undecided that was so
pub open_attempt : (a : At) (t u : Txn) (n : ℕ) (dir : Dir) (made : Made) → open_now a t made ≡ true → open_now a t (and_record (log.Attempt u n dir) made) ≡ true
open_attempt a t u n dir made is =
    ap (is_undecided t) (sym (append_assoc a.life.log made.records (log.Attempt u n dir ∷ [])))
    ∙ ap is_none (fold_attempt t u n dir None (log_now a made)) ∙ is

pub may_open : (a : At) (t : Txn) (dir : Dir) (made : Made) → may_decide a t dir made ≡ true → open_now a t made ≡ true
may_open a t Abort made is = is
may_open a t Commit made is = (and_parts _ _ is).0

pub abort_open : (a : At) (t : Txn) (made : Made) → may_abort a t made ≡ true → open_now a t made ≡ true
abort_open a t made is = (and_parts _ _ (and_parts _ _ is).0).1

module _ {a : At} {R : Record → Type 0} {T : Told → Type 0} {S : ℕ → Message → Type 0} {P : Made → Type 0} (k : Preserves a R T S P) where
  pub keep_choice : (b : Bool) (x y : Made) → P x → P y → P (if b then x else y)
  keep_choice true x y first second = first
  keep_choice false x y first second = second

  keep_each : (m : Message) (sites : List ℕ) (made : Made) → Casts a S m sites → P made → P (fold (λ so_far to. and_send a to m so_far) made (others a.site sites))
  keep_each m [] made may p = p
  keep_each m (s ∷ sites) made may p = by (λ more kept. keep_each m sites more may.1 kept) (s == a.site) refl
    where
      by : ((more : Made) → P more → P (fold (λ so_far to. and_send a to m so_far) more (others a.site sites))) →
          (b : Bool) → (s == a.site) ≡ b → P (fold (λ so_far to. and_send a to m so_far) made (others a.site (s ∷ sites)))
      by rest true is = rw is (rest made p)
      by rest false is = rw is (rest (and_send a s m made) (k.sends s m made (may.0 is) p))

  -- a message to other sites
  pub keep_cast : (sites : List ℕ) (m : Message) (made : Made) → Casts a S m sites → P made → P (and_cast a sites m made)
  keep_cast sites m made may p = keep_each m sites made may p

  pub keep_decide : (t : Txn) (dir : Dir) (made : Made) → Allows a R T t → open_now a t made ≡ true → P made → P (and_decide a t dir made)
  keep_decide t dir made al free p = by (is_coordinator a t && is_present a t) refl
    where
      more : P (and_record (log.Decision t dir) made)
      more = k.records (log.Decision t dir) made (al.decision dir made free) p

      by : (b : Bool) → (is_coordinator a t && is_present a t) ≡ b → P (and_decide a t dir made)
      by true is = rw is (k.tells (told.Ended t dir) (and_record (log.Decision t dir) made) (al.ended dir) more)
      by false is = rw is more

  -- a decision where the site may decide
  pub keep_may : (t : Txn) (dir : Dir) (made : Made) → Allows a R T t → P made → P (if may_decide a t dir made then and_decide a t dir made else made)
  keep_may t dir made al p = by (may_decide a t dir made) refl
    where
      by : (b : Bool) → may_decide a t dir made ≡ b → P (if b then and_decide a t dir made else made)
      by true is = keep_decide t dir made al (may_open a t dir made is) p
      by false is = p

  pub keep_abort : (t : Txn) (made : Made) → Allows a R T t → Casts a S (msg.Decide t Abort) t.sites → open_now a t made ≡ true → P made → P (and_abort a t made)
  keep_abort t made al may free p = keep_cast t.sites (msg.Decide t Abort) (and_decide a t Abort made) may (keep_decide t Abort made al free p)

  pub keep_abort_for : (t : Txn) (why : Told) (made : Made) → Allows a R T t → Casts a S (msg.Decide t Abort) t.sites → T why → open_now a t made ≡ true → P made →
      P (and_abort_for a t why made)
  keep_abort_for t why made al may this free p = keep_cast t.sites (msg.Decide t Abort) (and_tell why (and_record (log.Decision t Abort) made)) may
      (k.tells why (and_record (log.Decision t Abort) made) this (k.records (log.Decision t Abort) made (al.decision Abort made free) p))

  keep_go_on : (t : Txn) (n : ℕ) (dir : Dir) (to : List ℕ) (made : Made) → Allows a R T t → Casts a S (msg.Decide t dir) to → Casts a S (msg.Pre t n dir) to →
      open_now a t made ≡ true → P made → P (go_on a t n dir to made)
  keep_go_on t n dir to made al decide pre free p = by (is_quorum a.weights (a.site ∷ []) t.sites) refl
    where
      by : (b : Bool) → is_quorum a.weights (a.site ∷ []) t.sites ≡ b → P (go_on a t n dir to made)
      by true is = rw is (keep_cast to (msg.Decide t dir) (and_decide a t dir made) decide (keep_decide t dir made al free p))
      by false is = rw is (keep_cast to (msg.Pre t n dir) made pre p)

  pub keep_attempt : (t : Txn) (n : ℕ) (dir : Dir) (to : List ℕ) (made : Made) → Allows a R T t → Casts a S (msg.Decide t dir) to → Casts a S (msg.Pre t n dir) to →
      P made → P (and_attempt a t n dir to made)
  keep_attempt t n dir to made al decide pre p = by (may_attempt a t n made) refl
    where
      free : may_attempt a t n made ≡ true → open_now a t made ≡ true
      free is = (and_parts _ _ (and_parts _ _ is).0).0

      by : (b : Bool) → may_attempt a t n made ≡ b → P (and_attempt a t n dir to made)
      by true is = rw is (keep_go_on t n dir to (and_record (log.Attempt t n dir) made) al decide pre (open_attempt a t t n dir made (free is))
          (k.records (log.Attempt t n dir) made (al.attempt n dir made (free is)) p))
      by false is = rw is p

  pub keep_vote : (t : Txn) (made : Made) → Allows a R T t → open_now a t made ≡ true → P made → P (and_vote a t made)
  keep_vote t made al free p = k.records (vote_of a t) made (al.vote made free) p

  keep_granted : (qs : List Asked) (made : Made) → Each (MayAnswer a S P) qs → P made → P (fold (and_grant a) made qs)
  keep_granted [] made may p = p
  keep_granted (q ∷ qs) made may p = keep_granted qs (and_grant a made q) may.1 (k.sends q.txn.site _ made (may.0 made p) p)

  -- requests that a decision has freed are done
  pub keep_grants : (seen : ℕ) (made : Made) → (P made → Each (MayAnswer a S P) (grants_after a made)) → P made → P (and_grants a seen made)
  keep_grants seen made may p = by (list_any decides (drop seen made.records)) refl
    where
      by : (b : Bool) → list_any decides (drop seen made.records) ≡ b → P (and_grants a seen made)
      by true is = rw is (keep_granted (grants_after a made) made (may p) p)
      by false is = rw is p
