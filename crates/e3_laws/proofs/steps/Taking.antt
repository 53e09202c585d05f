-- Each input keeps a property that each record, event and message keeps, and so does a whole step.
use Rattle.std.proofs.Common.{◌≡◌, ◌==◌, ◌∷◌, [], ℕ, suc, Bool, true, false, List, Option, Some, None, refl, sym, ◌∙◌, subst, fold, length}
use Rattle.std.specs.List.{AllByRecursion as Each, count_by}
use Rattle.e3_types.specs.declared.entries.Input.{Input}
use Rattle.e3_types.specs.declared.entries.Input.TheVariants as input
use Rattle.e3_types.specs.declared.entries.Refusal.{Refusal}
use Rattle.e3_types.specs.declared.entries.Refusal.TheVariants as refusal
use Rattle.e3_types.specs.declared.entries.Told.{Told}
use Rattle.e3_types.specs.declared.entries.Told.TheVariants as told
use Rattle.e3_types.specs.declared.messages.Message.{Message}
use Rattle.e3_types.specs.declared.messages.Message.TheVariants as msg
use Rattle.e3_types.specs.declared.records.Record.{Record}
use Rattle.e3_types.specs.declared.transactions.Dir.{Dir}
use Rattle.e3_types.specs.declared.transactions.Dir.TheVariants.{Abort, Commit}
use Rattle.e3_types.specs.declared.transactions.State.{State}
use Rattle.e3_types.specs.declared.transactions.State.TheVariants.{Q, W, Pc, Pa, C, A}
use Rattle.e3_types.specs.declared.transactions.Txn.{Txn}
use Rattle.e3_types.specs.Sets.{others}
use Rattle.e3_world.specs.Gatherings.{Election}
use Rattle.e3_world.specs.declared.lives.At.{At}
use Rattle.e3_world.specs.declared.lives.Made.{Made}
use Rattle.e3_world.specs.Elections.{begun, next_call}
use Rattle.e3_world.specs.Logs.{decision, key_of}
use Rattle.e3_world.specs.Making.{nothing, elected_now, log_now, may_abort, open_now, state_now, and_vote}
use Rattle.e3_world.specs.Operations.{expected, issued, kept_reason}
use Rattle.e3_world.specs.Sound.{txn_in}
use Rattle.e3_world.specs.Steps.{and_ask, is_begin, on_commit, on_expire, on_input, or_refused, refuse, step_at}
use Rattle.e3_laws.proofs.steps.Adding.{Preserves, Casts, Allows, abort_open, idle_open, keep_abort, keep_attempt, keep_cast, keep_decide, keep_grants, keep_vote}
use Rattle.e3_laws.proofs.steps.Rules.{Concludes, Hears, Joins, Settles, keep_join, keep_message, keep_settled}

-- what is allowed to a client is of an undecided transaction
pub allowed_open : (a : At) (t : Txn) (cancels : Bool) → refuse a t cancels nothing ≡ None → open_now a t nothing ≡ true
allowed_open a t cancels allowed = by (decision t (log_now a nothing)) refl
  where
    reasons : (dir : Dir) (l : List Refusal) → decision t (log_now a nothing) ≡ Some dir → kept_reason t a.life.steps ≡ l → open_now a t nothing ≡ true
    reasons dir [] is why = absurd (let now : refuse a t cancels nothing ≡ Some (refusal.Over dir) = rw (is, why) refl in let both : None ≡ Some (refusal.Over dir) = sym allowed ∙ now in cc)
    reasons dir (r ∷ more) is why = absurd (let now : refuse a t cancels nothing ≡ Some r = rw (is, why) refl in let both : None ≡ Some r = sym allowed ∙ now in cc)

    by : (d : Option Dir) → decision t (log_now a nothing) ≡ d → open_now a t nothing ≡ true
    by None is = rw is refl
    by (Some dir) is = reasons dir (kept_reason t a.life.steps) is refl

-- the transaction that a begin of these sites tells as begun
abbrev pub next_txn : At → List ℕ → Txn
next_txn a sites = record { site = a.site; inc = a.life.inc; seq = suc (count_by is_begin a.life.steps); sites = sites }

-- the election that an Elect begins
abbrev pub next_election : At → Txn → List ℕ → Election
next_election a t group = begun a.site (next_call a.life.inc a.life.steps) group (elected_now a t nothing)

-- a refusal may be told
abbrev pub MayRefuse : At → (Told → Type 0) → Txn → Bool → Type 0
MayRefuse a T t cancels = (why : Refusal) → refuse a t cancels nothing ≡ Some why → T (told.Refused t why)

-- what a coordinator that commits may add
pub record Commits (a : At) (R : Record → Type 0) (T : Told → Type 0) (S : ℕ → Message → Type 0) (t : Txn) : Type 0 where
  pub allows : Allows a R T t
  pub asks : Each (λ s. (s == a.site) ≡ false → S s (msg.VoteReq t (expected a.site a.life.inc t a.life.steps s).inc (expected a.site a.life.inc t a.life.steps s).count)) t.sites
  pub concludes : Concludes a S t t.sites

-- what an input may add
abbrev pub Takes : At → (Record → Type 0) → (Told → Type 0) → (ℕ → Message → Type 0) → (Made → Type 0) → Input → Type 0
Takes a R T S P (input.Begin sites) = T (told.Began (next_txn a sites))
Takes a R T S P (input.Do t op) = MayRefuse a T t false × (refuse a t false nothing ≡ None → S (key_of op).site (msg.Do t (suc (length (issued t a.life.steps))) op))
Takes a R T S P (input.Commit t) = MayRefuse a T t false × Commits a R T S t
Takes a R T S P (input.Cancel t) = MayRefuse a T t true × Allows a R T t × Casts a S (msg.Decide t Abort) t.sites
Takes a R T S P (input.Expire t) = Allows a R T t × Casts a S (msg.Decide t Abort) t.sites
Takes a R T S P (input.Elect t group) = Allows a R T t × Casts a S (msg.Ask t (next_election a t group).call) group × Joins a R S t (next_election a t group)
Takes a R T S P (input.Deliver p) = Allows a R T (txn_in p.msg) × Hears a R T S P p.«from» p.msg

module _ {a : At} {R : Record → Type 0} {T : Told → Type 0} {S : ℕ → Message → Type 0} {P : Made → Type 0} (k : Preserves a R T S P) where
  keep_refused : (t : Txn) (cancels : Bool) (made : Made) → MayRefuse a T t cancels → P nothing → (refuse a t cancels nothing ≡ None → P made) →
      (o : Option Refusal) → refuse a t cancels nothing ≡ o → P (or_refused t o made)
  keep_refused t cancels made may start allowed None is = allowed is
  keep_refused t cancels made may start allowed (Some why) is = k.tells (told.Refused t why) nothing (may why is) start

  keep_asked : (t : Txn) (sites : List ℕ) (made : Made) →
      Each (λ s. (s == a.site) ≡ false → S s (msg.VoteReq t (expected a.site a.life.inc t a.life.steps s).inc (expected a.site a.life.inc t a.life.steps s).count)) sites →
      P made → P (fold (and_ask a t) made (others a.site sites))
  keep_asked t [] made may p = p
  keep_asked t (s ∷ sites) made may p = by (λ more kept. keep_asked t sites more may.1 kept) (s == a.site) refl
    where
      by : ((more : Made) → P more → P (fold (and_ask a t) more (others a.site sites))) →
          (b : Bool) → (s == a.site) ≡ b → P (fold (and_ask a t) made (others a.site (s ∷ sites)))
      by rest true is = rw is (rest made p)
      by rest false is = rw is (rest (and_ask a t made s) (k.sends s _ made (may.0 is) p))

  -- a commit that is not refused
  pub keep_commit : (t : Txn) → Commits a R T S t → open_now a t nothing ≡ true → P nothing → P (on_commit a t nothing)
  keep_commit t may free p = by (elected_now a t nothing == 1) refl
    where
      voted : P (and_vote a t nothing)
      voted = keep_vote k t nothing may.allows free p

      alone : (ss : List ℕ) → others a.site t.sites ≡ ss → (elected_now a t nothing == 1) ≡ true → P (on_commit a t nothing)
      alone [] none is = rw (is, none) (keep_attempt k t 1 Commit t.sites (and_vote a t nothing) may.allows (may.concludes.decide Commit) (may.concludes.pre 1 Commit) voted)
      alone (s ∷ ss) some is = rw (is, some) (subst (λ (l : List ℕ). P (fold (and_ask a t) (and_vote a t nothing) l)) some
          (keep_asked t t.sites (and_vote a t nothing) may.asks voted))

      by : (b : Bool) → (elected_now a t nothing == 1) ≡ b → P (on_commit a t nothing)
      by true is = alone (others a.site t.sites) refl is
      by false is = rw is (keep_abort k t nothing may.allows (may.concludes.decide Abort) free p)

  pub keep_expire : (t : Txn) → Allows a R T t → Casts a S (msg.Decide t Abort) t.sites → P nothing → P (on_expire a t nothing)
  keep_expire t al may p = by (may_abort a t nothing) (state_now a t nothing) refl refl
    where
      by : (b : Bool) (st : State) → may_abort a t nothing ≡ b → state_now a t nothing ≡ st → P (on_expire a t nothing)
      by true st is state = rw is (keep_abort k t nothing al may (abort_open a t nothing is) p)
      by false Q is state = rw (is, state) (keep_decide k t Abort nothing al (idle_open t (log_now a nothing) state) p)
      by false W is state = rw (is, state) (k.tells (told.Kept t W) nothing (al.kept W) p)
      by false Pc is state = rw (is, state) (k.tells (told.Kept t Pc) nothing (al.kept Pc) p)
      by false Pa is state = rw (is, state) (k.tells (told.Kept t Pa) nothing (al.kept Pa) p)
      by false C is state = rw (is, state) (k.tells (told.Kept t C) nothing (al.kept C) p)
      by false A is state = rw (is, state) (k.tells (told.Kept t A) nothing (al.kept A) p)

  -- each input
  pub keep_input : (i : Input) → Takes a R T S P i → P nothing → P (on_input a i nothing)
  keep_input (input.Begin sites) may p = k.tells (told.Began (next_txn a sites)) nothing may p
  keep_input (input.Do t op) may p = keep_refused t false _ may.0 p (λ allowed. k.sends (key_of op).site _ nothing (may.1 allowed) p) (refuse a t false nothing) refl
  keep_input (input.Commit t) may p = keep_refused t false _ may.0 p (λ allowed. keep_commit t may.1 (allowed_open a t false allowed) p) (refuse a t false nothing) refl
  keep_input (input.Cancel t) may p = keep_refused t true _ may.0 p (λ allowed. keep_abort k t nothing may.1 may.2 (allowed_open a t true allowed) p) (refuse a t true nothing) refl
  keep_input (input.Expire t) may p = keep_expire t may.0 may.1 p
  keep_input (input.Elect t group) may p = keep_join k t (next_election a t group) _ may.0 may.2 (keep_cast k group _ nothing may.1 p)
  keep_input (input.Deliver packet) may p = keep_message k packet.«from» packet.msg nothing may.0 may.1 p

  -- a whole step
  pub keep_step : Settles a R T S P → Takes a R T S P a.input → P nothing → P (step_at a)
  keep_step s may p = keep_settled k s 3 _ (keep_grants k 0 (on_input a a.input nothing) (s.freed (on_input a a.input nothing)) (keep_input a.input may p))
