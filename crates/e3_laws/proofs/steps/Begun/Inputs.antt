-- What a step of a site sends, records and tells mentions only what its input, its steps and its log mention.
use Rattle.std.proofs.Common.{◌≡◌, ◌==◌, ◌∷◌, [], ℕ, Bool, true, false, List, Option, Some, None, refl, subst}
use Rattle.std.specs.List.{AllByRecursion as Each}
use Rattle.e3_types.specs.declared.entries.Input.{Input}
use Rattle.e3_types.specs.declared.entries.Input.TheVariants as input
use Rattle.e3_types.specs.declared.entries.Refusal.{Refusal}
use Rattle.e3_types.specs.declared.messages.Message.TheVariants as msg
use Rattle.e3_types.specs.declared.transactions.Dir.{Dir}
use Rattle.e3_types.specs.declared.transactions.Dir.TheVariants.{Abort}
use Rattle.e3_types.specs.declared.transactions.State.{State}
use Rattle.e3_types.specs.declared.transactions.State.TheVariants.{Q, W, Pc, Pa, C, A}
use Rattle.e3_types.specs.declared.transactions.Txn.{Txn}
use Rattle.e3_world.specs.declared.lives.At.{At}
use Rattle.e3_world.specs.declared.lives.Incarnation.{Incarnation}
use Rattle.e3_world.specs.declared.lives.Made.{Made}
use Rattle.e3_world.specs.Lives.{life_of}
use Rattle.e3_world.specs.Logs.{decision}
use Rattle.e3_world.specs.Making.{nothing, log_now, state_now, attempt_now, is_present}
use Rattle.e3_world.specs.Moves.{unnumbered_input}
use Rattle.e3_world.specs.Operations.{unanswered, kept_reason}
use Rattle.e3_world.specs.Sound.{txn_in}
use Rattle.e3_world.specs.Steps.{refuse_late, refuse, step_of}
use Rattle.e3_laws.proofs.steps.Each.{IfAny, each-of}
use Rattle.e3_laws.proofs.steps.Taking.{MayRefuse, Takes, keep_step, next_election, next_txn}
use Rattle.e3_laws.proofs.steps.Suits.Inputs.{place}
use Rattle.e3_laws.specs.steps.Mentions.{Mention, OfTxn, of_input}
use Rattle.e3_laws.proofs.steps.Begun.Reading.{RefusalIs, RecordIs, MomentIs, reasons_are}
use Rattle.e3_laws.proofs.steps.Begun.Keeping.{Keeps, Ready, Sends, Tells, kept}
use Rattle.e3_laws.proofs.steps.Begun.Handling.{allows, casts, concludes, hears, joins, known, settles}

-- a transaction that the input begins meets B
abbrev pub BeginIs : (Txn → Type 0) → At → Input → Type 0
BeginIs B a (input.Begin sites) = B (next_txn a sites)
BeginIs B a i = Unit {0}

late_is : (P : Mention → Type 0) (a : At) (t : Txn) (made : Made) → IfAny (RefusalIs P) (refuse_late a t made)
late_is P a t made = by (state_now a t made) refl
  where
    by : (st : State) → state_now a t made ≡ st → IfAny (RefusalIs P) (refuse_late a t made)
    by Q is = rw is tt
    by W is = rw is tt
    by Pc is = rw is tt
    by Pa is = rw is tt
    by C is = rw is tt
    by A is = rw is tt

pub refuse_is : (P : Mention → Type 0) (a : At) (t : Txn) (cancels : Bool) (made : Made) → Each (MomentIs P) a.life.steps →
    IfAny (RefusalIs P) (refuse a t cancels made)
refuse_is P a t cancels made steps = by (decision t (log_now a made)) (kept_reason t a.life.steps) cancels refl refl (reasons_are P t a.life.steps steps)
  where
    busy : (o : Option ℕ) → unanswered t (log_now a made) a.life.steps ≡ o → decision t (log_now a made) ≡ None → is_present a t ≡ true →
        IfAny (RefusalIs P) (refuse a t false made)
    busy (Some n) is none here = rw (none, here, is) tt
    busy None is none here = rw (none, here, is) (late_is P a t made)

    cancel : (b : Bool) → (attempt_now a t made == 0) ≡ b → decision t (log_now a made) ≡ None → is_present a t ≡ true → IfAny (RefusalIs P) (refuse a t true made)
    cancel true is none here = rw (none, here, is) tt
    cancel false is none here = rw (none, here, is) tt

    undecided : (p c : Bool) → is_present a t ≡ p → decision t (log_now a made) ≡ None → IfAny (RefusalIs P) (refuse a t c made)
    undecided false c here none = rw (none, here) tt
    undecided true true here none = cancel (attempt_now a t made == 0) refl none here
    undecided true false here none = busy (unanswered t (log_now a made) a.life.steps) refl none here

    by : (o : Option Dir) (l : List Refusal) (c : Bool) → decision t (log_now a made) ≡ o → kept_reason t a.life.steps ≡ l → Each (RefusalIs P) l →
        IfAny (RefusalIs P) (refuse a t c made)
    by None l c none kept all = undecided (is_present a t) c refl none
    by (Some dir) [] c some kept all = rw (some, kept) tt
    by (Some dir) (why ∷ more) c some kept all = rw (some, kept) all.0

module _ (P : Mention → Type 0) (B : Txn → Type 0) where
  refused : (a : At) (t : Txn) (cancels : Bool) → P (OfTxn t) → Ready P a → MayRefuse a (Tells P B) t cancels
  refused a t cancels this ready why is =
      let Q : Option Refusal → Type 0 = IfAny (RefusalIs P) in ((this, subst Q is (refuse_is P a t cancels nothing ready.steps)), tt)

  takes : (a : At) (i : Input) → Each P (of_input i) → BeginIs B a i → Ready P a → Takes a (RecordIs P) (Tells P B) (Sends P) (Keeps P B a.site) i
  takes a (input.Begin sites) this begins ready = (tt, (begins, tt))
  takes a (input.Do t op) this begins ready = (refused a t false this.0 ready, (λ allowed. this))
  takes a (input.Commit t) this begins ready = (
    refused a t false this.0 ready,
    record {
      allows = allows P B a t this.0 ready;
      asks = each-of (λ s. (s == a.site) ≡ false → P (OfTxn t) × Unit {0}) (λ s apart. (this.0, tt)) t.sites;
      concludes = concludes P B a t t.sites this.0;
    },
  )
  takes a (input.Cancel t) this begins ready = (refused a t true this.0 ready, allows P B a t this.0 ready, casts P B a (msg.Decide t Abort) t.sites (this.0, tt))
  takes a (input.Expire t) this begins ready = (allows P B a t this.0 ready, casts P B a (msg.Decide t Abort) t.sites (this.0, tt))
  takes a (input.Elect t group) this begins ready = (allows P B a t this.0 ready, casts P B a (msg.Ask t (next_election a t group).call) group (this.0, tt), joins P B a t (next_election a t group) this.0)
  takes a (input.Deliver p) this begins ready = (allows P B a (txn_in p.msg) (known P B p.msg this) ready, hears P B a p.«from» p.msg this ready)

  unnumbered_is : (i : Input) → Each P (of_input i) → Each P (of_input (unnumbered_input i))
  unnumbered_is (input.Deliver p) this = this
  unnumbered_is i this = this

  unnumbered_begins : (a : At) (i : Input) → BeginIs B a i → BeginIs B a (unnumbered_input i)
  unnumbered_begins a (input.Deliver p) this = this
  unnumbered_begins a i this = this

  -- a step
  pub step_keeps : (weights : List ℕ) (site : ℕ) (now : Incarnation) (i : Input) → Each (MomentIs P) (life_of now).steps → Each (RecordIs P) (life_of now).log →
      Each P (of_input i) → BeginIs B (place weights site now i) i → Keeps P B site (step_of weights site now i)
  step_keeps weights site now i steps records this begins =
      let a : At = place weights site now i in
      let ready : Ready P a = record { steps = steps; input = unnumbered_is i this; log = records } in
      keep_step (kept P B a) (settles P B a ready) (takes a a.input ready.input (unnumbered_begins a i begins) ready) (record { own = tt; outs = tt; records = tt; told = tt })
