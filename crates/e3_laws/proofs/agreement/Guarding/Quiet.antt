-- A step that joins no election of a transaction, attempts nothing of it, and asks nobody for an attempt of it.
use Rattle.std.proofs.Common.{◌≡◌, ◌==◌, ◌&&◌, ◌∷◌, [], ℕ, suc, Bool, true, false, List, refl, ap, sym, subst, ◌∙◌}
use Rattle.std.specs.Prelude.{not}
use Rattle.std.specs.List.{list_all}
use Rattle.std.proofs.lemmas.Bool.{and_parts}
use Rattle.e3_types.specs.declared.entries.Input.{Input}
use Rattle.e3_types.specs.declared.entries.Input.TheVariants as input
use Rattle.e3_types.specs.declared.entries.Told.{Told}
use Rattle.e3_types.specs.declared.entries.Told.TheVariants as told
use Rattle.e3_types.specs.declared.messages.Message.{Message}
use Rattle.e3_types.specs.declared.messages.Message.TheVariants as msg
use Rattle.e3_types.specs.declared.messages.Packet.{Packet}
use Rattle.e3_types.specs.declared.records.Record.{Record}
use Rattle.e3_types.specs.declared.records.Record.TheVariants as log
use Rattle.e3_types.specs.declared.transactions.State.TheVariants.{W}
use Rattle.e3_types.specs.declared.transactions.Txn.{Txn}
use Rattle.e3_types.specs.Same.{same_txn, same_state}
use Rattle.e3_world.specs.declared.lives.At.{At}
use Rattle.e3_world.specs.declared.lives.Made.{Made}
use Rattle.e3_world.specs.Elections.{greatest_heard}
use Rattle.e3_world.specs.Gatherings.{Election}
use Rattle.e3_world.specs.Making.{nothing, elected_now, state_now, is_coordinator, and_send}
use Rattle.e3_world.specs.Sound.{txn_in}
use Rattle.e3_world.specs.Steps.{on_commit, on_input, step_at}
use Rattle.e3_laws.specs.agreement.Rows.{Here, IsFromAway, MayTake, Stands, waits_here}
use Rattle.e3_laws.proofs.agreement.Guarding.Calm.{is_calm, is_silent, asks_none, is_own, is_plain, is_plain_message, Adds, adds_itself, adds_rest, adds_input, adds_refused, adds_abort, start}
use Rattle.e3_laws.proofs.agreement.Refinement.Whole.{good_input}
use Rattle.e3_laws.proofs.steps.Adding.{Allows, Preserves, Casts}
use Rattle.e3_laws.proofs.steps.Each.{each-of}
use Rattle.e3_laws.proofs.steps.Lists.{both_all, one_more}
use Rattle.e3_laws.proofs.steps.Rules.{Concludes, Joins, Hears}
use Rattle.e3_laws.proofs.steps.Taking.{Takes, keep_input, next_election}

-- the record is neither a join nor an attempt of the transaction
abbrev pub is_calm_of : Txn → Record → Bool
is_calm_of t (log.Join u n) = not (same_txn t u)
is_calm_of t (log.Attempt u n dir) = not (same_txn t u)
is_calm_of t r = true

-- the message asks for no attempt of it
abbrev pub asks_none_of : Txn → Message → Bool
asks_none_of t (msg.Pre u n dir) = not (same_txn t u)
asks_none_of t m = true

-- the event is no verdict over it
abbrev pub is_silent_of : Txn → Told → Bool
is_silent_of t (told.Verdict u n v) = not (same_txn t u)
is_silent_of t e = true

-- what a step made is calm
pub record Quiet (t : Txn) (made : Made) : Type 0 where
  pub records : list_all (is_calm_of t) made.records ≡ true
  pub outs : list_all (λ p. asks_none_of t p.msg) made.outs ≡ true
  pub told : list_all (is_silent_of t) made.told ≡ true

calm_any : (t : Txn) (r : Record) → is_calm r ≡ true → is_calm_of t r ≡ true
calm_any t (log.Join u n) is = cc
calm_any t (log.Attempt u n dir) is = cc
calm_any t (log.Vote u ops) is = refl
calm_any t (log.Decision u dir) is = refl
calm_any t (log.Birth format site weights rows) is = refl
calm_any t (log.Inc inc) is = refl

none_any : (t : Txn) (m : Message) → asks_none m ≡ true → asks_none_of t m ≡ true
none_any t (msg.Pre u n dir) is = cc
none_any t (msg.Do u n op) is = refl
none_any t (msg.Done u n inc answer) is = refl
none_any t (msg.Died u n older) is = refl
none_any t (msg.Ask u call) is = refl
none_any t (msg.LastElected u call number) is = refl
none_any t (msg.Elected u n) is = refl
none_any t (msg.Report u n st attempt) is = refl
none_any t (msg.VoteReq u inc count) is = refl
none_any t (msg.Vote u agrees) is = refl
none_any t (msg.Ack u n dir) is = refl
none_any t (msg.Decide u dir) is = refl

silent_any : (t : Txn) (e : Told) → is_silent e ≡ true → is_silent_of t e ≡ true
silent_any t (told.Verdict u n v) is = cc
silent_any t (told.Began u) is = refl
silent_any t (told.Op u n answer) is = refl
silent_any t (told.Ended u dir) is = refl
silent_any t (told.Died u older) is = refl
silent_any t (told.Doomed u site had now) is = refl
silent_any t (told.Refused u why) is = refl
silent_any t (told.Kept u st) is = refl

pub silent_all : (t : Txn) (es : List Told) → list_all is_silent es ≡ true → list_all (is_silent_of t) es ≡ true
silent_all t [] all = refl
silent_all t (e ∷ es) all =
    let p = and_parts (is_silent e) (list_all is_silent es) all in
    rw (silent_any t e p.0, silent_all t es p.1) refl

pub calm_all : (t : Txn) (rs : List Record) → list_all is_calm rs ≡ true → list_all (is_calm_of t) rs ≡ true
calm_all t [] all = refl
calm_all t (r ∷ rs) all =
    let p = and_parts (is_calm r) (list_all is_calm rs) all in
    rw (calm_any t r p.0, calm_all t rs p.1) refl

none_all : (t : Txn) (ps : List Packet) → list_all (λ p. asks_none p.msg) ps ≡ true → list_all (λ p. asks_none_of t p.msg) ps ≡ true
none_all t [] all = refl
none_all t (q ∷ ps) all =
    let p = and_parts (asks_none q.msg) (list_all (λ p. asks_none p.msg) ps) all in
    rw (none_any t q.msg p.0, none_all t ps p.1) refl

-- what is added leaves it calm
pub quiet_more : (t : Txn) (was made : Made) → Quiet t was → Adds was made → Quiet t made
quiet_more t was made q k = record {
  records = subst (λ l. list_all (is_calm_of t) l ≡ true) (sym k.records) (both_all (is_calm_of t) was.records k.more q.records (calm_all t k.more k.calm));
  outs = subst (λ l. list_all (λ p. asks_none_of t p.msg) l ≡ true) (sym k.outs) (both_all (λ p. asks_none_of t p.msg) was.outs k.sent q.outs (none_all t k.sent k.asks));
  told = subst (λ l. list_all (is_silent_of t) l ≡ true) (sym k.told) (both_all (is_silent_of t) was.told k.events q.told (silent_all t k.events k.silent));
}

pub quiet_start : (t : Txn) → Quiet t nothing
quiet_start t = record { records = refl; outs = refl; told = refl }

-- the input is of another transaction
abbrev pub IsOther : Txn → Input → Type 0
IsOther t (input.Commit u) = same_txn t u ≡ false
IsOther t (input.Elect u group) = same_txn t u ≡ false
IsOther t (input.Deliver packet) = same_txn t (txn_in packet.msg) ≡ false
IsOther t i = ⊥

abbrev Calm : Txn → Record → Type 0
Calm t r = is_calm_of t r ≡ true

abbrev Silent : Txn → Told → Type 0
Silent t e = is_silent_of t e ≡ true

abbrev AsksNone : Txn → ℕ → Message → Type 0
AsksNone t to m = asks_none_of t m ≡ true

module _ (a : At) (t : Txn) where
  sent : (to : ℕ) (m : Message) (made : Made) → AsksNone t to m → Quiet t made → Quiet t (and_send a to m made)
  sent to m made none q = by (to == a.site) refl
    where
      by : (b : Bool) → (to == a.site) ≡ b → Quiet t (and_send a to m made)
      by true is = rw is (record { records = q.records; outs = q.outs; told = q.told })
      by false is = rw is (record { records = q.records; outs = one_more (λ p. asks_none_of t p.msg) made.outs (record { number = 0; «from» = a.site; to = to; msg = m }) q.outs none; told = q.told })

  kept : Preserves a (Calm t) (Silent t) (AsksNone t) (Quiet t)
  kept = record {
    records = λ r made calm q. record { records = one_more (is_calm_of t) made.records r q.records calm; outs = q.outs; told = q.told };
    tells = λ e made silent q. record { records = q.records; outs = q.outs; told = one_more (is_silent_of t) made.told e q.told silent };
    sends = sent;
  }

  casts : (m : Message) (sites : List ℕ) → asks_none_of t m ≡ true → Casts a (AsksNone t) m sites
  casts m sites none = each-of (λ s. (s == a.site) ≡ false → AsksNone t s m) (λ s apart. none) sites

  module _ (u : Txn) (other : same_txn t u ≡ false) where
    allows : Allows a (Calm t) (Silent t) u
    allows = record {
      vote = λ made free. refl;
      attempt = λ n dir made free. ap not other;
      decision = λ dir made free. refl;
      ended = λ dir. refl;
      verdict = λ n v. ap not other;
      doomed = λ f i j. refl;
      kept = λ st. refl;
    }

    concludes : (sites : List ℕ) → Concludes a (AsksNone t) u sites
    concludes sites = record { decide = λ dir. casts (msg.Decide u dir) sites refl; pre = λ n dir. casts (msg.Pre u n dir) sites (ap not other) }

    joins : (e : Election) → Joins a (Calm t) (AsksNone t) u e
    joins e = record {
      join = λ all. ap not other;
      elected = λ all. casts (msg.Elected u (suc (greatest_heard e))) e.group refl;
      concludes = concludes e.group;
    }

  hears : (f : ℕ) (x : Message) → is_plain_message x ≡ false → same_txn t (txn_in x) ≡ false → Hears a (Calm t) (Silent t) (AsksNone t) (Quiet t) f x
  hears f (msg.LastElected u call n) plain other = λ e more is took. joins u other more
  hears f (msg.Elected u n) plain other = (ap not other, (λ st attempt. refl))
  hears f (msg.Report u n st attempt) plain other = λ e more is took. concludes u other more.group
  hears f (msg.Vote u true) plain other = concludes u other u.sites
  hears f (msg.Pre u n dir) plain other = refl
  hears f (msg.Do u n op) plain other = absurd cc
  hears f (msg.Done u n inc answer) plain other = absurd cc
  hears f (msg.Died u n older) plain other = absurd cc
  hears f (msg.Ask u call) plain other = absurd cc
  hears f (msg.VoteReq u inc count) plain other = absurd cc
  hears f (msg.Vote u false) plain other = absurd cc
  hears f (msg.Ack u n dir) plain other = absurd cc
  hears f (msg.Decide u dir) plain other = absurd cc

  takes : (i : Input) → is_plain i ≡ false → IsOther t i → Takes a (Calm t) (Silent t) (AsksNone t) (Quiet t) i
  takes (input.Commit u) plain other = (
    (λ why is. refl),
    record {
      allows = allows u other;
      asks = each-of (λ s. (s == a.site) ≡ false → _) (λ s apart. refl) u.sites;
      concludes = concludes u other u.sites;
    },
  )
  takes (input.Elect u group) plain other = (allows u other, casts (msg.Ask u (next_election a u group).call) group refl, joins u other (next_election a u group))
  takes (input.Deliver packet) plain other = (allows (txn_in packet.msg) other, hears packet.«from» packet.msg plain other)
  takes (input.Begin sites) plain other = absurd other
  takes (input.Do u op) plain other = absurd other
  takes (input.Cancel u) plain other = absurd other
  takes (input.Expire u) plain other = absurd other

  -- an input of another transaction
  pub quiet_other : (i : Input) → is_plain i ≡ false → IsOther t i → Quiet t (on_input a i nothing)
  quiet_other i plain other = keep_input kept i (takes i plain other) (quiet_start t)

-- what an input makes wait is what a site may have for itself
own_all : (site : ℕ) (ms : List Message) → list_all (waits_here site) ms ≡ true → list_all is_own ms ≡ true
own_all site [] all = refl
own_all site (m ∷ ms) all =
    let p = and_parts (waits_here site m) (list_all (waits_here site) ms) all in
    rw (one m p.0, own_all site ms p.1) refl
  where
    one : (m : Message) → waits_here site m ≡ true → is_own m ≡ true
    one (msg.Do u n op) is = refl
    one (msg.Done u n inc answer) is = refl
    one (msg.Vote u false) is = refl
    one (msg.Vote u true) is = cc
    one (msg.Died u n older) is = cc
    one (msg.Ask u call) is = cc
    one (msg.LastElected u call number) is = cc
    one (msg.Elected u n) is = cc
    one (msg.Report u n st attempt) is = cc
    one (msg.VoteReq u inc count) is = cc
    one (msg.Pre u n dir) is = cc
    one (msg.Ack u n dir) is = cc
    one (msg.Decide u dir) is = cc

-- behind what its input makes a step adds nothing of elections
pub step_adds : (h : Here) (made : Made) → Stands h → MayTake h.at.site h.at.input → on_input h.at h.at.input nothing ≡ made → Adds made (step_at h.at)
step_adds h made s fits is =
    adds_rest h.at made made is
    (adds_itself made (subst (λ (m : Made). list_all is_own m.own ≡ true) is (own_all h.at.site (on_input h.at h.at.input nothing).own (good_input h s h.at.input refl fits).own)))

-- so a step is calm where what its input makes is so
pub quiet_step : (h : Here) (made : Made) → Stands h → MayTake h.at.site h.at.input → on_input h.at h.at.input nothing ≡ made → Quiet h.txn made → Quiet h.txn (step_at h.at)
quiet_step h made s fits is q = quiet_more h.txn made (step_at h.at) q (step_adds h made s fits is)

-- an input that may neither join nor attempt
pub quiet_plain : (h : Here) → Stands h → MayTake h.at.site h.at.input → is_plain h.at.input ≡ true → Quiet h.txn (step_at h.at)
quiet_plain h s fits plain =
    quiet_step h (on_input h.at h.at.input nothing) s fits refl
    (quiet_more h.txn nothing (on_input h.at h.at.input nothing) (quiet_start h.txn) (adds_input h.at h.at.input far plain))
  where
    far : (packet : Packet) → h.at.input ≡ input.Deliver packet → (packet.«from» == h.at.site) ≡ false
    far packet is = away_of (subst (λ i. IsFromAway h.at.site i) is s.away)
      where
        away_of : IsFromAway h.at.site (input.Deliver packet) → (packet.«from» == h.at.site) ≡ false
        away_of away = away

-- a commit, or a yes, where an election was joined
pub quiet_commit : (h : Here) → Stands h → MayTake h.at.site h.at.input → h.at.input ≡ input.Commit h.txn → (elected_now h.at h.txn nothing == 1) ≡ false → Quiet h.txn (step_at h.at)
quiet_commit h s fits is late =
    quiet_step h (on_input h.at (input.Commit h.txn) nothing) s fits (ap (λ i. on_input h.at i nothing) is)
    (quiet_more h.txn nothing (on_input h.at (input.Commit h.txn) nothing) (quiet_start h.txn) (adds_refused h.at h.txn false (on_commit h.at h.txn nothing) aborts))
  where
    aborts : Adds nothing (on_commit h.at h.txn nothing)
    aborts = rw late (adds_abort h.at nothing nothing h.txn start)

pub quiet_yes : (h : Here) (packet : Packet) → Stands h → MayTake h.at.site h.at.input → h.at.input ≡ input.Deliver packet → packet.msg ≡ msg.Vote h.txn true →
    (elected_now h.at h.txn nothing == 1) ≡ false → Quiet h.txn (step_at h.at)
quiet_yes h packet s fits is says late = quiet_step h nothing s fits (ap (λ i. on_input h.at i nothing) is ∙ made) (quiet_start h.txn)
  where
    test : (b : Bool) → (b && elected_now h.at h.txn nothing == 1) ≡ false
    test true = late
    test false = refl

    made : on_input h.at (input.Deliver packet) nothing ≡ nothing
    made = rw says (rw (test (is_coordinator h.at h.txn && same_state (state_now h.at h.txn nothing) W)) refl)
