-- The groups of elections and the receivers of rounds are sites of the transaction, where all inputs suit the site.
use Rattle.std.proofs.Common.{◌≡◌, ◌==◌, ◌&&◌, ◌++◌, ◌∷◌, [], ℕ, suc, Bool, true, false, not, List, Option, Some, None, refl, sym, subst, if◌then◌else◌, fold}
use Rattle.std.specs.Prelude.{option_map}
use Rattle.std.specs.List.{list_any}
use Rattle.e3_types.specs.declared.entries.Input.{Input}
use Rattle.e3_types.specs.declared.entries.Input.TheVariants as input
use Rattle.e3_types.specs.declared.messages.Message.{Message}
use Rattle.e3_types.specs.declared.messages.Message.TheVariants as msg
use Rattle.e3_types.specs.declared.messages.Packet.{Packet}
use Rattle.e3_types.specs.declared.records.Record.{Record}
use Rattle.e3_types.specs.declared.records.Record.TheVariants as log
use Rattle.e3_types.specs.declared.transactions.Call.{Call}
use Rattle.e3_types.specs.declared.transactions.Dir.{Dir}
use Rattle.e3_types.specs.declared.transactions.Txn.{Txn}
use Rattle.e3_types.specs.declared.verdicts.SiteReport.{SiteReport}
use Rattle.e3_types.specs.Same.{same_txn, same_dir, same_call}
use Rattle.e3_types.specs.Sets.{has_site, is_within, others}
use Rattle.e3_world.specs.Gatherings.{Election, Elections, Round, Rounds}
use Rattle.e3_world.specs.declared.lives.Moment.{Moment}
use Rattle.e3_world.specs.Elections.{Heard, begun, hear, take_report, or_same, heard_more, after_heard, all_heard, joined_in, ends_election, election_with, election_by, election_in_progress, is_join, heard_in}
use Rattle.e3_world.specs.Logs.{last_elected}
use Rattle.e3_world.specs.Rounds.{count_ack, receivers, round_by_record, round_by, round_in_progress}
use Rattle.e3_laws.specs.steps.Bounds.{Suits}
use Rattle.e3_laws.proofs.steps.Suits.Among.{within_self, others_within}
use Rattle.e3_laws.proofs.steps.Suits.Arriving.{AllSuit}
use Rattle.e3_laws.proofs.steps.Tests.{same_is}
use Rattle.e3_laws.proofs.steps.Each.{IfAny}

-- the group of the election is of the transaction's sites
abbrev pub IsGroup : Txn → Election → Type 0
IsGroup t e = is_within e.group t.sites ≡ true

if_any : {X : Type 0} (P : X → Type 0) (b : Bool) (x y : Option X) → IfAny P x → IfAny P y → IfAny P (if b then x else y)
if_any P true x y first second = first
if_any P false x y first second = second

pub heard_group : (t : Txn) (e : Election) (f : ℕ) (call : Call) (elected : ℕ) → IsGroup t e → IfAny (IsGroup t) (hear e f call elected)
heard_group t e f call elected is =
    if_any (IsGroup t) (same_call e.call call && has_site e.group f && not (list_any (λ h. h.site == f) e.heard)) _ None is tt

pub report_group : (t : Txn) (e : Election) (n : ℕ) (report : SiteReport) → IsGroup t e → IfAny (IsGroup t) (take_report e n report)
report_group t e n report is = by e.number refl
  where
    by : (o : Option ℕ) → e.number ≡ o → IfAny (IsGroup t) (take_report e n report)
    by None none = rw none tt
    by (Some k) some = rw some
        (if_any (IsGroup t) (n == k && has_site e.group report.site && not (list_any (λ r. r.site == report.site) e.reports)) _ None is tt)

after_group : (site : ℕ) (t : Txn) (m : Moment) (e : Election) → IsGroup t e → IfAny (IsGroup t) (after_heard site t m e)
after_group site t m e is = by (all_heard e) refl
  where
    joined : (o : Option ℕ) → joined_in t m.records ≡ o → all_heard e ≡ true → IfAny (IsGroup t) (after_heard site t m e)
    joined None none all = rw (all, none) tt
    joined (Some n) some all = rw (all, some) is

    by : (b : Bool) → all_heard e ≡ b → IfAny (IsGroup t) (after_heard site t m e)
    by true all = joined (joined_in t m.records) refl all
    by false all = rw all is

more_group : (site : ℕ) (t : Txn) (m : Moment) (e : Election) (o : Option Election) → IsGroup t e → IfAny (IsGroup t) o → IfAny (IsGroup t) (heard_more site t m e o)
more_group site t m e None is this = is
more_group site t m e (Some more) is this = after_group site t m more this

same_group : (t : Txn) (e : Election) (o : Option Election) → IsGroup t e → IfAny (IsGroup t) o → IfAny (IsGroup t) (or_same e o)
same_group t e None is this = is
same_group t e (Some more) is this = this

with_group : (site : ℕ) (t : Txn) (m : Moment) (e : Election) (f : ℕ) (x : Message) → IsGroup t e → IfAny (IsGroup t) (election_with site t m e f x)
with_group site t m e f (msg.LastElected u call elected) is =
    if_any (IsGroup t) (same_txn t u) (heard_more site t m e (hear e f call elected)) (Some e) (more_group site t m e (hear e f call elected) is (heard_group t e f call elected is)) is
with_group site t m e f (msg.Report u n st attempt) is =
    if_any (IsGroup t) (same_txn t u) (or_same e (take_report e n (record { site = f; state = st; attempt = attempt }))) (Some e)
    (same_group t e (take_report e n (record { site = f; state = st; attempt = attempt })) is (report_group t e n (record { site = f; state = st; attempt = attempt }) is)) is
with_group site t m e f (msg.Elected u n) is = if_any (IsGroup t) (list_any (is_join t) m.records) None (Some e) tt is
with_group site t m e f x is = is

step_group : (site inc : ℕ) (t : Txn) (weights : List ℕ) (was : Elections) (m : Moment) → IfAny (IsGroup t) was.now → Suits weights site m.input →
    IfAny (IsGroup t) (election_by site inc t was m).now
step_group site inc t weights was m is suits = by m.input refl suits
  where
    heard : (h : Heard) (o : Option Election) → IfAny (IsGroup t) o → was.now ≡ o → heard_in m ≡ Some h → (p : Packet) → m.input ≡ input.Deliver p → IfAny (IsGroup t) (election_by site inc t was m).now
    heard h None this now took p at = rw (at, now) (if_any (IsGroup t) (ends_election t m) None None tt tt)
    heard h (Some e) this now took p at = rw (at, now) (if_any (IsGroup t) (ends_election t m) None _ tt (with_group site t m e p.«from» p.msg this))

    quiet : IfAny (IsGroup t) (if ends_election t m then None else was.now)
    quiet = if_any (IsGroup t) (ends_election t m) None was.now tt is

    elected : (u : Txn) (group : List ℕ) (b : Bool) → same_txn t u ≡ b → m.input ≡ input.Elect u group → is_within group u.sites ≡ true →
        IfAny (IsGroup t) (election_by site inc t was m).now
    elected u group true same at within = rw (at, same) (if_any (IsGroup t) (ends_election t m) None _ tt
        (after_group site t m (begun site (record { inc = inc; seq = suc was.calls }) group (last_elected t m.before))
        (let P : Txn → Type 0 = λ x. is_within group x.sites ≡ true in subst P (sym (same_is t u same)) within)))
    elected u group false same at within = rw (at, same) (if_any (IsGroup t) (ends_election t m) None was.now tt is)

    by : (i : Input) → m.input ≡ i → Suits weights site i → IfAny (IsGroup t) (election_by site inc t was m).now
    by (input.Elect u group) at fit = elected u group (same_txn t u) refl at fit.2
    by (input.Deliver p) at fit = heard (record { «from» = p.«from»; msg = p.msg }) was.now is refl (rw at refl) p at
    by i at fit = rw at quiet

fold_group : (site inc : ℕ) (t : Txn) (weights : List ℕ) (was : Elections) (steps : List Moment) → IfAny (IsGroup t) was.now → AllSuit weights site steps →
    IfAny (IsGroup t) (fold (election_by site inc t) was steps).now
fold_group site inc t weights was [] is suit = is
fold_group site inc t weights was (m ∷ steps) is suit =
    fold_group site inc t weights (election_by site inc t was m) steps (step_group site inc t weights was m is suit.0) suit.1

-- the group of the election in progress is of the transaction's sites
pub election_group : (weights : List ℕ) (site inc : ℕ) (t : Txn) (steps : List Moment) → AllSuit weights site steps →
    IfAny (IsGroup t) (election_in_progress site inc t steps)
election_group weights site inc t steps suit = fold_group site inc t weights (record { calls = 0; now = None }) steps tt suit

-- the receivers of the round are of the transaction's sites
abbrev pub GoesTo : Txn → Round → Type 0
GoesTo t r = is_within r.to t.sites ≡ true

pub count_goes : (t : Txn) (r : Round) (f n : ℕ) (dir : Dir) → GoesTo t r → GoesTo t (count_ack r f n dir)
count_goes t r f n dir is = by (r.n == n && same_dir r.dir dir && has_site r.to f && not (has_site r.acked f))
  where
    by : (b : Bool) → GoesTo t (if b then record r { acked = r.acked ++ f ∷ [] } else r)
    by true = is
    by false = is

receivers_within : (site : ℕ) (t : Txn) (group : List ℕ) (n : ℕ) → is_within group t.sites ≡ true → is_within (receivers site t group n) t.sites ≡ true
receivers_within site t group n within = by (n == 1)
  where
    by : (b : Bool) → is_within (if b then others site t.sites else others site group) t.sites ≡ true
    by true = others_within site t.sites t.sites (within_self t.sites)
    by false = others_within site group t.sites within

record_goes : (site : ℕ) (t : Txn) (group : List ℕ) (was : Option Round) (r : Record) → is_within group t.sites ≡ true → IfAny (GoesTo t) was →
    IfAny (GoesTo t) (round_by_record site t group was r)
record_goes site t group was (log.Attempt u n dir) within is = if_any (GoesTo t) (same_txn t u) _ was (receivers_within site t group n within) is
record_goes site t group was (log.Join u n) within is = if_any (GoesTo t) (same_txn t u) None was tt is
record_goes site t group was (log.Decision u dir) within is = if_any (GoesTo t) (same_txn t u) None was tt is
record_goes site t group was r within is = is

records_go : (site : ℕ) (t : Txn) (group : List ℕ) (was : Option Round) (rs : List Record) → is_within group t.sites ≡ true → IfAny (GoesTo t) was →
    IfAny (GoesTo t) (fold (round_by_record site t group) was rs)
records_go site t group was [] within is = is
records_go site t group was (r ∷ rs) within is = records_go site t group (round_by_record site t group was r) rs within (record_goes site t group was r within is)

-- the group of the last election and the round in progress are of the transaction's sites
record RoundsWithin (t : Txn) (r : Rounds) : Type 0 where
  pub group : is_within r.group t.sites ≡ true
  pub now : IfAny (GoesTo t) r.now

acked_goes : (t : Txn) (f n : ℕ) (dir : Dir) (o : Option Round) → IfAny (GoesTo t) o → IfAny (GoesTo t) (option_map (λ r. count_ack r f n dir) o)
acked_goes t f n dir None is = tt
acked_goes t f n dir (Some r) is = count_goes t r f n dir is

step_goes : (site : ℕ) (t : Txn) (weights : List ℕ) (was : Rounds) (m : Moment) → RoundsWithin t was → Suits weights site m.input →
    RoundsWithin t (round_by site t was m)
step_goes site t weights was m is suits = by m.input refl suits
  where
    more : (group : List ℕ) (o : Option Round) → is_within group t.sites ≡ true → IfAny (GoesTo t) o → IfAny (GoesTo t) (fold (round_by_record site t group) o m.records)
    more group o within this = records_go site t group o m.records within this

    said : (x : Message) (p : Packet) → m.input ≡ input.Deliver p → p.msg ≡ x → RoundsWithin t (round_by site t was m)
    said (msg.Pre u n dir) p at same = rw at (record { group = is.group; now = rw same is.now })
    said (msg.Ack u n dir) p at same = rw at (record {
      group = is.group;
      now = rw same (more was.group _ is.group (if_any (GoesTo t) (same_txn t u) _ was.now (acked_goes t p.«from» n dir was.now is.now) is.now));
    })
    said x p at same = rw at (record { group = is.group; now = rw same (more was.group was.now is.group is.now) })

    elected : (u : Txn) (group : List ℕ) (b : Bool) → same_txn t u ≡ b → m.input ≡ input.Elect u group → is_within group u.sites ≡ true →
        RoundsWithin t (round_by site t was m)
    elected u group true same at within =
        let inside : is_within group t.sites ≡ true = (let P : Txn → Type 0 = λ x. is_within group x.sites ≡ true in subst P (sym (same_is t u same)) within) in
        rw (at, same) (record { group = inside; now = more group was.now inside is.now })
    elected u group false same at within = rw (at, same) (record { group = is.group; now = more was.group was.now is.group is.now })

    by : (i : Input) → m.input ≡ i → Suits weights site i → RoundsWithin t (round_by site t was m)
    by (input.Elect u group) at fit = elected u group (same_txn t u) refl at fit.2
    by (input.Deliver p) at fit = said p.msg p at refl
    by i at fit = rw at (record { group = is.group; now = more was.group was.now is.group is.now })

fold_goes : (site : ℕ) (t : Txn) (weights : List ℕ) (was : Rounds) (steps : List Moment) → RoundsWithin t was → AllSuit weights site steps →
    RoundsWithin t (fold (round_by site t) was steps)
fold_goes site t weights was [] is suit = is
fold_goes site t weights was (m ∷ steps) is suit = fold_goes site t weights (round_by site t was m) steps (step_goes site t weights was m is suit.0) suit.1

-- the receivers of the round in progress are of the transaction's sites
pub round_goes : (weights : List ℕ) (site : ℕ) (t : Txn) (steps : List Moment) → AllSuit weights site steps → IfAny (GoesTo t) (round_in_progress site t steps)
round_goes weights site t steps suit =
    (fold_goes site t weights (record { group = []; now = None }) steps (record { group = refl; now = tt }) suit).now
