-- What a brief has is the site's own; and of which logs a site that is up, or a rise, tells the brief.
use Rattle.std.proofs.Common.{◌≡◌, ◌≢◌, ◌<◌, length, arith, ◌++◌, ◌∷◌, [], ℕ, Bool, true, false, List, Option, Some, None, inr, refl, sym, subst, ap, ◌∙◌, append-nil}
use Rattle.std.specs.Prelude.{if◌then◌else◌, nat_lt, max, Result, Ok, Err, IfOk}
use Rattle.e3_disk.specs.Meters.{Meters}
use Rattle.std.specs.List.{AllByRecursion as Each, flat_map}
use Rattle.e3_laws.specs.brief.Alike.{ReadAlike}
use Rattle.e3_world.specs.Brief.{attempt_in, born_by, born_in, brief, decision_in, inc_in, join_in, noted, open_ops, txns_of, vote_in}
use Rattle.e3_world.specs.Orderly.{IsOrderly, weights_in}
use Rattle.e3_laws.proofs.brief.Laws.{are_some, same_brief}
use Rattle.e3_laws.specs.serial.Orderly.{LogsAreOrderly}
use Rattle.e3_world.specs.Transactions.{IsFoundByBits}
use Rattle.e3_site.specs.StandsAlike.{IsLogInOrder, StandsAlike, now_with}
use Rattle.e3_laws.specs.steps.Begun.{BegunAreTransactions, RecordsMentionWhatStands}
use Rattle.e3_laws.specs.steps.Bounds.{IsHere}
use Rattle.e3_laws.specs.steps.Trails.{TrailsAreSound, VotesAtTheirSite}
use Rattle.e3_laws.proofs.steps.Ascending.{each_fold}
use Rattle.e3_laws.proofs.steps.Each.{each-append, each-flat}
use Rattle.e3_log.specs.Stands.{LogState}
use Rattle.e3_node.specs.Briefing.{IsBriefOf, IsReadBrief}
use Rattle.e3_node.specs.Telling.{IsOfSite}
use Rattle.e3_site.specs.Rebuilt.{IsRebuilt}
use Rattle.e3_site.specs.SiteView.{SiteView, risen_with}
use Rattle.e3_node.specs.site_log.Ends.{HasRoomUnlessShort}
use Rattle.e3_node.specs.declared.site_log.writing.Short.{Short}
use Rattle.e3_site.specs.TableBrief.{IsInOrder}
use Rattle.e3_site.proofs.AlikeTables.{in_order_alike}
use Rattle.e3_types.specs.declared.entries.Entry.{Entry}
use Rattle.e3_types.specs.declared.scenarios.Scenario.{Scenario}
use Rattle.e3_types.specs.Same.{same_txn}
use Rattle.e3_types.specs.Transactions.{is_txn}
use Rattle.e3_types.specs.declared.list.NoMemory.{NoMemory}
use Rattle.e3_types.specs.declared.records.Record.{Record}
use Rattle.e3_types.specs.declared.records.Record.TheVariants as log
use Rattle.e3_types.specs.declared.transactions.Dir.{Dir}
use Rattle.e3_types.specs.declared.transactions.NumOp.{NumOp}
use Rattle.e3_types.specs.declared.transactions.Row.{Row}
use Rattle.e3_types.specs.declared.transactions.Txn.{Txn}
use Rattle.e3_world.specs.Given.{IsGiven}
use Rattle.e3_world.specs.Items.{txn_of_record}
use Rattle.e3_world.specs.Legal.{IsLegal}
use Rattle.e3_world.specs.Lives.{life_of, present_log}
use Rattle.e3_world.specs.Moves.{log_of}
use Rattle.e3_world.specs.declared.lives.Incarnation.{Incarnation}
use Rattle.e3_world.proofs.Pushes.{life_log}
use Rattle.e3_world.specs.Logs.{attempted, decision, has_voted, is_undecided, last_attempt, last_elected, logged_inc, ops_of_vote, table_of, voted_ops}
use Rattle.e3_node.proofs.Owning.{log_own}

abbrev IsOne : Txn → Type 0
IsOne t = is_txn t ≡ true

-- the transactions of a log are ones, and the operations of its votes are here
txn_own : (site : ℕ) (r : Record) → IsOfSite site r → Each IsOne (txn_of_record r)
txn_own site (log.Birth format own weights rows) is = tt
txn_own site (log.Inc inc) is = tt
txn_own site (log.Vote t ops) is = (is.0, tt)
txn_own site (log.Join t n) is = (is, tt)
txn_own site (log.Attempt t n dir) is = (is, tt)
txn_own site (log.Decision t dir) is = (is, tt)

txns_own : (site : ℕ) (l : List Record) → Each (IsOfSite site) l → Each IsOne (txns_of l)
txns_own site l all = each_fold IsOne [] (flat_map txn_of_record l) tt (each-flat (IsOfSite site) IsOne txn_of_record (txn_own site) l all)

ops_own : (site : ℕ) (t : Txn) (r : Record) → IsOfSite site r → Each (IsHere site) (ops_of_vote t r)
ops_own site t (log.Birth format own weights rows) is = tt
ops_own site t (log.Inc inc) is = tt
ops_own site t (log.Vote u ops) is = by (same_txn t u)
  where
    by : (b : Bool) → Each (IsHere site) (if b then ops else [])
    by true = is.1
    by false = tt
ops_own site t (log.Join u n) is = tt
ops_own site t (log.Attempt u n dir) is = tt
ops_own site t (log.Decision u dir) is = tt

open_own : (site : ℕ) (t : Txn) (l : List Record) → Each (IsOfSite site) l → Each (IsHere site) (open_ops t l)
open_own site t l all = by (is_undecided t l)
  where
    by : (b : Bool) → Each (IsHere site) (if b then voted_ops t l else [])
    by true = each-flat (IsOfSite site) (IsHere site) (ops_of_vote t) (ops_own site t) l all
    by false = tt

-- so is what a brief notes of one
vote_own : (site : ℕ) (t : Txn) (voted : Bool) (ops : List NumOp) → IsOne t → Each (IsHere site) ops → Each (IsOfSite site) (vote_in t voted ops)
vote_own site t true ops one here = ((one, here), tt)
vote_own site t false ops one here = tt

attempt_own : (site : ℕ) (t : Txn) (dir : Option Dir) (n : ℕ) → IsOne t → Each (IsOfSite site) (attempt_in t dir n)
attempt_own site t None n one = tt
attempt_own site t (Some dir) n one = by (nat_lt 1 n)
  where
    by : (b : Bool) → Each (IsOfSite site) ((if b then log.Join t n ∷ [] else []) ++ log.Attempt t n dir ∷ [])
    by true = (one, (one, tt))
    by false = (one, tt)

join_own : (site : ℕ) (t : Txn) (attempt elected : ℕ) → IsOne t → Each (IsOfSite site) (join_in t attempt elected)
join_own site t attempt elected one = by (nat_lt (max 1 attempt) elected)
  where
    by : (b : Bool) → Each (IsOfSite site) (if b then log.Join t elected ∷ [] else [])
    by true = (one, tt)
    by false = tt

decision_own : (site : ℕ) (t : Txn) (dir : Option Dir) → IsOne t → Each (IsOfSite site) (decision_in t dir)
decision_own site t None one = tt
decision_own site t (Some dir) one = (one, tt)

noted_own : (site : ℕ) (l : List Record) → Each (IsOfSite site) l → (t : Txn) → IsOne t → Each (IsOfSite site) (noted l t)
noted_own site l all t one =
    each-append (IsOfSite site) (vote_in t (has_voted t l) (open_ops t l)) _ (vote_own site t (has_voted t l) (open_ops t l) one (open_own site t l all))
    (each-append (IsOfSite site) (attempt_in t (attempted t l) (last_attempt t l)) _ (attempt_own site t (attempted t l) (last_attempt t l) one)
    (each-append (IsOfSite site) (join_in t (last_attempt t l) (last_elected t l)) _ (join_own site t (last_attempt t l) (last_elected t l) one)
    (decision_own site t (decision t l) one)))

born_own : (site : ℕ) (rows : List Row) (r : Record) → IsOfSite site r → Each (IsOfSite site) (born_by rows r)
born_own site rows (log.Birth format own weights was) is = (tt, tt)
born_own site rows (log.Inc inc) is = tt
born_own site rows (log.Vote t ops) is = tt
born_own site rows (log.Join t n) is = tt
born_own site rows (log.Attempt t n dir) is = tt
born_own site rows (log.Decision t dir) is = tt

inc_own : (site inc : ℕ) → Each (IsOfSite site) (inc_in inc)
inc_own site inc = by (nat_lt 0 inc)
  where
    by : (b : Bool) → Each (IsOfSite site) (if b then log.Inc inc ∷ [] else [])
    by true = (tt, tt)
    by false = tt

-- what the brief of a log has is the site's own where the log is
pub brief_own : (site : ℕ) (l : List Record) → Each (IsOfSite site) l → Each (IsOfSite site) (brief l)
brief_own site l all =
    each-append (IsOfSite site) (born_in (table_of l) l) _ (each-flat (IsOfSite site) (IsOfSite site) (born_by (table_of l)) (born_own site (table_of l)) l all)
    (each-append (IsOfSite site) (inc_in (logged_inc l)) _ (inc_own site (logged_inc l))
    (each-flat IsOne (IsOfSite site) (noted l) (noted_own site l all) (txns_of l) (txns_own site l all)))

-- a short log of records is none only of an empty log, which is due whatever its frame has
pub due_short : {D : Type 0} (meters : D → Meters) (on_disk : LogState D) (l records : List Record) (size : ℕ) (r : Result (Option Short) NoMemory) →
    IfOk r (λ s. s ≡ None → records ≡ []) → (records ≡ [] → l ≡ []) → IfOk r (λ s. HasRoomUnlessShort meters on_disk l s size)
due_short meters on_disk l records size (Ok None) none empty = inr (empty (none refl))
due_short meters on_disk l records size (Ok (Some s)) none empty = tt
due_short meters on_disk l records size (Err e) none empty = tt

-- a log with the brief of some records is not empty, and one with the brief of none is
pub read_some : (site : ℕ) (read l : List Record) → IsReadBrief site read l → 0 < length read → l ≢ []
read_some site read l is some = λ none.
    let long : length read ≡ 0 = ap length (are_some site read is.orderly (is.same ∙ ap brief none)) in
    omega (arith, some, long)

pub read_none : (site : ℕ) (read l : List Record) → IsReadBrief site read l → read ≡ [] → l ≡ []
read_none site read l is none = are_some site l is.log_orderly (sym is.same ∙ ap brief none)

-- a site that is up tells the brief of its log
pub brief_now : LogsAreOrderly → TrailsAreSound → RecordsMentionWhatStands → BegunAreTransactions → VotesAtTheirSite → (sc : Scenario) (h : List Entry) (site : ℕ) (rose : List Record)
    (s : SiteView) → IsGiven sc → IsLegal sc h → StandsAlike sc h site rose s → IsOrderly site rose → IsLogInOrder site (log_of sc h site) → log_of sc h site ≢ [] →
    IsBriefOf s (log_of sc h site)
brief_now logs sounds mentions begun votes sc h site rose s given legal stands rose_orderly order some = record {
  now = now;
  stands = stands.stands;
  order = both.0;
  same = sym (same_brief (log_of sc h site) (present_log now) both.1);
  orderly = subst (λ (n : ℕ). IsOrderly n (log_of sc h site)) (sym stands.site_is) order.orderly;
  some = some;
  of_site = subst (λ (n : ℕ). Each (IsOfSite n) (brief (log_of sc h site))) (sym stands.site_is) (brief_own site (log_of sc h site) (log_own mentions begun votes sc h site given legal));
}
  where
    now : Incarnation
    now = now_with rose sc h site

    both : IsInOrder s.weights s.site (life_of now) × ReadAlike (log_of sc h site) (present_log now)
    both = in_order_alike sounds logs sc h site rose s given legal stands rose_orderly

-- a site that was rebuilt of records tells the brief of each log with their brief
pub brief_read : (site : ℕ) (read l : List Record) (up : SiteView) → IsRebuilt site read up → IsReadBrief site read l → l ≢ [] → IsBriefOf up l
brief_read site read l up is brief_is some = record {
  now = now;
  stands = is.stands;
  order = subst (λ (n : ℕ). IsInOrder up.weights n (life_of now)) (sym is.site_is) (record {
    orderly = subst (λ (x : List Record). IsOrderly site x) (sym log_is) brief_is.orderly;
    weights_are = λ any. ap weights_in log_is ∙ sym is.weights_are;
    inc_is = ap logged_inc (sym log_is);
    begun = λ zero. log_is ∙ brief_is.begun (ap logged_inc (sym log_is) ∙ zero);
    known = subst (λ (x : List Record). Each IsFoundByBits (txns_of x)) (sym log_is) brief_is.known;
  });
  same = ap brief (append-nil read) ∙ brief_is.same;
  orderly = subst (λ (n : ℕ). IsOrderly n l) (sym is.site_is) brief_is.log_orderly;
  some = some;
  of_site = subst (λ (n : ℕ). Each (IsOfSite n) (brief l)) (sym is.site_is) brief_is.of_site;
}
  where
    now : Incarnation
    now = risen_with read

    log_is : (life_of now).log ≡ read
    log_is = life_log now ∙ append-nil read
