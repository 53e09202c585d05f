-- The laws of incarnations that are alike, put together.
use Rattle.std.proofs.Common.{◌≡◌, ◌||◌, ◌++◌, ◌∷◌, [], ℕ, Bool, true, false, List, refl, sym, ap, subst, ◌∙◌, fold, is_none, append_assoc, append-nil}
use Rattle.std.specs.List.{flat_map, list_any, AllByRecursion as Each}
use Rattle.std.proofs.lemmas.Bool.{or_left, or_right, true≢false}
use Rattle.e3_types.specs.declared.entries.Input.{Input}
use Rattle.e3_types.specs.declared.records.Record.{Record}
use Rattle.e3_types.specs.declared.transactions.Txn.{Txn}
use Rattle.e3_types.specs.Same.{same_txn}
use Rattle.e3_world.specs.declared.lives.Incarnation.{Incarnation}
use Rattle.e3_world.specs.declared.lives.Life.{Life}
use Rattle.e3_world.specs.declared.lives.SiteStep.{SiteStep}
use Rattle.e3_world.specs.Items.{add_txn, txn_of_record}
use Rattle.e3_world.specs.Lives.{incarnation_by, life_of, present_log}
use Rattle.e3_world.specs.Logs.{logged_inc}
use Rattle.e3_world.specs.Moves.{Did, Stepped, Silent, Rose, unnumbered_input}
use Rattle.e3_world.specs.Steps.{step_at, step_of}
use Rattle.e3_laws.specs.brief.Alike.{ReadAlike}
use Rattle.e3_world.specs.Brief.{txns_of}
use Rattle.e3_world.specs.Orderly.{IsOrderly, OrderlyAfter}
use Rattle.e3_laws.proofs.brief.Going.{orderly_on, read_on}
use Rattle.e3_laws.proofs.brief.Laws.{same_alike}
use Rattle.e3_laws.proofs.brief.Standing.{orderly_append}
use Rattle.e3_laws.proofs.steps.Ascending.{off_fold}
use Rattle.e3_laws.proofs.steps.Tests.{same_is, same_self}
use Rattle.e3_world.specs.Transactions.{IsFoundByBits}
use Rattle.e3_world.specs.Items.{undecided_in}
use Rattle.e3_laws.specs.brief.Incarnations.{AlikeNow, IsInOrder}
use Rattle.e3_laws.specs.brief.IncarnationLaws.{AlikeGoOn, AlikeTurned, LogsAreAlike, OpensAreAlike, OrdersAreAlike, RisesAreAlike, StepsAreAlike}
use Rattle.e3_laws.proofs.brief.Alike.Lives.{life_left, life_right, twins}
use Rattle.e3_laws.proofs.brief.Alike.Notes.{NotesAlike, notes_of}
use Rattle.e3_laws.proofs.brief.Alike.Opens.{opens_same}
use Rattle.e3_laws.proofs.brief.Alike.Pairs.{Pair}
use Rattle.e3_laws.proofs.brief.Alike.Steps.{step_same}

-- what stands behind an orderly log may stand there
behind : (site : ℕ) (before xs ys : List Record) → OrderlyAfter site before (xs ++ ys) → OrderlyAfter site (before ++ xs) ys
behind site before [] ys orderly = subst (λ (l : List Record). OrderlyAfter site l ys) (sym (append-nil before)) orderly
behind site before (x ∷ xs) ys orderly = subst (λ (l : List Record). OrderlyAfter site l ys) (append_assoc before (x ∷ []) xs) (behind site (before ++ x ∷ []) xs ys orderly.1)

front : (site : ℕ) (before xs ys : List Record) → OrderlyAfter site before (xs ++ ys) → OrderlyAfter site before xs
front site before [] ys orderly = tt
front site before (x ∷ xs) ys orderly = (orderly.0, front site (before ++ x ∷ []) xs ys orderly.1)

-- the records of steps
abbrev of_steps : List SiteStep → List Record
of_steps ss = flat_map (λ (s : SiteStep). s.records) ss

-- logs that read alike, with the records of the same steps behind both
present_alike : (site : ℕ) (x y : List Record) (ss : List SiteStep) → IsOrderly site (x ++ of_steps ss) → ReadAlike x y → ReadAlike (x ++ of_steps ss) (y ++ of_steps ss)
present_alike site x y ss orderly alike = read_on site x y (of_steps ss) alike (behind site [] x (of_steps ss) orderly)

pub logs_alike : LogsAreAlike
logs_alike site a b orderly alike =
    subst (λ (ss : List SiteStep). ReadAlike (present_log a) (b.rose ++ of_steps ss)) alike.since (present_alike site a.rose b.rose a.since orderly alike.rose)

-- what is known of all transactions that are added is known of each
each_among : (P : Txn → Type 0) (ts : List Txn) → Each P ts → (t : Txn) → list_any (same_txn t) ts ≡ true → P t
each_among P [] each t is = absurd (true≢false (sym is))
each_among P (u ∷ us) each t is = by (each_among P us each.1 t) (same_txn t u) refl
  where
    by : (list_any (same_txn t) us ≡ true → P t) → (b : Bool) → same_txn t u ≡ b → P t
    by more true same = subst P (sym (same_is t u same)) each.0
    by more false same = more (sym (ap (λ (b : Bool). b || list_any (same_txn t) us) same) ∙ is)

added : (ts xs : List Txn) (t : Txn) → list_any (same_txn t) xs ≡ true → list_any (same_txn t) (fold add_txn ts xs) ≡ true
added ts xs t is = by (list_any (same_txn t) (fold add_txn ts xs)) refl
  where
    by : (b : Bool) → list_any (same_txn t) (fold add_txn ts xs) ≡ b → b ≡ true
    by true there = refl
    by false there = absurd (true≢false (sym is ∙ (off_fold t ts xs there).0))

each_added : (P : Txn → Type 0) (ts xs : List Txn) → ((t : Txn) → list_any (same_txn t) xs ≡ true → P t) → Each P xs
each_added P ts [] all = tt
each_added P ts (x ∷ xs) all = (
  all x (or_left (same_txn x x) (list_any (same_txn x) xs) (same_self x)),
  each_added P ts xs (λ t is. all t (or_right (same_txn t x) (list_any (same_txn t) xs) is)),
)

all_known : (l : List Record) → Each IsFoundByBits (txns_of l) → Each IsFoundByBits (flat_map txn_of_record l)
all_known l known = each_added IsFoundByBits [] (flat_map txn_of_record l) (λ t is. each_among IsFoundByBits (txns_of l) known t (added [] (flat_map txn_of_record l) t is))

-- the step of both
abbrev pair_of : (weights : List ℕ) (site : ℕ) (x y : List Record) (ss : List SiteStep) (i : Input) → ReadAlike x y → ReadAlike (x ++ of_steps ss) (y ++ of_steps ss)
    → Each IsFoundByBits (txns_of (x ++ of_steps ss)) → Pair
pair_of weights site x y ss i rose now known = record {
  weights = weights;
  site = site;
  inc = logged_inc x;
  mine = x ++ of_steps ss;
  theirs = y ++ of_steps ss;
  notes = notes_of (x ++ of_steps ss) (y ++ of_steps ss) now;
  table = now.table;
  known = all_known (x ++ of_steps ss) known;
  known_too = all_known (y ++ of_steps ss) (subst (λ (ts : List Txn). Each IsFoundByBits ts) now.txns known);
  steps = twins x y (notes_of x y rose) ss;
  input = unnumbered_input i;
}

same_since : (weights : List ℕ) (site : ℕ) (x y : List Record) (ss : List SiteStep) (i : Input) → IsInOrder site (record { rose = x; since = ss }) → ReadAlike x y
    → step_of weights site (record { rose = x; since = ss }) i ≡ step_of weights site (record { rose = y; since = ss }) i
same_since weights site x y ss i order rose =
    ap (λ (life : Life). step_at (record { weights = weights; site = site; life = life; input = unnumbered_input i })) (life_left x y (notes_of x y rose) ss)
    ∙ step_same (pair_of weights site x y ss i rose (present_alike site x y ss order.orderly rose) order.known)
    ∙ ap (λ (life : Life). step_at (record { weights = weights; site = site; life = life; input = unnumbered_input i })) (sym (life_right x y (notes_of x y rose) ss rose.inc))

pub steps_alike : StepsAreAlike
steps_alike weights site a b i order alike =
    same_since weights site a.rose b.rose a.since i order alike.rose
    ∙ ap (λ (ss : List SiteStep). step_of weights site (record { rose = b.rose; since = ss }) i) alike.since

-- the open transactions of both
pub opens_alike : OpensAreAlike
opens_alike site a b orderly alike =
    ap (λ (life : Life). fold add_txn [] (undecided_in site life)) (life_left a.rose b.rose rose a.since)
    ∙ opens_same site (logged_inc a.rose) (a.rose ++ of_steps a.since) (b.rose ++ of_steps a.since) (twins a.rose b.rose rose a.since)
    (notes_of (a.rose ++ of_steps a.since) (b.rose ++ of_steps a.since) now) now.txns
    ∙ ap (λ (life : Life). fold add_txn [] (undecided_in site life)) (sym (life_right a.rose b.rose rose a.since alike.rose.inc))
    ∙ ap (λ (ss : List SiteStep). fold add_txn [] (undecided_in site (life_of (record { rose = b.rose; since = ss })))) alike.since
  where
    rose : NotesAlike a.rose b.rose
    rose = notes_of a.rose b.rose alike.rose

    now : ReadAlike (a.rose ++ of_steps a.since) (b.rose ++ of_steps a.since)
    now = present_alike site a.rose b.rose a.since orderly alike.rose

-- behind the same move they are alike again
same_log : (site : ℕ) (a b : Incarnation) (records : List Record) → IsOrderly site ((present_log a ++ records) ++ []) → AlikeNow a b → ReadAlike (present_log a ++ records) (present_log b ++ records)
same_log site a b records orderly alike =
    let all : IsOrderly site (present_log a ++ records) = front site [] (present_log a ++ records) [] orderly in
    read_on site (present_log a) (present_log b) records (logs_alike site a b (front site [] (present_log a) records all) alike) (behind site [] (present_log a) records all)

pub go_on : AlikeGoOn
go_on site a b m orderly alike = by m.did refl
  where
    by : (d : Did) → m.did ≡ d → AlikeNow (incarnation_by a m) (incarnation_by b m)
    by (Stepped s) is = rw is (record { rose = alike.rose; since = ap (λ (ss : List SiteStep). ss ++ s ∷ []) alike.since })
    by (Silent inputs records) is =
        let here : IsOrderly site ((present_log a ++ records) ++ []) = rw is at orderly in
        rw is (record { rose = same_log site a b records here alike; since = refl })
    by (Rose inc records) is =
        let here : IsOrderly site ((present_log a ++ records) ++ []) = rw is at orderly in
        rw is (record { rose = same_log site a b records here alike; since = refl })

-- the one is in order where the other is, if it rose with an orderly log
pub orders_alike : OrdersAreAlike
orders_alike site a b order first alike =
    let more : OrderlyAfter site b.rose (of_steps a.since) = orderly_on site a.rose b.rose (of_steps a.since) alike.rose (behind site [] a.rose (of_steps a.since) order.orderly) in
    let now : ReadAlike (present_log a) (present_log b) = logs_alike site a b order.orderly alike in
    record {
      orderly = subst (λ (ss : List SiteStep). IsOrderly site (b.rose ++ of_steps ss)) alike.since (orderly_append site [] b.rose (of_steps a.since) first more);
      known = subst (λ (ts : List Txn). Each IsFoundByBits ts) now.txns order.known;
    }

-- each is alike to itself
pub self_alike : (a : Incarnation) → AlikeNow a a
self_alike a = record {
  rose = record {
    empty = λ none. none;
    some = λ none. none;
    born = λ rows. refl;
    weights = refl;
    inc = refl;
    table = refl;
    txns = refl;
    elected = λ t. refl;
    attempt = λ t. refl;
    attempted = λ t. refl;
    decided = λ t. refl;
    voted = λ t. refl;
    ops = λ t is. refl;
  };
  since = refl;
}

pub turned_alike : AlikeTurned
turned_alike a b alike = record {
  rose = record {
    empty = alike.rose.some;
    some = alike.rose.empty;
    born = λ rows. sym (alike.rose.born rows);
    weights = sym alike.rose.weights;
    inc = sym alike.rose.inc;
    table = sym alike.rose.table;
    txns = sym alike.rose.txns;
    elected = λ t. sym (alike.rose.elected t);
    attempt = λ t. sym (alike.rose.attempt t);
    attempted = λ t. sym (alike.rose.attempted t);
    decided = λ t. sym (alike.rose.decided t);
    voted = λ t. sym (alike.rose.voted t);
    ops = λ t is. sym (alike.rose.ops t (ap is_none (alike.rose.decided t) ∙ is));
  };
  since = sym alike.since;
}

pub rises_alike : RisesAreAlike
rises_alike site a b oa ob same = record { rose = same_alike site a b oa ob same; since = refl }
