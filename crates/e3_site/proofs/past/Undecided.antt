-- The open transactions of a site behind one more step.
use Rattle.std.specs.Prelude.{◌≡◌, ◌+◌, ◌≤◌, ◌&&◌, ◌++◌, ◌∷◌, [], if◌then◌else◌, not, ℕ, Bool, true, false, List, Option, Some, None, Result, Ok, Err, IfOk, OnOk, is_none, filter, fold, length, map, vec_capacity}
use Rattle.std.specs.List.{flat_map, list_any}
use Rattle.std.proofs.Common.{refl, ap, sym, subst, ◌∙◌}
use Rattle.std.proofs.lemmas.List.{append-nil}
use Rattle.std.proofs.lemmas.List.Concat.{flat_map-append}
use Rattle.std.proofs.lemmas.List.Elements.{filter-append}
use Rattle.std.proofs.lemmas.List.Sums.{fold-append}
use Rattle.e3_types.specs.declared.entries.Told.{Told}
use Rattle.e3_types.specs.declared.list.NoMemory.{NoMemory}
use Rattle.e3_types.specs.declared.records.Record.{Record}
use Rattle.e3_types.specs.declared.records.Record.TheVariants as log
use Rattle.e3_types.specs.declared.transactions.Dir.{Dir}
use Rattle.e3_types.specs.declared.transactions.Txn.{Txn}
use Rattle.e3_types.specs.Same.{same_txn}
use Rattle.e3_world.specs.declared.lives.Asked.{Asked}
use Rattle.e3_world.specs.declared.lives.Life.{Life}
use Rattle.e3_world.specs.declared.lives.Moment.{Moment}
use Rattle.e3_world.specs.declared.lives.SiteStep.{SiteStep}
use Rattle.e3_world.specs.Elections.{is_decision}
use Rattle.e3_world.specs.Items.{add_txn, began_in, txn_of_record}
use Rattle.e3_world.specs.Lives.{life_by}
use Rattle.e3_world.specs.Logs.{decision, decision_by, is_undecided}
use Rattle.e3_world.specs.Making.{decides}
use Rattle.e3_world.specs.Operations.{and_arrived, arrivals, is_fresh, taken_up}
use Rattle.e3_cards.proofs.Arrivals.{arrivals_push}
use Rattle.e3_cards.specs.Noting.{unstepped}
use Rattle.e3_world.specs.Items.{undecided_in}
use Rattle.e3_readings.specs.Opens.{open_in}
use Rattle.e3_places.specs.Standing.{fresh_of, moment_of}
use Rattle.e3_site.specs.declared.past.tables.Opens.{Opens}
use Rattle.e3_site.specs.declared.past.tables.Tables.{Tables}
use Rattle.e3_site.specs.past.Opening.{AreAdded, HaveRoom, OpensStand, fresh_txns, undecided_among}
use Rattle.e3_site.specs.past.Standing.{TablesStand}

-- a decision stays, whatever records come
stays : (t : Txn) (x : Dir) (rs : List Record) → is_none (fold (decision_by t) (Some x) rs) ≡ false
stays t x [] = refl
stays t x (log.Decision u dir ∷ rs) = by (same_txn t u) refl (stays t dir rs) (stays t x rs)
  where
    by : (b : Bool) → same_txn t u ≡ b → is_none (fold (decision_by t) (Some dir) rs) ≡ false → is_none (fold (decision_by t) (Some x) rs) ≡ false
        → is_none (fold (decision_by t) (Some x) (log.Decision u dir ∷ rs)) ≡ false
    by true is now was = rw is now
    by false is now was = rw is was
stays t x (log.Birth format site weights rows ∷ rs) = stays t x rs
stays t x (log.Inc inc ∷ rs) = stays t x rs
stays t x (log.Vote u ops ∷ rs) = stays t x rs
stays t x (log.Join u n ∷ rs) = stays t x rs
stays t x (log.Attempt u n dir ∷ rs) = stays t x rs

-- a log with more records leaves undecided what both leave so
both_undecided : (log rs : List Record) (t : Txn) → is_undecided t (log ++ rs) ≡ (is_undecided t log && is_undecided t rs)
both_undecided log rs t = ap (λ (d : Option Dir). is_none d) (fold-append (decision_by t) None log rs) ∙ by (decision t log)
  where
    by : (d : Option Dir) → is_none (fold (decision_by t) d rs) ≡ (is_none d && is_undecided t rs)
    by None = refl
    by (Some x) = stays t x rs

-- a test that is two tests in turn
filter_both : (p q r : Txn → Bool) → ((t : Txn) → r t ≡ (p t && q t)) → (ts : List Txn) → filter r ts ≡ filter q (filter p ts)
filter_both p q r h [] = refl
filter_both p q r h (t ∷ ts) = by (filter_both p q r h ts) (p t) (q t) refl refl
  where
    by : filter r ts ≡ filter q (filter p ts) → (b c : Bool) → p t ≡ b → q t ≡ c → filter r (t ∷ ts) ≡ filter q (filter p (t ∷ ts))
    by ih true true e f = rw (h t, e, f) (ap (λ (l : List Txn). t ∷ l) ih)
    by ih true false e f = rw (h t, e, f) ih
    by ih false c e f = rw (h t, e) ih

-- the undecided ones of some transactions and new ones, behind more records
undecided_behind : (log rs : List Record) (known new was now : List Txn) → was ≡ undecided_among log known ++ undecided_among log new → now ≡ undecided_among rs was
    → now ≡ undecided_among (log ++ rs) (known ++ new)
undecided_behind log rs known new was now e f =
    f ∙ ap (undecided_among rs) (e ∙ sym (filter-append (λ t. is_undecided t log) known new))
    ∙ sym (filter_both (λ t. is_undecided t log) (λ t. is_undecided t rs) (λ t. is_undecided t (log ++ rs)) (both_undecided log rs) (known ++ new))

map_append : (xs ys : List Asked) → map (λ a. a.txn) (xs ++ ys) ≡ map (λ a. a.txn) xs ++ map (λ a. a.txn) ys
map_append [] ys = refl
map_append (x ∷ xs) ys = ap (λ (l : List Txn). x.txn ∷ l) (map_append xs ys)

-- the transactions of what came, behind one more step
pub arrived_push : (site : ℕ) (life : Life) (s : SiteStep)
    → map (λ a. a.txn) (arrivals site (life_by life s).steps) ≡ map (λ a. a.txn) (arrivals site life.steps) ++ fresh_txns (fresh_of site life s)
arrived_push site life s = ap (map (λ a. a.txn)) (arrivals_push site life.steps m) ∙ by (taken_up site life.steps m) refl
  where
    m : Moment
    m = moment_of life s

    came : List Asked
    came = arrivals site life.steps

    by : (o : Option Asked) → taken_up site life.steps (moment_of life s) ≡ o
        → map (λ a. a.txn) (and_arrived (arrivals site life.steps) (moment_of life s) (taken_up site life.steps (moment_of life s)))
        ≡ map (λ a. a.txn) (arrivals site life.steps) ++ fresh_txns (fresh_of site life s)
    by None is = rw is (sym (append-nil (map (λ a. a.txn) (arrivals site life.steps))))
    by (Some a) is = pick (is_fresh (arrivals site life.steps) (moment_of life s) a) refl
      where
        pick : (b : Bool) → is_fresh (arrivals site life.steps) (moment_of life s) a ≡ b
            → map (λ a. a.txn) (and_arrived (arrivals site life.steps) (moment_of life s) (taken_up site life.steps (moment_of life s)))
            ≡ map (λ a. a.txn) (arrivals site life.steps) ++ fresh_txns (fresh_of site life s)
        pick true e = rw (is, e) (map_append (arrivals site life.steps) (a ∷ []))
        pick false e = rw (is, e) (sym (append-nil (map (λ a. a.txn) (arrivals site life.steps))))

-- those that the site began, behind one more step
begun_push : (steps : List Moment) (m : Moment) → flat_map (λ m. flat_map began_in m.told) steps ++ flat_map began_in m.told ≡ flat_map (λ m. flat_map began_in m.told) (steps ++ m ∷ [])
begun_push steps m =
    ap (λ (l : List Txn). flat_map (λ m. flat_map began_in m.told) steps ++ l) (sym (append-nil (flat_map began_in m.told)))
    ∙ sym (flat_map-append (λ m. flat_map began_in m.told) steps (m ∷ []))

-- the undecided ones of transactions that were open and of those that a step adds
joined : (log : List Record) (known new was more : List Txn) → was ≡ undecided_among log known → more ≡ undecided_among log new
    → was ++ more ≡ undecided_among log known ++ undecided_among log new
joined log known new was more d e = ap (λ (l : List Txn). l ++ more) d ∙ ap (λ (l : List Txn). undecided_among log known ++ l) e

-- what is open behind one more step
pub opens_behind : (site : ℕ) (life : Life) (s : SiteStep) (rs : List Record) (was more now : Opens) → rs ≡ s.records → OpensStand site was life → AreAdded site life s more
    → now.logged.items ≡ undecided_among rs (was.logged.items ++ more.logged.items)
    → now.arrived.items ≡ undecided_among rs (was.arrived.items ++ more.arrived.items)
    → now.begun.items ≡ undecided_among rs (was.begun.items ++ more.begun.items)
    → OpensStand site now (life_by life s)
opens_behind site life s rs was more now same h m d e f =
    let known : List Txn = flat_map txn_of_record life.log in
    let came : List Txn = map (λ a. a.txn) (arrivals site life.steps) in
    let began : List Txn = flat_map (λ m. flat_map began_in m.told) life.steps in
    record {
      logged_are =
          undecided_behind life.log rs known (flat_map txn_of_record s.records) (was.logged.items ++ more.logged.items) now.logged.items
          (joined life.log known (flat_map txn_of_record s.records) was.logged.items more.logged.items h.logged_are m.logged_are) d
          ∙ ap (λ (x : List Record). undecided_among (life.log ++ x) (known ++ flat_map txn_of_record s.records)) same
          ∙ ap (undecided_among (life.log ++ s.records)) (sym (flat_map-append txn_of_record life.log s.records));
      arrived_are =
          undecided_behind life.log rs came (fresh_txns (fresh_of site life s)) (was.arrived.items ++ more.arrived.items) now.arrived.items
          (joined life.log came (fresh_txns (fresh_of site life s)) was.arrived.items more.arrived.items h.arrived_are m.arrived_are) e
          ∙ ap (λ (x : List Record). undecided_among (life.log ++ x) (came ++ fresh_txns (fresh_of site life s))) same
          ∙ ap (undecided_among (life.log ++ s.records)) (sym (arrived_push site life s));
      begun_are =
          undecided_behind life.log rs began (flat_map began_in s.told) (was.begun.items ++ more.begun.items) now.begun.items
          (joined life.log began (flat_map began_in s.told) was.begun.items more.begun.items h.begun_are m.begun_are) f
          ∙ ap (λ (x : List Record). undecided_among (life.log ++ x) (began ++ flat_map began_in s.told)) same
          ∙ ap (undecided_among (life.log ++ s.records)) (begun_push life.steps (moment_of life s));
    }

-- what a step adds, put behind no transaction
pub added_are : (site : ℕ) (life : Life) (s : SiteStep) (none more : Opens) (rs : List Record) (events : List Told) → OpensStand 0 none (unstepped 0 []) → rs ≡ s.records → events ≡ s.told
    → more.logged.items ≡ none.logged.items ++ undecided_among life.log (flat_map txn_of_record rs)
    → more.arrived.items ≡ none.arrived.items ++ undecided_among life.log (fresh_txns (fresh_of site life s))
    → more.begun.items ≡ none.begun.items ++ undecided_among life.log (flat_map began_in events)
    → AreAdded site life s more
added_are site life s none more rs events h same told d e f = record {
  logged_are =
      d ∙ ap (λ (l : List Txn). l ++ undecided_among life.log (flat_map txn_of_record rs)) h.logged_are
      ∙ ap (λ (x : List Record). undecided_among life.log (flat_map txn_of_record x)) same;
  arrived_are = e ∙ ap (λ (l : List Txn). l ++ undecided_among life.log (fresh_txns (fresh_of site life s))) h.arrived_are;
  begun_are =
      f ∙ ap (λ (l : List Txn). l ++ undecided_among life.log (flat_map began_in events)) h.begun_are
      ∙ ap (λ (x : List Told). undecided_among life.log (flat_map began_in x)) told;
}

-- the undecided ones of two lists
undecided_both : (log : List Record) (xs ys : List Txn) → undecided_among log (xs ++ ys) ≡ undecided_among log xs ++ undecided_among log ys
undecided_both log xs ys = filter-append (λ t. is_undecided t log) xs ys

-- the same transactions are open
pub same_open : (was now : Opens) → now.logged.items ≡ was.logged.items → now.arrived.items ≡ was.arrived.items → now.begun.items ≡ was.begun.items
    → (site : ℕ) (life : Life) → OpensStand site was life → OpensStand site now life
same_open was now d e f site life h = record {
  logged_are = d ∙ h.logged_are;
  arrived_are = e ∙ h.arrived_are;
  begun_are = f ∙ h.begun_are;
}

-- there is room for each
pub each_room : {X E : Type 0} (r : Result X E) (opens more : Opens) (xs ys zs : List Txn) → xs ≡ more.logged.items → ys ≡ more.arrived.items → zs ≡ more.begun.items
    → length opens.logged.items + length xs ≤ vec_capacity opens.logged → length opens.arrived.items + length ys ≤ vec_capacity opens.arrived
    → OnOk r (length opens.begun.items + length zs ≤ vec_capacity opens.begun) → OnOk r (HaveRoom opens more)
each_room (Ok x) opens more xs ys zs d e f p q o = record {
  logged = subst (λ (l : List Txn). length opens.logged.items + length l ≤ vec_capacity opens.logged) d p;
  arrived = subst (λ (l : List Txn). length opens.arrived.items + length l ≤ vec_capacity opens.arrived) e q;
  begun = subst (λ (l : List Txn). length opens.begun.items + length l ≤ vec_capacity opens.begun) f o;
}
each_room (Err x) opens more xs ys zs d e f p q o = tt

-- all that is open
all_open : (site : ℕ) (life : Life) (opens : Opens) → OpensStand site opens life → (opens.logged.items ++ opens.arrived.items) ++ opens.begun.items ≡ undecided_in site life
all_open site life opens h =
    let log : List Record = life.log in
    let known : List Txn = flat_map txn_of_record life.log in
    let came : List Txn = map (λ a. a.txn) (arrivals site life.steps) in
    let began : List Txn = flat_map (λ m. flat_map began_in m.told) life.steps in
    ap (λ (l : List Txn). (l ++ opens.arrived.items) ++ opens.begun.items) h.logged_are
    ∙ ap (λ (l : List Txn). (undecided_among log known ++ l) ++ opens.begun.items) h.arrived_are
    ∙ ap (λ (l : List Txn). (undecided_among log known ++ undecided_among log came) ++ l) h.begun_are
    ∙ ap (λ (l : List Txn). l ++ undecided_among log began) (sym (undecided_both log known came))
    ∙ sym (undecided_both log (known ++ came) began)

-- it is listed, whatever life the tables stand for
pub open_listed : (r : Result (List Txn) NoMemory) (tables : Tables) (txns : List Txn) → txns ≡ (tables.opens.logged.items ++ tables.opens.arrived.items) ++ tables.opens.begun.items
    → IfOk r (λ out. out ≡ fold add_txn [] txns) → IfOk r (λ out. (site : ℕ) (life : Life) → TablesStand site life tables → out ≡ open_in site life)
open_listed (Ok out) tables txns e h = λ site life stand. h ∙ ap (fold add_txn []) (e ∙ all_open site life tables.opens stand.opens_stand)
open_listed (Err f) tables txns e h = tt

-- what is open of a log behind one more record
pub note_open : (site inc : ℕ) (log : List Record) (r : Record) (was now : Opens) (mid : List Txn) → OpensStand site was (unstepped inc log)
    → mid ≡ was.logged.items ++ undecided_among log (txn_of_record r) → now.logged.items ≡ undecided_among (r ∷ []) mid → now.arrived.items ≡ was.arrived.items
    → now.begun.items ≡ was.begun.items → OpensStand site now (unstepped inc (log ++ r ∷ []))
note_open site inc log r was now mid h d e f g = record {
  logged_are =
      undecided_behind log (r ∷ []) (flat_map txn_of_record log) (txn_of_record r) mid now.logged.items (d ∙ ap (λ (x : List Txn). x ++ undecided_among log (txn_of_record r)) h.logged_are) e
      ∙ ap (λ (x : List Txn). undecided_among (log ++ r ∷ []) (flat_map txn_of_record log ++ x)) (sym (append-nil (txn_of_record r)))
      ∙ ap (undecided_among (log ++ r ∷ [])) (sym (flat_map-append txn_of_record log (r ∷ [])));
  arrived_are = f ∙ h.arrived_are;
  begun_are = g ∙ h.begun_are;
}

-- a transaction that a record does not decide is undecided by it
pub left_is : (t : Txn) (r : Record) → not (is_decision t r) ≡ is_undecided t (r ∷ [])
left_is t (log.Decision u dir) = by (same_txn t u)
  where
    by : (b : Bool) → not b ≡ is_none (if b then Some dir else None)
    by true = refl
    by false = refl
left_is t (log.Birth format site weights rows) = refl
left_is t (log.Inc inc) = refl
left_is t (log.Vote u ops) = refl
left_is t (log.Join u n) = refl
left_is t (log.Attempt u n dir) = refl

-- records without a decision leave a transaction undecided
quiet : (t : Txn) (rs : List Record) → list_any decides rs ≡ false → is_undecided t rs ≡ true
quiet t [] e = refl
quiet t (log.Decision u dir ∷ rs) e = cc
quiet t (log.Birth format site weights rows ∷ rs) e = quiet t rs e
quiet t (log.Inc inc ∷ rs) e = quiet t rs e
quiet t (log.Vote u ops ∷ rs) e = quiet t rs e
quiet t (log.Join u n ∷ rs) e = quiet t rs e
quiet t (log.Attempt u n dir ∷ rs) e = quiet t rs e

all_pass : (p : Txn → Bool) → ((t : Txn) → p t ≡ true) → (ts : List Txn) → ts ≡ filter p ts
all_pass p h [] = refl
all_pass p h (t ∷ ts) = rw (h t) (ap (λ (l : List Txn). t ∷ l) (all_pass p h ts))

-- so they leave these transactions as they are
pub none_decided : (rs : List Record) (ts : List Txn) → list_any decides rs ≡ false → ts ≡ undecided_among rs ts
none_decided rs ts e = all_pass (λ t. is_undecided t rs) (λ t. quiet t rs e) ts

pub none_decided_by : (r : Record) (ts : List Txn) → decides r ≡ false → ts ≡ undecided_among (r ∷ []) ts
none_decided_by (log.Decision t dir) ts e = absurd (let no : true ≡ false = e in cc)
none_decided_by (log.Birth format site weights rows) ts e = none_decided (log.Birth format site weights rows ∷ []) ts refl
none_decided_by (log.Inc inc) ts e = none_decided (log.Inc inc ∷ []) ts refl
none_decided_by (log.Vote t ops) ts e = none_decided (log.Vote t ops ∷ []) ts refl
none_decided_by (log.Join t n) ts e = none_decided (log.Join t n ∷ []) ts refl
none_decided_by (log.Attempt t n dir) ts e = none_decided (log.Attempt t n dir ∷ []) ts refl
