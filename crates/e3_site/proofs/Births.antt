-- The log of a site in a legal history begins with its birth, whose weights are those of the scenario.
use Rattle.std.proofs.Common.{◌≡◌, ◌≢◌, ◌==◌, ◌++◌, ◌∷◌, [], ℕ, zero, suc, Bool, true, false, List, Option, Some, None, refl, sym, subst, ap, ◌∙◌, append-nil, append_assoc, eqb-true}
use Rattle.std.proofs.lemmas.Grind.{flat_map-append}
use Rattle.std.proofs.lemmas.Option.{same_Some}
use Rattle.e3_types.specs.declared.entries.Act.{Act}
use Rattle.e3_types.specs.declared.entries.Act.TheVariants.{Step, Fall, Rise, RiseFall, Miss, Cut, Drop, Parts, Line}
use Rattle.e3_types.specs.declared.entries.Entry.{Entry}
use Rattle.e3_types.specs.declared.entries.Why.{Why}
use Rattle.e3_types.specs.declared.entries.Why.TheVariants.{Fault}
use Rattle.e3_types.specs.declared.records.Record.{Record}
use Rattle.e3_types.specs.declared.scenarios.Scenario.{Scenario}
use Rattle.e3_world.specs.Items.{is_up_at}
use Rattle.e3_world.specs.Legal.{Guard, IsLegal, LegalAfter}
use Rattle.e3_world.specs.Moves.{Move, Rose, Past, Tail, own_entries, past_of, past_by, kept_moves, log_by, recorded, rise_records, birth, log_of}
use Rattle.e3_world.specs.Progress.{up_behind}
use Rattle.e3_world.proofs.Pushes.{past_push}
use Rattle.e3_world.proofs.Readings.{own_same, own_other, up_same, up_other}

-- the records begin with the birth, if there are any
abbrev pub IsBorn : Scenario → ℕ → List Record → Type 0
IsBorn sc site [] = Unit {0}
IsBorn sc site (r ∷ rs) = r ≡ birth sc site

born_append : (sc : Scenario) (site : ℕ) (xs ys : List Record) → IsBorn sc site xs → (xs ≡ [] → IsBorn sc site ys) → IsBorn sc site (xs ++ ys)
born_append sc site [] ys first more = more refl
born_append sc site (x ∷ xs) ys first more = first

some_append : (xs ys : List Record) → xs ≢ [] → xs ++ ys ≢ []
some_append [] ys some = absurd (some refl)
some_append (x ∷ xs) ys some = λ e. absurd cc

append_some : (xs ys : List Record) → ys ≢ [] → xs ++ ys ≢ []
append_some [] ys some = some
append_some (x ∷ xs) ys some = λ e. absurd cc

log_append : (xs ys : List Move) → log_by (xs ++ ys) ≡ log_by xs ++ log_by ys
log_append xs ys = flat_map-append recorded xs ys

-- what holds of a site so far: its log begins with the birth, and there is one where it is up; so does a tail on an empty log
pub record Born (sc : Scenario) (site : ℕ) (w : Past) (up : Bool) : Type 0 where
  pub log : IsBorn sc site (log_by w.moves)
  pub some : up ≡ true → log_by w.moves ≢ []
  pub tail : (tl : Tail) → w.tail ≡ Some tl → log_by w.moves ≡ [] → IsBorn sc site tl.records

-- the log with a tail that is kept
kept_born : (sc : Scenario) (site : ℕ) (w : Past) (up kept : Bool) → Born sc site w up → IsBorn sc site (log_by (w.moves ++ kept_moves site kept w.tail))
kept_born sc site w up kept was = by kept w.tail refl
  where
    same : (ms : List Move) → IsBorn sc site (log_by w.moves ++ log_by ms) → IsBorn sc site (log_by (w.moves ++ ms))
    same ms is = let P : List Record → Type 0 = IsBorn sc site in subst P (sym (log_append w.moves ms)) is

    none : IsBorn sc site (log_by (w.moves ++ []))
    none = same [] (born_append sc site (log_by w.moves) [] was.log (λ e. tt))

    by : (k : Bool) (o : Option Tail) → w.tail ≡ o → IsBorn sc site (log_by (w.moves ++ kept_moves site k o))
    by true (Some tl) is = same (kept_moves site true (Some tl)) (born_append sc site (log_by w.moves) (tl.records ++ []) was.log
        (λ e. let P : List Record → Type 0 = IsBorn sc site in subst P (sym (append-nil tl.records)) (was.tail tl is e)))
    by true None is = none
    by false o is = none

-- the records of a rise begin with the birth where the log is empty
rise_born : (sc : Scenario) (site inc : ℕ) (log : List Record) → log ≡ [] → IsBorn sc site (rise_records sc site inc log)
rise_born sc site inc [] e = refl
rise_born sc site inc (r ∷ rs) e = absurd cc

rise_some : (sc : Scenario) (site inc : ℕ) (log : List Record) → rise_records sc site inc log ≢ []
rise_some sc site inc [] = λ e. absurd cc
rise_some sc site inc (r ∷ rs) = λ e. absurd cc

risen : (sc : Scenario) (site : ℕ) (w : Past) (up kept : Bool) (inc : ℕ) → Born sc site w up →
    Born sc site (past_by sc site w (record { owner = site; act = Rise kept inc })) true
risen sc site w up kept inc was =
    let mine : List Move = w.moves ++ kept_moves site kept w.tail in
    let records : List Record = rise_records sc site inc (log_by mine) in
    let m : Move = record { site = site; did = Rose inc records } in
    let logs : log_by (w.moves ++ (kept_moves site kept w.tail ++ m ∷ [])) ≡ log_by mine ++ (records ++ []) =
    ap log_by (sym (append_assoc w.moves (kept_moves site kept w.tail) (m ∷ []))) ∙ log_append mine (m ∷ []) in
    let P : List Record → Type 0 = IsBorn sc site in
    let Q : List Record → Type 0 = λ l. l ≢ [] in
    record {
      log = subst P (sym logs) (born_append sc site (log_by mine) (records ++ []) (kept_born sc site w up kept was) (λ e.
          subst P (sym (append-nil records)) (rise_born sc site inc (log_by mine) e)));
      some = λ is. subst Q (sym logs) (append_some (log_by mine) (records ++ []) (subst Q (sym (append-nil records)) (rise_some sc site inc (log_by mine))));
      tail = λ tl is e. absurd cc;
    }

rise_failed : (sc : Scenario) (site : ℕ) (w : Past) (up kept : Bool) (inc : ℕ) (why : Why) → Born sc site w up →
    Born sc site (past_by sc site w (record { owner = site; act = RiseFall kept inc why })) false
rise_failed sc site w up kept inc Fault was =
    let mine : List Move = w.moves ++ kept_moves site kept w.tail in
    let left : Tail = record { inputs = []; records = rise_records sc site inc (log_by mine) } in
    record {
      log = kept_born sc site w up kept was;
      some = λ is. absurd cc;
      tail = λ tl is e.
          let same : left ≡ tl = same_Some left tl is in
          let P : Tail → Type 0 = λ t. IsBorn sc site t.records in
          subst P same (rise_born sc site inc (log_by mine) e);
    }
rise_failed sc site w up kept inc why was = record { log = kept_born sc site w up kept was; some = λ is. absurd cc; tail = λ tl is e. absurd cc }

-- an act that a site makes while it is up
made_up : (sc : Scenario) (site : ℕ) (w : Past) (ms : List Move) (o : Option Tail) (next : Bool) → Born sc site w true →
    Born sc site (record { moves = w.moves ++ ms; tail = o }) next
made_up sc site w ms o next was =
    let P : List Record → Type 0 = λ l. IsBorn sc site l × (l ≢ []) in
    let both = subst P (sym (log_append w.moves ms)) (born_append sc site (log_by w.moves) (log_by ms) was.log (λ e. absurd (was.some refl e)), some_append (log_by w.moves) (log_by ms) (was.some refl)) in
    record { log = both.0; some = λ is. both.1; tail = λ tl is e. absurd (both.1 e) }

-- an act that makes no move and leaves the tail, behind which the site is up where it was, or down
quiet : (sc : Scenario) (site : ℕ) (w : Past) (up next : Bool) → (next ≡ true → up ≡ true) → Born sc site w up →
    Born sc site (record { moves = w.moves ++ []; tail = w.tail }) next
quiet sc site w up next ups was =
    let P : List Move → Type 0 = λ ms. Born sc site (record { moves = ms; tail = w.tail }) next in
    subst P (sym (append-nil w.moves)) (record { log = was.log; some = λ is. was.some (ups is); tail = was.tail })

-- the site was up where the act needs it
abbrev NeedsUp : Act → Bool → Type 0
NeedsUp (Step i records outs events) up = up ≡ true
NeedsUp (Fall inputs records why) up = up ≡ true
NeedsUp act up = Unit {0}

acted : (sc : Scenario) (site owner : ℕ) (w : Past) (up : Bool) (act : Act) → NeedsUp act up → Born sc site w up →
    Born sc site (past_by sc site w (record { owner = owner; act = act })) (up_behind up act)
acted sc site owner w up (Step i records outs events) needs was =
    let P : Bool → Type 0 = λ b. Born sc site w b in made_up sc site w _ w.tail up (subst P needs was)
acted sc site owner w up (Fall inputs records why) needs was =
    let P : Bool → Type 0 = λ b. Born sc site w b in made_up sc site w [] _ false (subst P needs was)
acted sc site owner w up (Rise kept inc) needs was = risen sc site w up kept inc was
acted sc site owner w up (RiseFall kept inc why) needs was = rise_failed sc site w up kept inc why was
acted sc site owner w up Miss needs was = quiet sc site w up false (λ is. absurd cc) was
acted sc site owner w up Cut needs was = quiet sc site w up false (λ is. absurd cc) was
acted sc site owner w up (Drop number) needs was = quiet sc site w up up (λ is. is) was
acted sc site owner w up (Parts parts) needs was = quiet sc site w up up (λ is. is) was
acted sc site owner w up (Line number) needs was = quiet sc site w up up (λ is. is) was

-- each guard finds the site up where its act needs it
guard_up : (sc : Scenario) (h : List Entry) (owner : ℕ) (act : Act) → Guard sc h (record { owner = owner; act = act }) → NeedsUp act (is_up_at h owner)
guard_up sc h zero (Step i records outs events) guard = absurd guard
guard_up sc h zero (Fall inputs records why) guard = absurd guard
guard_up sc h (suc o) (Step i records outs events) guard = guard.up
guard_up sc h (suc o) (Fall inputs records why) guard = guard.up
guard_up sc h owner act guard = tt

abbrev BornAt : Scenario → List Entry → ℕ → Type 0
BornAt sc h s = Born sc s (past_of sc s (own_entries s h)) (is_up_at h s)

born_push : (sc : Scenario) (h : List Entry) (e : Entry) (s : ℕ) → Guard sc h e → BornAt sc h s → BornAt sc (h ++ e ∷ []) s
born_push sc h e s guard was = by (e.owner == s) refl
  where
    by : (b : Bool) → (e.owner == s) ≡ b → BornAt sc (h ++ e ∷ []) s
    by true is =
        let w : Past = past_of sc s (own_entries s h) in
        let needs : NeedsUp e.act (is_up_at h s) = let N : ℕ → Type 0 = λ x. NeedsUp e.act (is_up_at h x) in subst N (eqb-true e.owner s is) (guard_up sc h e.owner e.act guard) in
        let P : Past → Type 0 = λ v. Born sc s v (is_up_at (h ++ e ∷ []) s) in
        let Q : Bool → Type 0 = λ b. Born sc s (past_by sc s w e) b in
        subst P (sym (ap (past_of sc s) (own_same s h e is) ∙ past_push sc s (own_entries s h) e)) (subst Q (sym (up_same h e s is)) (acted sc s e.owner w (is_up_at h s) e.act needs was))
    by false is =
        let P : Past → Type 0 = λ v. Born sc s v (is_up_at (h ++ e ∷ []) s) in
        let Q : Bool → Type 0 = λ b. Born sc s (past_of sc s (own_entries s h)) b in
        subst P (sym (ap (past_of sc s) (own_other s h e is))) (subst Q (sym (up_other h e s is)) was)

born_after : (sc : Scenario) (before rest : List Entry) (s : ℕ) → BornAt sc before s → LegalAfter sc before rest → BornAt sc (before ++ rest) s
born_after sc before [] s was legal = let P : List Entry → Type 0 = λ l. BornAt sc l s in subst P (sym (append-nil before)) was
born_after sc before (e ∷ rest) s was legal = let P : List Entry → Type 0 = λ l. BornAt sc l s in
    subst P (append_assoc before (e ∷ []) rest) (born_after sc (before ++ e ∷ []) rest s (born_push sc before e s legal.0 was) legal.1)

-- the log of a site in a legal history begins with its birth
pub log_born : (sc : Scenario) (h : List Entry) (site : ℕ) → IsLegal sc h → IsBorn sc site (log_of sc h site)
log_born sc h site legal = (born_after sc [] h site (record { log = tt; some = λ is. absurd cc; tail = λ tl is e. absurd cc }) legal).log
