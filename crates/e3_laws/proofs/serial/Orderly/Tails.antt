-- What is open behind a log stands in the log of another legal history: one with the steps that a fall cut off, or with the
-- rise that failed.
use Rattle.std.proofs.Common.{◌≡◌, ◌≤◌, ◌==◌, ◌++◌, ◌∷◌, [], ℕ, zero, suc, Bool, true, false, List, Option, Some, None, refl, sym, subst, ap, ◌∙◌, append-nil, append_assoc, eqb-true, eq-eqb, arith}
use Rattle.std.proofs.lemmas.Option.{same_Some}
use Rattle.e3_types.specs.declared.entries.Act.{Act}
use Rattle.e3_types.specs.declared.entries.Act.TheVariants.{Step, Fall, Rise, RiseFall, Miss, Cut, Drop, Parts, Line}
use Rattle.e3_types.specs.declared.entries.Entry.{Entry}
use Rattle.e3_types.specs.declared.entries.Input.{Input}
use Rattle.e3_types.specs.declared.entries.Why.{Why}
use Rattle.e3_types.specs.declared.entries.Why.TheVariants.{Fault}
use Rattle.e3_types.specs.declared.records.Record.{Record}
use Rattle.e3_types.specs.declared.scenarios.Scenario.{Scenario}
use Rattle.e3_world.specs.Items.{is_up_at}
use Rattle.e3_world.specs.Legal.{Guard, IsLegal, LegalAfter, AreDue, IsRise, entry_of, made_by, records_by as fall_records}
use Rattle.e3_world.specs.Moves.{Move, Past, Tail, own_entries, past_of, past_by, moves_of_act, kept_moves, left_by, log_by, rise_records, log_of, open_tail, moves_of}
use Rattle.e3_world.specs.Progress.{up_behind}
use Rattle.e3_world.proofs.Guards.{guard_step}
use Rattle.e3_world.proofs.Pushes.{past_push, legal_push}
use Rattle.e3_world.proofs.Readings.{own_same, own_other, up_same, up_other}
use Rattle.e3_world.specs.Orderly.{IsOrderly}
use Rattle.e3_laws.specs.steps.Trails.{tail_records}
use Rattle.e3_laws.specs.serial.Orderly.{LogsAreOrderly, TailsAreLogs, TailsAreOrderly}
use Rattle.e3_laws.proofs.steps.Moving.{log_append, log_on}

-- some legal history has this log at the site
abbrev pub IsLog : Scenario → ℕ → List Record → Type 0
IsLog sc site records = (other : List Entry) × IsLegal sc other × (log_of sc other site ≡ records)

-- the log behind one more entry of the site
log_behind : (sc : Scenario) (h : List Entry) (site : ℕ) (act : Act) →
    log_of sc (h ++ record { owner = site; act = act } ∷ []) site ≡ log_of sc h site ++ log_by (moves_of_act sc site (past_of sc site (own_entries site h)) act)
log_behind sc h site act =
    ap (λ l. log_by (past_of sc site l).moves) (own_same site h (record { owner = site; act = act }) (eq-eqb site site refl))
    ∙ ap (λ (p : Past). log_by p.moves) (past_push sc site (own_entries site h) (record { owner = site; act = act }))
    ∙ log_append (moves_of sc h site) (moves_of_act sc site (past_of sc site (own_entries site h)) act)

-- the steps that a fall cut off
steps_log : (sc : Scenario) (h : List Entry) (site : ℕ) (inputs : List Input) → 1 ≤ site → IsLegal sc h → is_up_at h site ≡ true → AreDue sc h site inputs →
    IsLog sc site (log_of sc h site ++ fall_records sc h site inputs)
steps_log sc h site [] here legal up due = (h, legal, sym (append-nil (log_of sc h site)))
steps_log sc h site (i ∷ inputs) here legal up due =
    let e : Entry = entry_of sc h site i in
    let more = steps_log sc (h ++ e ∷ []) site inputs here (legal_push sc h e legal (guard_step sc h site i here up due.0))
    (up_same h e site (eq-eqb site site refl) ∙ up) due.1 in (
      more.0,
      more.1,
      more.2 ∙ ap (λ l. l ++ fall_records sc (h ++ e ∷ []) site inputs) (log_on sc h site i)
          ∙ append_assoc (log_of sc h site) (made_by sc h site i).records (fall_records sc (h ++ e ∷ []) site inputs),
    )

-- the rise that failed
rise_log : (sc : Scenario) (h : List Entry) (site : ℕ) (kept : Bool) (inc : ℕ) → 1 ≤ site → IsLegal sc h → IsRise sc h site kept inc →
    IsLog sc site (log_by (moves_of sc h site ++ kept_moves site kept (open_tail sc h site))
    ++ rise_records sc site inc (log_by (moves_of sc h site ++ kept_moves site kept (open_tail sc h site))))
rise_log sc h zero kept inc here legal rise = absurd (omega (arith, here))
rise_log sc h (suc o) kept inc here legal rise =
    let site : ℕ = suc o in
    let silent : List Move = kept_moves (suc o) kept (open_tail sc h (suc o)) in
    let records : List Record = rise_records sc (suc o) inc (log_by (moves_of sc h (suc o) ++ silent)) in (
      h ++ record { owner = suc o; act = Rise kept inc } ∷ [],
      legal_push sc h (record { owner = suc o; act = Rise kept inc }) legal rise,
      log_behind sc h (suc o) (Rise kept inc)
          ∙ ap (λ l. log_of sc h (suc o) ++ l) (log_append silent _ ∙ ap (λ l. log_by silent ++ l) (append-nil records))
          ∙ sym (append_assoc (log_of sc h (suc o)) (log_by silent) records)
          ∙ ap (λ l. l ++ records) (sym (log_append (moves_of sc h (suc o)) silent)),
    )

-- what holds of a site so far
pub record Opens (sc : Scenario) (site : ℕ) (w : Past) (up : Bool) : Type 0 where
  pub shut : up ≡ true → w.tail ≡ None
  pub tail : (tl : Tail) → w.tail ≡ Some tl → IsLog sc site (log_by w.moves ++ tl.records)

-- what an act leaves
left_opens : (sc : Scenario) (site : ℕ) (l : List Record) (why : Why) (inputs : List Input) (records : List Record) → IsLog sc site (l ++ records) →
    (tl : Tail) → left_by why inputs records ≡ Some tl → IsLog sc site (l ++ tl.records)
left_opens sc site l Fault inputs records all tl is =
    let left : Tail = record { inputs = inputs; records = records } in
    let same : left ≡ tl = same_Some left tl is in
    let P : Tail → Type 0 = λ t. IsLog sc site (l ++ t.records) in subst P same all
left_opens sc site l why inputs records all tl is = absurd cc

-- an act that makes no move
quiet : (sc : Scenario) (site : ℕ) (w : Past) (up next : Bool) → (next ≡ true → up ≡ true) → Opens sc site w up →
    Opens sc site (record { moves = w.moves ++ []; tail = w.tail }) next
quiet sc site w up next ups was =
    let P : List Move → Type 0 = λ ms. Opens sc site (record { moves = ms; tail = w.tail }) next in
    subst P (sym (append-nil w.moves)) (record { shut = λ is. was.shut (ups is); tail = was.tail })

-- what an act gives
abbrev Gives : Scenario → ℕ → Past → Bool → Act → Type 0
Gives sc site w up (Step i records outs events) = up ≡ true
Gives sc site w up (Fall inputs records why) = IsLog sc site (log_by w.moves ++ records)
Gives sc site w up (RiseFall kept inc why) =
    IsLog sc site (log_by (w.moves ++ kept_moves site kept w.tail) ++ rise_records sc site inc (log_by (w.moves ++ kept_moves site kept w.tail)))
Gives sc site w up act = Unit {0}

acted : (sc : Scenario) (site owner : ℕ) (w : Past) (up : Bool) (act : Act) → Gives sc site w up act → Opens sc site w up →
    Opens sc site (past_by sc site w (record { owner = owner; act = act })) (up_behind up act)
acted sc site owner w up (Step i records outs events) gives was = record {
  shut = was.shut;
  tail = λ tl is. absurd (let none : w.tail ≡ None = was.shut gives in cc);
}
acted sc site owner w up (Fall inputs records why) gives was =
    let P : List Move → Type 0 = λ ms. IsLog sc site (log_by ms ++ records) in
    record {
      shut = λ is. absurd cc;
      tail = left_opens sc site (log_by (w.moves ++ [])) why _ records (subst P (sym (append-nil w.moves)) gives);
    }
acted sc site owner w up (Rise kept inc) gives was = record { shut = λ is. refl; tail = λ tl is. absurd cc }
acted sc site owner w up (RiseFall kept inc why) gives was = record {
  shut = λ is. absurd cc;
  tail = left_opens sc site (log_by (w.moves ++ kept_moves site kept w.tail)) why [] _ gives;
}
acted sc site owner w up Miss gives was = quiet sc site w up false (λ is. absurd cc) was
acted sc site owner w up Cut gives was = quiet sc site w up false (λ is. absurd cc) was
acted sc site owner w up (Drop number) gives was = quiet sc site w up up (λ is. is) was
acted sc site owner w up (Parts parts) gives was = quiet sc site w up up (λ is. is) was
acted sc site owner w up (Line number) gives was = quiet sc site w up up (λ is. is) was

guard_gives : (sc : Scenario) (h : List Entry) (owner : ℕ) (act : Act) → IsLegal sc h → Guard sc h (record { owner = owner; act = act }) →
    Gives sc owner (past_of sc owner (own_entries owner h)) (is_up_at h owner) act
guard_gives sc h zero (Step i records outs events) legal guard = absurd guard
guard_gives sc h zero (Fall inputs records why) legal guard = absurd guard
guard_gives sc h zero (RiseFall kept inc why) legal guard = absurd guard
guard_gives sc h (suc o) (Step i records outs events) legal guard = guard.up
guard_gives sc h (suc o) (Fall inputs records why) legal guard =
    let P : List Record → Type 0 = λ l. IsLog sc (suc o) (log_of sc h (suc o) ++ l) in
    subst P (sym guard.made) (steps_log sc h (suc o) inputs (omega arith) legal guard.up guard.due)
guard_gives sc h (suc o) (RiseFall kept inc why) legal guard = rise_log sc h (suc o) kept inc (omega arith) legal guard
guard_gives sc h owner act legal guard = tt

abbrev OpensAt : Scenario → List Entry → ℕ → Type 0
OpensAt sc h s = Opens sc s (past_of sc s (own_entries s h)) (is_up_at h s)

opens_push : (sc : Scenario) (h : List Entry) (e : Entry) (s : ℕ) → IsLegal sc h → Guard sc h e → OpensAt sc h s → OpensAt sc (h ++ e ∷ []) s
opens_push sc h e s legal guard was = by (e.owner == s) refl
  where
    by : (b : Bool) → (e.owner == s) ≡ b → OpensAt sc (h ++ e ∷ []) s
    by true is =
        let w : Past = past_of sc s (own_entries s h) in
        let N : ℕ → Type 0 = λ x. Gives sc x (past_of sc x (own_entries x h)) (is_up_at h x) e.act in
        let gives : Gives sc s w (is_up_at h s) e.act = subst N (eqb-true e.owner s is) (guard_gives sc h e.owner e.act legal guard) in
        let P : Past → Type 0 = λ v. Opens sc s v (is_up_at (h ++ e ∷ []) s) in
        let Q : Bool → Type 0 = λ b. Opens sc s (past_by sc s w e) b in
        subst P (sym (ap (past_of sc s) (own_same s h e is) ∙ past_push sc s (own_entries s h) e)) (subst Q (sym (up_same h e s is)) (acted sc s e.owner w (is_up_at h s) e.act gives was))
    by false is =
        let P : Past → Type 0 = λ v. Opens sc s v (is_up_at (h ++ e ∷ []) s) in
        let Q : Bool → Type 0 = λ b. Opens sc s (past_of sc s (own_entries s h)) b in
        subst P (sym (ap (past_of sc s) (own_other s h e is))) (subst Q (sym (up_other h e s is)) was)

opens_after : (sc : Scenario) (before rest : List Entry) (s : ℕ) → IsLegal sc before → OpensAt sc before s → LegalAfter sc before rest → OpensAt sc (before ++ rest) s
opens_after sc before [] s first was legal = let P : List Entry → Type 0 = λ l. OpensAt sc l s in subst P (sym (append-nil before)) was
opens_after sc before (e ∷ rest) s first was legal = let P : List Entry → Type 0 = λ l. OpensAt sc l s in
    subst P (append_assoc before (e ∷ []) rest)
    (opens_after sc (before ++ e ∷ []) rest s (legal_push sc before e first legal.0) (opens_push sc before e s first legal.0 was) legal.1)

legal_opens : (sc : Scenario) (h : List Entry) (site : ℕ) → IsLegal sc h → OpensAt sc h site
legal_opens sc h site legal = opens_after sc [] h site tt (record { shut = λ is. absurd cc; tail = λ tl is. absurd cc }) legal

pub tails_are_logs : TailsAreLogs
tails_are_logs sc h site legal = by (open_tail sc h site) refl
  where
    by : (o : Option Tail) → open_tail sc h site ≡ o → IsLog sc site (log_of sc h site ++ tail_records o)
    by None is = (h, legal, sym (append-nil (log_of sc h site)))
    by (Some tl) is = (legal_opens sc h site legal).tail tl is

pub tails_are_orderly : LogsAreOrderly → TailsAreOrderly
tails_are_orderly orderly sc h site given legal =
    let other = tails_are_logs sc h site legal in
    let P : List Record → Type 0 = IsOrderly site in
    subst P other.2 (orderly sc other.0 site given other.1)
