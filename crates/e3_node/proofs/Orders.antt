-- The logs of legal histories are in order.
use Rattle.std.proofs.Common.{◌≡◌, ◌≢◌, ◌≤◌, ◌++◌, ◌∷◌, [], ℕ, Bool, true, false, List, refl, sym, ◌∙◌}
use Rattle.std.specs.Prelude.{fold, None}
use Rattle.std.proofs.lemmas.Grind.{flat_map-append}
use Rattle.e3_laws.specs.serial.Orderly.{LogsAreOrderly}
use Rattle.e3_laws.specs.brief.Sets.{LoggedSitesAreSets}
use Rattle.e3_site.specs.StandsAlike.{IsLogInOrder}
use Rattle.e3_node.specs.Batches.{stepped}
use Rattle.e3_types.specs.declared.entries.Act.{Act}
use Rattle.e3_types.specs.declared.entries.Act.TheVariants.{Step, Fall, Rise, RiseFall, Miss, Cut, Drop, Parts, Line}
use Rattle.e3_types.specs.declared.entries.Entry.{Entry}
use Rattle.e3_types.specs.declared.entries.Input.{Input}
use Rattle.e3_types.specs.declared.records.Record.{Record}
use Rattle.e3_types.specs.declared.scenarios.Scenario.{Scenario}
use Rattle.e3_world.specs.Given.{IsGiven}
use Rattle.e3_world.specs.Items.{is_up_at}
use Rattle.e3_world.specs.Legal.{AreDue, IsDue, IsLegal, entry_of}
use Rattle.e3_world.specs.Moves.{Move, Past, Rose, kept_moves, log_by, log_of, moves_of_act, own_entries, past_by, recorded, rise_records}
use Rattle.e3_world.proofs.Guards.{guard_step}
use Rattle.e3_world.proofs.Pushes.{legal_push, log_push}
use Rattle.e3_world.specs.Progress.{up_behind}
use Rattle.e3_world.proofs.Readings.{up_same}
use Rattle.e3_world.proofs.Turns.{self}

pub log_in_order : LogsAreOrderly → LoggedSitesAreSets → (sc : Scenario) (h : List Entry) (site : ℕ) → IsGiven sc → IsLegal sc h → IsLogInOrder site (log_of sc h site)
log_in_order logs sets sc h site given legal = record {
  orderly = logs sc h site given legal;
  known = sets sc h site given legal;
}

-- so is that behind a step
pub step_order : LogsAreOrderly → LoggedSitesAreSets → (sc : Scenario) (h : List Entry) (site : ℕ) (i : Input) → IsGiven sc → IsLegal sc h → 1 ≤ site → is_up_at h site ≡ true →
    IsDue sc h site i → IsLogInOrder site (log_of sc (h ++ entry_of sc h site i ∷ []) site)
step_order logs sets sc h site i given legal one up due =
    log_in_order logs sets sc (h ++ entry_of sc h site i ∷ []) site given (legal_push sc h (entry_of sc h site i) legal (guard_step sc h site i one up due))

-- the history with the steps of these inputs is legal where they are due
pub stepped_legal : (sc : Scenario) (h : List Entry) (site : ℕ) (inputs : List Input) → 1 ≤ site → is_up_at h site ≡ true → AreDue sc h site inputs → IsLegal sc h →
    IsLegal sc (stepped sc h site inputs)
stepped_legal sc h site [] one up due legal = legal
stepped_legal sc h site (i ∷ inputs) one up due legal =
    stepped_legal sc (h ++ entry_of sc h site i ∷ []) site inputs one (up_same h (entry_of sc h site i) site (self site) ∙ up) due.1
    (legal_push sc h (entry_of sc h site i) legal (guard_step sc h site i one up due.0))

-- a site that is up has records in its log: a rise records something
some_front : (xs ys : List Record) → xs ≢ [] → xs ++ ys ≢ []
some_front [] ys some = absurd (some refl)
some_front (x ∷ xs) ys some = λ none. cc

some_back : (xs ys : List Record) → ys ≢ [] → xs ++ ys ≢ []
some_back [] ys some = some
some_back (x ∷ xs) ys some = λ none. cc

rise_some : (sc : Scenario) (site inc : ℕ) (l : List Record) → rise_records sc site inc l ≢ []
rise_some sc site inc [] = λ none. cc
rise_some sc site inc (r ∷ rs) = λ none. cc

rose_some : (silent : List Move) (site inc : ℕ) (rs : List Record) → rs ≢ [] → log_by (silent ++ record { site = site; did = Rose inc rs } ∷ []) ≢ []
rose_some silent site inc rs some = λ none. some_back (log_by silent) rs some (sym (log_push silent (record { site = site; did = Rose inc rs })) ∙ none)

act_some : (sc : Scenario) (site : ℕ) (w : Past) (was : Bool) (act : Act) → (was ≡ true → log_by w.moves ≢ []) → up_behind was act ≡ true →
    log_by w.moves ++ log_by (moves_of_act sc site w act) ≢ []
act_some sc site w was (Step i records outs events) before up = some_front (log_by w.moves) _ (before up)
act_some sc site w was (Rise kept inc) before up =
    let silent : List Move = kept_moves site kept w.tail in
    some_back (log_by w.moves) _ (rose_some silent site inc (rise_records sc site inc (log_by (w.moves ++ silent))) (rise_some sc site inc (log_by (w.moves ++ silent))))
act_some sc site w was (RiseFall kept inc why) before up = absurd cc
act_some sc site w was (Fall inputs records why) before up = absurd cc
act_some sc site w was Miss before up = absurd cc
act_some sc site w was Cut before up = absurd cc
act_some sc site w was (Drop packet) before up = some_front (log_by w.moves) _ (before up)
act_some sc site w was (Parts parts) before up = some_front (log_by w.moves) _ (before up)
act_some sc site w was (Line number) before up = some_front (log_by w.moves) _ (before up)

some_from : (sc : Scenario) (site : ℕ) (w : Past) (was : Bool) (mine : List Entry) → (was ≡ true → log_by w.moves ≢ []) →
    fold (λ up e. up_behind up e.act) was mine ≡ true → log_by (fold (past_by sc site) w mine).moves ≢ []
some_from sc site w was [] before up = before up
some_from sc site w was (e ∷ mine) before up =
    some_from sc site (past_by sc site w e) (up_behind was e.act) mine
    (λ now none. act_some sc site w was e.act before now (sym (flat_map-append recorded w.moves (moves_of_act sc site w e.act)) ∙ none)) up

pub up_log : (sc : Scenario) (h : List Entry) (site : ℕ) → is_up_at h site ≡ true → log_of sc h site ≢ []
up_log sc h site up = some_from sc site (record { moves = []; tail = None }) false (own_entries site h) (λ yes. absurd (let both : false ≡ true = yes in cc)) up
