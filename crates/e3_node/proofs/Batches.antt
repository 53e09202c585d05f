-- The steps of several inputs, one behind the other.
use Rattle.std.proofs.Common.{◌≡◌, ◌≢◌, ◌≤◌, ◌++◌, ◌∷◌, [], ℕ, true, List, length, refl, sym, ap, ◌∙◌, append-nil, append_assoc, arith}
use Rattle.std.specs.List.{AllByRecursion as Each}
use Rattle.e3_laws.specs.steps.Begun.{BegunAreTransactions, RecordsMentionWhatStands}
use Rattle.e3_node.specs.Batches.{unnumbered_of, unnumbered_steps, stepped}
use Rattle.e3_node.specs.Telling.{IsOfSite}
use Rattle.e3_laws.specs.steps.Trails.{VotesAtTheirSite}
use Rattle.e3_types.specs.declared.entries.Entry.{Entry}
use Rattle.e3_types.specs.declared.entries.Input.{Input}
use Rattle.e3_types.specs.declared.records.Record.{Record}
use Rattle.e3_types.specs.declared.scenarios.Scenario.{Scenario}
use Rattle.e3_world.specs.Given.{IsGiven}
use Rattle.e3_world.specs.Items.{is_up_at}
use Rattle.e3_world.specs.Legal.{AreDue, IsLegal, entry_of, made_by, records_by}
use Rattle.e3_world.specs.Lives.{incarnation_of}
use Rattle.e3_world.specs.Moves.{Move, moves_of}
use Rattle.e3_world.specs.Sound.{step_move}
use Rattle.e3_world.specs.Steps.{step_of}
use Rattle.e3_world.proofs.Guards.{guard_step}
use Rattle.e3_world.proofs.Pushes.{legal_push}
use Rattle.e3_world.proofs.Readings.{up_same}
use Rattle.e3_world.proofs.Turns.{self}
use Rattle.e3_node.proofs.Owning.{made_own}
use Rattle.e3_node.proofs.Steps.{step_moves}

-- with one input more
pub stepped_push : (sc : Scenario) (h : List Entry) (site : ℕ) (inputs : List Input) (i : Input) →
    stepped sc h site (inputs ++ i ∷ []) ≡ stepped sc h site inputs ++ entry_of sc (stepped sc h site inputs) site i ∷ []
stepped_push sc h site [] i = refl
stepped_push sc h site (j ∷ inputs) i = stepped_push sc (h ++ entry_of sc h site j ∷ []) site inputs i

pub unnumbered_push : (sc : Scenario) (h : List Entry) (site : ℕ) (inputs : List Input) (i : Input) →
    unnumbered_steps sc h site (inputs ++ i ∷ []) ≡ unnumbered_steps sc h site inputs ++ unnumbered_of site i (made_by sc (stepped sc h site inputs) site i) ∷ []
unnumbered_push sc h site [] i = refl
unnumbered_push sc h site (j ∷ inputs) i = ap (λ l. unnumbered_of site j (made_by sc h site j) ∷ l) (unnumbered_push sc (h ++ entry_of sc h site j ∷ []) site inputs i)

pub records_push : (sc : Scenario) (h : List Entry) (site : ℕ) (inputs : List Input) (i : Input) →
    records_by sc h site (inputs ++ i ∷ []) ≡ records_by sc h site inputs ++ (made_by sc (stepped sc h site inputs) site i).records
records_push sc h site [] i = append-nil (made_by sc h site i).records
records_push sc h site (j ∷ inputs) i =
    let rest : List Record = records_by sc (h ++ entry_of sc h site j ∷ []) site inputs in
    ap (λ l. (made_by sc h site j).records ++ l) (records_push sc (h ++ entry_of sc h site j ∷ []) site inputs i)
    ∙ sym (append_assoc (made_by sc h site j).records rest (made_by sc (stepped sc (h ++ entry_of sc h site j ∷ []) site inputs) site i).records)

-- no inputs record nothing
pub some_inputs : (sc : Scenario) (h : List Entry) (site : ℕ) (inputs : List Input) → records_by sc h site inputs ≢ [] → 1 ≤ length inputs
some_inputs sc h site [] some = absurd (some refl)
some_inputs sc h site (i ∷ inputs) some = omega arith

-- where the moves of the site are the same, so are those with the steps, and the steps
next_same : (sc : Scenario) (site : ℕ) (h k : List Entry) (i : Input) → moves_of sc k site ≡ moves_of sc h site →
    moves_of sc (k ++ entry_of sc k site i ∷ []) site ≡ moves_of sc (h ++ entry_of sc h site i ∷ []) site
next_same sc site h k i same =
    step_moves sc k site i ∙ ap (λ (ms : List Move). ms ++ step_move sc site ms i ∷ []) same ∙ sym (step_moves sc h site i)

pub stepped_same : (sc : Scenario) (site : ℕ) (h k : List Entry) (inputs : List Input) → moves_of sc k site ≡ moves_of sc h site →
    moves_of sc (stepped sc k site inputs) site ≡ moves_of sc (stepped sc h site inputs) site
stepped_same sc site h k [] same = same
stepped_same sc site h k (i ∷ inputs) same =
    stepped_same sc site (h ++ entry_of sc h site i ∷ []) (k ++ entry_of sc k site i ∷ []) inputs (next_same sc site h k i same)

pub unnumbered_same : (sc : Scenario) (site : ℕ) (h k : List Entry) (inputs : List Input) → moves_of sc k site ≡ moves_of sc h site →
    unnumbered_steps sc k site inputs ≡ unnumbered_steps sc h site inputs
unnumbered_same sc site h k [] same = refl
unnumbered_same sc site h k (i ∷ inputs) same =
    let rest : List Entry = unnumbered_steps sc (k ++ entry_of sc k site i ∷ []) site inputs in
    ap (λ (ms : List Move). unnumbered_of site i (step_of sc.weights site (incarnation_of ms) i) ∷ rest) same
    ∙ ap (λ l. unnumbered_of site i (made_by sc h site i) ∷ l)
    (unnumbered_same sc site (h ++ entry_of sc h site i ∷ []) (k ++ entry_of sc k site i ∷ []) inputs (next_same sc site h k i same))

pub records_same : (sc : Scenario) (site : ℕ) (h k : List Entry) (inputs : List Input) → moves_of sc k site ≡ moves_of sc h site →
    records_by sc k site inputs ≡ records_by sc h site inputs
records_same sc site h k [] same = refl
records_same sc site h k (i ∷ inputs) same =
    let rest : List Record = records_by sc (k ++ entry_of sc k site i ∷ []) site inputs in
    ap (λ (ms : List Move). (step_of sc.weights site (incarnation_of ms) i).records ++ rest) same
    ∙ ap (λ l. (made_by sc h site i).records ++ l)
    (records_same sc site (h ++ entry_of sc h site i ∷ []) (k ++ entry_of sc k site i ∷ []) inputs (next_same sc site h k i same))

-- the history with steps that are due is legal, and the site is up in it
pub stepped_up : (sc : Scenario) (h : List Entry) (site : ℕ) (inputs : List Input) → is_up_at h site ≡ true → is_up_at (stepped sc h site inputs) site ≡ true
stepped_up sc h site [] up = up
stepped_up sc h site (i ∷ inputs) up =
    stepped_up sc (h ++ entry_of sc h site i ∷ []) site inputs (up_same h (entry_of sc h site i) site (self site) ∙ up)

pub stepped_legal : (sc : Scenario) (h : List Entry) (site : ℕ) (inputs : List Input) → IsLegal sc h → 1 ≤ site → is_up_at h site ≡ true → AreDue sc h site inputs →
    IsLegal sc (stepped sc h site inputs)
stepped_legal sc h site [] legal one up due = legal
stepped_legal sc h site (i ∷ inputs) legal one up due =
    stepped_legal sc (h ++ entry_of sc h site i ∷ []) site inputs (legal_push sc h (entry_of sc h site i) legal (guard_step sc h site i one up due.0)) one
    (up_same h (entry_of sc h site i) site (self site) ∙ up) due.1

each_both : {X : Type 0} (P : X → Type 0) (xs ys : List X) → Each P xs → Each P ys → Each P (xs ++ ys)
each_both P [] ys first second = second
each_both P (x ∷ xs) ys first second = (first.0, each_both P xs ys first.1 second)

-- what the steps record is of the site
pub records_own : RecordsMentionWhatStands → BegunAreTransactions → VotesAtTheirSite → (sc : Scenario) (h : List Entry) (site : ℕ) (inputs : List Input) → IsGiven sc →
    IsLegal sc h → 1 ≤ site → is_up_at h site ≡ true → AreDue sc h site inputs → Each (IsOfSite site) (records_by sc h site inputs)
records_own mentions begun votes sc h site [] given legal one up due = tt
records_own mentions begun votes sc h site (i ∷ inputs) given legal one up due =
    each_both (IsOfSite site) (made_by sc h site i).records (records_by sc (h ++ entry_of sc h site i ∷ []) site inputs)
    (made_own mentions begun votes sc h site i given legal one up due.0)
    (records_own mentions begun votes sc (h ++ entry_of sc h site i ∷ []) site inputs given
    (legal_push sc h (entry_of sc h site i) legal (guard_step sc h site i one up due.0)) one (up_same h (entry_of sc h site i) site (self site) ∙ up) due.1)
