-- The records of a site in a legal history are of transactions, and the operations of its votes are on keys of the site.
use Rattle.std.proofs.Common.{◌≡◌, ◌≤◌, ◌++◌, ◌∷◌, [], ℕ, true, List, sym, subst, ap, ◌∙◌}
use Rattle.std.specs.Prelude.{Contains}
use Rattle.std.specs.List.{AllByRecursion as Each}
use Rattle.std.proofs.lemmas.List.Elements.{All-contains_itself, recursion_from_All}
use Rattle.e3_laws.specs.steps.Begun.{BegunAreTransactions, RecordsMentionWhatStands}
use Rattle.e3_node.specs.Rising.{records_by}
use Rattle.e3_node.specs.Telling.{IsOfSite}
use Rattle.e3_node.specs.Turns.{Meanwhile}
use Rattle.e3_node.specs.declared.readying.Wish.{Wish}
use Rattle.e3_laws.specs.steps.Trails.{VotesAtTheirSite, records_at, tail_records}
use Rattle.e3_types.specs.declared.entries.Entry.{Entry}
use Rattle.e3_types.specs.declared.entries.Input.{Input}
use Rattle.e3_types.specs.declared.records.Record.{Record}
use Rattle.e3_types.specs.declared.records.Record.TheVariants as log
use Rattle.e3_types.specs.declared.scenarios.Scenario.{Scenario}
use Rattle.e3_world.specs.Given.{IsGiven}
use Rattle.e3_world.specs.Items.{is_up_at}
use Rattle.e3_world.specs.Legal.{IsDue, IsLegal, entry_of, made_by}
use Rattle.e3_world.specs.Moves.{Move, log_by, log_of, moves_of, open_tail}
use Rattle.e3_world.specs.Lives.{incarnation_of}
use Rattle.e3_world.specs.Sound.{step_move}
use Rattle.e3_world.specs.Steps.{step_of}
use Rattle.e3_world.proofs.Guards.{guard_step}
use Rattle.e3_world.proofs.Pushes.{legal_push, log_push}
use Rattle.e3_node.proofs.Steps.{step_moves}
use Rattle.e3_node.proofs.Waiting.{moves_stay}

each_left : {X : Type 0} (P : X → Type 0) (xs ys : List X) → Each P (xs ++ ys) → Each P xs
each_left P [] ys all = tt
each_left P (x ∷ xs) ys all = (all.0, each_left P xs ys all.1)

each_right : {X : Type 0} (P : X → Type 0) (xs ys : List X) → Each P (xs ++ ys) → Each P ys
each_right P [] ys all = all
each_right P (x ∷ xs) ys all = each_right P xs ys all.1

module _ (mentions : RecordsMentionWhatStands) (begun : BegunAreTransactions) (votes : VotesAtTheirSite) where
  own_at : (sc : Scenario) (h : List Entry) (site : ℕ) (r : Record) → IsGiven sc → IsLegal sc h → Contains (records_at sc h site) r → IsOfSite site r
  own_at sc h site (log.Birth format own weights rows) given legal has = tt
  own_at sc h site (log.Inc inc) given legal has = tt
  own_at sc h site (log.Vote t ops) given legal has =
      ((begun sc h t given legal (mentions sc h site (log.Vote t ops) legal has).0).0, votes sc h site t ops given legal has)
  own_at sc h site (log.Join t n) given legal has = (begun sc h t given legal (mentions sc h site (log.Join t n) legal has).0).0
  own_at sc h site (log.Attempt t n dir) given legal has = (begun sc h t given legal (mentions sc h site (log.Attempt t n dir) legal has).0).0
  own_at sc h site (log.Decision t dir) given legal has = (begun sc h t given legal (mentions sc h site (log.Decision t dir) legal has).0).0

  all_own : (sc : Scenario) (h : List Entry) (site : ℕ) → IsGiven sc → IsLegal sc h → Each (IsOfSite site) (records_at sc h site)
  all_own sc h site given legal =
      recursion_from_All (IsOfSite site) (records_at sc h site) (λ k d low. own_at sc h site _ given legal (All-contains_itself (records_at sc h site) k d low))

  -- so are those of a step that is due
  pub made_own : (sc : Scenario) (h : List Entry) (site : ℕ) (i : Input) → IsGiven sc → IsLegal sc h → 1 ≤ site → is_up_at h site ≡ true → IsDue sc h site i →
      Each (IsOfSite site) (made_by sc h site i).records
  made_own sc h site i given legal one up due =
      let e : Entry = entry_of sc h site i in
      let m : Move = step_move sc site (moves_of sc h site) i in
      let now : log_of sc (h ++ e ∷ []) site ≡ log_of sc h site ++ (made_by sc h site i).records =
      ap log_by (step_moves sc h site i) ∙ log_push (moves_of sc h site) m in
      let all : Each (IsOfSite site) (records_at sc (h ++ e ∷ []) site) = all_own sc (h ++ e ∷ []) site given (legal_push sc h e legal (guard_step sc h site i one up due)) in
      let P : List Record → Type 0 = λ rs. Each (IsOfSite site) rs in
      each_right (IsOfSite site) (log_of sc h site) (made_by sc h site i).records
      (subst P now (each_left (IsOfSite site) (log_of sc (h ++ e ∷ []) site) (tail_records (open_tail sc (h ++ e ∷ []) site)) all))

  -- so are those of a log, and what its brief has
  pub log_own : (sc : Scenario) (h : List Entry) (site : ℕ) → IsGiven sc → IsLegal sc h → Each (IsOfSite site) (log_of sc h site)
  log_own sc h site given legal = each_left (IsOfSite site) (log_of sc h site) (tail_records (open_tail sc h site)) (all_own sc h site given legal)

-- and those of a rise
pub rise_own : (wish : Wish) (inc : ℕ) (read : List Record) → Each (IsOfSite wish.site) (records_by wish inc read)
rise_own wish inc [] = (tt, (tt, tt))
rise_own wish inc (r ∷ rs) = (tt, tt)

-- the moves of a site stand still meanwhile, and so does its step
pub own_meanwhile : (sc : Scenario) (h now : List Entry) (site : ℕ) (i : Input) → Meanwhile site h now → Each (IsOfSite site) (made_by sc h site i).records →
    Each (IsOfSite site) (made_by sc now site i).records
own_meanwhile sc h now site i m own =
    let same : moves_of sc now site ≡ moves_of sc h site = ap (λ (l : List Entry). moves_of sc l site) m.is ∙ moves_stay sc site h m.others m.of_others in
    let P : List Move → Type 0 = λ ms. Each (IsOfSite site) (step_of sc.weights site (incarnation_of ms) i).records in
    subst P (sym same) own
