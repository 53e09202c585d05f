-- The logs of a batch are in order, and their briefs are told, whatever others put before it.
use Rattle.std.proofs.Common.{◌≡◌, ◌≤◌, ℕ, true, false, List, take, sym, subst}
use Rattle.e3_laws.specs.local.Drafts.{MayTakeAll}
use Rattle.e3_laws.specs.local.Least.{AreFirstTo}
use Rattle.e3_laws.specs.serial.Orderly.{LogsAreOrderly}
use Rattle.e3_world.specs.Orderly.{IsOrderly}
use Rattle.e3_laws.specs.brief.Sets.{LoggedSitesAreSets}
use Rattle.e3_laws.specs.steps.Begun.{BegunAreTransactions, RecordsMentionWhatStands}
use Rattle.e3_laws.specs.steps.Trails.{TrailsAreSound, VotesAtTheirSite}
use Rattle.e3_site.specs.StandsAlike.{IsLogInOrder}
use Rattle.e3_node.specs.Batches.{stepped}
use Rattle.e3_node.specs.Briefing.{BriefsAreTold}
use Rattle.e3_node.specs.Turns.{Meanwhile}
use Rattle.e3_turn.specs.Passes.{GrewByOthers, Owns, seen_by}
use Rattle.e3_types.specs.declared.entries.Entry.{Entry}
use Rattle.e3_types.specs.declared.entries.Input.{Input}
use Rattle.e3_types.specs.declared.records.Record.{Record}
use Rattle.e3_types.specs.declared.scenarios.Scenario.{Scenario}
use Rattle.e3_wire.specs.Claims.{APass}
use Rattle.e3_wire.specs.Marks.{belongs, entries_of, scenario_of}
use Rattle.e3_wire.specs.Wires.{IsPlayed}
use Rattle.e3_wire.specs.declared.marks.Mark.{Mark}
use Rattle.e3_world.specs.Items.{is_up_at}
use Rattle.e3_world.specs.Legal.{AreDue, IsLegal}
use Rattle.e3_world.specs.Moves.{log_of}
use Rattle.e3_world.specs.Packets.{is_calm, present_items}
use Rattle.e3_node.proofs.Batches.{stepped_up}
use Rattle.e3_node.proofs.Briefs.{brief_now}
use Rattle.e3_node.proofs.Bundles.{all_due_first}
use Rattle.e3_node.proofs.Orders.{log_in_order, stepped_legal, up_log}
use Rattle.e3_node.proofs.Outcomes.{due_meanwhile, first_of_all, may_take_front}
use Rattle.e3_node.proofs.Results.{keys, seen_while}
use Rattle.e3_node.proofs.Waiting.{up_while}

module _ (p : APass) (site : ℕ) (inputs : List Input) (owns : Owns p site) (was : IsPlayed (seen_by p)) (some : 1 ≤ site) (up : is_up_at (entries_of (seen_by p)) site ≡ true)
    (calm : is_calm (present_items (scenario_of (seen_by p)) (entries_of (seen_by p))) ≡ false) (may : MayTakeAll (scenario_of (seen_by p)) (entries_of (seen_by p)) site inputs)
    (firsts : AreFirstTo (scenario_of (seen_by p)) (entries_of (seen_by p)) site inputs) (marks : List Mark) (grew : GrewByOthers belongs p marks) (played : IsPlayed marks) (n : ℕ) where
  abbrev sc : Scenario
  sc = scenario_of (seen_by p)

  abbrev h : List Entry
  h = entries_of (seen_by p)

  -- behind some of the inputs
  abbrev now : List Entry
  now = stepped sc (entries_of marks) site (take n inputs)

  same : scenario_of marks ≡ sc
  same = keys p site owns was marks grew

  meanwhile : Meanwhile site h (entries_of marks)
  meanwhile = seen_while p site owns was marks grew played

  up_1 : is_up_at (entries_of marks) site ≡ true
  up_1 = up_while h (entries_of marks) site meanwhile up

  legal_now : IsLegal sc now
  legal_now =
      let L : Scenario → Type 0 = λ x. IsLegal x (entries_of marks) in
      let legal : IsLegal sc (entries_of marks) = subst L same played.legal in
      let first : AreFirstTo sc h site (take n inputs) = first_of_all sc h site n inputs firsts in
      let due : AreDue sc h site (take n inputs) = all_due_first sc h site (take n inputs) was.legal some up calm (may_take_front sc h site n inputs may) first in
      let all = due_meanwhile sc h (entries_of marks) site (take n inputs) was.given legal meanwhile calm first due in
      stepped_legal sc (entries_of marks) site (take n inputs) some up_1 all.1 legal

  -- the log is in order
  pub batch_order : LogsAreOrderly → LoggedSitesAreSets →
      IsLogInOrder site (log_of (scenario_of marks) (stepped (scenario_of marks) (entries_of marks) site (take n inputs)) site)
  batch_order logs sets =
      let O : Scenario → Type 0 = λ x. IsLogInOrder site (log_of x (stepped x (entries_of marks) site (take n inputs)) site) in
      subst O (sym same) (log_in_order logs sets sc now site was.given legal_now)

  -- and its brief is told
  pub batch_brief : LogsAreOrderly → LoggedSitesAreSets → TrailsAreSound → RecordsMentionWhatStands → BegunAreTransactions → VotesAtTheirSite → (rose : List Record) → IsOrderly site rose →
      BriefsAreTold (scenario_of marks) (stepped (scenario_of marks) (entries_of marks) site (take n inputs)) site rose
  batch_brief logs sets sounds mentions begun votes rose risen =
      let B : Scenario → Type 0 = λ x. BriefsAreTold x (stepped x (entries_of marks) site (take n inputs)) site rose in
      subst B (sym same) (λ s stands.
      brief_now logs sounds mentions begun votes sc now site rose s was.given legal_now stands risen (log_in_order logs sets sc now site was.given legal_now)
      (up_log sc now site (stepped_up sc (entries_of marks) site (take n inputs) up_1)))
