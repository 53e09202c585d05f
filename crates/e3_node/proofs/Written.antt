-- What a site that is up may write behind its log, and to what that may be turned.
use Rattle.std.proofs.Common.{◌≡◌, ◌≤◌, ◌++◌, ◌∙◌, ℕ, true, List, Option, sym, subst, ap}
use Rattle.std.specs.List.{AllByRecursion as Each}
use Rattle.e3_codec.specs.Fields.{AllCanBeReadBack}
use Rattle.e3_world.specs.Orderly.{IsOrderly}
use Rattle.e3_laws.specs.brief.Sets.{LoggedSitesAreSets}
use Rattle.e3_laws.specs.serial.Orderly.{LogsAreOrderly}
use Rattle.e3_laws.specs.steps.Begun.{BegunAreTransactions, RecordsMentionWhatStands}
use Rattle.e3_laws.specs.steps.Trails.{TrailsAreSound, VotesAtTheirSite}
use Rattle.e3_node.specs.Briefing.{IsBriefOf}
use Rattle.e3_node.specs.NodeStands.{StandsBy}
use Rattle.e3_node.specs.Telling.{IsOfSite}
use Rattle.e3_node.specs.Turns.{Meanwhile}
use Rattle.e3_site.specs.SiteView.{SiteView}
use Rattle.e3_node.specs.site_log.Ends.{IsShortIf}
use Rattle.e3_node.specs.declared.site_log.writing.Short.{Short}
use Rattle.e3_types.specs.declared.entries.Entry.{Entry}
use Rattle.e3_types.specs.declared.entries.Input.{Input}
use Rattle.e3_types.specs.declared.records.Record.{Record}
use Rattle.e3_types.specs.declared.scenarios.Scenario.{Scenario}
use Rattle.e3_world.specs.Given.{IsGiven}
use Rattle.e3_world.specs.Items.{is_up_at}
use Rattle.e3_world.specs.Legal.{IsDue, IsLegal, made_by}
use Rattle.e3_world.specs.Moves.{log_by, log_of}
use Rattle.e3_node.proofs.Briefs.{brief_now}
use Rattle.e3_node.proofs.Orders.{step_order, up_log}
use Rattle.e3_node.proofs.Owning.{made_own}
use Rattle.e3_node.proofs.Steps.{step_log}
use Rattle.e3_node.proofs.Waiting.{moves_stay}

-- records may stand behind a log, and can be read back; it may be turned to a short one
pub record Follows (site : ℕ) (log records : List Record) (given : Option Short) : Type 0 where
  pub short : IsShortIf site log given
  pub orderly : IsOrderly site (log ++ records)
  pub back : AllCanBeReadBack site records

module _ (logs : LogsAreOrderly) (sets : LoggedSitesAreSets) (sounds : TrailsAreSound) (mentions : RecordsMentionWhatStands) (begun : BegunAreTransactions) (votes : VotesAtTheirSite)
    (sc : Scenario) (h : List Entry) (site : ℕ) (given : IsGiven sc) (legal : IsLegal sc h) (up : is_up_at h site ≡ true) where
  -- a site that stands tells the brief of its log
  pub up_brief : (rose : List Record) (s : SiteView) → StandsBy sc h site rose s → IsBriefOf s (log_of sc h site)
  up_brief rose s stands =
      brief_now logs sounds mentions begun votes sc h site rose s given legal stands.alike stands.risen stands.order (up_log sc h site up)

  pub up_short : (rose : List Record) (s : SiteView) (short : Option Short) → StandsBy sc h site rose s →
      ((l : List Record) → IsBriefOf s l → IsShortIf s.site l short) → IsShortIf site (log_of sc h site) short
  up_short rose s short stands is =
      let P : ℕ → Type 0 = λ n. IsShortIf n (log_of sc h site) short in
      subst P stands.alike.site_is (is (log_of sc h site) (up_brief rose s stands))

  -- so a step that is due may be written
  pub step_follows : (rose : List Record) (s : SiteView) (i : Input) (short : Option Short) (records : List Record) → StandsBy sc h site rose s → 1 ≤ site → IsDue sc h site i →
      records ≡ (made_by sc h site i).records → (Each (IsOfSite site) (made_by sc h site i).records → AllCanBeReadBack site (made_by sc h site i).records) →
      ((l : List Record) → IsBriefOf s l → IsShortIf s.site l short) → Follows site (log_of sc h site) records short
  step_follows rose s i short records stands one due made back is = record {
    short = up_short rose s short stands is;
    orderly =
        let P : List Record → Type 0 = λ l. IsOrderly site l in
        let Q : List Record → Type 0 = λ rs. IsOrderly site (log_of sc h site ++ rs) in
        subst Q (sym made) (subst P (step_log sc h site i) (step_order logs sets sc h site i given legal one up due).orderly);
    back =
        let P : List Record → Type 0 = λ rs. AllCanBeReadBack site rs in
        subst P (sym made) (back (made_own mentions begun votes sc h site i given legal one up due));
  }

-- the log stays while others go on
pub log_while : (sc : Scenario) (h now : List Entry) (site : ℕ) → Meanwhile site h now → log_of sc now site ≡ log_of sc h site
log_while sc h now site m = ap (λ (l : List Entry). log_of sc l site) m.is ∙ ap log_by (moves_stay sc site h m.others m.of_others)

pub follows_while : (sc : Scenario) (h now : List Entry) (site : ℕ) (records : List Record) (short : Option Short) → Meanwhile site h now →
    Follows site (log_of sc h site) records short → Follows site (log_of sc now site) records short
follows_while sc h now site records short m is =
    let P : List Record → Type 0 = λ l. Follows site l records short in subst P (sym (log_while sc h now site m)) is
