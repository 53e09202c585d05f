-- The site that is rebuilt from a log stands for every legal history with that log.
use Rattle.std.proofs.Common.{◌≡◌, ◌≢◌, ◌<◌, ◌++◌, ◌∷◌, [], ℕ, List, refl, sym, subst, ap, ◌∙◌, fold, length, arith}
use Rattle.e3_types.specs.declared.records.Record.{Record}
use Rattle.e3_types.specs.declared.records.Record.TheVariants as log
use Rattle.e3_types.specs.declared.scenarios.Scenario.{Scenario}
use Rattle.e3_site.specs.past.Standing.{TablesStand}
use Rattle.e3_site.specs.declared.past.tables.Tables.{Tables}
use Rattle.e3_site.specs.SiteView.{SiteView, Stands, risen_with}
use Rattle.e3_site.specs.StandsFor.{StandsRisen}
use Rattle.e3_world.specs.Lives.{life_of}
use Rattle.e3_world.specs.Orderly.{weights_by, weights_in, IsOrderly, OrderlyAfter, MayFollow}
use Rattle.e3_site.specs.Rebuilt.{IsRebuilt, StandsForBrief, StandsForEach}
use Rattle.e3_laws.specs.brief.Alike.{ReadAlike}
use Rattle.e3_laws.proofs.brief.Laws.{are_some, same_alike}
use Rattle.e3_laws.specs.serial.Orderly.{LogsAreOrderly}
use Rattle.e3_world.specs.Brief.{brief}
use Rattle.e3_world.specs.Moves.{log_of}
use Rattle.e3_site.proofs.Alike.{rises}
use Rattle.e3_site.proofs.Births.{IsBorn, log_born}

pub some_records : (records : List Record) → 0 < length records → records ≢ []
some_records [] some = absurd (omega arith)
some_records (r ∷ rs) some = λ e. absurd cc

-- a birth stands behind nothing
no_birth : (site : ℕ) (before : List Record) (r : Record) (was : List ℕ) → before ≢ [] → MayFollow site before r → weights_by was r ≡ was
no_birth site before (log.Birth format number weights rows) was some may = absurd (some may.first)
no_birth site before (log.Inc inc) was some may = refl
no_birth site before (log.Vote t ops) was some may = refl
no_birth site before (log.Join t n) was some may = refl
no_birth site before (log.Attempt t n dir) was some may = refl
no_birth site before (log.Decision t dir) was some may = refl

some_push : (before : List Record) (r : Record) → before ++ r ∷ [] ≢ []
some_push [] r = λ e. absurd cc
some_push (b ∷ before) r = λ e. absurd cc

weights_kept : (site : ℕ) (before rest : List Record) (was : List ℕ) → before ≢ [] → OrderlyAfter site before rest → fold weights_by was rest ≡ was
weights_kept site before [] was some all = refl
weights_kept site before (r ∷ rest) was some all =
    ap (λ w. fold weights_by w rest) (no_birth site before r was some all.0) ∙ weights_kept site (before ++ r ∷ []) rest was (some_push before r) all.1

-- the weights of an orderly log are those of its first record
weights_first : (site : ℕ) (r : Record) (rest : List Record) → IsOrderly site (r ∷ rest) → weights_in (r ∷ rest) ≡ weights_by [] r
weights_first site r rest all = weights_kept site (r ∷ []) rest (weights_by [] r) (some_push [] r) all.1

-- so in a log that is born they are those of the scenario
weights_born : (sc : Scenario) (site : ℕ) (records : List Record) → records ≢ [] → IsOrderly site records → IsBorn sc site records →
    weights_in records ≡ sc.weights
weights_born sc site [] some all born = absurd (some refl)
weights_born sc site (r ∷ rest) some all born = weights_first site r rest all ∙ ap (weights_by []) born

-- a site that rose with tables of a log
pub is_rebuilt : (site : ℕ) (records : List Record) (weights : List ℕ) (tables : Tables) (s : SiteView) →
    s ≡ record { weights = weights; site = site; inputs = 0; tables = tables } → weights ≡ weights_in records →
    TablesStand site (life_of (risen_with records)) tables → IsRebuilt site records s
is_rebuilt site records weights tables s is weighs stand = record {
  weights_are = ap (λ (v : SiteView). v.weights) is ∙ weighs;
  site_is = ap (λ (v : SiteView). v.site) is;
  inputs_are = ap (λ (v : SiteView). v.inputs) is;
  stands = subst (Stands (risen_with records)) (sym is) stand;
}

pub stands_for_each : (site : ℕ) (records : List Record) (s : SiteView) → records ≢ [] → IsOrderly site records → IsRebuilt site records s →
    StandsRisen records s → StandsForEach records s
stands_for_each site records s some all built risen = λ sc h legal last.
    let P : List Record → Type 0 = IsBorn sc s.site in
    let O : ℕ → Type 0 = λ x. IsOrderly x records in
    risen sc h (built.weights_are ∙ weights_born sc s.site records some (subst O (sym built.site_is) all) (subst P (sym last.log_is) (log_born sc h s.site legal))) last

-- and for those with a log of the same brief
pub stands_for_brief : LogsAreOrderly → (site : ℕ) (records : List Record) (s : SiteView) → records ≢ [] → IsOrderly site records → IsRebuilt site records s → StandsForBrief records s
stands_for_brief logs site records s some orderly built = λ sc h log given legal risen same.
    let mine : IsOrderly s.site records = subst (λ (n : ℕ). IsOrderly n records) (sym built.site_is) orderly in
    let its : log ≡ log_of sc h s.site = risen.log_is in
    let theirs : IsOrderly s.site log = subst (λ (l : List Record). IsOrderly s.site l) (sym its) (logs sc h s.site given legal) in
    let born : IsBorn sc s.site log = subst (λ (l : List Record). IsBorn sc s.site l) (sym its) (log_born sc h s.site legal) in
    let alike : ReadAlike records log = same_alike s.site records log mine theirs (sym same) in
    let there : log ≢ [] = λ none. some (are_some s.site records mine (sym same ∙ ap brief none)) in
    rises sc h s.site s records log (built.weights_are ∙ alike.weights ∙ weights_born sc s.site log there theirs born) refl built.stands risen mine theirs (sym same)
