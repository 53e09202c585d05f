-- The lives of incarnations that are alike: they made the same steps, over logs that say the same.
use Rattle.std.proofs.Common.{◌≡◌, ◌++◌, ◌∷◌, [], List, refl, sym, ◌∙◌, fold, append_assoc, append-nil}
use Rattle.std.specs.List.{flat_map}
use Rattle.e3_types.specs.declared.records.Record.{Record}
use Rattle.e3_world.specs.declared.lives.Life.{Life}
use Rattle.e3_world.specs.declared.lives.SiteStep.{SiteStep}
use Rattle.e3_world.specs.Lives.{life_by, life_of}
use Rattle.e3_world.specs.Logs.{logged_inc}
use Rattle.e3_world.proofs.Pushes.{life_log}
use Rattle.e3_laws.proofs.brief.Alike.Notes.{NotesAlike, notes_more}
use Rattle.e3_laws.proofs.brief.Alike.Twins.{Twin, left, moment, right}

-- the steps of both, from the logs before them on
abbrev pub twins : (x y : List Record) → NotesAlike x y → List SiteStep → List Twin
twins x y same [] = []
twins x y same (s ∷ ss) = record { before = x; other = y; same = same; step = s } ∷ twins (x ++ s.records) (y ++ s.records) (notes_more x y s.records same) ss

lefts : (life : Life) (y : List Record) (same : NotesAlike life.log y) (ss : List SiteStep) → (fold life_by life ss).steps ≡ life.steps ++ left (twins life.log y same ss)
lefts life y same [] = sym (append-nil life.steps)
lefts life y same (s ∷ ss) =
    lefts (life_by life s) (y ++ s.records) (notes_more life.log y s.records same) ss
    ∙ append_assoc life.steps (moment life.log s ∷ []) (left (twins (life.log ++ s.records) (y ++ s.records) (notes_more life.log y s.records same) ss))

rights : (life : Life) (x : List Record) (same : NotesAlike x life.log) (ss : List SiteStep) → (fold life_by life ss).steps ≡ life.steps ++ right (twins x life.log same ss)
rights life x same [] = sym (append-nil life.steps)
rights life x same (s ∷ ss) =
    rights (life_by life s) (x ++ s.records) (notes_more x life.log s.records same) ss
    ∙ append_assoc life.steps (moment life.log s ∷ []) (right (twins (x ++ s.records) (life.log ++ s.records) (notes_more x life.log s.records same) ss))

inc_stays : (life : Life) (ss : List SiteStep) → (fold life_by life ss).inc ≡ life.inc
inc_stays life [] = refl
inc_stays life (s ∷ ss) = inc_stays (life_by life s) ss

-- the life of the one
pub life_left : (x y : List Record) (same : NotesAlike x y) (ss : List SiteStep)
    → life_of (record { rose = x; since = ss }) ≡ record { log = x ++ flat_map (λ (s : SiteStep). s.records) ss; inc = logged_inc x; steps = left (twins x y same ss) }
life_left x y same ss = λ i. record {
  log = life_log (record { rose = x; since = ss }) i;
  inc = inc_stays (record { log = x; inc = logged_inc x; steps = [] }) ss i;
  steps = lefts (record { log = x; inc = logged_inc x; steps = [] }) y same ss i;
}

-- and that of the other, whose incarnation has the same number
pub life_right : (x y : List Record) (same : NotesAlike x y) (ss : List SiteStep) → logged_inc x ≡ logged_inc y
    → life_of (record { rose = y; since = ss }) ≡ record { log = y ++ flat_map (λ (s : SiteStep). s.records) ss; inc = logged_inc x; steps = right (twins x y same ss) }
life_right x y same ss inc = λ i. record {
  log = life_log (record { rose = y; since = ss }) i;
  inc = (inc_stays (record { log = y; inc = logged_inc y; steps = [] }) ss ∙ sym inc) i;
  steps = rights (record { log = y; inc = logged_inc y; steps = [] }) x same ss i;
}
