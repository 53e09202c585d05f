-- A tail has records, and so a log with it has another brief.
use Rattle.std.proofs.Common.{◌≡◌, ◌≢◌, ◌↔◌, ◌==◌, ◌++◌, ◌∷◌, [], ℕ, zero, suc, Bool, true, false, List, Option, Some, None, map, refl, sym, subst, ap, ◌∙◌, append-nil, append_assoc}
use Rattle.e3_world.specs.Brief.{brief}
use Rattle.e3_world.specs.Orderly.{IsOrderly}
use Rattle.e3_laws.specs.serial.Orderly.{TailsAreOrderly}
use Rattle.e3_laws.specs.steps.Trails.{tail_records}
use Rattle.e3_node.specs.Bodies.{IsKeptExactly, IsRead, entries_at, log_with}
use Rattle.e3_node.specs.site_log.Bodies.{joined}
use Rattle.e3_node.specs.Told.{ReadingsAreTold, TailsAreTold}
use Rattle.e3_types.specs.declared.entries.Act.{Act}
use Rattle.e3_types.specs.declared.entries.Act.TheVariants.{Step, Fall, Rise, RiseFall, Miss, Cut, Drop, Parts, Line}
use Rattle.e3_types.specs.declared.entries.Entry.{Entry}
use Rattle.e3_types.specs.declared.entries.Input.{Input}
use Rattle.e3_types.specs.declared.entries.Why.{Why}
use Rattle.e3_types.specs.declared.entries.Why.TheVariants.{Fault, Full}
use Rattle.e3_types.specs.declared.records.Record.{Record}
use Rattle.e3_types.specs.declared.scenarios.Scenario.{Scenario}
use Rattle.e3_world.specs.Given.{IsGiven}
use Rattle.e3_world.specs.Legal.{Guard, IsLegal, IsRise, LegalAfter}
use Rattle.e3_world.specs.Moves.{Move, Past, Silent, Tail, kept_moves, left_by, log_by, log_of, moves_of, open_tail, own_entries, past_of, unnumbered_input, rise_records, tail_of_act}
use Rattle.e3_world.proofs.Pushes.{log_push, past_push}
use Rattle.e3_world.proofs.Readings.{own_other, own_same}
use Rattle.e3_node.proofs.Tails.{more_is_told}

-- a tail, where there is one, has records
abbrev HasSome : Option Tail → Type 0
HasSome None = Unit {0}
HasSome (Some tail) = tail.records ≢ []

left_some : (why : Why) (inputs : List Input) (records : List Record) → records ≢ [] → HasSome (left_by why inputs records)
left_some Fault inputs records some = some
left_some (Full need room) inputs records some = tt

rise_some : (sc : Scenario) (site inc : ℕ) (l : List Record) → rise_records sc site inc l ≢ []
rise_some sc site inc [] = λ none. cc
rise_some sc site inc (r ∷ rs) = λ none. cc

-- a fall and a failed rise have some
act_some : (sc : Scenario) (h : List Entry) (site owner : ℕ) (w : Past) (act : Act) → Guard sc h (record { owner = owner; act = act }) → HasSome w.tail →
    HasSome (tail_of_act sc site w act)
act_some sc h site zero w (Fall inputs records why) guard before = absurd guard
act_some sc h site (suc s) w (Fall inputs records why) guard before = left_some why (map unnumbered_input inputs) records guard.some
act_some sc h site owner w (Rise kept inc) guard before = tt
act_some sc h site owner w (RiseFall kept inc why) guard before =
    left_some why [] (rise_records sc site inc (log_by (w.moves ++ kept_moves site kept w.tail))) (rise_some sc site inc (log_by (w.moves ++ kept_moves site kept w.tail)))
act_some sc h site owner w (Step i records outs events) guard before = before
act_some sc h site owner w Miss guard before = before
act_some sc h site owner w Cut guard before = before
act_some sc h site owner w (Drop number) guard before = before
act_some sc h site owner w (Parts parts) guard before = before
act_some sc h site owner w (Line number) guard before = before

entry_some : (sc : Scenario) (h : List Entry) (site : ℕ) (e : Entry) → Guard sc h e → HasSome (open_tail sc h site) → HasSome (open_tail sc (h ++ e ∷ []) site)
entry_some sc h site e guard before = by (e.owner == site) refl
  where
    by : (b : Bool) → (e.owner == site) ≡ b → HasSome (open_tail sc (h ++ e ∷ []) site)
    by true is = subst (λ (p : Past). HasSome p.tail) (sym (ap (past_of sc site) (own_same site h e is) ∙ past_push sc site (own_entries site h) e))
        (act_some sc h site e.owner (past_of sc site (own_entries site h)) e.act guard before)
    by false is = subst (λ (mine : List Entry). HasSome (past_of sc site mine).tail) (sym (own_other site h e is)) before

some_behind : (sc : Scenario) (before rest : List Entry) (site : ℕ) → LegalAfter sc before rest → HasSome (open_tail sc before site) → HasSome (open_tail sc (before ++ rest) site)
some_behind sc before [] site legal some = subst (λ (h : List Entry). HasSome (open_tail sc h site)) (sym (append-nil before)) some
some_behind sc before (e ∷ rest) site legal some =
    subst (λ (h : List Entry). HasSome (open_tail sc h site)) (append_assoc before (e ∷ []) rest)
    (some_behind sc (before ++ e ∷ []) rest site legal.1 (entry_some sc before site e legal.0 some))

pub tails_told : TailsAreOrderly → TailsAreTold
tails_told tails sc h site given legal has = by (open_tail sc h site) (some_behind sc [] h site legal tt) (tails sc h site given legal) has
  where
    by : (tail : Option Tail) → HasSome tail → IsOrderly site (log_of sc h site ++ tail_records tail) → tail ≢ None →
        brief (log_by (moves_of sc h site ++ kept_moves site true tail)) ≢ brief (log_of sc h site)
    by None some orderly there = absurd (there refl)
    by (Some tail) some orderly there =
        subst (λ (l : List Record). brief l ≢ brief (log_of sc h site)) (sym (log_push (moves_of sc h site) (record { site = site; did = Silent tail.inputs tail.records })))
        (more_is_told site (log_of sc h site) tail.records orderly some)

pub readings_told : TailsAreOrderly → ReadingsAreTold
readings_told tails sc h site capacity most true bytes given legal has reads = (λ is. reads.hold.same, λ same. refl)
readings_told tails sc h site capacity most false bytes given legal has reads =
    let quiet : brief (log_with sc h site false) ≡ brief (log_of sc h site) = ap (λ (ms : List Move). brief (log_by ms)) (append-nil (moves_of sc h site)) in (
      λ is. absurd (let both : false ≡ true = is in cc),
      λ same. absurd (tails_told tails sc h site given legal has (sym same ∙ reads.hold.same ∙ quiet)),
    )

-- so a rise keeps it exactly there
pub kept_exactly : TailsAreOrderly → (sc : Scenario) (h : List Entry) (site capacity inc : ℕ) (kept : Bool) (image : List ℕ → Type 0) → IsGiven sc → IsLegal sc h →
    IsRise sc h site kept inc → (read : IsRead sc h site capacity kept image) → IsKeptExactly sc h site kept (joined read.reads.lists)
kept_exactly tails sc h site capacity inc kept image given legal allowed read = (
  λ is. (allowed.has_tail is, (told (allowed.has_tail is)).0 is),
  λ both. (told both.0).1 both.1,
)
  where
    told : open_tail sc h site ≢ None → (kept ≡ true) ↔ (brief (joined read.reads.lists) ≡ brief (log_with sc h site true))
    told has = readings_told tails sc h site capacity (entries_at h site) kept read.bytes given legal has read.reads
