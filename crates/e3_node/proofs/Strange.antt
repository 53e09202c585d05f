-- A disk that stands for a history holds a log of its site, and nothing else.
use Rattle.std.proofs.Common.{◌≡◌, ◌++◌, ◌∷◌, [], inl, inr, ℕ, suc, List, Option, take, drop, sym, subst, ap, ◌∙◌}
use Rattle.std.specs.List.{flat_map}
use Rattle.std.proofs.lemmas.List.{take-append-drop}
use Rattle.e3_codec.specs.Fields.{AllCanBeReadBack}
use Rattle.e3_codec.proofs.Records.{never_bad, one_list}
use Rattle.e3_world.specs.Brief.{brief}
use Rattle.e3_world.specs.Orderly.{IsOrderly, OrderlyAfter}
use Rattle.e3_laws.specs.brief.Sets.{LoggedSitesAreSets}
use Rattle.e3_laws.specs.serial.Orderly.{LogsAreOrderly}
use Rattle.e3_laws.specs.steps.Trails.{TrailsAreSound}
use Rattle.e3_log.specs.Reading.{ReadsAs as BytesReadAs}
use Rattle.e3_log.proofs.Unique.{one_text}
use Rattle.e3_node.specs.Bodies.{ReadsTold, entries_at, log_with}
use Rattle.e3_node.specs.Rising.{IsDisordered, IsForeign, MayRise, SomeIsBad, records_by}
use Rattle.e3_node.specs.declared.readying.Wish.{Wish}
use Rattle.e3_site.specs.Orderly.{IsFirstDisorder}
use Rattle.e3_node.specs.site_log.Bodies.{bodies_in, body_of, joined}
use Rattle.e3_node.proofs.site_log.Frames.{spells}
use Rattle.e3_types.specs.declared.entries.Entry.{Entry}
use Rattle.e3_types.specs.declared.records.Record.{Record}
use Rattle.e3_types.specs.declared.scenarios.Scenario.{Scenario}
use Rattle.e3_world.specs.Logs.{logged_inc}
use Rattle.e3_world.specs.Moves.{Tail, moves_of, open_tail, rise_records}
use Rattle.e3_node.proofs.Rises.{go_on, inc_is, records_are}

-- the front of an orderly list is orderly
orderly_front : (site : ℕ) (before xs ys : List Record) → OrderlyAfter site before (xs ++ ys) → OrderlyAfter site before xs
orderly_front site before [] ys orderly = tt
orderly_front site before (x ∷ xs) ys orderly = (orderly.0, orderly_front site (before ++ x ∷ []) xs ys orderly.1)

-- so a list with a first place that is out of order is not orderly
pub disordered : (site : ℕ) (records : List Record) (at : ℕ) → IsFirstDisorder site records at → ¬ IsOrderly site records
disordered site records at first = λ orderly.
    first.breaks (orderly_front site [] (take (suc at) records) (drop (suc at) records)
    (subst (λ (l : List Record). OrderlyAfter site [] l) (sym (take-append-drop (suc at) records)) orderly))

front_back : (site : ℕ) (xs ys : List Record) → AllCanBeReadBack site (xs ++ ys) → AllCanBeReadBack site xs
front_back site [] ys back = tt
front_back site (x ∷ xs) ys back = (back.0, front_back site xs ys back.1)

rest_back : (site : ℕ) (xs ys : List Record) → AllCanBeReadBack site (xs ++ ys) → AllCanBeReadBack site ys
rest_back site [] ys back = back
rest_back site (x ∷ xs) ys back = rest_back site xs ys back.1

-- the frames of records that can be read back are lists of records
none_is_bad : (site : ℕ) (lists : List (List Record)) → AllCanBeReadBack site (flat_map (λ rs. rs) lists) → SomeIsBad site (bodies_in lists) → ⊥
none_is_bad site [] back bad = bad
none_is_bad site (rs ∷ lists) back bad =
    by rs (front_back site rs (flat_map (λ l. l) lists) back) (none_is_bad site lists (rest_back site rs (flat_map (λ l. l) lists) back)) bad
  where
    by : (records : List Record) → AllCanBeReadBack site records → (SomeIsBad site (bodies_in lists) → ⊥) →
        SomeIsBad site (body_of records ++ bodies_in lists) → ⊥
    by [] mine rest is = rest is
    by (r ∷ rs) mine rest (inl is) = never_bad site (r ∷ rs) is.0 mine is.1
    by (r ∷ rs) mine rest (inr is) = rest is

module _ (sc : Scenario) (h : List Entry) (wish : Wish) (capacity generation logged : ℕ) (bodies : List (List ℕ)) (bytes : List ℕ) (may : MayRise sc h wish)
    (it : ReadsTold wish.site capacity (entries_at h wish.site) logged (moves_of sc h wish.site) (open_tail sc h wish.site) bytes)
    (reads : BytesReadAs capacity generation bodies bytes) where
  are : bodies ≡ bodies_in it.reads.lists
  are = (one_text capacity generation it.reads.generation bodies (bodies_in it.reads.lists) bytes reads it.reads.reads).0

  is_good : SomeIsBad wish.site bodies → ⊥
  is_good bad = none_is_bad wish.site it.reads.lists it.reads.hold.back (subst (λ (bs : List (List ℕ)). SomeIsBad wish.site bs) are bad)

  is_ordered : LogsAreOrderly → LoggedSitesAreSets → TrailsAreSound → IsDisordered wish bodies → ⊥
  is_ordered logs sets sounds not_so = not_so.breaks (subst (λ (l : List Record). IsOrderly wish.site l) same (go_on logs sets sounds sc h wish may it.kept it.some not_so.read orderly brief_is).0)
    where
      read_is : not_so.read ≡ joined it.reads.lists
      read_is = one_list wish.site not_so.read (joined it.reads.lists) not_so.back it.reads.hold.back
          (sym not_so.spelled ∙ ap (flat_map (λ body. body)) are ∙ spells it.reads.lists)

      orderly : IsOrderly wish.site not_so.read
      orderly = subst (λ (l : List Record). IsOrderly wish.site l) (sym read_is) it.reads.hold.orderly

      brief_is : brief not_so.read ≡ brief (log_with sc h wish.site it.kept)
      brief_is = ap brief read_is ∙ it.reads.hold.same

      before : List Record
      before = log_with sc h wish.site it.kept

      same : not_so.read ++ rise_records sc wish.site (suc (logged_inc before)) before ≡ not_so.read ++ records_by wish not_so.inc not_so.read
      same = ap (λ (rs : List Record). not_so.read ++ rs) (sym (ap (λ (n : ℕ). records_by wish n not_so.read) (not_so.inc_is ∙ inc_is logs sets sounds sc h wish may it.kept it.some not_so.read orderly brief_is)
          ∙ records_are logs sets sounds sc h wish may it.kept it.some not_so.read orderly brief_is))

  -- so what is read of the disk is a log of the site
  pub never_foreign : LogsAreOrderly → LoggedSitesAreSets → TrailsAreSound → IsForeign wish bodies → ⊥
  never_foreign logs sets sounds (inl bad) = is_good bad
  never_foreign logs sets sounds (inr not_so) = is_ordered logs sets sounds not_so

-- a disk that holds a log reads as some frames
pub reads_some : (site capacity most logged : ℕ) (moves : List _) (tail : Option Tail) (bytes : List ℕ) → ReadsTold site capacity most logged moves tail bytes →
    ((g : ℕ) (bs : List (List ℕ)) → BytesReadAs capacity g bs bytes → ⊥) → ⊥
reads_some site capacity most logged moves tail bytes it none = none it.reads.generation (bodies_in it.reads.lists) it.reads.reads
