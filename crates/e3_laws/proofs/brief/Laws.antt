-- The laws of briefs, put together.
use Rattle.std.proofs.Common.{◌∷◌, [], ◌++◌, ℕ, is_none, List, sym, ap, subst, ◌∙◌, append_assoc, append-nil}
use Rattle.e3_types.specs.declared.records.Record.{Record}
use Rattle.e3_world.specs.Orderly.{OrderlyAfter}
use Rattle.e3_laws.specs.brief.Alike.{ReadAlike}
use Rattle.e3_world.specs.Brief.{brief}
use Rattle.e3_laws.specs.brief.Laws.{BriefsAreBrief, BriefsGoOn, BriefsAreOrderly, BriefsReadAlike, SameBriefsReadAlike, AlikeHaveSameBrief, AlikeStandAlike, BriefsForget, BriefsAreNotEmpty}
use Rattle.e3_laws.proofs.brief.Briefs.{brief_reads, forgotten, not_empty}
use Rattle.e3_laws.proofs.brief.Following.{brief_orderly}
use Rattle.e3_laws.proofs.brief.Going.{brief_alike, read_on, orderly_on}
use Rattle.e3_laws.proofs.brief.Locks.{stand_alike}
use Rattle.e3_laws.proofs.brief.Standing.{orderly_append}

-- an orderly log, and what stands behind it
fronts : (site : ℕ) (before xs ys : List Record) → OrderlyAfter site before (xs ++ ys) → OrderlyAfter site before xs × OrderlyAfter site (before ++ xs) ys
fronts site before [] ys orderly = (tt, subst (λ (x : List Record). OrderlyAfter site x ys) (sym (append-nil before)) orderly)
fronts site before (x ∷ xs) ys orderly =
    let more = fronts site (before ++ x ∷ []) xs ys orderly.1 in
    ((orderly.0, more.0), subst (λ (l : List Record). OrderlyAfter site l ys) (append_assoc before (x ∷ []) xs) more.1)

pub read_alike : BriefsReadAlike
read_alike site l more orderly = let f = fronts site [] l more orderly in read_on site l (brief l) more (brief_reads site l f.0) f.1

pub go_on : BriefsGoOn
go_on site l more orderly = sym (brief_alike (l ++ more) (brief l ++ more) (read_alike site l more orderly))

pub are_brief : BriefsAreBrief
are_brief site l orderly = sym (brief_alike l (brief l) (brief_reads site l orderly))

pub are_orderly : BriefsAreOrderly
are_orderly site l more orderly =
    let f = fronts site [] l more orderly in
    orderly_append site [] (brief l) more (brief_orderly site l f.0) (orderly_on site l (brief l) more (brief_reads site l f.0) f.1)

-- logs of which one reads as the other
back : (a b : List Record) → ReadAlike a b → ReadAlike b a
back a b alike = record {
  empty = alike.some;
  some = alike.empty;
  born = λ rows. sym (alike.born rows);
  weights = sym alike.weights;
  inc = sym alike.inc;
  table = sym alike.table;
  txns = sym alike.txns;
  elected = λ t. sym (alike.elected t);
  attempt = λ t. sym (alike.attempt t);
  attempted = λ t. sym (alike.attempted t);
  decided = λ t. sym (alike.decided t);
  voted = λ t. sym (alike.voted t);
  ops = λ t is. sym (alike.ops t (ap is_none (alike.decided t) ∙ is));
}

through : (a b c : List Record) → ReadAlike a b → ReadAlike b c → ReadAlike a c
through a b c first more = record {
  empty = λ none. more.empty (first.empty none);
  some = λ none. first.some (more.some none);
  born = λ rows. first.born rows ∙ more.born rows;
  weights = first.weights ∙ more.weights;
  inc = first.inc ∙ more.inc;
  table = first.table ∙ more.table;
  txns = first.txns ∙ more.txns;
  elected = λ t. first.elected t ∙ more.elected t;
  attempt = λ t. first.attempt t ∙ more.attempt t;
  attempted = λ t. first.attempted t ∙ more.attempted t;
  decided = λ t. first.decided t ∙ more.decided t;
  voted = λ t. first.voted t ∙ more.voted t;
  ops = λ t is. first.ops t is ∙ more.ops t (sym (ap is_none (first.decided t)) ∙ is);
}

pub same_alike : SameBriefsReadAlike
same_alike site a b oa ob same =
    through a (brief a) b (brief_reads site a oa)
    (subst (λ (x : List Record). ReadAlike x b) (sym same) (back b (brief b) (brief_reads site b ob)))

pub same_brief : AlikeHaveSameBrief
same_brief a b alike = brief_alike a b alike

pub alike_stand : AlikeStandAlike
alike_stand a b alike = stand_alike a b alike

pub forget : BriefsForget
forget site l t orderly decided = forgotten site l t orderly decided

pub are_some : BriefsAreNotEmpty
are_some site l orderly none = not_empty site l orderly none
