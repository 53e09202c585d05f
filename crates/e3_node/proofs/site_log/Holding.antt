-- Frames that hold a log, with more records, and turned to its brief.
use Rattle.std.proofs.Common.{◌≡◌, ◌++◌, ◌∷◌, [], ℕ, List, refl, sym, ap, subst, ◌∙◌, append-nil, append_assoc}
use Rattle.e3_codec.specs.Fields.{AllCanBeReadBack}
use Rattle.e3_world.specs.Brief.{brief}
use Rattle.e3_world.specs.Orderly.{IsOrderly, OrderlyAfter}
use Rattle.e3_laws.proofs.brief.Following.{brief_orderly}
use Rattle.e3_laws.proofs.brief.Going.{orderly_on, read_on}
use Rattle.e3_laws.proofs.brief.Laws.{are_brief, same_alike, same_brief}
use Rattle.e3_laws.proofs.brief.Standing.{orderly_append}
use Rattle.e3_node.specs.site_log.Bodies.{Hold, joined}
use Rattle.e3_node.proofs.site_log.Frames.{joined_push}
use Rattle.e3_types.specs.declared.records.Record.{Record}

-- two lists of records that can be read back
pub back_both : (site : ℕ) (xs ys : List Record) → AllCanBeReadBack site xs → AllCanBeReadBack site ys → AllCanBeReadBack site (xs ++ ys)
back_both site [] ys front back = back
back_both site (x ∷ xs) ys front back = (front.0, back_both site xs ys front.1 back)

-- an orderly log, and what stands behind it
pub fronts : (site : ℕ) (before xs ys : List Record) → OrderlyAfter site before (xs ++ ys) → OrderlyAfter site before xs × OrderlyAfter site (before ++ xs) ys
fronts site before [] ys orderly = (tt, subst (λ (x : List Record). OrderlyAfter site x ys) (sym (append-nil before)) orderly)
fronts site before (x ∷ xs) ys orderly =
    let more = fronts site (before ++ x ∷ []) xs ys orderly.1 in
    ((orderly.0, more.0), subst (λ (l : List Record). OrderlyAfter site l ys) (append_assoc before (x ∷ []) xs) more.1)

-- Behind one of two orderly logs with the same brief the same records may stand as behind the other, and the briefs of both are
-- the same again.
pub same_go_on : (site : ℕ) (a b more : List Record) → IsOrderly site (a ++ more) → IsOrderly site b → brief a ≡ brief b →
    IsOrderly site (b ++ more) × (brief (b ++ more) ≡ brief (a ++ more))
same_go_on site a b more oa ob same =
    let f = fronts site [] a more oa in
    let alike = same_alike site a b f.0 ob same in (
      orderly_append site [] b more ob (orderly_on site a b more alike f.1),
      sym (same_brief (a ++ more) (b ++ more) (read_on site a b more alike f.1)),
    )

-- no records are an empty log
pub hold_nothing : (site : ℕ) → Hold site [] []
hold_nothing site = record { orderly = tt; same = refl; back = tt }

-- frames that hold a log hold each log with its brief
pub hold_same : (site : ℕ) (l m : List Record) (lists : List (List Record)) → Hold site l lists → brief l ≡ brief m → Hold site m lists
hold_same site l m lists hold same = record { orderly = hold.orderly; same = hold.same ∙ same; back = hold.back }

-- one frame more has the records that are behind the log
pub hold_on : (site : ℕ) (l more : List Record) (lists : List (List Record)) → Hold site l lists → IsOrderly site (l ++ more) → AllCanBeReadBack site more
    → Hold site (l ++ more) (lists ++ more ∷ [])
hold_on site l more lists hold orderly back =
    let on = same_go_on site l (joined lists) more orderly hold.orderly (sym hold.same) in
    let all = joined_push lists more in
    record {
      orderly = subst (λ (rs : List Record). IsOrderly site rs) (sym all) on.0;
      same = ap brief all ∙ on.1;
      back = subst (λ (rs : List Record). AllCanBeReadBack site rs) (sym all) (back_both site (joined lists) more hold.back back);
    }

-- one frame has the brief alone
pub hold_brief : (site : ℕ) (l : List Record) → IsOrderly site l → AllCanBeReadBack site (brief l) → Hold site l (brief l ∷ [])
hold_brief site l orderly back =
    let all : joined (brief l ∷ []) ≡ brief l = append-nil (brief l) in
    record {
      orderly = subst (λ (rs : List Record). IsOrderly site rs) (sym all) (brief_orderly site l orderly);
      same = ap brief all ∙ are_brief site l orderly;
      back = subst (λ (rs : List Record). AllCanBeReadBack site rs) (sym all) back;
    }
