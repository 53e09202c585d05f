use Rattle.std.proofs.Common.{◌≡◌, ◌≢◌, ◌==◌, [], true, false, List, length, sym, subst, ap, ◌∙◌, arith}
use Rattle.std.specs.List.{AllByRecursion as Each}
use Rattle.e3_codec.specs.Fields.{AllCanBeReadBack}
use Rattle.e3_world.specs.Brief.{brief}
use Rattle.e3_node.specs.Telling.{IsOfSite}
use Rattle.e3_node.proofs.site_log.Frames.{some_spelled}
use Rattle.e3_types.specs.Spelling.{spelling}
use Rattle.e3_types.specs.declared.records.Record.{Record}
use Rattle.e3_node.proofs.briefing.short_of.Goals as goal

pub returns-clause-short : goal.returns-clause-short
returns-clause-short c = λ site l is some own. record {
  body_is = c.in_ok-body.ensures.bytes ∙ ap spelling is;
  count_is = let same : length c.args.records.now ≡ length (brief l) = ap length is in omega (arith, same);
  back = subst (λ (rs : List Record). AllCanBeReadBack site rs) is (c.in_ok-body.ensures.back site (subst (λ (rs : List Record). Each (IsOfSite site) rs) (sym is) own));
  some = some;
}

pub returns-clause-body : goal.returns-clause-body
returns-clause-body c =
    let some : c.args.records.now ≢ [] = λ none. (let both : false ≡ true = c.if-is_empty.ensures ∙ ap (λ (l : List Record). length l == 0) none in absurd cc) in
    some_spelled c.args.records.now c.in_ok-body.body c.in_ok-body.ensures.bytes some
