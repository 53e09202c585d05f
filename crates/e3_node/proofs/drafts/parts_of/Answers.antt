use Rattle.std.proofs.Common.{◌++◌, ◌∷◌, [], ◌∙◌, ap, subst, List}
use Rattle.std.specs.List.{AllByRecursion as Each}
use Rattle.e3_codec.specs.Fields.{AllCanBeReadBack}
use Rattle.e3_node.specs.Telling.{IsOfSite}
use Rattle.e3_types.specs.Spelling.{spelling}
use Rattle.e3_types.specs.declared.entries.Input.{Input}
use Rattle.e3_types.specs.declared.records.Record.{Record}
use Rattle.e3_node.proofs.drafts.parts_of.Goals as goal

pub returns : goal.returns
returns c = record {
  body_is = c.in_ok-body.ensures.bytes ∙ ap spelling c.records.ensures;
  back = λ site. subst (λ (rs : List Record). Each (IsOfSite site) rs → AllCanBeReadBack site rs) c.records.ensures (c.in_ok-body.ensures.back site);
  inputs_are =
      c.in_ok-push.ensures.ok ∙ ap (λ (l : List Input). l ++ c.copy-over.result ∷ []) c.new-inputs.ensures ∙ ap (λ (i : Input). i ∷ []) c.copy-over.ensures;
}
