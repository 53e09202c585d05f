use Rattle.std.proofs.Common.{◌≡◌, ◌∙◌, sym, ap, subst, fold, None, List}
use Rattle.e3_types.specs.declared.records.Record.{Record}
use Rattle.e3_judge.specs.Clashes.{clash_by, decisions}
use Rattle.e3_judge.proofs.Finding.{none_agrees}
use Rattle.e3_judge.proofs.clashing.clash.Goals as goal

pub returns-clause-agrees : goal.returns-clause-agrees
returns-clause-agrees c = λ is.
    let all : c.as_slice-2.result.now ≡ decisions c.args.history.now.entries = c.as_slice-2.ensures ∙ c.in_ok-all.ensures ∙ ap decisions c.as_slice.ensures in
    let none : c.clash_in.result ≡ None = cc in
    none_agrees c.args.scenario.now c.args.history.now.entries (subst (λ (xs : List Record). fold (clash_by xs) None xs ≡ None) all (sym c.clash_in.ensures ∙ none))
