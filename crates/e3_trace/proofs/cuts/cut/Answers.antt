use Rattle.std.proofs.Common.{◌≡◌, ◌+◌, ◌-◌, ℕ, List, Some, take, drop, length, ap, sym, ◌∙◌, arith}
use Rattle.std.proofs.lemmas.List.{take_all, length-drop}
use Rattle.e3_trace.proofs.Places.{Parts, cut_some}
use Rattle.e3_trace.proofs.cuts.cut.Goals as goal

pub returns-in-Some-clause-gives : goal.returns-in-Some-clause-gives
returns-in-Some-clause-gives c =
    let text = c.args.text.now in
    let place = c.in-Some.place in
    let rest : take (length text - (place + 1)) (drop (place + 1) text) ≡ drop (place + 1) text =
    take_all (length text - (place + 1)) (drop (place + 1) text) (omega (arith, length-drop (place + 1) text)) in
    cut_some c.args.mark text place (sym c.in-Some.ensures.value)
    ∙ ap (λ (w : List ℕ). let p : Parts = (take place text, w) in Some p) (sym rest)
