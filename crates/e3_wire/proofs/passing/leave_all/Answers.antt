use Rattle.std.proofs.Common.{◌≡◌, ◌+◌, ◌<◌, ◌++◌, ◌∷◌, [], ℕ, List, length, get_or, take, ap, sym, refl, ◌∙◌, arith}
use Rattle.std.proofs.lemmas.List.{take_more}
use Rattle.e3_types.specs.declared.entries.Input.{Input}
use Rattle.e3_net.specs.Stands.{behind_input, behind_inputs}
use Rattle.e3_net.specs.Traffic.{Traffic}
use Rattle.e3_wire.proofs.passing.leave_all.Goals as goal

-- the network behind one input more
behind_push : (net : Traffic) (inputs : List Input) (i : Input) → behind_inputs net (inputs ++ i ∷ []) ≡ behind_input (behind_inputs net inputs) i
behind_push net [] i = refl
behind_push net (j ∷ inputs) i = behind_push (behind_input net j) inputs i

one_more : (first net new : Traffic) (inputs : List Input) (at : ℕ) (i : Input) → at < length inputs → i ≡ get_or inputs at i →
    net ≡ behind_inputs first (take at inputs) → new ≡ behind_inputs net (i ∷ []) → new ≡ behind_inputs first (take (at + 1) inputs)
one_more first net new inputs at i low is was left =
    left ∙ ap (λ (t : Traffic). behind_input t i) was ∙ sym (behind_push first (take at inputs) i)
    ∙ ap (behind_inputs first) (sym (take_more inputs at i low ∙ ap (λ (x : Input). take at inputs ++ x ∷ []) (sym is)))

pub loop-input-preserved : goal.loop-input-preserved
loop-input-preserved c = record {
  traffic = one_more _ _ _ c.args.inputs.now c.loop-input.input-index c.input-item.result c.loop-input-test.true c.input-item.is c.loop-input.invariant.traffic c.leave.ensures.traffic;
  sent = c.leave.ensures.sent ∙ c.loop-input.invariant.sent;
  room = omega (arith, c.leave.ensures.room, c.loop-input.invariant.room);
}
