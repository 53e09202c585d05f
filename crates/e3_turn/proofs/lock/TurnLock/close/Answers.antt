use Rattle.std.proofs.Common.{◌≡◌, sym, ◌∙◌, ap}
use Rattle.std.specs.Prelude.{Some, None}
use mathlib.Core.Option.{some-injective}
use Rattle.e3_turn.proofs.Owners.{closes}
use Rattle.e3_turn.proofs.lock.TurnLock.close.Goals as goal

pub unreachable-requires : goal.unreachable-requires
unreachable-requires g c =
    let rests = c.requires.idle.rests in
    let k = closes g.V.Chronicle.marks g.V.Chronicle.belongs _ _ c.args.pass.me.0 _ _ rests.ticket rests.turn rests.owned c.requires.all c.close_with-closed.ensures.values.2 in
    let e : Some k.x ≡ None = some-injective _ _ (sym k.is ∙ c.take.ensures.value) ∙ c.in_default.is in
    absurd (cc)

pub returns : goal.returns
returns g c =
    let rests = c.requires.idle.rests in
    let k = closes g.V.Chronicle.marks g.V.Chronicle.belongs _ _ c.args.pass.me.0 _ _ rests.ticket rests.turn rests.owned c.requires.all c.close_with-closed.ensures.values.2 in
    let e : Some k.x ≡ Some c.in-Some.value = some-injective _ _ (sym k.is ∙ c.take.ensures.value) ∙ c.in-Some.is in
    let same : k.x ≡ c.in-Some.value = cc in
    ap g.V.Chronicle.marks (sym same) ∙ k.seen
