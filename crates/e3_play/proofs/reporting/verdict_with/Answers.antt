use Rattle.std.proofs.Common.{◌≡◌, ◌≢◌, ◌∙◌, List, fold, subst, ap}
use Rattle.std.specs.List.{flat_map}
use Rattle.e3_types.specs.declared.entries.Told.{Told}
use Rattle.e3_types.specs.declared.transactions.Txn.{Txn}
use Rattle.e3_world.specs.Items.{RecoveryRound}
use Rattle.e3_laws.specs.rounds.Rounds.{verdict_in}
use Rattle.e3_play.specs.Reports.{later}
use Rattle.e3_play.proofs.Told.{told_by_another, told_by_elector}
use Rattle.e3_play.proofs.reporting.verdict_with.Goals as goal

pub returns-then-entry-round : goal.returns-then-entry-round
returns-then-entry-round c =
    told_by_another c.args.round.now c.args.entry.now c.args.was
    (subst (λ (r : RecoveryRound). c.args.entry.now.owner ≢ r.elector) c.round.view_is c.if-entry-round.true)

pub returns-in-Step : goal.returns-in-Step
returns-in-Step c =
    let r = c.args.round.now in
    let mine : c.args.entry.now.owner ≡ r.elector = subst (λ (r : RecoveryRound). c.args.entry.now.owner ≡ r.elector) c.round.view_is c.if-entry-round.false in
    c.verdict_after.ensures
    ∙ ap (λ (t : Txn). fold later c.args.was (flat_map (verdict_in t) c.as_slice.result.now)) (ap (λ (q : RecoveryRound). q.txn) c.round.view_is)
    ∙ ap (λ (l : List Told). fold later c.args.was (flat_map (verdict_in r.txn) l)) c.as_slice.ensures
    ∙ told_by_elector r c.args.entry.now c.args.was c.in-Step.input c.in-Step.records c.in-Step.outs c.in-Step.told c.in-Step.is mine
