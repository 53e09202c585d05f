use Rattle.std.proofs.Common.{◌∙◌, ap, refl, sym, List, ℕ}
use Rattle.e3_judge.proofs.Anys.{decides_none}
use Rattle.e3_judge.proofs.audit.FallsAndRises.{parted}
use Rattle.e3_judge.proofs.audit.auditor.Auditor.part.Goals as goal

pub returns-in_ok-parts-in-Parts : goal.returns-in_ok-parts-in-Parts
returns-in_ok-parts-in-Parts c = λ yes.
    parted c.args.prefix.now.scenario.now c.args.prefix.now.entries.now c.args.entry.now _ c.args.self.now _ c.requires.stands c.requires.driver c.in-Parts.is
    ((decides_none _).0 (sym c.in_ok-may.ensures ∙ c.if-not-may.false)) refl
    (c.parts.ensures.traffic ∙ ap (λ (p : List (List ℕ)). record c.args.self.now.net.traffic { parts = p }) c.in_ok-parts-in-Parts.ensures) refl
