use Rattle.std.proofs.Common.{◌≡◌, List, subst, ap, sym, ◌∙◌}
use Rattle.std.specs.Prelude.{Some, None, option_copied}
use Rattle.e3_wire.specs.declared.marks.Mark.{Mark}
use Rattle.e3_wire.specs.Marks.{entries_of, scenario_of}
use Rattle.e3_wire.specs.Stores.{marks_from}
use Rattle.e3_wire.proofs.Driving.{first_shown}
use Rattle.e3_world.specs.Legal.{first_pending}
use Rattle.e3_wire.proofs.shared.Shared.first.Goals as goal

pub returns-in-Some : goal.returns-in-Some
returns-in-Some c =
    let s = c.self.inside in
    subst (λ (l : List Mark). Some c.copy.result ≡ first_pending (scenario_of l) (entries_of l)) c.self.view_is
    (ap Some c.copy.ensures ∙ sym (ap option_copied c.in-Some.is) ∙ c.first_pending.ensures
    ∙ first_shown s.scenario (entries_of (marks_from s.scenario s.most s.store.history.entries s.store.stored.items)) s.net.traffic c.self.invariant.stands.net)

pub returns-in-None : goal.returns-in-None
returns-in-None c =
    let s = c.self.inside in
    subst (λ (l : List Mark). None ≡ first_pending (scenario_of l) (entries_of l)) c.self.view_is
    (sym (ap option_copied c.in-None.is) ∙ c.first_pending.ensures
    ∙ first_shown s.scenario (entries_of (marks_from s.scenario s.most s.store.history.entries s.store.stored.items)) s.net.traffic c.self.invariant.stands.net)
