use Rattle.std.proofs.Common.{◌≡◌, ◌==◌, List, subst, ap, ◌∙◌}
use Rattle.std.specs.Prelude.{Some, None, find}
use Rattle.e3_wire.specs.declared.marks.Mark.{Mark}
use Rattle.e3_wire.specs.Marks.{entries_of, scenario_of}
use Rattle.e3_wire.specs.Stores.{marks_from}
use Rattle.e3_wire.proofs.Driving.{least_shown}
use Rattle.e3_world.specs.Packets.{pending}
use Rattle.e3_wire.proofs.shared.Shared.next_to.Goals as goal

pub returns-in-Some : goal.returns-in-Some
returns-in-Some c =
    let s = c.self.inside in
    subst (λ (l : List Mark). Some c.copy.result ≡ find (λ q. q.to == c.args.site) (pending (scenario_of l) (entries_of l))) c.self.view_is
    (ap Some c.copy.ensures ∙ c.in-Some.ensures
    ∙ least_shown s.scenario (entries_of (marks_from s.scenario s.most s.store.history.entries s.store.stored.items)) s.net.traffic c.args.site c.self.invariant.stands.net)

pub returns-in-None : goal.returns-in-None
returns-in-None c =
    let s = c.self.inside in
    subst (λ (l : List Mark). None ≡ find (λ q. q.to == c.args.site) (pending (scenario_of l) (entries_of l))) c.self.view_is
    (c.in-None.ensures
    ∙ least_shown s.scenario (entries_of (marks_from s.scenario s.most s.store.history.entries s.store.stored.items)) s.net.traffic c.args.site c.self.invariant.stands.net)
