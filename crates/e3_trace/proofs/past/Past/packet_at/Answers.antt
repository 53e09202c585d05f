use Rattle.std.proofs.Common.{None, Some, ap, sym, ◌∙◌}
use Rattle.std.specs.Prelude.{option_copied}
use Rattle.e3_trace.specs.Past.{sent_at}
use Rattle.e3_trace.proofs.Standing.{found_sent}
use Rattle.e3_trace.proofs.past.Past.packet_at.Goals as goal

pub returns-in-None : goal.returns-in-None
returns-in-None c =
    found_sent c.self.inside.entries.entries c.self.inside.places.entries c.args.number None c.self.invariant
    (ap option_copied (sym c.in-None.is) ∙ c.get.ensures.value)
    ∙ ap (λ h. sent_at h c.args.number) c.self.view_is

pub returns-in-Some : goal.returns-in-Some
returns-in-Some c =
    c.standing.ensures
    ∙ found_sent c.self.inside.entries.entries c.self.inside.places.entries c.args.number (Some c.in-Some.place.now) c.self.invariant
    (ap option_copied (sym c.in-Some.is) ∙ c.get.ensures.value)
    ∙ ap (λ h. sent_at h c.args.number) c.self.view_is
