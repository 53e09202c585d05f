use Rattle.std.proofs.Common.{◌≡◌, ◌≤◌, ◌++◌, List, length, min, take, ap, subst, ◌∙◌, arith}
use Rattle.std.proofs.lemmas.List.{length-take}
use Rattle.e3_laws.specs.local.Least.{queue_to}
use Rattle.e3_net.specs.declared.waiting.Waiting.{Waiting}
use Rattle.e3_net.specs.Traffic.{queue_in}
use Rattle.e3_types.specs.declared.messages.Packet.{Packet}
use Rattle.e3_wire.specs.declared.marks.Mark.{Mark}
use Rattle.e3_wire.specs.Marks.{entries_of, most_of, places_for, scenario_of, used_of}
use Rattle.e3_wire.proofs.shared.Shared.next_few.Goals as goal

pub returns-clause-ok : goal.returns-clause-ok
returns-clause-ok c = (
  c.in_ok-few.ensures
      ∙ ap (λ (ws : List Waiting). take c.min-most.result (queue_in c.args.site ws)) c.self.invariant.stands.net.waiting
      ∙ ap (λ (l : List Mark). take c.min-most.result (queue_to (scenario_of l) (entries_of l) c.args.site)) c.self.view_is
      ∙ ap (λ n. take n (queue_to (scenario_of c.args.self.now) (entries_of c.args.self.now) c.args.site))
      (c.min-most.ensures ∙ ap (min c.args.most) c.places_left.ensures),
  c.in_ok-promise_places.ensures.ok ∙ ap (λ n. c.args.self.now ++ places_for c.args.site n) c.len.ensures,
)

pub promise_places-requires-clause-few : goal.promise_places-requires-clause-few
promise_places-requires-clause-few c =
    let now = c.args.self.now in
    let within : used_of now ≤ most_of now = subst (λ (l : List Mark). used_of l ≤ most_of l) c.self.view_is c.self.invariant.stands.played.within in
    let long : length c.in_ok-few.few ≡ min c.min-most.result (length (queue_in c.args.site c.self.inside.net.traffic.waiting)) =
    ap (λ (ps : List Packet). length ps) c.in_ok-few.ensures ∙ length-take c.min-most.result (queue_in c.args.site c.self.inside.net.traffic.waiting) in
    omega (arith, within, long, c.len.ensures, c.min-most.ensures, c.places_left.ensures)
