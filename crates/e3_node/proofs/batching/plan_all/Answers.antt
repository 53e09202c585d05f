use Rattle.std.proofs.Common.{◌≤◌, ◌+◌, ℕ, List, length, take, refl, sym, subst, arith}
use Rattle.e3_site.specs.StandsAlike.{IsLogInOrder, StandsAlike}
use Rattle.e3_node.specs.Batches.{stepped}
use Rattle.e3_node.specs.Briefing.{BriefsAreTold}
use Rattle.e3_turn.specs.Passes.{last_of, owners_of, seen_by}
use Rattle.e3_types.specs.declared.entries.Entry.{Entry}
use Rattle.e3_types.specs.declared.scenarios.Scenario.{Scenario}
use Rattle.e3_wire.specs.Marks.{entries_of, last_owner, most_of, note_of, scenario_of, used_of}
use Rattle.e3_wire.specs.declared.marks.Mark.{Mark}
use Rattle.e3_wire.proofs.Claiming.{owner_on}
use Rattle.e3_world.specs.Moves.{log_of}
use Rattle.e3_node.proofs.Planning.{claims_grew, freed_same, no_batch, places_taken, planned, stands_taken}
use Rattle.e3_node.proofs.Several.{counted_freed, left_freed, owners_freed}
use Rattle.e3_node.proofs.batching.plan_all.Goals as goal

pub free-requires : goal.free-requires
free-requires g c =
    let marks = c.take-shared.result in
    let many : length c.args.inputs.now ≤ (note_of c.args.number marks).places =
    places_taken c.args.pass.now c.args.number (length c.args.inputs.now) marks c.requires.owns c.take-shared.ensures.grew c.requires.places in
    let some : 1 ≤ length c.args.inputs.now = c.requires.some in
    record {
      exists = owner_on (last_of c.args.pass.now) (owners_of c.args.pass.now) (seen_by c.args.pass.now) marks c.args.number c.take-shared.ensures.grew c.requires.exists;
      place = omega (arith, many, some);
    }

pub add_all-added-requires : goal.add_all-added-requires
add_all-added-requires g c = λ lives live.
    let marks = c.take-shared.result in
    let freed = c.free.new.self in
    let exists = owner_on (last_of c.args.pass.now) (owners_of c.args.pass.now) (seen_by c.args.pass.now) marks c.args.number c.take-shared.ensures.grew c.requires.exists in
    let many = places_taken c.args.pass.now c.args.number (length c.args.inputs.now) marks c.requires.owns c.take-shared.ensures.grew c.requires.places in
    let stands = stands_taken c.args.pass.now c.args.number c.args.rose.now marks c.args.site.now c.requires.owns c.take-shared.ensures.grew c.requires.played c.take-shared.ensures.played c.requires.stands in
    let left = left_freed marks c.args.number (length c.args.inputs.now) c.take-shared.ensures.played exists many in
    let F : Scenario → List Entry → Type 0 = λ sc h. length h + length c.args.inputs.now ≤ 4000000000 in
    let P : List Mark → Type 0 = λ l. c.args.number ≤ last_owner l in
    let Q : List Mark → Type 0 = λ l. used_of l + length c.args.inputs.now ≤ most_of l in
    let R : Scenario → List Entry → Type 0 = λ sc h. StandsAlike sc h c.args.number c.args.rose.now c.args.site.now in
    let O : Scenario → List Entry → Type 0 = λ sc h. (n : ℕ) → n ≤ length c.args.inputs.now →
    IsLogInOrder c.args.number (log_of sc (stepped sc h c.args.number (take n c.args.inputs.now)) c.args.number) in
    let B : Scenario → List Entry → Type 0 = λ sc h. (n : ℕ) → n ≤ length c.args.inputs.now →
    BriefsAreTold sc (stepped sc h c.args.number (take n c.args.inputs.now)) c.args.number c.args.rose.now in (
      live,
      (
        subst P (sym c.free.ensures) (subst (λ (n : ℕ). c.args.number ≤ n) (sym (owners_freed marks c.args.number)) exists),
        (
          refl,
          (
            no_batch g.D.Disk.meaning.meters c.args.log.now (scenario_of freed) (entries_of freed) c.args.number c.args.rose.now freed c.args.batch.now c.args.site.now
                (freed_same marks freed c.args.number c.take-shared.ensures.played c.free.ensures R stands) c.requires.empty.0 c.requires.empty.1 c.requires.empty.2 c.requires.empty.3,
            (
              c.requires.sound,
              (
                freed_same marks freed c.args.number c.take-shared.ensures.played c.free.ensures O (c.requires.orders marks c.take-shared.ensures.grew c.take-shared.ensures.played),
                (
                  freed_same marks freed c.args.number c.take-shared.ensures.played c.free.ensures B (c.requires.briefs marks c.take-shared.ensures.grew c.take-shared.ensures.played),
                  (
                    subst Q (sym c.free.ensures) left,
                    freed_same marks freed c.args.number c.take-shared.ensures.played c.free.ensures F (counted_freed marks c.args.number (length c.args.inputs.now) c.take-shared.ensures.played exists many),
                  ),
                ),
              ),
            ),
          ),
        ),
      ),
    )

pub put-requires-clause-grew : goal.put-requires-clause-grew
put-requires-clause-grew g c =
    let marks = c.take-shared.result in
    claims_grew g.D.Disk.meaning.meters c.args.log.now c.args.pass.now c.take-shared.new.pass c.args.number c.args.rose.now c.args.site.now.inputs c.args.inputs.now c.add_all-added.result c.add_all-added.new.batch c.add_all-added.new.site
    marks c.free.new.self c.add_all-added.new.shared c.requires.owns c.take-shared.ensures.same c.take-shared.ensures.seen c.free.ensures
    c.add_all-added.ensures.added

pub returns-clause-planned : goal.returns-clause-planned
returns-clause-planned g c =
    let marks = c.take-shared.result in
    planned g.D.Disk.meaning.meters c.args.log.now c.args.pass.now c.args.number c.args.rose.now c.args.site.now.inputs c.args.inputs.now c.add_all-added.result c.add_all-added.new.batch c.add_all-added.new.site marks c.free.new.self
    c.add_all-added.new.shared (seen_by c.put.new.pass) c.take-shared.ensures.grew c.take-shared.ensures.played c.free.ensures c.put.ensures.seen
    c.add_all-added.ensures.added
