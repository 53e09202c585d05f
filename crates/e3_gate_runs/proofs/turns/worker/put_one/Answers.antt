use Rattle.std.proofs.Common.{◌∙◌}
use Rattle.e3_gate_runs.proofs.Local.{local, has_one, grew_one, marks_after, marks_of-grown}
use Rattle.e3_gate_runs.proofs.turns.worker.put_one.Goals as goal

pub push-requires : goal.push-requires
push-requires g c = local _ _ _ _ _ (has_one _ _ c.requires.owner.0) c.take-journal.ensures.grew c.requires.number

pub put-requires-clause-grew : goal.put-requires-clause-grew
put-requires-clause-grew g c = grew_one c.push.result _ c.args.mark _ _ _ _ (c.take-journal.ensures.same.owners ∙ c.requires.owner.0) c.take-journal.ensures.seen c.push.ensures

pub returns-clause-marks : goal.returns-clause-marks
returns-clause-marks g c = marks_after c.push.result _ c.args.mark _ _ _ _ c.is_ok-stands.ensures.value c.push.ensures (marks_of-grown _ _ _ _ _ (has_one _ _ c.requires.owner.0) c.take-journal.ensures.grew) c.put.ensures.seen
