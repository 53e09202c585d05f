use Rattle.std.proofs.Common.{◌≡◌, ◌+◌, ◌<◌, ◌∙◌, ap, sym, subst, arith, length}
use Rattle.std.specs.Prelude.{slice_index_or}
use Rattle.e3_gate_runs.specs.Marks.{marks_of, numbered}
use Rattle.e3_gate_runs.specs.Workers.{gathered, seen_of}
use Rattle.e3_gate_runs.proofs.Dealing.{gathered_all}
use Rattle.e3_gate_runs.proofs.turns.crew.run.Goals as goal

pub work_all-requires-clause-ready : goal.work_all-requires-clause-ready
work_all-requires-clause-ready g c κs lives k d lt =
    let z = c.deal.ensures.dealt k d (omega (arith, lt, c.deal.auto.workers)) in
    (z.pass, ap (marks_of (slice_index_or c.deal.new.workers k d).owner) z.none)

pub gather-requires-clause-workers : goal.gather-requires-clause-workers
gather-requires-clause-workers g c i d lt =
    let l : i < length c.args.workers.now = omega (arith, lt, c.deal.auto.workers, c.work_all.auto.workers) in
    let z = c.deal.ensures.dealt i d l in
    let w = c.work_all.ensures i d (omega (arith, l, c.deal.auto.workers)) in
    (w.0, w.1 ∙ z.owner ∙ c.requires.numbered i d l)

pub close-requires-clause-all : goal.close-requires-clause-all
close-requires-clause-all g c = gathered_all (length c.args.workers.now) _ _ (c.gather.ensures.owners.0 ∙ ap (λ n. gathered n n) (c.work_all.auto.workers ∙ c.deal.auto.workers)) (c.gather.ensures.owners.1 ∙ c.deal.ensures.owners.1 ∙ c.in_ok-lock.ensures.owners.1)

pub returns-clause-marks : goal.returns-clause-marks
returns-clause-marks g c i d lt =
    let l1 : i < length c.deal.new.workers = omega (arith, lt, c.deal.auto.workers) in
    let l2 : i < length c.work_all.new.workers = omega (arith, l1, c.work_all.auto.workers) in
    let z = c.deal.ensures.dealt i d lt in
    let w = c.work_all.ensures i d l1 in
    let owner = z.owner ∙ c.requires.numbered i d lt in
    let marks = w.3 in (
      marks.0,
      ap (marks_of (i + 1)) (c.into_marks.ensures.same ∙ c.close.ensures) ∙ c.gather.ensures.marks i d l2 ∙ subst (λ o. marks_of o (seen_of (slice_index_or c.work_all.new.workers i d)) ≡ numbered o 0 marks.0) owner marks.1,
      λ done. marks.2 (sym (c.gather.ensures.same i d l2) ∙ done) ∙ z.count,
    )
