use Rattle.std.proofs.Common.{◌+◌, List, ℕ, take, drop, length, refl, ap, ◌∙◌}
use Rattle.e3_log.specs.Fronts.{told_by}
use Rattle.e3_log.specs.Opening.{FrameAt}
use Rattle.e3_log.specs.Regions.{window}
use Rattle.e3_log.proofs.Looking.{not_err, looks_both, looks_ok}
use Rattle.e3_log.proofs.open.read_front.Goals as goal

pub returns-in_ok-told-in-Whole-clause-front : goal.returns-in_ok-told-in-Whole-clause-front
returns-in_ok-told-in-Whole-clause-front g c =
    let span = c.args.span in
    let w = window span.from span.count (g.D.Disk.meaning.content c.args.disk.now) in
    let n = c.in-Whole.size in
    let sized = rw c.in-Whole.is at c.in_ok-read_head.ensures.head in
    let body : List ℕ = take n (drop 5 w) in
    let f : FrameAt w 0 body = sized.frame_is body refl in
    record {
      body = body;
      rest = drop (5 + length body) w;
      parts = f.parts;
      fits = f.fits;
      tells = c.in_ok-told-in-Whole.ensures.told ∙ ap (λ (l : List ℕ). told_by (take n (drop 5 (window span.from span.count l)))) (c.in_ok-read_head.ensures.looks.same not_err);
    }

pub returns-in-Shut-clause-looks : goal.returns-in-Shut-clause-looks
returns-in-Shut-clause-looks g c = looks_ok c.in_ok-read_head.ensures.looks

pub returns-in-Broken-clause-looks : goal.returns-in-Broken-clause-looks
returns-in-Broken-clause-looks g c = looks_ok c.in_ok-read_head.ensures.looks

pub returns-in_ok-told-in-Whole-clause-looks : goal.returns-in_ok-told-in-Whole-clause-looks
returns-in_ok-told-in-Whole-clause-looks g c = looks_both c.in_ok-read_head.ensures.looks c.in_ok-told-in-Whole.ensures.looks
