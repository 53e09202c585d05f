use Rattle.std.proofs.Common.{◌+◌, ℕ, List, take, drop, ap, ◌∙◌, arith, rules}
use Rattle.std.specs.Int.{w32, to_be_bytes}
use Rattle.e3_log.specs.Regions.{window}
use Rattle.e3_log.proofs.Looking.{not_err, looks_both, looks_ok}
use Rattle.e3_log.proofs.Reading.{HeadRead, head_short, head_long, head_sized}
use Rattle.e3_log.proofs.open.read_head.Goals as goal

pub returns-then-span-at-lt5-clause-head : goal.returns-then-span-at-lt5-clause-head
returns-then-span-at-lt5-clause-head g c = head_short _ _ _ _ c.requires.may.inside (c.in_ok-is_open.ensures.gate.0 (search rules)) (search rules)

pub returns-then-span-at-clause-head : goal.returns-then-span-at-clause-head
returns-then-span-at-clause-head g c =
    let span = c.args.spot.span in
    let content = g.D.Disk.meaning.content c.args.disk.now in
    let head : HeadRead span.from span.count c.args.spot.at c.from-size.result content = record {
      inside = c.requires.may.inside;
      gate = c.in_ok-is_open.ensures.gate.0 (search rules);
      size = ap (to_be_bytes w32) c.from-size.ensures ∙ c.in_ok-read_size.ensures.size
          ∙ ap (λ (l : List ℕ). take 4 (drop (c.args.spot.at + 1) (window span.from span.count l))) (c.in_ok-is_open.ensures.looks.same not_err);
      below = omega arith;
    } in
    head_long _ _ _ _ _ head (search rules)

pub returns-clause-head : goal.returns-clause-head
returns-clause-head g c =
    let span = c.args.spot.span in
    let content = g.D.Disk.meaning.content c.args.disk.now in
    let head : HeadRead span.from span.count c.args.spot.at c.from-size.result content = record {
      inside = c.requires.may.inside;
      gate = c.in_ok-is_open.ensures.gate.0 (search rules);
      size = ap (to_be_bytes w32) c.from-size.ensures ∙ c.in_ok-read_size.ensures.size
          ∙ ap (λ (l : List ℕ). take 4 (drop (c.args.spot.at + 1) (window span.from span.count l))) (c.in_ok-is_open.ensures.looks.same not_err);
      below = omega arith;
    } in
    head_sized _ _ _ _ _ head (search rules) (search rules)

pub returns-then-not-branch-clause-looks : goal.returns-then-not-branch-clause-looks
returns-then-not-branch-clause-looks g c = looks_ok c.in_ok-is_open.ensures.looks

pub returns-then-span-at-lt5-clause-looks : goal.returns-then-span-at-lt5-clause-looks
returns-then-span-at-lt5-clause-looks g c = looks_ok c.in_ok-is_open.ensures.looks

pub returns-then-span-at-clause-looks : goal.returns-then-span-at-clause-looks
returns-then-span-at-clause-looks g c = looks_both c.in_ok-is_open.ensures.looks c.in_ok-read_size.ensures.looks

pub returns-clause-looks : goal.returns-clause-looks
returns-clause-looks g c = looks_both c.in_ok-is_open.ensures.looks c.in_ok-read_size.ensures.looks
