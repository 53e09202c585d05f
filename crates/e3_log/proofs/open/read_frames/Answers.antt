use Rattle.std.proofs.Common.{◌≡◌, ◌+◌, ◌∷◌, [], ◌++◌, ℕ, List, length, sym, ap, ◌∙◌, subst, arith, rules}
use Rattle.std.proofs.lemmas.List.{map_push}
use Rattle.e3_log.specs.declared.open.Frame.{Frame}
use Rattle.e3_log.specs.Frames.{frames}
use Rattle.e3_log.specs.Opening.{FrameAt}
use Rattle.e3_log.specs.Found.{bodies_of, frames_from}
use Rattle.e3_log.specs.Regions.{window}
use Rattle.e3_log.proofs.Append.{next_parts, fits_push, new_end, places_push}
use Rattle.e3_log.proofs.Numbers.{keeps_chain}
use Rattle.e3_log.proofs.Windows.{window_full}
use Rattle.e3_log.proofs.open.read_frames.Goals as goal

pub reading-preserved : goal.reading-preserved
reading-preserved g c =
    let content = g.D.Disk.meaning.content c.args.disk.now in
    let w = window c.args.span.from c.args.span.count content in
    let full : length w ≡ c.args.span.count = window_full c.args.span.from c.args.span.count content c.requires.inside in
    let inv = c.reading.invariant in
    let body = c.in-Some.body in
    let old = bodies_of c.reading.frames in
    let here = rw c.in-Some.is at c.in_ok-body.ensures.next in
    let next : FrameAt w c.reading.at body = subst (λ (d : List ℕ). FrameAt (window c.args.span.from c.args.span.count d) c.reading.at body) inv.same here in
    let len : c.len.result ≡ length body = omega arith in
    let found : Frame = record { place = c.args.span.from + c.reading.at + 5; body = body } in
    let pushed : c.push.new.self ≡ c.reading.frames ++ found ∷ [] = c.in_ok-push.ensures.ok in
    let bodies : bodies_of c.push.new.self ≡ old ++ body ∷ [] = rw pushed (map_push _ c.reading.frames _) in
    let place : c.args.span.from + c.reading.at + 5 ≡ c.args.span.from + length (frames old) + 5 = omega (arith, inv.place) in
    record {
      parts = rw (bodies, len) (next_parts w old body c.reading.at inv.parts next);
      fits = rw bodies (fits_push old body inv.fits next.fits);
      place = rw (bodies, len) (new_end old body c.reading.at inv.place);
      within = omega (arith, next.within, full);
      same = search rules;
      images = λ image at. inv.images image (c.in_ok-body.ensures.looks.images image at);
      places = pushed ∙ ap (λ (fs : List Frame). fs ++ found ∷ []) inv.places
          ∙ ap (λ (p : ℕ). frames_from c.args.span.from old ++ (record { place = p; body = body }) ∷ []) place
          ∙ sym (places_push c.args.span.from old body) ∙ ap (λ (bs : List (List ℕ)). frames_from c.args.span.from bs) (sym bodies);
      powered = search rules;
      calls = search rules;
      stops = search rules;
      keeps = keeps_chain _ _ _ inv.keeps inv.stops inv.calls c.in_ok-body.ensures.looks.keeps;
    }
