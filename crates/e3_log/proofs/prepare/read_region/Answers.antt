use Rattle.std.proofs.Common.{◌≡◌, ◌+◌, ℕ, List, sym, ap, ◌∙◌, subst, arith}
use Rattle.e3_log.specs.declared.prepare.Held.{Held}
use Rattle.e3_log.specs.declared.region.Front.{Front}
use Rattle.e3_log.specs.declared.region.Region.{Region}
use Rattle.e3_log.specs.Found.{IsRaw, IsHeld, ReadsTo, handed_frames}
use Rattle.e3_log.specs.Fronts.{own_of, is_open}
use Rattle.e3_log.specs.Regions.{other, piece, start, window}
use Rattle.e3_log.proofs.Pieces.{limit_low}
use Rattle.e3_log.proofs.Regained.{raw_read, held_read, end_read}
use Rattle.e3_log.proofs.prepare.read_region.Goals as goal

pub hand_out-requires-clause-raw : goal.hand_out-requires-clause-raw
hand_out-requires-clause-raw g c =
    let content = g.D.Disk.meaning.content c.args.disk.now in
    let at = start c.args.capacity c.args.region in
    let found = c.in_ok-found.found in
    let end = c.in_ok-found.end in
    let read : ReadsTo at (piece c.args.capacity c.args.region content) found end =
    subst (λ (l : List ℕ). ReadsTo at l found end) (c.span_of.ensures.bytes content (sym c.requires.holds.len_is))
    (subst (λ (k : ℕ). ReadsTo k (window c.span_of.result.from c.span_of.result.count content) found end) c.span_of.ensures.from c.in_ok-found.ensures.frames) in
    subst (λ (k : ℕ). IsRaw k c.own_of.result found) (sym c.start-start.ensures)
    (subst (λ (f : Front). IsRaw at f found) (sym c.own_of.ensures)
    (raw_read c.args.capacity content c.args.region c.args.fronts.0 c.args.fronts.1 found end c.requires.fronts read))

pub overflow_add-result : goal.overflow_add-result
overflow_add-result g c =
    let content = g.D.Disk.meaning.content c.args.disk.now in
    let at = start c.args.capacity c.args.region in
    let found = c.in_ok-found.found in
    let end = c.in_ok-found.end in
    let read : ReadsTo at (piece c.args.capacity c.args.region content) found end =
    subst (λ (l : List ℕ). ReadsTo at l found end) (c.span_of.ensures.bytes content (sym c.requires.holds.len_is))
    (subst (λ (k : ℕ). ReadsTo k (window c.span_of.result.from c.span_of.result.count content) found end) c.span_of.ensures.from c.in_ok-found.ensures.frames) in
    let bound = end_read c.args.capacity content c.args.region c.args.fronts.0 c.args.fronts.1 found end c.requires.fronts read in
    let low = limit_low c.args.capacity c.args.region in
    omega (arith, bound.0, low, c.start-start.ensures, c.requires.holds.most)

pub returns-clause-held : goal.returns-clause-held
returns-clause-held g c =
    let content = g.D.Disk.meaning.content c.args.disk.now in
    let at = start c.args.capacity c.args.region in
    let found = c.in_ok-found.found in
    let end = c.in_ok-found.end in
    let read : ReadsTo at (piece c.args.capacity c.args.region content) found end =
    subst (λ (l : List ℕ). ReadsTo at l found end) (c.span_of.ensures.bytes content (sym c.requires.holds.len_is))
    (subst (λ (k : ℕ). ReadsTo k (window c.span_of.result.from c.span_of.result.count content) found end) c.span_of.ensures.from c.in_ok-found.ensures.frames) in
    let handed : handed_frames found ≡ c.in_ok-frames.frames = sym c.in_ok-frames.ensures in
    let begins : at ≡ c.start-start.result = sym c.start-start.ensures in
    let spare : is_open (own_of (other c.args.region) c.args.fronts.0 c.args.fronts.1) ≡ c.is_open.result =
    sym (c.is_open.ensures ∙ ap is_open (c.own_of-2.ensures ∙ ap (λ (r : Region). own_of r c.args.fronts.0 c.args.fronts.1) c.other.ensures)) in
    let held = held_read c.args.capacity content c.args.region c.args.generation c.args.fronts.0 c.args.fronts.1 found end c.requires.fronts c.requires.found read in
    subst (λ (h : Held). IsHeld c.args.capacity content h)
    (λ i. record { region = c.args.region; generation = c.args.generation; frames = handed i; end = begins i + end; spare_open = spare i }) held

pub returns-clause-end : goal.returns-clause-end
returns-clause-end g c =
    let content = g.D.Disk.meaning.content c.args.disk.now in
    let at = start c.args.capacity c.args.region in
    let found = c.in_ok-found.found in
    let end = c.in_ok-found.end in
    let read : ReadsTo at (piece c.args.capacity c.args.region content) found end =
    subst (λ (l : List ℕ). ReadsTo at l found end) (c.span_of.ensures.bytes content (sym c.requires.holds.len_is))
    (subst (λ (k : ℕ). ReadsTo k (window c.span_of.result.from c.span_of.result.count content) found end) c.span_of.ensures.from c.in_ok-found.ensures.frames) in
    let bound = end_read c.args.capacity content c.args.region c.args.fronts.0 c.args.fronts.1 found end c.requires.fronts read in
    (omega (arith, bound.0, c.start-start.ensures), omega (arith, bound.1, c.start-start.ensures), omega (arith, c.start-start.ensures))
